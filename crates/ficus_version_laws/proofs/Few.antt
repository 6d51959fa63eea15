-- Of a file at most as many versions are shown as there are members.
use Rattle.std.proofs.Common.{◌≡◌, ◌≢◌, ℕ, ◌+◌, ◌-◌, ◌<◌, ◌≤◌, List, length, arith, subst}
use Rattle.std.specs.Prelude.{AllPairs, Contains}
use Rattle.ficus_ids.specs.declared.id.Id.{Id}
use Rattle.ficus_model.specs.declared.event.Event.{Event}
use Rattle.ficus_model.specs.Events.{IsOf}
use Rattle.ficus_model.specs.Lawful.{Volume, IsLawful}
use Rattle.ficus_model.specs.Versions.{IsShown}
use Rattle.ficus_laws.proofs.Positions.{of_same}
use Rattle.ficus_version_laws.proofs.Comparing.{writer, writer_member}
use Rattle.ficus_version_laws.proofs.Latest.{shown_once}
use Rattle.ficus_version_laws.proofs.Pigeonhole.{at_most_marks}

module _ (volume : Volume) (H : List Event) (lawful : IsLawful volume H) (U : ℕ → Type 0) (file : Id) where
  -- the member after this number has written the shown version
  record IsBy (position mark : ℕ) : Type 0 where
    shown : IsShown H U file position
    own : IsOf H position (mark + 1)

  written : {position : ℕ} → IsShown H U file position → (mark : ℕ) × (mark < volume.members) × IsBy position mark
  written {position} s =
      let v = s.version in
      let m = writer_member volume H lawful v in (
        v.number.replica - 1,
        omega (arith, m.at_least, m.at_most),
        record { shown = s; own = subst (λ by. IsOf H position by) (omega (arith, m.at_least)) (writer v) },
      )

  one : (position mark again : ℕ) → IsBy position mark → IsBy position again → mark ≡ again
  one position mark again a b = let e = of_same a.own b.own in omega arith

  pub few_shown : (positions : List ℕ) → ((position : ℕ) → Contains positions position → IsShown H U file position) →
      AllPairs (λ position other. position ≢ other) positions → length positions ≤ volume.members
  few_shown positions shown apart =
      at_most_marks IsBy one volume.members positions
      (λ position inside. written (shown position inside))
      (λ i j d l m mark a b. apart i j d l m (shown_once a.shown b.shown a.own b.own))
