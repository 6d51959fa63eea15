-- Of disks with nothing unsynced a crash leaves what a read gives.
use Rattle.std.proofs.Common.{◌≡◌, ℕ, List, Option, ap, ◌∙◌}
use Rattle.ficus_disk.specs.declared.pair.Pair.{Pair}
use Rattle.ficus_keeper.specs.Kept.{Kept}
use Rattle.ficus_model.specs.declared.event.Event.{Event}
use Rattle.ficus_model.specs.Lawful.{Volume}
use Rattle.ficus_stable_storage.proofs.leads.Led.{held_at}
use Rattle.ficus_opening.specs.Opening.{AreSynced, StandsOn}
use Rattle.ficus_loop.specs.Crashes.{CrashesKeep}

pub synced_crashes_keep : {D : Type 0} (kept : List ℕ → List ℕ → Option Kept) (seen : D → List ℕ)
    (may_leave : D → List ℕ → Type 0) (volume : Volume) (H : List Event) (disks : List (Pair D))
    → StandsOn kept seen volume H disks → AreSynced seen may_leave disks volume.members
    → CrashesKeep kept may_leave volume H disks
synced_crashes_keep kept seen may_leave volume H disks stands synced = record {
  each = λ r pair at member a b left_a left_b.
      let clean = synced.each r pair at member.at_most in
      let held = stands.keeps.each r pair at member in
      record {
        saved = held.saved;
        is = held.is;
        fits = held.fits;
        holds = held_at _ _ held.saved
            (ap (λ (c : List ℕ). kept c b) (clean.a a left_a)
            ∙ ap (λ (c : List ℕ). kept (seen pair.a) c) (clean.b b left_b))
            held.holds;
      };
}
