-- How a run begins: the members restart.
use Rattle.std.proofs.Common.{◌≡◌, ℕ, suc, ◌+◌, ◌<◌, ◌≤◌, Bool, List, [], ◌∷◌, ◌++◌, length, Some, refl, sym, ap, subst, inl, inr, append_assoc, arith}
use Rattle.std.specs.Prelude.{All, map}
use Rattle.std.specs.List.{range_with_len}
use Rattle.std.proofs.lemmas.Bool.{cases_lt}
use Rattle.std.proofs.lemmas.List.{append-nil, length_push}
use Rattle.std.proofs.lemmas.List.FromFn.{length-range_with_len, get_or-range_with_len, map-range_with_len_more, length-map-range_with_len}
use Rattle.ficus_ids.specs.Members.{IsMember}
use Rattle.ficus_model.specs.declared.event.Event.{Event}
use Rattle.ficus_model.specs.declared.event.Event.TheVariants.{Restart, Serve}
use Rattle.ficus_model.specs.Events.{IsAt, raised}
use Rattle.ficus_model.specs.Lawful.{Volume, IsLawful}
use Rattle.ficus_laws.proofs.Lawful.{lawful_more}
use Rattle.ficus_laws.proofs.Positions.{at_end, at_more, at_same, at_within}
use Rattle.ficus_runs.specs.ModelWorld.{Down}
use Rattle.ficus_runs.specs.RunWorld.{IsRunWorld}
use Rattle.ficus_runs.specs.Start.{restarts, start}
use Rattle.ficus_runs.proofs.Up.{up_first}

pub restarts_more : (count : ℕ) → restarts (count + 1) ≡ restarts count ++ Restart (count + 1) ∷ []
restarts_more count = map-range_with_len_more (λ r. Restart r) 1 count (count + 1) (omega arith)

pub length_restarts : (count : ℕ) → length (restarts count) ≡ count
length_restarts count = length-map-range_with_len (λ r. Restart r) 1 count

-- a restart has no position that could be raised
pub restarts_raised : (by : ℕ) (members : List ℕ)
    → map (λ r. Restart r) members ≡ map (raised by) (map (λ r. Restart r) members)
restarts_raised by [] = refl
restarts_raised by (r ∷ members) = ap (λ (rest : List Event). Restart r ∷ rest) (restarts_raised by members)

-- members may restart behind a lawful history
restarts_lawful : (volume : Volume) (H : List Event) (members : List ℕ) → All (IsMember volume.members) members
    → IsLawful volume H → IsLawful volume (H ++ map (λ r. Restart r) members)
restarts_lawful volume H [] all lawful = subst (IsLawful volume) (sym (append-nil H)) lawful
restarts_lawful volume H (r ∷ members) all lawful =
    subst (IsLawful volume) (append_assoc H (Restart r ∷ []) (map (λ r. Restart r) members))
    (restarts_lawful volume (H ++ Restart r ∷ []) members (λ k d within. all (suc k) d (omega arith))
    (lawful_more volume H (Restart r) lawful (all 0 r (omega arith))))

pub start_lawful : (volume : Volume) (earlier : List Event) → IsLawful volume earlier
    → IsLawful volume (earlier ++ restarts volume.members)
start_lawful volume earlier lawful = restarts_lawful volume earlier (range_with_len 1 volume.members) member lawful
  where
    member : All (IsMember volume.members) (range_with_len 1 volume.members)
    member k d within =
        let below : k < volume.members = omega (arith, length-range_with_len 1 volume.members) in
        subst (IsMember volume.members) (sym (get_or-range_with_len 1 volume.members k d below))
        (record { at_least = omega arith; at_most = omega arith })

-- none of the restarts is a Serve
no_serve_behind : (H : List Event) (members : List ℕ) {position server ask state pieces : ℕ} → length H ≤ position
    → IsAt (H ++ map (λ r. Restart r) members) position (Serve server ask state pieces) → ⊥
no_serve_behind H [] {position} {server} {ask} {state} {pieces} from at =
    omega (
      arith,
      from,
      at_within (subst (λ K. IsAt K position (Serve server ask state pieces)) (append-nil H) at),
    )
no_serve_behind H (r ∷ members) {position} {server} {ask} {state} {pieces} from at =
    let there = subst (λ K. IsAt K position (Serve server ask state pieces))
    (sym (append_assoc H (Restart r ∷ []) (map (λ r. Restart r) members))) at in
    elim (cases_lt (length H) position) [
      | inl behind ↦
          no_serve_behind (H ++ Restart r ∷ []) members (omega (arith, behind, length_push H (Restart r))) there
      | inr within ↦
          let place : position ≡ length H = omega (arith, from, within) in
          let event = at_same (subst (λ n. IsAt ((H ++ Restart r ∷ []) ++ map (λ r. Restart r) members) n (Serve server ask state pieces)) place there)
          (at_more (map (λ r. Restart r) members) (at_end H (Restart r))) in
          absurd (cc)
    ]

-- a run begins with a world of a run
pub start_of_run : (volume : Volume) (earlier : List Event) (members total : ℕ) (fused : List Bool)
    → IsRunWorld volume (start earlier members total fused)
start_of_run volume earlier members total fused = record {
  serves = record {
    each = λ position server ask state pieces since at.
        absurd (no_serve_behind earlier (range_with_len 1 members) since at);
  };
  pending = λ r event is. absurd (let down = (up_first members).each r (Down (Some event)) is in cc);
}
