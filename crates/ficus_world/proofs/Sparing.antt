-- Disks that are as before.
use Rattle.std.proofs.Common.{◌≡◌, ℕ, ◌-◌, ◌<◌, List, Some, length, get_or, sym, ap, subst, ◌∙◌, ⊎_elim, arith}
use Rattle.std.specs.Prelude.{slice_set}
use Rattle.std.proofs.lemmas.Option.{get_or_from_slice_get}
use Rattle.ficus_disk.specs.declared.disk.Disk.{Ghosts as Disk}
use Rattle.ficus_disk.specs.declared.pair.Pair.{Pair}
use Rattle.ficus_keeper.specs.Pairs.{PairSame}
use Rattle.ficus_keeper.specs.declared.keep.Keep.{Ghosts as Keep}
use Rattle.ficus_durable_state.specs.declared.saved.Saved.{Saved}
use Rattle.ficus_runs.specs.Numbered.{IsNumbered}
use Rattle.ficus_opening.specs.declared.member.Member.{Member}
use Rattle.ficus_opening.specs.declared.member.MemberState.TheVariants.{Up, Down}
use Rattle.ficus_opening.specs.Rests.{AllRest, PairRests, RestsAt}
use Rattle.ficus_opening.proofs.Rests.{all_rest_none, all_rest_one}
use Rattle.ficus_opening.proofs.Steadies.{steady_none, steady_one}
use Rattle.ficus_world.specs.Disks.{AreSpared}
use Rattle.ficus_world.specs.Kills.{WritesAt}
use Rattle.ficus_world.specs.World.{Whole}
use Rattle.ficus_world.proofs.Disks.{set_as}

module _ {D : Type 0} (disk : Disk D) where
  -- nothing is asked of them
  pub spared_none : (disks : List (Pair D)) → AreSpared disk disks disks
  spared_none disks = record {
    rests = all_rest_none disk disks;
    seen = λ told. steady_none disk.seen disks;
    faults = steady_none disk.faults disks;
  }

  module _ (by : ℕ) (disks : List (Pair D)) (was now : Pair D) (is : IsNumbered disks by was)
      (rests : PairRests disk was now) where
    within : by - 1 < length disks
    within = omega (arith, is.member.at_least, is.member.at_most)

    found : was ≡ get_or disks (by - 1) was
    found = sym (get_or_from_slice_get disks (by - 1) was was is.is)

    -- one pair is touched, and nothing is written on it
    pub rest_set : AllRest disk disks (slice_set disks (by - 1) now)
    rest_set = all_rest_one disk disks (by - 1) was now within found rests

    -- and it is as before
    pub spared_set : (disk.tells → PairSame disk.seen was now) → PairSame disk.faults was now
        → AreSpared disk disks (slice_set disks (by - 1) now)
    spared_set same steady = record {
      rests = rest_set;
      seen = λ told. steady_one disk.seen disks (by - 1) was now within found (same told);
      faults = steady_one disk.faults disks (by - 1) was now within found steady;
    }

  pub rest_at : {by : ℕ} {old new : List (Pair D)} → RestsAt disk by old new → AllRest disk old new
  rest_at {by} {old} {new} rests =
      subst (λ (list : List (Pair D)). AllRest disk old list) (sym rests.set)
      (rest_set by old rests.was rests.now rests.is rests.rests)

-- where a member has saved, or failed to, it has changed
pub writes_change : {K D : Type 0} {keep : Keep K} {disk : Disk D} {by : ℕ} {old new : Whole} {x y : List (Pair D)}
    → WritesAt keep disk by old new x y → new.members ≡ old.members → ⊥
writes_change {by = by} {old = old} writes same =
    let stays : writes.was ≡ writes.now =
    set_as {by = by} old.members writes.now writes.was writes.is.member.at_least (sym same ∙ writes.set) writes.is in
    ⊎_elim
    (λ done.
    let saved = ap (λ (m : Member). m.replica.saved.generation) stays in
    let next = ap (λ (s : Saved). s.generation) done.0 in
    absurd (omega (arith, saved, next, writes.above)))
    (λ failed.
    let down : Up ≡ Down (Some failed.1) = sym writes.up ∙ ap (λ (m : Member). m.state) stays ∙ failed.2 in
    absurd (cc)) writes.after
