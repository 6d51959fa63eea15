-- What the disks stand for with which the next run begins.
use Rattle.std.proofs.Common.{◌≡◌, ℕ, ◌<◌, ◌^◌, List, Option, length, sym, subst}
use Rattle.ficus_disk.specs.declared.pair.Pair.{Pair}
use Rattle.ficus_ids.specs.Members.{IsCount, IsMember}
use Rattle.ficus_keeper.specs.Kept.{Kept, found_in}
use Rattle.ficus_keeper.specs.Pairs.{PairLeft}
use Rattle.ficus_model.specs.Lawful.{IsLawful, Volume}
use Rattle.ficus_runs.specs.ModelWorld.{ModelWorld, Standing}
use Rattle.ficus_runs.specs.Numbered.{IsNumbered}
use Rattle.ficus_runs.proofs.Numbers.{number_exists}
use Rattle.ficus_top.specs.Summary.Keeper.{kept_in}
use Rattle.ficus_loop.specs.Crashes.{CrashesKeep}
use Rattle.ficus_opening.specs.Opening.{StandsOn}
use Rattle.ficus_world.specs.Stand.{DisksOutlast, DisksStand, KeepsFor}
use Rattle.ficus_opening.specs.Stand.{KeepsOf}
use Rattle.ficus_top.specs.Ends.{AllUp}

module _ {D : Type 0} (seen : D → List ℕ) (volume : Volume) (after : ModelWorld) where
  -- what is found of a member that is up is what it has saved
  found_up : (standings : length after.standings ≡ volume.members) → AllUp after → (found : Option Kept) (r : ℕ)
      → IsMember volume.members r
      → ((standing : Standing) → IsNumbered after.standings r standing
      → KeepsFor volume after.events r found standing) → KeepsOf volume after.events r found
  found_up standings up found r member keeps =
      let standing = number_exists after.standings r (subst (λ n. IsMember n r) (sym standings) member) in
      subst (λ (s : Standing). KeepsFor volume after.events r found s) (up r standing.0 standing.1)
      (keeps standing.0 standing.1)

  pub stands_next : (disks : List (Pair D)) → IsCount volume.members → IsLawful volume after.events
      → length after.events < 2 ^ 62 → length after.standings ≡ volume.members → AllUp after
      → DisksStand kept_in seen volume after disks → StandsOn kept_in seen volume after.events disks
  stands_next disks count lawful few standings up stand = record {
    count = count;
    lawful = lawful;
    few = few;
    keeps = record {
      each = λ r pair at member.
          found_up standings up (found_in kept_in seen pair) r member (λ standing stood.
          stand.each r pair standing at stood);
    };
  }

module _ {D : Type 0} (seen : D → List ℕ) (may_leave : D → List ℕ → Type 0) (volume : Volume) (after : ModelWorld) where
  pub stands_left : (disks left : List (Pair D)) → IsCount volume.members → IsLawful volume after.events
      → length after.events < 2 ^ 62 → length after.standings ≡ volume.members → AllUp after
      → DisksOutlast kept_in may_leave volume after disks → length left ≡ length disks
      → ((r : ℕ) (was now : Pair D) → IsNumbered disks r was → IsNumbered left r now
      → PairLeft seen may_leave was now) → StandsOn kept_in seen volume after.events left
  stands_left disks left count lawful few standings up outlast same leaves =
      stands_next seen volume after left count lawful few standings up (record {
        each = λ r pair standing at stood.
            let was = number_exists disks r (subst (λ n. IsMember n r) same at.member) in
            let crash = leaves r was.0 pair was.1 at in
            outlast.each r was.0 standing was.1 stood (seen pair.a) (seen pair.b) crash.a crash.b;
      })

  pub crashes_keep : (disks : List (Pair D)) → length after.standings ≡ volume.members → AllUp after
      → DisksOutlast kept_in may_leave volume after disks → CrashesKeep kept_in may_leave volume after.events disks
  crashes_keep disks standings up outlast = record {
    each = λ r pair at member a b left_a left_b.
        found_up seen volume after standings up (kept_in a b) r member
        (λ standing stood. outlast.each r pair standing at stood a b left_a left_b);
  }
