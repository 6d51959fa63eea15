-- What it means that the world of one member is opened, while the others of its volume are elsewhere.
use Rattle.std.specs.Prelude.{◌≡◌, ◌≢◌, ◌⊎◌, ℕ, ◌≤◌, List, [], ◌∷◌, length, take, Result, IfOk, IsErrAnd, IsErrOf, OnOk}
use Rattle.ficus_disk.specs.declared.disk.Disk.{Ghosts as Disk}
use Rattle.ficus_disk.specs.declared.pair.Pair.{Pair}
use Rattle.ficus_durable_state.specs.declared.saved.Saved.{Saved}
use Rattle.ficus_ids.specs.Members.{IsMember}
use Rattle.ficus_keeper.specs.Kept.{found_in}
use Rattle.ficus_keeper.specs.Pairs.{PairSame}
use Rattle.ficus_keeper.specs.declared.keep.Keep.{Ghosts as Keep}
use Rattle.ficus_model.specs.Lawful.{Volume}
use Rattle.ficus_model.specs.declared.event.Event.{Event}
use Rattle.ficus_model.specs.declared.event.Event.TheVariants.{Restart}
use Rattle.ficus_runs.specs.Numbered.{IsNumbered}
use Rattle.ficus_runs.specs.Start.{start}
use Rattle.ficus_stable_storage.specs.Leads.Holds.{Holds}
use Rattle.ficus_opening.specs.Alone.{IsAlone}
use Rattle.ficus_opening.specs.Check.Judged.{HoldsNoneOf, IsEmptyPair}
use Rattle.ficus_opening.specs.Disks.{are_fused}
use Rattle.ficus_opening.specs.Opening.{DisksAsked, IsStoreFault, StandsOn, fuses_in}
use Rattle.ficus_opening.specs.Rests.{PairRests}
use Rattle.ficus_opening.specs.declared.fault.WorldFault.{WorldFault}
use Rattle.ficus_opening.specs.declared.fault.WorldFault.TheVariants.{Image, Occupied}
use Rattle.ficus_opening.specs.declared.member.Member.{Member}
use Rattle.ficus_world.specs.Disks.{IsBacked}
use Rattle.ficus_world.specs.Machines.Killed.{BeginsWith}
use Rattle.ficus_world.specs.Machines.Together.{OpenedAt}
use Rattle.ficus_world.specs.World.{Backed, Whole}

-- Whatever lawful history the disks of all members stood for, wherever these are: of the worlds that stand for it with
-- the restarts, this one has member `me`.
abbrev pub StandsAlone : {K D : Type 0} → Keep K → Disk D → ℕ → List (Pair D) → Whole → Type 0
StandsAlone {K} {D} keep disk me old world =
    (volume : Volume) (H : List Event) (every : List (Pair D)) (own : Pair D)
    → StandsOn keep.kept disk.seen volume H every → length every ≡ 8 → IsMember volume.members me
    → IsNumbered every me own → IsNumbered old me own
    → OpenedAt volume (start H volume.members 0 (take volume.members (fuses_in disk.armings every))) me world

-- Whatever machine of this member was here before, and whatever a kill left of its disks: this world is the one with
-- which the next process begins.
abbrev pub BeginsAnew : {K D : Type 0} → Keep K → Disk D → ℕ → List (Pair D) → Whole → Type 0
BeginsAnew {K} {D} keep disk me old world =
    (machine : Whole) (found : Saved) (own : Pair D) → IsNumbered old me own
    → Holds (found_in keep.kept disk.seen own) found → found.members ≡ length machine.members
    → ((was : Member) → IsNumbered machine.members me was → was.fused ≡ are_fused disk.armings own)
    → BeginsWith me machine world found

-- The world of member `me` is opened, over a link of so many faults and so many bytes in all. The pairs of the others
-- are not those of the members, which are elsewhere: they hold nothing before.
pub record OpensWorldAlone {K D : Type 0} (keep : Keep K) (disk : Disk D) (me link_faults total : ℕ)
    (result : Result (Backed K) WorldFault) (old new : List (Pair D)) : Type 0 where
  pub alone : IfOk result (λ world. IsAlone me world.whole.members)
  pub events : IfOk result (λ world. world.whole.events ≡ Restart me ∷ [])
  pub post : IfOk result (λ world. world.whole.post
      ≡ record { behind = []; posts = []; total = total; faults = link_faults })
  pub backed : IfOk result (λ world. IsBacked keep disk world new)
  pub read : disk.tells → IfOk result (λ world. (member : Member) (pair : Pair D)
      → IsNumbered world.whole.members me member → IsNumbered old me pair
      → Holds (found_in keep.kept disk.seen pair) member.replica.saved)
  pub stands : disk.tells → IfOk result (λ world. StandsAlone keep disk me old world.whole)
  pub begins : disk.tells → IfOk result (λ world. BeginsAnew keep disk me old world.whole)
  -- `Image` comes exactly where the member's own disks hold nothing of its own.
  pub image : disk.tells → (r : ℕ) → IsErrOf result (Image r)
      → (r ≡ me) × ((pair : Pair D) → IsNumbered old me pair → HoldsNoneOf keep.kept disk.seen me pair)
  pub image_comes : disk.tells → ((pair : Pair D) → IsNumbered old me pair → HoldsNoneOf keep.kept disk.seen me pair)
      → IsErrAnd result (λ fault. (fault ≡ Image me) ⊎ IsStoreFault fault)
  -- `Occupied` comes exactly where another pair holds something that must hold nothing.
  pub empty : disk.tells → IfOk result (λ world. (r : ℕ) (pair : Pair D) → r ≢ me
      → r ≤ length world.whole.members → IsNumbered old r pair → IsEmptyPair disk.seen pair)
  pub occupied : disk.tells → (q : ℕ) → IsErrOf result (Occupied q) → (q ≢ me) × IsMember 8 q
      × ((pair : Pair D) → IsNumbered old q pair → IsEmptyPair disk.seen pair → ⊥)
  -- It writes no byte to the member's own disks, and a read of them gives what it gave.
  pub rests : (was now : Pair D) → IsNumbered old me was → IsNumbered new me now → PairRests disk was now
  pub same : disk.tells → (was now : Pair D) → IsNumbered old me was → IsNumbered new me now
      → PairSame disk.seen was now
  pub asked : DisksAsked disk result old new
