-- How the disks of a world stand to its members, and what a command does to them.
use Rattle.std.specs.Prelude.{◌≡◌, ◌⊎◌, ℕ, ◌-◌, ◌≤◌, Bool, List, [], ◌∷◌, length, Option, Some, Result, Ok, Err, slice_set}
use Rattle.ficus_ids.specs.declared.refusal.Refusal.{Refusal}
use Rattle.ficus_ids.specs.declared.refusal.Refusal.TheVariants as refusal
use Rattle.ficus_model.specs.declared.event.Event.{Event}
use Rattle.ficus_model.specs.declared.event.Event.TheVariants as event
use Rattle.ficus_script.specs.declared.answer.Answer.{Answer}
use Rattle.ficus_script.specs.declared.answer.Answer.TheVariants.{Done}
use Rattle.ficus_disk.specs.Pair.{PairRose}
use Rattle.ficus_disk.specs.declared.disk.Disk.{Ghosts as Disk}
use Rattle.ficus_disk.specs.declared.pair.Pair.{Pair}
use Rattle.ficus_keeper.specs.declared.keep.Keep.{Ghosts as Keep}
use Rattle.ficus_keeper.specs.declared.fault.StoreFault.{StoreFault}
use Rattle.ficus_keeper.specs.declared.fault.StoreFault.TheVariants.{Failed, Memory, NoImage}
use Rattle.ficus_keeper.specs.Pairs.{PairSame}
use Rattle.ficus_durable_state.specs.declared.saved.Saved.{Saved}
use Rattle.ficus_stable_storage.specs.Stable.{IsPrepared}
use Rattle.ficus_stable_storage.specs.declared.stable.Stable.{Stable}
use Rattle.ficus_runs.specs.Answers.{OrMemory}
use Rattle.ficus_runs.specs.Numbered.{IsNumbered}
use Rattle.ficus_runs.specs.Outcome.{Outcome, IsSaved, SaveFails, armings_in, store_failures}
use Rattle.ficus_runs.specs.Sequence.{Effect}
use Rattle.ficus_opening.specs.Disks.{AreDisksOf, ArePairsOf}
use Rattle.ficus_opening.specs.Opening.{SeenSame, Steady}
use Rattle.ficus_opening.specs.Rests.{AllRest}
use Rattle.ficus_opening.specs.declared.member.Member.{Member}
use Rattle.ficus_opening.specs.declared.member.Pending.{Pending}
use Rattle.ficus_world.specs.declared.member.Rising.{Rising}
use Rattle.ficus_world.specs.declared.member.Rising.TheVariants.{AsWas, AsPending, Neither}
use Rattle.ficus_world.specs.Fuses.{FusesFollow}
use Rattle.ficus_world.specs.Moves.{IsLike, WholeAction, restarted, still_pending}
use Rattle.ficus_world.specs.World.{Backed, IsSoundMember, Whole}
use Rattle.ficus_opening.specs.declared.member.MemberState.{MemberState}
use Rattle.ficus_opening.specs.declared.member.MemberState.TheVariants.{Up, Down}

-- disks stand under a world: there is a pair for each member, and it is its own
pub record IsBacked {K D : Type 0} (keep : Keep K) (disk : Disk D) (world : Backed K) (under : List (Pair D)) :
    Type 0 where
  pub pairs : length world.whole.members ≤ length under
  pub disks : AreDisksOf keep disk world.whole.members world.stables under

-- the count of a pair's faults rose by as many failures at least, or stands at its last value; and it was armed only
-- where a command armed it
pub record PairFollows {D : Type 0} (faults : D → ℕ) (armings : D → Option ℕ) (failures armed : ℕ) (old new : Pair D) :
    Type 0 where
  pub rose : PairRose faults failures old new
  pub unarmed : armed ≡ 0 → PairSame armings old new

-- so of each pair
pub record DisksFollow {D : Type 0} (faults : D → ℕ) (armings : D → Option ℕ) (outcomes : List Outcome)
    (old new : List (Pair D)) : Type 0 where
  pub count : length new ≡ length old
  pub each : (r : ℕ) (was now : Pair D) → IsNumbered old r was → IsNumbered new r now
      → PairFollows faults armings (store_failures r outcomes) (armings_in r outcomes) was now

-- the disks are as before: nothing is written on them, a read of each gives what it gave, and none has failed
pub record AreSpared {D : Type 0} (disk : Disk D) (old new : List (Pair D)) : Type 0 where
  pub rests : AllRest disk old new
  pub seen : disk.tells → SeenSame disk.seen old new
  pub faults : Steady disk.faults old new

-- an action on the world was carried out, by some outcomes, or memory was refused
pub record Carried {A : Type 0} (action : Result A Refusal → Effect Whole → Type 0) (result : Result A Refusal)
    (new : Whole) : Type 0 where
  pub outcomes : List Outcome
  pub does : OrMemory (λ given. action given (record { outcomes = outcomes; after = new })) result

-- the disks of the members follow these outcomes, and so do their fuses
pub record DisksComeTo {K D : Type 0} (keep : Keep K) (disk : Disk D) (outcomes : List Outcome)
    (old new : List Member) (old_disks new_disks : List (Pair D)) : Type 0 where
  pub disks : DisksFollow disk.faults disk.armings outcomes old_disks new_disks
  pub fuses : FusesFollow keep disk outcomes old new old_disks new_disks

-- an action on a world was carried out, by some outcomes, which the disks and their fuses follow, or memory was refused
pub record CarriedOn {A K D : Type 0} (keep : Keep K) (disk : Disk D) (action : WholeAction A)
    (result : Result A Refusal) (old new : Whole) (old_disks new_disks : List (Pair D)) : Type 0 where
  pub outcomes : List Outcome
  pub does : OrMemory (λ given. action old given (record { outcomes = outcomes; after = new })) result
  pub disks : DisksFollow disk.faults disk.armings outcomes old_disks new_disks
  pub fuses : OrMemory (λ given. FusesFollow keep disk outcomes old.members new.members old_disks new_disks) result

-- the world is as it was, and nothing failed
pub record StaysOn {D : Type 0} (faults : D → ℕ) (armings : D → Option ℕ) (old new : Whole)
    (old_disks new_disks : List (Pair D)) : Type 0 where
  pub same : new ≡ old
  pub disks : DisksFollow faults armings [] old_disks new_disks

-- what a member saves next is built, as an image or by the record that leads to it, and there is room for it
pub record IsPreparedAt {K D : Type 0} (wants_image : K → Bool) (Allows : K → ℕ → Type 0) (size_of : K → ℕ → ℕ)
    (disk_room : D → ℕ) (stables : List (Stable K)) (disks : List (Pair D)) (by : ℕ) (next : Saved) (noted : List ℕ)
    : Type 0 where
  pub each : (stable : Stable K) (pair : Pair D) → IsNumbered stables by stable → IsNumbered disks by pair
      → IsPrepared wants_image Allows size_of disk_room stable pair next noted

-- where it is saved, the member holds it; else it is down, and that is pending
abbrev pub IsAfterSave : {T E : Type 0} → Saved → Member → Result T E → Member → Type 0
IsAfterSave next was (Ok done) now =
    (now.replica.saved ≡ next) × (now.state ≡ Up) × (now.fused ≡ was.fused)
IsAfterSave next was (Err failed) now =
    (now.replica.saved ≡ was.replica.saved) × (now.fused ≡ was.fused)
    × (pending : Pending) × (now.state ≡ Down (Some pending)) × (pending.replica.saved ≡ next)

-- what became of a save
abbrev pub save_outcome : {T E : Type 0} → ℕ → Result T E → Outcome
save_outcome by (Ok done) = IsSaved by
save_outcome by (Err failed) = SaveFails by

-- member `by` was up, and has saved this, or failed to
pub record SavesAt {T E : Type 0} (by : ℕ) (next : Saved) (result : Result T E) (old new : List Member) : Type 0 where
  pub was : Member
  pub is : IsNumbered old by was
  pub up : was.state ≡ Up
  pub now : Member
  pub after : IsAfterSave next was result now
  pub set : new ≡ slice_set old (by - 1) now

-- What the state of a member that saves this comes to, with what was read of its disks.
abbrev pub IsStateAfter : MemberState → Saved → Saved → Rising → MemberState → Type 0
IsStateAfter was known read AsWas now = IsLike known read × (now ≡ Up)
IsStateAfter was known read (AsPending event) now =
    (pending : Pending) × (was ≡ Down (Some pending)) × (event ≡ pending.event) × IsLike pending.replica.saved read
    × (IsLike known read → ⊥) × (now ≡ Up)
IsStateAfter was known read Neither now =
    (now ≡ Down (still_pending was)) × (IsLike known read → ⊥)
    × ((pending : Pending) → was ≡ Down (Some pending) → IsLike pending.replica.saved read → ⊥)

-- What a member that was this one comes to with what was read of its disks.
abbrev pub IsRisen : Member → Saved → Rising → Member → Type 0
IsRisen was read AsWas now = IsLike was.replica.saved read × (now ≡ restarted was read)
IsRisen was read (AsPending event) now =
    (pending : Pending) × (was.state ≡ Down (Some pending)) × (event ≡ pending.event)
    × IsLike pending.replica.saved read × (now ≡ restarted was read)
IsRisen was read Neither now =
    (now ≡ record was { state = Down (still_pending was.state) }) × (IsLike was.replica.saved read → ⊥)
    × ((pending : Pending) → was.state ≡ Down (Some pending) → IsLike pending.replica.saved read → ⊥)

-- What is read of a member's disks, where they tell what they hold: what it has saved, or what is pending. There is an
-- image.
abbrev pub IsReadAt : Member → Result Saved StoreFault → Type 0
IsReadAt was (Ok read) = (read ≡ was.replica.saved) ⊎ ((pending : Pending) × (was.state ≡ Down (Some pending))
    × (read ≡ pending.replica.saved))
IsReadAt was (Err NoImage) = ⊥
IsReadAt was (Err fault) = Unit {0}

-- A member whose disks were opened again is up, with what was read; or it is down, with what was pending before; or,
-- where nothing was read, as it was.
abbrev pub IsAfterOpening : Member → Result Saved StoreFault → Member → Type 0
IsAfterOpening was (Ok read) now =
    (now ≡ restarted was read) ⊎ (now ≡ record was { state = Down (still_pending was.state) })
IsAfterOpening was (Err fault) now = (now ≡ was) ⊎ (now ≡ record was { state = Down (still_pending was.state) })

-- so member `by` is
pub record ReopensAt (by : ℕ) (result : Result Saved StoreFault) (old new : List Member) : Type 0 where
  pub was : Member
  pub is : IsNumbered old by was
  pub now : Member
  pub after : IsAfterOpening was result now
  pub set : new ≡ slice_set old (by - 1) now

-- whatever old and new members stand so to one another, disks that are those of the old are those of the new
abbrev pub DisksPass : {K D : Type 0} → Keep K → Disk D → (List Member → List Member → Type 0) → List (Stable K)
    → List (Stable K) → List (Pair D) → List (Pair D) → Type 0
DisksPass keep disk Stand old_stables new_stables old_disks new_disks =
    (old new : List Member) → Stand old new → AreDisksOf keep disk old old_stables old_disks
    → AreDisksOf keep disk new new_stables new_disks

-- disks that are those of some members are so still
abbrev pub DisksStay : {K D : Type 0} → Keep K → Disk D → List (Stable K) → List (Stable K) → List (Pair D)
    → List (Pair D) → Type 0
DisksStay keep disk = DisksPass keep disk (λ old new. new ≡ old)

-- this is a sound member of some whose pairs these are
pub record IsHeldBy {K D : Type 0} (keep : Keep K) (disk : Disk D) (count events by : ℕ) (members : List Member)
    (was : Member) (under : List (Pair D)) : Type 0 where
  pub is : IsNumbered members by was
  pub sound : IsSoundMember count events by was
  pub pairs : ArePairsOf keep disk members under

-- What a member that was this one comes to, which events are stored, and what is answered, by what was read of its
-- disks.
pub data ComesBack (by : ℕ) (was : Member) :
    Result Saved StoreFault → Result Answer Refusal → Member → List Event → Type 0 where
  BackAsWas : {read : Saved} → IsLike was.replica.saved read
      → ComesBack by was (Ok read) (Ok Done) (restarted was read) (event.Restart by ∷ [])
  BackAsPending : {read : Saved} {pending : Pending} → was.state ≡ Down (Some pending)
      → IsLike pending.replica.saved read
      → ComesBack by was (Ok read) (Ok Done) (restarted was read) (pending.event ∷ event.Restart by ∷ [])
  OfAnother : {read : Saved} → (IsLike was.replica.saved read → ⊥)
      → ((pending : Pending) → was.state ≡ Down (Some pending) → IsLike pending.replica.saved read → ⊥)
      → ComesBack by was (Ok read) (Err refusal.Image) (record was { state = Down (still_pending was.state) }) []
  NothingRead : ComesBack by was (Err NoImage) (Err refusal.Image)
      (record was { state = Down (still_pending was.state) }) []
  NotOpened : ComesBack by was (Err Failed) (Err refusal.Store)
      (record was { state = Down (still_pending was.state) }) []
  NoMemory : ComesBack by was (Err Memory) (Err refusal.Memory) was []
