-- What it means that a volume is made on disks, and that a world is opened on them.
use Rattle.std.specs.Prelude.{◌≡◌, ◌≢◌, ◌⊎◌, ℕ, ◌^◌, ◌<◌, ◌≤◌, ◌+◌, ◌==◌, Bool, if◌then◌else◌, List, [], length, map, Option, None, Some, Result, IsErrOf, OnOk}
use Rattle.ficus_opening.specs.Check.Judged.{IsEmptyPair, MayOpen}
use Rattle.ficus_disk.specs.Crash.{Only}
use Rattle.ficus_disk.specs.Pair.{PairRose}
use Rattle.ficus_disk.specs.declared.disk.Disk.{Ghosts as Disk}
use Rattle.ficus_disk.specs.declared.fuse.Fuse.{Fuse}
use Rattle.ficus_disk.specs.declared.pair.Pair.{Pair}
use Rattle.ficus_ids.specs.Members.{IsCount, IsMember}
use Rattle.ficus_keeper.specs.Fuses.{both_unarmed, fuses_of}
use Rattle.ficus_keeper.specs.Kept.{Kept, found_in}
use Rattle.ficus_keeper.specs.Pairs.{PairSame}
use Rattle.ficus_model.specs.declared.event.Event.{Event}
use Rattle.ficus_model.specs.Lawful.{Volume, IsLawful}
use Rattle.ficus_replica.specs.SavedOf.{fresh_saved}
use Rattle.ficus_durable_state.specs.Saved.{FitsImage}
use Rattle.ficus_durable_state.specs.declared.saved.Saved.{Saved}
use Rattle.ficus_stable_storage.specs.Leads.Holds.{Holds}
use Rattle.ficus_stable_storage.specs.Holds.{HoldsOneOf}
use Rattle.ficus_runs.specs.Numbered.{IsNumbered}
use Rattle.ficus_opening.specs.declared.member.Member.{Member}
use Rattle.ficus_opening.specs.declared.member.MemberState.TheVariants.{Up}
use Rattle.ficus_opening.specs.declared.fault.WorldFault.{WorldFault}
use Rattle.ficus_opening.specs.declared.fault.WorldFault.TheVariants.{Image, Memory, Occupied, Store}
use Rattle.ficus_opening.specs.Disks.{are_fused}
use Rattle.ficus_opening.specs.Fuses.{AreUnarmed}
use Rattle.ficus_opening.specs.Rests.{AllRest, OthersRest, PairRests}
use Rattle.ficus_opening.specs.Stand.{DisksKeep}

-- the disks of the members up to this one hold nothing
pub record AreEmpty {D : Type 0} (seen : D → List ℕ) (disks : List (Pair D)) (count : ℕ) : Type 0 where
  pub each : (r : ℕ) (pair : Pair D) → IsNumbered disks r pair → r ≤ count → IsEmptyPair seen pair

-- a disk of this member holds something, and none of a member before it does
pub record IsFirstOccupied {D : Type 0} (seen : D → List ℕ) (disks : List (Pair D)) (r : ℕ) : Type 0 where
  pub pair : Pair D
  pub is : IsNumbered disks r pair
  pub some : (seen pair.a ≢ []) ⊎ (seen pair.b ≢ [])
  pub before : (q : ℕ) (other : Pair D) → IsNumbered disks q other → q < r → IsEmptyPair seen other

-- of each member what it saves before anything has happened is held
pub record AreMade {D : Type 0} (kept : List ℕ → List ℕ → Option Kept) (seen : D → List ℕ) (volume : Volume)
    (disks : List (Pair D)) : Type 0 where
  pub each : (r : ℕ) (pair : Pair D) → IsNumbered disks r pair → IsMember volume.members r
      → Holds (found_in kept seen pair) (fresh_saved volume r)

-- the members before this one are made: whatever a crash leaves of their disks, what each saves before anything has
-- happened is held
pub record AreMadeBefore {D : Type 0} (kept : List ℕ → List ℕ → Option Kept) (may_leave : D → List ℕ → Type 0)
    (volume : Volume) (at : ℕ) (disks : List (Pair D)) : Type 0 where
  pub each : (r : ℕ) (pair : Pair D) → IsNumbered disks r pair → IsMember volume.members r → r < at → (a b : List ℕ)
      → may_leave pair.a a → may_leave pair.b b → Holds (kept a b) (fresh_saved volume r)

-- so many first members are made, and on the disks of those behind them nothing is written
pub record AreMadeFirst {D : Type 0} (kept : List ℕ → List ℕ → Option Kept) (disk : Disk D) (volume : Volume)
    (count : ℕ) (old new : List (Pair D)) : Type 0 where
  pub made : AreMadeBefore kept disk.may_leave volume (count + 1) new
  pub rest : OthersRest disk count old new

-- some first members are made, or none
pub record SomeAreMade {D : Type 0} (kept : List ℕ → List ℕ → Option Kept) (disk : Disk D) (volume : Volume)
    (old new : List (Pair D)) : Type 0 where
  pub count : ℕ
  pub first : AreMadeFirst kept disk volume count old new

-- this member is made in part: whatever a crash leaves of its disks, what it saves before anything has happened is
-- held, or nothing; those before it are made, and on the disks of those behind it nothing is written
pub record IsMadeInPart {D : Type 0} (kept : List ℕ → List ℕ → Option Kept) (disk : Disk D) (volume : Volume)
    (r : ℕ) (old new : List (Pair D)) : Type 0 where
  pub before : AreMadeBefore kept disk.may_leave volume r new
  pub there : (pair : Pair D) → IsNumbered new r pair
      → HoldsOneOf kept disk.may_leave pair None (Some (fresh_saved volume r))
  pub rest : OthersRest disk r old new

-- What is made where this ended it, over disks that held nothing. Where a disk of this member failed, nothing is
-- written, or it is made in part; where memory was refused, some first members are made; nothing else ends it.
abbrev pub AreMadeInPart : {D : Type 0} → (List ℕ → List ℕ → Option Kept) → Disk D → Volume → List (Pair D)
    → List (Pair D) → WorldFault → Type 0
AreMadeInPart kept disk volume old new (Store r) = AllRest disk old new ⊎ IsMadeInPart kept disk volume r old new
AreMadeInPart kept disk volume old new Memory = SomeAreMade kept disk volume old new
AreMadeInPart kept disk volume old new (Occupied r) = ⊥
AreMadeInPart kept disk volume old new (Image r) = ⊥

-- what is held of a member, of which a world may be opened by what is held of the first one
pub record Opens {D : Type 0} (kept : List ℕ → List ℕ → Option Kept) (seen : D → List ℕ) (disks : List (Pair D))
    (first saved : Saved) (r : ℕ) : Type 0 where
  pub pair : Pair D
  pub is : IsNumbered disks r pair
  pub fits : FitsImage saved
  pub holds : Holds (found_in kept seen pair) saved
  pub may : MayOpen first saved r

-- with what the disks of this member hold no world may be opened
abbrev pub IsBad : {D : Type 0} → (List ℕ → List ℕ → Option Kept) → (D → List ℕ) → List (Pair D) → ℕ → Type 0
IsBad kept seen disks r =
    (first saved : Saved) → Opens kept seen disks first first 1 → Opens kept seen disks first saved r → ⊥

-- The disks of this member are those of no world: of all before it, a world may be opened, and not of it. It is a
-- member, as far as the first one says how many there are.
pub record IsFirstBad {D : Type 0} (kept : List ℕ → List ℕ → Option Kept) (seen : D → List ℕ) (disks : List (Pair D))
    (r : ℕ) : Type 0 where
  pub some : 1 ≤ r
  pub member : (first : Saved) → Opens kept seen disks first first 1 → r ≤ first.members
  pub bad : IsBad kept seen disks r
  pub before : (q : ℕ) → 1 ≤ q → q < r
      → (first : Saved) × (saved : Saved) × Opens kept seen disks first first 1 × Opens kept seen disks first saved q

-- the disks stand for a lawful history, of fewer than 2^62 events
pub record StandsOn {D : Type 0} (kept : List ℕ → List ℕ → Option Kept) (seen : D → List ℕ) (volume : Volume)
    (H : List Event) (disks : List (Pair D)) : Type 0 where
  pub count : IsCount volume.members
  pub lawful : IsLawful volume H
  pub few : length H < 2 ^ 62
  pub keeps : DisksKeep kept seen volume H disks

-- whether the disks of each member have a fuse
abbrev pub fuses_in : {D : Type 0} → (D → Option ℕ) → List (Pair D) → List Bool
fuses_in armings disks = map (are_fused armings) disks

-- of the disks of each pair this stays
pub record Steady {D A : Type 0} (what : D → A) (old new : List (Pair D)) : Type 0 where
  pub count : length new ≡ length old
  pub each : (r : ℕ) (was now : Pair D) → IsNumbered old r was → IsNumbered new r now → PairSame what was now

-- what a read of each disk gives stays
abbrev pub SeenSame : {D : Type 0} → (D → List ℕ) → List (Pair D) → List (Pair D) → Type 0
SeenSame seen old new = Steady seen old new

-- nothing is unsynced on both disks
pub record IsSynced {D : Type 0} (seen : D → List ℕ) (may_leave : D → List ℕ → Type 0) (pair : Pair D) : Type 0 where
  pub a : Only (seen pair.a) (may_leave pair.a)
  pub b : Only (seen pair.b) (may_leave pair.b)

-- so it is of the members up to this one
pub record AreSynced {D : Type 0} (seen : D → List ℕ) (may_leave : D → List ℕ → Type 0) (disks : List (Pair D))
    (count : ℕ) : Type 0 where
  pub each : (r : ℕ) (pair : Pair D) → IsNumbered disks r pair → r ≤ count → IsSynced seen may_leave pair

-- the disks of this member have failed, and counted that
pub record IsAtFault {D : Type 0} (faults : D → ℕ) (old new : List (Pair D)) (r : ℕ) : Type 0 where
  pub is : IsMember (length old) r
  pub count : length new ≡ length old
  pub each : (q : ℕ) (was now : Pair D) → IsNumbered old q was → IsNumbered new q now
      → PairRose faults (if q == r then 1 else 0) was now

-- of a pair on which no number was armed no disk has failed, and none is armed
pub record PairUnfailing {D A : Type 0} (fuse : D → Fuse) (result : Result A WorldFault) (old new : Pair D) :
    Type 0 where
  pub unarmed : fuses_of fuse old ≡ both_unarmed → fuses_of fuse new ≡ both_unarmed
  pub unfailing : fuses_of fuse old ≡ both_unarmed → (r : ℕ) → IsErrOf result (Store r) → ⊥

-- and of all pairs, where on none a number was armed
pub record Unfailing {D A : Type 0} (fuse : D → Fuse) (result : Result A WorldFault) (old new : List (Pair D)) :
    Type 0 where
  pub unarmed : AreUnarmed fuse old → AreUnarmed fuse new
  pub unfailing : AreUnarmed fuse old → (r : ℕ) → IsErrOf result (Store r) → ⊥

-- no disk failed
abbrev pub IsUnfailed : WorldFault → Type 0
IsUnfailed (Store r) = ⊥
IsUnfailed (Occupied r) = Unit {0}
IsUnfailed (Image r) = Unit {0}
IsUnfailed Memory = Unit {0}

-- What a call does to the disks of member `number`, whatever it answers: a fault of a disk is told with this number,
-- and was counted, and no other was; none is armed; and where none was, none fails.
pub record PairAsked {A D : Type 0} (disk : Disk D) (number : ℕ) (result : Result A WorldFault) (old new : Pair D) :
    Type 0 where
  pub failed : (r : ℕ) → IsErrOf result (Store r) → (r ≡ number) × PairRose disk.faults 1 old new
  pub spared : (fault : WorldFault) → IsUnfailed fault → IsErrOf result fault → PairSame disk.faults old new
  pub steady : OnOk result (PairSame disk.faults old new)
  pub armings : PairSame disk.armings old new
  pub unfailing : disk.tells_fuse → PairUnfailing disk.fuse result old new

-- the same where nothing is written on them, and what a read gives stays
pub record PairLooked {A D : Type 0} (disk : Disk D) (number : ℕ) (result : Result A WorldFault) (old new : Pair D) :
    Type 0 where
  pub asked : PairAsked disk number result old new
  pub same : disk.tells → PairSame disk.seen old new
  pub rests : PairRests disk old new

-- the same of the disks of all members
pub record DisksAsked {A D : Type 0} (disk : Disk D) (result : Result A WorldFault) (old new : List (Pair D)) :
    Type 0 where
  pub failed : (r : ℕ) → IsErrOf result (Store r) → IsAtFault disk.faults old new r
  pub spared : (fault : WorldFault) → IsUnfailed fault → IsErrOf result fault → Steady disk.faults old new
  pub steady : OnOk result (Steady disk.faults old new)
  pub armings : Steady disk.armings old new
  pub unfailing : disk.tells_fuse → Unfailing disk.fuse result old new

pub record DisksLooked {A D : Type 0} (disk : Disk D) (result : Result A WorldFault) (old new : List (Pair D)) :
    Type 0 where
  pub asked : DisksAsked disk result old new
  pub same : disk.tells → SeenSame disk.seen old new
  pub rests : AllRest disk old new

-- a disk failed, or memory was refused
abbrev pub IsStoreFault : WorldFault → Type 0
IsStoreFault (Store r) = Unit {0}
IsStoreFault Memory = Unit {0}
IsStoreFault (Occupied r) = ⊥
IsStoreFault (Image r) = ⊥

-- a disk failed, or one holds something
abbrev pub IsFoundFault : WorldFault → Type 0
IsFoundFault (Store r) = Unit {0}
IsFoundFault (Occupied r) = Unit {0}
IsFoundFault Memory = ⊥
IsFoundFault (Image r) = ⊥

-- each member holds what was read of its disks, and a world may be opened with that
pub record AreRead {D : Type 0} (kept : List ℕ → List ℕ → Option Kept) (seen : D → List ℕ) (disks : List (Pair D))
    (members : List Member) : Type 0 where
  pub first : Saved
  pub counted : length members ≡ first.members
  pub each : (r : ℕ) (member : Member) → IsNumbered members r member
      → (member.state ≡ Up) × Opens kept seen disks first member.replica.saved r

-- a member that was opened: it is up, waits for no answer, holds nothing of one, and a world may be opened with what it
-- saves
pub record IsOpened (first : Saved) (r : ℕ) (member : Member) : Type 0 where
  pub up : member.state ≡ Up
  pub asks : member.replica.ask ≡ None
  pub parts : member.parts ≡ None
  pub fits : FitsImage member.replica.saved
  pub may : MayOpen first member.replica.saved r

-- so is each of these members, by what the first of them holds
pub record AreOpened (members : List Member) : Type 0 where
  pub each : (r : ℕ) (first member : Member) → IsNumbered members 1 first → IsNumbered members r member
      → IsOpened first.replica.saved r member

-- there is one member more, behind the others
pub record IsOneMore (old new : List Member) : Type 0 where
  pub count : length new ≡ length old + 1
  pub stays : (r : ℕ) (member : Member) → IsNumbered old r member → IsNumbered new r member

-- the member that is opened with this
abbrev pub opened_member : Saved → Bool → Member
opened_member saved fused =
    record { replica = record { saved = saved; ask = None }; parts = None; state = Up; fused = fused }
