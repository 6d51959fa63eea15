-- What each call on the disks of a volume's members promises, by name. The world's calls of the same names say it too.
use Rattle.std.specs.Prelude.{◌≡◌, ◌↔◌, ◌≤◌, ◌⊎◌, ℕ, Bool, List, length, Some, None, Result, Err, IfErr, IfOk, IsErrOf, IsTrue, OnOk}
use Rattle.ficus_opening.specs.Check.Judged.{HoldsNoneOf, IsEmptyPair, IsJudged, IsOwn}
use Rattle.ficus_opening.specs.declared.check.checked.Checked.{Checked}
use Rattle.ficus_disk.specs.declared.disk.Disk.{Ghosts as Disk}
use Rattle.ficus_disk.specs.declared.pair.Pair.{Pair}
use Rattle.ficus_durable_state.specs.Saved.{FitsImage}
use Rattle.ficus_durable_state.specs.declared.saved.Saved.{Saved}
use Rattle.ficus_ids.specs.Members.{IsCount}
use Rattle.ficus_keeper.specs.Calls.{AreAsBefore}
use Rattle.ficus_keeper.specs.Fuses.{IsRegularIn}
use Rattle.ficus_keeper.specs.Kept.{found_in}
use Rattle.ficus_keeper.specs.declared.keep.Keep.{Ghosts as Keep}
use Rattle.ficus_stable_storage.specs.Leads.Holds.{Holds}
use Rattle.ficus_model.specs.Lawful.{Volume}
use Rattle.ficus_replica.specs.SavedOf.{fresh_saved}
use Rattle.ficus_runs.specs.Numbered.{IsNumbered}
use Rattle.ficus_stable_storage.specs.Holds.{HoldsOneOf}
use Rattle.ficus_stable_storage.specs.Stable.{IsReady}
use Rattle.ficus_stable_storage.specs.declared.stable.Recovered.{Recovered}
use Rattle.ficus_opening.specs.Disks.{AreDisksOf}
use Rattle.ficus_opening.specs.Fuses.{AreRegular}
use Rattle.ficus_opening.specs.Opening.{AreEmpty, AreMade, AreMadeInPart, AreOpened, AreSynced, DisksAsked, DisksLooked, IsAtFault, IsBad, IsFirstBad, IsFirstOccupied, IsFoundFault, IsOneMore, IsStoreFault, IsSynced, IsUnfailed, Opens, PairAsked, PairLooked, SeenSame, Steady, Unfailing}
use Rattle.ficus_opening.specs.Rests.{AllRest, OthersStay, RestsAt}
use Rattle.ficus_opening.specs.declared.fault.WorldFault.{WorldFault}
use Rattle.ficus_opening.specs.declared.fault.WorldFault.TheVariants.{Image, Memory, Occupied, Store}
use Rattle.ficus_opening.specs.declared.member.Member.{Member}
use Rattle.ficus_opening.specs.declared.opening.Opened.{Opened}

-- whether both disks of member `number` hold nothing is told, and nothing is written on them
pub record LooksAt {D : Type 0} (disk : Disk D) (number : ℕ) (result : Result Bool WorldFault) (old new : Pair D)
    : Type 0 where
  pub empty : disk.tells → IfOk result (λ is. IsTrue is ↔ IsEmptyPair disk.seen old)
  pub synced : disk.tells → IsSynced disk.seen disk.may_leave old → IsSynced disk.seen disk.may_leave new
  pub failed : IfErr result (λ fault. fault ≡ Store number)
  pub looked : PairLooked disk number result old new

-- whether the disks of all members hold nothing is told, and nothing is written on any
pub record LooksForEmpty {A D : Type 0} (disk : Disk D) (members : ℕ) (result : Result A WorldFault)
    (old new : List (Pair D)) : Type 0 where
  pub empty : disk.tells → OnOk result (AreEmpty disk.seen old members)
  pub occupied : disk.tells → (r : ℕ) → IsErrOf result (Occupied r) → IsFirstOccupied disk.seen old r × (r ≤ members)
  pub member : (r : ℕ) → IsErrOf result (Store r) → r ≤ members
  pub refused : IfErr result IsFoundFault
  pub others : OthersStay members old new
  pub synced : disk.tells → AreSynced disk.seen disk.may_leave old members
      → OnOk result (AreSynced disk.seen disk.may_leave new members)
  pub looked : DisksLooked disk result old new

-- a member is made on disks that hold nothing
pub record MakesMember {A K D : Type 0} (keep : Keep K) (disk : Disk D) (volume : Volume) (me : ℕ)
    (result : Result A WorldFault) (old new : Pair D) : Type 0 where
  pub made : disk.tells → OnOk result (Holds (found_in keep.kept disk.seen new) (fresh_saved volume me))
  pub refused : IfErr result IsStoreFault
  pub partly : disk.tells → IsSynced disk.seen disk.may_leave old
      → HoldsOneOf keep.kept disk.may_leave new None (Some (fresh_saved volume me))
  pub synced : disk.tells → IsSynced disk.seen disk.may_leave old
      → OnOk result (IsSynced disk.seen disk.may_leave new)
  -- Where memory is refused, its disks are as before.
  pub wanted : IsErrOf result Memory → AreAsBefore disk old new
  pub regular : disk.tells → OnOk result (IsRegularIn keep.Regular disk.seen new)
  pub asked : PairAsked disk me result old new

-- each member is, one after the other
pub record MakesMembers {A K D : Type 0} (keep : Keep K) (disk : Disk D) (volume : Volume)
    (result : Result A WorldFault) (old new : List (Pair D)) : Type 0 where
  pub made : disk.tells → OnOk result (AreMade keep.kept disk.seen volume new)
  pub member : (r : ℕ) → IsErrOf result (Store r) → r ≤ volume.members
  pub refused : IfErr result IsStoreFault
  pub partly : disk.tells → AreSynced disk.seen disk.may_leave old volume.members
      → IfErr result (AreMadeInPart keep.kept disk volume old new)
  pub others : OthersStay volume.members old new
  pub synced : disk.tells → AreSynced disk.seen disk.may_leave old volume.members
      → OnOk result (AreSynced disk.seen disk.may_leave new volume.members)
  pub regular : disk.tells → OnOk result (AreRegular keep.Regular disk.seen new volume.members)
  pub asked : DisksAsked disk result old new

-- a fresh volume is made on the disks, or nothing is where a member's disks hold something
pub record MakesVolume {K D : Type 0} (keep : Keep K) (disk : Disk D) (members ids bytes : ℕ)
    (result : Result (Unit {0}) WorldFault) (old new : List (Pair D)) : Type 0 where
  pub made : disk.tells → OnOk result (AreMade keep.kept disk.seen
      (record { members = members; ids = ids; bytes = bytes }) new)
  pub empty : disk.tells → OnOk result (AreEmpty disk.seen old members)
  pub occupied : disk.tells → (r : ℕ) → IsErrOf result (Occupied r) → IsFirstOccupied disk.seen old r × (r ≤ members)
  -- Where a member's disks hold something, nothing is written, and what they hold stays.
  pub held : disk.tells → (r : ℕ) → r ≤ members → IsFirstOccupied disk.seen old r → SeenSame disk.seen old new
  pub rests : disk.tells → (r : ℕ) → r ≤ members → IsFirstOccupied disk.seen old r → AllRest disk old new
  -- Where nothing was there and nothing unsynced, nothing else is there after a fault than what is made: some first
  -- members, and the one whose disk failed in part. The pairs of no member stay.
  pub partly : disk.tells → AreEmpty disk.seen old members → AreSynced disk.seen disk.may_leave old members
      → IfErr result (AreMadeInPart keep.kept disk (record { members = members; ids = ids; bytes = bytes }) old new)
  pub others : OthersStay members old new
  -- No disk has failed where no such fault is told.
  pub spared : (fault : WorldFault) → IsUnfailed fault → IsErrOf result fault → Steady disk.faults old new
  pub comes : disk.tells → (r : ℕ) → IsFirstOccupied disk.seen old r → r ≤ members
      → (result ≡ Err (Occupied r)) ⊎ ((q : ℕ) × (result ≡ Err (Store q)))
  pub failed : (r : ℕ) → IsErrOf result (Store r) → IsAtFault disk.faults old new r
  pub member : (r : ℕ) → IsErrOf result (Store r) → r ≤ members
  pub never : (r : ℕ) → IsErrOf result (Image r) → ⊥
  -- Where nothing was unsynced on the members' disks, nothing of what is made is.
  pub synced : disk.tells → AreSynced disk.seen disk.may_leave old members
      → OnOk result (AreSynced disk.seen disk.may_leave new members)
  pub steady : OnOk result (Steady disk.faults old new)
  pub armings : Steady disk.armings old new
  pub pairs : length new ≡ length old
  -- On disks that tell their fuses, of which none is armed, none fails, and none is armed afterwards.
  pub unfailing : disk.tells_fuse → Unfailing disk.fuse result old new
  pub regular : disk.tells → OnOk result (AreRegular keep.Regular disk.seen new members)

-- what the disks of member `number` hold is judged, where this holds of them, and nothing is written on them
pub record JudgesPair {K D : Type 0} (keep : Keep K) (disk : Disk D) (number : ℕ) (Where : Type 0)
    (result : Result Checked WorldFault) (old new : Pair D) : Type 0 where
  pub judged : disk.tells → Where → IfOk result (IsJudged keep.kept disk.seen number old)
  pub never_occupied : (r : ℕ) → IsErrOf result (Occupied r) → ⊥
  pub never_image : (r : ℕ) → IsErrOf result (Image r) → ⊥
  pub looked : PairLooked disk number result old new

-- what the disks of one replica hold is judged, and nothing is written
pub record ChecksDisks {K D : Type 0} (keep : Keep K) (disk : Disk D) (number : ℕ) (result : Result Checked WorldFault)
    (old new : List (Pair D)) : Type 0 where
  pub judged : disk.tells → (pair : Pair D) → IsNumbered old number pair
      → IfOk result (IsJudged keep.kept disk.seen number pair)
  pub failed : (r : ℕ) → IsErrOf result (Store r) → (r ≡ number) × IsAtFault disk.faults old new r
  pub never_occupied : (r : ℕ) → IsErrOf result (Occupied r) → ⊥
  pub never_image : (r : ℕ) → IsErrOf result (Image r) → ⊥
  pub same : disk.tells → SeenSame disk.seen old new
  pub rests : RestsAt disk number old new
  -- No disk has failed where no such fault is told.
  pub spared : (fault : WorldFault) → IsUnfailed fault → IsErrOf result fault → Steady disk.faults old new
  pub steady : OnOk result (Steady disk.faults old new)
  pub armings : Steady disk.armings old new
  pub pairs : length new ≡ length old
  -- On disks that tell their fuses, of which none is armed, none fails, and none is armed afterwards.
  pub unfailing : disk.tells_fuse → Unfailing disk.fuse result old new

-- what the disks of member `number` hold of its own is opened, and nothing is written on them
pub record OpensMember {K D : Type 0} (keep : Keep K) (disk : Disk D) (number : ℕ)
    (result : Result (Recovered K) WorldFault) (old new : Pair D) : Type 0 where
  pub fits : IfOk result (λ found. FitsImage found.saved)
  pub own : IfOk result (λ found. IsOwn found.saved number)
  pub ready : disk.tells → IfOk result (λ found. IsReady keep.kept keep.fits disk.seen disk.may_leave found.stable new
      found.saved)
  pub image : disk.tells → (r : ℕ) → IsErrOf result (Image r)
      → (r ≡ number) × HoldsNoneOf keep.kept disk.seen number old
  pub never : (r : ℕ) → IsErrOf result (Occupied r) → ⊥
  pub looked : PairLooked disk number result old new

-- the members that were opened: each has a keeper, and its pair is its own
pub record AreOpenedOn {K D : Type 0} (keep : Keep K) (disk : Disk D) (those : Opened K) (under : List (Pair D)) :
    Type 0 where
  pub opened : AreOpened those.members.items
  pub stables : length those.stables.items ≡ length those.members.items
  pub disks : AreDisksOf keep disk those.members.items those.stables.items under

-- what the next member's disks hold of its own is opened, and it is entered behind those that were opened
pub record OpensNext {A K D : Type 0} (keep : Keep K) (disk : Disk D) (number : ℕ) (result : Result A WorldFault)
    (was now : Opened K) (old new : List (Pair D)) : Type 0 where
  pub opened : OnOk result (AreOpenedOn keep disk now new)
  pub members : OnOk result (IsOneMore was.members.items now.members.items)
  pub image : disk.tells → (r : ℕ) → IsErrOf result (Image r) → (r ≡ number) × IsBad keep.kept disk.seen old r
  pub never : (r : ℕ) → IsErrOf result (Occupied r) → ⊥
  pub others : OthersStay number old new
  pub named : (r : ℕ) → IsErrOf result (Store r) → r ≡ number
  pub looked : DisksLooked disk result old new

-- so are those of each member, of which there are as many as the first one says
pub record OpensMembers {K D : Type 0} (keep : Keep K) (disk : Disk D) (result : Result (Opened K) WorldFault)
    (old new : List (Pair D)) : Type 0 where
  pub opened : IfOk result (λ opened. AreOpenedOn keep disk opened new)
  pub counted : IfOk result (λ opened. (first : Member) → IsNumbered opened.members.items 1 first
      → first.replica.saved.members ≡ length opened.members.items)
  pub count : IfOk result (λ opened. IsCount (length opened.members.items))
  pub image : disk.tells → (r : ℕ) → IsErrOf result (Image r) → IsFirstBad keep.kept disk.seen old r
  pub never : (r : ℕ) → IsErrOf result (Occupied r) → ⊥
  pub others : IfOk result (λ opened. OthersStay (length opened.members.items) old new)
  pub member : disk.tells → (r : ℕ) → IsErrOf result (Store r) → (first : Saved)
      → Opens keep.kept disk.seen old first first 1 → r ≤ first.members
  pub earlier : disk.tells → (q r : ℕ) → IsErrOf result (Store q) → IsFirstBad keep.kept disk.seen old r → q ≤ r
  pub looked : DisksLooked disk result old new
