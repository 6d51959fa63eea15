-- What it means that of a volume one member alone is opened, while the others are elsewhere.
use Rattle.std.specs.Prelude.{◌≡◌, ◌≢◌, ◌⊎◌, ℕ, ◌<◌, ◌≤◌, Bool, List, length, None, Result, IfOk, IsErrAnd, IsErrOf, OnOk}
use Rattle.ficus_disk.specs.declared.disk.Disk.{Ghosts as Disk}
use Rattle.ficus_disk.specs.declared.pair.Pair.{Pair}
use Rattle.ficus_durable_state.specs.Saved.{FitsImage}
use Rattle.ficus_durable_state.specs.declared.saved.Saved.{Saved}
use Rattle.ficus_ids.specs.Members.{IsMember}
use Rattle.ficus_keeper.specs.Kept.{found_in}
use Rattle.ficus_keeper.specs.Pairs.{PairSame}
use Rattle.ficus_keeper.specs.declared.keep.Keep.{Ghosts as Keep}
use Rattle.ficus_model.specs.Lawful.{Volume}
use Rattle.ficus_replica.specs.SavedOf.{fresh_saved}
use Rattle.ficus_runs.specs.Numbered.{IsNumbered}
use Rattle.ficus_stable_storage.specs.Leads.Holds.{Holds}
use Rattle.ficus_stable_storage.specs.Stable.{IsReady}
use Rattle.ficus_stable_storage.specs.declared.stable.Stable.{Stable}
use Rattle.ficus_opening.specs.Check.Judged.{HoldsNoneOf, IsEmptyPair, IsOwn}
use Rattle.ficus_opening.specs.Disks.{AreDisksOf}
use Rattle.ficus_opening.specs.Opening.{DisksAsked, IsStoreFault, PairAsked, opened_member}
use Rattle.ficus_opening.specs.Rests.{PairRests}
use Rattle.ficus_opening.specs.declared.fault.WorldFault.{WorldFault}
use Rattle.ficus_opening.specs.declared.fault.WorldFault.TheVariants.{Image, Occupied}
use Rattle.ficus_opening.specs.declared.member.Member.{Member}
use Rattle.ficus_opening.specs.declared.member.MemberState.TheVariants.{Down}
use Rattle.ficus_opening.specs.declared.opening.Opened.{Opened}

-- the volume of which this was saved
abbrev pub volume_of : Saved → Volume
volume_of saved = record { members = saved.members; ids = saved.ids; bytes = saved.bytes }

-- a member that is elsewhere: here it is as it was when the volume was made, and is down
pub record IsAbsent (volume : Volume) (r : ℕ) (member : Member) : Type 0 where
  pub saved : member.replica.saved ≡ fresh_saved volume r
  pub asks : member.replica.ask ≡ None
  pub parts : member.parts ≡ None
  pub down : member.state ≡ Down None

-- of these members this one is up, with what it has saved; all others are elsewhere
pub record IsAloneWith (me : ℕ) (saved : Saved) (members : List Member) : Type 0 where
  pub fused : Bool
  pub count : length members ≡ saved.members
  pub is : IsNumbered members me (opened_member saved fused)
  pub absent : (r : ℕ) (member : Member) → r ≢ me → IsNumbered members r member
      → IsAbsent (volume_of saved) r member

-- with something of its own with which a world may be opened
pub record IsAlone (me : ℕ) (members : List Member) : Type 0 where
  pub saved : Saved
  pub fits : FitsImage saved
  pub own : IsOwn saved me
  pub among : IsAloneWith me saved members

-- these members have keepers, and the pair of each is its own
pub record AreKept {K D : Type 0} (keep : Keep K) (disk : Disk D) (those : Opened K) (under : List (Pair D)) :
    Type 0 where
  pub stables : length those.stables.items ≡ length those.members.items
  pub disks : AreDisksOf keep disk those.members.items those.stables.items under

-- a member that is elsewhere is made on disks that hold nothing, and has a keeper there
pub record MakesAbsent {K D : Type 0} (keep : Keep K) (disk : Disk D) (volume : Volume) (r : ℕ)
    (result : Result (Stable K) WorldFault) (old new : Pair D) : Type 0 where
  pub ready : disk.tells → IfOk result (λ stable. IsReady keep.kept keep.fits disk.seen disk.may_leave stable new
      (fresh_saved volume r))
  pub empty : disk.tells → OnOk result (IsEmptyPair disk.seen old)
  pub occupied : disk.tells → (q : ℕ) → IsErrOf result (Occupied q) → (q ≡ r) × (IsEmptyPair disk.seen old → ⊥)
  pub never : disk.tells → (q : ℕ) → IsErrOf result (Image q) → ⊥
  pub asked : PairAsked disk r result old new

-- behind so many members those up to this number were entered, each of which is elsewhere
pub record AreAbsent (volume : Volume) (before to : ℕ) (old new : List Member) : Type 0 where
  pub count : length new ≡ to
  pub stays : (r : ℕ) (member : Member) → IsNumbered old r member → IsNumbered new r member
  pub each : (r : ℕ) (member : Member) → before < r → IsNumbered new r member → IsAbsent volume r member

-- the members behind these up to this number are entered, on disks that hold nothing; no other pair is touched
pub record EntersAbsent {A K D : Type 0} (keep : Keep K) (disk : Disk D) (volume : Volume) (before to : ℕ)
    (result : Result A WorldFault) (was now : Opened K) (old new : List (Pair D)) : Type 0 where
  pub members : OnOk result (AreAbsent volume before to was.members.items now.members.items)
  pub kept : OnOk result (AreKept keep disk now new)
  pub empty : disk.tells → OnOk result ((r : ℕ) (pair : Pair D) → before < r → r ≤ to → IsNumbered old r pair
      → IsEmptyPair disk.seen pair)
  pub occupied : disk.tells → (q : ℕ) → IsErrOf result (Occupied q) → (before < q) × (q ≤ to)
      × ((pair : Pair D) → IsNumbered old q pair → IsEmptyPair disk.seen pair → ⊥)
  pub never : disk.tells → (q : ℕ) → IsErrOf result (Image q) → ⊥
  pub others : (r : ℕ) (pair : Pair D) → (r ≤ before) ⊎ (to < r) → IsNumbered old r pair → IsNumbered new r pair
  pub asked : DisksAsked disk result old new

-- what a member's disks hold is of this volume, of which all other members are entered beside it; its own pair stays
pub record EntersAll {K D : Type 0} (keep : Keep K) (disk : Disk D) (me : ℕ) (saved : Saved)
    (result : Result (Opened K) WorldFault) (old new : List (Pair D)) : Type 0 where
  pub alone : IfOk result (λ opened. IsAloneWith me saved opened.members.items)
  pub kept : IfOk result (λ opened. AreKept keep disk opened new)
  pub empty : disk.tells → OnOk result ((r : ℕ) (pair : Pair D) → r ≢ me → r ≤ saved.members → IsNumbered old r pair
      → IsEmptyPair disk.seen pair)
  pub occupied : disk.tells → (q : ℕ) → IsErrOf result (Occupied q) → (q ≢ me) × IsMember saved.members q
      × ((pair : Pair D) → IsNumbered old q pair → IsEmptyPair disk.seen pair → ⊥)
  pub never : disk.tells → (q : ℕ) → IsErrOf result (Image q) → ⊥
  pub own : (pair : Pair D) → IsNumbered old me pair → IsNumbered new me pair
  pub asked : DisksAsked disk result old new

-- One member is opened alone. The pairs of the others are not those of the members, which are elsewhere: they hold
-- nothing before.
pub record OpensAlone {K D : Type 0} (keep : Keep K) (disk : Disk D) (me : ℕ) (result : Result (Opened K) WorldFault)
    (old new : List (Pair D)) : Type 0 where
  pub alone : IfOk result (λ opened. IsAlone me opened.members.items)
  pub kept : IfOk result (λ opened. AreKept keep disk opened new)
  pub read : disk.tells → IfOk result (λ opened. (member : Member) (pair : Pair D)
      → IsNumbered opened.members.items me member → IsNumbered old me pair
      → Holds (found_in keep.kept disk.seen pair) member.replica.saved)
  -- `Image` comes exactly where the member's own disks hold nothing of its own.
  pub image : disk.tells → (r : ℕ) → IsErrOf result (Image r)
      → (r ≡ me) × ((pair : Pair D) → IsNumbered old me pair → HoldsNoneOf keep.kept disk.seen me pair)
  pub image_comes : disk.tells → ((pair : Pair D) → IsNumbered old me pair → HoldsNoneOf keep.kept disk.seen me pair)
      → IsErrAnd result (λ fault. (fault ≡ Image me) ⊎ IsStoreFault fault)
  -- `Occupied` comes exactly where another pair holds something that must hold nothing.
  pub empty : disk.tells → IfOk result (λ opened. (r : ℕ) (pair : Pair D) → r ≢ me
      → r ≤ length opened.members.items → IsNumbered old r pair → IsEmptyPair disk.seen pair)
  pub occupied : disk.tells → (q : ℕ) → IsErrOf result (Occupied q) → (q ≢ me) × IsMember 8 q
      × ((pair : Pair D) → IsNumbered old q pair → IsEmptyPair disk.seen pair → ⊥)
  -- It writes no byte to the member's own disks, and a read of them gives what it gave.
  pub rests : (was now : Pair D) → IsNumbered old me was → IsNumbered new me now → PairRests disk was now
  pub same : disk.tells → (was now : Pair D) → IsNumbered old me was → IsNumbered new me now
      → PairSame disk.seen was now
  pub asked : DisksAsked disk result old new
