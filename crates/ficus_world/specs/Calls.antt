-- What each call of a world promises, by name.
use Rattle.std.specs.Prelude.{◌≡◌, ◌≢◌, ◌⊎◌, ℕ, ◌+◌, ◌-◌, ◌≤◌, List, [], ◌∷◌, ◌++◌, length, take, slice_set, Vec, Some}
use Rattle.std.specs.Prelude.{Result, Err, IfOk, IsErrAnd, IsErrOf, OnErr, OnOk}
use Rattle.std.specs.declared.alloc.Global.{Global}
use Rattle.ficus_disk.specs.declared.disk.Disk.{Ghosts as Disk}
use Rattle.ficus_disk.specs.declared.pair.Pair.{Pair}
use Rattle.ficus_durable_state.specs.Saved.{FitsImage}
use Rattle.ficus_durable_state.specs.declared.saved.Saved.{Saved}
use Rattle.ficus_ids.specs.Members.{IsCount, IsMember}
use Rattle.ficus_ids.specs.declared.refusal.Refusal.{Refusal}
use Rattle.ficus_ids.specs.declared.refusal.Refusal.TheVariants as refusal
use Rattle.ficus_keeper.specs.declared.fault.StoreFault.{StoreFault}
use Rattle.ficus_keeper.specs.declared.fault.StoreFault.TheVariants as store_fault
use Rattle.ficus_keeper.specs.declared.keep.Keep.{Ghosts as Keep}
use Rattle.ficus_model.specs.Lawful.{Volume}
use Rattle.ficus_model.specs.declared.event.Event.{Event}
use Rattle.ficus_opening.specs.Disks.{AreDisksOf, ArePairsOf}
use Rattle.ficus_opening.specs.Fuses.{AreRegular, AreUnarmed}
use Rattle.ficus_opening.specs.Opening.{AreRead, IsAtFault, IsFirstBad, IsStoreFault, IsUnfailed, Opens, SeenSame, StandsOn, Steady, Unfailing, fuses_in}
use Rattle.ficus_opening.specs.Rests.{AllRest, AreLeft, OthersStay, RestsAt}
use Rattle.ficus_opening.specs.declared.fault.WorldFault.{WorldFault}
use Rattle.ficus_opening.specs.declared.fault.WorldFault.TheVariants.{Image, Occupied, Store}
use Rattle.ficus_opening.specs.declared.member.Member.{Member}
use Rattle.ficus_opening.specs.declared.member.MemberState.TheVariants.{Down, Up}
use Rattle.ficus_opening.specs.declared.member.Pending.{Pending}
use Rattle.ficus_runs.specs.Exchange.{mails_of, total_limit}
use Rattle.ficus_runs.specs.Fuses.{FuseState, with_fuses}
use Rattle.ficus_runs.specs.ModelWorld.{ModelWorld}
use Rattle.ficus_runs.specs.Numbered.{IsNumbered}
use Rattle.ficus_runs.specs.Outcome.{IsArmed, IsOpened, IsSaved, OpeningFails, SaveFails}
use Rattle.ficus_runs.specs.Peers.{ArePeers}
use Rattle.ficus_runs.specs.Run.{CommandMayWantMemory, OnlyLooks}
use Rattle.ficus_runs.specs.Start.{restarts, start}
use Rattle.ficus_script.specs.declared.answer.Answer.{Answer}
use Rattle.ficus_script.specs.declared.command.Command.{Command}
use Rattle.ficus_script.specs.declared.command.Command.TheVariants.{Restart}
use Rattle.ficus_stable_storage.specs.declared.stable.Stable.{Stable}
use Rattle.ficus_wire.specs.Message.{piece_limit}
use Rattle.ficus_world.specs.Acts.{Acts, ActsOn, SavesNext, StaysAt}
use Rattle.ficus_world.specs.Disks.{AreSpared, CarriedOn, DisksComeTo, DisksFollow, DisksPass, DisksStay, IsBacked, IsHeldBy, IsPreparedAt, IsReadAt, ReopensAt, SavesAt, StaysOn}
use Rattle.ficus_world.specs.Disks.{save_outcome}
use Rattle.ficus_world.specs.Follows.{FollowsOn, StopsOn, TellsFor}
use Rattle.ficus_world.specs.Generations.{IsFresh}
use Rattle.ficus_world.specs.Fuses.{AreAtRest, FusesFollow, FusesStand, IsReadBy, at_rest}
use Rattle.ficus_world.specs.Kills.{IsDeedOf, IsGive, IsPull, Passes, SavesOn, Spares, Touches, WritesAt}
use Rattle.ficus_world.specs.Moves.{GivesMessage, GivesMessages, GivesSomeMessages, HasCollected, KeepsAsk, parts_after, restarted}
use Rattle.ficus_world.specs.Post.{HasRoom, Outbox, PostState}
use Rattle.ficus_world.specs.Stepped.{ComesTo, CutOn, CutPart, Stepped}
use Rattle.ficus_world.specs.World.{Backed, IsUpIn, WorldStandsFor, foreseen, most_unforeseen, whole_of}

-- a world is opened on the disks, over a link of so many faults and so many bytes in all
pub record OpensWorld {K D : Type 0} (keep : Keep K) (disk : Disk D) (link_faults total : ℕ)
    (result : Result (Backed K) WorldFault) (old new : List (Pair D)) : Type 0 where
  pub members : IfOk result (λ world. IsCount (length world.whole.members))
  -- There are as many members as the first of them says.
  pub counted : disk.tells → IfOk result (λ world. (first : Saved) → Opens keep.kept disk.seen old first first 1
      → length world.whole.members ≡ first.members)
  pub events : IfOk result (λ world. world.whole.events ≡ restarts (length world.whole.members))
  pub faults : IfOk result (λ world. world.whole.post.faults ≡ link_faults)
  pub backed : IfOk result (λ world. IsBacked keep disk world new)
  pub opened : disk.tells → IfOk result (λ world. AreRead keep.kept disk.seen old world.whole.members)
  -- Nothing has been posted there, and no member holds a piece of an answer.
  pub fresh : IfOk result (λ world. IsFresh world.whole)
  -- Whatever lawful history the disks stood for, the world stands for it with the restarts.
  pub stands : disk.tells → (volume : Volume) (H : List Event) → StandsOn keep.kept disk.seen volume H old
      → IfOk result (λ world. WorldStandsFor volume (start H volume.members total
      (take volume.members (fuses_in disk.armings old))) world.whole)
  pub image : disk.tells → (r : ℕ) → IsErrOf result (Image r) → IsFirstBad keep.kept disk.seen old r
  pub image_comes : disk.tells → (r : ℕ) → IsFirstBad keep.kept disk.seen old r
      → IsErrAnd result (λ fault. (fault ≡ Image r) ⊎ IsStoreFault fault)
  -- No disk behind the first bad one's was asked for anything.
  pub earlier : disk.tells → (q r : ℕ) → IsErrOf result (Store q) → IsFirstBad keep.kept disk.seen old r → q ≤ r
  pub never_image : disk.tells → (volume : Volume) (H : List Event) → StandsOn keep.kept disk.seen volume H old
      → (r : ℕ) → IsErrOf result (Image r) → ⊥
  pub failed : (r : ℕ) → IsErrOf result (Store r) → IsAtFault disk.faults old new r
  -- No disk has failed where no such fault is told.
  pub spared : (fault : WorldFault) → IsUnfailed fault → IsErrOf result fault → Steady disk.faults old new
  pub never : (r : ℕ) → IsErrOf result (Occupied r) → ⊥
  pub same : disk.tells → SeenSame disk.seen old new
  -- It writes no byte: at no moment of it a crash leaves more than before. The pairs of no member stay.
  pub rests : AllRest disk old new
  pub others : IfOk result (λ world. OthersStay (length world.whole.members) old new)
  pub member : disk.tells → (r : ℕ) → IsErrOf result (Store r) → (first : Saved)
      → Opens keep.kept disk.seen old first first 1 → r ≤ first.members
  pub steady : OnOk result (Steady disk.faults old new)
  pub armings : Steady disk.armings old new
  pub pairs : length new ≡ length old
  -- On disks that tell their fuses, of which none is armed, none fails, and none is armed afterwards. Where what they
  -- hold is of volumes that this keeper alone wrote, it tells how the fuses stand of the members.
  pub unfailing : disk.tells_fuse → Unfailing disk.fuse result old new
  pub fuses : disk.tells_fuse → disk.tells → AreUnarmed disk.fuse old → IfOk result (λ world.
      AreRegular keep.Regular disk.seen old (length world.whole.members) → (F : ℕ → FuseState)
      → AreAtRest F world.whole.members → FusesStand keep disk F world.whole.members new)

-- one command that is one step is carried out, and answered
pub record Steps {E K D : Type 0} (tells : Type 0) (keep : Keep K) (disk : Disk D) (command : Command)
    (result : Result Answer E) (old new : Backed K) (was now : Vec (Pair D) Global) : Type 0 where
  pub moves : IfOk result (λ answer. Stepped tells keep disk old.whole command answer new.whole was.items now.items)
  -- It stores two events at most, and one for each message that it posts.
  pub grows : foreseen new.whole ≤ foreseen old.whole + most_unforeseen
  pub members : length new.whole.members ≡ length old.whole.members
  pub pairs : length now.items ≡ length was.items
  pub memory : OnErr result (CutOn tells keep disk command old.whole new.whole was.items now.items)
  -- What only looks saves nothing.
  pub unsaved : OnlyLooks command → (new ≡ old) × (now ≡ was)
  -- The disks are still those of the world: they hold what each member that is up has saved, and of one that is down
  -- that, or what is pending.
  pub backed : IsBacked keep disk new now.items
  -- At each moment of it the disks are as before, or one member saves: link by link, a link for each message of a pull.
  pub passes : Passes tells keep disk (IsDeedOf command) old.whole new.whole was.items now.items
  -- One that is no pull is one link. Where no member has changed, as after a refusal that no disk made and after
  -- `Memory`, the disks are as before; but a restart may have opened those of its member again. It writes nothing.
  pub touches : (IsPull command → ⊥) → Touches keep disk old.whole new.whole was.items now.items
  pub spared : (IsPull command → ⊥) → Spares disk old.whole command new.whole was.items now.items
  pub unwritten : (by : ℕ) → command ≡ Restart by → AllRest disk was.items now.items
  -- What a read gives after a restart, a crash might have left before. The pairs of no member stay.
  pub left : disk.tells → (by : ℕ) → command ≡ Restart by → AreLeft disk.seen disk.may_leave was.items now.items
  pub others : OthersStay (length old.whole.members) was.items now.items
  -- A replica that has collected holds no removed entry of which everybody is known to know that all know, and no file
  -- or directory that nothing which it holds names or lies in, unless it is an orphan.
  pub collected : IfOk result (λ answer. HasCollected command answer new.whole)
  -- Whatever the world stood for before, over a link that tells its posts, and for a restart over disks that tell what
  -- they hold: the model allows the answer there, and the world stands for what it leads to; after `Memory`, for what
  -- the command has done. Where the disks tell their fuses, these allow what became of all that was asked of the disks.
  pub stands : tells → TellsFor disk.tells command → (volume : Volume) (W : ModelWorld)
      → WorldStandsFor volume W old.whole
      → IfOk result (λ answer. FollowsOn keep disk volume W old.whole command answer new.whole was.items now.items)
  pub stays : tells → (volume : Volume) (W : ModelWorld) → WorldStandsFor volume W old.whole
      → OnErr result (StopsOn keep disk volume W old.whole command new.whole was.items now.items)
  -- Memory is wanted only where the model refuses nothing, or where it has to be taken before that is known.
  pub wants : (volume : Volume) (W : ModelWorld) → WorldStandsFor volume W old.whole
      → OnErr result (CommandMayWantMemory volume W command)

-- member `by` saves what was prepared, or its disks fail
pub record CommitsAt {T E K D : Type 0} (keep : Keep K) (disk : Disk D) (by : ℕ) (next : Saved) (result : Result T E)
    (old_stables new_stables : List (Stable K)) (old new : List (Pair D)) : Type 0 where
  -- Of whatever members the disks were, they are those of the members after the save, and so are their fuses.
  pub disks : DisksPass keep disk (SavesAt by next result) old_stables new_stables old new
  pub fuses : (old_members new_members : List Member) → SavesAt by next result old_members new_members
      → ArePairsOf keep disk old_members old
      → FusesFollow keep disk (save_outcome by result ∷ []) old_members new_members old new
  pub follows : DisksFollow disk.faults disk.armings (save_outcome by result ∷ []) old new
  pub saves : SavesOn keep disk by next old new
  pub count : length new_stables ≡ length old_stables

-- the same, and its event is stored; or the member is down, and it is pending
pub record CommitsNext {A K D : Type 0} (keep : Keep K) (disk : Disk D) (by : ℕ) (next : Pending)
    (result : Result A Refusal) (old_members new_members : List Member) (old_events new_events : List Event)
    (old_stables new_stables : List (Stable K)) (old new : List (Pair D)) : Type 0 where
  pub held : OnOk result ((was : Member) → IsNumbered old_members by was → new_members ≡ slice_set old_members (by - 1)
      (record was { replica = next.replica; parts = parts_after next.event was.parts }))
  pub stored : OnOk result (new_events ≡ old_events ++ next.event ∷ [])
  pub followed : OnOk result (DisksComeTo keep disk (IsSaved by ∷ []) old_members new_members old new)
  pub pending : OnErr result ((was : Member) → IsNumbered old_members by was
      → new_members ≡ slice_set old_members (by - 1) (record was { state = Down (Some next) }))
  pub kept : OnErr result (new_events ≡ old_events)
  pub counted : OnErr result (DisksComeTo keep disk (SaveFails by ∷ []) old_members new_members old new)
  pub refused : OnErr result (result ≡ Err refusal.Store)
  pub writes : (post after : Outbox) → WritesAt keep disk by (whole_of old_members old_events post)
      (whole_of new_members new_events after) old new
  pub disks : AreDisksOf keep disk new_members new_stables new
  pub count : length new_stables ≡ length old_stables

-- the disks of member `by` are opened again, and what they then hold is read
pub record ReopensPair {K D : Type 0} (keep : Keep K) (disk : Disk D) (by : ℕ) (result : Result Saved StoreFault)
    (old_stables new_stables : List (Stable K)) (old new : List (Pair D)) : Type 0 where
  pub fits : IfOk result (λ read. FitsImage read)
  pub read : disk.tells → (count events : ℕ) (members : List Member) (was : Member)
      → IsHeldBy keep disk count events by members was old → IsReadAt was result
  -- The world is as it was, or the member has risen with what was read, or it is down.
  pub disks : DisksPass keep disk (ReopensAt by result) old_stables new_stables old new
  -- Where the disks tell their fuses, they are opened, and these decide which of the two is read.
  pub never : disk.tells_fuse → IsErrOf result store_fault.Failed → ⊥
  pub by_fuse : disk.tells_fuse → disk.tells → (count events : ℕ) (members : List Member) (was : Member)
      (F : ℕ → FuseState) → IsHeldBy keep disk count events by members was old
      → FusesStand keep disk F members old
      → IfOk result (λ read. IsReadBy (F by).will_find was read × FusesStand keep disk
      (with_fuses F by (at_rest read.generation)) (slice_set members (by - 1) (restarted was read)) new)
  pub opened : IsErrOf result store_fault.Failed → DisksFollow disk.faults disk.armings (OpeningFails by ∷ []) old new
  pub follows : DisksFollow disk.faults disk.armings (IsOpened by ∷ []) old new
  pub rests : RestsAt disk by old new
  -- What a read then gives, a crash might have left.
  pub left : disk.tells → AreLeft disk.seen disk.may_leave old new
  pub count : length new_stables ≡ length old_stables

-- the disks of member `by` are armed
pub record ArmsAt {K D : Type 0} (keep : Keep K) (disk : Disk D) (by calls pick : ℕ) (old new : List (Pair D))
    : Type 0 where
  pub follows : (members : List Member) → ((was : Member) → IsNumbered members by was → was.state ≡ Up)
      → DisksComeTo keep disk (IsArmed by calls pick ∷ []) members members old new
  pub rests : RestsAt disk by old new
  pub spared : AreSpared disk old new
  pub disks : (stables : List (Stable K)) → DisksStay keep disk stables stables old new

-- member `by` saves what it is after an event of its own, and stores that
pub record SavesMember {K D : Type 0} (keep : Keep K) (disk : Disk D) (by : ℕ) (next : Pending)
    (result : Result (Unit {0}) Refusal) (old new : Backed K) (old_disks new_disks : List (Pair D)) : Type 0 where
  pub saves : SavesNext keep disk by next result old.whole new.whole old_disks new_disks
  pub acts : Acts keep disk 1 result old new old_disks new_disks

-- one command is carried out that is one action, and stores so many events at most
pub record Does {K D : Type 0} (tells : Type 0) (keep : Keep K) (disk : Disk D) (most : ℕ) (command : Command)
    (result : Result Answer Refusal) (old new : Backed K) (old_disks new_disks : List (Pair D)) : Type 0 where
  pub moves : ComesTo tells keep disk old.whole command result new.whole old_disks new_disks
  pub acts : Acts keep disk most result old new old_disks new_disks

-- the same of a restart, which may have opened the disks of its member again, and writes nothing: what a read then
-- gives, a crash might have left
pub record Restarts {K D : Type 0} (tells : Type 0) (keep : Keep K) (disk : Disk D) (by : ℕ)
    (result : Result Answer Refusal) (old new : Backed K) (old_disks new_disks : List (Pair D)) : Type 0 where
  pub moves : ComesTo tells keep disk old.whole (Restart by) result new.whole old_disks new_disks
  pub members : length new.whole.members ≡ length old.whole.members
  pub memory : IsErrOf result refusal.Memory
      → StaysOn disk.faults disk.armings old.whole new.whole old_disks new_disks
  pub touches : Touches keep disk old.whole new.whole old_disks new_disks
  pub spared : (IsMember (length old.whole.members) by → ⊥) → AreSpared disk old_disks new_disks
  pub rests : AllRest disk old_disks new_disks
  pub left : disk.tells → AreLeft disk.seen disk.may_leave old_disks new_disks
  pub backed : IsBacked keep disk new new_disks

-- one command is carried out, of however many actions
pub record DoesAll {K D : Type 0} (tells : Type 0) (keep : Keep K) (disk : Disk D) (command : Command)
    (result : Result Answer Refusal) (old new : Backed K) (was now : Vec (Pair D) Global) : Type 0 where
  pub moves : ComesTo tells keep disk old.whole command result new.whole was.items now.items
  pub memory : IsErrOf result refusal.Memory → CutOn tells keep disk command old.whole new.whole was.items now.items
  pub unsaved : OnlyLooks command → (new ≡ old) × (now ≡ was)
  pub touches : (IsPull command → ⊥) → Touches keep disk old.whole new.whole was.items now.items
  pub spared : (IsPull command → ⊥) → Spares disk old.whole command new.whole was.items now.items
  pub unwritten : (by : ℕ) → command ≡ Restart by → AllRest disk was.items now.items
  pub left : disk.tells → (by : ℕ) → command ≡ Restart by → AreLeft disk.seen disk.may_leave was.items now.items
  pub acts : ActsOn tells keep disk (IsDeedOf command) old new was.items now.items

-- member `by` asks another for its state
pub record AsksPeer {K D : Type 0} (tells : Type 0) (keep : Keep K) (disk : Disk D) (by to : ℕ)
    (result : Result ℕ Refusal) (old new : Backed K) (old_disks new_disks : List (Pair D)) : Type 0 where
  pub asks : CarriedOn keep disk (KeepsAsk tells by to) result old.whole new.whole old_disks new_disks
  pub wants : IsErrOf result refusal.Memory → ArePeers (length old.whole.members) by to × IsUpIn old.whole by
  pub acts : Acts keep disk 1 result old new old_disks new_disks

-- a message is given to its receiver, who serves an ask and takes a piece of an answer
pub record GivesMail {K D : Type 0} (tells : Type 0) (keep : Keep K) (disk : Disk D) (mail : ℕ)
    (result : Result Answer Refusal) (old new : Backed K) (old_disks new_disks : List (Pair D)) : Type 0 where
  pub gives : CarriedOn keep disk (GivesMessage tells mail) result old.whole new.whole old_disks new_disks
  pub wants : IsErrOf result refusal.Memory → IsMember (length old.whole.post.posts) mail
  pub few : IfOk result (λ answer. length (mails_of answer) ≤ piece_limit)
  pub acts : Acts keep disk 1 result old new old_disks new_disks

-- several are, up to the first refusal
pub record GivesEach {K D : Type 0} (tells : Type 0) (keep : Keep K) (disk : Disk D) (mails : List ℕ)
    (result : Result Answer Refusal) (old new : Backed K) (old_disks new_disks : List (Pair D)) : Type 0 where
  pub gives : CarriedOn keep disk (GivesMessages tells mails) result old.whole new.whole old_disks new_disks
  pub memory : IsErrOf result refusal.Memory
      → CutPart keep disk (GivesSomeMessages tells mails) old.whole new.whole old_disks new_disks
  pub acts : ActsOn tells keep disk IsGive old new old_disks new_disks

-- all memory is taken for a message, where it may be posted, and for what member `by` saves next
pub record MakesReady {A K D : Type 0} (keep : Keep K) (disk : Disk D) (by : ℕ) (next : Saved)
    (message noted : List ℕ) (result : Result A Refusal) (history_room : ℕ) (old_events new_events : List Event)
    (was now : PostState) (old_stables new_stables : List (Stable K)) (old new : List (Pair D)) : Type 0 where
  pub room : OnOk result (1 ≤ history_room)
  pub post_room : OnOk result (HasRoom now 1)
  pub prepared : OnOk result (IsPreparedAt keep.wants_image keep.Allows keep.size_of disk.room new_stables new by next
      noted)
  pub small : OnOk result (was.now.total + length message ≤ total_limit)
  pub full : OnErr result (result ≢ Err refusal.Memory → (result ≡ Err refusal.LinkFull)
      × (was.now.total + length message ≤ total_limit → ⊥))
  pub events : new_events ≡ old_events
  pub post : now.now ≡ was.now
  pub stays : StaysAt keep disk by old_stables new_stables old new

-- what a link tells is what is known of it
pub record Shows (posted : List (List ℕ)) (bytes failures : ℕ) (post : Outbox) : Type 0 where
  pub posts : posted ≡ post.posts
  pub total : bytes ≡ post.total
  pub faults : failures ≡ post.faults
