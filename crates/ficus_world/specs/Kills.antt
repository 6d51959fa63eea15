-- What a command does to the disks of a world at each of its moments, so that a kill at any of them is known.
use Rattle.std.specs.Prelude.{◌≡◌, ◌≢◌, ◌⊎◌, ℕ, ◌+◌, ◌-◌, List, [], ◌∷◌, ◌++◌, length, Some, None, slice_set}
use Rattle.ficus_disk.specs.declared.disk.Disk.{Ghosts as Disk}
use Rattle.ficus_disk.specs.declared.pair.Pair.{Pair}
use Rattle.ficus_ids.specs.Members.{IsMember}
use Rattle.ficus_ids.specs.declared.refusal.Refusal.{Refusal}
use Rattle.ficus_ids.specs.declared.refusal.Refusal.TheVariants as refusal
use Rattle.ficus_model.specs.declared.event.Event.{Event}
use Rattle.ficus_keeper.specs.Kept.{found_in}
use Rattle.ficus_keeper.specs.Moments.{PairSpans}
use Rattle.ficus_keeper.specs.declared.keep.Keep.{Ghosts as Keep}
use Rattle.ficus_durable_state.specs.declared.saved.Saved.{Saved}
use Rattle.ficus_script.specs.declared.answer.Answer.{Answer}
use Rattle.ficus_script.specs.declared.command.Command.{Command}
use Rattle.ficus_script.specs.declared.command.Command.TheVariants.{Ask, Give, Pull, Restart, Sweep}
use Rattle.ficus_stable_storage.specs.Leads.Holds.{Holds}
use Rattle.ficus_stable_storage.specs.Holds.{HoldsOneBetween, HoldsOneOf}
use Rattle.ficus_runs.specs.Numbered.{IsNumbered}
use Rattle.ficus_runs.specs.Outcome.{Outcome}
use Rattle.ficus_runs.specs.Sweep.{SweepStep, command_of}
use Rattle.ficus_opening.specs.Rests.{RestsAt}
use Rattle.ficus_opening.specs.declared.member.Member.{Member}
use Rattle.ficus_opening.specs.declared.member.MemberState.{MemberState}
use Rattle.ficus_opening.specs.declared.member.MemberState.TheVariants.{Up, Down}
use Rattle.ficus_opening.specs.declared.member.Pending.{Pending}
use Rattle.ficus_world.specs.Disks.{AreSpared}
use Rattle.ficus_world.specs.Moves.{Moves}
use Rattle.ficus_world.specs.World.{IsWorld, Whole}

-- of all pairs that of this number is written alone: whatever a crash since then leaves of it holds what it held, or
-- this
pub record SavesOn {K D : Type 0} (keep : Keep K) (disk : Disk D) (by : ℕ) (next : Saved) (old new : List (Pair D)) :
    Type 0 where
  pub was : Pair D
  pub is : IsNumbered old by was
  pub now : Pair D
  pub set : new ≡ slice_set old (by - 1) now
  pub between : disk.tells → (saved : Saved) → Holds (found_in keep.kept disk.seen was) saved
      → HoldsOneBetween keep.kept disk.moment disk.left_since was now (Some saved) (Some next)
  pub spans : disk.tells_moments → PairSpans disk.moment disk.left_since was now

-- a member that was up has saved this, and an event was stored; or it is down, with this pending, and none was
abbrev pub IsSavedOr : Saved → Member → Member → List Event → List Event → Type 0
IsSavedOr next was now old new =
    ((now.replica.saved ≡ next) × (now.state ≡ Up) × (event : Event) × (new ≡ old ++ event ∷ []))
    ⊎ ((now.replica.saved ≡ was.replica.saved) × (pending : Pending) × (now.state ≡ Down (Some pending))
    × (pending.replica.saved ≡ next) × (new ≡ old))

-- One member saves, or fails to: of all pairs its own is written alone, and at each moment a crash leaves what holds
-- what it had saved, or what it saves.
pub record WritesAt {K D : Type 0} (keep : Keep K) (disk : Disk D) (by : ℕ) (old new : Whole)
    (old_disks new_disks : List (Pair D)) : Type 0 where
  pub was : Member
  pub is : IsNumbered old.members by was
  pub up : was.state ≡ Up
  pub next : Saved
  pub now : Member
  pub after : IsSavedOr next was now old.events new.events
  pub above : next.generation ≡ was.replica.saved.generation + 1
  pub set : new.members ≡ slice_set old.members (by - 1) now
  pub pair : Pair D
  pub is_pair : IsNumbered old_disks by pair
  pub now_pair : Pair D
  pub set_pair : new_disks ≡ slice_set old_disks (by - 1) now_pair
  pub between : disk.tells → disk.tells_moments
      → HoldsOneBetween keep.kept disk.moment disk.left_since pair now_pair (Some was.replica.saved) (Some next)
  pub spans : disk.tells_moments → PairSpans disk.moment disk.left_since pair now_pair

-- the command is a pull, which does several things one after the other
abbrev pub IsPull : Command → Type 0
IsPull (Pull by to) = Unit {0}
IsPull other = ⊥

-- the command opens the disks of a member again
abbrev pub OpensAgain : Whole → Command → Type 0
OpensAgain world (Restart by) = IsMember (length world.members) by
OpensAgain world other = ⊥

-- With this refusal the command has asked nothing of the disks: none has failed, and no ask stands whose post did. A
-- pull keeps what it has done, and a restart may have opened disks again.
abbrev pub SparesDisks : Command → Refusal → Type 0
SparesDisks (Pull by to) refused = ⊥
SparesDisks (Restart by) refused = ⊥
SparesDisks (Ask by to) refused = (refused ≢ refusal.Store) × (refused ≢ refusal.Link)
SparesDisks command refused = refused ≢ refusal.Store

-- a message is given
abbrev pub IsGive : Command → Type 0
IsGive (Give mail) = Unit {0}
IsGive other = ⊥

-- what one link of a command does, where that is no sweep: of a pull its ask, or the give of a message; else it alone
abbrev pub IsLinkOf : Command → Command → Type 0
IsLinkOf (Pull by to) link = (link ≡ Ask by to) ⊎ IsGive link
IsLinkOf command link = link ≡ command

-- what a link of a sweep does: what one of a pull or a collection does
abbrev pub IsSweepLink : Command → Type 0
IsSweepLink link = (step : SweepStep) × IsLinkOf (command_of step) link

-- what one link of any command does
abbrev pub IsDeedOf : Command → Command → Type 0
IsDeedOf (Sweep order) link = IsSweepLink link
IsDeedOf command link = IsLinkOf command link

-- What a command that is no pull does to the disks: nothing; or room is taken on the disks of one member, or they are
-- opened again or armed; or one member saves.
pub data Touches {K D : Type 0} (keep : Keep K) (disk : Disk D) (old new : Whole) :
    List (Pair D) → List (Pair D) → Type 0 where
  TouchesNone : {disks : List (Pair D)} → Touches keep disk old new disks disks
  TouchesOne : {by : ℕ} {disks now : List (Pair D)} → IsMember (length old.members) by → RestsAt disk by disks now
      → Touches keep disk old new disks now
  WritesOne : {by : ℕ} {disks now : List (Pair D)} → WritesAt keep disk by old new disks now
      → Touches keep disk old new disks now

-- where no member has changed, the disks are as before; but the command may have opened those of a member again
abbrev pub Spares : {D : Type 0} → Disk D → Whole → Command → Whole → List (Pair D) → List (Pair D) → Type 0
Spares disk old command new old_disks new_disks =
    (OpensAgain old command → ⊥) → new.members ≡ old.members → AreSpared disk old_disks new_disks

-- what a member has saved, or what is pending
abbrev pub latest : Saved → MemberState → Saved
latest saved Up = saved
latest saved (Down None) = saved
latest saved (Down (Some pending)) = pending.replica.saved

-- whatever a crash leaves of the disks holds what each member has saved, or what is pending
pub record IsSettled {K D : Type 0} (keep : Keep K) (disk : Disk D) (world : Whole) (disks : List (Pair D)) :
    Type 0 where
  pub sound : IsWorld world
  pub holds : disk.tells → (r : ℕ) (member : Member) (pair : Pair D) → IsNumbered world.members r member
      → IsNumbered disks r pair
      → HoldsOneOf keep.kept disk.may_leave pair (Some member.replica.saved)
      (Some (latest member.replica.saved member.state))

-- A world with its disks, from one moment to a later one, link by link. A link is what one command that is no pull, or
-- one message of a pull, does, each of such a kind; or the world stays as it is meanwhile.
pub data Passes {K D : Type 0} (tells : Type 0) (keep : Keep K) (disk : Disk D) (IsLink : Command → Type 0) :
    Whole → Whole → List (Pair D) → List (Pair D) → Type 0 where
  Idles : {world : Whole} {old new : List (Pair D)} → IsSettled keep disk world old
      → Touches keep disk world world old new → Passes tells keep disk IsLink world world old new
  Links : {before after : Whole} {command : Command} {outcomes : List Outcome} {answer : Answer}
      {old new : List (Pair D)} → IsLink command → IsSettled keep disk before old → IsSettled keep disk after new
      → Moves tells disk.tells before command outcomes answer after
      → Touches keep disk before after old new → Spares disk before command after old new
      → Passes tells keep disk IsLink before after old new
  Joins : {before middle after : Whole} {old mid new : List (Pair D)}
      → Passes tells keep disk IsLink before middle old mid → Passes tells keep disk IsLink middle after mid new
      → Passes tells keep disk IsLink before after old new
