-- What a kill at any moment leaves, by worlds of the model.
use Rattle.std.specs.Prelude.{◌≡◌, ◌⊎◌, ℕ, suc, ◌+◌, ◌-◌, ◌≤◌, true, List, [], ◌∷◌, ◌++◌, length, slice_get, slice_set, take, Option, Some}
use Rattle.ficus_disk.specs.declared.disk.Disk.{Ghosts as Disk}
use Rattle.ficus_disk.specs.declared.pair.Pair.{Pair}
use Rattle.ficus_keeper.specs.Kept.{Kept}
use Rattle.ficus_keeper.specs.Moments.{PairSpans}
use Rattle.ficus_model.specs.declared.event.Event.{Event}
use Rattle.ficus_model.specs.Lawful.{IsLawful, Volume}
use Rattle.ficus_model.specs.Events.{actor, is_saved}
use Rattle.ficus_ids.specs.declared.refusal.Refusal.{Refusal}
use Rattle.ficus_script.specs.declared.answer.Answer.{Answer}
use Rattle.ficus_script.specs.declared.answer.Answer.TheVariants.{Refused}
use Rattle.ficus_script.specs.declared.command.Command.{Command}
use Rattle.ficus_runs.specs.ModelWorld.{IsUp, ModelWorld, Standing, Down}
use Rattle.ficus_runs.specs.Numbered.{IsNumbered}
use Rattle.ficus_runs.specs.Outcome.{Outcome}
use Rattle.ficus_runs.specs.Run.{Run, Step}
use Rattle.ficus_opening.specs.Rests.{PairRests}
use Rattle.ficus_opening.specs.Stand.{DisksKeep}
use Rattle.ficus_world.specs.Disks.{AreSpared}
use Rattle.ficus_world.specs.Kills.{IsDeedOf, SparesDisks}
use Rattle.ficus_world.specs.Stand.{KeepsFor}

-- A save of the member, which was up, was begun: an event of its own has happened after which it saves, and all stand
-- as before; or nothing has happened, and the member is down, with an event of its own pending.
pub record BeginsSave (old new : ModelWorld) (r : ℕ) : Type 0 where
  pub up : IsUp r old
  pub event : Event
  pub own : actor event ≡ r
  pub so : ((new.events ≡ old.events ++ event ∷ []) × (new.standings ≡ old.standings) × (is_saved r event ≡ true))
      ⊎ ((new.events ≡ old.events) × (new.standings ≡ slice_set old.standings (r - 1) (Down (Some event))))

-- The pair of this number from one state to the next. Whatever a crash between them might have left keeps what the
-- world before says of the member; or, where a save of the member was begun, what the world after says. Where none was
-- begun, nothing is written. No moment between the two is left out.
pub record PairBetween {D : Type 0} (kept : List ℕ → List ℕ → Option Kept) (disk : Disk D) (volume : Volume)
    (V U : ModelWorld) (r : ℕ) (old new : Pair D) : Type 0 where
  pub keeps : disk.tells → disk.tells_moments → (was now : Standing) → IsNumbered V.standings r was
      → IsNumbered U.standings r now → (a b : List ℕ) → disk.left_since new.a (disk.moment old.a) a
      → disk.left_since new.b (disk.moment old.b) b
      → KeepsFor volume V.events r (kept a b) was
      ⊎ (BeginsSave V U r × KeepsFor volume U.events r (kept a b) now)
  pub unwritten : (BeginsSave V U r → ⊥) → PairRests disk old new
  pub spans : disk.tells_moments → PairSpans disk.moment disk.left_since old new

pub record Neighbours {D : Type 0} (kept : List ℕ → List ℕ → Option Kept) (disk : Disk D) (volume : Volume)
    (V U : ModelWorld) (old new : List (Pair D)) : Type 0 where
  pub count : length new ≡ length old
  pub each : (r : ℕ) (was now : Pair D) → IsNumbered old r was → IsNumbered new r now
      → PairBetween kept disk volume V U r was now

-- where a command is refused that has asked nothing of the disks, they are as before
abbrev pub SparesRefused : {D : Type 0} → Disk D → Command → Answer → List (Pair D) → List (Pair D) → Type 0
SparesRefused disk command answer old new =
    (refusal : Refusal) → answer ≡ Refused refusal → SparesDisks command refusal → AreSpared disk old new

-- States of the disks, one after the other, each with a world of the model: a state is as the one before it, or is left
-- by one step from the world before it. A pull is a step for each of its messages.
pub data Trail {D : Type 0} (kept : List ℕ → List ℕ → Option Kept) (disk : Disk D) (volume : Volume) :
    ModelWorld → ModelWorld → List (Pair D) → List (Pair D) → Type 0 where
  Still : {W : ModelWorld} {old new : List (Pair D)} → Neighbours kept disk volume W W old new
      → Trail kept disk volume W W old new
  Link : {V U : ModelWorld} {old new : List (Pair D)} {command : Command} {outcomes : List Outcome} {answer : Answer}
      → Step volume V command outcomes answer U → Neighbours kept disk volume V U old new
      → SparesRefused disk command answer old new → Trail kept disk volume V U old new
  Joined : {V M U : ModelWorld} {old mid new : List (Pair D)} → Trail kept disk volume V M old mid
      → Trail kept disk volume M U mid new → Trail kept disk volume V U old new

-- two neighbours of the trail have P
abbrev pub Somewhere : {D : Type 0} {kept : List ℕ → List ℕ → Option Kept} {disk : Disk D} {volume : Volume}
    {V U : ModelWorld} {old new : List (Pair D)}
    → (ModelWorld → ModelWorld → List (Pair D) → List (Pair D) → Type 0) → Trail kept disk volume V U old new → Type 0
Somewhere P (Still {W = W} {old = x} {new = y} rests) = P W W x y
Somewhere P (Link {V = V} {U = U} {old = x} {new = y} step crosses spared) = P V U x y
Somewhere P (Joined one two) = Somewhere P one ⊎ Somewhere P two

-- each link of the trail is of such a command
abbrev pub EachLink : {D : Type 0} {kept : List ℕ → List ℕ → Option Kept} {disk : Disk D} {volume : Volume}
    {V U : ModelWorld} {old new : List (Pair D)} → (Command → Type 0) → Trail kept disk volume V U old new → Type 0
EachLink P (Still rests) = Unit {0}
EachLink P (Link {command = command} step crosses spared) = P command
EachLink P (Joined one two) = EachLink P one × EachLink P two

-- a trail of which each link is of such a command
pub record TrailOf {D : Type 0} (kept : List ℕ → List ℕ → Option Kept) (disk : Disk D) (volume : Volume)
    (IsLink : Command → Type 0) (V U : ModelWorld) (old new : List (Pair D)) : Type 0 where
  pub trail : Trail kept disk volume V U old new
  pub own : EachLink IsLink trail

-- between these two, a crash might have left this on one disk of that number
abbrev pub LeftOn : {D : Type 0} → Disk D → (Pair D → D) → ℕ → List ℕ → ModelWorld → ModelWorld → List (Pair D)
    → List (Pair D) → Type 0
LeftOn {D} disk side r c V U old new =
    (was : Pair D) × (now : Pair D) × IsNumbered old r was × IsNumbered new r now
    × disk.left_since (side now) (disk.moment (side was)) c

-- Commands, one after the other, with the disks: each command has a trail from the world before it to the one after it,
-- of which each link is of this command.
pub data RunOn {D : Type 0} (kept : List ℕ → List ℕ → Option Kept) (disk : Disk D) (volume : Volume) :
    ModelWorld → List Command → List (List Outcome) → List Answer → ModelWorld → List (Pair D) → List (Pair D)
    → Type 0 where
  EndOn : {W : ModelWorld} {disks : List (Pair D)} → RunOn kept disk volume W [] [] [] W disks disks
  ThenOn : {old : ModelWorld} {command : Command} {commands : List Command} {outcomes : List Outcome}
      {more : List (List Outcome)} {answer : Answer} {answers : List Answer} {middle new : ModelWorld}
      {x y z : List (Pair D)} → Step volume old command outcomes answer middle
      → TrailOf kept disk volume (IsDeedOf command) old middle x y
      → RunOn kept disk volume middle commands more answers new y z
      → RunOn kept disk volume old (command ∷ commands) (outcomes ∷ more) (answer ∷ answers) new x z

-- what a crash might have left on each disk since the trail began, it might have left between some two neighbours of it
pub record Covers {D : Type 0} {kept : List ℕ → List ℕ → Option Kept} {disk : Disk D} {volume : Volume}
    {V U : ModelWorld} {old new : List (Pair D)} (trail : Trail kept disk volume V U old new) : Type 0 where
  pub on_a : (r : ℕ) (was now : Pair D) (c : List ℕ) → IsNumbered old r was → IsNumbered new r now
      → disk.left_since now.a (disk.moment was.a) c → Somewhere (LeftOn disk (λ (p : Pair D). p.a) r c) trail
  pub on_b : (r : ℕ) (was now : Pair D) (c : List ℕ) → IsNumbered old r was → IsNumbered new r now
      → disk.left_since now.b (disk.moment was.b) c → Somewhere (LeftOn disk (λ (p : Pair D). p.b) r c) trail

-- what the first of these commands has done, which was cut short
pub record CutTrail {D : Type 0} (kept : List ℕ → List ℕ → Option Kept) (disk : Disk D) (volume : Volume)
    (commands : List Command) (V U : ModelWorld) (old new : List (Pair D)) : Type 0 where
  pub command : Command
  pub later : List Command
  pub is : commands ≡ command ∷ later
  pub does : TrailOf kept disk volume (IsDeedOf command) V U old new

-- Some first commands with the disks, and then maybe what the first of those behind them has done, which was cut short.
pub record FrontOn {D : Type 0} (kept : List ℕ → List ℕ → Option Kept) (disk : Disk D) (volume : Volume)
    (W : ModelWorld) (commands behind : List Command) (outcomes : List (List Outcome)) (answers : List Answer)
    (middle after : ModelWorld) (old new : List (Pair D)) : Type 0 where
  pub mid : List (Pair D)
  pub run : RunOn kept disk volume W commands outcomes answers middle old mid
  pub rest : ((after ≡ middle) × (new ≡ mid)) ⊎ CutTrail kept disk volume behind middle after mid new

-- the trail of a first part, and of commands behind it
abbrev pub whole : {D : Type 0} {kept : List ℕ → List ℕ → Option Kept} {disk : Disk D} {volume : Volume}
    {W V U : ModelWorld} {commands : List Command} {outcomes : List (List Outcome)} {answers : List Answer}
    {entry mid now : List (Pair D)} → Trail kept disk volume W V entry mid
    → RunOn kept disk volume V commands outcomes answers U mid now → Trail kept disk volume W U entry now
whole first EndOn = first
whole first (ThenOn step does rest) = whole (Joined first does.trail) rest

-- A run from its entry on: the disks were opened, and then each command has a trail. What a crash might have left on a
-- disk since the entry, it might have left there between some two neighbours.
pub record Killed {D : Type 0} (kept : List ℕ → List ℕ → Option Kept) (disk : Disk D) (volume : Volume) (W : ModelWorld)
    (commands : List Command) (outcomes : List (List Outcome)) (answers : List Answer) (after : ModelWorld)
    (entry now : List (Pair D)) : Type 0 where
  pub opened : List (Pair D)
  pub opens : Neighbours kept disk volume W W entry opened
  pub run : RunOn kept disk volume W commands outcomes answers after opened now
  pub covers : disk.tells_moments → Covers (whole (Still opens) run)

-- the same of some first commands, and of what the first of those behind them has done, which was cut short
pub record KilledFront {D : Type 0} (kept : List ℕ → List ℕ → Option Kept) (disk : Disk D) (volume : Volume)
    (W : ModelWorld) (commands behind : List Command) (outcomes : List (List Outcome)) (answers : List Answer)
    (middle after : ModelWorld) (entry now : List (Pair D)) : Type 0 where
  pub mid : List (Pair D)
  pub killed : Killed kept disk volume W commands outcomes answers middle entry mid
  pub rest : ((after ≡ middle) × (now ≡ mid)) ⊎ CutTrail kept disk volume behind middle after mid now

-- A moment of the k-th command, from 0: two neighbours of its trail have P. The trail goes from the world after the
-- commands before it to the world after it, and each link of it is of this command.
pub record DuringAt {D : Type 0} (kept : List ℕ → List ℕ → Option Kept) (disk : Disk D) (volume : Volume)
    (P : ModelWorld → ModelWorld → List (Pair D) → List (Pair D) → Type 0) (W : ModelWorld) (commands : List Command)
    (outcomes : List (List Outcome)) (answers : List Answer) (k : ℕ) : Type 0 where
  pub before : ModelWorld
  pub ran : Run volume W (take k commands) (take k outcomes) (take k answers) before
  pub after : ModelWorld
  pub ran_too : Run volume W (take (suc k) commands) (take (suc k) outcomes) (take (suc k) answers) after
  pub old : List (Pair D)
  pub new : List (Pair D)
  pub command : Command
  pub is : slice_get commands k ≡ Some command
  pub does : TrailOf kept disk volume (IsDeedOf command) before after old new
  pub there : Somewhere P does.trail

-- what a read of this pair gives, a crash between these two states might have left
pub record WasLeft {D : Type 0} (disk : Disk D) (was now left : Pair D) : Type 0 where
  pub a : disk.left_since now.a (disk.moment was.a) (disk.seen left.a)
  pub b : disk.left_since now.b (disk.moment was.b) (disk.seen left.b)

-- this event is pending in the world at a member, which is down
abbrev pub IsPendingIn : ModelWorld → ℕ → Event → Type 0
IsPendingIn W r event = IsNumbered W.standings r (Down (Some event))

-- some of what is pending at the members up to this number, an event of each at most, in their order
pub data SomePending (IsPending : ℕ → Event → Type 0) : ℕ → List Event → Type 0 where
  NonePending : SomePending IsPending 0 []
  Without : {count : ℕ} {more : List Event} → SomePending IsPending count more → SomePending IsPending (count + 1) more
  With : {count : ℕ} {more : List Event} {event : Event} → SomePending IsPending count more
      → IsPending (count + 1) event → SomePending IsPending (count + 1) (more ++ event ∷ [])

-- The pairs of all members keep one lawful history: what has happened in this world, and some of what is pending there.
pub record KeepsFrom {D : Type 0} (kept : List ℕ → List ℕ → Option Kept) (seen : D → List ℕ) (volume : Volume)
    (W : ModelWorld) (disks : List (Pair D)) : Type 0 where
  pub more : List Event
  pub pending : SomePending (IsPendingIn W) volume.members more
  pub few : length more ≤ volume.members
  pub lawful : IsLawful volume (W.events ++ more)
  pub keeps : DisksKeep kept seen volume (W.events ++ more) disks

-- between these two, a kill might have left of all pairs what a read of these gives
pub record AreKilled {D : Type 0} (disk : Disk D) (left : List (Pair D)) (V U : ModelWorld) (old new : List (Pair D)) :
    Type 0 where
  pub count : length left ≡ length old
  pub each : (r : ℕ) (was now found : Pair D) → IsNumbered old r was → IsNumbered new r now → IsNumbered left r found
      → WasLeft disk was now found

-- this is one of the two worlds
abbrev pub IsEither : {D : Type 0} → ModelWorld → ModelWorld → ModelWorld → List (Pair D) → List (Pair D) → Type 0
IsEither W V U old new = (W ≡ V) ⊎ (W ≡ U)

-- The pairs keep one lawful history: what has happened in some world of the trail, and some of what is pending there.
-- There has happened what had before the trail, and then some first events of those that happen until its end.
pub record KeepsBetween {D : Type 0} {kept : List ℕ → List ℕ → Option Kept} {disk : Disk D} {volume : Volume}
    {before after : ModelWorld} {old new : List (Pair D)} (trail : Trail kept disk volume before after old new)
    (disks : List (Pair D)) : Type 0 where
  pub there : ModelWorld
  pub on : Somewhere (IsEither there) trail
  pub since : List Event
  pub rest : List Event
  pub so_far : there.events ≡ before.events ++ since
  pub within : after.events ≡ there.events ++ rest
  pub keeps : KeepsFrom kept disk.seen volume there disks
