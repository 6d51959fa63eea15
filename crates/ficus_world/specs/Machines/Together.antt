-- What machines do together, each with its own member, and what that is in the model.
use Rattle.std.specs.Prelude.{◌≡◌, ℕ, ◌-◌, List, [], ◌∷◌, ◌++◌, length, slice_set, Result}
use Rattle.ficus_ids.specs.declared.refusal.Refusal.{Refusal}
use Rattle.ficus_model.specs.Lawful.{Volume}
use Rattle.ficus_script.specs.declared.answer.Answer.{Answer}
use Rattle.ficus_script.specs.declared.command.Command.{Command}
use Rattle.ficus_script.specs.declared.command.Command.TheVariants as command
use Rattle.ficus_runs.specs.Answers.{answer_as}
use Rattle.ficus_runs.specs.ModelWorld.{ModelWorld, IsUp}
use Rattle.ficus_runs.specs.Numbered.{IsNumbered}
use Rattle.ficus_runs.specs.Outcome.{Outcome}
use Rattle.ficus_runs.specs.Run.{Step}
use Rattle.ficus_opening.specs.declared.member.Member.{Member}
use Rattle.ficus_world.specs.Moves.{CarriesOut}
use Rattle.ficus_world.specs.Post.{Outbox}
use Rattle.ficus_world.specs.World.{IsPosted, Whole, WorldStandsFor}
use Rattle.ficus_world.specs.Machines.Part.{Deed, IsAnswerLike, IsPartOf, MayBeAsked, Changes, Looks, Collects, Asks, Gives, Restarts, command_of}

-- what one machine was asked for, and what came of it, whether or not anybody has seen it
pub record Told : Type 0 where
  pub by : ℕ
  pub deed : Deed
  pub result : Result Answer Refusal

-- the machine has this message too
pub record Hears (bytes : List ℕ) (machine after : Whole) : Type 0 where
  pub post : Outbox
  pub posts : post.posts ≡ machine.post.posts ++ bytes ∷ []
  pub is : after ≡ record machine { post = post }

-- A new world around the same member, which has no message: that of the next process on the machine.
pub record Renews (r : ℕ) (machine after : Whole) : Type 0 where
  pub count : length after.members ≡ length machine.members
  pub member : Member
  pub was : IsNumbered machine.members r member
  pub is : IsNumbered after.members r member
  pub posts : after.post.posts ≡ []

-- Machines, one for each member, and all messages that any of them has posted; in some order one of them does
-- something, a message that was posted, however long ago, comes to one of them, or a new process begins on one. A
-- message that comes to nobody is lost; it may come several times. Nothing else ties the machines together.
pub data Together (tells disks_tell : Type 0) :
    List Whole → List (List ℕ) → List Told → List Whole → List (List ℕ) → Type 0 where
  Rest : {machines : List Whole} {sent : List (List ℕ)} → Together tells disks_tell machines sent [] machines sent
  Does : {machines last : List Whole} {sent last_sent : List (List ℕ)} {told : List Told} {r : ℕ}
      {machine : Whole} {deed : Deed} {result : Result Answer Refusal} (after : Whole) (outcomes : List Outcome)
      (more : List (List ℕ)) → IsNumbered machines r machine → MayBeAsked r machine deed
      → CarriesOut tells disks_tell (command_of r deed) machine result (record { outcomes = outcomes; after = after })
      → after.post.posts ≡ machine.post.posts ++ more
      → Together tells disks_tell (slice_set machines (r - 1) after) (sent ++ more) told last last_sent
      → Together tells disks_tell machines sent (record { by = r; deed = deed; result = result } ∷ told) last last_sent
  Comes : {machines last : List Whole} {sent last_sent : List (List ℕ)} {told : List Told} {r number : ℕ}
      {machine : Whole} {bytes : List ℕ} (after : Whole) → IsNumbered machines r machine → IsNumbered sent number bytes
      → Hears bytes machine after
      → Together tells disks_tell (slice_set machines (r - 1) after) sent told last last_sent
      → Together tells disks_tell machines sent told last last_sent
  Begins : {machines last : List Whole} {sent last_sent : List (List ℕ)} {told : List Told} {r : ℕ}
      {machine : Whole} (after : Whole) → IsNumbered machines r machine → Renews r machine after
      → Together tells disks_tell (slice_set machines (r - 1) after) sent told last last_sent
      → Together tells disks_tell machines sent told last last_sent

-- The machines are one world, which stands for one of the model: each keeps its member as it is there, and all
-- messages that were posted there are these.
pub record AreOneWorld (volume : Volume) (W : ModelWorld) (all : Whole) (machines : List Whole)
    (sent : List (List ℕ)) : Type 0 where
  pub stands : WorldStandsFor volume W all
  pub parts : (r : ℕ) (machine : Whole) → IsNumbered machines r machine → IsPartOf r machine all
  pub posts : all.post.posts ≡ sent

-- the command of the model that asks for it: a message is given that has these bytes there
abbrev pub IsAskedIn : Volume → ModelWorld → ℕ → Deed → Command → Type 0
IsAskedIn volume W r (Changes change) asked = asked ≡ command.Change r change
IsAskedIn volume W r (Looks look) asked = asked ≡ command.Look r look
IsAskedIn volume W r Collects asked = asked ≡ command.Collect r
IsAskedIn volume W r (Asks to) asked = asked ≡ command.Ask r to
IsAskedIn volume W r (Gives number bytes) asked =
    (there : ℕ) × (position : ℕ) × (index : ℕ) × IsPosted volume W there position index bytes
    × (asked ≡ command.Give there)
IsAskedIn volume W r Restarts asked = asked ≡ command.Restart r

-- a world of the model whose link has counted so many bytes
abbrev pub with_total : ModelWorld → ℕ → ModelWorld
with_total W total = record W { total = total }

-- What the machines did is what happens in one world of the model, one step after the other, with the same answers but
-- for the numbers of messages. Each machine's link counts its own bytes alone.
pub data Happens (volume : Volume) : ModelWorld → List Told → ModelWorld → Type 0 where
  Nothing : {W : ModelWorld} → Happens volume W [] W
  OneMore : {W middle after : ModelWorld} {one : Told} {told : List Told} (total : ℕ) (asked : Command)
      (outcomes : List Outcome) (again : Result Answer Refusal)
      → IsAskedIn volume W one.by one.deed asked → IsAnswerLike one.result again
      → Step volume (with_total W total) asked outcomes (answer_as again) middle
      → Happens volume middle told after → Happens volume W (one ∷ told) after

-- what machines come to that were one world: they are one still, and all that they did happens there
pub record StaysOneWorld (volume : Volume) (W : ModelWorld) (told : List Told) (machines : List Whole)
    (sent : List (List ℕ)) : Type 0 where
  pub after : ModelWorld
  pub all : Whole
  pub happens : Happens volume W told after
  pub are : AreOneWorld volume after all machines sent

-- What one process did, or several on the same machine, one after the other: the messages that came to it, in order,
-- those that it posted, what was told, and the world that it leaves. It says nothing of other machines.
pub data Alone (tells disks_tell : Type 0) (r : ℕ) :
    Whole → List (List ℕ) → List (List ℕ) → List Told → Whole → Type 0 where
  Ended : {machine : Whole} → Alone tells disks_tell r machine [] [] [] machine
  Acted : {machine after : Whole} {deed : Deed} {result : Result Answer Refusal}
      {came posted : List (List ℕ)} {told : List Told} (middle : Whole) (outcomes : List Outcome)
      (more : List (List ℕ)) → MayBeAsked r machine deed
      → CarriesOut tells disks_tell (command_of r deed) machine result (record { outcomes = outcomes; after = middle })
      → middle.post.posts ≡ machine.post.posts ++ more → Alone tells disks_tell r middle came posted told after
      → Alone tells disks_tell r machine came (more ++ posted)
      (record { by = r; deed = deed; result = result } ∷ told) after
  Heard : {machine after : Whole} {bytes : List ℕ} {came posted : List (List ℕ)} {told : List Told} (middle : Whole)
      → Hears bytes machine middle → Alone tells disks_tell r middle came posted told after
      → Alone tells disks_tell r machine (bytes ∷ came) posted told after
  Renewed : {machine after : Whole} {came posted : List (List ℕ)} {told : List Told} (middle : Whole)
      → Renews r machine middle → Alone tells disks_tell r middle came posted told after
      → Alone tells disks_tell r machine came posted told after

-- all of these messages were posted
abbrev pub WerePosted : List (List ℕ) → List (List ℕ) → Type 0
WerePosted [] sent = Unit {0}
WerePosted (bytes ∷ came) sent = ((number : ℕ) × IsNumbered sent number bytes) × WerePosted came sent

-- The machine keeps member r as a world has it that stands for W, where the member is up; it has no message.
pub record OpenedAt (volume : Volume) (W : ModelWorld) (r : ℕ) (machine : Whole) : Type 0 where
  pub world : Whole
  pub stands : WorldStandsFor volume W world
  pub up : IsUp r W
  pub renews : Renews r world machine
