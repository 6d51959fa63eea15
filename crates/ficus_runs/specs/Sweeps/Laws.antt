-- The laws of sweeps, as the law functions state them.
use Rattle.std.specs.Prelude.{◌≡◌, ℕ, ◌+◌, ◌*◌, ◌≤◌, List, [], ◌∷◌, ◌++◌, length, sum_by, Ok}
use Rattle.ficus_ids.specs.Members.{IsMember}
use Rattle.ficus_ids.specs.declared.refusal.Refusal.TheVariants.{LinkFull}
use Rattle.ficus_model.specs.declared.event.Event.{Event}
use Rattle.ficus_model.specs.declared.event.Event.TheVariants.{Ask}
use Rattle.ficus_model.specs.Lawful.{Volume, IsLawful}
use Rattle.ficus_runs.specs.Actions.{with_event, with_post}
use Rattle.ficus_runs.specs.Exchange.{IsServedNow, Served, behind, size_of, total_limit}
use Rattle.ficus_runs.specs.Message.{IsMessageAt}
use Rattle.ficus_runs.specs.ModelWorld.{ModelWorld, IsUp}
use Rattle.ficus_runs.specs.Outcome.{Outcome}
use Rattle.ficus_runs.specs.Outcomes.{NothingFails}
use Rattle.ficus_runs.specs.Run.{Step}
use Rattle.ficus_runs.specs.Sequence.{Effect}
use Rattle.ficus_sweep_laws.specs.Laws.{IsSwept}
use Rattle.ficus_sweep_laws.specs.Sweeps.{take_count}
use Rattle.ficus_runs.specs.Sweep.{Pulling, SweepStep, Swept, Sweeps, sweep_steps, none_swept, swept_answer}
use Rattle.ficus_script.specs.declared.answer.Answer.{Answer}
use Rattle.ficus_script.specs.declared.answer.Answer.TheVariants.{Refused}
use Rattle.ficus_script.specs.declared.command.Command.TheVariants.{Sweep}
use Rattle.ficus_script.specs.declared.order.Order.{Order}
use Rattle.ficus_script.specs.declared.order.Order.TheVariants.{Star, Ring}
use Rattle.ficus_wire.specs.declared.message.Message.{Message}

-- after a sweep that met no refusal all is swept
abbrev pub SweepsSweep : Type 0
SweepsSweep =
    (volume : Volume) (order : Order) (W : ModelWorld) (swept : Swept) (left : Effect ModelWorld)
    → 2 ≤ volume.members → IsLawful volume W.events
    → Sweeps volume (sweep_steps order volume.members) none_swept W (Ok swept) left
    → IsSwept volume.members left.after.events

-- it adds three events for each pull, beside the taking of pieces, and one for each member; a star order has six pulls
-- fewer
abbrev pub AddsSo : Order → ℕ → List Event → List Event → Type 0
AddsSo Star members old new =
    length new + 18 + take_count old ≡ length old + 19 * members + take_count new
AddsSo Ring members old new = length new + take_count old ≡ length old + 13 * members + take_count new

abbrev pub SweepsAdd : Type 0
SweepsAdd =
    (volume : Volume) (order : Order) (W : ModelWorld) (swept : Swept) (left : Effect ModelWorld)
    → 2 ≤ volume.members
    → Sweeps volume (sweep_steps order volume.members) none_swept W (Ok swept) left
    → AddsSo order volume.members W.events left.after.events

-- The link lacks room for a pull from this world: for the message of its ask; or, once that is saved and posted, for
-- the pieces of what the other member serves for it.
pub data LacksRoom (volume : Volume) (by to : ℕ) (W : ModelWorld) : ModelWorld → Type 0 where
  ForAsk : {message : Message} → IsMessageAt volume (W.events ++ Ask by to ∷ []) (length W.events) 0 message
      → (W.total + size_of message ≤ total_limit → ⊥) → LacksRoom volume by to W W
  ForPieces : {message : Message} {served : Served}
      → IsMessageAt volume (W.events ++ Ask by to ∷ []) (length W.events) 0 message
      → IsServedNow volume (W.events ++ Ask by to ∷ []) to (length W.events) served
      → (W.total + size_of message + sum_by size_of served.messages ≤ total_limit → ⊥)
      → LacksRoom volume by to W
      (with_post (with_event W (Ask by to)) (behind (length W.events) 0) (size_of message))

-- the steps of a sweep in front of a pull are done, and the link lacks room for the pull
pub record StopsAtPull (volume : Volume) (steps : List SweepStep) (before : Swept) (W after : ModelWorld) : Type 0 where
  pub done : List SweepStep
  pub by : ℕ
  pub to : ℕ
  pub more : List SweepStep
  pub is : steps ≡ done ++ Pulling by to ∷ more
  pub swept : Swept
  pub left : Effect ModelWorld
  pub sweeps : Sweeps volume done before W (Ok swept) left
  pub lacks : LacksRoom volume by to left.after after

-- a sweep is answered with its counts; or it stops where the link is full, which lacks room for its next pull
pub data GoesThrough (volume : Volume) (order : Order) (W after : ModelWorld) : Answer → Type 0 where
  IsCounted : {swept : Swept} → GoesThrough volume order W after (swept_answer swept)
  IsFull : StopsAtPull volume (sweep_steps order volume.members) none_swept W after
      → GoesThrough volume order W after (Refused LinkFull)

-- where all members are up and nothing fails, a full link alone stops a sweep
abbrev pub SweepsGoThrough : Type 0
SweepsGoThrough =
    (volume : Volume) (order : Order) (W after : ModelWorld) (outcomes : List Outcome) (answer : Answer)
    → 2 ≤ volume.members → IsLawful volume W.events → ((r : ℕ) → IsMember volume.members r → IsUp r W)
    → NothingFails outcomes → Step volume W (Sweep order) outcomes answer after
    → GoesThrough volume order W after answer
