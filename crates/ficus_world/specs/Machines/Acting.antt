-- What a call on the world of a machine promises: what a machine may do alone.
use Rattle.std.specs.Prelude.{◌≡◌, ℕ, List, [], ◌∷◌, ◌++◌, length, Result}
use Rattle.ficus_ids.specs.declared.refusal.Refusal.{Refusal}
use Rattle.ficus_script.specs.declared.answer.Answer.{Answer}
use Rattle.ficus_script.specs.declared.command.Command.{Command}
use Rattle.ficus_wire.specs.declared.message.Message.{Message}
use Rattle.ficus_runs.specs.Answers.{answer_as}
use Rattle.ficus_runs.specs.Message.{IsSpelled}
use Rattle.ficus_world.specs.World.{Whole}
use Rattle.ficus_world.specs.Machines.Part.{Deed, Gives, MayBeAsked, command_of, goes_to}
use Rattle.ficus_world.specs.Machines.Together.{Alone}

-- The machine of member r did this, these messages came to it before that, it posted some, and answered so.
pub record ActsAlone (tells disks_tell : Type 0) (r : ℕ) (came : List (List ℕ)) (deed : Deed) (answer : Answer)
    (machine after : Whole) : Type 0 where
  pub result : Result Answer Refusal
  pub answer_is : answer ≡ answer_as result
  pub posted : List (List ℕ)
  pub alone : Alone tells disks_tell r machine came posted
      (record { by = r; deed = deed; result = result } ∷ []) after
  pub sent : after.post.posts ≡ (machine.post.posts ++ came) ++ posted

-- whichever member's machine it is, and whatever that was asked for by this command
abbrev pub ActsFor : Type 0 → Type 0 → Command → Answer → Whole → Whole → Type 0
ActsFor tells disks_tell command answer machine after =
    (r : ℕ) (deed : Deed) → command ≡ command_of r deed → MayBeAsked r machine deed
    → ActsAlone tells disks_tell r [] deed answer machine after

-- whatever the bytes spell goes to this member
abbrev pub IsMailFor : ℕ → ℕ → List ℕ → Type 0
IsMailFor members r bytes = (m : Message) → IsSpelled members bytes m → goes_to m ≡ r

-- the machine of the member to which these bytes go has heard them, and then taken them
abbrev pub TakesFor : Type 0 → Type 0 → List ℕ → Answer → Whole → Whole → Type 0
TakesFor tells disks_tell bytes answer machine after =
    (r : ℕ) → IsMailFor (length machine.members) r bytes
    → (number : ℕ) × ActsAlone tells disks_tell r (bytes ∷ []) (Gives number bytes) answer machine after
