-- Whatever a machine does, the world of all does.
use Rattle.std.proofs.Common.{◌≡◌, ℕ, length, Result}
use Rattle.ficus_ids.specs.declared.refusal.Refusal.{Refusal}
use Rattle.ficus_script.specs.declared.answer.Answer.{Answer}
use Rattle.ficus_runs.specs.Sequence.{Effect}
use Rattle.ficus_world.specs.Moves.{CarriesOut}
use Rattle.ficus_world.specs.World.{Whole}
use Rattle.ficus_world.specs.Machines.Part.{Deed, IsPartOf, IsStepOfAll, MayBeAsked, Changes, Looks, Collects, Asks, Gives, Restarts, command_of}
use Rattle.ficus_world.proofs.machines.Mail.{ask_steps, give_steps}
use Rattle.ficus_world.proofs.machines.Steps.{change_steps, collect_steps, look_steps, restart_steps}

module _ (tells disks_tell : Type 0) (told : tells) (r : ℕ) (machine all : Whole) (part : IsPartOf r machine all)
    (counted : length all.post.posts ≡ length all.post.behind) where
  pub deed_steps : (deed : Deed) → MayBeAsked r machine deed → (result : Result Answer Refusal) (left : Effect Whole)
      → CarriesOut tells disks_tell (command_of r deed) machine result left
      → IsStepOfAll tells disks_tell r machine all deed result left.outcomes left.after
  deed_steps (Changes change) may result left does =
      change_steps tells disks_tell r machine all part change result left does
  deed_steps (Looks look) may result left does =
      look_steps tells disks_tell r machine all part look result left does
  deed_steps Collects may result left does = collect_steps tells disks_tell r machine all part result left does
  deed_steps (Asks to) may result left does =
      ask_steps tells disks_tell told r machine all part to result left does
  deed_steps (Gives number bytes) may result left does =
      give_steps tells disks_tell told r machine all part counted number bytes may result left does
  deed_steps Restarts may result left does = restart_steps tells disks_tell r machine all part result left does
