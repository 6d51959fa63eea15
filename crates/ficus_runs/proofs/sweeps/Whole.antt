-- What a whole sweep leaves, and how much it adds.
use Rattle.std.proofs.Common.{ℕ, ◌≤◌, List, arith}
use Rattle.ficus_model.specs.declared.event.Event.{Event}
use Rattle.ficus_model.specs.Lawful.{Volume, IsLawful}
use Rattle.ficus_sweep_laws.specs.Laws.{IsSwept}
use Rattle.ficus_sweep_laws.proofs.Sweeping.{star_swept, ring_swept}
use Rattle.ficus_sweep_laws.proofs.Bounds.{star_sweep_length, ring_sweep_length}
use Rattle.ficus_runs.specs.Sweep.{sweep_steps, none_swept}
use Rattle.ficus_runs.specs.Sweeps.Laws.{SweepsSweep, SweepsAdd, AddsSo}
use Rattle.ficus_script.specs.declared.order.Order.{Order}
use Rattle.ficus_script.specs.declared.order.Order.TheVariants.{Star, Ring}
use Rattle.ficus_runs.proofs.sweeps.Chains.{StepsAdded, sweep_adds}
use Rattle.ficus_runs.proofs.sweeps.Rounds.{star_sweeps, ring_sweeps}

swept_by : (volume : Volume) (order : Order) (H K : List Event) → 2 ≤ volume.members → IsLawful volume H
    → StepsAdded H (sweep_steps order volume.members) K → IsSwept volume.members K
swept_by volume Star H K two lawful added =
    star_swept volume H K lawful (star_sweeps volume.members (omega arith) H K added)
swept_by volume Ring H K two lawful added =
    ring_swept volume H K two lawful (ring_sweeps volume.members (omega arith) H K added)

pub all_swept : SweepsSweep
all_swept volume order W swept left two lawful does =
    swept_by volume order W.events left.after.events two lawful
    (sweep_adds volume (sweep_steps order volume.members) none_swept swept W left does)

added_by : (order : Order) (members : ℕ) (H K : List Event) → 2 ≤ members
    → StepsAdded H (sweep_steps order members) K → AddsSo order members H K
added_by Star members H K two added = star_sweep_length (star_sweeps members (omega arith) H K added)
added_by Ring members H K two added = ring_sweep_length (ring_sweeps members (omega arith) H K added)

pub all_added : SweepsAdd
all_added volume order W swept left two does =
    added_by order volume.members W.events left.after.events two
    (sweep_adds volume (sweep_steps order volume.members) none_swept swept W left does)
