-- The legs of a round, in the code and in the model.
use Rattle.ficus_runs.specs.Sweep as model
use Rattle.ficus_loop.specs.declared.sweep_steps.Leg.{Leg}
use Rattle.ficus_loop.specs.declared.sweep_steps.Leg.TheVariants.{Gathers, Spreads, HandsOn, Collects}

abbrev pub leg_of : Leg → model.Leg
leg_of Gathers = model.Gathers
leg_of Spreads = model.Spreads
leg_of HandsOn = model.HandsOn
leg_of Collects = model.Collects
