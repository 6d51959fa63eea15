-- `tree`: what it answers.
use Rattle.std.specs.Prelude.{Result}
use Rattle.ficus_ids.specs.declared.refusal.Refusal.{Refusal}
use Rattle.ficus_rules.specs.Lines.{AreLines}
use Rattle.ficus_rules.specs.Rule.{Tells}
use Rattle.ficus_commands.specs.declared.told.Told.{Told}
use Rattle.ficus_commands.specs.declared.told.Told.TheVariants.{Tree}
use Rattle.ficus_rules.specs.View.{View, IsReachedIn}

-- the shown names of each directory that is reached from the root
abbrev pub TreeRule : View → Result Told Refusal → Type 0
TreeRule view = Tells Tree (AreLines view (IsReachedIn view))
