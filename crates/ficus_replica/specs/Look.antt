-- What the looks at a replica give.
use Rattle.std.specs.Prelude.{ℕ, List, Result}
use Rattle.ficus_ids.specs.declared.refusal.Refusal.{Refusal}
use Rattle.ficus_model.specs.declared.event.Event.{Event}
use Rattle.ficus_model.specs.Lawful.{Volume}
use Rattle.ficus_commands.specs.declared.look.Look.{Look}
use Rattle.ficus_commands.specs.declared.told.Told.{Told}
use Rattle.ficus_rules.specs.Look.{LookRule}
use Rattle.ficus_rules.specs.Rule.{UnlessMemory}
use Rattle.ficus_rules.specs.View.{history_view}
use Rattle.ficus_deciding.specs.Told.{ToldAs}
use Rattle.ficus_deciding.specs.View.{tables_view}
use Rattle.ficus_replica.specs.declared.replica.Replica.{Replica}

-- what a look gives, over what the replica holds
abbrev pub LookGives : Replica → Look → Result Told Refusal → Type 0
LookGives replica look result = UnlessMemory (LookRule (tables_view replica.saved) look) result

-- what a look gives, told in this way
abbrev pub LookGivesAs : {A : Type 0} → Replica → Look → (A → Told) → Result A Refusal → Type 0
LookGivesAs replica look told_as result = ToldAs told_as (LookGives replica look) result

-- what a look at replica r gives after the history
abbrev pub LookStands : Volume → List Event → ℕ → Look → Result Told Refusal → Type 0
LookStands volume H r look result = UnlessMemory (LookRule (history_view volume H r) look) result
