use Rattle.ficus_rules.specs.View.{history_view}
use Rattle.ficus_command_laws.proofs.Late.{others_late, the_one}
use Rattle.ficus_command_laws.proofs.wanting.memory_is_wanted_late.Goals as goal

pub returns-clause-others : goal.returns-clause-others
returns-clause-others c = λ volume H replica asked late. others_late (history_view volume H replica) asked late

pub returns-clause-resolve : goal.returns-clause-resolve
returns-clause-resolve c = λ volume H replica path none. the_one (λ needs. none needs.file needs.walked needs.conflict)

pub returns-clause-remove : goal.returns-clause-remove
returns-clause-remove c = λ volume H replica path none. the_one (λ needs. none needs.found needs.walked needs.full)

pub returns-clause-moved : goal.returns-clause-moved
returns-clause-moved c = λ volume H replica from path none. the_one (λ needs. none needs.places needs.walked needs.directory)

pub returns-clause-adopt : goal.returns-clause-adopt
returns-clause-adopt c = λ volume H replica orphan path none. the_one (λ needs. none needs.is needs.directory)
