use Rattle.ficus_view_laws.proofs.Collecting.{left_needed, none_full}
use Rattle.ficus_view_laws.proofs.collections.collections_leave_what_is_needed.Goals as goal

pub returns-clause-entries : goal.returns-clause-entries
returns-clause-entries c = λ members H replica entry is_member held full. none_full members H replica entry is_member held full

pub returns-clause-objects : goal.returns-clause-objects
returns-clause-objects c = left_needed
