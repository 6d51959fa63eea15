use Rattle.ficus_commands.specs.declared.look.Look.TheVariants.{Read}
use Rattle.ficus_rules.specs.Look.{LookRule}
use Rattle.ficus_rules.specs.Rule.{UnlessMemory}
use Rattle.ficus_deciding.specs.View.{tables_view}
use Rattle.ficus_deciding.proofs.Refusals.{refused_so}
use Rattle.ficus_deciding.proofs.looks.look.Goals as goal

pub returns-in_err-read-in-Read : goal.returns-in_err-read-in-Read
returns-in_err-read-in-Read c =
    let read = refused_so (UnlessMemory (LookRule (tables_view c.args.saved.now) (Read c.in-Read.path))) _
    c.in_err-read-in-Read.ensures _ c.from_residual-in_err-read-in-Read.ensures.1 in
    rw c.in-Read.is read
