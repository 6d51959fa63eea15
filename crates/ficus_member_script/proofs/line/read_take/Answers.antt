use Rattle.std.proofs.Common.{rules}
use Rattle.ficus_member_script.proofs.Begins.{nameless_spells_none, take_spells}
use Rattle.ficus_member_script.proofs.line.read_take.Goals as goal

pub returns-then-is_empty : goal.returns-then-is_empty
returns-then-is_empty c = nameless_spells_none c.args.name.now (search rules)

pub returns-in-Err : goal.returns-in-Err
returns-in-Err c = take_spells c.args.name.now (search rules)
