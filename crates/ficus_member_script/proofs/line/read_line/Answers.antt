use Rattle.ficus_member_script.proofs.Begins.{elsewhere_spells_none}
use Rattle.ficus_member_script.proofs.line.read_line.Goals as goal

pub returns-in-None : goal.returns-in-None
returns-in-None c = elsewhere_spells_none c.args.line.now (c.begins_elsewhere.ensures.0 c.if-begins_elsewhere.true)
