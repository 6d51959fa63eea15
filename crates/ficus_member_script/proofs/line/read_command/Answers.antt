use Rattle.std.proofs.Common.{rules}
use Rattle.std.proofs.lemmas.Result.{err_from_is_err_and}
use Rattle.ficus_member_script.proofs.Lines.{last_spells, not_empty, reading_err}
use Rattle.ficus_member_script.proofs.line.read_command.Goals as goal

pub returns-in_err-lines : goal.returns-in_err-lines
returns-in_err-lines c =
    let p = err_from_is_err_and c.from_residual.result c.from_residual.ensures.1 in
    rw (p.1, p.2)
    (reading_err c.args.line.now c.requires.kept c.requires.own c.requires.no_name c.read_volume_script.result _ c.in_err-lines.was
    c.read_volume_script.ensures.bad_line c.read_volume_script.ensures.no_line)

pub returns-in-Some : goal.returns-in-Some
returns-in-Some c =
    last_spells c.args.line.now c.requires.kept c.requires.own _ _ c.in-Some.field-0 c.in_ok-lines.ensures.script
    c.in-Some.ensures.items

pub returns : goal.returns
returns c = absurd (not_empty c.args.line.now c.requires.kept c.requires.own _ c.in_ok-lines.ensures.script (search rules))
