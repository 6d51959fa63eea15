use Rattle.std.proofs.Common.{◌∙◌, ap, sym}
use Rattle.ficus_path.specs.Spelling.{name_text}
use Rattle.ficus_path.proofs.NameLaws.{no_name}
use Rattle.ficus_path.proofs.name.read_name.Goals as goal

pub returns-clause-none : goal.returns-clause-none
returns-clause-none c =
    let spelled = c.in_ok-bytes.ensures.found ∙ ap name_text (sym c.deref.ensures.0) in
    rw c.ok.ensures.value (no_name c.deref.result.now _ c.new.result spelled c.new.ensures.not_name c.new.ensures.memory)
