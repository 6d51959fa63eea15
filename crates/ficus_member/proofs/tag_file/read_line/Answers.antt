use Rattle.std.proofs.Common.{ℕ, List, subst, ◌∙◌, sym}
use Rattle.std.specs.Prelude.{IfSome, IfNone}
use Rattle.ficus_member.specs.TagFile.{SpellsLine, SpellsNoTag}
use Rattle.ficus_member.proofs.TagLines.{whole}
use Rattle.ficus_member.proofs.tag_file.read_line.Goals as goal

pub returns-clause-spelled : goal.returns-clause-spelled
returns-clause-spelled g c = λ tells.
    subst (λ (line : List ℕ). IfSome c.tag_in.result (SpellsLine line))
    (whole (c.in_ok-read.ensures.told tells) (c.in_ok-size.ensures.stays.keeps.seen tells)
    (sym (c.in_ok-size.ensures.told tells) ∙ c.if-branch.false)) c.tag_in.ensures.spelled

pub returns-clause-none : goal.returns-clause-none
returns-clause-none g c = λ tells.
    subst (λ (line : List ℕ). IfNone c.tag_in.result (SpellsNoTag line))
    (whole (c.in_ok-read.ensures.told tells) (c.in_ok-size.ensures.stays.keeps.seen tells)
    (sym (c.in_ok-size.ensures.told tells) ∙ c.if-branch.false)) c.tag_in.ensures.none
