use Rattle.std.proofs.Common.{sym, ◌∙◌, rules}
use Rattle.ficus_path.specs.Text.{quoted_byte_text}
use Rattle.ficus_path.proofs.SpelledLaws.{spelled_goes_on}
use Rattle.ficus_path.proofs.TextLaws.{IsSpelling-quoted_byte_text}
use Rattle.ficus_path.proofs.text_draft.read_inside.Goals as goal

pub unreachable-requires : goal.unreachable-requires
unreachable-requires c =
    let more = spelled_goes_on quoted_byte_text IsSpelling-quoted_byte_text c.loop-rest.text.items c.requires.0
    c.loop-rest.rest.now (sym c.loop-rest.invariant ∙ c.requires.1) (search rules) in
    c.in_default.ensures.none more.byte _ more.spelled

pub loop-rest-smaller : goal.loop-rest-smaller
loop-rest-smaller c =
    let shorter = IsSpelling-quoted_byte_text.shorter c.in-Some.byte c.in-Some.after.now in
    rw c.in-Some.ensures.found shorter
