use Rattle.std.proofs.Common.{[], ◌∷◌, ◌++◌, sym, ◌∙◌, rules}
use Rattle.std.proofs.lemmas.Bool.{false≢true}
use Rattle.ficus_path.specs.Text.{quoted_byte_text}
use Rattle.ficus_path.proofs.SpelledLaws.{spelled_goes_on, spelled_more}
use Rattle.ficus_path.proofs.TextLaws.{IsSpelling-quoted_byte_text}
use Rattle.ficus_path.proofs.text_draft.spells_inside.Goals as goal

pub returns-in_default : goal.returns-in_default
returns-in_default c = (
  λ yes. absurd (false≢true yes),
  λ spells.
      let more = spelled_goes_on quoted_byte_text IsSpelling-quoted_byte_text c.loop-rest.invariant.0 spells.0
      c.loop-rest.rest.now (sym c.loop-rest.invariant.1 ∙ spells.1) (search rules) in
      absurd (c.in_default.ensures.none more.byte _ more.spelled),
)

pub loop-rest-preserved : goal.loop-rest-preserved
loop-rest-preserved c = (
  c.loop-rest.invariant.0 ++ c.in-Some.field-0-0 ∷ [],
  spelled_more quoted_byte_text c.args.inside.now _ _ c.loop-rest.rest.now c.in-Some.after.now c.loop-rest.invariant.1
      c.in-Some.ensures.found,
)

pub loop-rest-smaller : goal.loop-rest-smaller
loop-rest-smaller c =
    let shorter = IsSpelling-quoted_byte_text.shorter c.in-Some.field-0-0 c.in-Some.after.now in
    rw c.in-Some.ensures.found shorter
