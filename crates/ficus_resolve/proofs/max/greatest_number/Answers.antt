use Rattle.std.proofs.Common.{◌≡◌, ◌∙◌, take, ap, arith}
use Rattle.std.specs.Str.Parse.{digits_value}
use Rattle.std.proofs.lemmas.Grind.{common_steps}
use Rattle.ficus_resolve.proofs.Numerals.{greatest_more, greatest_whole}
use Rattle.ficus_resolve.proofs.max.greatest_number.Goals as goal

pub loop-content-preserved : goal.loop-content-preserved
loop-content-preserved c =
    let read = c.in_ok-read_numeral.ensures.some ∙ ap (digits_value 10) c.items.ensures in
    greatest_more c.args.contents.now c.loop-content.content-index c.loop-content.greatest c.in_ok-read_numeral.field-0 _ c.content-item.result
    c.loop-content-test.true c.content-item.is read (rw c.items.ensures at c.in_ok-read_numeral.ensures.numeral) c.max-greatest.ensures c.loop-content.invariant

pub returns-clause-some : goal.returns-clause-some
returns-clause-some c =
    let contents = c.args.contents.now in
    let whole : take c.loop-content.content-index contents ≡ contents = grind (arith, common_steps) in
    greatest_whole contents c.loop-content.greatest c.requires (rw whole at c.loop-content.invariant)
