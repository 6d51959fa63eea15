use Rattle.std.proofs.Common.{◌≡◌, ◌++◌, ◌∙◌, take, ap, arith}
use Rattle.std.proofs.lemmas.Grind.{common_steps}
use Rattle.std.proofs.lemmas.List.{map-append}
use Rattle.ficus_resolve.proofs.Cuts.{lines_more}
use Rattle.ficus_resolve.proofs.Order.{IsInOrder-along}
use Rattle.ficus_resolve.specs.Texts.{texts_of}
use Rattle.ficus_resolve.proofs.lines.lines_among.Goals as goal

pub loop-content-preserved : goal.loop-content-preserved
loop-content-preserved c =
    let contents = c.args.contents.now in
    let old = c.loop-content.lines.items in
    let added = c.in_ok-lines_of.field-0.items in
    let pushed = c.in_ok-extend_from_slice.ensures.items ∙ ap (λ more. old ++ more) c.deref.ensures.value in
    let new : texts_of c.extend_from_slice.new.self.items ≡ texts_of old ++ texts_of added =
    ap texts_of pushed ∙ map-append (λ t. t.now) old added in
    rw new (
    lines_more contents c.loop-content.content-index c.content-item.result (texts_of old) (texts_of added)
    c.loop-content-test.true c.content-item.is (rw c.items.ensures at c.in_ok-lines_of.ensures) c.loop-content.invariant
    )

pub returns : goal.returns
returns c =
    let contents = c.args.contents.now in
    let whole : take c.loop-content.content-index contents ≡ contents = grind (arith, common_steps) in
    IsInOrder-along (rw whole at c.loop-content.invariant) c.sorted.ensures
