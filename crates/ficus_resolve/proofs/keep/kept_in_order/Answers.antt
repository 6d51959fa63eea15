use Rattle.std.proofs.Common.{[], ◌∷◌, ◌++◌, ◌+◌, codes, get_or, length, refl, ◌∙◌, ap}
use Rattle.ficus_resolve.proofs.Versions.{nothing, kept_more, kept_whole}
use Rattle.ficus_resolve.specs.Keep.{headline}
use Rattle.ficus_resolve.specs.Texts.{ending}
use Rattle.ficus_resolve.proofs.keep.kept_in_order.Goals as goal

pub loop-index-preserved : goal.loop-index-preserved
loop-index-preserved c =
    let versions = c.args.versions.now in
    let index = c.loop-index.index in
    let old = c.loop-index.text.items in
    let line = headline (length versions) (index + 1) in
    let content = (get_or versions index nothing).now in
    let headed =
    c.in_ok-extend_from_slice.ensures.items
    ∙ ap (λ more. old ++ more) (c.deref.ensures.value ∙ c.in_ok-headline.ensures)
    ∙ ap (λ text. text ++ line) c.loop-index.invariant in
    c.in_ok-append_version.ensures
    ∙ ap (λ text. text ++ content ++ ending content) headed
    ∙ kept_more versions index content c.loop-index-test.true refl

pub returns : goal.returns
returns c =
    c.in_ok-extend_from_slice-2.ensures.items
    ∙ ap (λ text. text ++ (codes "=== end" ++ 10 ∷ [])) c.loop-index.invariant
    ∙ kept_whole c.args.versions.now c.loop-index.index c.loop-index-test.false
