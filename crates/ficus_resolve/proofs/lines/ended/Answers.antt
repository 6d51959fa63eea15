use Rattle.std.proofs.Common.{[], ◌∷◌, ◌++◌, ◌<◌, length, get_or, take, ◌∙◌, ap, sym, arith}
use Rattle.std.specs.List.{flat_map}
use Rattle.std.proofs.Math.ListN.{get_or-map, length-map}
use Rattle.std.proofs.lemmas.List.{append_assoc}
use Rattle.ficus_resolve.proofs.Versions.{nothing, flat_map_take}
use Rattle.ficus_resolve.specs.Lines.{line_text}
use Rattle.ficus_resolve.specs.Texts.{texts_of}
use Rattle.ficus_resolve.proofs.lines.ended.Goals as goal

pub loop-line-preserved : goal.loop-line-preserved
loop-line-preserved c =
    let lines = c.args.lines.now in
    let i = c.loop-line.line-index in
    let within : i < length (texts_of lines) = omega (arith, c.loop-line-test.true, length-map lines (λ t. t.now)) in
    let line = (get_or lines i nothing).now in
    let so_far = flat_map line_text (take i (texts_of lines)) in
    c.in_ok-push.ensures.items
    ∙ ap (λ text. text ++ 10 ∷ []) (c.in_ok-extend_from_slice.ensures.items ∙ ap (λ text. text ++ line) c.loop-line.invariant)
    ∙ append_assoc so_far line (10 ∷ [])
    ∙ ap (λ l. so_far ++ line_text l) (sym (get_or-map (λ t. t.now) lines i nothing))
    ∙ sym (flat_map_take line_text (texts_of lines) i [] within)
