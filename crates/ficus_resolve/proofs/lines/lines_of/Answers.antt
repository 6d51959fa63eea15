use Rattle.std.proofs.Common.{rules, tests}
use Rattle.std.proofs.lemmas.Iterator.Consumers.{map_from_collect}
use Rattle.std.proofs.lemmas.Iterator.Splits.{YieldsList-from_slice_split}
use Rattle.ficus_resolve.proofs.Cuts.{is_end, are_lines}
use Rattle.ficus_resolve.proofs.lines.lines_of.Goals as goal

pub returns-in_ok-collect-in-Some : goal.returns-in_ok-collect-in-Some
returns-in_ok-collect-in-Some c =
    let body = c.in-Some.body.now in
    let cut =
    map_from_collect c.collect.result c.collect.ensures.ran (
    YieldsList-from_slice_split _ is_end body c.split.ensures.rest c.split.ensures.done c.split.ensures.closure
    (λ x r q k. search (rules, tests))
    ) in
    are_lines c.args.content.now body _ c.in-Some.ensures.some (rw c.in_ok-collect-in-Some.was at cut)
