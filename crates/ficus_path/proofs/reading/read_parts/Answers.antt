use Rattle.std.proofs.Common.{◌≡◌, length, arith, rules}
use Rattle.ficus_path.proofs.PathLaws.{goes_on, GoesOn-longer, GoesOn-component, IsReadTo-more}
use Rattle.ficus_path.proofs.reading.read_parts.Goals as goal

pub returns-then-is_full-clause-none : goal.returns-then-is_full-clause-none
returns-then-is_full-clause-none c = λ parts fits all e.
    let more = goes_on c.args.text.now c.loop-rest.parts.items parts c.loop-rest.rest.now c.loop-rest.invariant c.in-len1-up.len_at_least all e in
    let full : length c.loop-rest.parts.items ≡ 32 = search rules in
    absurd (omega (arith, GoesOn-longer more))

pub returns-in_err-part-clause-none : goal.returns-in_err-part-clause-none
returns-in_err-part-clause-none c = rw c.from_residual.ensures (λ parts fits all e.
    let more = goes_on c.args.text.now c.loop-rest.parts.items parts c.loop-rest.rest.now c.loop-rest.invariant c.in-len1-up.len_at_least all e in
    let part = GoesOn-component _ _ more c.cut_before.ensures.whole c.cut_before.ensures.front c.cut_before.ensures.rest in
    c.in_err-part.ensures.none part.0 part.1 part.2)

pub loop-rest-preserved : goal.loop-rest-preserved
loop-rest-preserved c =
    rw (c.push.ensures.items, c.of.ensures)
    (IsReadTo-more c.args.text.now _ _ c.loop-rest.parts.items c.loop-rest.rest.now c.in_ok-part.part
    c.loop-rest.invariant c.in-len1-up.len_at_least (search rules) c.cut_before.ensures.whole
    c.cut_before.ensures.rest c.in_ok-part.ensures.part c.in_ok-part.ensures.found)
