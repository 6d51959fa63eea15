use Rattle.std.proofs.Common.{List, ℕ, ap, sym, append_assoc, ◌∙◌, ◌++◌}
use Rattle.ficus_wire.specs.Parts.{with_part}
use Rattle.ficus_wire.proofs.Holding.{front, front_more}
use Rattle.ficus_wire.proofs.parts.Parts.put_whole_with.Goals as goal

pub loop-at-preserved : goal.loop-at-preserved
loop-at-preserved c =
    let parts = with_part c.args.self.now c.args.index c.args.last.now in
    let before = c.reserve.new.self.items in
    c.in_ok-extend_from_slice.ensures.items ∙ ap (λ (l : List ℕ). l ++ c.part_with.result.now) c.loop-at.invariant
    ∙ append_assoc before (front parts c.loop-at.at) c.part_with.result.now
    ∙ ap (λ (l : List ℕ). before ++ l)
    (ap (λ (l : List ℕ). front parts c.loop-at.at ++ l) c.part_with.ensures ∙ sym (front_more parts c.loop-at.at))
