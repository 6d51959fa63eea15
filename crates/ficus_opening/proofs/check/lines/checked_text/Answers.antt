use Rattle.std.proofs.Common.{ℕ, [], ◌++◌, List, ap, ◌∙◌, sym, arith}
use Rattle.ficus_opening.specs.Check.Lines.{checked_line}
use Rattle.ficus_opening.proofs.check.Numbering.{lines_next}
use Rattle.ficus_opening.proofs.check.lines.checked_text.Goals as goal

pub loop-index-preserved : goal.loop-index-preserved
loop-index-preserved c = record {
  within = omega arith;
  text = lines_next checked_line c.args.judgements.now c.loop-index.index c.index-judgements-index.result
      c.index-judgements-index.result [] c.loop-index.text.items c.extend_from_slice.new.self.items
      c.loop-index-test.true (sym c.index-judgements-index.is) c.loop-index.invariant.text
      (c.in_ok-extend_from_slice.ensures.items
      ∙ ap (λ (line : List ℕ). c.loop-index.text.items ++ line) (c.deref.ensures.value ∙ c.in_ok-line.ensures));
}
