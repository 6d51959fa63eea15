use Rattle.std.proofs.Common.{◌≡◌, ◌≤◌, length, take}
use Rattle.ficus_opening.specs.Check.Lines.{checked_text}
use Rattle.ficus_opening.proofs.check.lines.checked_text.Given as goal

abbrev pub invariant-loop-index : goal.invariant-loop-index
invariant-loop-index l = record {
  within : l.index ≤ length l.judgements;
  text : l.text.items ≡ checked_text (take l.index l.judgements);
}
