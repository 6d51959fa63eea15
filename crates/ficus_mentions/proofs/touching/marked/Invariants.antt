use Rattle.ficus_mentions.specs.Touched.{HasMark}
use Rattle.ficus_mentions.proofs.Kept.{AreKeptSoFar}
use Rattle.ficus_mentions.proofs.touching.marked.Given as goal

abbrev pub invariant-loop-index : goal.invariant-loop-index
invariant-loop-index l = AreKeptSoFar (λ id. id) (HasMark l.ids l.marks) l.ids l.index l.kept.items
