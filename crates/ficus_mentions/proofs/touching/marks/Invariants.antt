use Rattle.std.proofs.Common.{take}
use Rattle.ficus_mentions.specs.Touched.{touched_by}
use Rattle.ficus_mentions.specs.Touched.{AreMarked}
use Rattle.ficus_mentions.proofs.touching.marks.Given as goal

abbrev pub invariant-loop-index : goal.invariant-loop-index
invariant-loop-index l = AreMarked (touched_by (take l.index l.entries)) l.ids l.marks.items
