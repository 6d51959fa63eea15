use Rattle.std.specs.Prelude.{Contains}
use Rattle.ficus_mentions.proofs.Kept.{AreKeptSoFar}
use Rattle.ficus_collection.proofs.unneeded.others.Given as goal

abbrev pub invariant-loop-id : goal.invariant-loop-id
invariant-loop-id l = AreKeptSoFar (λ id. id) (λ id. Contains l.others id → ⊥) l.ids l.id-index l.left.items
