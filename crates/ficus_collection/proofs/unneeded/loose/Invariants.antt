use Rattle.ficus_mentions.proofs.Kept.{AreKeptSoFar}
use Rattle.ficus_file.specs.Files.{id_of}
use Rattle.ficus_collection.specs.Chosen.{HoldsOrphan}
use Rattle.ficus_collection.proofs.unneeded.loose.Given as goal

abbrev pub invariant-loop-index : goal.invariant-loop-index
invariant-loop-index l =
    AreKeptSoFar id_of (λ id. HoldsOrphan l.fn.orphans id → ⊥) l.fn.files l.index l.ids.items
