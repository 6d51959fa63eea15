use Rattle.ficus_file.specs.Files.{id_of, Holds}
use Rattle.ficus_mentions.proofs.Kept.{AreKeptSoFar}
use Rattle.ficus_merge_files.proofs.alone.theirs_alone.Given as goal

abbrev pub invariant-loop-index : goal.invariant-loop-index
invariant-loop-index l =
    AreKeptSoFar id_of (λ id. Holds l.news.mine id → ⊥) l.news.new l.index l.ids.items
