-- Over which disks the program runs.
use Rattle.std.specs.Prelude.{◌≡◌, All, List, length, map}
use Rattle.ficus_file_disk.specs.Place.{all_places, places_of}
use Rattle.ficus_words.specs.Grammar.{Text}
use Rattle.ficus_disk.specs.Fresh.{IsFreshPair}
use Rattle.ficus_top.specs.Words.{NameRoot}
use Rattle.ficus_cli.specs.declared.disks.Disks.{Disks}
use Rattle.ficus_cli.specs.declared.disks.Disks.TheVariants.{InFolder, InMemory}

-- The words name a folder, and in it lie these disks, a pair for each replica that a volume may have; or they name
-- none, and these are as many fresh ones in memory.
abbrev pub AreFor : {R File Dir : Type 0} → List Text → Disks R File Dir → Type 0
AreFor words (InFolder disks) =
    (root : Text) × NameRoot words root × (map places_of disks.items ≡ all_places root 8) × (length disks.items ≡ 8)
AreFor words (InMemory disks) =
    ((root : Text) → NameRoot words root → ⊥) × All IsFreshPair disks.items × (length disks.items ≡ 8)
