-- What a merge of files puts in place of those of a replica, and beside them.
use Rattle.std.specs.Prelude.{◌≡◌, ◌++◌, List, Option, Some}
use Rattle.std.specs.Option.{option_or}
use Rattle.ficus_ids.specs.declared.id.Id.{Id}
use Rattle.ficus_table.specs.SideBySide.{as_list}
use Rattle.ficus_file.specs.declared.file.FileReplica.{FileReplica}
use Rattle.ficus_file.specs.Files.{IsSoundFile, HoldsUnder}
use Rattle.ficus_merge_files.specs.Merge.{Merges}

-- what stands for a file of theirs in place of what mine hold under its identifier, or nothing, where that stays
pub record IsReplacement (held : List Id) (mine : List FileReplica) (theirs : FileReplica)
    (replacement : Option FileReplica) : Type 0 where
  pub merges : (at_mine : Option FileReplica) → HoldsUnder mine theirs.id at_mine →
      Merges held at_mine (Some theirs) (option_or replacement at_mine)
  pub fits : (file : FileReplica) → replacement ≡ Some file → IsSoundFile file × (file.id ≡ theirs.id)

-- the new list has at its end what stands for a file of theirs
pub record AddsReplacement (held : List Id) (mine : List FileReplica) (theirs : FileReplica)
    (old new : List FileReplica) : Type 0 where
  pub replacement : Option FileReplica
  pub is_replacement : IsReplacement held mine theirs replacement
  pub is : new ≡ old ++ as_list replacement

-- what both make together under each identifier is the replacement there, or what mine hold
pub record AreReplacements (held : List Id) (mine theirs replacements : List FileReplica) : Type 0 where
  pub each : (id : Id) (at_mine at_theirs replacement : Option FileReplica) → HoldsUnder mine id at_mine →
      HoldsUnder theirs id at_theirs → HoldsUnder replacements id replacement →
      Merges held at_mine at_theirs (option_or replacement at_mine)
