-- Where disks over files lie.
use Rattle.std.specs.Prelude.{ℕ, Bool, List, ◌++◌, codes, map}
use Rattle.std.specs.Fmt.{decimal}
use Rattle.std.specs.List.{range_with_len}
use Rattle.ficus_disk.specs.declared.pair.Pair.{Pair}
use Rattle.ficus_file_disk.specs.Told.{Told}

-- a disk over a file: where this lies, in the runtime's own terms, how often the disk has failed, whether the file is
-- open, how many of the folders above it are to be synced with it, and what the system has told, where it tells that
pub record Placed : Type 0 where
  pub path : List ℕ
  pub faults : ℕ
  pub is_open : Bool
  pub unsynced : ℕ
  pub told : List Told

-- where the two disks of a pair lie
pub record Places : Type 0 where
  pub a : List ℕ
  pub b : List ℕ

abbrev pub places_of : Pair Placed → Places
places_of pair = record { a = pair.a.path; b = pair.b.path }

-- in a volume's folder ROOT the disks of replica r lie at `ROOT/r/a.img` and `ROOT/r/b.img`
abbrev pub places_in : List ℕ → ℕ → Places
places_in root r = record {
  a = root ++ codes "/" ++ decimal r ++ codes "/a.img";
  b = root ++ codes "/" ++ decimal r ++ codes "/b.img";
}

-- those of so many replicas, from 1
abbrev pub all_places : List ℕ → ℕ → List Places
all_places root count = map (places_in root) (range_with_len 1 count)
