use Rattle.std.proofs.Common.{◌≡◌, length}
use Rattle.std.specs.Prelude.{map}
use Rattle.ficus_file_disk.specs.Place.{all_places, places_of}
use Rattle.ficus_file_disk.proofs.volume.disks_in.Given as goal

-- there are the disks of the replicas up to this one
abbrev pub invariant-loop-before : goal.invariant-loop-before
invariant-loop-before g l = record {
  places : map places_of l.disks.items ≡ all_places l.root l.before;
  count : length l.disks.items ≡ l.before;
}
