-- What a call of the program saw of the outside.
use Rattle.std.specs.Prelude.{ℕ, List, Vec, vec_items}
use Rattle.std.specs.declared.alloc.Global.{Global}
use Rattle.ficus_disk.specs.declared.disk.Disk.{Ghosts as Disk}
use Rattle.ficus_disk.specs.declared.pair.Pair.{Pair}
use Rattle.ficus_faults.specs.Faults.{Rose}
use Rattle.ficus_outside.specs.declared.sink.Sink.{Ghosts as Sink}
use Rattle.ficus_outside.specs.declared.source.Source.{Ghosts as Source}

-- what a call was lent: as it was, and as it is given back
pub record Lent (A : Type 0) : Type 0 where
  pub old : A
  pub new : A

-- a source, a sink and a pair of disks for each of eight replicas, before the call and after it, and what each of them
-- tells
pub record Seen (S K D : Type 0) : Type 1 where
  pub source : Source S
  pub input : Lent S
  pub sink : Sink K
  pub output : Lent K
  pub disk : Disk D
  pub disks : Lent (Vec (Pair D) Global)

module _ {S K D : Type 0} where
  -- what was seen of a source, a sink and disks
  abbrev pub seen_of : Source S → S → S → Sink K → K → K → Disk D → Vec (Pair D) Global → Vec (Pair D) Global
      → Seen S K D
  seen_of source in_old in_new sink out_old out_new disk old new = record {
    source = source;
    input = record { old = in_old; new = in_new };
    sink = sink;
    output = record { old = out_old; new = out_new };
    disk = disk;
    disks = record { old = old; new = new };
  }

  -- what the source had
  abbrev pub script_of : Seen S K D → List ℕ
  script_of seen = seen.source.left seen.input.old

  -- what the source has left
  abbrev pub left_of : Seen S K D → List ℕ
  left_of seen = seen.source.left seen.input.new

  -- what the sink had before, and what it has now
  abbrev pub put_before : Seen S K D → List ℕ
  put_before seen = seen.sink.written seen.output.old

  abbrev pub put_after : Seen S K D → List ℕ
  put_after seen = seen.sink.written seen.output.new

  abbrev pub disks_before : Seen S K D → List (Pair D)
  disks_before seen = vec_items seen.disks.old

  abbrev pub disks_after : Seen S K D → List (Pair D)
  disks_after seen = vec_items seen.disks.new

  -- the source has failed in this call, or the sink
  abbrev pub SourceFailed : Seen S K D → Type 0
  SourceFailed seen = Rose (seen.source.faults seen.input.old) (seen.source.faults seen.input.new)

  abbrev pub SinkFailed : Seen S K D → Type 0
  SinkFailed seen = Rose (seen.sink.faults seen.output.old) (seen.sink.faults seen.output.new)
