-- What a call for a member saw of the outside.
use Rattle.std.specs.Prelude.{◌≡◌, ℕ, List, Vec, vec_items}
use Rattle.std.specs.declared.alloc.Global.{Global}
use Rattle.ficus_disk.specs.declared.disk.Disk.{Ghosts as Disk}
use Rattle.ficus_disk.specs.declared.pair.Pair.{Pair}
use Rattle.ficus_mailbox.specs.declared.mailbox.Mailbox.{Ghosts as Mailbox}
use Rattle.ficus_outside.specs.declared.sink.Sink.{Ghosts as Sink}
use Rattle.ficus_outside.specs.declared.source.Source.{Ghosts as Source}
use Rattle.ficus_top.specs.Seen.{Lent}
use Rattle.ficus_member.specs.declared.beside.Beside.{Beside}

-- a source, a sink, a pair of disks for each of eight replicas, what lies beside the member's own, and its mailbox,
-- before the call and after it, and what each of them tells
pub record Seen (S K D N M : Type 0) : Type 1 where
  pub source : Source S
  pub input : Lent S
  pub sink : Sink K
  pub output : Lent K
  pub disk : Disk D
  pub disks : Lent (Vec (Pair D) Global)
  pub slot : Disk N
  pub beside : Lent (Beside N)
  pub mailbox : Mailbox M
  pub mail : Lent M

module _ {S K D N M : Type 0} where
  -- what was seen of all these
  abbrev pub seen_of : Source S → S → S → Sink K → K → K → Disk D → Vec (Pair D) Global → Vec (Pair D) Global
      → Disk N → Beside N → Beside N → Mailbox M → M → M → Seen S K D N M
  seen_of source in_old in_new sink out_old out_new disk old new slot beside beside_new mailbox was now = record {
    source = source;
    input = record { old = in_old; new = in_new };
    sink = sink;
    output = record { old = out_old; new = out_new };
    disk = disk;
    disks = record { old = old; new = new };
    slot = slot;
    beside = record { old = beside; new = beside_new };
    mailbox = mailbox;
    mail = record { old = was; new = now };
  }

  -- what the source had, and what it has left
  abbrev pub script_of : Seen S K D N M → List ℕ
  script_of seen = seen.source.left seen.input.old

  abbrev pub left_of : Seen S K D N M → List ℕ
  left_of seen = seen.source.left seen.input.new

  abbrev pub disks_before : Seen S K D N M → List (Pair D)
  disks_before seen = vec_items seen.disks.old

  abbrev pub disks_after : Seen S K D N M → List (Pair D)
  disks_after seen = vec_items seen.disks.new

  -- nothing was asked of what keeps the member, and of its mailbox
  pub record StaysThere (seen : Seen S K D N M) : Type 0 where
    pub disks : seen.disks.new ≡ seen.disks.old
    pub beside : seen.beside.new ≡ seen.beside.old
    pub mail : seen.mail.new ≡ seen.mail.old

  -- nothing was asked of the outside
  pub record IsUnasked (seen : Seen S K D N M) : Type 0 where
    pub input : seen.input.new ≡ seen.input.old
    pub output : seen.output.new ≡ seen.output.old
    pub there : StaysThere seen
