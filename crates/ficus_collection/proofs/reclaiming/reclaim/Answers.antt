use Rattle.std.proofs.Common.{◌≤◌, length, arith}
use Rattle.ficus_entry.specs.declared.entry.Entry.{Entry}
use Rattle.ficus_file.specs.Files.{id_of}
use Rattle.ficus_collection.proofs.Counted.{not_longer}
use Rattle.ficus_collection.proofs.Left.{none_is_live, undropped, files_left}
use Rattle.ficus_collection.proofs.reclaiming.reclaim.Goals as goal

pub without-requires : goal.without-requires
without-requires c =
    rw c.deref.ensures.value
    (none_is_live c.args.members c.args.entries.now c.in_ok-known.known.items c.in_ok-known.ensures)

pub fewer-dropped_entries-requires : goal.fewer-dropped_entries-requires
fewer-dropped_entries-requires c =
    let fewer : length c.in_ok-entries_left.entries_left ≤ length c.args.entries.now =
    not_longer (λ (e : Entry). e.id) c.args.entries.now c.in_ok-entries_left.entries_left c.len.ensures.rising
    c.in_ok-entries_left.ensures.rising
    (λ entry inside. ((c.in_ok-entries_left.ensures.left entry).0 inside).0) in
    record {
      fewer = omega (arith, fewer, c.len.ensures.value, c.len-2.ensures.value);
      few = omega (arith, c.requires.entries, c.len.ensures.value);
    }

pub fewer-dropped_files-requires : goal.fewer-dropped_files-requires
fewer-dropped_files-requires c =
    let fewer : length c.in_ok-files_left.files_left ≤ length c.args.files.now =
    not_longer id_of c.args.files.now c.in_ok-files_left.files_left c.len-3.ensures.files.rising
    c.in_ok-files_left.ensures.files.rising
    (λ file inside. ((c.in_ok-files_left.ensures.left file).0 inside).0) in
    record {
      fewer = omega (arith, fewer, c.len-3.ensures.value, c.len-4.ensures.value);
      few = omega (arith, c.requires.files, c.len-3.ensures.value);
    }

pub returns : goal.returns
returns c = record {
  rising = c.in_ok-entries_left.ensures.rising;
  undropped = undropped c.args.members c.args.entries.now c.in_ok-known.known.items c.in_ok-known.ensures
      c.in_ok-entries_left.entries_left (rw c.deref.ensures.value at c.in_ok-entries_left.ensures.left);
  held = c.in_ok-files_left.ensures.files;
  left = files_left c.in_ok-entries_left.entries_left c.args.files.now c.args.orphans.now
      c.in_ok-unneeded.unneeded.items c.in_ok-unneeded.ensures c.in_ok-files_left.files_left
      (rw c.deref-2.ensures.value at c.in_ok-files_left.ensures.left);
  entries_counted =
      omega (arith, c.fewer-dropped_entries.ensures, c.len.ensures.value, c.len-2.ensures.value);
  files_counted =
      omega (arith, c.fewer-dropped_files.ensures, c.len-3.ensures.value, c.len-4.ensures.value);
}
