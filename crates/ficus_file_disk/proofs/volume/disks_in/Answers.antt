use Rattle.std.proofs.Common.{[], ◌∷◌, ap, arith, length, length-append}
use Rattle.ficus_file_disk.proofs.Places.{all_places_more}
use Rattle.ficus_file_disk.proofs.volume.disks_in.Goals as goal

pub loop-before-preserved : goal.loop-before-preserved
loop-before-preserved g c = record {
  places = all_places_more c.args.root.now c.loop-before.before c.loop-before.disks.items _ c.in_ok-pair_in.field-0
      c.in_ok-push.ensures.items c.loop-before.invariant.places c.in_ok-pair_in.ensures;
  count = omega (
    arith,
    ap length c.in_ok-push.ensures.items,
    length-append c.loop-before.disks.items (c.in_ok-pair_in.field-0 ∷ []),
    c.loop-before.invariant.count,
  );
}
