use Rattle.std.proofs.Common.{All, List, [], ◌∷◌, ap, arith, length, length-append, subst, sym}
use Rattle.std.proofs.lemmas.List.Elements.{All-push}
use Rattle.ficus_disk.specs.declared.mem_disk.MemDisk.{MemDisk}
use Rattle.ficus_disk.specs.declared.pair.Pair.{Pair}
use Rattle.ficus_disk.specs.Fresh.{IsFreshPair}
use Rattle.ficus_disk.proofs.fresh.fresh_disks.Goals as goal

pub loop-preserved : goal.loop-preserved
loop-preserved c = record {
  within = omega arith;
  count = omega (
    arith,
    ap length c.in_ok-push.ensures.items,
    length-append c.loop.disks.items (c.fresh_pair.result ∷ []),
    c.loop.invariant.count,
  );
  fresh = subst (λ (disks : List (Pair MemDisk)). All IsFreshPair disks) (sym c.in_ok-push.ensures.items)
      (All-push IsFreshPair c.loop.disks.items c.fresh_pair.result c.loop.invariant.fresh c.fresh_pair.ensures);
}
