use Rattle.std.proofs.Common.{sym, refl}
use Rattle.ficus_disk.specs.declared.pair.Pair.{Pair}
use Rattle.ficus_runs.proofs.Numbers.{number_read}
use Rattle.ficus_world.proofs.Disks.{rose_none}
use Rattle.ficus_world.proofs.Fuses.{fuses_armed}
use Rattle.ficus_world.proofs.Saves.{disks_armed, pair_armed}
use Rattle.ficus_opening.proofs.Rests.{rests_calls}
use Rattle.ficus_world.proofs.Sparing.{spared_set}
use Rattle.ficus_world.proofs.pairs.arm_at.Goals as goal

pub returns : goal.returns
returns g c =
    let pair = c.index_mut-pair.result.now in
    let is_pair = number_read c.args.disks.now.items c.args.by pair _ c.requires.pair (sym c.index_mut-pair.ensures.value) in
    let a = c.arm.ensures in
    let b = c.arm-2.ensures in
    let now : Pair _ = record { a = c.arm.new.self; b = c.arm-2.new.self } in
    let rests = rests_calls g.D.Disk g.met.D.Disk.left_now pair now a.keeps.crash b.keeps.crash a.keeps.moments
    b.keeps.moments in
    record {
      follows = λ members up. record {
        disks = pair_armed c.args.by is_pair c.args.calls c.args.pick
            (rose_none (record { a = a.steady; b = b.steady }));
        fuses =
            fuses_armed g.K.Keep g.D.Disk c.args.by c.args.calls c.args.pick members c.args.disks.now.items pair _ is_pair
            up (record { a = a.keeps.crash; b = b.keeps.crash }) (λ fused. (a.by_fuse fused).fuse)
            (λ fused. (b.by_fuse fused).fuse);
      };
      rests = record {
        was = pair;
        is = is_pair;
        now = now;
        set = refl;
        rests = rests;
      };
      spared = spared_set g.D.Disk c.args.by c.args.disks.now.items pair now is_pair rests
          (λ told. record { a = a.keeps.seen told; b = b.keeps.seen told }) (record { a = a.steady; b = b.steady });
      disks = λ stables.
          disks_armed g.K.Keep g.D.Disk c.args.by pair _ is_pair a.arms b.arms
          (λ told. record { a = a.keeps.seen told; b = b.keeps.seen told })
          (record { a = a.keeps.crash; b = b.keeps.crash });
    }
