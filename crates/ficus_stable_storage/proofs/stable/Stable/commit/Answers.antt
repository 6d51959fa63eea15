use Rattle.std.proofs.Common.{is_ok}
use Rattle.ficus_keeper.specs.Framed.{body_in}
use Rattle.ficus_keeper.specs.Kept.{after_commit, found_in}
use Rattle.ficus_keeper.proofs.Results.{both_ok}
use Rattle.ficus_stable_storage.proofs.leads.Led.{held_at}
use Rattle.ficus_stable_storage.proofs.Decided.{decided, held_prepared, next_generation, one_between, one_of}
use Rattle.ficus_stable_storage.proofs.stable.Stable.commit.Goals as goal

pub commit_framed-requires-clause-next : goal.commit_framed-requires-clause-next
commit_framed-requires-clause-next g c told before is =
    let follows = c.requires.2 told in
    next_generation _ follows.saved c.args.next.now c.requires.0 follows.ready.holds follows.leads before is

pub returns : goal.returns
returns g c =
    let next = c.args.next.now in
    let done = c.commit_framed.ensures.saves in
    let kept = found_in g.K.Keep.kept g.D.Disk.seen c.commit_framed.new.disks in
    let after = after_commit (g.K.Keep.wants_image c.args.self.now.keeper) next.generation (body_in c.args.self.now.framed.items)
    (found_in g.K.Keep.kept g.D.Disk.seen c.args.disks.now) in
    let held = λ (told : g.D.Disk.tells). held_prepared g.K.Keep.wants_image g.K.Keep.kept g.D.Disk.seen
    c.args.self.now c.args.disks.now next c.requires.0 c.requires.1 (c.requires.2 told) in
    record {
      ready = λ told. both_ok c.commit_framed.result
          (λ is settled. record { holds = held_at kept after next is (held told); settled = settled })
          (done.told told).kept (done.told told).settled;
      crash = λ told saved holds.
          one_of g.K.Keep.kept g.D.Disk.may_leave c.commit_framed.new.disks _ _ saved next holds (held told)
          (done.told told).crash;
      between = λ told saved holds.
          one_between g.K.Keep.kept g.D.Disk.moment g.D.Disk.left_since c.args.disks.now c.commit_framed.new.disks _ _ saved
          next holds (held told) (done.told told).between;
      spans = done.spans;
      other = done.other;
      armings = done.counts.armings;
      failed = done.counts.failed;
      steady = done.counts.steady;
      risen = done.counts.risen;
      regular = λ told. (done.told told).regular;
      by_fuse = λ fused told regular saved holds.
          decided g.K.Keep.kept g.D.Disk.seen g.D.Disk.image g.D.Disk.fuse (g.K.Keep.calls next.generation)
          (g.K.Keep.is_on_a next.generation) c.args.disks.now c.commit_framed.new.disks (is_ok c.commit_framed.result) _ saved next
          (held told) holds (done.by_fuse fused told regular);
    }
