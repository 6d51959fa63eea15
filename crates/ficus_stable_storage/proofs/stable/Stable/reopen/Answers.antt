use Rattle.std.proofs.Common.{rules, sym}
use Rattle.ficus_stable_storage.proofs.leads.Led.{held_at}
use Rattle.ficus_stable_storage.proofs.Ready.{ready_found}
use Rattle.ficus_stable_storage.proofs.stable.Stable.reopen.Goals as goal

pub returns : goal.returns
returns g c = record {
  fits = c.recover.ensures.fits;
  ready = λ told.
      let finds = c.in_ok-keeper.ensures.told told in
      ready_found g.K.Keep.kept g.K.Keep.fits g.D.Disk.seen g.D.Disk.may_leave c.reopen.new.disks _ _ c.recover.result
      finds.found finds.settled c.recover.ensures.keeper c.recover.ensures.holds;
  none = λ told is saved fits holds.
      c.recover.ensures.none is saved (held_at _ _ saved (sym ((c.in_ok-keeper.ensures.told told).found)) holds);
  left = c.reopen.ensures.crashes.left;
  crash = c.reopen.ensures.crashes.crash;
  moments = c.reopen.ensures.crashes.moments;
  spans = c.reopen.ensures.crashes.spans;
  armings = c.reopen.ensures.counts.armings;
  failed = λ is. absurd (c.recover.ensures.never is);
  steady = search rules;
  spared = λ is. c.in_ok-keeper.ensures.counts.steady;
  nothing = λ is. c.in_ok-keeper.ensures.counts.steady;
  risen = c.reopen.ensures.counts.risen;
  never = λ fused. c.recover.ensures.never;
  by_fuse = c.reopen.ensures.by_fuse;
}
