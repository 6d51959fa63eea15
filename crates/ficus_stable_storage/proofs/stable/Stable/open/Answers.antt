use Rattle.std.proofs.Common.{◌∙◌, ap₂, rules, sym}
use Rattle.ficus_stable_storage.proofs.leads.Led.{held_at}
use Rattle.ficus_stable_storage.proofs.Ready.{ready_found}
use Rattle.ficus_stable_storage.proofs.stable.Stable.open.Goals as goal

pub returns : goal.returns
returns g c = record {
  fits = c.recover.ensures.fits;
  ready = λ told.
      let same = c.open.ensures.keeps.same told in
      let finds = c.in_ok-keeper.ensures.told told in
      ready_found g.K.Keep.kept g.K.Keep.fits g.D.Disk.seen g.D.Disk.may_leave c.open.new.disks _ _ c.recover.result
      (ap₂ g.K.Keep.kept same.a same.b ∙ finds.found) finds.settled c.recover.ensures.keeper c.recover.ensures.holds;
  none = λ told is saved fits holds.
      c.recover.ensures.none is saved (held_at _ _ saved (sym ((c.in_ok-keeper.ensures.told told).found)) holds);
  same = c.open.ensures.keeps.same;
  crash = c.open.ensures.keeps.crash;
  moments = c.open.ensures.keeps.moments;
  spans = c.open.ensures.keeps.spans;
  armings = c.open.ensures.counts.armings;
  failed = λ is. absurd (c.recover.ensures.never is);
  steady = search rules;
  spared = λ is. c.in_ok-keeper.ensures.counts.steady;
  nothing = λ is. c.in_ok-keeper.ensures.counts.steady;
  risen = c.open.ensures.counts.risen;
  never = λ fused none. c.recover.ensures.never;
  unarmed = λ fused none. (c.open.ensures.by_fuse fused none).unarmed;
}
