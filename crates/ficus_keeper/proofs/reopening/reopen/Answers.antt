use Rattle.std.proofs.Common.{rules}
use Rattle.ficus_keeper.proofs.Moments.{pair_joins}
use Rattle.ficus_keeper.proofs.reopening.reopen.Goals as goal

pub returns-clause-crashes : goal.returns-clause-crashes
returns-clause-crashes g c = record {
  left = search rules;
  crash = search rules;
  moments = search rules;
  spans = λ told. pair_joins g.D.Disk.moment g.D.Disk.left_since g.met.D.Disk.left_earlier c.args.disks.now
      c.both_again.new.disks c.open.new.disks (c.both_again.ensures.crashes.spans told) (c.open.ensures.keeps.spans told);
}
