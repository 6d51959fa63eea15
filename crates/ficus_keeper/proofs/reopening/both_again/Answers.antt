use Rattle.std.proofs.Common.{rules}
use Rattle.ficus_keeper.proofs.Moments.{spans_disk, spans_none}
use Rattle.ficus_keeper.proofs.reopening.both_again.Goals as goal

pub returns-in_err-again-clause-crashes : goal.returns-in_err-again-clause-crashes
returns-in_err-again-clause-crashes g c = record {
  left = search rules;
  crash = search rules;
  moments = search rules;
  spans = λ told.
      let spans = spans_disk g.D.Disk.moment g.D.Disk.left_since g.D.Disk.may_leave (g.met.D.Disk.left_now told) in
      record { a = spans _ _ c.again.ensures.reopens.moments; b = spans_none _ _ };
}

pub returns-clause-crashes : goal.returns-clause-crashes
returns-clause-crashes g c = record {
  left = search rules;
  crash = search rules;
  moments = search rules;
  spans = λ told.
      let spans = spans_disk g.D.Disk.moment g.D.Disk.left_since g.D.Disk.may_leave (g.met.D.Disk.left_now told) in
      record { a = spans _ _ c.again.ensures.reopens.moments; b = spans _ _ c.again-2.ensures.reopens.moments };
}
