use Rattle.std.proofs.Common.{rules}
use Rattle.ficus_keeper.proofs.Moments.{spans_disk, spans_join}
use Rattle.ficus_two_slots.proofs.reading.read_both.Goals as goal

pub returns-clause-keeps : goal.returns-clause-keeps
returns-clause-keeps g c = record {
  same = search rules;
  crash = search rules;
  moments = search rules;
  spans = λ told.
      let spans = spans_disk g.D.Disk.moment g.D.Disk.left_since g.D.Disk.may_leave (g.met.D.Disk.left_now told) in
      record {
        a = spans_join (g.met.D.Disk.left_earlier _) (spans _ _ c.sync.ensures.stays.keeps.moments) (c.read_all.ensures.spans told);
        b = spans_join (g.met.D.Disk.left_earlier _) (spans _ _ c.sync-2.ensures.stays.keeps.moments)
            (c.read_all-2.ensures.spans told);
      };
}
