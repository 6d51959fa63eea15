use Rattle.std.proofs.Common.{rules}
use Rattle.std.proofs.lemmas.Result.{err_from_is_err_and}
use Rattle.ficus_keeper.proofs.Moments.{spans_call}
use Rattle.ficus_slot.proofs.range.save_range.Goals as goal

pub returns-in_err-write : goal.returns-in_err-write
returns-in_err-write g c =
    let given = err_from_is_err_and c.from_residual.result c.from_residual.ensures.1 in
    rw given.1 (record {
      saved = λ told. tt;
      durable = λ told. tt;
      crash = c.write.ensures.writes.crash;
      moments = search rules;
      made = record {
        spans = λ told.
            spans_call c.write.ensures.writes.moments
            (λ d left. g.met.D.Disk.left_now told c.write.new.self _ d c.write.ensures.writes.moments.later left);
        room = c.write.ensures.writes.room;
        failed = search rules;
        steady = tt;
        risen = c.write.ensures.counts.risen;
        armings = c.write.ensures.counts.armings;
        by_fuse = search rules;
        falls = λ fused. tt;
        pick = search rules;
      };
      images = λ fused. (c.write.ensures.by_fuse fused).images;
    })
