use Rattle.std.proofs.Common.{ℕ, ◌+◌, sym, subst, ◌∙◌}
use Rattle.std.specs.Prelude.{slice_set}
use Rattle.std.proofs.lemmas.List.{length-set}
use Rattle.std.proofs.lemmas.Result.{err_from_is_err_and}
use Rattle.ficus_opening.proofs.Steadies.{steady_trans}
use Rattle.ficus_top.proofs.Judging.{AreJudgedSo, fails_behind, fails_of, judged_more, unwritten_then}
use Rattle.ficus_top.proofs.checking.judge_all.Goals as goal

pub loop-before-preserved : goal.loop-before-preserved
loop-before-preserved g c =
    let was = c.loop-before.invariant in
    let next = c.in_ok-judgements.field-0 in
    record {
      places = length-set c.loop-before.judgements c.from.result next ∙ was.places;
      judged =
          subst (λ (k : ℕ). AreJudgedSo g.D.Disk.tells g.D.Disk.seen c.args.disks.now.items
          (slice_set c.loop-before.judgements k next) (c.loop-before.before + 1)) (sym c.from.ensures)
          (judged_more g.D.Disk.tells g.D.Disk.seen c.args.disks.now.items c.loop-before.disks.items
          c.loop-before.judgements c.loop-before.before next was.unwritten.same was.judged
          c.in_ok-judgements.ensures.judged);
      unwritten =
          unwritten_then g.D.Disk g.met.D.Disk.left_earlier (c.loop-before.before + 1) c.args.disks.now.items
          c.loop-before.disks.items c.check.new.disks.items was.unwritten c.check.ensures.rests
          c.check.ensures.same c.check.ensures.armings;
      faults =
          steady_trans g.D.Disk.faults c.args.disks.now.items c.loop-before.disks.items c.check.new.disks.items
          was.faults c.in_ok-judgements.ensures.steady;
    }

pub returns-in_err-judgements-clause-unwritten : goal.returns-in_err-judgements-clause-unwritten
returns-in_err-judgements-clause-unwritten g c =
    unwritten_then g.D.Disk g.met.D.Disk.left_earlier (c.loop-before.before + 1) c.args.disks.now.items
    c.loop-before.disks.items c.check.new.disks.items c.loop-before.invariant.unwritten c.check.ensures.rests
    c.check.ensures.same c.check.ensures.armings

pub returns-in_err-judgements-clause-faults : goal.returns-in_err-judgements-clause-faults
returns-in_err-judgements-clause-faults g c =
    let given = err_from_is_err_and c.from_residual.result c.from_residual.ensures.1 in
    fails_behind g.D.Disk.faults c.from_residual.result c.args.disks.now.items c.loop-before.disks.items
    c.check.new.disks.items c.loop-before.invariant.faults
    (fails_of g.D.Disk.faults c.check.result c.from_residual.result c.in_err-judgements.field-0.0 given.0
    (c.loop-before.before + 1) c.loop-before.disks.items c.check.new.disks.items c.in_err-judgements.was given.1 given.2
    c.check.ensures.failed c.check.ensures.never_occupied c.check.ensures.never_image c.check.ensures.spared)
