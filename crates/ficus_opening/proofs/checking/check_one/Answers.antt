use Rattle.std.proofs.Common.{◌≡◌, ◌∙◌, sym}
use Rattle.ficus_opening.specs.Check.Judged.{IsEmptyPair}
use Rattle.ficus_opening.proofs.check.Judging.{judged_so}
use Rattle.ficus_opening.proofs.check.Owning.{is_false}
use Rattle.std.proofs.lemmas.Result.{err_from_is_err_and}
use Rattle.ficus_opening.proofs.Asking.{asked_after, looked_err, looked_then}
use Rattle.ficus_opening.proofs.Rests.{rests_then}
use Rattle.ficus_opening.proofs.Steadies.{same_trans}
use Rattle.ficus_opening.specs.declared.fault.WorldFault.TheVariants.{Store}
use Rattle.ficus_opening.proofs.checking.check_one.Goals as goal

pub returns-in_err-look_at : goal.returns-in_err-look_at
returns-in_err-look_at g c =
    let given = err_from_is_err_and c.from_residual.result c.from_residual.ensures.1 in
    let fault = c.in_err-look_at.field-0.0 in
    let failed : fault ≡ Store c.args.number = c.in_err-look_at.ensures.failed in
    rw (given.1, given.2)
    (record {
      judged = λ told always. tt;
      never_occupied = λ r is. absurd (cc);
      never_image = λ r is. absurd (cc);
      looked = looked_err fault c.in_err-look_at.ensures.looked;
    })

pub returns-then-branch : goal.returns-then-branch
returns-then-branch g c = record {
  judged = λ told always. (c.in_ok-look_at.ensures.empty told).0 c.if-branch.true;
  never_occupied = λ r is. absurd (cc);
  never_image = λ r is. absurd (cc);
  looked = looked_then _ (λ r is. absurd (cc)) c.in_ok-look_at.ensures.looked;
}

pub returns : goal.returns
returns g c =
    let old = c.args.pair.now in
    let mid = c.look_at.new.pair in
    let first = c.in_ok-look_at.ensures.looked in
    let then = c.judge.ensures.looked in
    record {
      judged = λ told always.
          let same = first.same told in
          judged_so g.K.Keep.kept g.D.Disk.seen c.args.number old mid same c.judge.result
          (c.judge.ensures.judged told (λ empty.
          is_false c.in_ok-look_at.field-0 (IsEmptyPair g.D.Disk.seen old) c.if-branch.false
          (c.in_ok-look_at.ensures.empty told) (sym same.a ∙ empty.0, sym same.b ∙ empty.1)));
      never_occupied = c.judge.ensures.never_occupied;
      never_image = c.judge.ensures.never_image;
      looked = record {
        asked = asked_after first.asked.steady first.asked.armings (λ fused. (first.asked.unfailing fused).unarmed)
            then.asked;
        same = λ told. same_trans g.D.Disk.seen old mid c.judge.new.pair (first.same told) (then.same told);
        rests = rests_then g.D.Disk g.met.D.Disk.left_earlier old mid c.judge.new.pair first.rests then.rests;
      };
    }
