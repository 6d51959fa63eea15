use Rattle.std.proofs.Common.{◌≡◌, ◌-◌, arith}
use Rattle.ficus_script.proofs.SetTexts.{next_digit}
use Rattle.ficus_script.proofs.marks.append_digits.Goals as goal

pub loop-replica-preserved : goal.loop-replica-preserved
loop-replica-preserved c =
    next_digit c.args.set c.loop-replica.replica c.loop-replica.auto.replica _ _ _ c.loop-replica.invariant
    c.in_ok-append_digit.ensures

pub returns : goal.returns
returns c =
    let end : c.loop-replica.replica - 1 ≡ 8 =
    omega (arith, c.loop-replica-test.false, c.loop-replica.auto.replica-end) in
    rw end at c.loop-replica.invariant
