use Rattle.std.proofs.Common.{◌≡◌, sym, ◌∙◌, arith}
use Rattle.ficus_script.proofs.Numbers.{same_number}
use Rattle.ficus_script.proofs.pick.read_pick.Goals as goal

pub returns-in_default-clause-none : goal.returns-in_default-clause-none
returns-in_default-clause-none c = λ pick is same.
    let e : c.in_ok-pick.pick ≡ pick =
    same_number _ pick (omega arith) (omega (arith, is)) (sym c.in_ok-pick.ensures.found ∙ same) in
    omega (arith, is)
