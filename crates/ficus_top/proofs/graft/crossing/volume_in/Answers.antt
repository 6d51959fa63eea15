use Rattle.std.proofs.Common.{◌≡◌, sym, ◌∙◌, arith}
use Rattle.ficus_script.proofs.Numbers.{same_number}
use Rattle.ficus_top.proofs.graft.crossing.volume_in.Goals as goal
use Rattle.ficus_top.proofs.graft.crossing.volume_in.Goals.{else-number-ge1-via-then-number-ge1+else-number-from, else-number-ge1-via-else-number-ge1}

pub returns-else-number-ge1-clause-none : goal.returns-else-number-ge1-clause-none
returns-else-number-ge1-clause-none c = λ volume among same.
    let e : c.in_ok-number.number ≡ volume = same_number _ volume (omega arith) (omega (arith, among.at_most))
    (sym c.in_ok-number.ensures.found ∙ same) in
    elim c.else-number-ge1.branch [
      | else-number-ge1-via-then-number-ge1+else-number-from w ↦ omega (arith, e, among.at_least, among.at_most)
      | else-number-ge1-via-else-number-ge1 w ↦ omega (arith, e, among.at_least, among.at_most)
    ]
