use Rattle.std.proofs.Common.{rules, ◌∙◌, arith}
use Rattle.ficus_top.proofs.status.status_text.Goals.{in-2+in_ok-text-in-2, in-6+in_ok-text-in-6, in-7+in_ok-text-in-7, in-9+in_ok-text-in-9, in_default+in_ok-text-in_default}
use Rattle.ficus_top.proofs.status.status_text.Goals as goal

pub returns : goal.returns
returns c =
    rw c.into_bytes.ensures.value (elim c.match-status.branch [
      | in-2+in_ok-text-in-2 w ↦ search rules
      | in-6+in_ok-text-in-6 w ↦ search rules
      | in-7+in_ok-text-in-7 w ↦ search rules
      | in-9+in_ok-text-in-9 w ↦ rw (w.text-is, w.in-9.is) w.in_ok-text-in-9.ensures.ok
      | in_default+in_ok-text-in_default w ↦ rw w.text-is (w.in_ok-text-in_default.ensures.ok
          ∙ w.nameless_text.ensures (λ is. omega arith) (λ is. omega arith) (λ is. omega arith) (λ is. omega arith) _ _)
    ])
