use Rattle.std.proofs.Common.{sym, ◌∙◌, ◌≡◌, arith}
use Rattle.std.specs.Fmt.{decimal}
use Rattle.std.proofs.lemmas.Fmt.{decimal_injective}
use Rattle.ficus_ids.specs.declared.id.Id.{Id}
use Rattle.ficus_path.specs.Path.{IsIssued}
use Rattle.ficus_path.proofs.Weaker.{IfNone-weaker}
use Rattle.ficus_path.proofs.IdLaws.{id_text_cut}
use Rattle.ficus_path.proofs.id.read_id.Goals as goal

pub returns-in_err-number-clause-none : goal.returns-in_err-number-clause-none
returns-in_err-number-clause-none c = rw c.from_residual.ensures (λ id issued e.
    let cut = id_text_cut _ _ id issued c.cut_before.ensures.front c.cut_before.ensures.rest (sym c.cut_before.ensures.whole ∙ e) in
    let empty = c.in_err-number.ensures.cases in
    absurd (omega (arith, rw cut.1 at empty)))

pub returns-in_err-read_number-clause-none : goal.returns-in_err-read_number-clause-none
returns-in_err-read_number-clause-none c = rw c.from_residual-in_err-read_number.ensures (λ id issued e.
    let cut = id_text_cut _ _ id issued c.cut_before.ensures.front c.cut_before.ensures.rest (sym c.cut_before.ensures.whole ∙ e) in
    c.in_err-read_number.ensures.none id.replica (omega (arith, issued.to_last)) cut.0)

pub returns-in_err-read_number-2-clause-none : goal.returns-in_err-read_number-2-clause-none
returns-in_err-read_number-2-clause-none c = rw c.from_residual-in_err-read_number-2.ensures (λ id issued e.
    let cut = id_text_cut _ _ id issued c.cut_before.ensures.front c.cut_before.ensures.rest (sym c.cut_before.ensures.whole ∙ e) in
    let number : c.in_ok-number.number.now ≡ decimal id.number = cc (c.in_ok-number.ensures.cases.0, cut.1) in
    c.in_err-read_number-2.ensures.none id.number (omega (arith, issued.fits)) number)

pub returns-clause-none : goal.returns-clause-none
returns-clause-none c =
    IfNone-weaker c.issued.result _ _
    (λ (none : (id : Id) → IsIssued id → id.replica ≡ c.in_ok-read_number.field-0 →
    id.number ≡ c.in_ok-read_number-2.field-0 → ⊥) id issued e.
    let cut = id_text_cut _ _ id issued c.cut_before.ensures.front c.cut_before.ensures.rest
    (sym c.cut_before.ensures.whole ∙ e) in
    let replica : decimal id.replica ≡ decimal c.in_ok-read_number.field-0 =
    sym cut.0 ∙ c.in_ok-read_number.ensures.found in
    let number : decimal id.number ≡ decimal c.in_ok-read_number-2.field-0 =
    cc (c.in_ok-number.ensures.cases.0, cut.1, c.in_ok-read_number-2.ensures.found) in
    none id issued (decimal_injective _ _ (omega (arith, issued.to_last)) (omega arith) replica)
    (decimal_injective _ _ (omega (arith, issued.fits)) (omega arith) number))
    c.issued.ensures.none
