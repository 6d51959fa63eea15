use Rattle.std.proofs.Common.{refl, sym, subst, ◌∙◌, arith, inl, inr}
use Rattle.std.proofs.lemmas.Bool.{false≢true, cases_eq}
use Rattle.std.proofs.lemmas.Option.{get_or_from_slice_get}
use Rattle.ficus_entry.specs.Inside.{IsOtherName}
use Rattle.ficus_entry.proofs.Found.{contains_at}
use Rattle.ficus_entry.proofs.inside.any_other_name.Goals as goal

pub loop-index-preserved : goal.loop-index-preserved
loop-index-preserved c = λ k d before is. elim (cases_eq k c.loop-index.index) [
  | inr other ↦ c.loop-index.invariant k d (omega arith) is
  | inl here ↦
      let entry = c.at.result.now in
      let at = get_or_from_slice_get c.args.entries.now k entry d (rw here c.at.ensures) in
      false≢true (sym c.if-is_other_name.false ∙ c.is_other_name.ensures.1 (subst (IsOtherName c.args.dir c.args.name.now c.args.target) at is))
]

pub returns-then-is_other_name : goal.returns-then-is_other_name
returns-then-is_other_name c = (
  λ truth. (c.at.result.now, contains_at c.args.entries.now c.loop-index.index c.at.result.now c.at.ensures, c.is_other_name.ensures.0 c.if-is_other_name.true),
  λ has. refl,
)

pub returns : goal.returns
returns c = (
  λ truth. absurd (false≢true truth),
  λ has. let inside = has.1 in
      absurd (c.loop-index.invariant inside.0 has.0 (omega (arith, inside.1))
      (subst (IsOtherName c.args.dir c.args.name.now c.args.target) (sym inside.2) has.2)),
)
