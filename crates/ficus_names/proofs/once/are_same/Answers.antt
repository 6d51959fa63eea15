use Rattle.std.specs.Bool.{Decides}
use Rattle.std.specs.Cmp.{IsTotalOrder}
use Rattle.std.specs.Ordering.{is_eq}
use Rattle.std.specs.declared.cmp.Ordering.{Ordering}
use Rattle.std.specs.declared.cmp.Ordering.TheVariants.{Less, Equal, Greater}
use Rattle.std.proofs.Common.{◌≡◌, Bool, true, refl, sym, ap, ◌∙◌}
use Rattle.std.proofs.lemmas.Cmp.{tied_itself}
use Rattle.std.proofs.lemmas.Slice.Eq.{slice_eq-Decides}
use Rattle.ficus_names.proofs.once.are_same.Goals as goal

only_Equal : (answer : Ordering) → is_eq answer ≡ true → answer ≡ Equal
only_Equal Less is = cc
only_Equal Equal is = refl
only_Equal Greater is = cc

-- the test of an order that tells different items apart says whether two are one
decides : {X : Type 0} (cmp : X → X → Ordering) (eq : X → X → Bool) → IsTotalOrder cmp →
    ((a b : X) → eq a b ≡ is_eq (cmp a b)) → ((a b : X) → cmp a b ≡ Equal → a ≡ b) → (a b : X) →
    Decides (eq a b) (a ≡ b)
decides cmp eq order means exact a b = (
  λ is. exact a b (only_Equal (cmp a b) (sym (means a b) ∙ is)),
  λ same. means a b ∙ ap is_eq (ap (cmp a) (sym same) ∙ tied_itself order a),
)

pub returns : goal.returns
returns g c =
    let order = g.met.T.Ord in
    slice_eq-Decides (decides _ _ order.total order.matches_eq c.requires.exact) _ _ _ c.eq.ensures
