use Rattle.std.proofs.Common.{◌≡◌, ◌+◌, ◌++◌, ◌∷◌, ◌∙◌, take, drop, suc, arith, ap, sym}
use Rattle.std.specs.List.{flat_map}
use Rattle.std.proofs.lemmas.List.{set_split}
use Rattle.ficus_persistent.proofs.leaf.Leaf.with_other.Goals as goal

pub invariant_of-result : goal.invariant_of-result
invariant_of-result g c =
    let items = c.deref.result.now in
    let index = c.args.index in
    let is : c.args.self.now ≡ items = grind arith in
    let next : index + 1 ≡ suc index = omega arith in
    c.in_ok-bytes.ensures
    ∙ ap (λ all. flat_map g.T.Spelled.spell (take index all ++ (c.args.item ∷ drop (index + 1) all))) is
    ∙ ap (λ n. flat_map g.T.Spelled.spell (take index items ++ (c.args.item ∷ drop n items))) next
    ∙ ap (flat_map g.T.Spelled.spell) (sym (set_split items index c.args.item (grind arith)) ∙ sym c.in_ok-items.ensures)
