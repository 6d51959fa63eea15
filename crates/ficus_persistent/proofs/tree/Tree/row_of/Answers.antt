use Rattle.std.proofs.Common.{◌≡◌, ◌+◌, [], ◌∷◌, ◌++◌, arith, ap, ◌∙◌, append-nil}
use Rattle.ficus_persistent.proofs.Heights.{leaf_below}
use Rattle.ficus_persistent.proofs.Rows.{joined-append, take_part, below-append}
use Rattle.ficus_persistent.specs.Shape.{joined}
use Rattle.ficus_persistent.proofs.tree.Tree.row_of.Goals as goal

pub loop-from-preserved : goal.loop-from-preserved
loop-from-preserved g c =
    let leaf = c.in_ok-leaf.leaf in
    let row = c.loop-from.row.items in
    let pushed : c.push.new.self.items ≡ row ++ leaf ∷ [] = grind arith in
    let to = c.loop-from.from + c.min.result in
    record {
      within = grind arith;
      some = λ past. grind arith;
      items =
          ap joined pushed
          ∙ joined-append row (leaf ∷ [])
          ∙ ap (λ rest. joined row ++ rest) (append-nil leaf.items)
          ∙ ap (λ front. front ++ leaf.items) c.loop-from.invariant.items
          ∙ take_part c.args.items.now leaf.items c.loop-from.from to (omega arith) (c.in_ok-leaf.ensures.items ∙ c.of.ensures ∙ c.in_ok-part.ensures);
      level =
          rw pushed
          (below-append 2 row (leaf ∷ []) c.loop-from.invariant.level
          (leaf_below leaf c.in_ok-leaf.ensures.height (grind arith), tt));
    }
