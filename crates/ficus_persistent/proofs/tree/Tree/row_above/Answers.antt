use Rattle.std.proofs.Common.{◌≡◌, ◌+◌, [], ◌∷◌, ◌++◌, take, drop, ◌-◌, arith, ap, sym, ◌∙◌, append-nil}
use Rattle.std.proofs.lemmas.Grind.{common_steps}
use Rattle.ficus_persistent.proofs.Heights.{above_row}
use Rattle.ficus_persistent.proofs.Rows.{joined-append, take_part, below-append, below_take, below_drop}
use Rattle.ficus_persistent.specs.Shape.{joined, AreBelow}
use Rattle.ficus_persistent.proofs.tree.Tree.row_above.Goals as goal

pub loop-from-preserved : goal.loop-from-preserved
loop-from-preserved g c =
    let fork = c.in_ok-fork.fork in
    let above = c.loop-from.above.items in
    let row = c.args.row.now in
    let part = c.in_ok-part.part.items in
    let from = c.loop-from.from in
    let to = from + c.few_of.result in
    let height = c.height-height.result + 1 in
    let pushed : c.push.new.self.items ≡ above ++ fork ∷ [] = grind arith in
    let level : AreBelow height part =
    rw c.in_ok-part.ensures
    (below_take height (drop from row) (to - from) (below_drop height row from c.loop-from.invariant.below)) in
    record {
      within = omega (arith, c.few_of.ensures.within);
      rest = grind arith;
      some = λ past. grind arith;
      shorter = grind arith;
      below = c.loop-from.invariant.below;
      items =
          ap joined pushed
          ∙ joined-append above (fork ∷ [])
          ∙ ap (λ rest. joined above ++ rest) (append-nil fork.items ∙ c.in_ok-fork.ensures.items)
          ∙ ap (λ front. front ++ joined part) c.loop-from.invariant.items
          ∙ sym (joined-append (take from row) part)
          ∙ ap joined (take_part row part from to (omega arith) c.in_ok-part.ensures);
      level =
          rw pushed
          (below-append (height + 1) above (fork ∷ []) c.loop-from.invariant.level (
            above_row height part fork level (grind (arith, common_steps)) c.in_ok-fork.ensures.items
                c.in_ok-fork.ensures.height,
            tt,
          ));
    }
