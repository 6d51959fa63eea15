use Rattle.std.proofs.Common.{◌≡◌, ◌+◌, ◌++◌, ◌∙◌, ap, take, arith, append_assoc}
use Rattle.std.proofs.lemmas.List.Concat.{flat_map-append}
use Rattle.std.proofs.lemmas.Grind.{common_steps}
use Rattle.std.specs.List.{flat_map}
use Rattle.ficus_persistent.proofs.Rows.{all_in, joined_more}
use Rattle.ficus_persistent.specs.Shape.{joined}
use Rattle.ficus_persistent.proofs.tree.Tree.+put_each.Goals as goal

pub put_each-requires : goal.put_each-requires
put_each-requires g t c κs within =
    let row = c.as_slice-below.result.now in
    let is : c.args.self.now.items ≡ joined row = grind arith in
    let i = c.loop-tree.tree-index in (
      grind (arith, common_steps),
      (
        within.0,
        (
          within.1,
          rw c.tree-item.is
              (all_in (g.S.Spelling.format c.args.spelling.now).fits row i c.tree-item.result (omega arith) (rw is at c.requires)),
        ),
      ),
    )

pub loop-tree-preserved : goal.loop-tree-preserved
loop-tree-preserved g t c =
    let row = c.as_slice-below.result.now in
    let i = c.loop-tree.tree-index in
    let spell = (g.S.Spelling.format c.args.spelling.now).spell in
    let more : joined (take (i + 1) row) ≡ joined (take i row) ++ c.tree-item.result.items =
    rw (← c.tree-item.is) at (joined_more row i c.tree-item.result (omega arith)) in
    record {
      put =
          rw (more, flat_map-append spell (joined (take i row)) c.tree-item.result.items)
          (c.in_ok-put_each-in-Fork.ensures.put
          ∙ ap (λ front. front ++ flat_map spell c.tree-item.result.items) c.loop-tree.invariant.put
          ∙ append_assoc (c.args.out.now.items ++ c.args.window.now) (flat_map spell (joined (take i row)))
          (flat_map spell c.tree-item.result.items));
      kept = grind (arith, common_steps);
    }
