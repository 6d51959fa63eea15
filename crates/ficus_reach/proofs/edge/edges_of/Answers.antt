use Rattle.std.proofs.Common.{◌≡◌, ◌∷◌, ◌++◌, [], take, refl, arith, rules}
use Rattle.std.proofs.lemmas.Bool.{false≢true}
use Rattle.std.proofs.lemmas.Grind.{common_steps}
use Rattle.std.proofs.lemmas.List.Sorted.{answers_always, Contains-permutation, IsPermutation-sym}
use Rattle.ficus_ids.specs.Id.{id_cmp}
use Rattle.ficus_reach.proofs.Known.{edges_push, edges_stay}
use Rattle.ficus_reach.proofs.edge.edges_of.Goals as goal
use Rattle.ficus_reach.proofs.edge.edges_of.Goals.{then-is_live+in_ok-push, else-is_live}

pub loop-index-preserved : goal.loop-index-preserved
loop-index-preserved c =
    let at = rw c.in_ok-in_order.ensures at c.at-entry.ensures in
    elim c.if-is_live.branch [
      | then-is_live+in_ok-push w ↦
          let pushed : c.if-is_live.edges.items ≡ c.loop-index.edges.items ++
          record { dir = c.at-entry.result.now.dir; target = c.at-entry.result.now.target } ∷ [] =
          grind (arith, common_steps) in
          rw pushed (edges_push c.args.entries.now c.loop-index.index c.at-entry.result.now at c.loop-index.edges.items
          (w.if-is_live.ensures.0 refl) c.loop-index.invariant)
      | else-is_live w ↦
          let same : c.if-is_live.edges.items ≡ c.loop-index.edges.items = grind (arith, common_steps) in
          rw same (edges_stay c.args.entries.now c.loop-index.index c.at-entry.result.now at c.loop-index.edges.items
          (λ live. false≢true (w.if-is_live.ensures.1 live)) c.loop-index.invariant)
    ]

pub returns-clause-edges : goal.returns-clause-edges
returns-clause-edges c = λ dir object.
    let whole : take c.loop-index.index c.args.entries.now ≡ c.args.entries.now = grind (arith, common_steps) in
    let known = rw whole at c.loop-index.invariant dir object in
    let moved = c.sort_unstable_by_key.ensures.permutation in (
      λ inside. known.0 (Contains-permutation _ _ _ (IsPermutation-sym _ _ moved) inside),
      λ leads. Contains-permutation _ _ _ moved (known.1 leads),
    )

pub returns-clause-sorted : goal.returns-clause-sorted
unfolding id_cmp
returns-clause-sorted c =
    c.sort_unstable_by_key.ensures.sorted (λ edge. edge.dir) (answers_always _ _ _ (λ f a r g call. search rules))
