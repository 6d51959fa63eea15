use Rattle.std.proofs.Common.{◌≡◌, ◌-◌, take, drop, length, nat_le, ◌∙◌, Some, sym, subst, rules, arith}
use Rattle.std.specs.List.Sorted.{IsNonDecreasingBy}
use Rattle.std.specs.Ordering.{is_lt, is_le, is_some_and, nat_cmp, partial_ordering_then}
use Rattle.std.proofs.lemmas.Grind.{common_steps}
use Rattle.std.proofs.lemmas.List.Sorted.{IsPartitionPoint-from_clause, IsPartitionedBy-leb, IsNonDecreasingBy-drop}
use Rattle.ficus_reach.proofs.Ranges.{standing, standings_rise, below_answers, within_answers, edges_between}
use Rattle.ficus_reach.proofs.edge.edges_from.Goals as goal

pub returns : goal.returns
returns c =
    let edges = c.args.edges.now in
    let dir = c.args.dir in
    let start = c.partition_point-start.result in
    let is_rest : take (length edges - start) (drop start edges) ≡ drop start edges = grind (arith, common_steps) in
    let rise = standings_rise edges dir c.requires in
    let rise_too = subst (IsNonDecreasingBy (standing dir)) (sym is_rest) (IsNonDecreasingBy-drop (standing dir) start edges rise) in
    let first = IsPartitionPoint-from_clause (λ edge. nat_le (standing dir edge) 0) edges _
    c.partition_point-start.ensures.partitioned (IsPartitionedBy-leb (standing dir) edges 0 rise)
    (λ a r q call.
    let answer : r ≡ is_some_and is_lt (partial_ordering_then (Some (nat_cmp a.0.now.dir.replica dir.replica))
    (Some (nat_cmp a.0.now.dir.number dir.number))) = search rules in
    (answer ∙ below_answers a.0.now.dir dir, search rules)) in
    let second = IsPartitionPoint-from_clause (λ edge. nat_le (standing dir edge) 1)
    (take (length edges - start) (drop start edges)) _ c.partition_point-end.ensures.partitioned
    (IsPartitionedBy-leb (standing dir) (take (length edges - start) (drop start edges)) 1 rise_too)
    (λ a r q call.
    let answer : r ≡ is_some_and is_le (partial_ordering_then (Some (nat_cmp a.0.now.dir.replica dir.replica))
    (Some (nat_cmp a.0.now.dir.number dir.number))) = search rules in
    (answer ∙ within_answers a.0.now.dir dir, search rules)) in
    edges_between edges (take (length edges - start) (drop start edges)) dir start _ is_rest first second
