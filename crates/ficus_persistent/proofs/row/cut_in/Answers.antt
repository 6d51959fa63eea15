use Rattle.std.proofs.lemmas.List.Sorted.{IsPartitionPoint-from_clause}
use Rattle.std.proofs.Common.{rules}
use Rattle.ficus_persistent.proofs.row.cut_in.Goals as goal

pub returns-clause-point : goal.returns-clause-point
returns-clause-point g c =
    IsPartitionPoint-from_clause (g.C.Cut.is_before c.args.cut.now) c.args.row.now _
    c.partition_point.ensures.partitioned c.requires (λ a r q call. (search rules, search rules))
