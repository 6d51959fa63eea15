use Rattle.std.proofs.lemmas.List.Sorted.{IsPermutation-insert}
use Rattle.ficus_index.proofs.Notes.{insert_ordered}
use Rattle.ficus_index.proofs.index.Index.with.Goals as goal

pub invariant_of-result : goal.invariant_of-result
invariant_of-result c =
    let cut = c.partition_point-position in
    rw c.in_ok-notes.ensures
    (insert_ordered c.self.inside.notes c.self.invariant cut.result c.args.note cut.ensures.within
    cut.ensures.point)

pub returns : goal.returns
returns c = rw (c.in_ok-notes.ensures, ← c.self.view_is)
    (IsPermutation-insert c.self.inside.notes c.partition_point-position.result c.args.note)
