use Rattle.std.proofs.lemmas.Option.{slice_get_within}
use Rattle.ficus_index.proofs.Notes.{remove_ordered, takes_at}
use Rattle.ficus_index.proofs.index.Index.without.Goals as goal

pub invariant_of-result : goal.invariant_of-result
invariant_of-result c =
    let notes = c.self.inside.notes in
    rw c.in_ok-notes-in-Some.ensures
    (remove_ordered notes c.self.invariant c.in-Some.position
    (slice_get_within notes c.in-Some.position c.args.note (rw c.self.view_is c.in-Some.ensures.some)))

pub returns-in_ok-notes-in-Some : goal.returns-in_ok-notes-in-Some
returns-in_ok-notes-in-Some c =
    rw (c.in_ok-notes-in-Some.ensures, c.self.view_is)
    (takes_at c.args.self.now c.in-Some.position c.args.note c.in-Some.ensures.some)
