use Rattle.std.proofs.Common.{◌≢◌, ◌<◌, rules}
use Rattle.std.proofs.lemmas.Bool.{ltb-true}
use Rattle.ficus_index.specs.Place.{order_of}
use Rattle.ficus_index.proofs.Notes.{nowhere, unseen_more}
use Rattle.ficus_index.proofs.index.Index.position.Goals as goal

pub returns-then-is_before-clause-none : goal.returns-then-is_before-clause-none
returns-then-is_before-clause-none c =
    let notes = c.self.inside.notes in
    let behind : order_of c.args.note.place < order_of c.at.result.now.place =
    ltb-true _ _ (search rules) in
    rw (← c.self.view_is)
    (nowhere notes c.self.invariant c.args.note c.at.result.now c.partition_point-first.result
    c.loop-position.position c.partition_point-first.ensures.point c.loop-position.invariant c.at.ensures behind)

pub loop-position-preserved : goal.loop-position-preserved
loop-position-preserved c =
    let differs : c.at.result.now ≢ c.args.note = search rules in
    unseen_more c.self.inside.notes c.args.note c.at.result.now c.partition_point-first.result
    c.loop-position.position c.loop-position.invariant c.at.ensures differs
