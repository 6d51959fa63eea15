use Rattle.std.specs.Prelude.{Contains}
use Rattle.ficus_entry.proofs.Noted.{live_noted}
use Rattle.ficus_entry.proofs.Within.{MatchOption-weaker, entry_within}
use Rattle.ficus_entry.proofs.entries.Entries.first.Goals as goal

pub returns-clause-none : goal.returns-clause-none
returns-clause-none g c =
    let notes = c.self.inside.index in
    let view = c.self.inside.table.items in
    let noted = c.self.invariant in
    let span = c.span in
    MatchOption-weaker c.first_of.result c.first_of.ensures.none (λ none entry inside passes between.
    let viewed : Contains view entry = rw c.self.view_is inside in
    let live = g.T.Test.lives c.args.test.now entry passes in
    let old : Contains noted.before entry =
    live_noted view c.self.inside.table.edited notes noted entry viewed live in
    entry_within noted.before notes c.args.from c.args.to span.result.start span.result.end entry noted.noted
    span.ensures old live between (none entry inside passes)) (λ x t. t)
