use Rattle.std.proofs.lemmas.Result.{IfOk-weaker, MatchResult-weaker}
use Rattle.ficus_table.proofs.SameIds.{found_same, place_same}
use Rattle.ficus_table.proofs.Sound.{rising_shown}
use Rattle.ficus_table.proofs.table.Table.search.Goals as goal

pub search-requires : goal.search-requires
search-requires g c = c.self.invariant.rising

pub returns-clause-found : goal.returns-clause-found
returns-clause-found g c =
    rw (← c.self.view_is)
    (IfOk-weaker c.search.result _ _ (λ i found. found_same g.R.Row.id_of (λ row. g.R.Row.id_of (g.R.Row.seen row))
    _ c.self.inside.list c.self.invariant.same c.args.id i found) c.search.ensures.found)

pub returns-clause-place : goal.returns-clause-place
returns-clause-place g c =
    rw (← c.self.view_is)
    (MatchResult-weaker c.search.result c.search.ensures.place (λ i h. h)
    (λ i place. place_same g.R.Row.id_of (λ row. g.R.Row.id_of (g.R.Row.seen row))
    _ c.self.inside.list c.self.invariant.same c.args.id i place))

pub returns-clause-rising : goal.returns-clause-rising
returns-clause-rising g c =
    rw (← c.self.view_is) (rising_shown g.R.Row.id_of g.R.Row.seen g.R.Row.formed _ c.self.inside.list _ c.self.invariant)
