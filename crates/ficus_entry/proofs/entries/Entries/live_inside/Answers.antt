use Rattle.ficus_entry.specs.Inside.{HasLiveInside}
use Rattle.ficus_entry.proofs.Within.{MatchOption-weaker, is_some_where, between_all}
use Rattle.ficus_entry.proofs.entries.Entries.live_inside.Goals as goal

pub returns : goal.returns
returns c =
    let found = c.first.result in
    is_some_where (HasLiveInside c.args.self.now c.args.dir) found c.is_some.result c.is_some.ensures
    (MatchOption-weaker found c.first.ensures.some (λ t. t)
    (λ entry is. record { entry = entry.now; inside = is.0; live = is.1.0; in_dir = is.1.1 }))
    (MatchOption-weaker found c.first.ensures.none (λ none live.
    none live.entry live.inside (live.live, live.in_dir)
    (rw (c.first_place.ensures, c.place_behind.ensures) (between_all c.args.dir live.entry live.in_dir)))
    (λ x t. t))
