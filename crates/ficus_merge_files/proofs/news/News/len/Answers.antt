use Rattle.std.proofs.Common.{◌≡◌, ◌∙◌, sym, ap, length, arith}
use Rattle.ficus_merge_files.specs.News.{Sides}
use Rattle.ficus_merge_files.proofs.Places.{places_count}
use Rattle.ficus_merge_files.proofs.news.News.len.Goals as goal

pub returns-clause-value : goal.returns-clause-value
returns-clause-value c =
    let all : c.len.result ≡ length c.self.inside.places.items = grind arith in
    all ∙ sym (places_count c.self.inside.theirs c.self.inside.places.items c.self.invariant.inside)
    ∙ ap (λ (sides : Sides). length sides.new) c.self.view_is
