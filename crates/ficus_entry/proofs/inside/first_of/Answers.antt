use Rattle.std.proofs.Common.{inl, inr}
use Rattle.ficus_index.specs.PlaceLaws.{one_within}
use Rattle.ficus_entry.proofs.inside.first_of.Goals as goal

pub loop-position-preserved : goal.loop-position-preserved
loop-position-preserved g c = λ entry inside passes noted.
    elim (one_within c.args.index.now c.args.span.start c.loop-position.position c.id_at.result entry.id
    c.id_at.ensures noted) [
      | inl earlier ↦ c.loop-position.invariant entry inside passes earlier
      | inr is ↦ c.in_default.ensures.none entry inside passes is
    ]
