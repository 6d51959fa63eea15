use Rattle.std.proofs.Common.{◌∙◌, ap, option_copied, refl}
use Rattle.ficus_table.specs.SideBySide.{Sides}
use Rattle.ficus_table.proofs.Made.{made_start, made_more, made_end}
use Rattle.ficus_table.proofs.Replaced.{Other, other-copied, other_has_id, made_replaces}
use Rattle.ficus_table.proofs.replacing.merge.Goals as goal

pub loop-pair-init : goal.loop-pair-init
loop-pair-init g c = record {
  mine = c.of-walk.ensures.mine;
  theirs = c.of-walk.ensures.theirs;
  so_far = rw c.requires (made_start (λ row. g.R.Row.id_of (g.R.Row.seen row)) Other c.of-walk.result
      c.of-walk.ensures.rising c.of-walk.ensures.mine_passed c.of-walk.ensures.theirs_passed);
}

pub loop-pair-preserved : goal.loop-pair-preserved
loop-pair-preserved g c =
    let passes = c.in-Some.ensures.some in
    let mine = option_copied c.in-Some.pair.mine in
    let theirs = option_copied c.in-Some.pair.theirs in
    let row = option_copied c.or.result in
    let is : Other mine theirs row = rw c.or.ensures (other-copied c.in-Some.pair.mine c.in-Some.pair.theirs) in
    record {
      mine = ap (λ (s : Sides _). s.mine) passes.is ∙ c.loop-pair.invariant.mine;
      theirs = ap (λ (s : Sides _). s.theirs) passes.is ∙ c.loop-pair.invariant.theirs;
      so_far = rw c.in_ok-push_copied.ensures (made_more (λ r. g.R.Row.id_of (g.R.Row.seen r)) Other c.loop-pair.walk
          c.next_pair.new.self mine theirs row c.loop-pair.merged.items passes c.loop-pair.invariant.so_far is
          (other_has_id (λ r. g.R.Row.id_of (g.R.Row.seen r)) mine theirs row is));
    }

pub returns-clause-replaced : goal.returns-clause-replaced
returns-clause-replaced g c =
    let made = made_end (λ row. g.R.Row.id_of (g.R.Row.seen row)) Other c.loop-pair.walk c.loop-pair.merged.items
    c.loop-pair.invariant.so_far c.in_default.ensures.none refl in
    rw (← c.loop-pair.invariant.mine, ← c.loop-pair.invariant.theirs)
    (made_replaces (λ row. g.R.Row.id_of (g.R.Row.seen row)) c.loop-pair.walk.mine c.loop-pair.walk.theirs
    c.loop-pair.merged.items made)
