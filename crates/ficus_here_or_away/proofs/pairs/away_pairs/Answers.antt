use Rattle.std.proofs.Common.{All, List, [], ◌∷◌, ap, arith, length, length-append, subst, sym}
use Rattle.std.proofs.lemmas.List.Elements.{All-push}
use Rattle.ficus_disk.specs.declared.pair.Pair.{Pair}
use Rattle.ficus_here_or_away.specs.Pairs.{IsAwayPair}
use Rattle.ficus_here_or_away.specs.declared.here_or_away.HereOrAway.{HereOrAway}
use Rattle.ficus_here_or_away.proofs.pairs.away_pairs.Goals as goal

pub loop-preserved : goal.loop-preserved
loop-preserved g c = record {
  within = omega arith;
  count = omega (
    arith,
    ap length c.in_ok-push.ensures.items,
    length-append c.loop.pairs.items (c.away_pair.result ∷ []),
    c.loop.invariant.count,
  );
  away = subst (λ (pairs : List (Pair (HereOrAway g.row.D.Denot))). All IsAwayPair pairs)
      (sym c.in_ok-push.ensures.items)
      (All-push IsAwayPair c.loop.pairs.items c.away_pair.result c.loop.invariant.away c.away_pair.ensures);
}
