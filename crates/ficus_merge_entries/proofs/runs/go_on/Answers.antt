use Rattle.std.proofs.Common.{◌+◌, ◌++◌, refl, sym, ◌∙◌, arith}
use Rattle.std.specs.Int.{from_bool}
use Rattle.ficus_table.specs.SideBySide.{as_list}
use Rattle.ficus_merge_entries.proofs.Running.{merge_ends, merge_more, merge_starts, none_left, smaller, some_left}
use Rattle.ficus_merge_entries.proofs.runs.go_on.Goals as goal

pub pairs-init : goal.pairs-init
pairs-init g c = record {
  i = 0;
  j = 0;
  merging = rw c.requires.empty (merge_starts c.args.taker.number c.args.taker.members (as_list c.args.my.now ++ g.A.Run.left c.args.mine.now)
      (as_list c.args.their.now ++ g.B.Run.left c.args.theirs.now) c.args.my.now c.args.their.now (g.A.Run.left c.args.mine.now)
      (g.B.Run.left c.args.theirs.now) c.requires.mine c.requires.theirs
      (record { is = refl; none = c.requires.mine_none }) (record { is = refl; none = c.requires.theirs_none }));
  mine_calls = omega arith;
  their_calls = omega arith;
}

pub pairs-smaller : goal.pairs-smaller
pairs-smaller g c =
    smaller c.args.taker.number c.args.taker.members (as_list c.args.my.now ++ g.A.Run.left c.args.mine.now)
    (as_list c.args.their.now ++ g.B.Run.left c.args.theirs.now)
    c.pairs.invariant.i c.pairs.invariant.j c.pairs.my c.pairs.their (g.A.Run.left c.pairs.mine)
    (g.B.Run.left c.pairs.theirs) c.pairs.merged.items c.pairs.invariant.merging
    c.lower_of-lower.result.mine c.lower_of-lower.result.theirs c.lower_of-lower.ensures.lowest c.lower_of-lower.ensures.mine c.lower_of-lower.ensures.theirs
    (some_left c.pairs.my c.pairs.their (sym c.are_left.ensures ∙ c.pairs-test.true))
    c.advance.new.head c.advance-in-pairs.new.head (g.A.Run.left c.advance.new.run) (g.B.Run.left c.advance-in-pairs.new.run)
    (c.in_ok-advance.ensures.at (as_list c.args.my.now ++ g.A.Run.left c.args.mine.now) c.pairs.invariant.i c.pairs.invariant.merging.at_mine)
    (c.in_ok-advance-2.ensures.at (as_list c.args.their.now ++ g.B.Run.left c.args.theirs.now) c.pairs.invariant.j c.pairs.invariant.merging.at_theirs)

pub pairs-preserved : goal.pairs-preserved
pairs-preserved g c = record {
  i = c.pairs.invariant.i + from_bool c.lower_of-lower.result.mine;
  j = c.pairs.invariant.j + from_bool c.lower_of-lower.result.theirs;
  merging = rw c.in_ok-put_made.ensures.2 (merge_more c.args.taker.number c.args.taker.members (as_list c.args.my.now ++ g.A.Run.left c.args.mine.now)
      (as_list c.args.their.now ++ g.B.Run.left c.args.theirs.now)
      c.pairs.invariant.i c.pairs.invariant.j c.pairs.my c.pairs.their (g.A.Run.left c.pairs.mine)
      (g.B.Run.left c.pairs.theirs) c.pairs.merged.items c.pairs.invariant.merging
      c.lower_of-lower.result.mine c.lower_of-lower.result.theirs c.lower_of-lower.ensures.lowest c.lower_of-lower.ensures.mine
      c.lower_of-lower.ensures.theirs (some_left c.pairs.my c.pairs.their (sym c.are_left.ensures ∙ c.pairs-test.true))
      c.in_ok-put_made.ensures.0
      c.advance.new.head c.advance-in-pairs.new.head (g.A.Run.left c.advance.new.run) (g.B.Run.left c.advance-in-pairs.new.run)
      c.in_ok-put_made.ensures.1
      (c.in_ok-advance.ensures.at (as_list c.args.my.now ++ g.A.Run.left c.args.mine.now) c.pairs.invariant.i c.pairs.invariant.merging.at_mine)
      (c.in_ok-advance-2.ensures.at (as_list c.args.their.now ++ g.B.Run.left c.args.theirs.now) c.pairs.invariant.j c.pairs.invariant.merging.at_theirs));
  mine_calls = omega (arith, c.pairs.invariant.mine_calls, c.advance.ensures.counted);
  their_calls = omega (arith, c.pairs.invariant.their_calls, c.advance-in-pairs.ensures.counted);
}

pub returns-clause-made : goal.returns-clause-made
returns-clause-made g c =
    let none = none_left c.pairs.my c.pairs.their (sym c.are_left.ensures ∙ c.pairs-test.false) in
    merge_ends c.args.taker.number c.args.taker.members (as_list c.args.my.now ++ g.A.Run.left c.args.mine.now)
    (as_list c.args.their.now ++ g.B.Run.left c.args.theirs.now)
    c.pairs.invariant.i c.pairs.invariant.j c.pairs.my c.pairs.their (g.A.Run.left c.pairs.mine)
    (g.B.Run.left c.pairs.theirs) c.pairs.merged.items c.pairs.invariant.merging
    none.0 none.1
