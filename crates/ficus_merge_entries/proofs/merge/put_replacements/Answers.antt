use Rattle.std.proofs.Common.{◌∙◌, ap, arith, option_copied, refl}
use Rattle.ficus_table.specs.SideBySide.{Sides}
use Rattle.ficus_table.proofs.Made.{made_start, made_more, made_end}
use Rattle.ficus_merge_entries.specs.Merge.{IsReplacement}
use Rattle.ficus_merge_entries.specs.Runs.{id_of}
use Rattle.ficus_merge_entries.proofs.Replacing.{replacement_has_id, nothing_merges}
use Rattle.ficus_merge_entries.proofs.merge.put_replacements.Goals as goal

pub loop-next-init : goal.loop-next-init
loop-next-init g c = record {
  mine = refl;
  theirs = refl;
  so_far = rw c.requires.empty (made_start id_of (IsReplacement c.args.taker.number c.args.taker.members)
      (g.W.Pairs.sides c.args.walk.now) c.requires.start.rising c.requires.start.mine c.requires.start.theirs);
  calls = omega arith;
}

pub loop-next-preserved : goal.loop-next-preserved
loop-next-preserved g c =
    let passes = c.in-Some.ensures.some in
    let mine = option_copied c.in-Some.next.pair.mine in
    let theirs = option_copied c.in-Some.next.pair.theirs in
    let made = c.in_ok-replacement.field-0 in
    let replacements = IsReplacement c.args.taker.number c.args.taker.members in
    record {
      mine = ap (λ (s : Sides _). s.mine) passes.is ∙ c.loop-next.invariant.mine;
      theirs = ap (λ (s : Sides _). s.theirs) passes.is ∙ c.loop-next.invariant.theirs;
      so_far = rw c.in_ok-note.ensures (made_more id_of replacements (g.W.Pairs.sides c.loop-next.walk)
          (g.W.Pairs.sides c.next.new.self) mine theirs made
          c.loop-next.replacements.items passes c.loop-next.invariant.so_far c.in_ok-replacement.ensures
          (replacement_has_id c.args.taker.number c.args.taker.members mine theirs made c.in_ok-replacement.ensures));
      calls = omega (arith, passes.fewer, c.next.ensures.counted, c.loop-next.invariant.calls);
    }

pub returns-clause-made : goal.returns-clause-made
returns-clause-made g c =
    rw (← c.loop-next.invariant.mine, ← c.loop-next.invariant.theirs)
    (made_end id_of (IsReplacement c.args.taker.number c.args.taker.members) (g.W.Pairs.sides c.loop-next.walk)
    c.loop-next.replacements.items
    c.loop-next.invariant.so_far c.in_default.ensures.none
    (nothing_merges c.args.taker.number c.args.taker.members))
