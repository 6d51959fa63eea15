use Rattle.std.proofs.Common.{arith, rules}
use Rattle.std.proofs.lemmas.Bool.{both_ways}
use Rattle.ficus_merge_files.proofs.Kept.{passed_by, kept_too, at_end}
use Rattle.ficus_merge_files.proofs.versions.add_latest.Goals as goal
use Rattle.ficus_merge_files.proofs.versions.add_latest.Goals.{then-is_latest+in_ok-add_version, else-is_latest}

pub loop-version-preserved : goal.loop-version-preserved
loop-version-preserved c = elim c.if-is_latest.branch [
  | then-is_latest+in_ok-add_version w ↦
      rw w.kept-is (
        w.in_ok-add_version.ensures.ordered,
        kept_too c.args.from.now c.loop-version.version-index c.version-item.result c.loop-version-test.true
            (search rules) c.args.mine.now c.args.theirs.now c.args.kept.now.items c.loop-version.kept.items c.loop-version.invariant.1
            w.add_version.new.kept.items
            c.requires.one_text c.requires.from c.requires.kept (c.is_latest.ensures.0 w.if-is_latest.true) w.in_ok-add_version.ensures.gained,
      )
  | else-is_latest w ↦
      rw w.kept-is (
        c.loop-version.invariant.0,
        passed_by c.args.from.now c.loop-version.version-index c.version-item.result c.loop-version-test.true
            (search rules) c.args.mine.now c.args.theirs.now c.args.kept.now.items c.loop-version.kept.items c.loop-version.invariant.1
            (λ latest. both_ways c.is_latest.result w.if-is_latest.false (c.is_latest.ensures.1 latest)),
      )
]

pub returns-clause-gained : goal.returns-clause-gained
returns-clause-gained c =
    at_end c.args.from.now c.args.mine.now c.args.theirs.now c.args.kept.now.items c.loop-version.kept.items c.loop-version.version-index
    (omega arith) c.loop-version.invariant.1
