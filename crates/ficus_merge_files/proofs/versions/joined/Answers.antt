use Rattle.std.proofs.lemmas.Result.{IfOk-weaker}
use Rattle.ficus_merge_files.proofs.Kept.{merged_from, first_of_either}
use Rattle.ficus_merge_files.proofs.versions.joined.Goals as goal

pub add_latest-requires-2-clause-kept : goal.add_latest-requires-2-clause-kept
add_latest-requires-2-clause-kept c =
    first_of_either c.args.mine.now c.args.theirs.now c.new-kept.result.items c.add_latest.new.kept.items c.new-kept.ensures.items
    c.in_ok-add_latest.ensures.gained

pub returns : goal.returns
returns c =
    IfOk-weaker c.of.result _ _
    (λ versions is. rw is (merged_from c.args.mine.now c.args.theirs.now c.new-kept.result.items c.add_latest.new.kept.items c.add_latest-2.new.kept.items
    c.new-kept.ensures.items c.in_ok-add_latest.ensures.gained c.in_ok-add_latest-2.ensures.gained c.in_ok-add_latest-2.ensures.ordered))
    c.of.ensures
