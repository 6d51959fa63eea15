use Rattle.std.proofs.Common.{subst, sym, ◌∙◌}
use Rattle.std.proofs.lemmas.Result.{IfOk-weaker}
use Rattle.ficus_file.specs.Files.{AreFiles}
use Rattle.ficus_merge_files.specs.Merge.{AreMergedFiles}
use Rattle.ficus_merge_files.proofs.New.{all_merged, all_theirs}
use Rattle.ficus_merge_files.proofs.Walk.{merged_by_replacements}
use Rattle.ficus_merge_files.proofs.merge.merged_with.Goals as goal

pub of_rows-requires : goal.of_rows-requires
of_rows-requires c =
    subst AreFiles (sym c.in-Some.ensures.theirs) c.len-count.ensures.theirs

pub returns-in-Some-clause-merged : goal.returns-in-Some-clause-merged
returns-in-Some-clause-merged c =
    let news = c.args.news.now in
    let rows = c.in-Some.ensures in
    let held = c.args.held.items in
    let merged : AreMergedFiles held news.mine news.theirs news.theirs =
    all_theirs held news.mine news.theirs rows.none c.len-count.ensures.theirs
    (rw (rows.theirs, c.deref.ensures.value) at rows.held) in
    IfOk-weaker c.of_rows.result _ _
    (λ both is. subst (AreMergedFiles held news.mine news.theirs) (sym (is ∙ rows.theirs)) merged) c.of_rows.ensures

pub returns-in-Some-clause-files : goal.returns-in-Some-clause-files
returns-in-Some-clause-files c =
    IfOk-weaker c.of_rows.result _ _ (λ both is. subst AreFiles (sym (is ∙ c.in-Some.ensures.theirs))
    c.len-count.ensures.theirs) c.of_rows.ensures

pub returns-clause-merged : goal.returns-clause-merged
returns-clause-merged c =
    let news = c.args.news.now in
    all_merged news.mine news.theirs news.new c.len-count.ensures.new c.len-count.ensures.mine
    c.len-count.ensures.theirs c.args.held.items c.replace.new.self
    (merged_by_replacements c.args.held.items news.mine news.new c.in_ok-replacements.replacements.items c.replace.new.self
    (rw c.deref-2.ensures.value at c.in_ok-replacements.ensures.replacements)
    (rw (c.deref-3.ensures.value, c.in_ok-both.ensures.same, c.mine.ensures) at c.in_ok-replace.ensures.replaced))
