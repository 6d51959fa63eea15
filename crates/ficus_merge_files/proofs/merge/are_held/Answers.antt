use Rattle.std.proofs.Common.{◌≡◌, get_or, arith, subst, ◌∙◌}
use Rattle.std.specs.Prelude.{Contains}
use Rattle.std.proofs.lemmas.List.{get_or_default}
use Rattle.ficus_file.specs.declared.file.FileReplica.{FileReplica}
use borrow.Author.Count.{below_more}
use Rattle.ficus_merge_files.proofs.merge.are_held.Goals as goal

pub loop-file-preserved : goal.loop-file-preserved
loop-file-preserved c k d =
    let held = c.args.held.now in
    let files = c.args.files.now in
    let index = c.loop-file.file-index in
    let file = c.file-item.result in
    let is : file ≡ get_or files index d =
    c.file-item.is ∙ get_or_default files index file d c.loop-file-test.true in
    below_more (λ i. Contains held (get_or files i d).id) index (λ i before. c.loop-file.invariant i d before)
    (subst (λ (f : FileReplica). Contains held f.id) is
    (rw c.file.ensures at (c.is_among.ensures.0 c.if-not-is_among.false))) k

pub returns : goal.returns
returns c is k d within = c.loop-file.invariant k d (omega arith)
