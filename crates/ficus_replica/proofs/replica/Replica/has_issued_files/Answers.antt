use Rattle.std.proofs.Common.{length, ◌≤◌, refl, subst, arith}
use Rattle.std.specs.Prelude.{All}
use Rattle.std.proofs.lemmas.Bool.{both_ways}
use Rattle.std.proofs.lemmas.List.{take_all}
use Rattle.std.proofs.lemmas.List.Elements.{All-contains}
use Rattle.ficus_file.specs.declared.file.FileReplica.{FileReplica}
use Rattle.ficus_durable_state.specs.Saved.{IsFileOfPast}
use Rattle.ficus_file.proofs.Changed.{contains_at}
use Rattle.ficus_durable_state.proofs.AllRows.{all_more}
use Rattle.ficus_merge_files.proofs.Taking.{all_of_theirs}
use Rattle.ficus_replica.proofs.replica.Replica.has_issued_files.Goals as goal

pub loop-index-preserved : goal.loop-index-preserved
loop-index-preserved c = all_more (IsFileOfPast c.args.self.now.saved.me c.args.self.now.saved.next) c.args.news.now.new
    c.loop-index.index c.at.result.theirs.now c.at.ensures.theirs c.loop-index.invariant
    (c.has_issued_file.ensures.0 c.if-not-has_issued_file.false)

pub returns-then-not-has_issued_file : goal.returns-then-not-has_issued_file
returns-then-not-has_issued_file c = (
  λ is. absurd cc,
  λ all. let file : FileReplica = c.at.result.theirs.now in
      absurd (both_ways c.has_issued_file.result c.if-not-has_issued_file.true (c.has_issued_file.ensures.1
      (All-contains (IsFileOfPast c.args.self.now.saved.me c.args.self.now.saved.next) c.args.news.now.theirs file all
      (c.len-index-end.ensures.new.of_theirs file
      (contains_at c.args.news.now.new c.loop-index.index file c.at.ensures.theirs))))),
)

pub returns : goal.returns
returns c =
    let P = IsFileOfPast c.args.self.now.saved.me c.args.self.now.saved.next in
    let new = c.args.news.now.new in
    let past : length new ≤ c.loop-index.index = omega (arith, c.len-index-end.ensures.value) in (
      λ _. all_of_theirs P c.args.news.now.mine c.args.news.now.theirs new c.len-index-end.ensures.new
          (rw c.requires.mine c.requires.fits.past.each_file)
          (subst (All P) (take_all c.loop-index.index new past) c.loop-index.invariant),
      λ _. refl,
    )
