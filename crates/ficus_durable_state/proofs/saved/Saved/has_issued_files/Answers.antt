use Rattle.std.proofs.Common.{◌≤◌, length, refl, subst, arith}
use Rattle.std.specs.Prelude.{All}
use Rattle.std.proofs.lemmas.List.{take_all}
use Rattle.ficus_durable_state.specs.Saved.{IsFileOfPast}
use Rattle.ficus_durable_state.proofs.AllRows.{all_more}
use Rattle.ficus_durable_state.proofs.saved.Saved.has_issued_files.Goals as goal

pub loop-index-preserved : goal.loop-index-preserved
loop-index-preserved c =
    all_more (IsFileOfPast c.args.self.now.me c.args.self.now.next) c.args.files.now c.loop-index.index c.at.result.now
    c.at.ensures c.loop-index.invariant
    (c.has_issued_file.ensures.0 c.if-not-has_issued_file.false)

pub returns : goal.returns
returns c =
    let P = IsFileOfPast c.args.self.now.me c.args.self.now.next in
    let past : length c.args.files.now ≤ c.loop-index.index =
    omega (arith, c.len-index-end.ensures.value) in (
      λ _. subst (All P) (take_all c.loop-index.index c.args.files.now past) c.loop-index.invariant,
      λ _. refl,
    )
