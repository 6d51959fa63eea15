use Rattle.std.proofs.Common.{◌≡◌, None, Some, sym, ◌∙◌, ap}
use Rattle.ficus_script.specs.Arguments.{bytes_of}
use Rattle.ficus_script.proofs.ArgumentLaws.{no_numbers}
use Rattle.ficus_script.proofs.Cuts.{cut_whole}
use Rattle.ficus_script.proofs.arguments.replica_first.Goals as goal

pub returns-in_err-read_replica-in-None : goal.returns-in_err-read_replica-in-None
returns-in_err-read_replica-in-None c =
    rw c.from_residual-in_err-read_replica-in-None.ensures
    (λ paths. no_numbers c.args.first.now c.args.words.now _ _ c.requires
    (cut_whole _ _ _ c.cut_at.ensures.whole) c.cut_at.ensures.front
    (λ replica is same _. c.in_err-read_replica-in-None.ensures.none replica is same)
    (λ calls pick fits is same behind.
    let none : None ≡ Some _ = sym (ap bytes_of c.in-None.is) ∙ behind in
    cc))

pub returns-in_err-read_number-in-Some : goal.returns-in_err-read_number-in-Some
returns-in_err-read_number-in-Some c =
    rw c.from_residual-in_err-read_number-in-Some.ensures
    (λ paths. no_numbers c.args.first.now c.args.words.now _ _ c.requires
    (cut_whole _ _ _ c.cut_at.ensures.whole) c.cut_at.ensures.front
    (λ replica is same nothing.
    let some : Some c.in-Some.last.now ≡ None = sym (ap bytes_of c.in-Some.is) ∙ nothing in
    cc)
    (λ calls pick fits is same behind. c.in_err-read_number-in-Some.ensures.none calls fits same))

pub returns-in_err-read_pick-in-Some : goal.returns-in_err-read_pick-in-Some
returns-in_err-read_pick-in-Some c =
    rw c.from_residual-in_err-read_pick-in-Some.ensures
    (λ paths. no_numbers c.args.first.now c.args.words.now _ _ c.requires
    (cut_whole _ _ _ c.cut_at.ensures.whole) c.cut_at.ensures.front
    (λ replica is same nothing.
    let some : Some c.in-Some.last.now ≡ None = sym (ap bytes_of c.in-Some.is) ∙ nothing in
    cc)
    (λ calls pick fits is same behind.
    let spelled : Some c.in-Some.last.now ≡ Some _ = sym (ap bytes_of c.in-Some.is) ∙ behind in
    c.in_err-read_pick-in-Some.ensures.none pick is (cc)))
