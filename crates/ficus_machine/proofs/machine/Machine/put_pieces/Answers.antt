use Rattle.std.proofs.Common.{arith, ◌≡◌, refl, sym, subst, ap, ◌<◌, ◌∙◌, length, List, ℕ, Bool, Result, Ok, Err, false, true}
use Rattle.ficus_machine.specs.declared.fault.LineFault.{LineFault}
use Rattle.std.proofs.lemmas.Result.{err_from_is_err_and}
use Rattle.ficus_machine.proofs.Putting.{PutsUpTo, fetches_then, posted_next, puts_begin, puts_end, puts_on, puts_stop}
use Rattle.ficus_machine.proofs.machine.Machine.put_pieces.Goals as goal

never : {answer : Result Bool LineFault} (fault : LineFault) → answer ≡ Err fault → answer ≡ Ok true → ⊥
never fault is same = cc

pub loop-index-init : goal.loop-index-init
loop-index-init g c = puts_begin

pub put_piece-requires-clause-few : goal.put_piece-requires-clause-few
put_piece-requires-clause-few g c =
    subst (λ (posts : List (List ℕ)). length posts < 4294967296) (sym c.loop-index.invariant.fetches.posts)
    c.requires.few

pub put_piece-requires-clause-posted : goal.put_piece-requires-clause-posted
put_piece-requires-clause-posted g c =
    posted_next g.M.Mailbox c.args.self.now c.args.serving c.args.pieces c.loop-index.index c.loop-index.self
    c.args.mailbox.now c.loop-index.mailbox c.loop-index.invariant c.loop-index-test.true c.requires.posted.0
    c.requires.posted.1 c.requires.posted.2

pub returns-in_err-is_put-clause-puts : goal.returns-in_err-is_put-clause-puts
returns-in_err-is_put-clause-puts g c =
    let given = err_from_is_err_and c.from_residual.result c.from_residual.ensures.1 in
    puts_stop g.M.Mailbox c.args.self.now c.args.serving c.args.pieces c.loop-index.index c.loop-index.self
    c.args.mailbox.now c.loop-index.mailbox c.loop-index.invariant c.loop-index-test.true c.put_piece.new.mailbox
    c.put_piece.result c.put_piece.ensures.puts c.from_residual.result
    (c.in_err-is_put.was ∙ sym (rw (given.1, given.2) refl)) (λ same. never given.0 given.1 same)

pub returns-in_err-is_put-clause-fetches : goal.returns-in_err-is_put-clause-fetches
returns-in_err-is_put-clause-fetches g c = fetches_then c.loop-index.invariant.fetches c.put_piece.ensures.fetches

pub returns-then-not-is_put-clause-puts : goal.returns-then-not-is_put-clause-puts
returns-then-not-is_put-clause-puts g c =
    puts_stop g.M.Mailbox c.args.self.now c.args.serving c.args.pieces c.loop-index.index c.loop-index.self
    c.args.mailbox.now c.loop-index.mailbox c.loop-index.invariant c.loop-index-test.true c.put_piece.new.mailbox
    c.put_piece.result c.put_piece.ensures.puts (Ok false)
    (c.in_ok-is_put.was ∙ ap Ok c.if-not-is_put.true) (λ same. cc)

pub returns-then-not-is_put-clause-fetches : goal.returns-then-not-is_put-clause-fetches
returns-then-not-is_put-clause-fetches g c = fetches_then c.loop-index.invariant.fetches c.put_piece.ensures.fetches

pub loop-index-preserved : goal.loop-index-preserved
loop-index-preserved g c =
    puts_on g.M.Mailbox c.args.self.now c.args.serving c.args.pieces c.loop-index.index c.loop-index.self
    c.args.mailbox.now c.loop-index.mailbox c.loop-index.invariant c.loop-index-test.true c.put_piece.new.mailbox
    c.put_piece.result c.put_piece.ensures.puts c.put_piece.new.self c.put_piece.ensures.fetches
    (c.in_ok-is_put.was ∙ ap Ok c.if-not-is_put.false)

pub returns-clause-puts : goal.returns-clause-puts
returns-clause-puts g c = λ messages counted are.
    let ended : c.loop-index.index ≡ c.args.pieces = omega (arith, c.loop-index-test.false, c.loop-index.auto.index-end) in
    puts_end (subst (λ n. PutsUpTo g.M.Mailbox c.args.self.now c.args.serving c.args.pieces n c.loop-index.self
    c.args.mailbox.now c.loop-index.mailbox) ended c.loop-index.invariant) messages counted are

pub returns-clause-fetches : goal.returns-clause-fetches
returns-clause-fetches g c = c.loop-index.invariant.fetches
