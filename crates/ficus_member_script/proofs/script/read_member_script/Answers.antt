use Rattle.std.proofs.Common.{Err, ap}
use Rattle.std.proofs.lemmas.Bool.{false≢true}
use Rattle.ficus_script.specs.Script.{MayStand}
use Rattle.ficus_script.specs.declared.fault.ScriptFault.TheVariants.{BadLine}
use Rattle.ficus_script.proofs.ScriptLaws.{all_may, one_first_bad}
use Rattle.ficus_script.proofs.Scripts.{all_read, all_seen, first_bad}
use Rattle.ficus_member_script.specs.MemberLine.{IsMemberLine, SpellsMemberLine}
use Rattle.ficus_member_script.proofs.Lines.{IsDraftOf-more, IsDraftOf-none, at_most, each_own}
use Rattle.ficus_member_script.proofs.script.read_member_script.Goals as goal

pub loop-line-init : goal.loop-line-init
loop-line-init c = IsDraftOf-none c.args.bytes.now c.new-draft.result c.new-draft.ensures.empty

pub loop-line-preserved : goal.loop-line-preserved
loop-line-preserved c =
    let yes = c.if-not-take.false in
    IsDraftOf-more c.in-Some.line.now c.in-Some.others.now c.loop-line.invariant c.in-Some.ensures.lines
    c.in-Some.ensures.shorter (c.take.ensures.may.0 yes) (c.take.ensures.taken yes)

pub returns-then-not-take-clause-no_line : goal.returns-then-not-take-clause-no_line
returns-then-not-take-clause-no_line c = λ line first.
    let bad = first_bad (MayStand IsMemberLine) c.in-Some.line.now c.in-Some.others.now c.loop-line.invariant.seen
    c.in-Some.ensures.lines (λ may. absurd (false≢true (c.if-not-take.ensures.may.1 may))) in
    ap (λ number. Err (BadLine number)) (one_first_bad (MayStand IsMemberLine) c.args.bytes.now _ line bad first)

pub returns-then-draft-clause-no_line : goal.returns-then-draft-clause-no_line
returns-then-draft-clause-no_line c = λ line first.
    absurd (all_may _ _ line (all_seen (MayStand IsMemberLine) c.loop-line.invariant.seen c.in_default.ensures.none) first)

pub returns-else-draft-clause-each : goal.returns-else-draft-clause-each
returns-else-draft-clause-each c =
    each_own c.args.bytes.now _
    (all_read SpellsMemberLine IsMemberLine (c.loop-line.invariant.read c.if-draft.false) c.in_default.ensures.none)

pub returns-else-draft-clause-count : goal.returns-else-draft-clause-count
returns-else-draft-clause-count c =
    at_most c.args.bytes.now _
    (all_read SpellsMemberLine IsMemberLine (c.loop-line.invariant.read c.if-draft.false) c.in_default.ensures.none)

pub returns-else-draft-clause-no_line : goal.returns-else-draft-clause-no_line
returns-else-draft-clause-no_line c = λ line first.
    absurd (all_may _ _ line (all_seen (MayStand IsMemberLine) c.loop-line.invariant.seen c.in_default.ensures.none) first)
