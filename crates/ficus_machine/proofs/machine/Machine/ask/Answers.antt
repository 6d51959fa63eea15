use Rattle.std.proofs.Common.{Err, Ok, ap, refl, ◌∙◌}
use Rattle.std.proofs.lemmas.Result.{err_from_is_err_and}
use Rattle.std.specs.Prelude.{IsErrOf}
use Rattle.ficus_member_script.specs.declared.member_answer.MemberAnswer.{MemberAnswer}
use Rattle.ficus_member_script.specs.declared.member_answer.MemberAnswer.TheVariants.{Asked}
use Rattle.ficus_replica.specs.declared.replica.Asked.{Asked as AskedValue}
use Rattle.ficus_machine.specs.declared.fault.LineFault.{LineFault}
use Rattle.ficus_machine.specs.declared.fault.LineFault.TheVariants.{Note as NoteFault}
use Rattle.ficus_script.specs.declared.command.Command.TheVariants.{Ask}
use Rattle.ficus_machine.proofs.Asks.{ask_in_vain, ask_put, ask_refused, ask_unacted, ask_unnoted, ask_unprepared, ask_unput, ask_unsettled, fits_noted, mid_waits}
use Rattle.ficus_machine.proofs.Lived.{lives_ends, lives_where, never_note}
use Rattle.ficus_machine.proofs.LivedAsks.{lives_acted, lives_asked, lives_ended, lives_prepared, lives_put, lives_settled}
use Rattle.ficus_machine.proofs.machine.Machine.ask.Goals as goal

pub returns-in_err-prepare_ask-clause-goes : goal.returns-in_err-prepare_ask-clause-goes
returns-in_err-prepare_ask-clause-goes g c =
    let given = err_from_is_err_and c.from_residual.result c.from_residual.ensures.1 in
    ask_unprepared c.requires.rest (given.1 ∙ ap Err given.2) c.in_err-prepare_ask.ensures.prepares

pub returns-in_err-answer-clause-goes : goal.returns-in_err-answer-clause-goes
returns-in_err-answer-clause-goes g c =
    let given = err_from_is_err_and c.from_residual-in_err-answer.result c.from_residual-in_err-answer.ensures.1 in
    ask_unacted c.requires.rest c.in_ok-prepare_ask.ensures.prepares (given.1 ∙ ap Err given.2)
    c.in_err-answer.ensures.acts

pub returns-in-Some-clause-goes : goal.returns-in-Some-clause-goes
returns-in-Some-clause-goes g c =
    rw c.refused.ensures
    (ask_refused c.requires.rest c.in_ok-prepare_ask.ensures.prepares c.in_ok-answer.ensures.acts
    (record {
      bare = c.renew.ensures.renewed;
      stables = c.renew.ensures.stables;
      rest = record { me = c.renew.ensures.me; tag = c.renew.ensures.tag; note = c.renew.ensures.note };
    }) c.in-Some.ensures.some c.in_ok-settle_note.ensures.settles)

pub note_ask-requires-clause-waits : goal.note_ask-requires-clause-waits
note_ask-requires-clause-waits g c =
    mid_waits c.requires.rest c.in_ok-prepare_ask.ensures.prepares c.in_ok-answer.ensures.acts c.in_default.ensures.none

pub returns-in_err-asked-clause-goes : goal.returns-in_err-asked-clause-goes
returns-in_err-asked-clause-goes g c =
    let given = err_from_is_err_and c.from_residual-in_err-asked.result c.from_residual-in_err-asked.ensures.1 in
    ask_unnoted c.requires.rest c.in_ok-prepare_ask.ensures.prepares c.in_ok-answer.ensures.acts
    c.in_default.ensures.none (given.1 ∙ ap Err given.2) c.in_err-asked.ensures.asks

pub put_ask-requires : goal.put_ask-requires
put_ask-requires g c =
    record {
      fits =
          fits_noted c.requires.rest c.in_ok-prepare_ask.ensures.prepares c.in_ok-answer.ensures.acts
          c.in_default.ensures.none c.in_ok-asked.ensures.asks;
    }

pub returns-in_err-is_put-clause-goes : goal.returns-in_err-is_put-clause-goes
returns-in_err-is_put-clause-goes g c =
    let given = err_from_is_err_and c.from_residual-in_err-is_put.result c.from_residual-in_err-is_put.ensures.1 in
    ask_unput c.requires.rest c.in_ok-prepare_ask.ensures.prepares c.in_ok-answer.ensures.acts
    c.in_default.ensures.none c.in_ok-asked.ensures.asks c.in_err-is_put.ensures.puts (given.1 ∙ ap Err given.2) refl

pub returns-then-is_put-clause-goes : goal.returns-then-is_put-clause-goes
returns-then-is_put-clause-goes g c =
    ask_put c.requires.rest c.in_ok-prepare_ask.ensures.prepares c.in_ok-answer.ensures.acts c.in_default.ensures.none
    c.in_ok-asked.ensures.asks c.in_ok-is_put.ensures.puts
    (record {
      bare = c.renew-2.ensures.renewed;
      stables = c.renew-2.ensures.stables;
      rest = record { me = c.renew-2.ensures.me; tag = c.renew-2.ensures.tag; note = c.renew-2.ensures.note };
    }) (ap Ok c.if-is_put.true)

pub returns-else-is_put-clause-goes : goal.returns-else-is_put-clause-goes
returns-else-is_put-clause-goes g c =
    rw c.refused-else-is_put.ensures
    (ask_in_vain c.requires.rest c.in_ok-prepare_ask.ensures.prepares c.in_ok-answer.ensures.acts
    c.in_default.ensures.none c.in_ok-asked.ensures.asks c.in_ok-is_put.ensures.puts
    (record {
      bare = c.renew-2.ensures.renewed;
      stables = c.renew-2.ensures.stables;
      rest = record { me = c.renew-2.ensures.me; tag = c.renew-2.ensures.tag; note = c.renew-2.ensures.note };
    }) (c.in_ok-is_put.ensures.failed c.if-is_put.false))

pub returns-in_err-settle_note-clause-goes : goal.returns-in_err-settle_note-clause-goes
returns-in_err-settle_note-clause-goes g c =
    let given =
    err_from_is_err_and c.from_residual-in_err-settle_note.result c.from_residual-in_err-settle_note.ensures.1 in
    ask_unsettled c.requires.rest c.in_ok-prepare_ask.ensures.prepares c.in_ok-answer.ensures.acts
    (record {
      bare = c.renew.ensures.renewed;
      stables = c.renew.ensures.stables;
      rest = record { me = c.renew.ensures.me; tag = c.renew.ensures.tag; note = c.renew.ensures.note };
    }) (given.1 ∙ ap Err given.2) refl c.in_err-settle_note.ensures.settles

pub returns-in_err-prepare_ask-clause-lives : goal.returns-in_err-prepare_ask-clause-lives
returns-in_err-prepare_ask-clause-lives g c =
    let given = err_from_is_err_and c.from_residual.result c.from_residual.ensures.1 in
    lives_ends g.K.Keep g.D.Disk g.N.Disk (Unit {0}) c.from_residual.result c.in_err-prepare_ask.field-0.0
    c.args.self.now c.prepare_ask.new.self c.args.disks.now.items c.args.disks.now.items c.args.slots.now
    c.prepare_ask.new.slots (given.1 ∙ ap Err given.2)
    (lives_prepared g.K.Keep g.D.Disk g.N.Disk c.args.self.now c.prepare_ask.new.self c.args.disks.now.items
    c.args.slots.now c.prepare_ask.new.slots {A = Unit {0}} (Err c.in_err-prepare_ask.field-0.0)
    c.in_err-prepare_ask.ensures.prepares c.in_err-prepare_ask.ensures.notes)

pub returns-in_err-answer-clause-lives : goal.returns-in_err-answer-clause-lives
returns-in_err-answer-clause-lives g c =
    lives_acted g.K.Keep g.D.Disk g.N.Disk c.args.self.now c.prepare_ask.new.self c.args.disks.now.items
    c.args.slots.now c.prepare_ask.new.slots c.act_ask.new.self c.act_ask.new.disks.items
    (Ask c.prepare_ask.new.self.me c.args.to) c.in_ok-prepare_ask.ensures.prepares c.in_ok-prepare_ask.ensures.notes
    c.in_err-answer.ensures.acts.rest c.in_err-answer.ensures.passes
    (IsErrOf c.from_residual-in_err-answer.result NoteFault → ⊥)

pub returns-in_err-settle_note-clause-lives : goal.returns-in_err-settle_note-clause-lives
returns-in_err-settle_note-clause-lives g c =
    let given =
    err_from_is_err_and c.from_residual-in_err-settle_note.result c.from_residual-in_err-settle_note.ensures.1 in
    lives_ends g.K.Keep g.D.Disk g.N.Disk (Unit {0}) c.from_residual-in_err-settle_note.result
    c.in_err-settle_note.field-0.0 c.args.self.now c.settle_note.new.self c.args.disks.now.items
    c.act_ask.new.disks.items c.args.slots.now c.settle_note.new.slots (given.1 ∙ ap Err given.2)
    (lives_settled g.K.Keep g.D.Disk g.N.Disk c.args.self.now c.prepare_ask.new.self c.args.disks.now.items
    c.args.slots.now c.prepare_ask.new.slots c.act_ask.new.self c.act_ask.new.disks.items
    (Ask c.prepare_ask.new.self.me c.args.to) c.in_ok-prepare_ask.ensures.prepares c.in_ok-prepare_ask.ensures.notes
    c.in_ok-answer.ensures.acts.rest c.in_ok-answer.ensures.passes c.renew.new.self
    (record {
      bare = c.renew.ensures.renewed;
      stables = c.renew.ensures.stables;
      rest = record { me = c.renew.ensures.me; tag = c.renew.ensures.tag; note = c.renew.ensures.note };
    }) {A = Unit {0}} (Err c.in_err-settle_note.field-0.0) c.settle_note.new.self c.settle_note.new.slots
    c.in_err-settle_note.ensures.settles c.in_err-settle_note.ensures.notes)

pub returns-in-Some-clause-lives : goal.returns-in-Some-clause-lives
returns-in-Some-clause-lives g c =
    lives_where g.K.Keep g.D.Disk g.N.Disk (IsErrOf {T = Unit {0}} {E = LineFault} (Ok tt) NoteFault → ⊥)
    (IsErrOf {T = MemberAnswer} {E = LineFault} (Ok c.refused.result) NoteFault → ⊥) c.args.self.now
    c.settle_note.new.self c.args.disks.now.items c.act_ask.new.disks.items c.args.slots.now c.settle_note.new.slots
    (λ any is. never_note (Ok tt) tt refl is)
    (lives_settled g.K.Keep g.D.Disk g.N.Disk c.args.self.now c.prepare_ask.new.self c.args.disks.now.items
    c.args.slots.now c.prepare_ask.new.slots c.act_ask.new.self c.act_ask.new.disks.items
    (Ask c.prepare_ask.new.self.me c.args.to) c.in_ok-prepare_ask.ensures.prepares c.in_ok-prepare_ask.ensures.notes
    c.in_ok-answer.ensures.acts.rest c.in_ok-answer.ensures.passes c.renew.new.self
    (record {
      bare = c.renew.ensures.renewed;
      stables = c.renew.ensures.stables;
      rest = record { me = c.renew.ensures.me; tag = c.renew.ensures.tag; note = c.renew.ensures.note };
    }) {A = Unit {0}} (Ok tt) c.settle_note.new.self c.settle_note.new.slots c.in_ok-settle_note.ensures.settles
    c.in_ok-settle_note.ensures.notes)

pub returns-in_err-asked-clause-lives : goal.returns-in_err-asked-clause-lives
returns-in_err-asked-clause-lives g c =
    let given = err_from_is_err_and c.from_residual-in_err-asked.result c.from_residual-in_err-asked.ensures.1 in
    lives_ends g.K.Keep g.D.Disk g.N.Disk AskedValue c.from_residual-in_err-asked.result c.in_err-asked.field-0.0
    c.args.self.now c.note_ask.new.self c.args.disks.now.items c.act_ask.new.disks.items c.args.slots.now
    c.note_ask.new.slots (given.1 ∙ ap Err given.2)
    (lives_asked g.K.Keep g.D.Disk g.N.Disk c.args.self.now c.prepare_ask.new.self c.args.disks.now.items
    c.args.slots.now c.prepare_ask.new.slots c.act_ask.new.self c.act_ask.new.disks.items
    (Ask c.prepare_ask.new.self.me c.args.to) c.in_ok-prepare_ask.ensures.prepares c.in_ok-prepare_ask.ensures.notes
    c.in_ok-answer.ensures.acts.rest c.in_ok-answer.ensures.passes c.note_ask.new.self c.note_ask.new.slots
    (Err c.in_err-asked.field-0.0) c.in_err-asked.ensures.asks c.in_err-asked.ensures.notes)

pub returns-in_err-is_put-clause-lives : goal.returns-in_err-is_put-clause-lives
returns-in_err-is_put-clause-lives g c =
    lives_put g.K.Keep g.D.Disk g.N.Disk c.args.self.now c.prepare_ask.new.self c.args.disks.now.items
    c.args.slots.now c.prepare_ask.new.slots c.act_ask.new.self c.act_ask.new.disks.items
    (Ask c.prepare_ask.new.self.me c.args.to) c.in_ok-prepare_ask.ensures.prepares c.in_ok-prepare_ask.ensures.notes
    c.in_ok-answer.ensures.acts.rest c.in_ok-answer.ensures.passes c.note_ask.new.self c.note_ask.new.slots
    c.in_ok-asked.asked c.in_ok-asked.ensures.asks c.in_ok-asked.ensures.notes
    (IsErrOf c.from_residual-in_err-is_put.result NoteFault → ⊥)

pub returns-then-is_put-clause-lives : goal.returns-then-is_put-clause-lives
returns-then-is_put-clause-lives g c =
    lives_ended g.K.Keep g.D.Disk g.N.Disk c.args.self.now c.prepare_ask.new.self c.args.disks.now.items
    c.args.slots.now c.prepare_ask.new.slots c.act_ask.new.self c.act_ask.new.disks.items
    (Ask c.prepare_ask.new.self.me c.args.to) c.in_ok-prepare_ask.ensures.prepares c.in_ok-prepare_ask.ensures.notes
    c.in_ok-answer.ensures.acts.rest c.in_ok-answer.ensures.passes c.note_ask.new.self c.note_ask.new.slots
    c.in_ok-asked.asked c.in_ok-asked.ensures.asks c.in_ok-asked.ensures.notes
    (IsErrOf {T = MemberAnswer} {E = LineFault} (Ok (Asked c.in_ok-asked.asked.number)) NoteFault → ⊥)
    c.renew-2.new.self
    (record {
      bare = c.renew-2.ensures.renewed;
      stables = c.renew-2.ensures.stables;
      rest = record { me = c.renew-2.ensures.me; tag = c.renew-2.ensures.tag; note = c.renew-2.ensures.note };
    })

pub returns-else-is_put-clause-lives : goal.returns-else-is_put-clause-lives
returns-else-is_put-clause-lives g c =
    lives_ended g.K.Keep g.D.Disk g.N.Disk c.args.self.now c.prepare_ask.new.self c.args.disks.now.items
    c.args.slots.now c.prepare_ask.new.slots c.act_ask.new.self c.act_ask.new.disks.items
    (Ask c.prepare_ask.new.self.me c.args.to) c.in_ok-prepare_ask.ensures.prepares c.in_ok-prepare_ask.ensures.notes
    c.in_ok-answer.ensures.acts.rest c.in_ok-answer.ensures.passes c.note_ask.new.self c.note_ask.new.slots
    c.in_ok-asked.asked c.in_ok-asked.ensures.asks c.in_ok-asked.ensures.notes
    (IsErrOf {T = MemberAnswer} {E = LineFault} (Ok c.refused-else-is_put.result) NoteFault → ⊥) c.renew-2.new.self
    (record {
      bare = c.renew-2.ensures.renewed;
      stables = c.renew-2.ensures.stables;
      rest = record { me = c.renew-2.ensures.me; tag = c.renew-2.ensures.tag; note = c.renew-2.ensures.note };
    })
