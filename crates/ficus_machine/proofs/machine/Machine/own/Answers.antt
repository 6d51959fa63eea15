use Rattle.std.proofs.Common.{Err}
use Rattle.std.proofs.lemmas.Result.{err_from_is_err_and}
use Rattle.ficus_machine.proofs.Leaves.{own_lives, own_lives_act}
use Rattle.ficus_machine.proofs.Owns.{own_settled, own_unsettled}
use Rattle.ficus_machine.proofs.machine.Machine.own.Goals as goal

pub returns-in_err-answer-clause-lives : goal.returns-in_err-answer-clause-lives
returns-in_err-answer-clause-lives g c =
    own_lives_act g.K.Keep g.D.Disk g.N.Disk c.args.command.now c.args.self.now c.act.new.self c.args.disks.now.items
    c.act.new.disks.items c.args.slots.now c.requires.own c.requires.none c.act.ensures.passes c.requires.rest _
    c.act.result c.act.ensures.acts

pub returns-in_err-settle_note : goal.returns-in_err-settle_note
returns-in_err-settle_note g c =
    let given =
    err_from_is_err_and c.from_residual-in_err-settle_note.result c.from_residual-in_err-settle_note.ensures.1 in
    rw (given.1, given.2)
    (record {
      acted =
          own_unsettled c.requires.own c.requires.none c.in_ok-answer.ensures.acts
          c.in_err-settle_note.ensures.settles;
      lives =
          own_lives g.K.Keep g.D.Disk g.N.Disk c.args.command.now c.args.self.now c.act.new.self
          c.args.disks.now.items c.act.new.disks.items c.args.slots.now c.requires.own c.requires.none
          c.act.ensures.passes c.requires.rest c.act.result (Err c.in_err-settle_note.field-0.0)
          (Err c.in_err-settle_note.field-0.0) c.settle_note.new.self c.settle_note.new.slots
          c.act.ensures.acts c.in_err-settle_note.ensures.settles c.in_err-settle_note.ensures.notes (λ is. (cc));
    })

pub returns : goal.returns
returns g c =
    record {
      acted =
          own_settled c.requires.own c.requires.none c.in_ok-answer.ensures.acts c.requires.rest
          c.in_ok-settle_note.ensures.settles;
      lives =
          own_lives g.K.Keep g.D.Disk g.N.Disk c.args.command.now c.args.self.now c.act.new.self
          c.args.disks.now.items c.act.new.disks.items c.args.slots.now c.requires.own c.requires.none
          c.act.ensures.passes c.requires.rest c.act.result _ _ c.settle_note.new.self c.settle_note.new.slots
          c.act.ensures.acts c.in_ok-settle_note.ensures.settles c.in_ok-settle_note.ensures.notes
          (λ is. absurd (cc));
    }
