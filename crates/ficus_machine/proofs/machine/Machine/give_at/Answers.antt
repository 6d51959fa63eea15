use Rattle.std.proofs.Common.{refl}
use Rattle.std.proofs.lemmas.Result.{err_from_is_err_and}
use Rattle.ficus_machine.proofs.GivenAt.{at_given, at_uncleared, at_unfound}
use Rattle.ficus_machine.proofs.GivenFirst.{at_held, at_lives, at_open, lives_uncleared, piece_member}
use Rattle.ficus_machine.proofs.Lived.{lives_same}
use Rattle.ficus_machine.proofs.machine.Machine.give_at.Goals as goal

pub returns-in_err-spelled-clause-gives : goal.returns-in_err-spelled-clause-gives
returns-in_err-spelled-clause-gives g c =
    let given = err_from_is_err_and c.from_residual.result c.from_residual.ensures.1 in
    rw (given.1, given.2)
    (at_unfound c.in_err-spelled.field-0.0 c.in_err-spelled.was c.requires.index c.piece_at.ensures c.requires.backed
    c.requires.ready)

pub returns-in_err-spelled-clause-lives : goal.returns-in_err-spelled-clause-lives
returns-in_err-spelled-clause-lives g c =
    lives_same g.K.Keep g.D.Disk g.N.Disk _ c.args.self.now c.args.self.now c.args.disks.now.items
    c.args.disks.now.items c.args.slots.now c.args.slots.now refl refl refl refl

pub returns-in_err-clear_note-clause-gives : goal.returns-in_err-clear_note-clause-gives
returns-in_err-clear_note-clause-gives g c =
    let given = err_from_is_err_and c.from_residual-in_err-clear_note.result
    c.from_residual-in_err-clear_note.ensures.1 in
    rw (given.1, given.2)
    (at_uncleared c.in_err-clear_note.field-0.0 c.in_err-clear_note.was c.clear_note.ensures.clears
    c.piece_at.ensures.given c.piece_at.ensures.posted c.requires.backed)

pub returns-in_err-clear_note-clause-lives : goal.returns-in_err-clear_note-clause-lives
returns-in_err-clear_note-clause-lives g c =
    let given = err_from_is_err_and c.from_residual-in_err-clear_note.result
    c.from_residual-in_err-clear_note.ensures.1 in
    rw (given.1, given.2)
    (lives_uncleared g.K.Keep g.D.Disk c.args.disks.now.items c.in_err-clear_note.field-0.0
    c.in_err-clear_note.was c.clear_note.ensures.clears c.clear_note.ensures.notes)

pub returns : goal.returns
returns g c =
    let piece = c.in_ok-spelled.ensures.piece in
    let gave = c.give_piece.ensures in
    let cleared = c.clear_note.ensures.clears in
    let value = c.in_ok-clear_note.field-0 in
    let was = c.in_ok-clear_note.was in
    let gives =
    at_given value was c.requires.index cleared piece.0 piece.1 c.piece_at.ensures.given c.piece_at.ensures.posted
    gave.giving gave.count gave.backed gave.rest in
    record {
      gives = gives;
      held = λ is. at_held value was cleared c.give_piece.new.self c.requires.held gave.count ((rw c.sibling.ensures at gave.held) is);
      noted = at_open value was cleared gives gave.rest.note c.requires.noted;
      lives =
          at_lives value was cleared g.K.Keep g.D.Disk c.give_piece.result c.give_piece.new.self
          c.args.disks.now.items c.give_piece.new.disks.items c.clear_note.ensures.notes gave.rest.note
          (piece_member c.requires.piece) c.requires.index c.requires.held c.requires.noted
          (rw c.sibling.ensures at gave.whole) gave.works;
    }
