use Rattle.std.proofs.Common.{Err, length, refl, ap, ◌∙◌}
use Rattle.std.proofs.lemmas.Result.{err_from_is_err_and}
use Rattle.ficus_wire.specs.Message.{ask_of, piece_of}
use Rattle.ficus_machine.specs.declared.coming.Coming.TheVariants as coming
use Rattle.ficus_machine.proofs.Lived.{lives_same, lives_works}
use Rattle.ficus_machine.proofs.Taken.{goes_served, lives_finished, open_noted}
use Rattle.ficus_machine.proofs.TakenFiles.{came_here, coming_here, finds_at, take_ask, take_no_message, take_nothing, take_piece, take_unfound, take_unknown, take_unread}
use Rattle.ficus_machine.proofs.machine.Machine.take.Goals as goal

pub returns-in-Err-Failed-clause-goes : goal.returns-in-Err-Failed-clause-goes
returns-in-Err-Failed-clause-goes g c =
    take_unread g.K.Keep g.D.Disk g.N.Disk g.M.Mailbox c.args.filed.now c.args.self.now c.args.disks.now.items
    c.args.slots.now c.args.mailbox.now c.find.new.self c.requires.rest
    (finds_at (c.in-Err-Failed.is ∙ ap Err c.in-Err-Failed.field-0-is) c.find.ensures) c.refused.result c.refused.ensures

pub returns-in-Err-Memory-clause-goes : goal.returns-in-Err-Memory-clause-goes
returns-in-Err-Memory-clause-goes g c =
    take_unfound g.K.Keep g.D.Disk g.N.Disk g.M.Mailbox c.args.filed.now c.args.self.now c.args.disks.now.items
    c.args.slots.now c.args.mailbox.now c.find.new.self c.requires.rest
    (finds_at (c.in-Err-Memory.is ∙ ap Err c.in-Err-Memory.field-0-is) c.find.ensures)

pub returns-in_err-what_came-clause-goes : goal.returns-in_err-what_came-clause-goes
returns-in_err-what_came-clause-goes g c =
    let given = err_from_is_err_and c.from_residual.result c.from_residual.ensures.1 in
    rw (given.1, given.2) (take_unknown g.K.Keep g.D.Disk g.N.Disk g.M.Mailbox c.args.filed.now c.args.self.now c.args.disks.now.items
    c.args.slots.now c.args.mailbox.now c.find.new.self c.in-Ok.found (finds_at c.in-Ok.is c.find.ensures) c.requires.rest)

pub returns-in-Nothing-clause-goes : goal.returns-in-Nothing-clause-goes
returns-in-Nothing-clause-goes g c =
    take_nothing g.K.Keep g.D.Disk g.N.Disk g.M.Mailbox c.args.filed.now c.args.self.now c.args.disks.now.items
    c.args.slots.now c.args.mailbox.now c.find.new.self c.in-Ok.found (finds_at c.in-Ok.is c.find.ensures)
    c.requires.rest
    (coming_here c.args.self.now _ c.members.result c.in-Ok.found c.in_ok-what_came.field-0 (coming.Nothing)
    c.self.view_is
    c.members.ensures
    c.in-Nothing.is c.in_ok-what_came.ensures)
    c.refused-in-Nothing.result c.refused-in-Nothing.ensures

pub returns-in-NoMessage-clause-goes : goal.returns-in-NoMessage-clause-goes
returns-in-NoMessage-clause-goes g c =
    take_no_message g.K.Keep g.D.Disk g.N.Disk g.M.Mailbox c.args.filed.now c.args.self.now c.args.disks.now.items
    c.args.slots.now c.args.mailbox.now c.find.new.self c.in-Ok.found (finds_at c.in-Ok.is c.find.ensures)
    c.requires.rest (length c.args.self.now.world.whole.members) refl
    (coming_here c.args.self.now _ c.members.result c.in-Ok.found c.in_ok-what_came.field-0 (coming.NoMessage)
    c.self.view_is
    c.members.ensures
    c.in-NoMessage.is c.in_ok-what_came.ensures)
    c.refused-in-NoMessage.result c.refused-in-NoMessage.ensures

pub serve-came_to-requires-clause-came : goal.serve-came_to-requires-clause-came
serve-came_to-requires-clause-came g c =
    let came =
    coming_here c.args.self.now _ c.members.result c.in-Ok.found c.in_ok-what_came.field-0 (coming.Ask c.in-Ask.way c.in-Ask.spelled)
    c.self.view_is
    c.members.ensures
    c.in-Ask.is c.in_ok-what_came.ensures in
    came_here g.K.Keep g.D.Disk g.N.Disk g.M.Mailbox c.args.filed.now c.args.self.now c.args.disks.now.items
    c.args.slots.now c.args.mailbox.now c.find.new.self c.in-Ok.found (finds_at c.in-Ok.is c.find.ensures)
    (length c.args.self.now.world.whole.members) refl (ask_of c.in-Ask.way) came.0 c.in-Ask.spelled.items came.1

pub returns-in-Ask-clause-goes : goal.returns-in-Ask-clause-goes
returns-in-Ask-clause-goes g c =
    let came =
    coming_here c.args.self.now _ c.members.result c.in-Ok.found c.in_ok-what_came.field-0 (coming.Ask c.in-Ask.way c.in-Ask.spelled)
    c.self.view_is
    c.members.ensures
    c.in-Ask.is c.in_ok-what_came.ensures in
    take_ask g.K.Keep g.D.Disk g.N.Disk g.M.Mailbox c.args.filed.now c.args.self.now c.args.disks.now.items
    c.args.slots.now c.args.mailbox.now c.find.new.self c.in-Ok.found (finds_at c.in-Ok.is c.find.ensures)
    (length c.args.self.now.world.whole.members) refl c.finish.new.self c.serve-came_to.new.disks.items c.finish.new.slots c.serve-came_to.new.mailbox
    c.finish.result c.in-Ask.way came.0
    (goes_served c.requires.rest.held.member c.serve-came_to.ensures.goes c.finish.ensures.finishes)

pub take_answer-requires-clause-came : goal.take_answer-requires-clause-came
take_answer-requires-clause-came g c =
    let came =
    coming_here c.args.self.now _ c.members.result c.in-Ok.found c.in_ok-what_came.field-0 (coming.Piece c.in-Piece.head c.in-Piece.spelled)
    c.self.view_is
    c.members.ensures
    c.in-Piece.is c.in_ok-what_came.ensures in
    came_here g.K.Keep g.D.Disk g.N.Disk g.M.Mailbox c.args.filed.now c.args.self.now c.args.disks.now.items
    c.args.slots.now c.args.mailbox.now c.find.new.self c.in-Ok.found (finds_at c.in-Ok.is c.find.ensures)
    (length c.args.self.now.world.whole.members) refl (piece_of c.in-Piece.head came.0) came.1 c.in-Piece.spelled.items came.2

pub returns-clause-goes : goal.returns-clause-goes
returns-clause-goes g c =
    let came =
    coming_here c.args.self.now _ c.members.result c.in-Ok.found c.in_ok-what_came.field-0 (coming.Piece c.in-Piece.head c.in-Piece.spelled)
    c.self.view_is
    c.members.ensures
    c.in-Piece.is c.in_ok-what_came.ensures in
    take_piece g.K.Keep g.D.Disk g.N.Disk g.M.Mailbox c.args.filed.now c.args.self.now c.args.disks.now.items
    c.args.slots.now c.args.mailbox.now c.find.new.self c.in-Ok.found (finds_at c.in-Ok.is c.find.ensures)
    (length c.args.self.now.world.whole.members) refl c.take_answer.new.self c.take_answer.new.disks.items c.take_answer.new.slots c.take_answer.new.mailbox
    c.take_answer.result c.in-Piece.head came.0 came.1 c.take_answer.ensures.goes

pub returns-in-Err-Failed-clause-lives : goal.returns-in-Err-Failed-clause-lives
returns-in-Err-Failed-clause-lives g c =
    lives_same g.K.Keep g.D.Disk g.N.Disk _ c.args.self.now c.args.self.now c.args.disks.now.items
    c.args.disks.now.items c.args.slots.now c.args.slots.now refl refl refl refl

pub returns-in-Err-Memory-clause-lives : goal.returns-in-Err-Memory-clause-lives
returns-in-Err-Memory-clause-lives g c =
    lives_same g.K.Keep g.D.Disk g.N.Disk _ c.args.self.now c.args.self.now c.args.disks.now.items
    c.args.disks.now.items c.args.slots.now c.args.slots.now refl refl refl refl

pub returns-in_err-what_came-clause-lives : goal.returns-in_err-what_came-clause-lives
returns-in_err-what_came-clause-lives g c =
    lives_same g.K.Keep g.D.Disk g.N.Disk _ c.args.self.now c.args.self.now c.args.disks.now.items
    c.args.disks.now.items c.args.slots.now c.args.slots.now refl refl refl refl

pub returns-in-Nothing-clause-lives : goal.returns-in-Nothing-clause-lives
returns-in-Nothing-clause-lives g c =
    lives_same g.K.Keep g.D.Disk g.N.Disk _ c.args.self.now c.args.self.now c.args.disks.now.items
    c.args.disks.now.items c.args.slots.now c.args.slots.now refl refl refl refl

pub returns-in-NoMessage-clause-lives : goal.returns-in-NoMessage-clause-lives
returns-in-NoMessage-clause-lives g c =
    lives_same g.K.Keep g.D.Disk g.N.Disk _ c.args.self.now c.args.self.now c.args.disks.now.items
    c.args.disks.now.items c.args.slots.now c.args.slots.now refl refl refl refl

pub returns-in-Ask-clause-lives : goal.returns-in-Ask-clause-lives
returns-in-Ask-clause-lives g c =
    lives_finished g.K.Keep g.D.Disk g.N.Disk c.serve-came_to.result c.finish.result c.args.self.now
    c.serve-came_to.new.self c.finish.new.self c.args.disks.now.items c.serve-came_to.new.disks.items c.args.slots.now
    c.args.slots.now c.finish.new.slots c.serve-came_to.ensures.goes.rest.me c.finish.ensures.finishes (Unit {0}) tt
    (lives_works g.K.Keep g.D.Disk g.N.Disk (Unit {0}) c.args.self.now c.serve-came_to.new.self c.args.disks.now.items
    c.serve-came_to.new.disks.items c.args.slots.now
    (c.serve-came_to.ensures.works c.args.self.now.note.asked
    (open_noted c.args.self.now.world.whole c.args.self.now.me c.args.self.now.note.asked c.requires.rest.noted))
    c.serve-came_to.ensures.goes.rest.note) c.finish.ensures.notes

pub returns-clause-lives : goal.returns-clause-lives
returns-clause-lives g c =
    c.take_answer.ensures.lives
