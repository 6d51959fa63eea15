use Rattle.std.proofs.Common.{Err, Ok, length, ap, subst}
use Rattle.std.proofs.lemmas.Result.{err_from_is_err_and}
use Rattle.ficus_keeper.specs.Framed.{body_in}
use Rattle.ficus_model.specs.Events.{actor}
use Rattle.ficus_runs.specs.Sequence.{unchanged}
use Rattle.ficus_script.specs.declared.answer.Answer.TheVariants.{Done}
use Rattle.ficus_world.specs.Moves.{TakesSpelled, spelled_with}
use Rattle.ficus_world.specs.World.{IsSoundNext}
use Rattle.ficus_opening.specs.declared.member.Member.{Member}
use Rattle.ficus_runs.proofs.Numbers.{number_once}
use Rattle.ficus_world.proofs.Carrying.{carried_none, carried_saved, or_refused, save_refused, whole_is}
use Rattle.ficus_world.proofs.Gathered.{taking_in, taking_saved, taking_unsaved}
use Rattle.ficus_world.proofs.Acting.{acts_done, acts_none, acts_refused}
use Rattle.ficus_world.proofs.world.World.take_last.Goals as goal

pub returns-in_err-next-clause-takes : goal.returns-in_err-next-clause-takes
returns-in_err-next-clause-takes g c = λ was is.
    let refused = err_from_is_err_and c.from_residual.result c.from_residual.ensures.1 in
    let r = c.in_err-next.field-0.0 in
    let old = c.args.self.now.whole in
    let head = c.args.head in
    let bytes = spelled_with was head c.args.bytes.now in
    rw (refused.1, refused.2)
    (carried_none (TakesSpelled c.args.came head.index bytes) (Err r) old c.args.disks.now.items
    (or_refused (λ given. TakesSpelled c.args.came head.index bytes old given (unchanged old)) r
    (taking_in c.args.came head c.args.bytes.now (Err r) (whole_is c.self.view_is) c.in_err-next.ensures was is)))

pub returns-in_err-save-clause-takes : goal.returns-in_err-save-clause-takes
returns-in_err-save-clause-takes g c = λ was is.
    let refused = err_from_is_err_and c.from_residual-in_err-save.result c.from_residual-in_err-save.ensures.1 in
    let came = c.args.came in
    let head = c.args.head in
    let bytes = c.args.bytes.now in
    let taking = taking_in came head bytes (Ok c.in_ok-next.field-0) (whole_is c.self.view_is) c.in_ok-next.ensures was is
    in
    rw (refused.1, refused.2)
    (save_refused (TakesSpelled came head.index (spelled_with was head bytes)) c.args.self.now.whole c.save.new.self.whole
    came.to taking.was c.in_ok-next.field-0.next c.args.disks.now.items c.save.new.disks.items c.in_err-save.field-0.0
    taking.is c.in_err-save.ensures.saves c.in_err-save.ensures.acts.memory (taking_unsaved taking))

pub returns-clause-takes : goal.returns-clause-takes
returns-clause-takes g c = λ was is.
    let came = c.args.came in
    let head = c.args.head in
    let bytes = c.args.bytes.now in
    let next = c.in_ok-next.field-0.next in
    let taking = taking_in came head bytes (Ok c.in_ok-next.field-0) (whole_is c.self.view_is) c.in_ok-next.ensures was is
    in
    carried_saved (TakesSpelled came head.index (spelled_with was head bytes)) Done c.args.self.now.whole
    c.save.new.self.whole came.to taking.was next.replica next.event c.args.disks.now.items c.save.new.disks.items
    (c.in_ok-save.ensures.saves.0 taking.was taking.is) c.in_ok-save.ensures.saves.1 (taking_saved taking)

pub save-requires-clause-next : goal.save-requires-clause-next
save-requires-clause-next g c = λ was is.
    let old = c.args.self.now.whole in
    let taken = c.in_ok-next.field-0 in
    let taking = taking_in c.args.came c.args.head c.args.bytes.now (Ok taken) (whole_is c.self.view_is)
    c.in_ok-next.ensures was is in
    subst (λ (m : Member). IsSoundNext (length old.members) (length old.events) c.args.came.to (body_in taken.noted.items) m.replica
    taken.next.replica) (number_once taking.is is) taking.sound

pub save-requires-clause-own : goal.save-requires-clause-own
save-requires-clause-own g c =
    let taking = taking_in c.args.came c.args.head c.args.bytes.now (Ok c.in_ok-next.field-0) (whole_is c.self.view_is)
    c.in_ok-next.ensures c.requires.up.member c.requires.up.is in
    ap actor taking.happens

pub returns-in_err-next-clause-acts : goal.returns-in_err-next-clause-acts
returns-in_err-next-clause-acts g c = acts_none c.requires.backed

pub returns-in_err-save-clause-acts : goal.returns-in_err-save-clause-acts
returns-in_err-save-clause-acts g c =
    let refused = err_from_is_err_and c.from_residual-in_err-save.result c.from_residual-in_err-save.ensures.1 in
    rw (refused.1, refused.2) (acts_refused c.in_err-save.field-0.0 c.in_err-save.ensures.acts)

pub returns-clause-acts : goal.returns-clause-acts
returns-clause-acts g c = acts_done c.in_ok-save.ensures.acts
