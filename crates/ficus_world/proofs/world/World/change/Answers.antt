use Rattle.std.proofs.Common.{refl, Err, ap, length, sym, subst}
use Rattle.std.proofs.lemmas.Result.{err_from_is_err_and}
use Rattle.ficus_keeper.specs.Framed.{body_in}
use Rattle.ficus_model.specs.declared.event.Event.TheVariants.{Update}
use Rattle.ficus_deciding.proofs.Sound.{may_where_given}
use Rattle.ficus_record.specs.declared.record.Record.TheVariants.{Change}
use Rattle.ficus_script.specs.declared.command.Command.TheVariants.{Change as Changes}
use Rattle.ficus_runs.specs.Numbered.{IsNumbered}
use Rattle.ficus_runs.specs.Sequence.{unchanged}
use Rattle.ficus_world.specs.Moves.{CarriesOut, FindsUp, TablesMayWantMemory, pending_of}
use Rattle.ficus_world.specs.World.{IsSoundMember, IsSoundNext, Whole}
use Rattle.ficus_opening.specs.declared.member.Member.{Member}
use Rattle.ficus_runs.proofs.Numbers.{number_once}
use Rattle.ficus_world.proofs.SoundWorlds.{noted_sound}
use Rattle.ficus_world.proofs.Carrying.{comes_to, save_refused, saved_done, whole_is}
use Rattle.ficus_world.proofs.Moved.{change_moves, change_pends, change_refused, comes_to_none, up_ends}
use Rattle.ficus_world.proofs.Acting.{acts_done, acts_none, acts_refused}
use Rattle.ficus_world.proofs.world.World.change.Goals as goal

pub returns-in_err-replica : goal.returns-in_err-replica
returns-in_err-replica g c =
    let refused = err_from_is_err_and c.from_residual.result c.from_residual.ensures.1 in
    let old = c.args.self.now.whole in
    record {
      moves =
          rw (refused.1, refused.2)
          (comes_to_none g.L.Link.tells g.K.Keep g.D.Disk old (Changes c.args.by c.args.change.now) _ c.args.disks.now.items
          (up_ends _ _ c.args.by old c.in_err-replica.field-0.0 (unchanged old)
          (subst (λ (w : Whole). FindsUp c.args.by w (Err c.in_err-replica.field-0.0) (unchanged w))
          (whole_is c.self.view_is) c.in_err-replica.ensures.refused)));
      acts = acts_none c.requires.backed;
    }

pub returns-in_err-next : goal.returns-in_err-next
returns-in_err-next g c =
    let residual = c.from_residual-in_err-next in
    let refused = err_from_is_err_and residual.result residual.ensures.1 in
    let old = c.args.self.now.whole in
    let was = c.in_ok-replica.field-0.now in
    let is = subst (λ (w : Whole). IsNumbered w.members c.args.by was) (whole_is c.self.view_is) c.in_ok-replica.ensures.is in
    record {
      moves =
          rw (refused.1, refused.2)
          (comes_to_none g.L.Link.tells g.K.Keep g.D.Disk old (Changes c.args.by c.args.change.now) _ c.args.disks.now.items
          (change_refused g.L.Link.tells g.D.Disk.tells old c.args.by was is
          c.in_ok-replica.ensures.up c.args.change.now c.in_err-next.field-0.0 c.in_err-next.ensures.gives));
      acts = acts_none c.requires.backed;
    }

pub returns-in_err-save : goal.returns-in_err-save
returns-in_err-save g c =
    let residual = c.from_residual-in_err-save in
    let refused = err_from_is_err_and residual.result residual.ensures.1 in
    let old = c.args.self.now.whole in
    let change = Changes c.args.by c.args.change.now in
    let was = c.in_ok-replica.field-0.now in
    let is = subst (λ (w : Whole). IsNumbered w.members c.args.by was) (whole_is c.self.view_is) c.in_ok-replica.ensures.is in
    let up = c.in_ok-replica.ensures.up in
    let x = c.args.disks.now.items in
    let z = c.save.new.disks.items in
    let new = c.save.new.self.whole in
    let next = c.in_ok-next.next in
    let may : TablesMayWantMemory old change = record {
      member = was;
      is = is;
      up = up;
      so = may_where_given c.in_ok-replica.ensures.sound.replica.fits c.args.change.now next.op
          c.in_ok-next.ensures.gives.answer;
    } in
    record {
      moves =
          rw (refused.1, refused.2)
          (comes_to old change _ new x z
          (save_refused (CarriesOut g.L.Link.tells g.D.Disk.tells change) old new c.args.by was
          (pending_of next.replica (Update c.args.by next.op)) x z c.in_err-save.field-0.0 is
          c.in_err-save.ensures.saves c.in_err-save.ensures.acts.memory
          (change_pends g.L.Link.tells g.D.Disk.tells old c.args.by was is up c.args.change.now next
          c.in_ok-next.ensures.gives)) (λ e. may));
      acts = rw (refused.1, refused.2) (acts_refused c.in_err-save.field-0.0 c.in_err-save.ensures.acts);
    }

pub returns : goal.returns
returns g c =
    let old = c.args.self.now.whole in
    let change = Changes c.args.by c.args.change.now in
    let was = c.in_ok-replica.field-0.now in
    let is = subst (λ (w : Whole). IsNumbered w.members c.args.by was) (whole_is c.self.view_is) c.in_ok-replica.ensures.is in
    let next = c.in_ok-next.next in
    record {
      moves =
          rw (c.answer_of.ensures, sym (c.names_something-names.ensures c.next_id-number.result), c.next_id-number.ensures)
          (saved_done old c.save.new.self.whole change c.args.by was next.replica (Update c.args.by next.op) _
          c.args.disks.now.items c.save.new.disks.items (c.in_ok-save.ensures.saves.0 was is) c.in_ok-save.ensures.saves.1
          (change_moves g.L.Link.tells g.D.Disk.tells old c.args.by was is c.in_ok-replica.ensures.up c.args.change.now next
          c.in_ok-next.ensures.gives));
      acts = acts_done c.in_ok-save.ensures.acts;
    }

pub returns-in_err-noted : goal.returns-in_err-noted
returns-in_err-noted g c =
    let residual = c.from_residual-in_err-noted in
    let wanted = err_from_is_err_and residual.result residual.ensures.1 in
    let old = c.args.self.now.whole in
    let was = c.in_ok-replica.field-0.now in
    let is = subst (λ (w : Whole). IsNumbered w.members c.args.by was) (whole_is c.self.view_is) c.in_ok-replica.ensures.is in
    let may : TablesMayWantMemory old (Changes c.args.by c.args.change.now) = record {
      member = was;
      is = is;
      up = c.in_ok-replica.ensures.up;
      so = may_where_given c.in_ok-replica.ensures.sound.replica.fits c.args.change.now c.in_ok-next.next.op
          c.in_ok-next.ensures.gives.answer;
    } in
    record {
      moves =
          rw (wanted.1, wanted.2)
          (comes_to_none g.L.Link.tells g.K.Keep g.D.Disk old (Changes c.args.by c.args.change.now) _ c.args.disks.now.items
          may);
      acts = acts_none c.requires.backed;
    }

pub save-requires-clause-next : goal.save-requires-clause-next
save-requires-clause-next g c = λ was is.
    let old = c.args.self.now.whole in
    let next = c.in_ok-next.next in
    let found = c.in_ok-replica.field-0.now in
    let there = subst (λ (w : Whole). IsNumbered w.members c.args.by found) (whole_is c.self.view_is)
    c.in_ok-replica.ensures.is in
    let sound = subst (λ (w : Whole). IsSoundMember (length w.members) (length w.events) c.args.by found)
    (whole_is c.self.view_is) c.in_ok-replica.ensures.sound in
    subst (λ (m : Member). IsSoundNext (length old.members) (length old.events) c.args.by (body_in c.in_ok-noted.noted.items) m.replica
    next.replica) (number_once there is)
    (noted_sound {noted = body_in c.in_ok-noted.noted.items} sound.replica (record {
      noted = Change next.op;
      is = ap body_in (c.in_ok-noted.ensures found.replica.saved.members);
      step = c.in_ok-next.ensures.noted;
    }))

pub same-self-in_err-noted : goal.same-self-in_err-noted
same-self-in_err-noted g c = refl
