use Rattle.std.proofs.Common.{◌≡◌, ℕ, List, Err, ap, length, subst}
use Rattle.std.proofs.lemmas.Result.{err_from_is_err_and}
use Rattle.ficus_disk.specs.declared.disk.Disk.{Ghosts as Disk}
use Rattle.ficus_disk.specs.declared.pair.Pair.{Pair}
use Rattle.ficus_ids.specs.declared.refusal.Refusal.TheVariants.{Memory}
use Rattle.ficus_keeper.specs.Framed.{body_in}
use Rattle.ficus_keeper.specs.declared.keep.Keep.{Ghosts as Keep}
use Rattle.ficus_model.specs.declared.event.Event.TheVariants.{Collect as Gathers}
use Rattle.ficus_record.specs.declared.record.Record.TheVariants.{Collect}
use Rattle.ficus_script.specs.declared.command.Command.TheVariants.{Collect as Collects}
use Rattle.ficus_runs.specs.Numbered.{IsNumbered}
use Rattle.ficus_runs.specs.Sequence.{unchanged}
use Rattle.ficus_world.specs.Calls.{Does}
use Rattle.ficus_world.specs.Disks.{IsBacked}
use Rattle.ficus_world.specs.Moves.{CarriesOut, FindsUp, TablesMayWantMemory, pending_of}
use Rattle.ficus_world.specs.World.{Backed, IsSoundMember, IsSoundNext, Whole}
use Rattle.ficus_opening.specs.declared.member.Member.{Member}
use Rattle.ficus_opening.specs.declared.member.MemberState.TheVariants.{Up}
use Rattle.ficus_runs.proofs.Numbers.{number_once}
use Rattle.ficus_world.proofs.SoundWorlds.{noted_sound}
use Rattle.ficus_world.proofs.Carrying.{comes_to, save_refused, saved_done, whole_is}
use Rattle.ficus_world.proofs.Moved.{collect_moves, collect_pends, comes_to_none, up_ends}
use Rattle.ficus_world.proofs.Acting.{acts_done, acts_none, acts_refused}
use Rattle.ficus_world.proofs.world.World.collect.Goals as goal

pub returns-in_err-up : goal.returns-in_err-up
returns-in_err-up g c =
    let refused = err_from_is_err_and c.from_residual.result c.from_residual.ensures.1 in
    let old = c.args.self.now.whole in
    record {
      moves =
          rw (refused.1, refused.2)
          (comes_to_none g.L.Link.tells g.K.Keep g.D.Disk old (Collects c.args.by) _ c.args.disks.now.items
          (up_ends _ _ c.args.by old c.in_err-up.field-0.0 (unchanged old)
          (subst (λ (w : Whole). FindsUp c.args.by w (Err c.in_err-up.field-0.0) (unchanged w)) (whole_is c.self.view_is)
          c.in_err-up.ensures.refused)));
      acts = acts_none c.requires.backed;
    }

-- memory is wanted where the member is up
wanting : {K D : Type 0} {tells : Type 0} {keep : Keep K} {disk : Disk D} {by : ℕ} {world : Backed K} {disks : List (Pair D)}
    {was : Member} → IsNumbered world.whole.members by was → was.state ≡ Up → IsBacked keep disk world disks
    → Does tells keep disk 1 (Collects by) (Err Memory) world world disks disks
wanting {tells = tells} {keep = keep} {disk = disk} {by = by} {world = world} {disks = disks} {was = was} is up backed =
    record {
      moves = comes_to_none tells keep disk world.whole (Collects by) (Err Memory) disks
          (record { member = was; is = is; up = up });
      acts = acts_none backed;
    }

pub returns-in_err-collected : goal.returns-in_err-collected
returns-in_err-collected g c =
    let wanted = err_from_is_err_and c.from_residual-in_err-collected.result c.from_residual-in_err-collected.ensures.1 in
    rw (wanted.1, wanted.2)
    (wanting (subst (λ (w : Whole). IsNumbered w.members c.args.by c.in_ok-up.field-0.now) (whole_is c.self.view_is)
    c.in_ok-up.ensures.is) c.in_ok-up.ensures.up c.requires.backed)

pub returns-in_err-noted : goal.returns-in_err-noted
returns-in_err-noted g c =
    let wanted = err_from_is_err_and c.from_residual-in_err-noted.result c.from_residual-in_err-noted.ensures.1 in
    rw (wanted.1, wanted.2)
    (wanting (subst (λ (w : Whole). IsNumbered w.members c.args.by c.in_ok-up.field-0.now) (whole_is c.self.view_is)
    c.in_ok-up.ensures.is) c.in_ok-up.ensures.up c.requires.backed)

pub returns-in_err-save : goal.returns-in_err-save
returns-in_err-save g c =
    let residual = c.from_residual-in_err-save in
    let refused = err_from_is_err_and residual.result residual.ensures.1 in
    let old = c.args.self.now.whole in
    let change = Collects c.args.by in
    let was = c.in_ok-up.field-0.now in
    let is = subst (λ (w : Whole). IsNumbered w.members c.args.by was) (whole_is c.self.view_is) c.in_ok-up.ensures.is in
    let up = c.in_ok-up.ensures.up in
    let x = c.args.disks.now.items in
    let z = c.save.new.disks.items in
    let new = c.save.new.self.whole in
    let next = c.in_ok-collected.collected in
    let may : TablesMayWantMemory old change = record { member = was; is = is; up = up } in
    record {
      moves =
          rw (refused.1, refused.2)
          (comes_to old change _ new x z
          (save_refused (CarriesOut g.L.Link.tells g.D.Disk.tells change) old new c.args.by was
          (pending_of next.replica (Gathers c.args.by)) x z c.in_err-save.field-0.0 is
          c.in_err-save.ensures.saves c.in_err-save.ensures.acts.memory
          (collect_pends g.L.Link.tells g.D.Disk.tells old c.args.by was is up next
          c.in_ok-collected.ensures.gives)) (λ e. may));
      acts = rw (refused.1, refused.2) (acts_refused c.in_err-save.field-0.0 c.in_err-save.ensures.acts);
    }

pub returns : goal.returns
returns g c =
    let old = c.args.self.now.whole in
    let change = Collects c.args.by in
    let was = c.in_ok-up.field-0.now in
    let is = subst (λ (w : Whole). IsNumbered w.members c.args.by was) (whole_is c.self.view_is) c.in_ok-up.ensures.is in
    let next = c.in_ok-collected.collected in
    record {
      moves =
          saved_done old c.save.new.self.whole change c.args.by was next.replica (Gathers c.args.by) _
          c.args.disks.now.items c.save.new.disks.items (c.in_ok-save.ensures.saves.0 was is) c.in_ok-save.ensures.saves.1
          (collect_moves g.L.Link.tells g.D.Disk.tells old c.args.by was is c.in_ok-up.ensures.up next
          c.in_ok-collected.ensures.gives);
      acts = acts_done c.in_ok-save.ensures.acts;
    }

pub save-requires-clause-next : goal.save-requires-clause-next
save-requires-clause-next g c = λ was is.
    let old = c.args.self.now.whole in
    let next = c.in_ok-collected.collected in
    let found = c.in_ok-up.field-0.now in
    let there = subst (λ (w : Whole). IsNumbered w.members c.args.by found) (whole_is c.self.view_is)
    c.in_ok-up.ensures.is in
    let sound = subst (λ (w : Whole). IsSoundMember (length w.members) (length w.events) c.args.by found)
    (whole_is c.self.view_is) c.in_ok-up.ensures.sound in
    subst (λ (m : Member). IsSoundNext (length old.members) (length old.events) c.args.by (body_in c.in_ok-noted.noted.items) m.replica
    next.replica) (number_once there is)
    (noted_sound {noted = body_in c.in_ok-noted.noted.items} sound.replica (record {
      noted = Collect;
      is = ap body_in c.in_ok-noted.ensures;
      step = c.in_ok-collected.ensures.noted;
    }))
