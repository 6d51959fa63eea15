-- What a machine does that exchanges no message, the world of all does.
use Rattle.std.proofs.Common.{◌≡◌, ℕ, [], ◌∷◌, ◌++◌, Result, Ok, Err, Some, refl, subst}
use Rattle.ficus_ids.specs.declared.refusal.Refusal.{Refusal}
use Rattle.ficus_ids.specs.declared.refusal.Refusal.TheVariants as refusal
use Rattle.ficus_model.specs.declared.event.Event.{Event}
use Rattle.ficus_model.specs.declared.event.Event.TheVariants as event
use Rattle.ficus_model.specs.declared.event.Op.{Op}
use Rattle.ficus_commands.specs.declared.change.Change.{Change}
use Rattle.ficus_commands.specs.declared.look.Look.{Look}
use Rattle.ficus_deciding.specs.View.{tables_view}
use Rattle.ficus_rules.specs.Change.{ChangeRule}
use Rattle.ficus_durable_state.specs.declared.saved.Saved.{Saved}
use Rattle.ficus_replica.specs.declared.replica.Replica.{Replica}
use Rattle.ficus_script.specs.declared.answer.Answer.{Answer}
use Rattle.ficus_script.specs.declared.command.Command.TheVariants as command
use Rattle.ficus_runs.specs.Numbered.{IsNumbered}
use Rattle.ficus_runs.specs.Outcome.{IsSaved, SaveFails, IsOpened, IsFound, OpeningFails}
use Rattle.ficus_runs.specs.Sequence.{Effect}
use Rattle.ficus_runs.specs.Sequence.ByRule.{Says}
use Rattle.ficus_runs.specs.Sequence.First.{Ends, Goes}
use Rattle.ficus_opening.specs.declared.member.Member.{Member}
use Rattle.ficus_opening.specs.declared.member.MemberState.TheVariants as state
use Rattle.ficus_world.specs.Moves.{CarriesOut, IsReadAs, KeepsCollection, KeepsUpdate, Reopens, parts_after, pending_of, restarted, still_pending}
use Rattle.ficus_world.specs.Moves.FindsMember.{Finds, FindsNone}
use Rattle.ficus_world.specs.Moves.FindsUp.{FindsAt, FindsNoneAt, FindsDown}
use Rattle.ficus_world.specs.Moves.KeepsCollection.{Collects, CollectsNot}
use Rattle.ficus_world.specs.Moves.KeepsUpdate.{Keeps, KeepsNot}
use Rattle.ficus_world.specs.Moves.Reopens.{ReopenedAsWas, ReopenedAsPending, NotReopened, NoImageFound}
use Rattle.ficus_world.specs.World.{Whole}
use Rattle.ficus_world.specs.Machines.Part.{AreAlike, Deed, IsPartOf, IsStepOfAll}
use Rattle.ficus_world.specs.Machines.Part.Deed.{Changes as DeedChanges, Collects as DeedCollects, Looks as DeedLooks, Restarts as DeedRestarts}
use Rattle.ficus_world.proofs.machines.Alike.{alike_self, pending_there, still_alike}
use Rattle.ficus_world.proofs.machines.Parts.{alike_there, changes_alone, found_there, idles, member_here, same_there, still_down, there, was_there}

module _ (tells disks_tell : Type 0) (r : ℕ) (machine all : Whole) (part : IsPartOf r machine all) where
  abbrev world : Whole
  world = there r machine all part

  abbrev StepOfAll : Deed → Result Answer Refusal → Effect Whole → Type 0
  StepOfAll deed result left =
      IsStepOfAll tells disks_tell r machine all deed result left.outcomes left.after

  -- an own event without positions is saved, or pending: on both sides it is the same
  abbrev advanced_to : Member → Replica → Event → Member
  advanced_to was next event = record was { replica = next; parts = parts_after event was.parts }

  abbrev downed_to : Member → Replica → Event → Member
  downed_to was next event = record was { state = state.Down (Some (pending_of next event)) }

  module _ (was : Member) (is : IsNumbered machine.members r was) (up : was.state ≡ state.Up) where
    there_too : IsNumbered all.members r was
    there_too = same_there r machine all part was is up

    update_steps : (change : Change) (op : Op) → ChangeRule (tables_view was.replica.saved) change (Ok op)
        → (result : Result Answer Refusal) (left : Effect Whole) → KeepsUpdate r was op machine result left
        → StepOfAll (DeedChanges change) result left
    update_steps change op decided result left (Keeps {new = next} applied ask) =
        let happens = event.Update r op in
        changes_alone r machine all part tells disks_tell (DeedChanges change) (command.Change r change) refl result
        (IsSaved r ∷ []) was (advanced_to was next happens) (advanced_to was next happens) is
        (alike_self (advanced_to was next happens)) (machine.events ++ happens ∷ []) (all.events ++ happens ∷ [])
        (Goes (FindsAt there_too up) (Goes (Says decided) (Keeps applied ask)))
    update_steps change op decided result left (KeepsNot {new = next} applied ask) =
        let happens = event.Update r op in
        changes_alone r machine all part tells disks_tell (DeedChanges change) (command.Change r change) refl result
        (SaveFails r ∷ []) was (downed_to was next happens) (downed_to was next happens) is
        (alike_self (downed_to was next happens)) machine.events all.events
        (Goes (FindsAt there_too up) (Goes (Says decided) (KeepsNot applied ask)))

    collection_steps : (result : Result Answer Refusal) (left : Effect Whole)
        → KeepsCollection r was machine result left → StepOfAll DeedCollects result left
    collection_steps result left (Collects {given = given} gives) =
        let happens = event.Collect r in
        changes_alone r machine all part tells disks_tell DeedCollects (command.Collect r) refl result (IsSaved r ∷ [])
        was (advanced_to was given.replica happens) (advanced_to was given.replica happens) is
        (alike_self (advanced_to was given.replica happens)) (machine.events ++ happens ∷ [])
        (all.events ++ happens ∷ []) (Goes (FindsAt there_too up) (Collects gives))
    collection_steps result left (CollectsNot {given = given} gives) =
        let happens = event.Collect r in
        changes_alone r machine all part tells disks_tell DeedCollects (command.Collect r) refl result
        (SaveFails r ∷ []) was (downed_to was given.replica happens) (downed_to was given.replica happens) is
        (alike_self (downed_to was given.replica happens)) machine.events all.events
        (Goes (FindsAt there_too up) (CollectsNot gives))

  pub change_steps : (change : Change) (result : Result Answer Refusal) (left : Effect Whole)
      → CarriesOut tells disks_tell (command.Change r change) machine result left
      → StepOfAll (DeedChanges change) result left
  change_steps change result left (Ends (FindsNoneAt none)) =
      idles r machine all part tells disks_tell (DeedChanges change) (command.Change r change) refl
      (Err refusal.Member) (Ends (FindsNoneAt (λ member. none (member_here r machine all part r member))))
  change_steps change result left (Ends (FindsDown {member = was} is down)) =
      idles r machine all part tells disks_tell (DeedChanges change) (command.Change r change) refl (Err refusal.Down)
      (Ends (FindsDown (found_there r machine all part was is).1 (still_down r machine all part was is down)))
  change_steps change result left
      (Goes (FindsAt {member = was} is up) (Ends {refusal = refused} (Says says))) =
      idles r machine all part tells disks_tell (DeedChanges change) (command.Change r change) refl (Err refused)
      (Goes (FindsAt (same_there r machine all part was is up) up) (Ends (Says says)))
  change_steps change result left
      (Goes (FindsAt {member = was} is up) (Goes {a = op} {left = last} (Says decided) keeps)) =
      update_steps was is up change op decided result last keeps

  pub look_steps : (look : Look) (result : Result Answer Refusal) (left : Effect Whole)
      → CarriesOut tells disks_tell (command.Look r look) machine result left → StepOfAll (DeedLooks look) result left
  look_steps look result left (Ends (FindsNoneAt none)) =
      idles r machine all part tells disks_tell (DeedLooks look) (command.Look r look) refl (Err refusal.Member)
      (Ends (FindsNoneAt (λ member. none (member_here r machine all part r member))))
  look_steps look result left (Ends (FindsDown {member = was} is down)) =
      idles r machine all part tells disks_tell (DeedLooks look) (command.Look r look) refl (Err refusal.Down)
      (Ends (FindsDown (found_there r machine all part was is).1 (still_down r machine all part was is down)))
  look_steps look result left (Goes (FindsAt {member = was} is up) (Says answer)) =
      idles r machine all part tells disks_tell (DeedLooks look) (command.Look r look) refl result
      (Goes (FindsAt (same_there r machine all part was is up) up) (Says answer))

  pub collect_steps : (result : Result Answer Refusal) (left : Effect Whole)
      → CarriesOut tells disks_tell (command.Collect r) machine result left → StepOfAll DeedCollects result left
  collect_steps result left (Ends (FindsNoneAt none)) =
      idles r machine all part tells disks_tell DeedCollects (command.Collect r) refl (Err refusal.Member)
      (Ends (FindsNoneAt (λ member. none (member_here r machine all part r member))))
  collect_steps result left (Ends (FindsDown {member = was} is down)) =
      idles r machine all part tells disks_tell DeedCollects (command.Collect r) refl (Err refusal.Down)
      (Ends (FindsDown (found_there r machine all part was is).1 (still_down r machine all part was is down)))
  collect_steps result left (Goes {left = last} (FindsAt {member = was} is up) keeps) =
      collection_steps was is up result last keeps

  -- what a restart finds
  module _ (was : Member) (is : IsNumbered machine.members r was) where
    abbrev other : Member
    other = was_there r machine all part was is

    other_is : IsNumbered all.members r other
    other_is = (found_there r machine all part was is).1

    alike : AreAlike was other
    alike = alike_there r machine all part was is

    back : (read : Saved) → AreAlike (restarted was read) (restarted other read)
    back read = record { replica = refl; parts = refl; state = tt; fused = alike.fused }

    down_too : AreAlike (record was { state = state.Down (still_pending was.state) })
        (record other { state = state.Down (still_pending other.state) })
    down_too = record {
      replica = alike.replica;
      parts = alike.parts;
      state = still_alike was.state other.state alike.state;
      fused = alike.fused;
    }

    opening_steps : (result : Result Answer Refusal) (left : Effect Whole)
        → Reopens disks_tell r was machine result left → StepOfAll DeedRestarts result left
    opening_steps result left (ReopenedAsWas {read = read} reads) =
        changes_alone r machine all part tells disks_tell DeedRestarts (command.Restart r) refl result
        (IsOpened r ∷ []) was (restarted was read) (restarted other read) is (back read)
        (machine.events ++ event.Restart r ∷ []) (all.events ++ event.Restart r ∷ [])
        (Goes (Finds other_is)
        (ReopenedAsWas (subst (λ (replica : Replica). IsReadAs disks_tell replica.saved read) alike.replica reads)))
    opening_steps result left (ReopenedAsPending {pending = pending} {read = read} down reads) =
        let found = pending_there was.state other.state pending alike.state down in
        changes_alone r machine all part tells disks_tell DeedRestarts (command.Restart r) refl result
        (IsFound r ∷ []) was (restarted was read) (restarted other read) is (back read)
        ((machine.events ++ pending.event ∷ []) ++ event.Restart r ∷ [])
        ((all.events ++ found.0.event ∷ []) ++ event.Restart r ∷ [])
        (Goes (Finds other_is)
        (ReopenedAsPending found.1
        (subst (λ (replica : Replica). IsReadAs disks_tell replica.saved read) found.2 reads)))
    opening_steps result left NotReopened =
        changes_alone r machine all part tells disks_tell DeedRestarts (command.Restart r) refl result
        (OpeningFails r ∷ []) was (record was { state = state.Down (still_pending was.state) })
        (record other { state = state.Down (still_pending other.state) }) is down_too machine.events all.events
        (Goes (Finds other_is) NotReopened)
    opening_steps result left (NoImageFound untold) =
        changes_alone r machine all part tells disks_tell DeedRestarts (command.Restart r) refl result
        (IsOpened r ∷ []) was (record was { state = state.Down (still_pending was.state) })
        (record other { state = state.Down (still_pending other.state) }) is down_too machine.events all.events
        (Goes (Finds other_is) (NoImageFound untold))

  pub restart_steps : (result : Result Answer Refusal) (left : Effect Whole)
      → CarriesOut tells disks_tell (command.Restart r) machine result left → StepOfAll DeedRestarts result left
  restart_steps result left (Ends (FindsNone none)) =
      idles r machine all part tells disks_tell DeedRestarts (command.Restart r) refl (Err refusal.Member)
      (Ends (FindsNone (λ member. none (member_here r machine all part r member))))
  restart_steps result left (Goes {left = last} (Finds {member = was} is) reopens) =
      opening_steps was is result last reopens
