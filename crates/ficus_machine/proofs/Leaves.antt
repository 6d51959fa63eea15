-- What a command of its member leaves of the ask that is noted, where it is no ask of a peer.
use Rattle.std.proofs.Common.{◌≡◌, ◌⊎◌, ℕ, ◌-◌, List, length, Option, Some, None, Result, Ok, Err, inl, inr, refl, sym, ap, subst, ◌∙◌}
use Rattle.std.specs.Prelude.{IsErrOf, slice_set}
use Rattle.ficus_commands.specs.declared.change.Change.{Change}
use Rattle.ficus_commands.specs.declared.look.Look.{Look}
use Rattle.ficus_disk.specs.declared.disk.Disk.{Ghosts as Disk}
use Rattle.ficus_disk.specs.declared.pair.Pair.{Pair}
use Rattle.ficus_ids.specs.declared.refusal.Refusal.{Refusal}
use Rattle.ficus_keeper.specs.declared.keep.Keep.{Ghosts as Keep}
use Rattle.ficus_model.specs.declared.event.Op.{Op}
use Rattle.ficus_note.specs.declared.asked.Asked.{Asked as Noted}
use Rattle.ficus_opening.specs.declared.member.Member.{Member}
use Rattle.ficus_opening.specs.declared.member.MemberState.TheVariants.{Down, Up}
use Rattle.ficus_replica.specs.Collect.{CollectGives}
use Rattle.ficus_replica.specs.declared.collect.Collected.{Collected}
use Rattle.ficus_replica.specs.declared.replica.Replica.{Replica}
use Rattle.ficus_runs.proofs.Numbers.{number_once}
use Rattle.ficus_runs.specs.Numbered.{IsNumbered}
use Rattle.ficus_runs.specs.Peers.{ArePeers}
use Rattle.ficus_runs.specs.Sequence.{Effect}
use Rattle.ficus_runs.specs.Sequence.ByRule.{Says}
use Rattle.ficus_runs.specs.Sequence.First.{Ends, Goes}
use Rattle.ficus_script.specs.declared.answer.Answer.{Answer}
use Rattle.ficus_script.specs.declared.command.Command.{Command}
use Rattle.ficus_script.specs.declared.command.Command.TheVariants as command
use Rattle.ficus_world.proofs.Disks.{set_here}
use Rattle.ficus_world.specs.Kills.{IsDeedOf, Passes}
use Rattle.ficus_world.specs.Moves.{CarriesOut, KeepsCollection, KeepsUpdate, Reopens, still_pending}
use Rattle.ficus_world.specs.Moves.FindsMember.{Finds, FindsNone}
use Rattle.ficus_world.specs.Moves.FindsUp.{FindsAt, FindsNoneAt, FindsDown}
use Rattle.ficus_world.specs.Moves.KeepsAsk.{AskerDown, Asked as KeepsAsked, NoPeers, NoRoomToAsk, NotAsked}
use Rattle.ficus_world.specs.Moves.KeepsCollection.{Collects as KeepsCollected, CollectsNot}
use Rattle.ficus_world.specs.Moves.KeepsUpdate.{Keeps, KeepsNot}
use Rattle.ficus_world.specs.Moves.Reopens.{ReopenedAsWas, ReopenedAsPending, NotReopened, NoImageFound}
use Rattle.ficus_world.specs.World.{Backed, Whole}
use Rattle.ficus_machine.specs.Acting.{Acts, AsksNoPeer, MovesSomehow}
use Rattle.ficus_machine.specs.Answers.{performer}
use Rattle.ficus_machine.specs.Machine.{IsAtRest, IsNoted, MachineState}
use Rattle.ficus_machine.specs.Moments.{IsOpenIn, LeavesAsk, LeavesNoted, LivesTo, NotesTo, Works}
use Rattle.ficus_machine.specs.Noting.{SettlesNote}
use Rattle.ficus_machine.specs.declared.fault.LineFault.{LineFault}
use Rattle.ficus_machine.specs.declared.fault.LineFault.TheVariants.{Note as NoteFault}
use Rattle.ficus_machine.proofs.Lived.{lives_as, lives_notes, lives_then, lives_works, works_passes}

-- a member that stays as it is
leaves_same : (was now : Member) → was.state ≡ Up → now ≡ was → LeavesAsk was now
leaves_same was now up same = record {
  saved = inl (ap (λ (m : Member). m.replica.saved) same);
  pending = λ pending before down.
      let stays : now.state ≡ was.state = ap (λ (m : Member). m.state) same in
      absurd (cc);
}

-- what is noted is the open ask of the member
pub open_in : (world : Whole) (me : ℕ) (noted : Option Noted) → IsNoted world me noted → IsOpenIn world me noted
open_in world me None is = tt
open_in world me (Some noted) is = λ member at.
    let same : is.member ≡ member = number_once is.is at in
    (ap (λ (m : Member). m.state) (sym same) ∙ is.up, ap (λ (m : Member). m.replica.ask) (sym same) ∙ is.asks)

-- where no member changes it stays so, and nothing is saved
pub open_as : (old new : Whole) (me : ℕ) (noted : Option Noted) → new.members ≡ old.members → IsOpenIn old me noted
    → IsOpenIn new me noted
open_as old new me None same opened = tt
open_as old new me (Some noted) same opened = λ member at.
    opened member (subst (λ (list : List Member). IsNumbered list me member) same at)

pub leaves_members : (old new : Whole) (me : ℕ) (noted : Option Noted) → new.members ≡ old.members
    → IsOpenIn old me noted → LeavesNoted me noted old new
leaves_members old new me None same opened = tt
leaves_members old new me (Some noted) same opened = λ was now at there.
    let one : now ≡ was =
    number_once (subst (λ (list : List Member). IsNumbered list me now) same there) at in
    leaves_same was now (opened was at).0 one

-- of a member that was up what it saves leaves its ask as it was
module _ (disks_tell : Type 0) (tells : disks_tell) (by : ℕ) (old : Whole) where
  abbrev Leaves : Effect Whole → Type 0
  Leaves left =
      (was now : Member) → IsNumbered old.members by was → was.state ≡ Up → IsNumbered left.after.members by now
      → LeavesAsk was now

  -- nothing changes
  idles : (left : Effect Whole) → left.after.members ≡ old.members → Leaves left
  idles left same = λ was now at up there.
      leaves_same was now up (number_once (subst (λ (list : List Member). IsNumbered list by now) same there) at)

  -- this member is found, and set to another
  sets : (member new : Member) (left : Effect Whole) → IsNumbered old.members by member
      → left.after.members ≡ slice_set old.members (by - 1) new → (member.state ≡ Up → LeavesAsk member new)
      → Leaves left
  sets member new left is set leaves = λ was now at up there.
      let one : member ≡ was = number_once is at in
      let here : now ≡ new =
      set_here by old.members new now is.member.at_least
      (subst (λ (list : List Member). IsNumbered list by now) set there) in
      subst (λ (m : Member). LeavesAsk was m) (sym here)
      (subst (λ (m : Member). LeavesAsk m new) one (leaves (ap (λ (m : Member). m.state) one ∙ up)))

  update_leaves : {member : Member} {op : Op} {result : Result Answer Refusal} {left : Effect Whole}
      → IsNumbered old.members by member → member.state ≡ Up → KeepsUpdate by member op old result left → Leaves left
  update_leaves {member} {left = left} is up (Keeps {new = new} applied ask) =
      sets member _ left is refl (λ here. record { saved = inr ask; pending = λ pending before down. absurd (cc) })
  update_leaves {member} {left = left} is up (KeepsNot {new = new} applied ask) =
      sets member _ left is refl (λ here. record {
        saved = inl refl;
        pending = λ pending before down.
            let same : new ≡ pending.replica = (cc) in
            ap (λ (r : Replica). r.ask) (sym same) ∙ ask;
      })

  collected_ask : {was : Replica} {given : Collected} → CollectGives was given → given.replica.ask ≡ was.ask
  collected_ask gives = ap (λ (c : Collected). c.replica.ask) gives.is

  collection_leaves : {member : Member} {result : Result Answer Refusal} {left : Effect Whole}
      → IsNumbered old.members by member → member.state ≡ Up → KeepsCollection by member old result left → Leaves left
  collection_leaves {member} {left = left} is up (KeepsCollected {given = given} gives) =
      sets member _ left is refl (λ here. record {
        saved = inr (collected_ask gives);
        pending = λ pending before down. absurd (cc);
      })
  collection_leaves {member} {left = left} is up (CollectsNot {given = given} gives) =
      sets member _ left is refl (λ here. record {
        saved = inl refl;
        pending = λ pending before down.
            let same : given.replica ≡ pending.replica = (cc) in
            ap (λ (r : Replica). r.ask) (sym same) ∙ collected_ask gives;
      })

  -- it is down, and nothing is pending
  down_leaves : (member : Member) → member.state ≡ Up
      → LeavesAsk member (record member { state = Down (still_pending member.state) })
  down_leaves member up = record {
    saved = inl refl;
    pending = λ pending before down.
        let none : still_pending member.state ≡ None = ap still_pending up in
        absurd (cc);
  }

  opening_leaves : {member : Member} {result : Result Answer Refusal} {left : Effect Whole}
      → IsNumbered old.members by member → Reopens disks_tell by member old result left → Leaves left
  opening_leaves {member} {left = left} is (ReopenedAsWas reads) =
      sets member _ left is refl
      (λ up. record { saved = inl (reads.told tells); pending = λ pending before down. absurd (cc) })
  opening_leaves {member} {left = left} is (ReopenedAsPending down reads) =
      sets member _ left is refl (λ up. absurd (cc))
  opening_leaves {member} {left = left} is NotReopened = sets member _ left is refl (λ up. down_leaves member up)
  opening_leaves {member} {left = left} is (NoImageFound untold) =
      sets member _ left is refl (λ up. down_leaves member up)

  change_leaves : (change : Change) {result : Result Answer Refusal} {left : Effect Whole}
      → CarriesOut (Unit {0}) disks_tell (command.Change by change) old result left → Leaves left
  change_leaves change {left = left} (Ends (FindsNoneAt none)) = idles left refl
  change_leaves change {left = left} (Ends (FindsDown is down)) = idles left refl
  change_leaves change {left = left} (Goes (FindsAt is up) (Ends (Says decided))) = idles left refl
  change_leaves change (Goes (FindsAt is up) (Goes (Says decided) keeps)) = update_leaves is up keeps

  look_leaves : (look : Look) {result : Result Answer Refusal} {left : Effect Whole}
      → CarriesOut (Unit {0}) disks_tell (command.Look by look) old result left → Leaves left
  look_leaves look {left = left} (Ends (FindsNoneAt none)) = idles left refl
  look_leaves look {left = left} (Ends (FindsDown is down)) = idles left refl
  look_leaves look {left = left} (Goes (FindsAt is up) (Says shown)) = idles left refl

  collect_leaves : {result : Result Answer Refusal} {left : Effect Whole}
      → CarriesOut (Unit {0}) disks_tell (command.Collect by) old result left → Leaves left
  collect_leaves {left = left} (Ends (FindsNoneAt none)) = idles left refl
  collect_leaves {left = left} (Ends (FindsDown is down)) = idles left refl
  collect_leaves (Goes (FindsAt is up) keeps) = collection_leaves is up keeps

  restart_leaves : {result : Result Answer Refusal} {left : Effect Whole}
      → CarriesOut (Unit {0}) disks_tell (command.Restart by) old result left → Leaves left
  restart_leaves {left = left} (Ends (FindsNone none)) = idles left refl
  restart_leaves (Goes (Finds is) opens) = opening_leaves is opens

  ask_leaves : (to : ℕ) {result : Result Answer Refusal} {left : Effect Whole}
      → (ArePeers (length old.members) by to → ⊥)
      → CarriesOut (Unit {0}) disks_tell (command.Ask by to) old result left → Leaves left
  ask_leaves to {left = left} none (Ends (NoPeers alone)) = idles left refl
  ask_leaves to none (Ends (AskerDown peers is down)) = absurd (none peers)
  ask_leaves to none (Ends (NoRoomToAsk asking full)) = absurd (none asking.peers)
  ask_leaves to none (Ends (NotAsked asking room)) = absurd (none asking.peers)
  ask_leaves to none (Ends (KeepsAsked asking room sends)) = absurd (none asking.peers)
  ask_leaves to none (Goes (KeepsAsked asking room sends) (Says gives)) = absurd (none asking.peers)

module _ (disks_tell : Type 0) (tells : disks_tell) (me : ℕ) (old : Whole) where
  -- so it is behind each command of the member that is no ask of a peer
  own_leaves : (asked : Command) (result : Result Answer Refusal) (left : Effect Whole) → performer asked ≡ Some me
      → AsksNoPeer (length old.members) me asked → CarriesOut (Unit {0}) disks_tell asked old result left
      → Leaves disks_tell tells me old left
  own_leaves (command.Change by change) result left own none does =
      let same : by ≡ me = (cc) in
      subst (λ r. Leaves disks_tell tells r old left) same (change_leaves disks_tell tells by old change does)
  own_leaves (command.Look by look) result left own none does =
      let same : by ≡ me = (cc) in
      subst (λ r. Leaves disks_tell tells r old left) same (look_leaves disks_tell tells by old look does)
  own_leaves (command.Collect by) result left own none does =
      let same : by ≡ me = (cc) in
      subst (λ r. Leaves disks_tell tells r old left) same (collect_leaves disks_tell tells by old does)
  own_leaves (command.Ask by to) result left own none does =
      let same : by ≡ me = (cc) in
      let is : command.Ask by to ≡ command.Ask me to = (cc) in
      subst (λ r. Leaves disks_tell tells r old left) same
      (ask_leaves disks_tell tells by old to
      (λ peers. none to is (subst (λ n. ArePeers (length old.members) n to) same peers)) does)
  own_leaves (command.Restart by) result left own none does =
      let same : by ≡ me = (cc) in
      subst (λ r. Leaves disks_tell tells r old left) same (restart_leaves disks_tell tells by old does)
  own_leaves (command.Give mail) result left own none does = absurd (cc)
  own_leaves (command.Pull by to) result left own none does = absurd (cc)
  own_leaves (command.Alike by other) result left own none does = absurd (cc)
  own_leaves (command.Stop by calls pick) result left own none does = absurd (cc)
  own_leaves (command.Sweep order) result left own none does = absurd (cc)
  own_leaves (command.Why by) result left own none does = absurd (cc)

  pub own_leaves_noted : (asked : Command) (given : Answer) (new : Whole) (noted : Option Noted)
      → performer asked ≡ Some me → AsksNoPeer (length old.members) me asked
      → MovesSomehow disks_tell old asked given new → IsOpenIn old me noted → LeavesNoted me noted old new
  own_leaves_noted asked given new None own none moves opened = tt
  own_leaves_noted asked given new (Some noted) own none moves opened = λ was now at there.
      own_leaves asked moves.moves.result (record { outcomes = moves.outcomes; after = new }) own none moves.moves.does
      was now at (opened was at).0 there

-- a command of the member that posts nothing is carried out, and then the note is settled
module _ {K D N : Type 0} (keep : Keep K) (disk : Disk D) (slot : Disk N) (asked : Command) (old mid : MachineState K)
    (disks mid_disks : List (Pair D)) (slots : Pair N) (performs : performer asked ≡ Some old.me)
    (none : AsksNoPeer (length old.world.whole.members) old.me asked)
    (passes : Passes (Unit {0}) keep disk (IsDeedOf asked) old.world.whole mid.world.whole disks mid_disks
    ⊎ ((mid.world.whole ≡ old.world.whole) × (mid_disks ≡ disks)))
    (rest : IsAtRest keep disk slot old disks slots) where
  its_ask : IsOpenIn old.world.whole old.me old.note.asked
  its_ask = open_in old.world.whole old.me old.note.asked rest.noted

  own_leaving : (result : Result Answer LineFault) → Acts keep disk asked result old mid disks mid_disks → disk.tells
      → LeavesNoted old.me old.note.asked old.world.whole mid.world.whole
  own_leaving (Ok given) acts tells =
      own_leaves_noted disk.tells tells old.me old.world.whole asked given mid.world.whole old.note.asked performs none
      acts.moves its_ask
  own_leaving (Err fault) acts tells =
      leaves_members old.world.whole mid.world.whole old.me old.note.asked
      (ap (λ (w : Whole). w.members) acts.memory) its_ask

  pub own_works : (result : Result Answer LineFault) → Acts keep disk asked result old mid disks mid_disks
      → Works keep disk old.me old.note.asked old.world.whole mid.world.whole disks mid_disks
  own_works result acts =
      works_passes keep disk old.me old.note.asked asked old.world.whole mid.world.whole disks mid_disks passes its_ask
      (own_leaving result acts)

  -- it comes to nothing
  pub own_lives_act : (all_noted : Type 0) (result : Result Answer LineFault)
      → Acts keep disk asked result old mid disks mid_disks
      → LivesTo keep disk slot all_noted old mid disks mid_disks slots slots
  own_lives_act all_noted result acts =
      lives_works keep disk slot all_noted old mid disks mid_disks slots (own_works result acts) acts.rest.note

  -- it is done, and the note is settled, or not
  pub own_lives : {A B : Type 0} (result : Result Answer LineFault) (settled : Result A LineFault)
      (given : Result B LineFault) (new : MachineState K) (new_slots : Pair N)
      → Acts keep disk asked result old mid disks mid_disks
      → SettlesNote slot settled mid new slots new_slots → NotesTo slot settled mid.note new.note slots new_slots
      → (IsErrOf settled NoteFault → IsErrOf given NoteFault)
      → LivesTo keep disk slot (IsErrOf given NoteFault → ⊥) old new disks mid_disks slots new_slots
  own_lives result settled given new new_slots acts settles notes ends =
      lives_as keep disk slot settled given old new disks mid_disks slots new_slots ends
      (lives_then keep disk slot (Unit {0}) (IsErrOf settled NoteFault → ⊥) old mid new disks mid_disks mid_disks slots
      slots new_slots tt acts.rest.me (own_lives_act (Unit {0}) result acts)
      (lives_notes keep disk slot settled mid new mid_disks slots new_slots
      (ap (λ (w : Backed K). w.whole) settles.world) notes))
