-- What a command of its member comes to in the world of a machine, where it posts nothing.
use Rattle.std.proofs.Common.{◌≡◌, ◌≢◌, ◌⊎◌, ℕ, List, [], ◌∷◌, length, Option, Some, Result, Ok, Err, inl, inr, refl, sym, ap, subst, ◌∙◌}
use Rattle.std.proofs.lemmas.List.Elements.{All-nil}
use Rattle.ficus_commands.specs.declared.change.Change.{Change}
use Rattle.ficus_commands.specs.declared.look.Look.{Look}
use Rattle.ficus_disk.specs.declared.disk.Disk.{Ghosts as Disk}
use Rattle.ficus_disk.specs.declared.pair.Pair.{Pair}
use Rattle.ficus_ids.specs.Members.{IsMember}
use Rattle.ficus_ids.specs.declared.refusal.Refusal.{Refusal}
use Rattle.ficus_keeper.specs.declared.keep.Keep.{Ghosts as Keep}
use Rattle.ficus_mailbox.specs.declared.mailbox.Mailbox.{Ghosts as Mailbox}
use Rattle.ficus_member_script.specs.MemberLine.{AsksOneMember}
use Rattle.ficus_member_script.specs.declared.member_answer.MemberAnswer.{MemberAnswer}
use Rattle.ficus_member_script.specs.declared.member_answer.MemberAnswer.TheVariants.{Plain}
use Rattle.ficus_model.specs.declared.event.Op.{Op}
use Rattle.ficus_note.specs.declared.asked.Asked.{Asked as Noted}
use Rattle.ficus_opening.specs.declared.member.Member.{Member}
use Rattle.ficus_runs.specs.Answers.{answer_as}
use Rattle.ficus_runs.specs.Peers.{ArePeers}
use Rattle.ficus_runs.specs.Sequence.{Effect}
use Rattle.ficus_runs.specs.Sequence.ByRule.{Says}
use Rattle.ficus_runs.specs.Sequence.First.{Ends, Goes}
use Rattle.ficus_script.specs.Command.{IsStep}
use Rattle.ficus_script.specs.declared.answer.Answer.{Answer}
use Rattle.ficus_script.specs.declared.command.Command.{Command}
use Rattle.ficus_script.specs.declared.command.Command.TheVariants as command
use Rattle.ficus_world.specs.Machines.Acting.{ActsAlone, ActsFor}
use Rattle.ficus_world.specs.Machines.Part.{Deed, command_of}
use Rattle.ficus_world.specs.Machines.Part.Deed.{Asks, Changes, Collects, Looks, Restarts}
use Rattle.ficus_world.specs.Moves.{CarriesOut, KeepsCollection, KeepsUpdate, Reopens}
use Rattle.ficus_world.specs.Moves.FindsMember.{Finds, FindsNone}
use Rattle.ficus_world.specs.Moves.FindsUp.{FindsAt, FindsNoneAt, FindsDown}
use Rattle.ficus_world.specs.Moves.KeepsAsk.{AskerDown, Asked as KeepsAsked, NoPeers, NoRoomToAsk, NotAsked}
use Rattle.ficus_world.specs.Moves.KeepsCollection.{Collects as KeepsCollected, CollectsNot}
use Rattle.ficus_world.specs.Moves.KeepsUpdate.{Keeps, KeepsNot}
use Rattle.ficus_world.specs.Moves.Reopens.{ReopenedAsWas, ReopenedAsPending, NotReopened, NoImageFound}
use Rattle.ficus_world.specs.World.{Backed, Whole}
use Rattle.ficus_world.specs.Disks.{IsBacked}
use Rattle.ficus_world.specs.Machines.Together.{Told}
use Rattle.ficus_machine.specs.Acting.{Acted, Acts, AsksNoPeer, IsAlone, IsOwnAnswer, MovesSomehow}
use Rattle.ficus_machine.specs.Answers.{CommandAnswers, IsPlainly, elsewhere, performer, refused}
use Rattle.ficus_machine.specs.Answers.CommandAnswers.{Elsewhere, Own}
use Rattle.ficus_machine.specs.Came.{CameIn}
use Rattle.ficus_machine.specs.Line.{Goes as GoesLine, GoesOn, told_of}
use Rattle.ficus_machine.specs.Machine.{IsAtRest, MachineState}
use Rattle.ficus_machine.specs.Noting.{SettlesNote}
use Rattle.ficus_machine.specs.declared.fault.LineFault.{LineFault}
use Rattle.ficus_machine.specs.declared.fault.LineFault.TheVariants.{Memory, Note as NoteFault}
use Rattle.ficus_machine.proofs.Asked.{plainly_none}
use Rattle.ficus_machine.proofs.Going.{goes_acts, goes_idle, grows_none}
use Rattle.ficus_machine.proofs.Slots.{asks_err, asks_fine}
use Rattle.ficus_machine.proofs.Stopping.{goes_stopped}

-- such a command asks one machine alone
pub is_alone : (asked : Command) → IsStep asked → AsksOneMember asked → IsAlone asked
is_alone (command.Change by change) step one = tt
is_alone (command.Look by look) step one = tt
is_alone (command.Collect by) step one = tt
is_alone (command.Ask by to) step one = tt
is_alone (command.Give mail) step one = absurd one
is_alone (command.Pull by to) step one = absurd one
is_alone (command.Alike by other) step one = absurd one
is_alone (command.Restart by) step one = tt
is_alone (command.Stop by calls pick) step one = absurd one
is_alone (command.Sweep order) step one = absurd step
is_alone (command.Why by) step one = absurd step

module _ {disks_tell : Type 0} {me : ℕ} {old new : Whole} {given : Answer} where
  own_deed : {asked : Command} (deed : Deed) → asked ≡ command_of me deed
      → (acts : ActsAlone (Unit {0}) disks_tell me [] deed given old new) → IsPlainly asked acts.result
      → IsOwnAnswer disks_tell me asked old new (Plain given)
  own_deed deed is acts plainly = record {
    deed = deed;
    is = is;
    given = given;
    acts = acts;
    plainly = plainly;
    answer_is = ap Plain acts.answer_is;
  }

  pub own_answer : (asked : Command) → performer asked ≡ Some me → AsksNoPeer (length old.members) me asked
      → ActsFor (Unit {0}) disks_tell asked given old new → IsOwnAnswer disks_tell me asked old new (Plain given)
  own_answer (command.Change by change) own none acts =
      let is : command.Change by change ≡ command.Change me change = (cc) in
      own_deed (Changes change) is (acts me (Changes change) is tt) tt
  own_answer (command.Look by look) own none acts =
      let is : command.Look by look ≡ command.Look me look = (cc) in
      own_deed (Looks look) is (acts me (Looks look) is tt) tt
  own_answer (command.Collect by) own none acts =
      let is : command.Collect by ≡ command.Collect me = (cc) in
      own_deed Collects is (acts me Collects is tt) tt
  own_answer (command.Ask by to) own none acts =
      let is : command.Ask by to ≡ command.Ask me to = (cc) in
      let alone = acts me (Asks to) is tt in
      own_deed (Asks to) is alone (plainly_none alone by (none to is))
  own_answer (command.Restart by) own none acts =
      let is : command.Restart by ≡ command.Restart me = (cc) in
      own_deed Restarts is (acts me Restarts is tt) tt
  own_answer (command.Give mail) own none acts = absurd (cc)
  own_answer (command.Pull by to) own none acts = absurd (cc)
  own_answer (command.Alike by other) own none acts = absurd (cc)
  own_answer (command.Stop by calls pick) own none acts = absurd (cc)
  own_answer (command.Sweep order) own none acts = absurd (cc)
  own_answer (command.Why by) own none acts = absurd (cc)

-- it posts nothing
module _ (disks_tell : Type 0) (old : Whole) where
  abbrev Stays : Effect Whole → Type 0
  Stays left = left.after.post ≡ old.post

  update_stays : {by : ℕ} {was : Member} {op : Op} {result : Result Answer Refusal} {left : Effect Whole}
      → KeepsUpdate by was op old result left → Stays left
  update_stays (Keeps applied ask) = refl
  update_stays (KeepsNot applied ask) = refl

  collection_stays : {by : ℕ} {was : Member} {result : Result Answer Refusal} {left : Effect Whole}
      → KeepsCollection by was old result left → Stays left
  collection_stays (KeepsCollected gives) = refl
  collection_stays (CollectsNot gives) = refl

  opening_stays : {by : ℕ} {was : Member} {result : Result Answer Refusal} {left : Effect Whole}
      → Reopens disks_tell by was old result left → Stays left
  opening_stays (ReopenedAsWas reads) = refl
  opening_stays (ReopenedAsPending down reads) = refl
  opening_stays NotReopened = refl
  opening_stays (NoImageFound untold) = refl

  change_stays : (by : ℕ) (change : Change) {result : Result Answer Refusal} {left : Effect Whole}
      → CarriesOut (Unit {0}) disks_tell (command.Change by change) old result left → Stays left
  change_stays by change (Ends (FindsNoneAt none)) = refl
  change_stays by change (Ends (FindsDown is down)) = refl
  change_stays by change (Goes (FindsAt is up) (Ends (Says decided))) = refl
  change_stays by change (Goes (FindsAt is up) (Goes (Says decided) keeps)) = update_stays keeps

  look_stays : (by : ℕ) (look : Look) {result : Result Answer Refusal} {left : Effect Whole}
      → CarriesOut (Unit {0}) disks_tell (command.Look by look) old result left → Stays left
  look_stays by look (Ends (FindsNoneAt none)) = refl
  look_stays by look (Ends (FindsDown is down)) = refl
  look_stays by look (Goes (FindsAt is up) (Says shown)) = refl

  collect_stays : (by : ℕ) {result : Result Answer Refusal} {left : Effect Whole}
      → CarriesOut (Unit {0}) disks_tell (command.Collect by) old result left → Stays left
  collect_stays by (Ends (FindsNoneAt none)) = refl
  collect_stays by (Ends (FindsDown is down)) = refl
  collect_stays by (Goes (FindsAt is up) keeps) = collection_stays keeps

  restart_stays : (by : ℕ) {result : Result Answer Refusal} {left : Effect Whole}
      → CarriesOut (Unit {0}) disks_tell (command.Restart by) old result left → Stays left
  restart_stays by (Ends (FindsNone none)) = refl
  restart_stays by (Goes (Finds is) opens) = opening_stays opens

  ask_stays : (by to : ℕ) {result : Result Answer Refusal} {left : Effect Whole}
      → (ArePeers (length old.members) by to → ⊥)
      → CarriesOut (Unit {0}) disks_tell (command.Ask by to) old result left → Stays left
  ask_stays by to none (Ends (NoPeers alone)) = refl
  ask_stays by to none (Ends (AskerDown peers is down)) = absurd (none peers)
  ask_stays by to none (Ends (NoRoomToAsk asking full)) = absurd (none asking.peers)
  ask_stays by to none (Ends (NotAsked asking room)) = absurd (none asking.peers)
  ask_stays by to none (Ends (KeepsAsked asking room sends)) = absurd (none asking.peers)
  ask_stays by to none (Goes (KeepsAsked asking room sends) (Says gives)) = absurd (none asking.peers)

  stays : {me : ℕ} (asked : Command) (result : Result Answer Refusal) (left : Effect Whole) → performer asked ≡ Some me
      → AsksNoPeer (length old.members) me asked → CarriesOut (Unit {0}) disks_tell asked old result left → Stays left
  stays (command.Change by change) result left own none does = change_stays by change does
  stays (command.Look by look) result left own none does = look_stays by look does
  stays (command.Collect by) result left own none does = collect_stays by does
  stays {me} (command.Ask by to) result left own none does =
      let same : by ≡ me = (cc) in
      let is : command.Ask by to ≡ command.Ask me to = (cc) in
      ask_stays by to (λ peers. none to is (subst (λ n. ArePeers (length old.members) n to) same peers)) does
  stays (command.Restart by) result left own none does = restart_stays by does
  stays (command.Give mail) result left own none does = absurd (cc)
  stays (command.Pull by to) result left own none does = absurd (cc)
  stays (command.Alike by other) result left own none does = absurd (cc)
  stays (command.Stop by calls pick) result left own none does = absurd (cc)
  stays (command.Sweep order) result left own none does = absurd (cc)
  stays (command.Why by) result left own none does = absurd (cc)

  pub post_stays : {me : ℕ} {asked : Command} {given : Answer} {new : Whole} → performer asked ≡ Some me
      → AsksNoPeer (length old.members) me asked → MovesSomehow disks_tell old asked given new
      → new.post ≡ old.post
  post_stays {asked = asked} {new = new} own none moves =
      stays asked moves.moves.result (record { outcomes = moves.outcomes; after = new }) own none moves.moves.does

-- how a command ends that posts nothing
module _ {K D : Type 0} {keep : Keep K} {disk : Disk D} {asked : Command} {old mid : MachineState K}
    {disks mid_disks : List (Pair D)} {given : Answer} (performs : performer asked ≡ Some old.me)
    (none : AsksNoPeer (length old.world.whole.members) old.me asked)
    (acts : Acts keep disk asked (Ok given) old mid disks mid_disks) where
  answers_own : (new : MachineState K) → new.world ≡ mid.world
      → IsOwnAnswer disk.tells old.me asked old.world.whole new.world.whole (Plain given)
  answers_own new same =
      subst (λ (w : Backed K). IsOwnAnswer disk.tells old.me asked old.world.whole w.whole (Plain given)) (sym same)
      (own_answer asked performs none acts.acts)

  backed_own : (new : MachineState K) → new.world ≡ mid.world → IsBacked keep disk new.world mid_disks
  backed_own new same = subst (λ (w : Backed K). IsBacked keep disk w mid_disks) (sym same) acts.backed

  count_own : (new : MachineState K) → new.world ≡ mid.world
      → length new.world.whole.members ≡ length old.world.whole.members
  count_own new same = ap (λ (w : Backed K). length w.whole.members) same ∙ acts.count

  module _ {N : Type 0} {slot : Disk N} {new : MachineState K} {slots new_slots : Pair N} where
    -- it is carried out, and that isn't noted
    pub own_unsettled : {fault : LineFault} → SettlesNote {A = Unit {0}} slot (Err fault) mid new slots new_slots
        → Acted keep disk slot asked (Err fault) old new disks mid_disks slots new_slots
    own_unsettled {fault} settles = record {
      answers = tt;
      failed = λ is. (Plain given, answers_own new settles.world);
      memory = λ is. inr (Plain given, answers_own new settles.world);
      rest = tt;
      backed = backed_own new settles.world;
      count = count_own new settles.world;
      same = record { me = settles.me ∙ acts.rest.me; tag = settles.tag ∙ acts.rest.tag };
      asks = asks_err fault refl refl settles.asks;
    }

    -- it is answered
    pub own_settled : IsAtRest keep disk slot old disks slots
        → SettlesNote {A = Unit {0}} slot (Ok tt) mid new slots new_slots
        → Acted keep disk slot asked (Ok (Plain given)) old new disks mid_disks slots new_slots
    own_settled rest settles = record {
      answers = answers_own new settles.world;
      failed = λ is. absurd (cc);
      memory = λ is. absurd (cc);
      rest = record {
        held = record {
          member =
              subst (λ n. IsMember n new.me) (sym (count_own new settles.world))
              (subst (λ n. IsMember (length old.world.whole.members) n) (sym (settles.me ∙ acts.rest.me))
              rest.held.member);
          backed = backed_own new settles.world;
          ready = settles.ready;
        };
        post =
            ap (λ (w : Backed K). w.whole.post) settles.world
            ∙ post_stays disk.tells old.world.whole performs none acts.moves ∙ rest.post;
        noted = settles.noted;
      };
      backed = backed_own new settles.world;
      count = count_own new settles.world;
      same = record { me = settles.me ∙ acts.rest.me; tag = settles.tag ∙ acts.rest.tag };
      asks = asks_fine settles.asks.steady;
    }

-- so it is answered by what was told
module _ {disks_tell : Type 0} {me : ℕ} {asked : Command} {was now : Whole} {answer : MemberAnswer}
    (own : IsOwnAnswer disks_tell me asked was now answer) where
  abbrev its_told : List Told
  its_told = told_of me own.deed own.acts.result ∷ []

  goes_own : {M : Type 0} (mailbox : Mailbox M) (tag : List ℕ) (there : M) → length now.members ≡ length was.members
      → GoesOn mailbox disks_tell me tag its_told was now there there
  goes_own mailbox tag there count =
      goes_acts own.acts count (λ tells. All-nil (CameIn tag (length was.members) me (mailbox.given there)))

  answers_plainly : {M : Type 0} (mailbox : Mailbox M) (noted : Option Noted) (there : M)
      → CommandAnswers mailbox me noted was now there there asked its_told answer
  answers_plainly mailbox noted there =
      subst (λ (a : MemberAnswer). CommandAnswers mailbox me noted was now there there asked its_told a)
      (sym own.answer_is)
      (subst (λ (a : Command). CommandAnswers mailbox me noted was now there there a its_told
      (Plain (answer_as own.acts.result))) (sym own.is)
      (Own {deed = own.deed} (subst (λ (a : Command). IsPlainly a own.acts.result) own.is own.plainly)))

module _ {K D N M : Type 0} {keep : Keep K} {disk : Disk D} {slot : Disk N} (mailbox : Mailbox M) {asked : Command}
    {old new : MachineState K} {disks new_disks : List (Pair D)} {slots new_slots : Pair N} (now : M) where
  own_stopped : {Answers : List Told → MemberAnswer → Type 0} {fault : LineFault}
      → Acted keep disk slot asked (Err fault) old new disks new_disks slots new_slots
      → (new.world.whole ≡ old.world.whole) ⊎ ((answer : MemberAnswer)
      × IsOwnAnswer disk.tells old.me asked old.world.whole new.world.whole answer)
      → GoesLine keep disk slot mailbox Answers (Err fault) old new disks new_disks slots new_slots now now
  own_stopped {fault = fault} acted (inl same) =
      goes_stopped fault refl
      (goes_idle same (λ tells. grows_none (mailbox.given now)) (λ tells. refl)) acted.backed acted.same acted.asks
  own_stopped {fault = fault} acted (inr (answer, own)) =
      goes_stopped fault refl (goes_own own mailbox old.tag now acted.count) acted.backed acted.same acted.asks

  pub goes_plainly : (result : Result MemberAnswer LineFault)
      → Acted keep disk slot asked result old new disks new_disks slots new_slots
      → GoesLine keep disk slot mailbox
      (CommandAnswers mailbox old.me new.note.asked old.world.whole new.world.whole now now asked) result old new disks
      new_disks slots new_slots now now
  goes_plainly (Ok answer) acted = record {
    told = its_told acted.answers;
    goes = goes_own acted.answers mailbox old.tag now acted.count;
    answers = answers_plainly acted.answers mailbox new.note.asked now;
    rest = acted.rest;
    backed = acted.backed;
    same = acted.same;
    asks = acted.asks;
  }
  goes_plainly (Err Memory) acted = own_stopped acted (acted.memory refl)
  goes_plainly (Err NoteFault) acted = own_stopped acted (inr (acted.failed refl))

-- a line of another's number does nothing
pub goes_elsewhere : {K D N M : Type 0} {keep : Keep K} {disk : Disk D} {slot : Disk N} {mailbox : Mailbox M}
    {asked : Command} {old : MachineState K} {disks : List (Pair D)} {slots : Pair N} {now : M} {by : ℕ}
    → IsAtRest keep disk slot old disks slots → performer asked ≡ Some by → by ≢ old.me
    → GoesLine keep disk slot mailbox
    (CommandAnswers mailbox old.me old.note.asked old.world.whole old.world.whole now now asked)
    (Ok (refused (elsewhere (length old.world.whole.members) by))) old old disks disks slots slots now now
goes_elsewhere {mailbox = mailbox} {now = now} rest performs other = record {
  told = [];
  goes = goes_idle refl (λ tells. grows_none (mailbox.given now)) (λ tells. refl);
  answers = Elsewhere performs other refl;
  rest = rest;
  backed = rest.held.backed;
  same = record { me = refl; tag = refl };
  asks = asks_fine (record { a = refl; b = refl });
}
