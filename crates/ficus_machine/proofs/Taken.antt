-- What a machine comes to that has taken a message, or that takes none.
use Rattle.std.proofs.Common.{◌≡◌, ◌≢◌, ◌⊎◌, ℕ, ◌-◌, List, [], ◌∷◌, ◌++◌, length, Bool, Option, Some, None, Result, Ok, Err, refl, sym, ap, subst, ◌∙◌}
use Rattle.std.specs.Prelude.{IfErr, IfOk, IsErrOf, OnOk}
use Rattle.std.proofs.lemmas.List.{append-nil, length-set}
use Rattle.std.proofs.lemmas.Option.{same_Some}
use Rattle.std.proofs.lemmas.Result.{IfErr-at_err, IfOk-at_ok, IfOk-weaker}
use Rattle.ficus_disk.specs.declared.disk.Disk.{Ghosts as Disk}
use Rattle.ficus_disk.specs.declared.pair.Pair.{Pair}
use Rattle.ficus_ids.specs.Members.{IsMember}
use Rattle.ficus_keeper.specs.Pairs.{PairSame}
use Rattle.ficus_keeper.specs.declared.keep.Keep.{Ghosts as Keep}
use Rattle.ficus_mailbox.specs.declared.mailbox.Mailbox.{Ghosts as Mailbox}
use Rattle.ficus_note.specs.Calls.{IsReady}
use Rattle.ficus_note.specs.declared.asked.Asked.{Asked as Noted}
use Rattle.ficus_note.specs.declared.note.Note.{Note as NoteOf}
use Rattle.ficus_opening.specs.declared.member.Member.{Member}
use Rattle.ficus_opening.specs.declared.member.MemberState.{MemberState}
use Rattle.ficus_opening.specs.declared.member.MemberState.TheVariants.{Up}
use Rattle.ficus_replica.specs.declared.replica.Asked.{Asked}
use Rattle.ficus_replica.specs.declared.replica.Replica.{Replica}
use Rattle.ficus_runs.specs.Numbered.{IsNumbered}
use Rattle.ficus_runs.proofs.Numbers.{number_exists, number_once}
use Rattle.ficus_world.specs.Disks.{IsBacked}
use Rattle.ficus_world.specs.Hearing.{Awaits, awaiting}
use Rattle.ficus_world.specs.Moves.{with_member, with_post}
use Rattle.ficus_world.specs.Post.{Outbox}
use Rattle.ficus_world.specs.World.{Whole}
use Rattle.ficus_world.specs.Machines.Together.{Renews, Told}
use Rattle.ficus_world.proofs.machines.Parts.{number_put}
use Rattle.ficus_machine.specs.Answers.{HoldsOther, OnlyHolds}
use Rattle.ficus_machine.specs.Came.{IsLetterOfOne}
use Rattle.ficus_machine.specs.Line.{Goes, GoesInWorld, GoesOn, Grows}
use Rattle.ficus_machine.specs.Machine.{IsAtRest, IsNoted, KeepsMachine, MachineState, ask_of, no_post}
use Rattle.ficus_machine.specs.Moments.{IsOpenIn, Lives, LivesTo, NotesTo, moment_of}
use Rattle.ficus_machine.specs.Moments.Lives.{Notes, Then, Working}
use Rattle.ficus_machine.specs.Moments.Works.{Holds}
use Rattle.ficus_machine.specs.Noting.{AsksSlots}
use Rattle.ficus_machine.specs.Taking.{Finishes, Undoes}
use Rattle.ficus_machine.specs.declared.fault.LineFault.{LineFault}
use Rattle.ficus_machine.specs.declared.fault.LineFault.TheVariants.{Memory, Note}
use Rattle.ficus_machine.proofs.Going.{goes_idle, goes_renews, goes_then}
use Rattle.ficus_machine.proofs.Held.{backed_same, backed_waiting}
use Rattle.ficus_machine.proofs.Lived.{holds_post, lives_then}
use Rattle.ficus_machine.proofs.Slots.{asks_behind, asks_err, asks_fine, asks_memory, rose_none, same_behind}

-- a member waits for one answer
pub awaits_once : {world : Whole} {r : ℕ} {one other : Asked} → Awaits world r one → Awaits world r other → one ≡ other
awaits_once {one = one} {other} first second =
    same_Some one other
    (sym first.asks ∙ ap (λ (m : Member). m.replica.ask) (number_once first.is second.is) ∙ second.asks)

-- and waits for it wherever it is the same
awaits_there : {old new : Whole} {r : ℕ} {ask : Asked} {member : Member} → IsNumbered old.members r member
    → IsNumbered new.members r member → Awaits old r ask → Awaits new r ask
awaits_there {new = new} {r} {ask} {member} is there awaits = record {
  member = awaits.member;
  is = subst (IsNumbered new.members r) (number_once is awaits.is) there;
  up = awaits.up;
  asks = awaits.asks;
  none_held = awaits.none_held;
}

-- what is noted is right there still
noted_there : (old new : Whole) {r : ℕ} {member : Member} (asked : Asked) → IsNumbered old.members r member
    → IsNumbered new.members r member → Awaits old r asked → (noted : Option Noted) → IsNoted old r noted
    → IsNoted new r noted
noted_there old new asked is there awaits None none = absurd (none asked awaits)
noted_there old new asked is there awaits (Some ask) noted = awaits_there {old = old} {new = new} is there noted

-- what is noted at rest is open
pub open_noted : (world : Whole) (me : ℕ) (noted : Option Noted) → IsNoted world me noted → IsOpenIn world me noted
open_noted world me None none = tt
open_noted world me (Some ask) awaits = λ member is.
    let same : awaits.member ≡ member = number_once awaits.is is in (
      subst (λ (m : Member). m.state ≡ Up) same awaits.up,
      subst (λ (m : Member). m.replica.ask ≡ Some (ask_of ask)) same awaits.asks,
    )

-- a world without messages goes on with the same members
module _ {me : ℕ} {middle new : Whole} (member : IsMember (length middle.members) me)
    (renewed : new ≡ with_post middle no_post) where
  renews_alike : Renews me middle new
  renews_alike =
      let found = number_exists middle.members me member in
      record {
        count = ap (λ (w : Whole). length w.members) renewed;
        member = found.0;
        was = found.1;
        is = subst (λ (w : Whole). IsNumbered w.members me found.0) (sym renewed) found.1;
        posts = ap (λ (w : Whole). w.post.posts) renewed;
      }

module _ {M : Type 0} {mailbox : Mailbox M} {disks_tell : Type 0} {me : ℕ} {tag : List ℕ} where
  -- a new process begins behind all that was done
  goes_ends : {told : List Told} {old middle new : Whole} {was now : M}
      → GoesOn mailbox disks_tell me tag told old middle was now → Renews me middle new
      → GoesOn mailbox disks_tell me tag told old new was now
  goes_ends {told} {old} {middle} {new} {was} {now} goes renews =
      subst (λ (list : List Told). GoesOn mailbox disks_tell me tag list old new was now) (append-nil told)
      (goes_then goes (goes_renews {now = now} renews))

-- what calls do to the disks of the note, one behind the other
finished_asks : {K N A : Type 0} {slot : Disk N} {middle new : MachineState K} {slots mid_slots new_slots : Pair N}
    (came_to result : Result A LineFault) → AsksSlots slot came_to middle.note slots mid_slots
    → Finishes slot came_to result middle new mid_slots new_slots → AsksSlots slot result new.note slots new_slots
finished_asks (Ok answer) result first finishes = asks_behind first.steady finishes.asks
finished_asks {K} {N} {A} {slot} {middle} {new} {slots} {mid_slots} {new_slots} (Err fault) result first finishes =
    subst (λ (note : NoteOf). AsksSlots slot result note slots new_slots) (sym finishes.stays.1)
    (subst (λ (pair : Pair N). AsksSlots slot result middle.note slots pair) (sym finishes.stays.2)
    (asks_err fault refl finishes.stays.0 first))

finished_answers : {A : Type 0} (P : A → Type 0) (came_to result : Result A LineFault) → IfOk came_to P
    → IfOk result (λ answer. came_to ≡ Ok answer) → IfOk result P
finished_answers P came_to (Ok answer) so is = IfOk-at_ok P is so
finished_answers P came_to (Err fault) so is = tt

finished_rest : {K D N A : Type 0} {keep : Keep K} {disk : Disk D} (slot : Disk N) (new : MachineState K)
    {disks : List (Pair D)} (slots : Pair N) → IsMember (length new.world.whole.members) new.me
    → IsBacked keep disk new.world disks → new.world.whole.post ≡ no_post → (result : Result A LineFault)
    → OnOk result (IsNoted new.world.whole new.me new.note.asked)
    → (slot.tells → OnOk result (IsReady slot new.note slots)) → OnOk result (IsAtRest keep disk slot new disks slots)
finished_rest slot new slots member backed post (Ok answer) noted ready =
    record { held = record { member = member; backed = backed; ready = ready }; post = post; noted = noted }
finished_rest slot new slots member backed post (Err fault) noted ready = tt

-- a call that touched no note has failed at none of its disks
no_note_asks : {N A : Type 0} {slot : Disk N} {now : NoteOf} {slots : Pair N} (result : Result A LineFault)
    → (result ≡ Err Note → ⊥) → AsksSlots slot result now slots slots
no_note_asks (Ok answer) never = asks_fine (record { a = refl; b = refl })
no_note_asks (Err Memory) never = asks_memory (record { a = refl; b = refl })
no_note_asks (Err Note) never = absurd (never refl)

member_still : {members others me again : ℕ} → others ≡ members → again ≡ me → IsMember members me
    → IsMember others again
member_still {members} {others} {me} {again} count here member =
    subst (λ n. IsMember n again) (sym count) (subst (IsMember members) (sym here) member)

module _ {K D N M : Type 0} {keep : Keep K} {disk : Disk D} {slot : Disk N} {mailbox : Mailbox M} {A : Type 0} where
  module _ {Answers : List Told → A → Type 0} {machine : MachineState K} {disks : List (Pair D)} {slots : Pair N}
      {was now : M} (rest : IsAtRest keep disk slot machine disks slots)
      (given : mailbox.tells → Grows (mailbox.given was) (mailbox.given now))
      (posted : mailbox.tells → mailbox.posted now ≡ mailbox.posted was) where
    -- only the mailbox was asked, and that is answered
    pub goes_answered : (answer : A) → Answers [] answer
        → Goes keep disk slot mailbox Answers (Ok answer) machine machine disks disks slots slots was now
    goes_answered answer so = record {
      told = [];
      goes = goes_idle refl given posted;
      answers = so;
      rest = rest;
      backed = rest.held.backed;
      same = record { me = refl; tag = refl };
      asks = asks_fine (record { a = refl; b = refl });
    }

    -- and memory was refused
    pub goes_memory : Goes keep disk slot mailbox Answers (Err Memory) machine machine disks disks slots slots was now
    goes_memory = record {
      told = [];
      goes = goes_idle refl given posted;
      answers = tt;
      rest = tt;
      backed = rest.held.backed;
      same = record { me = refl; tag = refl };
      asks = asks_memory (record { a = refl; b = refl });
    }

  -- what the mailbox was asked before stands in front
  pub goes_found : {Found Answers : List Told → A → Type 0} {result : Result A LineFault} {old new : MachineState K}
      {disks new_disks : List (Pair D)} {slots new_slots : Pair N} {was there now : M}
      → (mailbox.tells → Grows (mailbox.given was) (mailbox.given there))
      → (mailbox.tells → mailbox.posted there ≡ mailbox.posted was)
      → ((told : List Told) (answer : A) → Found told answer → Answers told answer)
      → Goes keep disk slot mailbox Found result old new disks new_disks slots new_slots there now
      → Goes keep disk slot mailbox Answers result old new disks new_disks slots new_slots was now
  goes_found {Found} {Answers} {result} {old} given posted so goes = record {
    told = goes.told;
    goes = goes_then (goes_idle {old = old.world.whole} refl given posted) goes.goes;
    answers = IfOk-weaker result (Found goes.told) (Answers goes.told) (so goes.told) goes.answers;
    rest = goes.rest;
    backed = goes.backed;
    same = goes.same;
    asks = goes.asks;
  }

  -- a call that did something in the world, and then its messages are given up
  module _ {Answers : List Told → A → Type 0} {old middle new : MachineState K}
      {disks new_disks : List (Pair D)} {slots mid_slots new_slots : Pair N} {was now : M} where
    pub goes_finished : {told : List Told} {world : Whole} {came_to result : Result A LineFault}
        → IsMember (length old.world.whole.members) old.me
        → GoesOn mailbox disk.tells old.me old.tag told old.world.whole world was now
        → middle.world.whole ≡ with_post world middle.world.whole.post → IfOk came_to (Answers told)
        → IsBacked keep disk middle.world new_disks → KeepsMachine old middle
        → AsksSlots slot came_to middle.note slots mid_slots
        → Finishes slot came_to result middle new mid_slots new_slots
        → Goes keep disk slot mailbox Answers result old new disks new_disks slots new_slots was now
    goes_finished {told} {world} {came_to} {result} member goes is answers backed same first finishes = record {
      told = told;
      goes = goes_ends goes (renews_alike (subst (λ n. IsMember n old.me) (sym goes.count) member) whole);
      answers = finished_answers (Answers told) came_to result answers finishes.answers;
      rest =
          finished_rest slot new new_slots (member_still count (finishes.same.me ∙ same.me) member) still
          (ap (λ (w : Whole). w.post) whole) result finishes.noted finishes.ready;
      backed = still;
      same = record { me = finishes.same.me ∙ same.me; tag = finishes.same.tag ∙ same.tag };
      asks = finished_asks came_to result first finishes;
    } where
      whole : new.world.whole ≡ with_post world no_post
      whole = finishes.renewed ∙ ap (λ (w : Whole). with_post w no_post) is

      count : length new.world.whole.members ≡ length old.world.whole.members
      count = ap (λ (w : Whole). length w.members) whole ∙ goes.count

      still : IsBacked keep disk new.world new_disks
      still = backed_same (ap (λ (w : Whole). w.members) finishes.renewed) finishes.stables backed

  -- an ask is answered
  pub goes_served : {Answers : List Told → A → Type 0} {came_to result : Result A LineFault}
      {old middle new : MachineState K} {disks new_disks : List (Pair D)} {slots new_slots : Pair N} {was now : M}
      → IsMember (length old.world.whole.members) old.me
      → GoesInWorld keep disk mailbox Answers came_to old middle disks new_disks was now
      → Finishes slot came_to result middle new slots new_slots
      → Goes keep disk slot mailbox Answers result old new disks new_disks slots new_slots was now
  goes_served {came_to = came_to} member served finishes =
      goes_finished member served.goes served.is served.answers served.backed
      (record { me = served.rest.me; tag = served.rest.tag }) (no_note_asks came_to served.no_note) finishes

module _ {K D N : Type 0} (keep : Keep K) (disk : Disk D) (slot : Disk N) where
  -- Only what the member holds of an answer has changed, and then something becomes of the note.
  lives_held : {A : Type 0} (result : Result A LineFault) (old new : MachineState K) (disks : List (Pair D))
      (slots new_slots : Pair N) → OnlyHolds old.me old.world.whole new.world.whole
      → NotesTo slot result old.note new.note slots new_slots
      → LivesTo keep disk slot (IsErrOf result Note → ⊥) old new disks disks slots new_slots
  lives_held result old new disks slots new_slots holds notes =
      record { noted = notes.noted; is = notes.is; lives = Then (Working (Holds holds)) (Notes notes.noting) }

  module _ {A : Type 0} (came_to result : Result A LineFault) (old middle new : MachineState K)
      (disks new_disks : List (Pair D)) (slots mid_slots new_slots : Pair N) (here : middle.me ≡ old.me)
      (finishes : Finishes slot came_to result middle new mid_slots new_slots) where
    -- behind a call by which all was noted, the messages of its world are given up
    pub lives_finished : (X : Type 0) → X → LivesTo keep disk slot X old middle disks new_disks slots mid_slots
        → NotesTo slot result middle.note new.note mid_slots new_slots
        → LivesTo keep disk slot (IsErrOf result Note → ⊥) old new disks new_disks slots new_slots
    lives_finished X all first notes =
        lives_then keep disk slot X (IsErrOf result Note → ⊥) old middle new disks new_disks new_disks slots mid_slots
        new_slots all here first
        (lives_held result middle new new_disks mid_slots new_slots
        (holds_post middle.me middle.world.whole new.world.whole no_post finishes.renewed) notes)

    -- and behind one that has ended for the note
    pub lives_unnoted : (X : Type 0) → came_to ≡ Err Note
        → LivesTo keep disk slot X old middle disks new_disks slots mid_slots
        → LivesTo keep disk slot (IsErrOf result Note → ⊥) old new disks new_disks slots new_slots
    lives_unnoted X is first =
        let stays = IfErr-at_err (λ (fault : LineFault). (result ≡ Err fault) × (new.note ≡ middle.note)
        × (new_slots ≡ mid_slots)) is finishes.stays in
        record {
          noted = first.noted;
          is = λ never. absurd (never stays.0);
          lives =
              subst (λ (pair : Pair N). Lives keep disk slot old.me (moment_of old disks slots) (record {
                world = new.world.whole;
                noted = first.noted;
                disks = new_disks;
                slots = pair;
              })) (sym stays.2)
              (Then first.lives
              (Working (Holds (holds_post old.me middle.world.whole new.world.whole no_post finishes.renewed))));
        }

-- the member after an answer was given up is the one before
waits_again : (was now : Member) (ask : Asked) → HoldsOther was now → was.replica.ask ≡ Some ask → was.parts ≡ None
    → awaiting now (Some ask) ≡ was
waits_again was now ask other asks none i =
    let asked : record now.replica { ask = Some ask } ≡ was.replica =
    ap (λ (r : Replica). record r { ask = Some ask }) other.replica
    ∙ ap (λ (a : Option Asked). record was.replica { ask = a }) (sym asks) in
    record { replica = asked i; parts = sym none i; state = other.state i; fused = other.fused i }

module _ {K D N M U : Type 0} (keep : Keep K) (disk : Disk D) (slot : Disk N) (mailbox : Mailbox M)
    (old middle new : MachineState K) (disks new_disks : List (Pair D)) (slots mid_slots new_slots : Pair N)
    (was now : M) (asked : Asked) (saved : Result U LineFault) (rest : IsAtRest keep disk slot old disks slots)
    (awaits : Awaits old.world.whole old.me asked) (holds : OnlyHolds old.me old.world.whole middle.world.whole)
    (given : mailbox.tells → Grows (mailbox.given was) (mailbox.given now))
    (posted : mailbox.posted now ≡ mailbox.posted was) (backed : IsBacked keep disk middle.world new_disks)
    (steady : PairSame slot.faults slots mid_slots) (same : KeepsMachine old middle)
    (undoes : Undoes slot asked old.note.asked saved middle new mid_slots new_slots) where
  found : (member : Member) × IsNumbered middle.world.whole.members old.me member
  found =
      number_exists middle.world.whole.members old.me
      (subst (λ n. IsMember n old.me) (sym holds.count) rest.held.member)

  found_here : IsNumbered middle.world.whole.members middle.me found.0
  found_here = subst (λ r. IsNumbered middle.world.whole.members r found.0) (sym same.me) found.1

  whole : new.world.whole
      ≡ with_post (with_member middle.world.whole middle.me (awaiting found.0 (Some asked))) no_post
  whole = undoes.waits found.0 found_here

  again : awaiting found.0 (Some asked) ≡ awaits.member
  again =
      waits_again awaits.member found.0 asked (holds.each awaits.member found.0 awaits.is found.1) awaits.asks
      awaits.none_held

  turned : with_post (with_member middle.world.whole middle.me (awaiting found.0 (Some asked))) no_post
      ≡ with_post (with_member middle.world.whole old.me awaits.member) no_post
  turned i = with_post (with_member middle.world.whole (same.me i) (again i)) no_post

  whole_is : new.world.whole ≡ with_post (with_member middle.world.whole old.me awaits.member) no_post
  whole_is = whole ∙ turned

  stands : IsNumbered new.world.whole.members old.me awaits.member
  stands =
      subst (λ (w : Whole). IsNumbered w.members old.me awaits.member) (sym whole_is)
      (number_put middle.world.whole.members old.me awaits.member found.1.member)

  counted : length new.world.whole.members ≡ length old.world.whole.members
  counted =
      ap (λ (w : Whole). length w.members) whole_is
      ∙ length-set middle.world.whole.members (old.me - 1) awaits.member ∙ holds.count

  -- and only what the member holds of an answer is given up
  given_up : OnlyHolds old.me middle.world.whole new.world.whole
  given_up = record {
    count =
        ap (λ (w : Whole). length w.members) whole_is
        ∙ length-set middle.world.whole.members (old.me - 1) awaits.member;
    each = λ before after at there.
        let one : after ≡ awaits.member = number_once there stands in
        let other = holds.each awaits.member before awaits.is at in
        record {
          replica = ap (λ (m : Member). m.replica) one ∙ sym other.replica;
          state = ap (λ (m : Member). m.state) one ∙ sym other.state;
          fused = ap (λ (m : Member). m.fused) one ∙ sym other.fused;
        };
  }

  pub lives_undone : (X : Type 0) → X → LivesTo keep disk slot X old middle disks new_disks slots mid_slots
      → NotesTo slot saved middle.note new.note mid_slots new_slots
      → LivesTo keep disk slot (IsErrOf saved Note → ⊥) old new disks new_disks slots new_slots
  lives_undone X all first notes =
      lives_then keep disk slot X (IsErrOf saved Note → ⊥) old middle new disks new_disks new_disks slots mid_slots
      new_slots all same.me first
      (lives_held keep disk slot saved middle new new_disks mid_slots new_slots
      (subst (λ r. OnlyHolds r middle.world.whole new.world.whole) (sym same.me) given_up) notes)

  pub undone : Renews old.me old.world.whole new.world.whole
  undone = record {
    count = counted;
    member = awaits.member;
    was = awaits.is;
    is = stands;
    posts = ap (λ (w : Whole). w.post.posts) whole_is;
  }

  undone_backed : IsBacked keep disk new.world new_disks
  undone_backed =
      backed_waiting (Some asked) found_here (ap (λ (w : Whole). w.members) whole) undoes.stables backed

  here : new.me ≡ old.me
  here = undoes.same.me ∙ same.me

  undone_goes : GoesOn mailbox disk.tells old.me old.tag [] old.world.whole new.world.whole was now
  undone_goes = goes_then (goes_idle {old = old.world.whole} refl given (λ tells. posted)) (goes_renews undone)

  undone_noted : new.note.asked ≡ old.note.asked → IsNoted new.world.whole new.me new.note.asked
  undone_noted is =
      subst (λ r. IsNoted new.world.whole r new.note.asked) (sym here)
      (subst (IsNoted new.world.whole old.me) (sym is)
      (noted_there old.world.whole new.world.whole asked awaits.is stands awaits old.note.asked rest.noted))

  -- what hindered it is answered
  pub goes_undone : {A : Type 0} {Answers : List Told → A → Type 0} (answer : A) (value : U) → saved ≡ Ok value → Answers [] answer
      → Goes keep disk slot mailbox Answers (Ok answer) old new disks new_disks slots new_slots was now
  goes_undone answer value is so = record {
    told = [];
    goes = undone_goes;
    answers = so;
    rest = record {
      held = record {
        member = member_still counted here rest.held.member;
        backed = undone_backed;
        ready = λ tells. IfOk-at_ok (λ v. IsReady slot new.note new_slots) is (undoes.saves.ready tells);
      };
      post = ap (λ (w : Whole). w.post) whole_is;
      noted = undone_noted (IfOk-at_ok (λ v. new.note.asked ≡ old.note.asked) is undoes.saves.asked);
    };
    backed = undone_backed;
    same = record { me = here; tag = undoes.same.tag ∙ same.tag };
    asks = asks_fine (same_behind steady (IfOk-at_ok (λ v. PairSame slot.faults mid_slots new_slots) is undoes.saves.asks.steady));
  }

  -- that isn't noted
  pub goes_undone_fault : {A : Type 0} {Answers : List Told → A → Type 0} (fault : LineFault) → saved ≡ Err fault
      → Goes keep disk slot mailbox Answers (Err fault) old new disks new_disks slots new_slots was now
  goes_undone_fault fault is = record {
    told = [];
    goes = undone_goes;
    answers = tt;
    rest = tt;
    backed = undone_backed;
    same = record { me = here; tag = undoes.same.tag ∙ same.tag };
    asks = asks_err fault is refl (asks_behind steady undoes.saves.asks);
  }
