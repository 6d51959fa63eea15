-- What was done while the pieces of an answer were gathered, one after the other.
use Rattle.std.proofs.Common.{◌≡◌, ◌≢◌, ℕ, ◌+◌, ◌<◌, List, [], ◌∷◌, ◌++◌, length, Bool, true, false, Option, None, Result, Ok, Err, refl, sym, ap, subst, ◌∙◌, inl, inr, append_assoc}
use Rattle.std.specs.Prelude.{OnOk}
use Rattle.std.proofs.lemmas.List.{append-nil}
use Rattle.std.proofs.lemmas.Result.{on_ok_weaker}
use Rattle.ficus_disk.specs.declared.disk.Disk.{Ghosts as Disk}
use Rattle.ficus_disk.specs.declared.pair.Pair.{Pair}
use Rattle.ficus_ids.specs.declared.refusal.Refusal.{Refusal}
use Rattle.ficus_ids.specs.declared.refusal.Refusal.TheVariants as refusal
use Rattle.ficus_keeper.specs.Pairs.{PairSame}
use Rattle.ficus_keeper.specs.declared.keep.Keep.{Ghosts as Keep}
use Rattle.ficus_mailbox.specs.declared.mailbox.Mailbox.{Ghosts as Mailbox}
use Rattle.ficus_note.specs.Calls.{IsReady}
use Rattle.ficus_opening.specs.declared.member.Member.{Member}
use Rattle.ficus_runs.proofs.Numbers.{number_once}
use Rattle.ficus_script.specs.declared.answer.Answer.{Answer}
use Rattle.ficus_wire.specs.Message.{piece_of}
use Rattle.ficus_wire.specs.Parts.{HasPart, HeldParts}
use Rattle.ficus_wire.specs.declared.message.PieceHead.{PieceHead}
use Rattle.ficus_world.specs.Disks.{IsBacked}
use Rattle.ficus_world.specs.Hearing.{Awaits}
use Rattle.ficus_world.specs.Machines.Part.{Gives}
use Rattle.ficus_world.specs.Machines.Together.{Told}
use Rattle.ficus_world.specs.Moves.{parts_held}
use Rattle.ficus_world.specs.World.{Whole}
use Rattle.ficus_machine.specs.Answers.{GaveFirst, GaveUpTo, Hinders, HindersOne, OnlyHolds, SpellsPiece, answered, sibling}
use Rattle.ficus_machine.specs.Answers.GaveFirst.{GaveNone, GaveOneMore}
use Rattle.ficus_machine.specs.Answers.Hinders.{IsCutShort, IsIncomplete}
use Rattle.ficus_machine.specs.Answers.HindersOne.{IsMissing, IsRefused as HindersRefused, IsUnheard as HindersUnheard, IsUnread}
use Rattle.ficus_machine.specs.Came.{CameIn, IsSealedFor}
use Rattle.ficus_machine.specs.Gathering.{Gathers, GivesAt, GivesOne, HoldsFirst, IsFirstHere, KeepsPiece}
use Rattle.ficus_machine.specs.Line.{GoesOn, told_of}
use Rattle.ficus_machine.specs.Machine.{KeepsMachine, MachineState}
use Rattle.ficus_machine.specs.Moments.{IsOpenIn, LivesTo}
use Rattle.ficus_machine.specs.declared.fault.Halt.{Halt}
use Rattle.ficus_machine.specs.declared.fault.Halt.TheVariants as halt
use Rattle.ficus_machine.proofs.Given.{only_same, only_then}
use Rattle.ficus_machine.proofs.Going.{came_still, goes_idle, goes_then, grows_none}
use Rattle.ficus_machine.proofs.Lived.{lives_same, lives_then, lives_where}
use Rattle.ficus_machine.proofs.Slots.{rose_behind, rose_none, same_behind}

-- a piece is given behind others, and answered so
gave_up : {me members index : ℕ} {head : PieceHead} {told then : List Told} {result : Result Answer Refusal}
    → index < head.pieces → GaveFirst me members head index told → GivesOne me members head index result then
    → GaveUpTo me members head result (told ++ then)
gave_up {index = index} {told = told} below gave one = record {
  index = index;
  within = below;
  before = told;
  first = gave;
  number = one.number;
  spelled = one.spelled;
  spells = one.spells;
  is = ap (λ (list : List Told). told ++ list) one.is;
}

-- one more piece is given
gave_more : {me members index : ℕ} {head : PieceHead} {told then : List Told} → GaveFirst me members head index told
    → KeepsPiece me members head index then → GaveFirst me members head (index + 1) (told ++ then)
gave_more {me} {members} {index} {head} {told} {then} gave kept =
    subst (λ (list : List Told). GaveFirst me members head (index + 1) (told ++ list)) (sym kept.is)
    (GaveOneMore kept.number kept.spelled kept.answer gave kept.spells kept.partly)

-- what was given before the piece where more was given before the first of these
first_behind : {me members index here : ℕ} {head : PieceHead} {told more : List Told}
    → GaveFirst me members head index told → IsFirstHere index here more
    → GaveFirst me members head here (told ++ more)
first_behind {me} {members} {index} {here} {head} {told} {more} gave is =
    subst (λ (list : List Told). GaveFirst me members head here (told ++ list)) (sym is.1)
    (subst (λ (list : List Told). GaveFirst me members head here list) (sym (append-nil told))
    (subst (λ n. GaveFirst me members head n told) (sym is.0) gave))

-- no piece of it is held before the first
first_none : (me : ℕ) (world : Whole) (head : PieceHead) → Awaits world me (answered head) → HoldsFirst world me head 0
first_none me world head awaits member other at has =
    let same : awaits.member ≡ member = number_once awaits.is at in
    let none : member.parts ≡ None = sym (ap (λ (m : Member). m.parts) same) ∙ awaits.none_held in
    let held : HasPart (parts_held None head) other =
    subst (λ (parts : Option HeldParts). HasPart (parts_held parts head) other) none has in
    absurd (cc held)

module _ {M : Type 0} {mailbox : Mailbox M} {disks_tell : Type 0} {me : ℕ} {tag : List ℕ} {head : PieceHead} where
  -- what hinders a piece hinders it behind others
  hinders_behind : {index : ℕ} {told : List Told} {old middle : Whole} {was there now : M} {r : Refusal}
      → GoesOn mailbox disks_tell me tag told old middle was there
      → GaveFirst me (length old.members) head index told
      → HindersOne mailbox disks_tell me tag head (IsFirstHere index) middle there now r
      → HindersOne mailbox disks_tell me tag head (GaveFirst me (length old.members) head) old was now r
  hinders_behind goes gave (IsMissing {index = index} {found = found} before after below given none) =
      IsMissing {found = found} before after below given
      (subst (λ n. (bytes : List ℕ) → IsSealedFor tag n me found (piece_of (sibling head index) bytes) → ⊥) goes.count
      none)
  hinders_behind goes gave (IsUnread before after failed) = IsUnread before after failed
  hinders_behind {told = told} goes gave
      (HindersUnheard {index = here} {spelled = spelled} {told = more} below spells is further none other) =
      HindersUnheard {index = here} {told = told ++ more} below
      (subst (λ n. SpellsPiece n (sibling head here) spelled) goes.count spells) (first_behind gave is)
      (goes_then goes further) none other
  hinders_behind {told = told} {old = old} {was = was} goes gave
      (HindersRefused {index = here} number {spelled = spelled} {middle = last} {told = more} {r = r} {there = there}
      below spells is further other) =
      HindersRefused {index = here} number {told = told ++ more} below
      (subst (λ n. SpellsPiece n (sibling head here) spelled) goes.count spells) (first_behind gave is)
      (subst (λ (list : List Told). GoesOn mailbox disks_tell me tag list old last was there)
      (sym (append_assoc told more (told_of me (Gives number spelled) (Err r) ∷ []))) (goes_then goes further)) other

-- The first pieces of the answer were given, and are kept. The member holds none behind them, and what is noted is open
-- still.
pub record HasGiven {K D N M : Type 0} (keep : Keep K) (disk : Disk D) (slot : Disk N) (mailbox : Mailbox M)
    (head : PieceHead) (count : ℕ) (old now : MachineState K) (old_disks disks : List (Pair D))
    (slots now_slots : Pair N) (was there : M) : Type 0 where
  pub told : List Told
  pub goes : GoesOn mailbox disk.tells old.me old.tag told old.world.whole now.world.whole was there
  pub gave : GaveFirst old.me (length old.world.whole.members) head count told
  pub holds : OnlyHolds old.me old.world.whole now.world.whole
  pub backed : IsBacked keep disk now.world disks
  pub ready : slot.tells → IsReady slot now.note now_slots
  pub steady : PairSame slot.faults slots now_slots
  pub posted : mailbox.posted there ≡ mailbox.posted was
  pub same : KeepsMachine old now
  pub first : HoldsFirst now.world.whole old.me head count
  pub noted : IsOpenIn now.world.whole old.me now.note.asked
  pub lives : LivesTo keep disk slot (Unit {0}) old now old_disks disks slots now_slots

module _ {K D N M : Type 0} {keep : Keep K} {disk : Disk D} {slot : Disk N} {mailbox : Mailbox M} {head : PieceHead} where
  -- the bytes that came have come in a file still
  pub came_further : {count : ℕ} {old now : MachineState K} {old_disks disks : List (Pair D)}
      {slots now_slots : Pair N} {was there : M} {bytes : List ℕ}
      → HasGiven keep disk slot mailbox head count old now old_disks disks slots now_slots was there
      → (mailbox.tells → CameIn old.tag (length old.world.whole.members) old.me (mailbox.given was) bytes)
      → mailbox.tells → CameIn now.tag (length now.world.whole.members) now.me (mailbox.given there) bytes
  came_further {old = old} {now = now} {there = there} {bytes = bytes} before came tells =
      subst (λ (tag : List ℕ). CameIn tag (length now.world.whole.members) now.me (mailbox.given there) bytes)
      (sym before.same.tag)
      (subst (λ n. CameIn old.tag n now.me (mailbox.given there) bytes) (sym before.goes.count)
      (subst (λ n. CameIn old.tag (length old.world.whole.members) n (mailbox.given there) bytes) (sym before.same.me)
      (came_still (before.goes.given tells) (came tells))))

  -- none is given yet
  pub given_none : {machine : MachineState K} {disks : List (Pair D)} {slots : Pair N} {was : M}
      → IsBacked keep disk machine.world disks → (slot.tells → IsReady slot machine.note slots)
      → Awaits machine.world.whole machine.me (answered head)
      → IsOpenIn machine.world.whole machine.me machine.note.asked
      → HasGiven keep disk slot mailbox head 0 machine machine disks disks slots slots was was
  given_none {machine} {disks} {slots} {was = was} backed ready waits noted = record {
    told = [];
    goes = goes_idle refl (λ tells. grows_none (mailbox.given was)) (λ tells. refl);
    gave = GaveNone;
    holds = only_same machine.me machine.world.whole machine.world.whole refl;
    backed = backed;
    ready = ready;
    steady = record { a = refl; b = refl };
    posted = refl;
    same = record { me = refl; tag = refl };
    first = first_none machine.me machine.world.whole head waits;
    noted = noted;
    lives =
        lives_same keep disk slot (Unit {0}) machine machine disks disks slots slots refl refl refl refl;
  }

  -- as the machine has it that gives the next one
  pub first_here : {count : ℕ} {old now : MachineState K} {old_disks disks : List (Pair D)} {slots now_slots : Pair N}
      {was there : M} → HasGiven keep disk slot mailbox head count old now old_disks disks slots now_slots was there
      → HoldsFirst now.world.whole now.me head count
  first_here {count = count} {now = now} before =
      subst (λ n. HoldsFirst now.world.whole n head count) (sym before.same.me) before.first

  pub noted_here : {count : ℕ} {old now : MachineState K} {old_disks disks : List (Pair D)} {slots now_slots : Pair N}
      {was there : M} → HasGiven keep disk slot mailbox head count old now old_disks disks slots now_slots was there
      → IsOpenIn now.world.whole now.me now.note.asked
  noted_here {now = now} before =
      subst (λ n. IsOpenIn now.world.whole n now.note.asked) (sym before.same.me) before.noted

  module _ {index : ℕ} {old now new : MachineState K} {old_disks now_disks new_disks : List (Pair D)}
      {slots now_slots new_slots : Pair N} {was there after : M} {came_to : Result Bool Halt}
      (before : HasGiven keep disk slot mailbox head index old now old_disks now_disks slots now_slots was there)
      (step : GivesAt keep disk slot mailbox head index came_to now new now_disks new_disks now_slots new_slots there
      after) where
    here : now.me ≡ old.me
    here = before.same.me

    count : length now.world.whole.members ≡ length old.world.whole.members
    count = before.goes.count

    -- what was done for the one is done by the member that did the others
    goes_here : GoesOn mailbox disk.tells old.me old.tag step.told now.world.whole step.middle there after
    goes_here =
        subst (λ n. GoesOn mailbox disk.tells n old.tag step.told now.world.whole step.middle there after) here
        (subst (λ (tag : List ℕ). GoesOn mailbox disk.tells now.me tag step.told now.world.whole step.middle there after)
        before.same.tag step.goes)

    goes : GoesOn mailbox disk.tells old.me old.tag (before.told ++ step.told) old.world.whole step.middle was after
    goes = goes_then before.goes goes_here

    posted : mailbox.posted after ≡ mailbox.posted was
    posted = step.posted ∙ before.posted

    same : KeepsMachine old new
    same = record { me = step.same.me ∙ before.same.me; tag = step.same.tag ∙ before.same.tag }

    holds : came_to ≢ Ok true → came_to ≢ Err (halt.Refused refusal.Store)
        → OnlyHolds old.me old.world.whole new.world.whole
    holds partly stored =
        only_then before.holds
        (subst (λ n. OnlyHolds n now.world.whole new.world.whole) here (step.holds partly stored))

    -- what was given behind the others is of the same members
    gave_here : {wanted : Result Answer Refusal}
        → GivesOne now.me (length now.world.whole.members) head index wanted step.told
        → GivesOne old.me (length old.world.whole.members) head index wanted step.told
    gave_here {wanted} one =
        subst (λ n. GivesOne n (length old.world.whole.members) head index wanted step.told) here
        (subst (λ n. GivesOne now.me n head index wanted step.told) count one)

    -- and so the machine lives
    lives_further : (all : Type 0) → (all → came_to ≡ Err halt.Note → ⊥)
        → LivesTo keep disk slot (came_to ≡ Err halt.Note → ⊥) now new now_disks new_disks now_slots new_slots
        → LivesTo keep disk slot all old new old_disks new_disks slots new_slots
    lives_further all fewer lives =
        lives_where keep disk slot (came_to ≡ Err halt.Note → ⊥) all old new old_disks new_disks slots new_slots fewer
        (lives_then keep disk slot (Unit {0}) (came_to ≡ Err halt.Note → ⊥) old now new old_disks now_disks new_disks
        slots now_slots new_slots tt here before.lives lives)

    pub lives_halted : (h : Halt) → came_to ≡ Err h
        → LivesTo keep disk slot (came_to ≡ Err halt.Note → ⊥) now new now_disks new_disks now_slots new_slots
        → LivesTo keep disk slot (◌≡◌ {A = Result (Unit {0}) Halt} (Err h) (Err halt.Note) → ⊥) old new old_disks
        new_disks slots new_slots
    lives_halted h is =
        lives_further (◌≡◌ {A = Result (Unit {0}) Halt} (Err h) (Err halt.Note) → ⊥)
        (λ never failed. let same : h ≡ halt.Note = cc in never (ap (λ (one : Halt). Err one) same))

    pub lives_taken : (all : Type 0) → came_to ≡ Ok true
        → LivesTo keep disk slot (came_to ≡ Err halt.Note → ⊥) now new now_disks new_disks now_slots new_slots
        → LivesTo keep disk slot all old new old_disks new_disks slots new_slots
    lives_taken all is = lives_further all (λ so failed. cc)

    -- it is kept too
    pub given_more : came_to ≡ Ok false
        → (came_to ≡ Ok false → HoldsFirst new.world.whole now.me head (index + 1))
        → (came_to ≡ Ok false → IsOpenIn new.world.whole now.me new.note.asked)
        → LivesTo keep disk slot (came_to ≡ Err halt.Note → ⊥) now new now_disks new_disks now_slots new_slots
        → HasGiven keep disk slot mailbox head (index + 1) old new old_disks new_disks slots new_slots was after
    given_more is first noted lives =
        let kept = step.kept is in
        record {
          told = before.told ++ step.told;
          goes =
              subst (λ (w : Whole). GoesOn mailbox disk.tells old.me old.tag (before.told ++ step.told) old.world.whole w
              was after) (sym kept.1) goes;
          gave =
              gave_more before.gave
              (subst (λ n. KeepsPiece n (length old.world.whole.members) head index step.told) here
              (subst (λ n. KeepsPiece now.me n head index step.told) count kept.0));
          holds = holds (λ done. cc) (λ stored. cc);
          backed = step.backed;
          ready = λ tells. step.ready tells ((λ noted. cc), (λ wanted. cc));
          steady = same_behind before.steady (step.steady (λ noted. cc));
          posted = posted;
          same = same;
          first = subst (λ n. HoldsFirst new.world.whole n head (index + 1)) here (first is);
          noted = subst (λ n. IsOpenIn new.world.whole n new.note.asked) here (noted is);
          lives = lives_further (Unit {0}) (λ all failed. cc) lives;
        }

    -- with it all is over
    gathers : {disks : List (Pair D)} {result : Result (Unit {0}) Halt} → index < head.pieces
        → OnOk result (came_to ≡ Ok true)
        → ((h : Halt) → result ≡ Err h → came_to ≡ Err h) → ((h : Halt) → came_to ≡ Err h → result ≡ Err h)
        → Gathers keep disk slot mailbox head result old new disks new_disks slots new_slots was after
    gathers {result = result} below fine halts back = record {
      told = before.told ++ step.told;
      middle = step.middle;
      goes = goes;
      is = step.is;
      taken =
          on_ok_weaker result
          (λ (is : came_to ≡ Ok true). gave_up below before.gave (gave_here (step.taken is))) fine;
      store = λ is. gave_up below before.gave (gave_here (step.store (halts _ is)));
      hinders = λ r is other.
          IsCutShort (hinders_behind before.goes before.gave
          (subst (λ n. HindersOne mailbox disk.tells n old.tag head (IsFirstHere index) now.world.whole there after r) here
          (subst (λ (tag : List ℕ). HindersOne mailbox disk.tells now.me tag head (IsFirstHere index) now.world.whole
          there after r) before.same.tag (step.hinders r (halts _ is) other))));
      holds = λ r is other.
          let so : came_to ≡ Err (halt.Refused r) = halts _ is in
          holds (λ done. absurd (cc)) (λ stored. let store : r ≡ refusal.Store = cc in other store);
      backed = step.backed;
      ready = λ tells neither. step.ready tells ((λ noted. neither.0 (back _ noted)), (λ wanted. neither.1 (back _ wanted)));
      failed = λ is.
          elim (step.failed (halts _ is)) [
            | inl rose ↦ inl (rose_behind before.steady rose)
            | inr full ↦ inr full
          ];
      steady = λ never. same_behind before.steady (step.steady (λ noted. never (back _ noted)));
      risen = rose_behind before.steady step.risen;
      posted = posted;
      same = same;
    }

    pub gathers_taken : {disks : List (Pair D)} → index < head.pieces → came_to ≡ Ok true
        → Gathers keep disk slot mailbox head (Ok tt) old new disks new_disks slots new_slots was after
    gathers_taken below is = gathers {result = Ok tt} below is (λ h never. absurd (cc)) (λ h never. absurd (cc))

    pub gathers_halted : {disks : List (Pair D)} (h : Halt) → index < head.pieces → came_to ≡ Err h
        → Gathers keep disk slot mailbox head (Err h) old new disks new_disks slots new_slots was after
    gathers_halted h below is = gathers {result = Err h} below tt (λ other same. cc) (λ other same. cc)

  -- all were given
  pub gathers_none : {count : ℕ} {old now : MachineState K} {disks now_disks : List (Pair D)} {slots now_slots : Pair N}
      {was there : M} → HasGiven keep disk slot mailbox head count old now disks now_disks slots now_slots was there
      → count ≡ head.pieces
      → Gathers keep disk slot mailbox head (Err (halt.Refused refusal.Missing)) old now disks now_disks slots now_slots
      was there
  gathers_none {old = old} {now = now} {was = was} {there = there} all whole = record {
    told = all.told;
    middle = now.world.whole;
    goes = all.goes;
    is = refl;
    taken = tt;
    store = λ is. absurd (cc);
    hinders = λ r is other.
        let same : refusal.Missing ≡ r = cc in
        subst (λ (one : Refusal). Hinders mailbox disk.tells old.me old.tag head old.world.whole was there one) same
        (IsIncomplete all.goes
        (subst (λ n. GaveFirst old.me (length old.world.whole.members) head n all.told) whole all.gave) all.holds);
    holds = λ r is other. all.holds;
    backed = all.backed;
    ready = λ tells neither. all.ready tells;
    failed = λ is. absurd (cc);
    steady = λ never. all.steady;
    risen = rose_none all.steady;
    posted = all.posted;
    same = all.same;
  }

  pub lives_none : {count : ℕ} {old now : MachineState K} {disks now_disks : List (Pair D)} {slots now_slots : Pair N}
      {was there : M} (all : Type 0)
      → HasGiven keep disk slot mailbox head count old now disks now_disks slots now_slots was there
      → LivesTo keep disk slot all old now disks now_disks slots now_slots
  lives_none {old = old} {now = now} {disks = disks} {now_disks = now_disks} {slots = slots} {now_slots = now_slots} all
      before =
      lives_where keep disk slot (Unit {0}) all old now disks now_disks slots now_slots (λ so. tt) before.lives
