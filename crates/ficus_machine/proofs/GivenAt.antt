-- What was done to give one piece of an answer.
use Rattle.std.proofs.Common.{◌≡◌, ◌≢◌, ℕ, ◌<◌, List, [], ◌∷◌, length, Bool, true, false, Vec, Result, Ok, Err, refl, sym, ap, subst, ◌∙◌, inl, inr}
use Rattle.std.specs.Prelude.{IsErrOf}
use Rattle.std.specs.declared.alloc.Global.{Global}
use Rattle.std.proofs.lemmas.List.Elements.{All-cons, All-nil}
use Rattle.std.proofs.lemmas.Result.{IfOk-at_ok}
use Rattle.ficus_disk.specs.declared.disk.Disk.{Ghosts as Disk}
use Rattle.ficus_disk.specs.declared.pair.Pair.{Pair}
use Rattle.ficus_ids.specs.declared.refusal.Refusal.{Refusal}
use Rattle.ficus_ids.specs.declared.refusal.Refusal.TheVariants as refusal
use Rattle.ficus_keeper.specs.Pairs.{PairSame}
use Rattle.ficus_keeper.specs.declared.keep.Keep.{Ghosts as Keep}
use Rattle.ficus_mailbox.specs.declared.mailbox.Mailbox.{Ghosts as Mailbox}
use Rattle.ficus_note.specs.Calls.{IsReady}
use Rattle.ficus_note.specs.declared.note.Note.{Note}
use Rattle.ficus_script.specs.declared.answer.Answer.{Answer}
use Rattle.ficus_script.specs.declared.answer.Answer.TheVariants.{Done}
use Rattle.ficus_wire.specs.declared.message.PieceHead.{PieceHead}
use Rattle.ficus_world.specs.Disks.{IsBacked}
use Rattle.ficus_world.specs.Machines.Acting.{ActsAlone}
use Rattle.ficus_world.specs.Machines.Part.{Gives}
use Rattle.ficus_world.specs.Machines.Together.{Told}
use Rattle.ficus_world.specs.Moves.{with_post}
use Rattle.ficus_world.specs.Post.{Outbox}
use Rattle.ficus_world.specs.World.{Backed, Whole}
use Rattle.ficus_machine.specs.Answers.{HindersOne, OnlyHolds, SpellsPiece, sibling}
use Rattle.ficus_machine.specs.Answers.HindersOne.{IsMissing, IsRefused as HindersRefused, IsUnheard as HindersUnheard, IsUnread}
use Rattle.ficus_machine.specs.Came.{CameIn}
use Rattle.ficus_machine.specs.Gathering.{ClearsNote, FindsPiece, Giving, GivesAt, GivesOne, IsFirstHere, KeepsPiece}
use Rattle.ficus_machine.specs.Gathering.Giving.{IsKept, IsRefused, IsTaken, IsUnheard, WantsMemory}
use Rattle.ficus_machine.specs.Halts.{halt_of}
use Rattle.ficus_machine.specs.Line.{GoesOn, Grows, told_of}
use Rattle.ficus_machine.specs.Machine.{KeepsRest, MachineState}
use Rattle.ficus_machine.specs.declared.fault.Halt.{Halt}
use Rattle.ficus_machine.specs.declared.fault.Halt.TheVariants as halt
use Rattle.ficus_machine.specs.declared.fault.LineFault.{LineFault}
use Rattle.ficus_machine.specs.declared.fault.LineFault.TheVariants as line
use Rattle.ficus_machine.proofs.Given.{only_same}
use Rattle.ficus_machine.proofs.Giving.{unheard_unstored}
use Rattle.ficus_machine.proofs.Going.{goes_acts, goes_idle, goes_then}
use Rattle.ficus_machine.proofs.Slots.{rose_none}

-- the world has come to this, whatever the machine's note and disks have
record GaveOne {M : Type 0} (mailbox : Mailbox M) (disks_tell : Type 0) (me : ℕ) (tag : List ℕ) (head : PieceHead)
    (index : ℕ) (result : Result Bool Halt) (old after : Whole) (was there : M) : Type 0 where
  told : List Told
  middle : Whole
  goes : GoesOn mailbox disks_tell me tag told old middle was there
  is : after ≡ with_post middle after.post
  taken : result ≡ Ok true → GivesOne me (length old.members) head index (Ok Done) told
  kept : result ≡ Ok false → KeepsPiece me (length old.members) head index told × (after ≡ middle)
  store : IsErrOf result (halt.Refused refusal.Store)
      → GivesOne me (length old.members) head index (Err refusal.Store) told
  hinders : (r : Refusal) → IsErrOf result (halt.Refused r) → r ≢ refusal.Store
      → HindersOne mailbox disks_tell me tag head (IsFirstHere index) old was there r
  holds : result ≢ Ok true → result ≢ Err (halt.Refused refusal.Store) → OnlyHolds me old after
  no_note : result ≡ Err halt.Note → ⊥

-- it was given alone
gives_alone : {members : ℕ} {head : PieceHead} {index : ℕ} (me number : ℕ) (spelled : List ℕ)
    {result wanted : Result Answer Refusal} → SpellsPiece members (sibling head index) spelled → result ≡ wanted
    → GivesOne me members head index wanted (told_of me (Gives number spelled) result ∷ [])
gives_alone me number spelled spells is = record {
  number = number;
  spelled = spelled;
  spells = spells;
  is = ap (λ (one : Result Answer Refusal). told_of me (Gives number spelled) one ∷ []) is;
}

-- that a note isn't saved is no refusal
abbrev Halted : LineFault → Halt → Type 0
Halted fault h = ◌≡◌ {A = Result Bool Halt} (Err (halt_of fault)) (Err h)

halted_unrefused : (fault : LineFault) (r : Refusal) → Halted fault (halt.Refused r) → ⊥
halted_unrefused line.Memory r same = cc
halted_unrefused line.Note r same = cc

halted_either : (fault : LineFault) → (Halted fault halt.Note → ⊥) → (Halted fault halt.Memory → ⊥) → ⊥
halted_either line.Memory noted wanted = wanted refl
halted_either line.Note noted wanted = noted refl

halted_note : (fault : LineFault) → Halted fault halt.Note → fault ≡ line.Note
halted_note line.Memory same = absurd (cc)
halted_note line.Note same = refl

halted_memory : (fault : LineFault) → (Halted fault halt.Note → ⊥) → fault ≡ line.Memory
halted_memory line.Memory never = refl
halted_memory line.Note never = absurd (never refl)

module _ {M : Type 0} (mailbox : Mailbox M) (disks_tell : Type 0) (me : ℕ) (tag : List ℕ) (head : PieceHead) (index : ℕ)
    (old : Whole) (was there : M) (spelled : List ℕ) (below : index < head.pieces)
    (spells : SpellsPiece (length old.members) (sibling head index) spelled)
    (given : mailbox.tells → Grows (mailbox.given was) (mailbox.given there))
    (posted : mailbox.posted there ≡ mailbox.posted was)
    (came : mailbox.tells → CameIn tag (length old.members) me (mailbox.given there) spelled) where
  abbrev Gave : Result Bool Halt → Whole → Type 0
  Gave result after = GaveOne mailbox disks_tell me tag head index result old after was there

  idle : GoesOn mailbox disks_tell me tag [] old old was there
  idle = goes_idle refl given (λ tells. posted)

  acted : {number : ℕ} {answer : Answer} {after : Whole}
      → (acts : ActsAlone (Unit {0}) disks_tell me (spelled ∷ []) (Gives number spelled) answer old after)
      → length after.members ≡ length old.members
      → GoesOn mailbox disks_tell me tag (told_of me (Gives number spelled) acts.result ∷ []) old after was there
  acted acts count =
      goes_then idle
      (goes_acts acts count (λ tells. All-cons (CameIn tag (length old.members) me (mailbox.given there)) spelled []
      (came tells) (All-nil (CameIn tag (length old.members) me (mailbox.given there)))))

  -- nothing was given
  ungiven : (post : Outbox) (h : Halt)
      → ((r : Refusal) → h ≡ halt.Refused r
      → HindersOne mailbox disks_tell me tag head (IsFirstHere index) old was there r)
      → h ≢ halt.Refused refusal.Store → h ≢ halt.Note → Gave (Err h) (with_post old post)
  ungiven post h hinders unstored unnoted = record {
    told = [];
    middle = old;
    goes = idle;
    is = refl;
    taken = λ is. absurd (cc);
    kept = λ is. absurd (cc);
    store = λ is. let same : h ≡ halt.Refused refusal.Store = cc in absurd (unstored same);
    hinders = λ r is other. let same : h ≡ halt.Refused r = cc in hinders r same;
    holds = λ partly stored. only_same me old (with_post old post) refl;
    no_note = λ is. let same : h ≡ halt.Note = cc in unnoted same;
  }

  gave_one : {result : Result Bool Halt} {after : Whole} → Giving disks_tell me spelled old result after
      → length after.members ≡ length old.members → Gave result after
  gave_one (IsUnheard {post = post} {r = r} none other) count =
      ungiven post (halt.Refused r)
      (λ q is.
      let same : r ≡ q = cc in
      subst (λ (one : Refusal). HindersOne mailbox disks_tell me tag head (IsFirstHere index) old was there one) same
      (HindersUnheard {index = index} {told = []} below spells (refl, refl) idle none other))
      (λ is. let same : r ≡ refusal.Store = cc in unheard_unstored none same) (λ is. cc)
  gave_one (WantsMemory {post = post}) count = ungiven post halt.Memory (λ q is. absurd (cc)) (λ is. cc) (λ is. cc)
  gave_one (IsTaken {number = number} {after = after} acts done) count = record {
    told = told_of me (Gives number spelled) acts.result ∷ [];
    middle = after;
    goes = acted acts count;
    is = refl;
    taken = λ is. gives_alone me number spelled spells done;
    kept = λ is. absurd (cc);
    store = λ is. absurd (cc);
    hinders = λ r is other. absurd (cc);
    holds = λ partly stored. absurd (partly refl);
    no_note = λ is. cc;
  }
  gave_one (IsKept {number = number} {answer = answer} {after = after} acts is partly only) count = record {
    told = told_of me (Gives number spelled) acts.result ∷ [];
    middle = after;
    goes = acted acts count;
    is = refl;
    taken = λ same. absurd (cc);
    kept = λ same. (
      record {
        number = number;
        spelled = spelled;
        answer = answer;
        spells = spells;
        partly = partly;
        is = ap (λ (one : Result Answer Refusal). told_of me (Gives number spelled) one ∷ []) is;
      },
      refl,
    );
    store = λ same. absurd (cc);
    hinders = λ r same other. absurd (cc);
    holds = λ partly stored. only;
    no_note = λ same. cc;
  }
  gave_one (IsRefused {number = number} {after = after} {r = r} acts is only) count = record {
    told = told_of me (Gives number spelled) acts.result ∷ [];
    middle = after;
    goes = acted acts count;
    is = refl;
    taken = λ same. absurd (cc);
    kept = λ same. absurd (cc);
    store = λ same.
        let so : r ≡ refusal.Store = cc in
        gives_alone me number spelled spells (is ∙ ap (λ (one : Refusal). Err one) so);
    hinders = λ q same other.
        let so : r ≡ q = cc in
        HindersRefused {index = index} number {told = []} below spells (refl, refl)
        (subst (λ (one : Result Answer Refusal).
        GoesOn mailbox disks_tell me tag (told_of me (Gives number spelled) one ∷ []) old after was there)
        (is ∙ ap (λ (one : Refusal). Err one) so) (acted acts count)) other;
    holds = λ partly stored. only (λ so. stored (ap (λ (one : Refusal). Err (halt.Refused one)) so));
    no_note = λ same. cc;
  }

module _ {K D N M : Type 0} {keep : Keep K} {disk : Disk D} {slot : Disk N} {mailbox : Mailbox M} {head : PieceHead}
    {index : ℕ} where
  -- the piece isn't found
  pub at_unfound : {machine : MachineState K} {disks : List (Pair D)} {slots : Pair N} {was there : M}
      {found : Result (Vec ℕ Global) Halt} (h : Halt) → found ≡ Err h → index < head.pieces
      → FindsPiece mailbox machine head index found was there → IsBacked keep disk machine.world disks
      → (slot.tells → IsReady slot machine.note slots)
      → GivesAt keep disk slot mailbox head index (Err h) machine machine disks disks slots slots was there
  at_unfound {machine} {disks} {slots} {was} {there} {found} h is below finds backed ready = record {
    told = [];
    middle = machine.world.whole;
    goes = goes_idle refl finds.given (λ tells. finds.posted);
    is = refl;
    taken = λ same. absurd (cc);
    kept = λ same. absurd (cc);
    store = λ same. absurd (unstored (why _ same));
    hinders = λ r same other. hindered r (why _ same);
    holds = λ partly stored. only_same machine.me machine.world.whole machine.world.whole refl;
    backed = backed;
    ready = λ tells neither. ready tells;
    failed = λ same. absurd (finds.no_note (why _ same));
    steady = λ never. record { a = refl; b = refl };
    risen = rose_none (record { a = refl; b = refl });
    posted = finds.posted;
    same = record { me = refl; tag = refl };
  } where
    why : (other : Halt) → ◌≡◌ {A = Result Bool Halt} (Err h) (Err other) → found ≡ Err other
    why other same = cc

    hindered : (r : Refusal) → found ≡ Err (halt.Refused r)
        → HindersOne mailbox disk.tells machine.me machine.tag head (IsFirstHere index) machine.world.whole was
        there r
    hindered r so =
        elim (finds.one r so) [
          | inl missing ↦
              let at : found ≡ Err (halt.Refused refusal.Missing) = cc in
              let lacks = finds.missing at in
              subst
              (λ (one : Refusal). HindersOne mailbox disk.tells machine.me machine.tag head (IsFirstHere index)
              machine.world.whole was there one) (sym missing)
              (IsMissing {found = lacks.0} was there below lacks.1 lacks.2)
          | inr link ↦
              let at : found ≡ Err (halt.Refused refusal.Link) = cc in
              subst
              (λ (one : Refusal). HindersOne mailbox disk.tells machine.me machine.tag head (IsFirstHere index)
              machine.world.whole was there one) (sym link) (IsUnread was there (finds.failed at))
        ]

    unstored : found ≡ Err (halt.Refused refusal.Store) → ⊥
    unstored so =
        elim (finds.one refusal.Store so) [
          | inl missing ↦ cc
          | inr link ↦ cc
        ]

  module _ {old middle : MachineState K} {disks : List (Pair D)} {slots mid_slots : Pair N} {was there : M} where
    -- it is found, but the note isn't saved
    pub at_uncleared : {A : Type 0} {cleared : Result A LineFault} (fault : LineFault) → cleared ≡ Err fault
        → ClearsNote slot head index cleared old middle slots mid_slots
        → (mailbox.tells → Grows (mailbox.given was) (mailbox.given there))
        → mailbox.posted there ≡ mailbox.posted was → IsBacked keep disk old.world disks
        → GivesAt keep disk slot mailbox head index (Err (halt_of fault)) old middle disks disks slots mid_slots was
        there
    at_uncleared {cleared = cleared} fault is clears given posted backed = record {
      told = [];
      middle = old.world.whole;
      goes = goes_idle refl given (λ tells. posted);
      is = subst (λ (w : Backed K). w.whole ≡ with_post old.world.whole w.whole.post) (sym clears.world) refl;
      taken = λ same. absurd (cc);
      kept = λ same. absurd (cc);
      store = λ same. absurd (halted_unrefused fault _ same);
      hinders = λ r same other. absurd (halted_unrefused fault r same);
      holds = λ partly stored.
          only_same old.me old.world.whole middle.world.whole (ap (λ (w : Backed K). w.whole.members) clears.world);
      backed = subst (λ (w : Backed K). IsBacked keep disk w disks) (sym clears.world) backed;
      ready = λ tells neither. absurd (halted_either fault neither.0 neither.1);
      failed = λ same.
          let noted = halted_note fault same in
          let at : cleared ≡ Err line.Note = cc in clears.asks.failed at;
      steady = λ never.
          let wanted = halted_memory fault never in
          let at : cleared ≡ Err line.Memory = cc in clears.asks.spared at;
      risen = clears.asks.risen;
      posted = posted;
      same = clears.same;
    }

    -- it is found, and given to the world
    pub at_given : {A : Type 0} {cleared : Result A LineFault} (value : A) {spelled : List ℕ} {new : MachineState K}
        {new_disks : List (Pair D)} {result : Result Bool Halt} → cleared ≡ Ok value → index < head.pieces
        → ClearsNote slot head index cleared old middle slots mid_slots
        → SpellsPiece (length old.world.whole.members) (sibling head index) spelled
        → (mailbox.tells → CameIn old.tag (length old.world.whole.members) old.me (mailbox.given there) spelled)
        → (mailbox.tells → Grows (mailbox.given was) (mailbox.given there))
        → mailbox.posted there ≡ mailbox.posted was
        → Giving disk.tells middle.me spelled middle.world.whole result new.world.whole
        → length new.world.whole.members ≡ length middle.world.whole.members
        → IsBacked keep disk new.world new_disks → KeepsRest middle new
        → GivesAt keep disk slot mailbox head index result old new disks new_disks slots mid_slots was there
    at_given {A} {cleared} value {spelled} {new} {new_disks} {result} is below clears spells came given posted giving count
        backed rest = record {
          told = one.told;
          middle = one.middle;
          goes = one.goes;
          is = one.is;
          taken = one.taken;
          kept = one.kept;
          store = one.store;
          hinders = one.hinders;
          holds = one.holds;
          backed = backed;
          ready = λ tells neither.
              subst (λ (note : Note). IsReady slot note mid_slots) (sym rest.note)
              (IfOk-at_ok (λ (a : A). IsReady slot middle.note mid_slots) is (clears.ready tells));
          failed = λ noted. absurd (one.no_note noted);
          steady = λ never. IfOk-at_ok (λ (a : A). PairSame slot.faults slots mid_slots) is clears.asks.steady;
          risen = clears.asks.risen;
          posted = posted;
          same = record { me = rest.me ∙ clears.same.me; tag = rest.tag ∙ clears.same.tag };
        } where
          there_too : Giving disk.tells old.me spelled old.world.whole result new.world.whole
          there_too =
              subst (λ (w : Backed K). Giving disk.tells old.me spelled w.whole result new.world.whole) clears.world
              (subst (λ n. Giving disk.tells n spelled middle.world.whole result new.world.whole) clears.same.me giving)

          one : GaveOne mailbox disk.tells old.me old.tag head index result old.world.whole new.world.whole was there
          one =
              gave_one mailbox disk.tells old.me old.tag head index old.world.whole was there spelled below spells given posted
              came there_too
              (count ∙ ap (λ (w : Backed K). length w.whole.members) clears.world)
