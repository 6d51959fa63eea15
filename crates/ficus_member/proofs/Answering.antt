-- Lines are answered one after the other.
use Rattle.std.proofs.Common.{◌≡◌, ◌⊎◌, ℕ, ◌+◌, ◌<◌, List, [], ◌∷◌, ◌++◌, Option, Result, Ok, Err, suc, length, get_or, take, drop, inl, inr, refl, sym, ap, subst, ◌∙◌, append_assoc, drop-cons}
use Rattle.std.proofs.lemmas.Grind.{flat_map-append}
use Rattle.std.proofs.lemmas.List.{append-nil, take-append-drop, take_more}
use Rattle.std.proofs.lemmas.Result.{on_ok_weaker}
use Rattle.std.specs.Prelude.{IsErr, IsErrOf}
use Rattle.ficus_disk.specs.Pair.{PairRose}
use Rattle.ficus_disk.specs.declared.disk.Disk.{Ghosts as Disk}
use Rattle.ficus_disk.specs.declared.pair.Pair.{Pair}
use Rattle.ficus_keeper.specs.Pairs.{PairSame}
use Rattle.ficus_keeper.specs.declared.keep.Keep.{Ghosts as Keep}
use Rattle.ficus_loop.specs.Puts.{PutsFront}
use Rattle.ficus_loop.specs.declared.fault.AnsweringFault.{AnsweringFault}
use Rattle.ficus_loop.specs.declared.fault.AnsweringFault.TheVariants.{Memory, Sink as SinkFault}
use Rattle.ficus_machine.specs.Answers.{LineAnswers}
use Rattle.ficus_machine.specs.Line.{Goes, GoesSomehow}
use Rattle.ficus_machine.specs.Moments.{Lives, LivesTo, Moment, moment_of}
use Rattle.ficus_machine.specs.Moments.Lives.{Notes, Then}
use Rattle.ficus_machine.specs.Moments.Noting.{Rests}
use Rattle.ficus_machine.specs.Noting.{IsFull}
use Rattle.ficus_machine.specs.declared.fault.LineFault.{LineFault}
use Rattle.ficus_machine.specs.declared.fault.LineFault.TheVariants.{Note as LineNote}
use Rattle.ficus_machine.specs.Machine.{IsAtRest, KeepsMachine, MachineState}
use Rattle.ficus_machine.proofs.Going.{goes_idle, goes_then, grows_none}
use Rattle.ficus_mailbox.specs.declared.mailbox.Mailbox.{Ghosts as Mailbox}
use Rattle.ficus_member_script.specs.MemberAnswer.{member_answer_text_of}
use Rattle.ficus_member_script.specs.declared.member_answer.MemberAnswer.{MemberAnswer}
use Rattle.ficus_member_script.specs.declared.member_line.MemberLine.{MemberLine}
use Rattle.ficus_note.specs.declared.asked.Asked.{Asked as Noted}
use Rattle.ficus_opening.specs.declared.fault.WorldFault.{WorldFault}
use Rattle.ficus_opening.specs.declared.fault.WorldFault.TheVariants.{Memory as NoMemory, Store}
use Rattle.ficus_opening.proofs.Faults.{same_err, same_store}
use Rattle.ficus_opening.proofs.Steadies.{rose_from}
use Rattle.ficus_outside.specs.declared.sink.Sink.{Ghosts as Sink}
use Rattle.ficus_top.specs.declared.fault.Fault.{Fault}
use Rattle.ficus_top.specs.declared.fault.Fault.TheVariants.{Answering, Reading, Storing, Words}
use Rattle.ficus_world.specs.Disks.{IsBacked}
use Rattle.ficus_world.specs.World.{Whole}
use Rattle.ficus_member.specs.Answered.{Answered, AnswersAll, AnswersLine, AnswersSome, BreaksOff, CarriesOutLine, EndsLine, PutsAnswer, TellsOfNote}
use Rattle.ficus_member.specs.Answered.Answered.{None, One}
use Rattle.ficus_member.specs.Answered.BreaksOff.{Unanswered, Unput, Untold}
use Rattle.ficus_member.specs.Lines.{texts_of}

-- the fault of the disks that a fault tells of
abbrev stored : Fault → WorldFault
stored (Words fault) = NoMemory
stored (Reading fault) = NoMemory
stored (Storing fault) = fault
stored (Answering fault) = NoMemory

store_number : {A : Type 0} (one two : ℕ) → IsErrOf {T = A} (Err (Storing (Store one))) (Storing (Store two))
    → one ≡ two
store_number one two is = same_store one two (ap stored (same_err (Storing (Store one)) (Storing (Store two)) is))

-- a fault is the same, whatever would have been given
pub fault_as : {A B : Type 0} (one two : Fault) → IsErrOf {T = A} (Err one) two → IsErrOf {T = B} (Err one) two
fault_as one two is = ap (λ (f : Fault). Err f) (same_err one two is)

module _ {K : Type 0} where
  pub kept_none : (machine : MachineState K) → KeepsMachine machine machine
  kept_none machine = record { me = refl; tag = refl }

  pub kept_then : {old middle new : MachineState K} → KeepsMachine old middle → KeepsMachine middle new
      → KeepsMachine old new
  kept_then first second = record { me = second.me ∙ first.me; tag = second.tag ∙ first.tag }

pub somehow_none : {M : Type 0} {mailbox : Mailbox M} {disks_tell : Type 0} (me : ℕ) (tag : List ℕ) (world : Whole)
    (there : M) → GoesSomehow mailbox disks_tell me tag world world there there
somehow_none {mailbox = mailbox} me tag world there =
    record { told = []; goes = goes_idle refl (λ tells. grows_none (mailbox.given there)) (λ tells. refl) }

module _ {K M : Type 0} {mailbox : Mailbox M} {disks_tell : Type 0} where
  -- what a machine does goes on from what one with the same member and tag did
  pub somehow_then : {old middle : MachineState K} {one two three : Whole} {was there now : M}
      → KeepsMachine old middle → GoesSomehow mailbox disks_tell old.me old.tag one two was there
      → GoesSomehow mailbox disks_tell middle.me middle.tag two three there now
      → GoesSomehow mailbox disks_tell old.me old.tag one three was now
  somehow_then {old} {middle} {one} {two} {three} {was} {there} {now} kept first second =
      let own : GoesSomehow mailbox disks_tell old.me old.tag two three there now =
      subst (λ (me : ℕ). GoesSomehow mailbox disks_tell me old.tag two three there now) kept.me
      (subst (λ (tag : List ℕ). GoesSomehow mailbox disks_tell middle.me tag two three there now) kept.tag second) in
      record { told = first.told ++ own.told; goes = goes_then first.goes own.goes }

  -- one line more is answered
  pub answered_more : {lines : List MemberLine} {answers : List MemberAnswer} {old middle new : MachineState K}
      {was there now : M} {line : MemberLine} {answer : MemberAnswer}
      → Answered mailbox disks_tell lines answers old middle was there
      → AnswersLine mailbox disks_tell line answer middle new there now
      → Answered mailbox disks_tell (lines ++ line ∷ []) (answers ++ answer ∷ []) old new was now
  answered_more None last = One last None
  answered_more (One first behind) last = One first (answered_more behind last)

-- the texts of some answers and of one more
pub texts_more : (was : List ℕ) (answers : List MemberAnswer) (answer : MemberAnswer)
    → (was ++ texts_of answers) ++ member_answer_text_of answer ≡ was ++ texts_of (answers ++ answer ∷ [])
texts_more was answers answer =
    let text = member_answer_text_of answer in
    let more : texts_of answers ++ text ≡ texts_of (answers ++ answer ∷ []) =
    ap (λ (texts : List ℕ). texts_of answers ++ texts) (sym (append-nil text))
    ∙ sym (flat_map-append member_answer_text_of answers (answer ∷ [])) in
    append_assoc was (texts_of answers) text ∙ ap (λ (texts : List ℕ). was ++ texts) more

module _ {K D N : Type 0} {keep : Keep K} {disk : Disk D} {slot : Disk N} where
  -- nothing becomes of a machine
  pub lives_none : (me : ℕ) (moment : Moment D N) → Lives keep disk slot me moment moment
  lives_none me moment = Notes Rests

  -- what becomes of it then, comes behind
  pub lives_behind : {old middle new : MachineState K} {disks mid new_disks : List (Pair D)}
      {slots between new_slots : Pair N} {all_noted : Type 0} → KeepsMachine old middle
      → Lives keep disk slot old.me (moment_of old disks slots) (moment_of middle mid between)
      → LivesTo keep disk slot all_noted middle new mid new_disks between new_slots
      → LivesTo keep disk slot all_noted old new disks new_disks slots new_slots
  lives_behind {middle = middle} {new = new} {mid = mid} {new_disks = new_disks} {between = between}
      {new_slots = new_slots} same first then = record {
        noted = then.noted;
        is = then.is;
        lives =
            Then first
            (subst (λ (me : ℕ). Lives keep disk slot me (moment_of middle mid between)
            (record { world = new.world.whole; noted = then.noted; disks = new_disks; slots = new_slots })) same.me
            then.lives);
      }

  -- where all was noted, this is what is noted then
  pub lives_noted : {old new : MachineState K} {disks new_disks : List (Pair D)} {slots new_slots : Pair N}
      {all_noted : Type 0} → all_noted
      → LivesTo keep disk slot all_noted old new disks new_disks slots new_slots
      → Lives keep disk slot old.me (moment_of old disks slots) (moment_of new new_disks new_slots)
  lives_noted {old} {new} {disks} {new_disks} {slots} {new_slots} all lives =
      subst (λ (noted : Option Noted). Lives keep disk slot old.me (moment_of old disks slots)
      (record { world = new.world.whole; noted = noted; disks = new_disks; slots = new_slots })) (sym (lives.is all))
      lives.lives

  -- the same, where less is said of the one than of the other
  pub lives_where : {old new : MachineState K} {disks new_disks : List (Pair D)} {slots new_slots : Pair N}
      {one two : Type 0} → (two → one) → LivesTo keep disk slot one old new disks new_disks slots new_slots
      → LivesTo keep disk slot two old new disks new_disks slots new_slots
  lives_where fewer lives = record { noted = lives.noted; is = λ all. lives.is (fewer all); lives = lives.lives }

  -- and where nothing is said of what is noted
  pub lives_failed : (A : Type 0) {old new : MachineState K} {disks new_disks : List (Pair D)}
      {slots new_slots : Pair N} {all_noted : Type 0} (fault : Fault)
      → LivesTo keep disk slot all_noted old new disks new_disks slots new_slots
      → LivesTo keep disk slot (IsErr {T = A} (Err fault) → ⊥) old new disks new_disks slots new_slots
  lives_failed A fault lives = lives_where (λ never. absurd (never refl)) lives

module _ {K D N M O : Type 0} {keep : Keep K} {disk : Disk D} {slot : Disk N} {mailbox : Mailbox M}
    {sink : Sink O} where
  -- no line
  pub lines_none : (machine : MachineState K) (disks : List (Pair D)) (slots : Pair N) (there : M) (out : O)
      → IsAtRest keep disk slot machine disks slots
      → AnswersAll keep disk slot mailbox sink [] machine machine disks disks slots slots there there out out
  lines_none machine disks slots there out rest = record {
    answers = [];
    answered = None;
    goes = somehow_none machine.me machine.tag machine.world.whole there;
    texts = λ tells. sym (append-nil (sink.written out));
    rest = rest;
    same = kept_none machine;
    lives = lives_none machine.me (moment_of machine disks slots);
  }

  module _ {old middle : MachineState K} {disks mid : List (Pair D)} {slots between : Pair N} {was there : M}
      {put told : O}
      (lines : List MemberLine) (index : ℕ) (line : MemberLine) (within : index < length lines)
      (is : line ≡ get_or lines index line)
      (first : AnswersAll keep disk slot mailbox sink (take index lines) old middle disks mid slots between was there
      put told) where
    -- the first lines, and the next one
    pub lines_more : (new : MachineState K) (new_disks : List (Pair D)) (new_slots : Pair N) (now : M) (out : O)
        → PutsAnswer mailbox disk.tells sink line middle new there now told out
        → GoesSomehow mailbox disk.tells middle.me middle.tag middle.world.whole new.world.whole there now
        → IsAtRest keep disk slot new new_disks new_slots → KeepsMachine middle new
        → LivesTo keep disk slot (IsErr {T = Unit {0}} {E = Fault} (Ok tt) → ⊥) middle new mid new_disks between
        new_slots
        → AnswersAll keep disk slot mailbox sink (take (index + 1) lines) old new disks new_disks slots new_slots was now
        put out
    lines_more new new_disks new_slots now out puts goes rest same lives = record {
      answers = first.answers ++ puts.answer ∷ [];
      answered =
          subst (λ (some : List MemberLine). Answered mailbox disk.tells some (first.answers ++ puts.answer ∷ []) old new
          was now)
          (sym (take_more lines index line within ∙ ap (λ (l : MemberLine). take index lines ++ l ∷ []) (sym is)))
          (answered_more first.answered puts.answers);
      goes = somehow_then first.same first.goes goes;
      texts = λ tells.
          puts.text tells
          ∙ ap (λ (l : List ℕ). l ++ member_answer_text_of puts.answer) (first.texts tells)
          ∙ texts_more (sink.written put) first.answers puts.answer;
      rest = rest;
      same = kept_then first.same same;
      lives = lives_noted (λ is. absurd (cc is)) (lives_behind first.same first.lives lives);
    }

    -- the first lines, and it ended at the next one
    pub lines_end : (fault : Fault) (new : MachineState K) (new_disks : List (Pair D)) (new_slots : Pair N) (now : M)
        (out : O) {all_noted : Type 0} → BreaksOff mailbox disk.tells sink line fault middle new there now told out
        → GoesSomehow mailbox disk.tells middle.me middle.tag middle.world.whole new.world.whole there now
        → IsBacked keep disk new.world new_disks
        → LivesTo keep disk slot all_noted middle new mid new_disks between new_slots
        → TellsOfNote {A = Unit {0}} slot old.me (Err fault) new slots new_slots
        → AnswersSome keep disk slot mailbox sink lines fault old new disks new_disks slots new_slots was now put out
    lines_end fault new new_disks new_slots now out breaks goes backed lives tells = record {
      first = take index lines;
      line = line;
      others = drop (suc index) lines;
      are =
          sym (take-append-drop index lines)
          ∙ ap (λ (l : List MemberLine). take index lines ++ l)
          (drop-cons lines index line within ∙ ap (λ (l : MemberLine). l ∷ drop (suc index) lines) (sym is));
      answers = first.answers;
      middle = middle;
      there = there;
      told = told;
      answered = first.answered;
      texts = first.texts;
      breaks = breaks;
      goes = somehow_then first.same first.goes goes;
      backed = backed;
      lives = lives_where (λ (none : ⊥). absurd none) (lives_behind first.same first.lives lives);
      unsaved = λ is. (tells.failed old.me (ap (λ (f : Fault). Err f) is)).1;
    }

-- how a line went
abbrev Went : {K D N M : Type 0} → Keep K → Disk D → Disk N → Mailbox M → MemberLine → Result MemberAnswer LineFault
    → MachineState K → MachineState K → List (Pair D) → List (Pair D) → Pair N → Pair N → M → M → Type 0
Went keep disk slot mailbox line result old new disks new_disks slots new_slots was now =
    Goes keep disk slot mailbox
    (LineAnswers mailbox disk.tells old.me old.tag new.note.asked old.world.whole new.world.whole was now line) result
    old new disks new_disks slots new_slots was now

module _ {K D N M : Type 0} {keep : Keep K} {disk : Disk D} {slot : Disk N} {mailbox : Mailbox M} {line : MemberLine}
    {old new : MachineState K} {disks new_disks : List (Pair D)} {slots new_slots : Pair N} {was now : M} where
  -- the line is answered
  pub carried : (answer : MemberAnswer)
      → Went keep disk slot mailbox line (Ok answer) old new disks new_disks slots new_slots was now
      → LivesTo keep disk slot (IsErrOf {T = MemberAnswer} (Ok answer) LineNote → ⊥) old new disks new_disks slots
      new_slots
      → CarriesOutLine keep disk slot mailbox line (Ok answer) old new disks new_disks slots new_slots was now
  carried answer goes lives = record {
    answers = record {
      told = goes.told;
      goes = goes.goes;
      answers = goes.answers;
      noted = goes.rest.noted;
      same = goes.same;
    };
    unanswered = tt;
    goes = record { told = goes.told; goes = goes.goes };
    rest = goes.rest;
    backed = goes.backed;
    same = goes.same;
    note = record { failed = λ r is. absurd (cc is); steady = goes.asks.steady };
    lives = lives_where (λ never is. absurd (cc is)) lives;
  }

  -- memory was refused
  pub uncarried : {fault : LineFault} {all_noted : Type 0}
      → Went keep disk slot mailbox line (Err fault) old new disks new_disks slots new_slots was now
      → LivesTo keep disk slot all_noted old new disks new_disks slots new_slots
      → CarriesOutLine keep disk slot mailbox line (Err (Answering Memory)) old new disks new_disks slots new_slots was
      now
  uncarried goes lives = record {
    answers = tt;
    unanswered = inl refl;
    goes = record { told = goes.told; goes = goes.goes };
    rest = tt;
    backed = goes.backed;
    same = goes.same;
    note = record { failed = λ r is. absurd (cc is); steady = tt };
    lives = lives_failed MemberAnswer (Answering Memory) lives;
  }

  -- the note wasn't saved
  pub unnoted : (me : ℕ) {fault : LineFault} {all_noted : Type 0} → me ≡ new.me → fault ≡ LineNote
      → Went keep disk slot mailbox line (Err fault) old new disks new_disks slots new_slots was now
      → LivesTo keep disk slot all_noted old new disks new_disks slots new_slots
      → CarriesOutLine keep disk slot mailbox line (Err (Storing (Store me))) old new disks new_disks slots new_slots was
      now
  unnoted me is note goes lives =
      let named : me ≡ old.me = is ∙ goes.same.me in
      record {
        answers = tt;
        unanswered = inr (ap (λ (r : ℕ). Storing (Store r)) named);
        goes = record { told = goes.told; goes = goes.goes };
        rest = tt;
        backed = goes.backed;
        same = goes.same;
        note = record {
          failed = λ r told. (sym (store_number me r told) ∙ named, goes.asks.failed (ap (λ (f : LineFault). Err f) note));
          steady = tt;
        };
        lives = lives_failed MemberAnswer (Storing (Store me)) lives;
      }

  module _ {O : Type 0} {sink : Sink O} {put out : O} where
    -- it isn't answered
    pub unanswered : (fault : Fault)
        → CarriesOutLine keep disk slot mailbox line (Err fault) old new disks new_disks slots new_slots was now
        → out ≡ put
        → EndsLine keep disk slot mailbox sink line (Err fault) old new disks new_disks slots new_slots was now put out
    unanswered fault carries same = record {
      puts = tt;
      breaks = Unanswered carries.unanswered carries.goes carries.same same;
      goes = carries.goes;
      rest = tt;
      backed = carries.backed;
      same = carries.same;
      note = record { failed = λ r is. carries.note.failed r (fault_as fault (Storing (Store r)) is); steady = tt };
      lives = carries.lives;
    }

    -- its answer isn't put whole
    pub unput : (answer : MemberAnswer) (fault : AnsweringFault)
        → CarriesOutLine keep disk slot mailbox line (Ok answer) old new disks new_disks slots new_slots was now
        → (fault ≡ Memory → out ≡ put)
        → (fault ≡ SinkFault → sink.tells
        → PutsFront (sink.written put) (member_answer_text_of answer) (sink.written out))
        → EndsLine keep disk slot mailbox sink line (Err (Answering fault)) old new disks new_disks slots new_slots was now
        put out
    unput answer fault carries silent front = record {
      puts = tt;
      breaks = how fault silent front;
      goes = carries.goes;
      rest = tt;
      backed = carries.backed;
      same = carries.same;
      note = record { failed = λ r is. absurd (cc is); steady = tt };
      lives = lives_failed (Unit {0}) (Answering fault) carries.lives;
    } where
      how : (fault : AnsweringFault) → (fault ≡ Memory → out ≡ put)
          → (fault ≡ SinkFault → sink.tells
          → PutsFront (sink.written put) (member_answer_text_of answer) (sink.written out))
          → BreaksOff mailbox disk.tells sink line (Answering fault) old new was now put out
      how Memory silent front = Untold refl carries.answers (silent refl)
      how SinkFault silent front = Unput refl carries.answers (front refl)

    -- it is
    pub answered : (answer : MemberAnswer)
        → CarriesOutLine keep disk slot mailbox line (Ok answer) old new disks new_disks slots new_slots was now
        → (sink.tells → sink.written out ≡ sink.written put ++ member_answer_text_of answer)
        → EndsLine keep disk slot mailbox sink line (Ok tt) old new disks new_disks slots new_slots was now put out
    answered answer carries text = record {
      puts = record { answer = answer; answers = carries.answers; text = text };
      breaks = tt;
      goes = carries.goes;
      rest = carries.rest;
      backed = carries.backed;
      same = carries.same;
      note = record { failed = λ r is. absurd (cc is); steady = carries.note.steady };
      lives = carries.lives;
    }

-- what is told of the note of calls of which the first left it
pub note_behind : {K N : Type 0} {slot : Disk N} {me own : ℕ} {result : Result (Unit {0}) Fault}
    {new : MachineState K} {slots middle new_slots : Pair N} → me ≡ own → PairSame slot.faults slots middle
    → TellsOfNote slot me result new middle new_slots → TellsOfNote slot own result new slots new_slots
note_behind {slot = slot} {result = result} {new = new} {slots = slots} {middle = middle} {new_slots = new_slots} named
    same tells = record {
      failed = λ r is.
          let failed = tells.failed r is in
          (failed.0 ∙ named, rose failed.1);
      steady = on_ok_weaker result (λ stay. record { a = stay.a ∙ same.a; b = stay.b ∙ same.b }) tells.steady;
    } where
      rose : PairRose slot.faults 1 middle new_slots ⊎ IsFull new.note
          → PairRose slot.faults 1 slots new_slots ⊎ IsFull new.note
      rose (inl failed) = inl (rose_from slot.faults 1 slots middle new_slots same failed)
      rose (inr full) = inr full
