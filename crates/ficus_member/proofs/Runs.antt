-- A script is run for a member, as far as it comes.
use Rattle.std.proofs.Common.{◌≡◌, ◌⊎◌, ℕ, ◌<◌, ◌≤◌, List, Result, Ok, Err, inl, inr, refl, sym, ap, subst, ◌∙◌, arith, length}
use Rattle.std.proofs.lemmas.Result.{on_ok_weaker}
use Rattle.std.specs.Prelude.{IfErr, IsErrOf, OnOk}
use Rattle.ficus_disk.specs.Pair.{PairRose}
use Rattle.ficus_disk.specs.declared.disk.Disk.{Ghosts as Disk}
use Rattle.ficus_disk.specs.declared.pair.Pair.{Pair}
use Rattle.ficus_faults.specs.Faults.{Rose}
use Rattle.ficus_ids.specs.Members.{IsMember}
use Rattle.ficus_keeper.specs.Calls.{Keeps}
use Rattle.ficus_loop.specs.declared.fault.AnsweringFault.TheVariants.{Sink}
use Rattle.ficus_machine.specs.Machine.{MachineState}
use Rattle.ficus_machine.specs.Noting.{IsFull}
use Rattle.ficus_machine.specs.Opening.{OpensMachine}
use Rattle.ficus_member_script.specs.MemberLine.{IsMemberScript}
use Rattle.ficus_member_script.specs.declared.member_line.MemberLine.{MemberLine}
use Rattle.ficus_opening.specs.Check.Judged.{IsEmptyPair}
use Rattle.ficus_opening.specs.Opening.{IsAtFault, IsStoreFault, IsUnfailed, Steady}
use Rattle.ficus_opening.specs.Rests.{PairRests}
use Rattle.ficus_opening.specs.declared.fault.WorldFault.{WorldFault}
use Rattle.ficus_opening.specs.declared.fault.WorldFault.TheVariants.{Image, Memory, Occupied, Store}
use Rattle.ficus_opening.proofs.Faults.{same_err}
use Rattle.ficus_opening.proofs.Rests.{rests_none}
use Rattle.ficus_opening.proofs.Steadies.{rose_from, steady_none}
use Rattle.ficus_runs.specs.Numbered.{IsNumbered}
use Rattle.ficus_runs.proofs.Numbers.{number_exists, number_once}
use Rattle.ficus_top.specs.Ending.{IsInterruption, TakesAsEndedIn, TakesScriptIn, TellsOfStreams}
use Rattle.ficus_top.specs.Reading.{TakesAll, TakesUntilIn}
use Rattle.ficus_top.specs.Summary.Keeper.{Keeper, keeper}
use Rattle.ficus_top.specs.declared.fault.Fault.{Fault}
use Rattle.ficus_top.specs.declared.fault.Fault.TheVariants.{Answering, Reading, Storing, Words}
use Rattle.ficus_top.specs.declared.fault.ReadingFault.{ReadingFault}
use Rattle.ficus_top.specs.declared.fault.ReadingFault.TheVariants.{Source}
use Rattle.ficus_words.specs.declared.fault.WordsFault.{WordsFault}
use Rattle.ficus_member.specs.Answered.{AnswersAll, AnswersSome, IsOfLines, TellsOfNote}
use Rattle.ficus_member.specs.Lines.{of_member_lines}
use Rattle.ficus_member.specs.Making.{IsEmptyAt}
use Rattle.ficus_member.specs.Running.{AnswersFront, EndsEarly, HasFailedAt, OpensIts, RunsScript, StaysUnopened}
use Rattle.ficus_member.specs.Seen.{Seen, StaysThere, disks_after, disks_before, left_of, script_of}
use Rattle.ficus_member.specs.TagFile.{FileRests, ReadsTag}
use Rattle.ficus_member.specs.declared.beside.Beside.{Beside}

-- a count that stays isn't one that rose
stays : {before now : ℕ} → now ≡ before → before < now → ⊥
stays same rose = omega (arith, same, rose)

at_most : {before now : ℕ} → now ≡ before → before ≤ now
at_most same = omega (arith, same)

-- the fault of a script that wasn't read, of one that wasn't
abbrev read_fault : Fault → ReadingFault → ReadingFault
read_fault (Words fault) other = other
read_fault (Reading fault) other = fault
read_fault (Storing fault) other = other
read_fault (Answering fault) other = other

-- and that of the disks
abbrev stored : Fault → WorldFault
stored (Words fault) = Memory
stored (Reading fault) = Memory
stored (Storing fault) = fault
stored (Answering fault) = Memory

same_stored : {A : Type 0} (one two : WorldFault) → IsErrOf {T = A} (Err (Storing one)) (Storing two) → one ≡ two
same_stored one two is = ap stored (same_err (Storing one) (Storing two) is)

-- a disk that failed, or want of memory, is an interruption
interrupts : (fault : WorldFault) → IsStoreFault fault → IsInterruption (Storing fault)
interrupts (Store r) store = tt
interrupts (Occupied r) store = store
interrupts (Image r) store = store
interrupts Memory store = tt

-- lines end neither with a fault of the words, nor with one of the script
takes_of_lines : (me : ℕ) (old new : List ℕ) → TakesScriptIn of_member_lines old new
    → (result : Result (Unit {0}) Fault) → IfErr result (IsOfLines me)
    → TakesAsEndedIn of_member_lines old new result
takes_of_lines me old new takes (Ok done) kinds = takes
takes_of_lines me old new takes (Err fault) (inl (inl is)) =
    subst (λ (f : Fault). TakesAsEndedIn of_member_lines {Done = Unit {0}} old new (Err f)) (sym is) takes
takes_of_lines me old new takes (Err fault) (inl (inr is)) =
    subst (λ (f : Fault). TakesAsEndedIn of_member_lines {Done = Unit {0}} old new (Err f)) (sym is) takes
takes_of_lines me old new takes (Err fault) (inr is) =
    subst (λ (f : Fault). TakesAsEndedIn of_member_lines {Done = Unit {0}} old new (Err f)) (sym is) takes

-- nor for disks that hold nothing with which a machine is opened, nor for some that hold something
opened_of_lines : (me : ℕ) (result : Result (Unit {0}) Fault) → IfErr result (IsOfLines me) → (other : WorldFault)
    → (other ≡ Store me → ⊥) → IsErrOf result (Storing other) → ⊥
opened_of_lines me (Ok done) kinds other none is = absurd (cc is)
opened_of_lines me (Err fault) (inl (inl kind)) other none is =
    absurd (cc (sym kind ∙ same_err fault (Storing other) is))
opened_of_lines me (Err fault) (inl (inr kind)) other none is =
    none (sym (ap stored (sym kind ∙ same_err fault (Storing other) is)))
opened_of_lines me (Err fault) (inr kind) other none is = absurd (cc (sym kind ∙ same_err fault (Storing other) is))

read_of_lines : (me : ℕ) (result : Result (Unit {0}) Fault) → IfErr result (IsOfLines me)
    → IsErrOf result (Reading Source) → ⊥
read_of_lines me (Ok done) kinds is = absurd (cc is)
read_of_lines me (Err fault) (inl (inl kind)) is = absurd (cc (sym kind ∙ same_err fault (Reading Source) is))
read_of_lines me (Err fault) (inl (inr kind)) is = absurd (cc (sym kind ∙ same_err fault (Reading Source) is))
read_of_lines me (Err fault) (inr kind) is = absurd (cc (sym kind ∙ same_err fault (Reading Source) is))

-- for what a machine isn't opened
which : (me : ℕ) (fault : WorldFault) → ((r : ℕ) → fault ≡ Image r → r ≡ me)
    → (Storing fault ≡ Storing (Image me)) ⊎ IsInterruption (Storing fault)
    ⊎ ((q : ℕ) × (Storing fault ≡ Storing (Occupied q)))
which me (Store r) named = inr (inl tt)
which me (Occupied q) named = inr (inr (q, refl))
which me (Image r) named = inl (ap (λ (n : ℕ). Storing (Image n)) (named r refl))
which me Memory named = inr (inl tt)

not_words : (me : ℕ) (fault : WordsFault) → IsOfLines me (Words fault) → ⊥
not_words me fault (inl (inl is)) = absurd (cc is)
not_words me fault (inl (inr is)) = absurd (cc is)
not_words me fault (inr is) = absurd (cc is)

not_reading : (me : ℕ) (fault : ReadingFault) → IsOfLines me (Reading fault) → ⊥
not_reading me fault (inl (inl is)) = absurd (cc is)
not_reading me fault (inl (inr is)) = absurd (cc is)
not_reading me fault (inr is) = absurd (cc is)

not_stored : (me : ℕ) (fault : WorldFault) → (fault ≡ Store me → ⊥) → IsOfLines me (Storing fault) → ⊥
not_stored me fault none (inl (inl is)) = absurd (cc is)
not_stored me fault none (inl (inr is)) = none (ap stored is)
not_stored me fault none (inr is) = absurd (cc is)

-- nothing is done to a file, or to a pair of disks
file_rests : {N : Type 0} (slot : Disk N) (file : N) → FileRests slot file file
file_rests slot file = record { same = λ tells. refl; within = λ c left. left }

keeps_none : {N : Type 0} (slot : Disk N) (slots : Pair N)
    → Keeps slot.tells slot.tells_moments slot.seen slot.may_leave slot.moment slot.left_since slots slots
keeps_none slot slots =
    let rests = rests_none slot slots in
    record {
      same = λ tells. record { a = refl; b = refl };
      crash = rests.within;
      moments = rests.leaves;
      spans = rests.spans;
    }

-- a source of which something was read hasn't failed
pub never_rose : {A : Type 0} {before now : ℕ} (read : A) → (before < now → IsErrOf {T = A} (Ok read) Source)
    → before < now → ⊥
never_rose read told rose = absurd (cc (told rose))

module _ {S K D N M : Type 0} (seen : Seen S K D N M) where
  -- the first of the lines were answered
  abbrev Front : List MemberLine → MachineState Keeper → MachineState Keeper → List (Pair D) → Pair N → Fault → Type 0
  Front lines begun after opened slots fault =
      AnswersSome keeper seen.disk seen.slot seen.mailbox seen.sink lines fault begun after opened (disks_after seen) slots
      seen.beside.new.slots seen.mail.old seen.mail.new seen.output.old seen.output.new

  takes_script : (lines : List MemberLine)
      → (seen.source.tells → TakesAll (script_of seen) (left_of seen) × IsMemberScript (script_of seen) lines)
      → seen.source.tells → TakesScriptIn of_member_lines (script_of seen) (left_of seen)
  takes_script lines script tells =
      let given = script tells in
      record { all = given.0; commands = lines; read = given.1 }

  streams_stored : (fault : WorldFault)
      → (seen.source.faults seen.input.old < seen.source.faults seen.input.new → ⊥)
      → seen.source.faults seen.input.old ≤ seen.source.faults seen.input.new
      → seen.output.new ≡ seen.output.old
      → TellsOfStreams {Done = Unit {0}} (seen.source.faults seen.input.old) (seen.source.faults seen.input.new)
      (seen.sink.faults seen.output.old) (seen.sink.faults seen.output.new) (Err (Storing fault))
  streams_stored fault unrisen counted silent = record {
    read_fault = λ is. absurd (cc is);
    read_fault_comes = λ rose. absurd (unrisen rose);
    write_fault = λ is. absurd (cc is);
    write_fault_comes = λ rose. absurd (stays (ap seen.sink.faults silent) rose);
    source_counted = counted;
    sink_counted = at_most (ap seen.sink.faults silent);
  }

module _ {S K D N M : Type 0} {me : ℕ} (seen : Seen S K D N M) where
  -- nothing was opened
  unopened : (fault : WorldFault) → StaysUnopened me seen → EndsEarly me seen (Storing fault)
  unopened (Store r) stays_so = inl stays_so
  unopened (Occupied r) stays_so = stays_so
  unopened (Image r) stays_so = stays_so
  unopened Memory stays_so = stays_so

  -- the script wasn't read
  pub unread : (fault : ReadingFault) {A : Type 0}
      → (seen.source.tells → TakesUntilIn of_member_lines (script_of seen) (left_of seen) fault)
      → (IsErrOf {T = A} (Err fault) Source
      → Rose (seen.source.faults seen.input.old) (seen.source.faults seen.input.new))
      → (seen.source.faults seen.input.old < seen.source.faults seen.input.new → IsErrOf {T = A} (Err fault) Source)
      → seen.source.faults seen.input.old ≤ seen.source.faults seen.input.new → seen.output.new ≡ seen.output.old
      → StaysThere seen → RunsScript me seen (Err (Reading fault))
  unread fault until failed told counted silent there = record {
    takes = until;
    streams = record {
      read_fault = λ is.
          failed (ap (λ (f : ReadingFault). Err f)
          (ap (λ (f : Fault). read_fault f fault) (same_err (Reading fault) (Reading Source) is)));
      read_fault_comes = λ rose. ap (λ (f : ReadingFault). Err (Reading f)) (same_err fault Source (told rose));
      write_fault = λ is. absurd (cc is);
      write_fault_comes = λ rose. absurd (stays (ap seen.sink.faults silent) rose);
      source_counted = counted;
      sink_counted = at_most (ap seen.sink.faults silent);
    };
    image = λ disk_tells slot_tells r is. absurd (cc is);
    tagless = λ tells none. inr tt;
    bad = λ tells none. inr tt;
    noteless = λ disk_tells slot_tells none. inr (inl tt);
    occupied = λ tells q is. absurd (cc is);
    failed = λ r is. absurd (cc is);
    unfailed = λ other unfailed is. absurd (cc is);
    volume =
        subst (λ (beside : Beside N). FileRests seen.slot seen.beside.old.volume beside.volume) (sym there.beside)
        (file_rests seen.slot seen.beside.old.volume);
    answers = tt;
    early = (there, silent);
  }

  -- it was, and none of the streams has failed since
  module _ (lines : List MemberLine)
      (script : seen.source.tells → TakesAll (script_of seen) (left_of seen) × IsMemberScript (script_of seen) lines)
      (unrisen : seen.source.faults seen.input.old < seen.source.faults seen.input.new → ⊥)
      (counted : seen.source.faults seen.input.old ≤ seen.source.faults seen.input.new) where
    -- no tag was read
    pub untagged : (fault : WorldFault)
        → ReadsTag seen.slot me (Err fault) seen.beside.old.volume seen.beside.new.volume
        → seen.output.new ≡ seen.output.old → seen.mail.new ≡ seen.mail.old → seen.disks.new ≡ seen.disks.old
        → seen.beside.new.slots ≡ seen.beside.old.slots → RunsScript me seen (Err (Storing fault))
    untagged fault reads silent unposted same slots = record {
      takes = takes_script seen lines script;
      streams = streams_stored seen fault unrisen counted silent;
      image = λ disk_tells slot_tells r is.
          let none = reads.image slot_tells r (ap (λ (f : WorldFault). Err f) (same_stored fault (Image r) is)) in
          (none.0, inl none.1);
      tagless = λ tells none. ended reads.kinds;
      bad = λ tells none. ended reads.kinds;
      noteless = λ disk_tells slot_tells none. widened (ended reads.kinds);
      occupied = λ tells q is. absurd (unoccupied reads.kinds q (same_stored fault (Occupied q) is));
      failed = λ r is.
          let rose = reads.asked.failed r (ap (λ (f : WorldFault). Err f) (same_stored fault (Store r) is)) in
          inr (rose.0, inl rose.1);
      unfailed = λ other spared is. (
        subst (λ disks. Steady seen.disk.faults (disks_before seen) disks.items) (sym same)
            (steady_none seen.disk.faults (disks_before seen)),
        record {
          slots = record {
            a = ap (λ (s : Pair N). seen.slot.faults s.a) slots;
            b = ap (λ (s : Pair N). seen.slot.faults s.b) slots;
          };
          volume = reads.asked.spared other spared (ap (λ (f : WorldFault). Err f) (same_stored fault other is));
        },
      );
      volume = reads.rests;
      answers = tt;
      early = unopened fault (record {
        output = silent;
        mail = unposted;
        own = λ was now at at_now.
            let there : IsNumbered (disks_before seen) me now =
            subst (λ disks. IsNumbered disks.items me now) same at_now in
            subst (λ (pair : Pair D). PairRests seen.disk was pair) (number_once at there) (rests_none seen.disk was);
        slots =
            subst (λ (pair : Pair N). Keeps seen.slot.tells seen.slot.tells_moments seen.slot.seen seen.slot.may_leave
            seen.slot.moment seen.slot.left_since seen.beside.old.slots pair)
            (sym slots) (keeps_none seen.slot seen.beside.old.slots);
      });
    } where
      ended : (fault ≡ Store me) ⊎ (fault ≡ Image me)
          → (Storing fault ≡ Storing (Image me)) ⊎ IsInterruption (Storing fault)
      ended (inl is) = inr (interrupts fault (subst IsStoreFault (sym is) tt))
      ended (inr is) = inl (ap (λ (f : WorldFault). Storing f) is)

      widened : (Storing fault ≡ Storing (Image me)) ⊎ IsInterruption (Storing fault)
          → (Storing fault ≡ Storing (Image me)) ⊎ IsInterruption (Storing fault)
          ⊎ ((q : ℕ) × (Storing fault ≡ Storing (Occupied q)))
      widened (inl is) = inl is
      widened (inr interrupted) = inr (inl interrupted)

      unoccupied : (fault ≡ Store me) ⊎ (fault ≡ Image me) → (q : ℕ) → fault ≡ Occupied q → ⊥
      unoccupied (inl is) q other = absurd (cc (sym is ∙ other))
      unoccupied (inr is) q other = absurd (cc (sym is ∙ other))

    -- the tag was
    module _ {tag : List ℕ} {file : N} (reads : ReadsTag seen.slot me (Ok tag) seen.beside.old.volume file)
        (lies : seen.beside.new.volume ≡ file) where
      -- the machine wasn't opened
      pub unopened_machine : length (disks_before seen) ≡ 8 → (fault : WorldFault)
          → OpensMachine keeper seen.disk seen.slot me tag (Err fault) (disks_before seen) (disks_after seen)
          seen.beside.old.slots seen.beside.new.slots
          → seen.output.new ≡ seen.output.old → seen.mail.new ≡ seen.mail.old
          → RunsScript me seen (Err (Storing fault))
      unopened_machine eight fault opens silent unposted = record {
        takes = takes_script seen lines script;
        streams = streams_stored seen fault unrisen counted silent;
        image = λ disk_tells slot_tells r is.
            let none = opens.image disk_tells slot_tells r
            (ap (λ (f : WorldFault). Err f) (same_stored fault (Image r) is)) in
            (none.0, inr none.1);
        tagless = λ tells none. absurd (none tag (reads.spelled tells));
        bad = λ tells none. ended (opens.image_comes tells none);
        noteless = λ disk_tells slot_tells none.
            which me fault (λ r is. (opens.image disk_tells slot_tells r (ap (λ (f : WorldFault). Err f) is)).0);
        occupied = λ tells q is.
            let not_empty = opens.occupied tells q
            (ap (λ (f : WorldFault). Err f) (same_stored fault (Occupied q) is)) in
            (not_empty.0, some_pair q not_empty.1 not_empty.2);
        failed = λ r is.
            at_fault r (opens.failed r (ap (λ (f : WorldFault). Err f) (same_stored fault (Store r) is)));
        unfailed = λ other unfailed is.
            let same = opens.spared other unfailed (ap (λ (f : WorldFault). Err f) (same_stored fault other is)) in
            (same.0, record { slots = same.1; volume = ap seen.slot.faults lies ∙ reads.asked.steady });
        volume = rw lies reads.rests;
        answers = tt;
        early = unopened fault (record {
          output = silent;
          mail = unposted;
          own = opens.rests;
          slots = opens.keeps;
        });
      } where
        ended : (fault ≡ Image me) ⊎ IsStoreFault fault
            → (Storing fault ≡ Storing (Image me)) ⊎ IsInterruption (Storing fault)
        ended (inl is) = inl (ap (λ (f : WorldFault). Storing f) is)
        ended (inr store) = inr (interrupts fault store)

        some_pair : (q : ℕ) → IsMember 8 q
            → ((own : Pair D) → IsNumbered (disks_before seen) q own → IsEmptyPair seen.disk.seen own → ⊥)
            → IsEmptyAt seen.disk.seen (disks_before seen) q → ⊥
        some_pair q member none empty =
            let there = number_exists (disks_before seen) q
            (subst (λ (n : ℕ). IsMember n q) (sym eight) member) in
            none there.0 there.1 (empty there.0 there.1)

        at_fault : (r : ℕ) → IsAtFault seen.disk.faults (disks_before seen) (disks_after seen) r
            ⊎ ((r ≡ me) × PairRose seen.slot.faults 1 seen.beside.old.slots seen.beside.new.slots)
            → HasFailedAt me seen r
        at_fault r (inl at) = inl at
        at_fault r (inr rose) = inr (rose.0, inr (inl rose.1))

      -- it was, and its lines were answered, or the first of them
      pub answered_on : {begun after : MachineState Keeper} {opened : List (Pair D)} {slots : Pair N}
          → OpensMachine keeper seen.disk seen.slot me tag (Ok begun) (disks_before seen) opened seen.beside.old.slots
          slots
          → (result : Result (Unit {0}) Fault)
          → OnOk result (AnswersAll keeper seen.disk seen.slot seen.mailbox seen.sink lines begun after opened
          (disks_after seen) slots seen.beside.new.slots seen.mail.old seen.mail.new seen.output.old seen.output.new)
          → IfErr result (λ fault. Front seen lines begun after opened slots fault)
          → IfErr result (IsOfLines begun.me)
          → TellsOfNote seen.slot begun.me result after slots seen.beside.new.slots
          → (IsErrOf result (Answering Sink)
          → Rose (seen.sink.faults seen.output.old) (seen.sink.faults seen.output.new))
          → (seen.sink.faults seen.output.old < seen.sink.faults seen.output.new → IsErrOf result (Answering Sink))
          → seen.sink.faults seen.output.old ≤ seen.sink.faults seen.output.new
          → RunsScript me seen result
      answered_on {begun} {after} {opened} {slots} opens result answers front kinds note failed comes sink_counted =
          record {
            takes = λ tells. takes_of_lines begun.me (script_of seen) (left_of seen) (takes_script seen lines script tells)
                result kinds;
            streams = record {
              read_fault = λ is. absurd (read_of_lines begun.me result kinds is);
              read_fault_comes = λ rose. absurd (unrisen rose);
              write_fault = failed;
              write_fault_comes = comes;
              source_counted = counted;
              sink_counted = sink_counted;
            };
            image = λ disk_tells slot_tells r is.
                absurd (opened_of_lines begun.me result kinds (Image r) (λ same. absurd (cc same)) is);
            tagless = λ tells none. absurd (none tag (reads.spelled tells));
            bad = λ tells none. absurd (opens.image_comes tells none);
            noteless = λ disk_tells slot_tells none.
                absurd (none begun.note.asked opens.fits (begun.note.generation, opens.noted slot_tells));
            occupied = λ tells q is.
                absurd (opened_of_lines begun.me result kinds (Occupied q) (λ same. absurd (cc same)) is);
            failed = λ r is.
                let at = note.failed r is in
                let own : r ≡ me = at.0 ∙ opens.own in
                inr (own, inr (kept (front_at r own is) at.1));
            unfailed = λ other unfailed is.
                absurd (opened_of_lines begun.me result kinds other
                (λ store. subst IsUnfailed store unfailed) is);
            volume = rw lies reads.rests;
            answers = on_ok_weaker result (λ all. record {
              opened = its;
              lines = lines;
              script = λ tells. (script tells).1;
              after = after;
              answers = all;
            }) answers;
            early = ended result kinds front;
          } where
            its : OpensIts me seen
            its = record {
              tag = tag;
              spelled = reads.spelled;
              begun = begun;
              disks = opened;
              slots = slots;
              opens = opens;
            }

            some : (fault : Fault) → Front seen lines begun after opened slots fault → AnswersFront fault me seen
            some fault first = record {
              opened = its;
              lines = lines;
              script = λ tells. (script tells).1;
              after = after;
              answers = first;
            }

            -- the lines before the one for which the note wasn't saved
            front_at : (r : ℕ) → r ≡ me → IsErrOf result (Storing (Store r))
                → Front seen lines begun after opened slots (Storing (Store me))
            front_at r own is =
                subst (λ (n : ℕ). Front seen lines begun after opened slots (Storing (Store n))) own
                (subst (λ (ended : Result (Unit {0}) Fault).
                IfErr ended (λ fault. Front seen lines begun after opened slots fault)) is front)

            kept : Front seen lines begun after opened slots (Storing (Store me))
                → PairRose seen.slot.faults 1 slots seen.beside.new.slots ⊎ IsFull after.note
                → PairRose seen.slot.faults 1 seen.beside.old.slots seen.beside.new.slots
                ⊎ ((done : AnswersFront (Storing (Store me)) me seen) × IsFull done.after.note)
            kept first (inl rose) =
                inl (rose_from seen.slot.faults 1 seen.beside.old.slots slots seen.beside.new.slots opens.steady.1 rose)
            kept first (inr full) = inr (some (Storing (Store me)) first, full)

            early_of : (fault : Fault) → IsOfLines begun.me fault → AnswersFront fault me seen → EndsEarly me seen fault
            early_of (Words fault) kinds front_of = absurd (not_words begun.me fault kinds)
            early_of (Reading fault) kinds front_of = absurd (not_reading begun.me fault kinds)
            early_of (Storing (Store r)) kinds front_of = inr front_of
            early_of (Storing (Occupied r)) kinds front_of =
                absurd (not_stored begun.me (Occupied r) (λ same. absurd (cc same)) kinds)
            early_of (Storing (Image r)) kinds front_of =
                absurd (not_stored begun.me (Image r) (λ same. absurd (cc same)) kinds)
            early_of (Storing Memory) kinds front_of =
                absurd (not_stored begun.me Memory (λ same. absurd (cc same)) kinds)
            early_of (Answering fault) kinds front_of = front_of

            ended : (result : Result (Unit {0}) Fault) → IfErr result (IsOfLines begun.me)
                → IfErr result (λ fault. Front seen lines begun after opened slots fault)
                → IfErr result (EndsEarly me seen)
            ended (Ok done) kinds front = tt
            ended (Err fault) kinds front = early_of fault kinds (some fault front)
