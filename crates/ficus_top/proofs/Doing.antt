-- What the program does in a mode, by how the run ended.
use Rattle.std.proofs.Common.{◌≡◌, ◌≢◌, ◌⊎◌, ℕ, ◌<◌, ◌≤◌, List, [], Option, Result, Ok, Err, refl, sym, ap, subst, inl, inr, arith, length}
use Rattle.std.specs.declared.alloc.Global.{Global}
use Rattle.std.specs.Prelude.{IfErr, IsErrOf, OnOk, Vec, vec_items}
use Rattle.ficus_disk.specs.declared.pair.Pair.{Pair}
use Rattle.ficus_keeper.specs.Kept.{Kept}
use Rattle.ficus_model.specs.Lawful.{Volume}
use Rattle.ficus_model.specs.declared.event.Event.{Event}
use Rattle.ficus_top.specs.Summary.Keeper.{kept_in}
use Rattle.ficus_top.specs.Codes.{IsCode, IsIdleCode}
use Rattle.ficus_top.specs.Ending.{IsAnswering, IsIdle, IsInterruption, IsOfJoining, IsOfMaking, IsUntouched, TakesAsEnded, TakesAsEndedIn, TellsOfStreams}
use Rattle.ficus_top.specs.Storing.{TellsOfMaking, TellsOfOpening}
use Rattle.ficus_top.specs.Grammar.{Grammar, of_commands, of_volumes}
use Rattle.ficus_top.specs.Headline.{CarriesOutNothing}
use Rattle.ficus_top.specs.Making.{MakesVolume, volume_of}
use Rattle.ficus_top.specs.Modes.Gen.{IsGenCode}
use Rattle.ficus_top.specs.Modes.Init.{DoesInit, IsInitCode}
use Rattle.ficus_top.specs.Modes.Replay.{DoesReplay, IsMadeSo, IsReplayCode, StaysUnmade}
use Rattle.ficus_top.specs.Killed.{KilledFrontOf, KilledOf}
use Rattle.ficus_top.specs.Modes.Run.{DoesRun, HoldsSame, IsRunCode, StaysUnopened}
use Rattle.ficus_top.proofs.Kills.{killed_where}
use Rattle.ficus_opening.specs.Rests.{AllRest, OthersRest, OthersStay}
use Rattle.ficus_opening.proofs.Rests.{all_rest_none}
use Rattle.ficus_opening.proofs.Made.{none_made}
use Rattle.ficus_opening.proofs.Others.{all_others_rest, others_none}
use Rattle.ficus_top.specs.Program.{Does, EndsAsAny, RunsProgram}
use Rattle.ficus_top.specs.Reading.{TakesUntil}
use Rattle.ficus_top.specs.Modes.Volumes.{AnswersVolumesFrontOf, AnswersVolumesOf, DoesVolumes, IsVolumesCode}
use Rattle.ficus_top.specs.Script.{AnswersFrontOf, AnswersOf, AnswersScript, HasIn, ReadsIn}
use Rattle.ficus_top.specs.Seen.{Seen, SinkFailed, SourceFailed, disks_after, disks_before, left_of, script_of}
use Rattle.ficus_top.specs.Status.{code_of, line_of, replica_of}
use Rattle.ficus_loop.specs.declared.fault.AnsweringFault.TheVariants as answering
use Rattle.ficus_top.specs.declared.fault.Fault.{Fault}
use Rattle.ficus_top.specs.declared.fault.Fault.TheVariants.{Words, Reading, Storing, Answering}
use Rattle.ficus_top.specs.declared.fault.ReadingFault.TheVariants as reading
use Rattle.ficus_top.specs.declared.status.Status.{Status}
use Rattle.ficus_words.specs.Grammar.{Text}
use Rattle.ficus_words.specs.Mode.{AreNoWords}
use Rattle.ficus_words.specs.declared.fault.WordsFault.{WordsFault}
use Rattle.ficus_words.specs.declared.fault.WordsFault.TheVariants as word
use Rattle.ficus_words.specs.declared.mode.Mode.{Mode}
use Rattle.ficus_words.specs.declared.mode.Mode.TheVariants.{Init, Run, Check, Replay, Volumes, Gen}
use Rattle.ficus_words.specs.declared.mode.Size.{Size}
use Rattle.ficus_opening.specs.Fuses.{AreUnarmed}
use Rattle.ficus_loop.specs.Crashes.{CrashesKeep}
use Rattle.ficus_opening.specs.Opening.{AreEmpty, AreMadeFirst, AreMadeInPart, AreSynced, IsAtFault, IsUnfailed, SomeAreMade, StandsOn, Steady}
use Rattle.ficus_opening.specs.declared.fault.WorldFault.{WorldFault}
use Rattle.ficus_opening.specs.declared.fault.WorldFault.TheVariants as world
use Rattle.ficus_opening.proofs.Steadies.{steady_none}
use Rattle.ficus_top.proofs.Answering.{answers_where}
use Rattle.ficus_top.proofs.Codes.{done_of_code, idle_of_code, image_of_code, is_code, line_of_code, occupied_of_code, prefix_of_code, replica_of_code, sink_of_code, source_of_code, store_of_code, untouched_of_code, usage_of_code}
use Rattle.ficus_top.proofs.Earlier.{not_at_fault}
use Rattle.ficus_top.proofs.Stored.{idle_both, if_idle}
use Rattle.ficus_top.proofs.Storing.{making_unasked, opening_unread}
use Rattle.ficus_top.proofs.Endings.{AreUsed, Excludes, IsStored, bad_line_comes, bad_line_told, complete_of_code, excludes_commands, excludes_volumes, made_of_code, nothing_left, refusal_comes, too_long_comes, too_long_of_code, within_of_code}
use Rattle.ficus_loop.proofs.Places.{not_occupied}

-- how a run ended, as numbers
abbrev pub status_of : {Done : Type 0} → Result Done Fault → Status
status_of ended = record { code = code_of ended; line = line_of ended; replica = replica_of ended }

-- a code that isn't 1 is one of a replay, and one of those that isn't 9 is one of a run
but_one : {code : ℕ} → IsCode code → (code ≡ 1 → ⊥) → IsReplayCode code
but_one codes none = elim codes [
  | inl zero ↦ inl zero
  | inr (inl one) ↦ absurd (none one)
  | inr (inr other) ↦ inr other
]

but_nine : {code : ℕ} → IsReplayCode code → (code ≡ 9 → ⊥) → IsRunCode code
but_nine codes none = grind arith

module _ {Done : Type 0} where
  -- what making a volume doesn't end with
  pub making_used : (ended : Result Done Fault) → IfErr ended IsOfMaking → AreUsed ended
  making_used (Err (Words fault)) making = absurd making
  making_used (Ok done) making = λ fault is. cc
  making_used (Err (Reading fault)) making = absurd making
  making_used (Err (Storing fault)) making = λ other is. cc
  making_used (Err (Answering fault)) making = absurd making

  pub making_reads_nothing : (ended : Result Done Fault) → IfErr ended IsOfMaking
      → IsErrOf ended (Reading reading.Source) → ⊥
  making_reads_nothing (Ok done) making is = cc
  making_reads_nothing (Err (Words fault)) making is = making
  making_reads_nothing (Err (Reading fault)) making is = making
  making_reads_nothing (Err (Storing fault)) making is = cc
  making_reads_nothing (Err (Answering fault)) making is = making

  pub making_puts_nothing : (ended : Result Done Fault) → IfErr ended IsOfMaking
      → IsErrOf ended (Answering answering.Sink) → ⊥
  making_puts_nothing (Ok done) making is = cc
  making_puts_nothing (Err (Words fault)) making is = making
  making_puts_nothing (Err (Reading fault)) making is = making
  making_puts_nothing (Err (Storing fault)) making is = cc
  making_puts_nothing (Err (Answering fault)) making is = making

  pub making_opens_nothing : (ended : Result Done Fault) → IfErr ended IsOfMaking → (r : ℕ)
      → IsErrOf ended (Storing (world.Image r)) → ⊥
  making_opens_nothing (Ok done) making r is = cc
  making_opens_nothing (Err (Words fault)) making r is = making
  making_opens_nothing (Err (Reading fault)) making r is = making
  making_opens_nothing (Err (Storing (world.Image q))) making r is = making
  making_opens_nothing (Err (Storing world.Memory)) making r is = cc
  making_opens_nothing (Err (Storing (world.Store q))) making r is = cc
  making_opens_nothing (Err (Storing (world.Occupied q))) making r is = cc
  making_opens_nothing (Err (Answering fault)) making r is = making

  making_touches : (P : Type 0) (ended : Result Done Fault) → IfErr ended IsOfMaking
      → IfErr ended (λ fault. IsUntouched fault → P)
  making_touches P (Ok done) making = tt
  making_touches P (Err (Words fault)) making = absurd making
  making_touches P (Err (Reading fault)) making = absurd making
  making_touches P (Err (Storing fault)) making = λ untouched. absurd untouched
  making_touches P (Err (Answering fault)) making = absurd making

  -- where no command was carried out nothing was put, and no disk armed
  pub put_nothing : {D Output : Type 0} (stays : Type 0) (armings : D → Option ℕ) (old new : Output)
      (old_disks new_disks : List (Pair D)) (ended : Result Done Fault)
      → IfErr ended (λ fault. IsIdle fault → CarriesOutNothing stays armings old new old_disks new_disks)
      → IfErr ended (λ fault. IsIdle fault → new ≡ old)
  put_nothing stays armings old new old_disks new_disks (Ok done) nothing = tt
  put_nothing stays armings old new old_disks new_disks (Err fault) nothing = λ idle. (nothing idle).put

  pub armed_nothing : {D Output : Type 0} (stays : Type 0) (armings : D → Option ℕ) (old new : Output)
      (old_disks new_disks : List (Pair D)) (ended : Result Done Fault)
      → IfErr ended (λ fault. IsIdle fault → CarriesOutNothing stays armings old new old_disks new_disks)
      → IfErr ended (λ fault. IsIdle fault → Steady armings old_disks new_disks)
  armed_nothing stays armings old new old_disks new_disks (Ok done) nothing = tt
  armed_nothing stays armings old new old_disks new_disks (Err fault) nothing = λ idle. (nothing idle).unarmed

  making_code : (ended : Result Done Fault) → IfErr ended IsOfMaking → IsInitCode (code_of ended)
  making_code (Ok done) making = inl refl
  making_code (Err (Words fault)) making = absurd making
  making_code (Err (Reading fault)) making = absurd making
  making_code (Err (Storing world.Memory)) making = inr (inl refl)
  making_code (Err (Storing (world.Store r))) making = inr (inr (inl refl))
  making_code (Err (Storing (world.Image r))) making = absurd making
  making_code (Err (Storing (world.Occupied r))) making = inr (inr (inr refl))
  making_code (Err (Answering fault)) making = absurd making

  replay_code : (ended : Result Done Fault) → AreUsed ended → IsReplayCode (code_of ended)
  replay_code ended used = but_one (is_code ended) (λ one. used word.Usage (usage_of_code ended one))

  run_code : (ended : Result Done Fault) → AreUsed ended
      → ((r : ℕ) → IsErrOf ended (Storing (world.Occupied r)) → ⊥) → IsRunCode (code_of ended)
  run_code ended used occupied =
      but_nine (replay_code ended used) (λ nine. occupied (replica_of ended) (occupied_of_code ended nine))

-- a run that makes a volume wants memory for this alone
memory_of_code : {Done : Type 0} (ended : Result Done Fault) → IfErr ended IsOfMaking → code_of ended ≡ 3
    → IsErrOf ended (Storing world.Memory)
memory_of_code (Ok done) making code = absurd (cc)
memory_of_code (Err (Words fault)) making code = absurd making
memory_of_code (Err (Reading fault)) making code = absurd making
memory_of_code (Err (Storing (world.Store r))) making code = absurd (cc)
memory_of_code (Err (Storing (world.Occupied r))) making code = absurd (cc)
memory_of_code (Err (Storing (world.Image r))) making code = absurd (cc)
memory_of_code (Err (Storing world.Memory)) making code = refl
memory_of_code (Err (Answering fault)) making code = absurd making

idle_either : {code : ℕ} → (code ≡ 6) ⊎ (code ≡ 7) → IsIdleCode code
idle_either (inl six) = inr (inr (inl six))
idle_either (inr seven) = inr (inr (inr (inl seven)))

module _ {S K D Done : Type 0} (seen : Seen S K D) (ended : Result Done Fault) where
  -- what is known by how the run ended, whatever the words were
  pub record EndedAsAny : Type 0 where
    pub streams : TellsOfStreams (seen.source.faults seen.input.old) (seen.source.faults seen.input.new)
        (seen.sink.faults seen.output.old) (seen.sink.faults seen.output.new) ended
    pub open streams use *
    pub store_fault : (r : ℕ) → IsErrOf ended (Storing (world.Store r))
        → IsAtFault seen.disk.faults (disks_before seen) (disks_after seen) r
    pub idle : IfErr ended (λ fault. IsIdle fault → seen.output.new ≡ seen.output.old)
    pub unarmed : IfErr ended (λ fault. IsIdle fault
        → Steady seen.disk.armings (disks_before seen) (disks_after seen))
    pub untouched : IfErr ended (λ fault. IsUntouched fault → seen.disks.new ≡ seen.disks.old)
    pub pairs : length (disks_after seen) ≡ length (disks_before seen)

  pub any_of : EndedAsAny → EndsAsAny seen (status_of ended)
  any_of facts = record {
    read_fault = λ code. facts.read_fault (source_of_code ended code);
    read_fault_comes = λ rose. ap code_of (facts.read_fault_comes rose);
    write_fault = λ code. facts.write_fault (sink_of_code ended code);
    write_fault_comes = λ rose. ap code_of (facts.write_fault_comes rose);
    store_fault = λ code. facts.store_fault (replica_of ended) (store_of_code ended code);
    codes = is_code ended;
    idle = λ code. idle_of_code ended code facts.idle;
    untouched = λ code. untouched_of_code ended code facts.untouched;
    unarmed = λ code. idle_of_code ended code facts.unarmed;
    pairs = facts.pairs;
    line = line_of_code ended;
    replica = replica_of_code ended;
    counted = (facts.source_counted, facts.sink_counted);
  }

  -- where nothing was asked of the source and of the sink, no fault of theirs is told
  pub unasked_streams : seen.input.new ≡ seen.input.old → seen.output.new ≡ seen.output.old
      → (IsErrOf ended (Reading reading.Source) → ⊥) → (IsErrOf ended (Answering answering.Sink) → ⊥)
      → TellsOfStreams (seen.source.faults seen.input.old) (seen.source.faults seen.input.new)
      (seen.sink.faults seen.output.old) (seen.sink.faults seen.output.new) ended
  unasked_streams unread silent no_source no_sink = record {
    read_fault = λ is. absurd (no_source is);
    read_fault_comes = λ rose. absurd (omega (arith, rose, ap seen.source.faults unread));
    write_fault = λ is. absurd (no_sink is);
    write_fault_comes = λ rose. absurd (omega (arith, rose, ap seen.sink.faults silent));
    source_counted = omega (arith, ap seen.source.faults unread);
    sink_counted = omega (arith, ap seen.sink.faults silent);
  }

  -- the words were those of a mode
  pub used_code : AreUsed ended → code_of ended ≢ 1
  used_code used code = used word.Usage (usage_of_code ended code)

  module _ (grammar : Grammar) (excludes : Excludes grammar) (used : AreUsed ended)
      (read_fault : IsErrOf ended (Reading reading.Source) → SourceFailed seen)
      (takes : TakesAsEndedIn grammar (script_of seen) (left_of seen) ended) where
    reads_of : ReadsIn grammar seen (status_of ended)
    reads_of = record {
      too_long = too_long_of_code grammar (script_of seen) (left_of seen) ended used takes;
      too_long_comes = λ no_fault longer.
          too_long_comes grammar (script_of seen) (left_of seen) _ _ ended used takes read_fault no_fault longer;
      within = within_of_code grammar (script_of seen) (left_of seen) ended takes;
      bad_line = bad_line_told grammar (script_of seen) (left_of seen) ended takes;
      bad_line_comes = λ line no_fault within first.
          bad_line_comes grammar excludes (script_of seen) (left_of seen) within _ _ no_fault ended line used takes
          read_fault first;
    }

    -- a script is answered, unless memory was wanted
    script_done : IsStored ended → (IsErrOf ended (Answering answering.Sink) → SinkFailed seen) → HasIn grammar seen
        → (code_of ended ≡ 0) ⊎ (code_of ended ≡ 3)
    script_done stored write_fault script =
        complete_of_code grammar excludes (script_of seen) (left_of seen) script.within _ _ script.source ended
        script.commands _ _ used takes read_fault stored write_fault script.script script.sink

  script_answered : (stays : Type 0) (volume : Volume) (earlier : List Event)
      → TakesAsEnded (script_of seen) (left_of seen) ended → OnOk ended (AnswersOf seen volume earlier)
      → IfErr ended (λ fault. IsAnswering fault
      → AnswersFrontOf (fault ≡ Answering answering.Memory) seen volume earlier)
      → IfErr ended (λ fault. IsIdle fault → CarriesOutNothing stays seen.disk.armings seen.output.old
      seen.output.new (disks_before seen) (disks_after seen))
      → AnswersScript seen (status_of ended) stays volume earlier
  script_answered stays volume earlier takes answers front idle =
      let put = prefix_of_code (λ may. AnswersFrontOf may seen volume earlier) answers_where ended idle front in
      record {
        answers = λ code.
            (done_of_code ended code answers, nothing_left of_commands (script_of seen) (left_of seen) ended takes code);
        prefix = put.0;
        cut = put.1;
      }

  -- no disk has failed where no such fault of a volume was told
  abbrev pub Spares : Type 0
  Spares = (fault : WorldFault) → IsUnfailed fault → IsErrOf ended (Storing fault)
      → Steady seen.disk.faults (disks_before seen) (disks_after seen)

  -- what is known of a run that makes a volume of so many members
  makes_of : (members : ℕ) → TellsOfMaking seen.disk members ended (disks_before seen) (disks_after seen)
      → seen.disk.tells → MakesVolume members seen (status_of ended)
  makes_of members told tells = record {
    occupied = λ code. (told.occupied tells (replica_of ended) (occupied_of_code ended code)).0;
    is_member = λ code. (told.occupied tells (replica_of ended) (occupied_of_code ended code)).1;
    occupied_comes = λ r within first.
        refusal_comes ended (world.Occupied r) (told.occupied_comes tells r within first);
    held = told.held tells;
    rests = told.rests tells;
  }

  -- where nothing is done no disk has failed, unless the code says so
  unfailed_idle : Spares → IfErr ended (λ fault. IsUntouched fault → seen.disks.new ≡ seen.disks.old)
      → IfErr ended (λ fault. IsIdle fault → (code_of ended ≡ 6 → ⊥)
      → Steady seen.disk.faults (disks_before seen) (disks_after seen))
  unfailed_idle spared untouched = go ended refl untouched
    where
      same : seen.disks.new ≡ seen.disks.old → Steady seen.disk.faults (disks_before seen) (disks_after seen)
      same is =
          subst (λ (disks : Vec (Pair D) Global). Steady seen.disk.faults (disks_before seen) (vec_items disks)) (sym is)
          (steady_none seen.disk.faults (disks_before seen))

      go : (result : Result Done Fault) → ended ≡ result
          → IfErr result (λ fault. IsUntouched fault → seen.disks.new ≡ seen.disks.old)
          → IfErr result (λ fault. IsIdle fault → (code_of ended ≡ 6 → ⊥)
          → Steady seen.disk.faults (disks_before seen) (disks_after seen))
      go (Ok done) is none = tt
      go (Err (Words fault)) is none = λ idle other. same (none tt)
      go (Err (Reading fault)) is none = λ idle other. same (none tt)
      go (Err (Storing (world.Store r))) is none = λ idle other. absurd (other (ap code_of is))
      go (Err (Storing (world.Occupied r))) is none = λ idle other. spared (world.Occupied r) tt is
      go (Err (Storing (world.Image r))) is none = λ idle other. spared (world.Image r) tt is
      go (Err (Storing world.Memory)) is none = λ idle other. spared world.Memory tt is
      go (Err (Answering fault)) is none = λ idle. absurd idle

  unfailed_where : (made : Result Done Fault) → IfErr made IsOfMaking
      → OnOk made (Steady seen.disk.faults (disks_before seen) (disks_after seen))
      → ((fault : WorldFault) → IsUnfailed fault → IsErrOf made (Storing fault)
      → Steady seen.disk.faults (disks_before seen) (disks_after seen)) → (code_of made ≡ 6 → ⊥)
      → Steady seen.disk.faults (disks_before seen) (disks_after seen)
  unfailed_where (Ok done) making steady spared other = steady
  unfailed_where (Err (Words fault)) making steady spared other = absurd making
  unfailed_where (Err (Reading fault)) making steady spared other = absurd making
  unfailed_where (Err (Storing (world.Store r))) making steady spared other = absurd (other refl)
  unfailed_where (Err (Storing (world.Occupied r))) making steady spared other = spared (world.Occupied r) tt refl
  unfailed_where (Err (Storing (world.Image r))) making steady spared other = absurd making
  unfailed_where (Err (Storing world.Memory)) making steady spared other = spared world.Memory tt refl
  unfailed_where (Err (Answering fault)) making steady spared other = absurd making

  pub init_of : (size : Size) → IfErr ended IsOfMaking → seen.input.new ≡ seen.input.old
      → seen.output.new ≡ seen.output.old → Steady seen.disk.armings (disks_before seen) (disks_after seen)
      → ((r : ℕ) → IsErrOf ended (Storing (world.Store r))
      → IsAtFault seen.disk.faults (disks_before seen) (disks_after seen) r)
      → TellsOfMaking seen.disk size.members ended (disks_before seen) (disks_after seen)
      → (seen.disk.tells → OnOk ended (StandsOn kept_in seen.disk.seen (volume_of size) [] (disks_after seen)))
      → ((r : ℕ) → IsErrOf ended (Storing (world.Store r)) → r ≤ size.members)
      → OnOk ended (Steady seen.disk.faults (disks_before seen) (disks_after seen)) → Spares
      → (seen.disk.tells → AreSynced seen.disk.seen seen.disk.may_leave (disks_before seen) size.members
      → OnOk ended (AreSynced seen.disk.seen seen.disk.may_leave (disks_after seen) size.members))
      → (seen.disk.tells → AreEmpty seen.disk.seen (disks_before seen) size.members
      → AreSynced seen.disk.seen seen.disk.may_leave (disks_before seen) size.members
      → (fault : WorldFault) → IsErrOf ended (Storing fault)
      → AreMadeInPart kept_in seen.disk (volume_of size) (disks_before seen) (disks_after seen) fault)
      → OthersStay size.members (disks_before seen) (disks_after seen) → DoesInit size seen (status_of ended)
  init_of size making unread silent unarmed fault makes made member steady spared synced partly others = record {
    codes = making_code ended making;
    unread = unread;
    silent = silent;
    unarmed = unarmed;
    unfailed = unfailed_where ended making steady spared;
    member = λ code. member (replica_of ended) (store_of_code ended code);
    makes = makes_of size.members makes;
    made = λ tells code. done_of_code ended code (made tells);
    synced = λ tells code at_first. done_of_code ended code (synced tells at_first);
    wanted = λ tells code empty synced. partly tells empty synced world.Memory (memory_of_code ended making code);
    partly = λ tells code empty synced.
        partly tells empty synced (world.Store (replica_of ended)) (store_of_code ended code);
    others = others;
    complete = λ tells empty none. made_of_code ended making (record {
      store = λ r is. not_at_fault none r (fault r is);
      image = making_opens_nothing ended making;
      occupied = λ r is. not_occupied empty (makes.occupied tells r is).0 (makes.occupied tells r is).1;
    });
  }

  pub init_ends : IfErr ended IsOfMaking → seen.input.new ≡ seen.input.old
      → seen.output.new ≡ seen.output.old → Steady seen.disk.armings (disks_before seen) (disks_after seen)
      → ((r : ℕ) → IsErrOf ended (Storing (world.Store r))
      → IsAtFault seen.disk.faults (disks_before seen) (disks_after seen) r) → EndsAsAny seen (status_of ended)
  init_ends making unread silent unarmed fault = any_of (record {
    streams = unasked_streams unread silent (making_reads_nothing ended making) (making_puts_nothing ended making);
    store_fault = fault;
    idle = if_idle ended silent;
    unarmed = if_idle ended unarmed;
    untouched = making_touches _ ended making;
    pairs = unarmed.count;
  })

  pub run_of : AreUsed ended → EndedAsAny → TellsOfOpening seen.disk ended (disks_before seen) (disks_after seen)
      → (seen.source.tells → TakesAsEnded (script_of seen) (left_of seen) ended)
      → (seen.source.tells → seen.disk.tells → OnOk ended ((volume : Volume) (H : List Event)
      → StandsOn kept_in seen.disk.seen volume H (disks_before seen) → AnswersOf seen volume H))
      → (seen.source.tells → seen.disk.tells → IfErr ended (λ fault. IsAnswering fault
      → (volume : Volume) (H : List Event) → StandsOn kept_in seen.disk.seen volume H (disks_before seen)
      → AnswersFrontOf (fault ≡ Answering answering.Memory) seen volume H))
      → IfErr ended (λ fault. IsIdle fault → CarriesOutNothing (HoldsSame seen) seen.disk.armings seen.output.old
      seen.output.new (disks_before seen) (disks_after seen))
      → ((r : ℕ) → IsErrOf ended (Storing (world.Occupied r)) → ⊥)
      → (seen.source.tells → seen.disk.tells → OnOk ended ((volume : Volume) (H : List Event)
      → StandsOn kept_in seen.disk.seen volume H (disks_before seen)
      → CrashesKeep kept_in seen.disk.may_leave volume H (disks_before seen) → KilledOf seen volume H))
      → (seen.source.tells → seen.disk.tells → IfErr ended (λ fault. IsAnswering fault
      → (volume : Volume) (H : List Event) → StandsOn kept_in seen.disk.seen volume H (disks_before seen)
      → CrashesKeep kept_in seen.disk.may_leave volume H (disks_before seen)
      → KilledFrontOf (fault ≡ Answering answering.Memory) seen volume H))
      → DoesRun seen (status_of ended)
  run_of used any opens takes answers front idle never_occupied killed killed_front = record {
    codes = run_code ended used never_occupied;
    reads = λ tells. reads_of of_commands excludes_commands used any.read_fault (takes tells);
    image = λ tells code. opens.image tells (replica_of ended) (image_of_code ended code);
    image_comes = λ tells r bad. refusal_comes ended (world.Image r) (opens.image_comes tells r bad);
    unfailed = λ code. opens.spared (world.Image (replica_of ended)) tt (image_of_code ended code);
    unwritten = λ codes. (idle_of_code ended (idle_either codes) idle).besides;
    answers = λ tells told volume H stands.
        script_answered (StaysUnopened seen (status_of ended)) volume H (takes tells)
        (on_ok ended (λ all. all volume H stands) (answers tells told))
        (on_fault ended (λ fault all is. all is volume H stands) (front tells told)) unopened;
    opens = λ tells volume H stands code.
        opens.never_image tells volume H stands (replica_of ended) (image_of_code ended code);
    earlier = λ tells r bad code. opens.earlier tells (replica_of ended) r (store_of_code ended code) bad;
    member = λ tells first at code. opens.member tells (replica_of ended) (store_of_code ended code) first at;
    others = opens.others;
    complete = λ tells told volume H stands script none.
        script_done of_commands excludes_commands used any.read_fault (takes tells) (record {
          store = λ r is. not_at_fault none r (any.store_fault r is);
          image = opens.never_image told volume H stands;
          occupied = never_occupied;
        }) any.write_fault script;
    rests = λ code. idle_of_code ended code opens.rests;
    killed = λ tells told volume H stands crashes.
        let put = prefix_of_code (λ may. KilledFrontOf may seen volume H) killed_where ended unopened
        (on_fault ended (λ fault all is. all is volume H stands crashes) (killed_front tells told)) in
        record {
          whole = λ code. done_of_code ended code
              (on_ok ended (λ all. all volume H stands crashes) (killed tells told));
          prefix = put.0;
          cut = put.1;
        };
  }
    where
      unopened : IfErr ended (λ fault. IsIdle fault
          → CarriesOutNothing (StaysUnopened seen (status_of ended)) seen.disk.armings seen.output.old
          seen.output.new (disks_before seen) (disks_after seen))
      unopened = go ended idle opens.rests (unfailed_idle opens.spared any.untouched)
        where
          go : (result : Result Done Fault)
              → IfErr result (λ fault. IsIdle fault → CarriesOutNothing (HoldsSame seen) seen.disk.armings
              seen.output.old seen.output.new (disks_before seen) (disks_after seen))
              → IfErr result (λ fault. IsIdle fault → AllRest seen.disk (disks_before seen) (disks_after seen))
              → IfErr result (λ fault. IsIdle fault → (code_of ended ≡ 6 → ⊥)
              → Steady seen.disk.faults (disks_before seen) (disks_after seen))
              → IfErr result (λ fault. IsIdle fault
              → CarriesOutNothing (StaysUnopened seen (status_of ended)) seen.disk.armings seen.output.old
              seen.output.new (disks_before seen) (disks_after seen))
          go (Ok done) nothing rest unfailed = tt
          go (Err fault) nothing rest unfailed = λ is.
              let so = nothing is in
              record {
                put = so.put;
                unarmed = so.unarmed;
                besides = record { same = so.besides; rests = rest is; unfailed = unfailed is };
              }

      on_ok : {P Q : Type 0} (result : Result Done Fault) → (P → Q) → OnOk result P → OnOk result Q
      on_ok (Ok done) makes holds = makes holds
      on_ok (Err fault) makes holds = tt

      on_fault : {P Q : Fault → Type 0} (result : Result Done Fault) → ((fault : Fault) → P fault → Q fault)
          → IfErr result P → IfErr result Q
      on_fault (Ok done) makes holds = tt
      on_fault (Err fault) makes holds = makes fault holds

  -- what is made where no command was carried out, by the fault that ended the run
  abbrev pub MadeAsEnded : Size → Type 0
  MadeAsEnded size = (fault : WorldFault) → IsErrOf ended (Storing fault)
      → AreMadeFirst kept_in seen.disk (volume_of size) size.members (disks_before seen) (disks_after seen)
      ⊎ AreMadeInPart kept_in seen.disk (volume_of size) (disks_before seen) (disks_after seen) fault

  some_made_so : (size : Size) (fault : Fault) → ended ≡ Err fault → IsIdle fault
      → (IsUntouched fault → seen.disks.new ≡ seen.disks.old) → MadeAsEnded size → code_of ended ≡ 3
      → SomeAreMade kept_in seen.disk (volume_of size) (disks_before seen) (disks_after seen)
  some_made_so size fault is idle same made code = go fault is idle same
    where
      none : seen.disks.new ≡ seen.disks.old
          → SomeAreMade kept_in seen.disk (volume_of size) (disks_before seen) (disks_after seen)
      none untouched =
          none_made kept_in seen.disk (volume_of size) (disks_before seen) (disks_after seen)
          (subst (λ (disks : Vec (Pair D) Global). AllRest seen.disk (disks_before seen) (vec_items disks))
          (sym untouched) (all_rest_none seen.disk (disks_before seen)))

      go : (fault : Fault) → ended ≡ Err fault → IsIdle fault
          → (IsUntouched fault → seen.disks.new ≡ seen.disks.old)
          → SomeAreMade kept_in seen.disk (volume_of size) (disks_before seen) (disks_after seen)
      go (Words fault) is idle same = none (same tt)
      go (Reading fault) is idle same = none (same tt)
      go (Storing (world.Store r)) is idle same =
          let other : code_of ended ≡ 6 = ap code_of is in
          absurd (omega (arith, code, other))
      go (Storing (world.Occupied r)) is idle same =
          let other : code_of ended ≡ 9 = ap code_of is in
          absurd (omega (arith, code, other))
      go (Storing (world.Image r)) is idle same =
          let other : code_of ended ≡ 7 = ap code_of is in
          absurd (omega (arith, code, other))
      go (Storing world.Memory) is idle same = elim (made world.Memory is) [
        | inl all ↦ record { count = size.members; first = all }
        | inr some ↦ some
      ]
      go (Answering fault) is idle same = absurd idle

  made_so : (size : Size) (fault : Fault) → ended ≡ Err fault → IsIdle fault
      → (IsUntouched fault → seen.disks.new ≡ seen.disks.old) → MadeAsEnded size
      → IsMadeSo size seen (status_of ended)
  made_so size fault is idle same made = record {
    wanted = some_made_so size fault is idle same made;
    failed = λ code. made (world.Store (replica_of ended)) (store_of_code ended code);
  }

  pub replay_of : (size : Size) → AreUsed ended → EndedAsAny
      → TellsOfMaking seen.disk size.members ended (disks_before seen) (disks_after seen)
      → (seen.source.tells → TakesAsEnded (script_of seen) (left_of seen) ended)
      → (seen.source.tells → seen.disk.tells → OnOk ended (AnswersOf seen (volume_of size) []))
      → (seen.source.tells → seen.disk.tells → IfErr ended (λ fault. IsAnswering fault
      → AnswersFrontOf (fault ≡ Answering answering.Memory) seen (volume_of size) []))
      → IfErr ended (λ fault. IsIdle fault → CarriesOutNothing (Unit {0}) seen.disk.armings seen.output.old
      seen.output.new (disks_before seen) (disks_after seen))
      → (seen.disk.tells_fuse → AreUnarmed seen.disk.fuse (disks_before seen) → (r : ℕ)
      → IsErrOf ended (Storing (world.Store r)) → ⊥)
      → (seen.disk.tells → (r : ℕ) → IsErrOf ended (Storing (world.Image r)) → ⊥)
      → Spares
      → (seen.disk.tells → AreEmpty seen.disk.seen (disks_before seen) size.members
      → AreSynced seen.disk.seen seen.disk.may_leave (disks_before seen) size.members → MadeAsEnded size)
      → (seen.disk.tells → (r : ℕ) → IsErrOf ended (Storing (world.Store r)) → r ≤ size.members)
      → (seen.disk.tells → OthersRest seen.disk size.members (disks_before seen) (disks_after seen))
      → DoesReplay size seen (status_of ended)
  replay_of size used any makes takes answers front idle unfailing never spared partly member others = record {
    codes = replay_code ended used;
    reads = λ tells. reads_of of_commands excludes_commands used any.read_fault (takes tells);
    makes = makes_of size.members makes;
    unfailed = λ codes. elim codes [
      | inl image ↦ spared (world.Image (replica_of ended)) tt (image_of_code ended image)
      | inr occupied ↦ spared (world.Occupied (replica_of ended)) tt (occupied_of_code ended occupied)
    ];
    opens = λ tells code. never tells (replica_of ended) (image_of_code ended code);
    answers = λ tells told.
        script_answered (StaysUnmade size seen (status_of ended)) (volume_of size) [] (takes tells) (answers tells told)
        (front tells told) (idle_both ended
        (λ nothing unmade. record { put = nothing.put; unarmed = nothing.unarmed; besides = unmade }) idle unmade);
    unmade = λ code. idle_of_code ended (inr (inr (inl code))) unmade;
    member = λ tells code. member tells (replica_of ended) (store_of_code ended code);
    others = others;
    complete = λ tells told empty script none.
        done tells told empty (λ r is. not_at_fault none r (any.store_fault r is)) script;
    complete_by_fuses = λ tells told fused empty unarmed script.
        done tells told empty (unfailing fused unarmed) script;
  }
    where
      -- a script is answered where the disks are empty and none fails, unless memory was wanted
      done : seen.source.tells → seen.disk.tells → AreEmpty seen.disk.seen (disks_before seen) size.members
          → ((r : ℕ) → IsErrOf ended (Storing (world.Store r)) → ⊥) → HasIn of_commands seen
          → (code_of ended ≡ 0) ⊎ (code_of ended ≡ 3)
      done tells told empty none script =
          script_done of_commands excludes_commands used any.read_fault (takes tells) (record {
            store = none;
            image = never told;
            occupied = λ r is. not_occupied empty (makes.occupied told r is).0 (makes.occupied told r is).1;
          }) any.write_fault script

      unmade : IfErr ended (λ fault. IsIdle fault → StaysUnmade size seen (status_of ended))
      unmade = go ended refl (unfailed_idle spared any.untouched) any.untouched
        where
          go : (result : Result Done Fault) → ended ≡ result
              → IfErr result (λ fault. IsIdle fault → (code_of ended ≡ 6 → ⊥)
              → Steady seen.disk.faults (disks_before seen) (disks_after seen))
              → IfErr result (λ fault. IsUntouched fault → seen.disks.new ≡ seen.disks.old)
              → IfErr result (λ fault. IsIdle fault → StaysUnmade size seen (status_of ended))
          go (Ok done) is unfailed same = tt
          go (Err fault) is unfailed same = λ idle. record {
            partly = λ tells empty synced. made_so size fault is idle same (partly tells empty synced);
            unfailed = unfailed idle;
          }

module _ {Done : Type 0} where
  -- what joining volumes doesn't end with
  joining_used : (ended : Result Done Fault) → IfErr ended IsOfJoining → AreUsed ended
  joining_used (Ok done) joining = λ fault is. cc
  joining_used (Err (Words fault)) joining = absurd joining
  joining_used (Err (Reading fault)) joining = λ other is. cc
  joining_used (Err (Storing fault)) joining = absurd joining
  joining_used (Err (Answering fault)) joining = λ other is. cc

  joining_stores_nothing : (ended : Result Done Fault) (fault : WorldFault) → IfErr ended IsOfJoining
      → IsErrOf ended (Storing fault) → ⊥
  joining_stores_nothing (Ok done) fault joining is = cc
  joining_stores_nothing (Err (Words other)) fault joining is = joining
  joining_stores_nothing (Err (Reading other)) fault joining is = cc
  joining_stores_nothing (Err (Storing other)) fault joining is = joining
  joining_stores_nothing (Err (Answering other)) fault joining is = cc

  joining_code : (ended : Result Done Fault) → IfErr ended IsOfJoining → IsVolumesCode (code_of ended)
  joining_code (Ok done) joining = inl refl
  joining_code (Err (Words fault)) joining = absurd joining
  joining_code (Err (Reading (reading.BadLine line))) joining = inr (inl refl)
  joining_code (Err (Reading reading.Memory)) joining = inr (inr (inl refl))
  joining_code (Err (Reading reading.Source)) joining = inr (inr (inr (inl refl)))
  joining_code (Err (Reading reading.TooLong)) joining = inr (inr (inr (inr (inr refl))))
  joining_code (Err (Storing fault)) joining = absurd joining
  joining_code (Err (Answering answering.Memory)) joining = inr (inr (inl refl))
  joining_code (Err (Answering answering.Sink)) joining = inr (inr (inr (inr (inl refl))))

module _ {S K D Done : Type 0} (seen : Seen S K D) (ended : Result Done Fault) (joining : IfErr ended IsOfJoining)
    (untouched : seen.disks.new ≡ seen.disks.old)
    (streams : TellsOfStreams (seen.source.faults seen.input.old) (seen.source.faults seen.input.new)
    (seen.sink.faults seen.output.old) (seen.sink.faults seen.output.new) ended)
    (idle : IfErr ended (λ fault. IsIdle fault → seen.output.new ≡ seen.output.old)) where
  unarmed_still : Steady seen.disk.armings (disks_before seen) (disks_after seen)
  unarmed_still =
      subst (λ (disks : Vec (Pair D) Global). Steady seen.disk.armings (disks_before seen) (vec_items disks))
      (sym untouched) (steady_none seen.disk.armings (disks_before seen))

  if_any : {P : Type 0} (Q : Fault → Type 0) → P → (result : Result Done Fault) → IfErr result (λ fault. Q fault → P)
  if_any Q holds (Ok done) = tt
  if_any Q holds (Err fault) = λ is. holds

  any_joined : EndedAsAny seen ended
  any_joined = record {
    streams = streams;
    store_fault = λ r is. absurd (joining_stores_nothing ended (world.Store r) joining is);
    idle = idle;
    unarmed = if_any IsIdle unarmed_still ended;
    untouched = if_any IsUntouched untouched ended;
    pairs = unarmed_still.count;
  }

  pub joined_used : AreUsed ended
  joined_used = joining_used ended joining

  pub joined_ends : EndsAsAny seen (status_of ended)
  joined_ends = any_of seen ended any_joined

  pub volumes_of : (size : Size) (count : ℕ)
      → (seen.source.tells → TakesAsEndedIn (of_volumes count) (script_of seen) (left_of seen) ended)
      → (seen.source.tells → OnOk ended (AnswersVolumesOf seen size count))
      → (seen.source.tells → IfErr ended (λ fault. IsAnswering fault → AnswersVolumesFrontOf seen size count))
      → DoesVolumes size count seen (status_of ended)
  volumes_of size count takes answers front = record {
    codes = joining_code ended joining;
    reads = λ tells.
        reads_of seen ended (of_volumes count) (excludes_volumes count) joined_used streams.read_fault (takes tells);
    untouched = untouched;
    answers = λ tells code. (
      done_of_code ended code (answers tells),
      nothing_left (of_volumes count) (script_of seen) (left_of seen) ended (takes tells) code,
    );
    prefix = λ tells. (put tells).0;
    cut = λ tells. (put tells).1;
    complete = λ tells script.
        script_done seen ended (of_volumes count) (excludes_volumes count) joined_used streams.read_fault (takes tells)
        (record {
          store = λ r is. joining_stores_nothing ended (world.Store r) joining is;
          image = λ r is. joining_stores_nothing ended (world.Image r) joining is;
          occupied = λ r is. joining_stores_nothing ended (world.Occupied r) joining is;
        }) streams.write_fault script;
  }
    where
      put : seen.source.tells → (code_of ended ≡ 5 → AnswersVolumesFrontOf seen size count)
          × (code_of ended ≡ 3 → (seen.output.new ≡ seen.output.old) ⊎ AnswersVolumesFrontOf seen size count)
      put tells =
          prefix_of_code (λ may. AnswersVolumesFrontOf seen size count) (λ may other further same. same) ended idle
          (front tells)

-- a summary ends with no code of a run in which nothing was done
summary_code : {code : ℕ} → IsGenCode code → IsCode code
summary_code (inl zero) = inl zero
summary_code (inr (inl three)) = inr (inr (inr (inl three)))
summary_code (inr (inr five)) = inr (inr (inr (inr (inr (inl five)))))

summary_not_idle : {code : ℕ} → IsGenCode code → IsIdleCode code → ⊥
summary_not_idle codes idle = grind arith

module _ {S K D : Type 0} (seen : Seen S K D) (status : Status) (codes : IsGenCode status.code) where
  pub summary_used : status.code ≢ 1
  summary_used one = summary_not_idle codes (inl (inl one))

  pub summary_ends : seen.input.new ≡ seen.input.old → seen.disks.new ≡ seen.disks.old
      → (status.code ≡ 5 → SinkFailed seen)
      → (seen.sink.faults seen.output.old < seen.sink.faults seen.output.new → status.code ≡ 5)
      → (status.line ≡ 0) × (status.replica ≡ 0)
      → seen.sink.faults seen.output.old ≤ seen.sink.faults seen.output.new → EndsAsAny seen status
  summary_ends unread untouched write_fault comes numbers counted = record {
    read_fault = λ four. absurd (summary_not_idle codes (inl (inr (inl four))));
    read_fault_comes = λ rose. absurd (omega (arith, rose, ap seen.source.faults unread));
    write_fault = write_fault;
    write_fault_comes = comes;
    store_fault = λ six. absurd (summary_not_idle codes (inr (inr (inl six))));
    codes = summary_code codes;
    idle = λ idle. absurd (summary_not_idle codes idle);
    untouched = λ none. untouched;
    unarmed = λ idle. absurd (summary_not_idle codes idle);
    pairs = ap (λ (disks : Vec (Pair D) Global). length (vec_items disks)) untouched;
    line = λ other. numbers.0;
    replica = λ none. numbers.1;
    counted = (omega (arith, ap seen.source.faults unread), counted);
  }

-- where memory was refused before anything was asked of the outside, all is as each mode does
module _ {S K D : Type 0} (seen : Seen S K D) (unread : seen.input.new ≡ seen.input.old)
    (silent : seen.output.new ≡ seen.output.old) (untouched : seen.disks.new ≡ seen.disks.old) where
  -- so it ends, like a script that wasn't read, or a volume that wasn't made
  abbrev unread_end : Result (Unit {0}) Fault
  unread_end = Err (Reading reading.Memory)

  abbrev unmade_end : Result (Unit {0}) Fault
  unmade_end = Err (Storing world.Memory)

  unarmed : Steady seen.disk.armings (disks_before seen) (disks_after seen)
  unarmed =
      subst (λ (disks : Vec (Pair D) Global). Steady seen.disk.armings (disks_before seen) (vec_items disks))
      (sym untouched) (steady_none seen.disk.armings (disks_before seen))

  held : HoldsSame seen
  held = λ tells.
      subst (λ (disks : Vec (Pair D) Global). Steady seen.disk.seen (disks_before seen) (vec_items disks))
      (sym untouched) (steady_none seen.disk.seen (disks_before seen))

  unfailed_now : Steady seen.disk.faults (disks_before seen) (disks_after seen)
  unfailed_now =
      subst (λ (disks : Vec (Pair D) Global). Steady seen.disk.faults (disks_before seen) (vec_items disks))
      (sym untouched) (steady_none seen.disk.faults (disks_before seen))

  rests_now : AllRest seen.disk (disks_before seen) (disks_after seen)
  rests_now =
      subst (λ (disks : Vec (Pair D) Global). AllRest seen.disk (disks_before seen) (vec_items disks))
      (sym untouched) (all_rest_none seen.disk (disks_before seen))

  others_now : (count : ℕ) → OthersStay count (disks_before seen) (disks_after seen)
  others_now count =
      subst (λ (disks : Vec (Pair D) Global). OthersStay count (disks_before seen) (vec_items disks))
      (sym untouched) (others_none count (disks_before seen))

  -- memory alone was wanted
  made_of_memory : {kept : List ℕ → List ℕ → Option Kept} {volume : Volume} (fault : WorldFault)
      → IsErrOf {T = Unit {0}} (Err (Storing world.Memory)) (Storing fault)
      → SomeAreMade kept seen.disk volume (disks_before seen) (disks_after seen)
      → AreMadeInPart kept seen.disk volume (disks_before seen) (disks_after seen) fault
  made_of_memory (world.Store r) is some = absurd (cc is)
  made_of_memory (world.Occupied r) is some = absurd (cc is)
  made_of_memory (world.Image r) is some = absurd (cc is)
  made_of_memory world.Memory is some = some

  takes : TakesUntil (script_of seen) (left_of seen) reading.Memory
  takes = record {
    count = 0;
    gives = omega (arith, ap (λ (left : List ℕ). length left) (ap seen.source.left unread));
    below = omega arith;
  }

  opening_now : TellsOfOpening {Done = Unit {0}} seen.disk unread_end (disks_before seen) (disks_after seen)
  opening_now =
      subst (λ (disks : Vec (Pair D) Global). TellsOfOpening {Done = Unit {0}} seen.disk unread_end (disks_before seen)
      (vec_items disks)) (sym untouched) (opening_unread seen.disk reading.Memory (disks_before seen))

  making_now : (fault : Fault) → IsInterruption fault → (members : ℕ)
      → TellsOfMaking {Done = Unit {0}} seen.disk members (Err fault) (disks_before seen) (disks_after seen)
  making_now fault interrupts members =
      subst (λ (disks : Vec (Pair D) Global). TellsOfMaking {Done = Unit {0}} seen.disk members (Err fault)
      (disks_before seen) (vec_items disks)) (sym untouched)
      (making_unasked seen.disk members fault interrupts (disks_before seen))

  -- no fault of the outside is told
  asked_nothing : (fault : Fault) → (IsErrOf {T = Unit {0}} (Err fault) (Reading reading.Source) → ⊥)
      → (IsErrOf {T = Unit {0}} (Err fault) (Answering answering.Sink) → ⊥)
      → ((r : ℕ) → IsErrOf {T = Unit {0}} (Err fault) (Storing (world.Store r)) → ⊥)
      → EndedAsAny {Done = Unit {0}} seen (Err fault)
  asked_nothing fault no_source no_sink no_store = record {
    streams = unasked_streams seen (Err fault) unread silent no_source no_sink;
    store_fault = λ r is. absurd (no_store r is);
    idle = λ idle. silent;
    unarmed = λ idle. unarmed;
    untouched = λ none. untouched;
    pairs = unarmed.count;
  }

  any : EndedAsAny seen unread_end
  any = asked_nothing (Reading reading.Memory) (λ is. cc is) (λ is. cc is) (λ r is. cc is)

  used : AreUsed unread_end
  used = λ fault is. cc is

  pub nothing_done : (mode : Mode) → Does mode seen (record { code = 3; line = 0; replica = 0 })
  nothing_done (Init size root) =
      init_of seen unmade_end size tt unread silent unarmed (λ r is. absurd (cc is))
      (making_now (Storing world.Memory) tt size.members) (λ tells. tt) (λ r is. absurd (cc is)) tt
      (λ fault unfailed is. unfailed_now) (λ tells at_first. tt)
      (λ tells empty synced fault is.
      made_of_memory fault is
      (none_made kept_in seen.disk (volume_of size) (disks_before seen) (disks_after seen) rests_now))
      (others_now size.members)
  nothing_done (Run root) =
      run_of seen unread_end used any opening_now (λ tells. takes) (λ tells told. tt) (λ tells told is. absurd is)
      (λ idle. record { put = silent; unarmed = unarmed; besides = held }) (λ r is. cc) (λ tells told. tt)
      (λ tells told is. absurd is)
  nothing_done (Check root) = record {
    codes = inr (inl refl);
    unread = unread;
    unwritten = record { rests = rests_now; same = held; unarmed = unarmed };
    unfailed = λ other. unfailed_now;
    told = λ tells code. absurd (cc code);
    prefix = λ tells code. absurd (cc code);
    silent = λ codes. silent;
    complete = λ sink none. inr refl;
  }
  nothing_done (Replay size) =
      replay_of seen unread_end size used any (making_now (Reading reading.Memory) tt size.members) (λ tells. takes)
      (λ tells told. tt) (λ tells told is. absurd is)
      (λ idle. record { put = silent; unarmed = unarmed; besides = tt }) (λ fused none r is. cc) (λ tells r is. cc)
      (λ fault unfailed is. unfailed_now)
      (λ tells empty synced fault is. absurd (cc is))
      (λ tells r is. absurd (cc is))
      (λ tells. all_others_rest seen.disk size.members (disks_before seen) (disks_after seen) rests_now)
  nothing_done (Volumes size count) = record {
    codes = inr (inr (inl refl));
    reads = λ tells.
        reads_of seen unread_end (of_volumes count) (excludes_volumes count) used (λ is. absurd (cc is)) takes;
    untouched = untouched;
    answers = λ tells code. absurd (cc code);
    prefix = λ tells code. absurd (cc code);
    cut = λ tells code. inl silent;
    complete = λ tells script. inr refl;
  }
  nothing_done (Gen members seed steps) = record {
    codes = inr (inl refl);
    unread = unread;
    untouched = untouched;
    told = λ tells code. absurd (cc code);
    prefix = λ tells code. absurd (cc code);
    silent = λ code. silent;
  }

  -- and so it ends where the words were refused
  pub refused : (words : List Text) (fault : WordsFault) → (fault ≡ word.Usage → AreNoWords words)
      → RunsProgram words seen (status_of {Done = Unit {0}} (Err (Words fault)))
  refused words word.Usage none = record {
    usage = λ code. none refl;
    usage_comes = λ no_words. inl refl;
    unasked = λ no_words. (unread, silent, untouched);
    does = λ mode are. absurd (none refl mode are);
    ends = any_of seen (Err (Words word.Usage)) (asked_nothing (Words word.Usage) (λ is. cc is) (λ is. cc is)
        (λ r is. cc is));
  }
  refused words word.Memory none = record {
    usage = λ code. absurd (cc code);
    usage_comes = λ no_words. inr refl;
    unasked = λ no_words. (unread, silent, untouched);
    does = λ mode are. nothing_done mode;
    ends = any_of seen (Err (Words word.Memory)) (asked_nothing (Words word.Memory) (λ is. cc is) (λ is. cc is)
        (λ r is. cc is));
  }
