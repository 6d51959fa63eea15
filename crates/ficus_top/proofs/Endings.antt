-- What is known of a run by how it ended: what was taken, and that it comes to an end.
use Rattle.std.proofs.Common.{◌≡◌, ◌⊎◌, ◌↔◌, ℕ, ◌+◌, ◌<◌, ◌≤◌, List, [], length, Result, Ok, Err, refl, inl, inr, arith}
use Rattle.std.specs.Prelude.{IfErr, IsErrAnd, IsErrOf}
use Rattle.ficus_faults.specs.Faults.{Rose}
use Rattle.ficus_script.proofs.ScriptLaws.{no_bad_line, no_bad_volume_line, one_bad_line, one_bad_volume_line}
use Rattle.ficus_top.specs.Codes.{IsBadLineCode, IsReadCode, IsRefusalCode}
use Rattle.ficus_top.specs.Ending.{IsInterruption, IsOfMaking, TakesAsEndedIn}
use Rattle.ficus_top.specs.Grammar.{Grammar, of_commands, of_volumes}
use Rattle.ficus_top.specs.Outside.{GivesCount}
use Rattle.ficus_top.specs.Reading.{TakesUntil, TakesUntilIn}
use Rattle.ficus_loop.specs.Serving.{script_limit}
use Rattle.ficus_top.specs.Status.{code_of, line_of, replica_of}
use Rattle.ficus_top.specs.declared.fault.Fault.{Fault}
use Rattle.ficus_top.specs.declared.fault.Fault.TheVariants.{Words, Reading, Storing, Answering}
use Rattle.ficus_top.specs.declared.fault.ReadingFault.{ReadingFault}
use Rattle.ficus_top.specs.declared.fault.ReadingFault.TheVariants.{BadLine, Memory, Source, TooLong}
use Rattle.ficus_loop.specs.declared.fault.AnsweringFault.TheVariants.{Memory as NoMemory, Sink}
use Rattle.ficus_words.specs.declared.fault.WordsFault.{WordsFault}
use Rattle.ficus_words.specs.declared.fault.WordsFault.TheVariants as word
use Rattle.ficus_opening.specs.declared.fault.WorldFault.{WorldFault}
use Rattle.ficus_opening.specs.declared.fault.WorldFault.TheVariants as world

one_unread : IsReadCode 1 → ⊥
one_unread code = grind arith

three_unread : IsReadCode 3 → ⊥
three_unread code = grind arith

four_unread : IsReadCode 4 → ⊥
four_unread code = grind arith

eight_unread : IsReadCode 8 → ⊥
eight_unread code = grind arith

-- no volume was refused, and no disk failed: want of memory alone may have kept it from being made or opened
pub record IsStored {Done : Type 0} (ended : Result Done Fault) : Type 0 where
  pub store : (r : ℕ) → IsErrOf ended (Storing (world.Store r)) → ⊥
  pub image : (r : ℕ) → IsErrOf ended (Storing (world.Image r)) → ⊥
  pub occupied : (r : ℕ) → IsErrOf ended (Storing (world.Occupied r)) → ⊥

-- the words were read, and they were those of a mode
abbrev pub AreUsed : {Done : Type 0} → Result Done Fault → Type 0
AreUsed ended = (fault : WordsFault) → IsErrOf ended (Words fault) → ⊥

-- bytes with a first bad line are the script of nothing, and have one such line
pub record Excludes (grammar : Grammar) : Type 0 where
  pub no_line : (bytes : List ℕ) (commands : List grammar.Line) (line : ℕ) → grammar.IsOf bytes commands
      → grammar.IsFirstBad bytes line → ⊥
  pub one_line : (bytes : List ℕ) (line other : ℕ) → grammar.IsFirstBad bytes line → grammar.IsFirstBad bytes other
      → line ≡ other

pub excludes_commands : Excludes of_commands
excludes_commands = record { no_line = no_bad_line; one_line = one_bad_line }

pub excludes_volumes : (count : ℕ) → Excludes (of_volumes count)
excludes_volumes count = record { no_line = no_bad_volume_line count; one_line = one_bad_volume_line count }

-- but for a bad line, what was taken is the same in each grammar
pub takes_in : (grammar : Grammar) (old new : List ℕ) (fault : ReadingFault) → ((line : ℕ) → fault ≡ BadLine line → ⊥)
    → TakesUntil old new fault → TakesUntilIn grammar old new fault
takes_in grammar old new (BadLine line) no_line takes = absurd (no_line line refl)
takes_in grammar old new TooLong no_line takes = takes
takes_in grammar old new Source no_line takes = takes
takes_in grammar old new Memory no_line takes = takes

module _ {Done : Type 0} (grammar : Grammar) where
  -- where the code is that of a script that was read, the source had no more bytes than a script may have
  pub within_of_code : (script left : List ℕ) (ended : Result Done Fault) → TakesAsEndedIn grammar script left ended
      → IsReadCode (code_of ended) → length script ≤ script_limit
  within_of_code script left (Ok done) takes code = takes.all.within
  within_of_code script left (Err (Words word.Usage)) takes code = absurd (one_unread code)
  within_of_code script left (Err (Words word.Memory)) takes code = absurd (three_unread code)
  within_of_code script left (Err (Reading (BadLine line))) takes code = takes.0.within
  within_of_code script left (Err (Reading Memory)) takes code = absurd (three_unread code)
  within_of_code script left (Err (Reading Source)) takes code = absurd (four_unread code)
  within_of_code script left (Err (Reading TooLong)) takes code = absurd (eight_unread code)
  within_of_code script left (Err (Storing fault)) takes code = takes.all.within
  within_of_code script left (Err (Answering fault)) takes code = takes.all.within

  -- the script is too long exactly where the source gave a byte more than one may have
  pub too_long_of_code : (script left : List ℕ) (ended : Result Done Fault) → AreUsed ended
      → TakesAsEndedIn grammar script left ended → (code_of ended ≡ 8) ↔ GivesCount script (script_limit + 1) left
  too_long_of_code script left (Ok done) words takes =
      (λ code. absurd (cc), λ gives. absurd (omega (arith, takes.all.within)))
  too_long_of_code script left (Err (Words fault)) words takes = absurd (words fault refl)
  too_long_of_code script left (Err (Reading (BadLine line))) words takes =
      (λ code. absurd (cc), λ gives. absurd (omega (arith, takes.0.within)))
  too_long_of_code script left (Err (Reading Memory)) words takes =
      (λ code. absurd (cc), λ gives. absurd (omega (arith, takes.gives, takes.below)))
  too_long_of_code script left (Err (Reading Source)) words takes =
      (λ code. absurd (cc), λ gives. absurd (omega (arith, takes.gives, takes.below)))
  too_long_of_code script left (Err (Reading TooLong)) words takes = (λ code. takes, λ gives. refl)
  too_long_of_code script left (Err (Storing world.Memory)) words takes =
      (λ code. absurd (cc), λ gives. absurd (omega (arith, takes.all.within)))
  too_long_of_code script left (Err (Storing (world.Store r))) words takes =
      (λ code. absurd (cc), λ gives. absurd (omega (arith, takes.all.within)))
  too_long_of_code script left (Err (Storing (world.Image r))) words takes =
      (λ code. absurd (cc), λ gives. absurd (omega (arith, takes.all.within)))
  too_long_of_code script left (Err (Storing (world.Occupied r))) words takes =
      (λ code. absurd (cc), λ gives. absurd (omega (arith, takes.all.within)))
  too_long_of_code script left (Err (Answering NoMemory)) words takes =
      (λ code. absurd (cc), λ gives. absurd (omega (arith, takes.all.within)))
  too_long_of_code script left (Err (Answering Sink)) words takes =
      (λ code. absurd (cc), λ gives. absurd (omega (arith, takes.all.within)))

  -- where the source has more bytes than a script may have, it is too long, it has failed, or memory was wanted
  pub too_long_comes : (script left : List ℕ) (before after : ℕ) (ended : Result Done Fault)
      → AreUsed ended → TakesAsEndedIn grammar script left ended → (IsErrOf ended (Reading Source) → Rose before after)
      → (Rose before after → ⊥) → script_limit < length script → (code_of ended ≡ 8) ⊎ (code_of ended ≡ 3)
  too_long_comes script left before after (Ok done) words takes fault no_fault longer =
      absurd (omega (arith, takes.all.within))
  too_long_comes script left before after (Err (Words fault')) words takes fault no_fault longer = absurd (words fault' refl)
  too_long_comes script left before after (Err (Reading (BadLine line))) words takes fault no_fault longer =
      absurd (omega (arith, takes.0.within))
  too_long_comes script left before after (Err (Reading Memory)) words takes fault no_fault longer = inr refl
  too_long_comes script left before after (Err (Reading Source)) words takes fault no_fault longer =
      absurd (no_fault (fault refl))
  too_long_comes script left before after (Err (Reading TooLong)) words takes fault no_fault longer = inl refl
  too_long_comes script left before after (Err (Storing fault')) words takes fault no_fault longer =
      absurd (omega (arith, takes.all.within))
  too_long_comes script left before after (Err (Answering fault')) words takes fault no_fault longer =
      absurd (omega (arith, takes.all.within))

  -- with code 0 nothing is left
  pub nothing_left : (script left : List ℕ) (ended : Result Done Fault) → TakesAsEndedIn grammar script left ended
      → code_of ended ≡ 0 → left ≡ []
  nothing_left script left (Ok done) takes code = takes.all.empty
  nothing_left script left (Err (Words word.Memory)) takes code = absurd (cc)
  nothing_left script left (Err (Reading Memory)) takes code = absurd (cc)
  nothing_left script left (Err (Storing world.Memory)) takes code = absurd (cc)
  nothing_left script left (Err (Answering Sink)) takes code = absurd (cc)
  nothing_left script left other takes code = absurd (cc)

  -- with code 2 the first bad line is named
  pub bad_line_told : (script left : List ℕ) (ended : Result Done Fault) → TakesAsEndedIn grammar script left ended
      → code_of ended ≡ 2 → grammar.IsFirstBad script (line_of ended)
  bad_line_told script left (Err (Reading (BadLine line))) takes code = takes.1
  bad_line_told script left (Err (Words word.Memory)) takes code = absurd (cc)
  bad_line_told script left (Err (Reading Memory)) takes code = absurd (cc)
  bad_line_told script left (Err (Storing world.Memory)) takes code = absurd (cc)
  bad_line_told script left (Err (Answering Sink)) takes code = absurd (cc)
  bad_line_told script left other takes code = absurd (cc)

  module _ (excludes : Excludes grammar) (script left : List ℕ) (within : length script ≤ script_limit)
      (before after : ℕ) (no_fault : Rose before after → ⊥) where
    -- where there is a bad line, the first one is named, or memory was wanted
    pub bad_line_comes : (ended : Result Done Fault) (line : ℕ) → AreUsed ended
        → TakesAsEndedIn grammar script left ended → (IsErrOf ended (Reading Source) → Rose before after)
        → grammar.IsFirstBad script line → IsBadLineCode line (code_of ended) (line_of ended)
    bad_line_comes (Ok done) line usage takes fault first =
        absurd (excludes.no_line script takes.commands line takes.read first)
    bad_line_comes (Err (Words fault')) line usage takes fault first = absurd (usage fault' refl)
    bad_line_comes (Err (Reading (BadLine number))) line usage takes fault first =
        inl (refl, excludes.one_line script number line takes.1 first)
    bad_line_comes (Err (Reading Memory)) line usage takes fault first = inr refl
    bad_line_comes (Err (Reading Source)) line usage takes fault first = absurd (no_fault (fault refl))
    bad_line_comes (Err (Reading TooLong)) line usage takes fault first = absurd (omega (arith, within, takes))
    bad_line_comes (Err (Storing fault')) line usage takes fault first =
        absurd (excludes.no_line script takes.commands line takes.read first)
    bad_line_comes (Err (Answering fault')) line usage takes fault first =
        absurd (excludes.no_line script takes.commands line takes.read first)

    -- a script is answered, unless memory was wanted
    pub complete_of_code : (ended : Result Done Fault) (commands : List grammar.Line) (sink_before sink_after : ℕ)
        → AreUsed ended → TakesAsEndedIn grammar script left ended → (IsErrOf ended (Reading Source) → Rose before after)
        → IsStored ended → (IsErrOf ended (Answering Sink) → Rose sink_before sink_after) → grammar.IsOf script commands
        → (Rose sink_before sink_after → ⊥) → (code_of ended ≡ 0) ⊎ (code_of ended ≡ 3)
    complete_of_code (Ok done) commands sink_before sink_after usage takes fault stored sink_fault is_script well = inl refl
    complete_of_code (Err (Words fault')) commands sink_before sink_after usage takes fault stored sink_fault is_script
        well = absurd (usage fault' refl)
    complete_of_code (Err (Reading (BadLine number))) commands sink_before sink_after usage takes fault stored sink_fault
        is_script well = absurd (excludes.no_line script commands number is_script takes.1)
    complete_of_code (Err (Reading Memory)) commands sink_before sink_after usage takes fault stored sink_fault is_script
        well = inr refl
    complete_of_code (Err (Reading Source)) commands sink_before sink_after usage takes fault stored sink_fault is_script
        well = absurd (no_fault (fault refl))
    complete_of_code (Err (Reading TooLong)) commands sink_before sink_after usage takes fault stored sink_fault is_script
        well = absurd (omega (arith, within, takes))
    complete_of_code (Err (Storing world.Memory)) commands sink_before sink_after usage takes fault stored sink_fault
        is_script well = inr refl
    complete_of_code (Err (Storing (world.Store r))) commands sink_before sink_after usage takes fault stored sink_fault
        is_script well = absurd (stored.store r refl)
    complete_of_code (Err (Storing (world.Image r))) commands sink_before sink_after usage takes fault stored sink_fault
        is_script well = absurd (stored.image r refl)
    complete_of_code (Err (Storing (world.Occupied r))) commands sink_before sink_after usage takes fault stored
        sink_fault is_script well = absurd (stored.occupied r refl)
    complete_of_code (Err (Answering NoMemory)) commands sink_before sink_after usage takes fault stored sink_fault
        is_script well = inr refl
    complete_of_code (Err (Answering Sink)) commands sink_before sink_after usage takes fault stored sink_fault is_script
        well = absurd (well (sink_fault refl))

module _ {Done : Type 0} where
  -- a volume is made, unless memory was wanted
  pub made_of_code : (ended : Result Done Fault) → IfErr ended IsOfMaking → IsStored ended
      → (code_of ended ≡ 0) ⊎ (code_of ended ≡ 3)
  made_of_code (Ok done) making stored = inl refl
  made_of_code (Err (Words fault)) making stored = absurd making
  made_of_code (Err (Reading fault)) making stored = absurd making
  made_of_code (Err (Storing world.Memory)) making stored = inr refl
  made_of_code (Err (Storing (world.Store r))) making stored = absurd (stored.store r refl)
  made_of_code (Err (Storing (world.Image r))) making stored = absurd (stored.image r refl)
  made_of_code (Err (Storing (world.Occupied r))) making stored = absurd (stored.occupied r refl)
  made_of_code (Err (Answering fault)) making stored = absurd making

  -- what is left of a volume that isn't made, or not opened, where a replica's disks are refused: it is said which, or
  -- a fault came before
  pub refusal_comes : (ended : Result Done Fault) (refusal : WorldFault)
      → IsErrAnd ended (λ fault. (fault ≡ Storing refusal) ⊎ IsInterruption fault)
      → IsRefusalCode (code_of {Done = Done} (Err (Storing refusal))) (replica_of {Done = Done} (Err (Storing refusal)))
      (code_of ended) (replica_of ended)
  refusal_comes (Ok done) refusal said = absurd said
  refusal_comes (Err fault) refusal (inl is) = rw is (inl (refl, refl))
  refusal_comes (Err (Words fault)) refusal (inr said) = absurd said
  refusal_comes (Err (Reading (BadLine line))) refusal (inr said) = inr (inl (inr refl))
  refusal_comes (Err (Reading Memory)) refusal (inr said) = inr (inr (inl refl))
  refusal_comes (Err (Reading Source)) refusal (inr said) = inr (inl (inl (inr (inl refl))))
  refusal_comes (Err (Reading TooLong)) refusal (inr said) = inr (inl (inl (inr (inr refl))))
  refusal_comes (Err (Storing world.Memory)) refusal (inr said) = inr (inr (inl refl))
  refusal_comes (Err (Storing (world.Store q))) refusal (inr said) = inr (inr (inr refl))
  refusal_comes (Err (Storing (world.Image q))) refusal (inr said) = absurd said
  refusal_comes (Err (Storing (world.Occupied q))) refusal (inr said) = absurd said
  refusal_comes (Err (Answering fault)) refusal (inr said) = absurd said
