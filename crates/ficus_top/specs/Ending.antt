-- What is known of a run by how it ended.
use Rattle.std.specs.Prelude.{◌≡◌, ◌<◌, ◌≤◌, List, ℕ, Result, Ok, Err, IsErrOf}
use Rattle.ficus_faults.specs.Faults.{Rose}
use Rattle.ficus_loop.specs.declared.fault.AnsweringFault.TheVariants.{Sink}
use Rattle.ficus_top.specs.Grammar.{Grammar, of_commands}
use Rattle.ficus_top.specs.Reading.{TakesAll, TakesUntilIn}
use Rattle.ficus_top.specs.declared.fault.Fault.{Fault}
use Rattle.ficus_top.specs.declared.fault.Fault.TheVariants.{Words, Reading, Storing, Answering}
use Rattle.ficus_top.specs.declared.fault.ReadingFault.TheVariants.{Source}
use Rattle.ficus_opening.specs.declared.fault.WorldFault.TheVariants.{Memory, Store, Image, Occupied}

-- all that the source had was taken, and it was a script of this grammar
pub record TakesScriptIn (grammar : Grammar) (old new : List ℕ) : Type 0 where
  pub all : TakesAll old new
  pub commands : List grammar.Line
  pub read : grammar.IsOf old commands

-- what a run took from a source that tells
abbrev pub TakesAsEndedIn : Grammar → {Done : Type 0} → List ℕ → List ℕ → Result Done Fault → Type 0
TakesAsEndedIn grammar old new (Ok done) = TakesScriptIn grammar old new
TakesAsEndedIn grammar old new (Err (Words fault)) = new ≡ old
TakesAsEndedIn grammar old new (Err (Reading fault)) = TakesUntilIn grammar old new fault
TakesAsEndedIn grammar old new (Err (Storing fault)) = TakesScriptIn grammar old new
TakesAsEndedIn grammar old new (Err (Answering fault)) = TakesScriptIn grammar old new

abbrev pub TakesAsEnded : {Done : Type 0} → List ℕ → List ℕ → Result Done Fault → Type 0
TakesAsEnded old new ended = TakesAsEndedIn of_commands old new ended

-- a fault of the source or of the sink is told only where it has failed, and wherever its count rose; no count falls
pub record TellsOfStreams {Done : Type 0} (source_old source_new sink_old sink_new : ℕ) (result : Result Done Fault) :
    Type 0 where
  pub read_fault : IsErrOf result (Reading Source) → Rose source_old source_new
  pub read_fault_comes : source_old < source_new → IsErrOf result (Reading Source)
  pub write_fault : IsErrOf result (Answering Sink) → Rose sink_old sink_new
  pub write_fault_comes : sink_old < sink_new → IsErrOf result (Answering Sink)
  pub source_counted : source_old ≤ source_new
  pub sink_counted : sink_old ≤ sink_new

-- the fault came while commands were answered
abbrev pub IsAnswering : Fault → Type 0
IsAnswering (Words fault) = ⊥
IsAnswering (Reading fault) = ⊥
IsAnswering (Storing fault) = ⊥
IsAnswering (Answering fault) = Unit {0}

-- the fault came before any command was carried out
abbrev pub IsIdle : Fault → Type 0
IsIdle (Words fault) = Unit {0}
IsIdle (Reading fault) = Unit {0}
IsIdle (Storing fault) = Unit {0}
IsIdle (Answering fault) = ⊥

-- the script wasn't read, a disk failed, or memory was refused
abbrev pub IsInterruption : Fault → Type 0
IsInterruption (Words fault) = ⊥
IsInterruption (Reading fault) = Unit {0}
IsInterruption (Storing Memory) = Unit {0}
IsInterruption (Storing (Store r)) = Unit {0}
IsInterruption (Storing (Image r)) = ⊥
IsInterruption (Storing (Occupied r)) = ⊥
IsInterruption (Answering fault) = ⊥

-- the fault came before a disk was touched
abbrev pub IsUntouched : Fault → Type 0
IsUntouched (Words fault) = Unit {0}
IsUntouched (Reading fault) = Unit {0}
IsUntouched (Storing fault) = ⊥
IsUntouched (Answering fault) = ⊥

-- the fault is one of a volume that is opened, or of commands that are answered
abbrev pub IsOfRunning : Fault → Type 0
IsOfRunning (Words fault) = ⊥
IsOfRunning (Reading fault) = ⊥
IsOfRunning (Storing Memory) = Unit {0}
IsOfRunning (Storing (Store r)) = Unit {0}
IsOfRunning (Storing (Image r)) = Unit {0}
IsOfRunning (Storing (Occupied r)) = ⊥
IsOfRunning (Answering fault) = Unit {0}

-- the fault is one of a volume that is made
abbrev pub IsOfMaking : Fault → Type 0
IsOfMaking (Words fault) = ⊥
IsOfMaking (Reading fault) = ⊥
IsOfMaking (Storing Memory) = Unit {0}
IsOfMaking (Storing (Store r)) = Unit {0}
IsOfMaking (Storing (Image r)) = ⊥
IsOfMaking (Storing (Occupied r)) = Unit {0}
IsOfMaking (Answering fault) = ⊥

-- the fault is one of a script that is read, or of lines that are answered
abbrev pub IsOfJoining : Fault → Type 0
IsOfJoining (Words fault) = ⊥
IsOfJoining (Reading fault) = Unit {0}
IsOfJoining (Storing fault) = ⊥
IsOfJoining (Answering fault) = Unit {0}
