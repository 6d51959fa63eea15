-- What the program does, by the mode that the words are of.
use Rattle.std.specs.Prelude.{◌≡◌, ◌≢◌, ◌⊎◌, ◌<◌, ◌≤◌, ◌^◌, List, length}
use Rattle.ficus_top.specs.Graft.Crossing.{AreFew}
use Rattle.ficus_ids.specs.Members.{IsCount}
use Rattle.ficus_words.specs.Grammar.{Text}
use Rattle.ficus_words.specs.Mode.{AreNoWords, AreWords}
use Rattle.ficus_words.specs.declared.mode.Mode.{Mode}
use Rattle.ficus_words.specs.declared.mode.Mode.TheVariants.{Init, Run, Check, Replay, Volumes, Gen}
use Rattle.ficus_opening.specs.Opening.{IsAtFault, Steady}
use Rattle.ficus_top.specs.Making.{FitsSize}
use Rattle.ficus_top.specs.Modes.Init.{DoesInit}
use Rattle.ficus_top.specs.Modes.Run.{DoesRun}
use Rattle.ficus_top.specs.Modes.Check.{DoesCheck}
use Rattle.ficus_top.specs.Modes.Replay.{DoesReplay}
use Rattle.ficus_top.specs.Modes.Volumes.{DoesVolumes}
use Rattle.ficus_top.specs.Modes.Gen.{DoesGen}
use Rattle.ficus_top.specs.Codes.{IsCode, IsIdleCode, IsUntouchedCode, NamesReplica}
use Rattle.ficus_top.specs.Seen.{Seen, SinkFailed, SourceFailed, disks_after, disks_before}
use Rattle.ficus_top.specs.declared.status.Status.{Status}

-- the mode's numbers are within their bounds
abbrev pub FitsMode : Mode → Type 0
FitsMode (Init size root) = FitsSize size
FitsMode (Run root) = Unit {0}
FitsMode (Check root) = Unit {0}
FitsMode (Replay size) = FitsSize size
FitsMode (Volumes size count) = FitsSize size × AreFew count
FitsMode (Gen members seed steps) = IsCount members × (seed < 2 ^ 31) × (steps ≤ 5000)

-- as the program does in this mode
abbrev pub Does : {S K D : Type 0} → Mode → Seen S K D → Status → Type 0
Does (Init size root) seen status = DoesInit size seen status
Does (Run root) seen status = DoesRun seen status
Does (Check root) seen status = DoesCheck seen status
Does (Replay size) seen status = DoesReplay size seen status
Does (Volumes size count) seen status = DoesVolumes size count seen status
Does (Gen members seed steps) seen status = DoesGen members seed steps seen status

-- what is known by the code, whatever the words are
pub record EndsAsAny {S K D : Type 0} (seen : Seen S K D) (result : Status) : Type 0 where
  -- In every mode codes 4 and 5 come only where the source or the sink has failed in this call, and wherever one has;
  -- and code 6 names a replica of which a disk has failed in this call.
  pub read_fault : result.code ≡ 4 → SourceFailed seen
  pub read_fault_comes : seen.source.faults seen.input.old < seen.source.faults seen.input.new → result.code ≡ 4
  pub write_fault : result.code ≡ 5 → SinkFailed seen
  pub write_fault_comes : seen.sink.faults seen.output.old < seen.sink.faults seen.output.new → result.code ≡ 5
  pub store_fault : result.code ≡ 6 → IsAtFault seen.disk.faults (disks_before seen) (disks_after seen) result.replica
  -- No other code comes, and nothing is put before the commands, nor a disk touched before the script is read.
  pub codes : IsCode result.code
  pub idle : IsIdleCode result.code → seen.output.new ≡ seen.output.old
  pub untouched : IsUntouchedCode result.code → seen.disks.new ≡ seen.disks.old
  pub unarmed : IsIdleCode result.code → Steady seen.disk.armings (disks_before seen) (disks_after seen)
  pub pairs : length (disks_after seen) ≡ length (disks_before seen)
  pub line : result.code ≢ 2 → result.line ≡ 0
  pub replica : (NamesReplica result.code → ⊥) → result.replica ≡ 0
  pub counted : (seen.source.faults seen.input.old ≤ seen.source.faults seen.input.new)
      × (seen.sink.faults seen.output.old ≤ seen.sink.faults seen.output.new)

-- as in this mode, and as ever
pub record DoesIn {S K D : Type 0} (mode : Mode) (seen : Seen S K D) (result : Status) : Type 0 where
  pub does : Does mode seen result
  pub used : result.code ≢ 1
  pub ends : EndsAsAny seen result

-- the program was called with these words: what the public call `ficus` promises, by name
pub record RunsProgram {S K D : Type 0} (words : List Text) (seen : Seen S K D) (result : Status) : Type 0 where
  -- Code 1 comes only where the words aren't those of a mode, and wherever they aren't, unless memory was wanted.
  -- Nothing is asked of the outside then.
  pub usage : result.code ≡ 1 → AreNoWords words
  pub usage_comes : AreNoWords words → (result.code ≡ 1) ⊎ (result.code ≡ 3)
  pub unasked : AreNoWords words → (seen.input.new ≡ seen.input.old) × (seen.output.new ≡ seen.output.old)
      × (seen.disks.new ≡ seen.disks.old)
  -- Where they are those of a mode, all is as it does. They are of one mode at most.
  pub does : (mode : Mode) → AreWords words mode → Does mode seen result
  pub ends : EndsAsAny seen result
  pub open ends use *
