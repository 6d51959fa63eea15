-- What the program promises of one run.
use Rattle.std.specs.Prelude.{◌≡◌, ℕ, Bool, List, take, Option}
use Rattle.ficus_disk.specs.declared.disk.Disk.{Ghosts as Disk}
use Rattle.ficus_disk.specs.declared.pair.Pair.{Pair}
use Rattle.ficus_model.specs.Events.{generation_of}
use Rattle.ficus_model.specs.Final.{IsFinal}
use Rattle.ficus_model.specs.Known.{Knows}
use Rattle.ficus_model.specs.Lawful.{IsLawful, Volume}
use Rattle.ficus_model.specs.Live.{ModelEntry, IsLive, IsRemoved}
use Rattle.ficus_model.specs.declared.event.Event.{Event}
use Rattle.ficus_script.specs.declared.command.Command.{Command}
use Rattle.ficus_script.specs.Script.{IsScript}
use Rattle.ficus_runs.specs.Fuses.{FuseState}
use Rattle.ficus_runs.specs.Start.{start}
use Rattle.ficus_top.specs.Summary.Keeper.{IsRegular}
use Rattle.ficus_opening.specs.Fuses.{AreRegular, AreUnarmed}
use Rattle.ficus_world.specs.Fuses.{at_rest}
use Rattle.ficus_opening.specs.Opening.{Steady, fuses_in}
use Rattle.ficus_top.specs.Ends.{Ends, EndsFront}

-- what a replica knew to be removed after some first events of the history isn't alive there at its end
abbrev pub NothingReturns : List Event → Type 0
NothingReturns H =
    (first replica : ℕ) (entry : ModelEntry) → IsRemoved (take first H) (Knows (take first H) replica) entry.id →
    IsLive H (Knows H replica) entry → ⊥

-- after each event of the history what was given up by then is given up for good
abbrev pub IsFinalThroughout : ℕ → List Event → Type 0
IsFinalThroughout members H = (first : ℕ) → IsFinal members (take first H)

-- the history is lawful, nothing removed returns in it, and what is given up is given up for good
pub record IsSound (volume : Volume) (H : List Event) : Type 0 where
  pub lawful : IsLawful volume H
  pub no_return : NothingReturns H
  pub final : IsFinalThroughout volume.members H

-- whether the disks of each of so many members have a fuse
abbrev pub fuses_of : {D : Type 0} → (D → Option ℕ) → ℕ → List (Pair D) → List Bool
fuses_of armings members disks = take members (fuses_in armings disks)

-- The disks tell their fuses, of which none is armed; what they hold this program alone wrote; and each member has
-- saved as often as the history says.
pub record AreFusesAtRest {D : Type 0} (disk : Disk D) (members : ℕ) (earlier : List Event) (disks : List (Pair D))
    (F : ℕ → FuseState) : Type 0 where
  pub tells : disk.tells_fuse
  pub unarmed : AreUnarmed disk.fuse disks
  pub own : AreRegular IsRegular disk.seen disks members
  pub states : (r : ℕ) → F r ≡ at_rest (generation_of r earlier)

-- The source's bytes are a script, and the run over its commands was served, behind this earlier history, from the
-- restarts of all members on: over a sink that tells, what was put are the texts of its answers, in order, and nothing
-- else; and the disks stand for what it led to. The history is sound.
pub record Answers {D : Type 0} (tells : Type 0) (disk : Disk D) (Rest : (ℕ → FuseState) → Type 0)
    (volume : Volume) (earlier : List Event) (script old new : List ℕ) (old_disks new_disks : List (Pair D)) :
    Type 0 where
  pub commands : List Command
  pub read : IsScript script commands
  pub ends : Ends tells disk Rest volume
      (start earlier volume.members 0 (fuses_of disk.armings volume.members old_disks)) commands old new old_disks
      new_disks
  pub sound : IsSound volume ends.after.events
  pub open sound use *

-- The same of some first ones of its commands: over a sink that tells, what was put is a front of the texts of their
-- answers, which ends in the last of them at the earliest. Where this may be, the next command was cut short.
pub record AnswersFront {D : Type 0} (tells may : Type 0) (disk : Disk D) (Rest : (ℕ → FuseState) → Type 0)
    (volume : Volume) (earlier : List Event) (script old new : List ℕ) (old_disks new_disks : List (Pair D)) :
    Type 0 where
  pub commands : List Command
  pub read : IsScript script commands
  pub ends : EndsFront tells may disk Rest volume
      (start earlier volume.members 0 (fuses_of disk.armings volume.members old_disks)) commands old new old_disks
      new_disks
  pub sound : IsSound volume ends.after.events
  pub open sound use *

-- no command was carried out: nothing was put and no disk was armed, and this stays too
pub record CarriesOutNothing {D Output : Type 0} (stays : Type 0) (armings : D → Option ℕ) (old new : Output)
    (old_disks new_disks : List (Pair D)) : Type 0 where
  pub put : new ≡ old
  pub unarmed : Steady armings old_disks new_disks
  pub besides : stays
