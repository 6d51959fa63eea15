-- What a machine does in its world.
use Rattle.std.specs.Prelude.{◌≡◌, ◌⊎◌, ℕ, List, [], length, Result, IfOk, IsErrOf, OnErr, OnOk}
use Rattle.ficus_disk.specs.declared.disk.Disk.{Ghosts as Disk}
use Rattle.ficus_disk.specs.declared.pair.Pair.{Pair}
use Rattle.ficus_keeper.specs.declared.keep.Keep.{Ghosts as Keep}
use Rattle.ficus_member_script.specs.declared.member_answer.MemberAnswer.{MemberAnswer}
use Rattle.ficus_member_script.specs.declared.member_answer.MemberAnswer.TheVariants.{Plain}
use Rattle.ficus_runs.specs.Answers.{answer_as}
use Rattle.ficus_runs.specs.Outcome.{Outcome}
use Rattle.ficus_runs.specs.Peers.{ArePeers}
use Rattle.ficus_script.specs.declared.answer.Answer.{Answer}
use Rattle.ficus_script.specs.declared.command.Command.{Command}
use Rattle.ficus_script.specs.declared.command.Command.TheVariants as command
use Rattle.ficus_world.specs.Disks.{IsBacked}
use Rattle.ficus_world.specs.Machines.Acting.{ActsAlone, ActsFor}
use Rattle.ficus_world.specs.Machines.Part.{Deed, command_of}
use Rattle.ficus_world.specs.Moves.{Moves}
use Rattle.ficus_world.specs.World.{Whole}
use Rattle.ficus_machine.specs.Answers.{IsPlainly}
use Rattle.ficus_machine.specs.Machine.{IsAtRest, KeepsMachine, KeepsRest, MachineState}
use Rattle.ficus_machine.specs.Noting.{AsksSlots}
use Rattle.ficus_machine.specs.declared.fault.LineFault.{LineFault}
use Rattle.ficus_machine.specs.declared.fault.LineFault.TheVariants.{Memory, Note}

-- what a machine is asked for that isn't several members' or the outside's
abbrev pub IsAlone : Command → Type 0
IsAlone (command.Pull by to) = ⊥
IsAlone (command.Alike by other) = ⊥
IsAlone (command.Stop by calls pick) = ⊥
IsAlone (command.Sweep order) = ⊥
IsAlone (command.Why by) = ⊥
IsAlone other = Unit {0}

-- the world comes to this by some outcomes
pub record MovesSomehow (disks_tell : Type 0) (old : Whole) (command : Command) (answer : Answer) (new : Whole) :
    Type 0 where
  pub outcomes : List Outcome
  pub moves : Moves (Unit {0}) disks_tell old command outcomes answer new

-- a command is carried out in the world of a machine
pub record Acts {K D : Type 0} (keep : Keep K) (disk : Disk D) (command : Command) (result : Result Answer LineFault)
    (old new : MachineState K) (was now : List (Pair D)) : Type 0 where
  pub acts : IfOk result (λ answer. ActsFor (Unit {0}) disk.tells command answer old.world.whole new.world.whole)
  pub moves : IfOk result (λ answer. MovesSomehow disk.tells old.world.whole command answer new.world.whole)
  pub count : length new.world.whole.members ≡ length old.world.whole.members
  pub backed : IsBacked keep disk new.world now
  pub memory : OnErr result (new.world.whole ≡ old.world.whole)
  pub no_note : IsErrOf result Note → ⊥
  pub rest : KeepsRest old new

-- the command is no ask of another member by this one
abbrev pub AsksNoPeer : ℕ → ℕ → Command → Type 0
AsksNoPeer members me asked = (to : ℕ) → asked ≡ command.Ask me to → ArePeers members me to → ⊥

-- member `me` is asked for this by the command, and its world gives the answer, which isn't an ask's
pub record IsOwnAnswer (disks_tell : Type 0) (me : ℕ) (command : Command) (old new : Whole) (answer : MemberAnswer) :
    Type 0 where
  pub deed : Deed
  pub is : command ≡ command_of me deed
  pub given : Answer
  pub acts : ActsAlone (Unit {0}) disks_tell me [] deed given old new
  pub plainly : IsPlainly command acts.result
  pub answer_is : answer ≡ Plain (answer_as acts.result)

-- a command of its member is carried out and answered as the world does, and what is noted is right
pub record Acted {K D N : Type 0} (keep : Keep K) (disk : Disk D) (slot : Disk N) (command : Command)
    (result : Result MemberAnswer LineFault) (old new : MachineState K) (disks new_disks : List (Pair D))
    (slots new_slots : Pair N) : Type 0 where
  pub answers : IfOk result (λ answer. IsOwnAnswer disk.tells old.me command old.world.whole new.world.whole answer)
  pub failed : IsErrOf result Note → (answer : MemberAnswer)
      × IsOwnAnswer disk.tells old.me command old.world.whole new.world.whole answer
  pub memory : IsErrOf result Memory → (new.world.whole ≡ old.world.whole) ⊎ ((answer : MemberAnswer)
      × IsOwnAnswer disk.tells old.me command old.world.whole new.world.whole answer)
  pub rest : OnOk result (IsAtRest keep disk slot new new_disks new_slots)
  pub backed : IsBacked keep disk new.world new_disks
  pub count : length new.world.whole.members ≡ length old.world.whole.members
  pub same : KeepsMachine old new
  pub asks : AsksSlots slot result new.note slots new_slots
