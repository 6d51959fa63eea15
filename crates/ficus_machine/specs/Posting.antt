-- How messages are put.
use Rattle.std.specs.Prelude.{◌≡◌, ℕ, ◌+◌, ◌≤◌, Bool, true, false, List, [], ◌∷◌, ◌++◌, length, map, slice_get, Some, Contains, Result, IfOk, IsErrOf}
use Rattle.ficus_envelope.specs.Envelope.{name_of}
use Rattle.ficus_mailbox.specs.Letter.{Letter}
use Rattle.ficus_mailbox.specs.declared.mailbox.Mailbox.{Ghosts as Mailbox}
use Rattle.ficus_mailbox.specs.declared.message_name.MessageName.TheVariants as name
use Rattle.ficus_runs.specs.Numbered.{IsNumbered}
use Rattle.ficus_wire.specs.Message.{FitsMessage, message_bytes}
use Rattle.ficus_wire.specs.declared.message.Message.{Message}
use Rattle.ficus_world.specs.Moves.{with_post}
use Rattle.ficus_machine.specs.Answers.{IsUnput}
use Rattle.ficus_machine.specs.Came.{letter_of}
use Rattle.ficus_machine.specs.Line.{GrowsBy}
use Rattle.ficus_machine.specs.Machine.{KeepsRest, MachineState}
use Rattle.ficus_machine.specs.declared.fault.LineFault.{LineFault}
use Rattle.ficus_machine.specs.declared.fault.LineFault.TheVariants.{Note}
use Rattle.ficus_machine.specs.declared.serving.Serving.{Serving}

-- these letters are put in order, or something hinders one; nothing else is put
pub record Puts {M : Type 0} (mailbox : Mailbox M) (letters : List Letter) (result : Result Bool LineFault)
    (was now : M) : Type 0 where
  pub put : IfOk result (λ is. is ≡ true → mailbox.tells → mailbox.posted now ≡ mailbox.posted was ++ letters)
  pub hindered : IfOk result (λ is. is ≡ false → IsUnput mailbox was now)
  pub only : mailbox.tells → GrowsBy (Contains letters) (mailbox.posted was) (mailbox.posted now)
  pub given : mailbox.given now ≡ mailbox.given was
  pub risen : mailbox.faults was ≤ mailbox.faults now
  pub no_note : IsErrOf result Note → ⊥

-- nothing of the machine has changed, but that its link may have failed
pub record OnlyFetches {K : Type 0} (old new : MachineState K) : Type 0 where
  pub world : new.world.whole ≡ with_post old.world.whole new.world.whole.post
  pub posts : new.world.whole.post.posts ≡ old.world.whole.post.posts
  pub stables : new.world.stables ≡ old.world.stables
  pub rest : KeepsRest old new

-- the message is the piece with this index of the answer, by its name, and stands in its place behind the ask
pub record IsPosted {K : Type 0} (machine : MachineState K) (serving : Serving) (index : ℕ) (message : Message) :
    Type 0 where
  pub fits : FitsMessage (length machine.world.whole.members) message
  pub is : IsNumbered machine.world.whole.post.posts (serving.behind + 1 + index) (message_bytes message)
  pub named : name_of message
      ≡ name.Piece machine.me serving.way.from serving.way.number serving.state index

-- so are all of these
pub record ArePosted {K : Type 0} (machine : MachineState K) (serving : Serving) (messages : List Message) :
    Type 0 where
  pub each : (index : ℕ) (message : Message) → slice_get messages index ≡ Some message
      → IsPosted machine serving index message
