-- What sort of command each is.
use Rattle.ficus_script.specs.declared.command.Command.{Command}
use Rattle.ficus_script.specs.declared.command.Command.TheVariants as command

-- it asks only for what is shown; it opens disks again
pub record Traits : Type 1 where
  pub looks : Type 0
  pub reopens : Type 0

-- it does something else
abbrev pub neither : Traits
neither = record { looks = ⊥; reopens = ⊥ }

abbrev pub looking : Traits
looking = record { looks = Unit {0}; reopens = ⊥ }

abbrev pub reopening : Traits
reopening = record { looks = ⊥; reopens = Unit {0} }

abbrev pub traits : Command → Traits
traits (command.Change by change) = neither
traits (command.Look by look) = looking
traits (command.Collect by) = neither
traits (command.Ask by to) = neither
traits (command.Give mail) = neither
traits (command.Pull by to) = neither
traits (command.Alike by other) = looking
traits (command.Restart by) = reopening
traits (command.Stop by calls pick) = neither
traits (command.Sweep order) = neither
traits (command.Why by) = looking

-- the command opens the disks of a member again
abbrev pub OpensDisks : Command → Type 0
OpensDisks command = (traits command).reopens
