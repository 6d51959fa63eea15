-- The commands of a script, and how each is spelled.
use Rattle.std.specs.Prelude.{◌≡◌, ℕ, List, [], ◌∷◌, ◌++◌, Option, Some, None, IfSome, codes}
use Rattle.std.specs.List.{join_with_byte}
use Rattle.std.specs.Fmt.{decimal}
use Rattle.ficus_path.specs.Path.{at_orphan}
use Rattle.ficus_path.specs.Text.{quoted_text}
use Rattle.ficus_commands.specs.Change.{HasFitPaths}
use Rattle.ficus_commands.specs.declared.change.Change.TheVariants.{MkDir, Create, Symlink, Write, Settle, Resolve, Rm, Ln, Mv, Adopt, Discard}
use Rattle.ficus_commands.specs.declared.look.Look.TheVariants.{Ls, Read, Versions, ReadLink, Tree, Conflicts, Orphans, Detached, Marks}
use Rattle.ficus_script.specs.Arguments.{Arguments}
use Rattle.ficus_script.specs.Arguments.{Nothing, OnePath, PathAndKind, PathAndText, TwoPaths, OneNumber, OneOrder, TwoReplicas, Arming}
use Rattle.ficus_script.specs.declared.command.Command.{Command}
use Rattle.ficus_script.specs.declared.command.Command.TheVariants as command
use Rattle.ficus_script.specs.Arguments.{AreArguments, IsReplicaNumber, argument_words}

-- what a line is made of: the number of the replica that leads it, if one does, the verb, and what stands behind it
pub record Spelling : Type 0 where
  pub by : Option ℕ
  pub verb : List ℕ
  pub behind : Arguments

-- a line that the number of a replica leads
abbrev pub of_replica : ℕ → List ℕ → Arguments → Spelling
of_replica by verb behind = record { by = Some by; verb = verb; behind = behind }

-- a line that the verb leads
abbrev pub of_none : List ℕ → Arguments → Spelling
of_none verb behind = record { by = None; verb = verb; behind = behind }

-- the one table of verbs: each command's verb, and what stands before and behind it
abbrev pub spelling_of : Command → Spelling
spelling_of (command.Change by (MkDir path)) = of_replica by (codes "mkdir") (OnePath path)
spelling_of (command.Change by (Create path kind)) = of_replica by (codes "create") (PathAndKind path kind)
spelling_of (command.Change by (Symlink path text)) =
    of_replica by (codes "symlink") (PathAndText path (quoted_text text))
spelling_of (command.Change by (Write path text)) = of_replica by (codes "write") (PathAndText path (quoted_text text))
spelling_of (command.Change by (Settle path text)) =
    of_replica by (codes "settle") (PathAndText path (quoted_text text))
spelling_of (command.Change by (Resolve path)) = of_replica by (codes "resolve") (OnePath path)
spelling_of (command.Change by (Rm path)) = of_replica by (codes "rm") (OnePath path)
spelling_of (command.Change by (Ln from path)) = of_replica by (codes "ln") (TwoPaths from path)
spelling_of (command.Change by (Mv from path)) = of_replica by (codes "mv") (TwoPaths from path)
spelling_of (command.Change by (Adopt orphan path)) = of_replica by (codes "adopt") (TwoPaths (at_orphan orphan) path)
spelling_of (command.Change by (Discard orphan)) = of_replica by (codes "discard") (OnePath (at_orphan orphan))
spelling_of (command.Look by (Ls path)) = of_replica by (codes "ls") (OnePath path)
spelling_of (command.Look by (Read path)) = of_replica by (codes "read") (OnePath path)
spelling_of (command.Look by (Versions path)) = of_replica by (codes "versions") (OnePath path)
spelling_of (command.Look by (ReadLink path)) = of_replica by (codes "readlink") (OnePath path)
spelling_of (command.Look by Tree) = of_replica by (codes "tree") Nothing
spelling_of (command.Look by Conflicts) = of_replica by (codes "conflicts") Nothing
spelling_of (command.Look by Orphans) = of_replica by (codes "orphans") Nothing
spelling_of (command.Look by Detached) = of_replica by (codes "detached") Nothing
spelling_of (command.Look by Marks) = of_replica by (codes "marks") Nothing
spelling_of (command.Collect by) = of_replica by (codes "collect") Nothing
spelling_of (command.Ask by to) = of_none (codes "ask") (TwoReplicas by to)
spelling_of (command.Give mail) = of_none (codes "give") (OneNumber mail)
spelling_of (command.Pull by to) = of_none (codes "pull") (TwoReplicas by to)
spelling_of (command.Alike by other) = of_none (codes "alike") (TwoReplicas by other)
spelling_of (command.Restart by) = of_none (codes "restart") (OneNumber by)
spelling_of (command.Stop by calls pick) = of_none (codes "stop") (Arming by calls pick)
spelling_of (command.Sweep order) = of_none (codes "sweep") (OneOrder order)
spelling_of (command.Why by) = of_replica by (codes "why") Nothing

-- the arguments are of the sort that the command takes: a change takes paths of its own sort, and a symbolic link a
-- text that isn't empty; a restart takes the number of a replica; others may be any
abbrev pub TakesArguments : Command → Type 0
TakesArguments (command.Change by change) = HasFitPaths change
TakesArguments (command.Look by look) = Unit {0}
TakesArguments (command.Collect by) = Unit {0}
TakesArguments (command.Ask by to) = Unit {0}
TakesArguments (command.Give mail) = Unit {0}
TakesArguments (command.Pull by to) = Unit {0}
TakesArguments (command.Alike by other) = Unit {0}
TakesArguments (command.Restart by) = IsReplicaNumber by
TakesArguments (command.Stop by calls pick) = Unit {0}
TakesArguments (command.Sweep order) = Unit {0}
TakesArguments (command.Why by) = Unit {0}

-- the number that leads is that of a replica, the arguments are such, and of the sort that the command takes
pub record IsCommand (command : Command) : Type 0 where
  pub number : IfSome (spelling_of command).by IsReplicaNumber
  pub behind : AreArguments (spelling_of command).behind
  pub takes : TakesArguments command

-- the number of a replica is a word, and none is no word
abbrev pub replica_words : Option ℕ → List (List ℕ)
replica_words None = []
replica_words (Some by) = decimal by ∷ []

-- its words, in order, with one space (32) between each two
abbrev pub spelling_text : Spelling → List ℕ
spelling_text spelling =
    join_with_byte 32 (replica_words spelling.by ++ spelling.verb ∷ argument_words spelling.behind)

-- the one text of the command
abbrev pub command_text : Command → List ℕ
command_text command = spelling_text (spelling_of command)

-- a command has this spelling
abbrev pub IsSpelled : Spelling → Type 0
IsSpelled spelling = (command : Command) × IsCommand command × (spelling_of command ≡ spelling)

-- the command with this spelling, or none where none has it
abbrev pub IsCommandOf : Spelling → Option Command → Type 0
IsCommandOf spelling (Some command) = IsCommand command × (spelling_of command ≡ spelling)
IsCommandOf spelling None = (command : Command) → IsCommand command → spelling_of command ≡ spelling → ⊥

-- the command is one step of a world; a sweep is several, and why asks only what is stored. A later command is a step
-- unless it is listed here: what that step is asks for a row of its own in `plan`, which has one for each command
abbrev pub IsStep : Command → Type 0
IsStep (command.Sweep order) = ⊥
IsStep (command.Why by) = ⊥
IsStep other = Unit {0}

-- a command that is one step has this spelling
abbrev pub IsSpelledStep : Spelling → Type 0
IsSpelledStep spelling =
    (command : Command) × IsCommand command × (spelling_of command ≡ spelling) × IsStep command
