-- The commands that verbs make of paths, kinds and texts.
use Rattle.std.specs.Prelude.{ℕ, List}
use Rattle.ficus_ids.specs.declared.kind.Kind.{Kind}
use Rattle.ficus_path.specs.declared.path.Path.{Path}
use Rattle.ficus_commands.specs.declared.change.Change.TheVariants as change
use Rattle.ficus_commands.specs.declared.look.Look.TheVariants as look
use Rattle.ficus_script.specs.declared.command.Command.{Command}
use Rattle.ficus_script.specs.declared.command.Command.TheVariants as command
use Rattle.ficus_script.specs.declared.verbs.PathVerb.{PathVerb}
use Rattle.ficus_script.specs.declared.verbs.PathVerb.TheVariants as path_verb
use Rattle.ficus_script.specs.declared.verbs.KindVerb.{KindVerb}
use Rattle.ficus_script.specs.declared.verbs.KindVerb.TheVariants as kind_verb
use Rattle.ficus_script.specs.declared.verbs.TextVerb.{TextVerb}
use Rattle.ficus_script.specs.declared.verbs.TextVerb.TheVariants as text_verb
use Rattle.ficus_script.specs.declared.verbs.PathsVerb.{PathsVerb}
use Rattle.ficus_script.specs.declared.verbs.PathsVerb.TheVariants as paths_verb

-- of one path
abbrev pub path_command : ℕ → Path → PathVerb → Command
path_command by path path_verb.MkDir = command.Change by (change.MkDir path)
path_command by path path_verb.Rm = command.Change by (change.Rm path)
path_command by path path_verb.Resolve = command.Change by (change.Resolve path)
path_command by path (path_verb.Discard orphan) = command.Change by (change.Discard orphan)
path_command by path path_verb.Ls = command.Look by (look.Ls path)
path_command by path path_verb.Read = command.Look by (look.Read path)
path_command by path path_verb.Versions = command.Look by (look.Versions path)
path_command by path path_verb.ReadLink = command.Look by (look.ReadLink path)

-- of a path and the kind of a file
abbrev pub kind_command : ℕ → Path → Kind → KindVerb → Command
kind_command by path kind kind_verb.Create = command.Change by (change.Create path kind)

-- of a path and a text
abbrev pub text_command : ℕ → Path → List ℕ → TextVerb → Command
text_command by path text text_verb.Symlink = command.Change by (change.Symlink path text)
text_command by path text text_verb.Write = command.Change by (change.Write path text)
text_command by path text text_verb.Settle = command.Change by (change.Settle path text)

-- of two paths
abbrev pub paths_command : ℕ → Path → Path → PathsVerb → Command
paths_command by from path paths_verb.Ln = command.Change by (change.Ln from path)
paths_command by from path paths_verb.Mv = command.Change by (change.Mv from path)
paths_command by from path (paths_verb.Adopt orphan) = command.Change by (change.Adopt orphan path)
