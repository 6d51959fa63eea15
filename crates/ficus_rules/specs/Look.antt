-- What each look at a replica tells.
use Rattle.std.specs.Prelude.{Result}
use Rattle.ficus_ids.specs.declared.refusal.Refusal.{Refusal}
use Rattle.ficus_commands.specs.declared.look.Look.{Look}
use Rattle.ficus_commands.specs.declared.look.Look.TheVariants.{Ls, Read, Versions, ReadLink, Tree, Conflicts, Orphans, Detached, Marks}
use Rattle.ficus_commands.specs.declared.told.Told.{Told}
use Rattle.ficus_rules.specs.Conflicts.{ConflictsRule}
use Rattle.ficus_rules.specs.Detached.{DetachedRule}
use Rattle.ficus_rules.specs.List.{ListRule}
use Rattle.ficus_rules.specs.Marks.{MarksRule}
use Rattle.ficus_rules.specs.Orphans.{OrphansRule}
use Rattle.ficus_rules.specs.Read.{ReadRule}
use Rattle.ficus_rules.specs.ReadLink.{ReadLinkRule}
use Rattle.ficus_rules.specs.Tree.{TreeRule}
use Rattle.ficus_rules.specs.Versions.{VersionsRule}
use Rattle.ficus_rules.specs.View.{View}

-- what the look tells, or why it is refused
abbrev pub LookRule : View → Look → Result Told Refusal → Type 0
LookRule view (Ls path) = ListRule view path
LookRule view (Read path) = ReadRule view path
LookRule view (Versions path) = VersionsRule view path
LookRule view (ReadLink path) = ReadLinkRule view path
LookRule view Tree = TreeRule view
LookRule view Conflicts = ConflictsRule view
LookRule view Orphans = OrphansRule view
LookRule view Detached = DetachedRule view
LookRule view Marks = MarksRule view

-- the look tells of what is shown, and not of what a replica knows of removals
abbrev pub TellsOfView : Look → Type 0
TellsOfView (Ls path) = Unit {0}
TellsOfView (Read path) = Unit {0}
TellsOfView (Versions path) = Unit {0}
TellsOfView (ReadLink path) = Unit {0}
TellsOfView Tree = Unit {0}
TellsOfView Conflicts = Unit {0}
TellsOfView Orphans = Unit {0}
TellsOfView Detached = Unit {0}
TellsOfView Marks = ⊥
