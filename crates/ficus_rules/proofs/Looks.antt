-- The looks: each has one answer; those that tell of the view the same over views that show the same, and all of them
-- over views that are the same.
use Rattle.ficus_commands.specs.declared.look.Look.{Look}
use Rattle.ficus_commands.specs.declared.look.Look.TheVariants.{Ls, Read, Versions, ReadLink, Tree, Conflicts, Orphans, Detached, Marks}
use Rattle.ficus_rules.specs.Look.{LookRule, TellsOfView}
use Rattle.ficus_rules.specs.Rule.{UnlessMemory, Once, Along}
use Rattle.ficus_rules.specs.View.{View, SameShown, SameView}
use Rattle.ficus_rules.proofs.Conflicts.{conflicts_once, conflicts_along}
use Rattle.ficus_rules.proofs.Detached.{detached_once, detached_along}
use Rattle.ficus_rules.proofs.Lists.{list_once, list_along}
use Rattle.ficus_rules.proofs.Marks.{marks_once, marks_along}
use Rattle.ficus_rules.proofs.Orphans.{orphans_once, orphans_along}
use Rattle.ficus_rules.proofs.Reading.{read_once, read_along}
use Rattle.ficus_rules.proofs.ReadLinks.{readlink_once, readlink_along}
use Rattle.ficus_rules.proofs.Rules.{memory_along}
use Rattle.ficus_rules.proofs.Sound.{IsSound}
use Rattle.ficus_rules.proofs.Trees.{tree_once, tree_along}
use Rattle.ficus_rules.proofs.VersionLists.{versions_once, versions_along}
use Rattle.ficus_rules.proofs.Views.{view_back}

pub look_once : (view : View) → IsSound view → (look : Look) → Once (LookRule view look)
look_once view sound (Ls path) = list_once view sound path
look_once view sound (Read path) = read_once view sound path
look_once view sound (Versions path) = versions_once view sound path
look_once view sound (ReadLink path) = readlink_once view sound path
look_once view sound Tree = tree_once sound
look_once view sound Conflicts = conflicts_once view
look_once view sound Orphans = orphans_once view
look_once view sound Detached = detached_once view
look_once view sound Marks = marks_once view

pub shown_along : {one other : View} → SameShown one other → (look : Look) → TellsOfView look →
    Along (LookRule one look) (LookRule other look)
shown_along same (Ls path) tells = list_along same path
shown_along same (Read path) tells = read_along same path
shown_along same (Versions path) tells = versions_along same path
shown_along same (ReadLink path) tells = readlink_along same path
shown_along same Tree tells = tree_along same
shown_along same Conflicts tells = conflicts_along same
shown_along same Orphans tells = orphans_along same
shown_along same Detached tells = detached_along same
shown_along same Marks none = absurd none

pub look_along : {one other : View} → SameView one other → (look : Look) →
    Along (LookRule one look) (LookRule other look)
look_along same (Ls path) = shown_along same.shown (Ls path) tt
look_along same (Read path) = shown_along same.shown (Read path) tt
look_along same (Versions path) = shown_along same.shown (Versions path) tt
look_along same (ReadLink path) = shown_along same.shown (ReadLink path) tt
look_along same Tree = shown_along same.shown Tree tt
look_along same Conflicts = shown_along same.shown Conflicts tt
look_along same Orphans = shown_along same.shown Orphans tt
look_along same Detached = shown_along same.shown Detached tt
look_along same Marks = marks_along same

-- with want of memory
pub look_memory_along : {one other : View} → SameView one other → (look : Look) →
    Along (UnlessMemory (LookRule one look)) (UnlessMemory (LookRule other look))
look_memory_along same look = memory_along (look_along same look) (look_along (view_back same) look)
