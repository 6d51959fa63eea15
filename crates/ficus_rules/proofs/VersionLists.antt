-- `versions`: its answer is one, and the same over views that show the same.
use Rattle.std.proofs.Common.{subst}
use Rattle.ficus_path.specs.declared.path.Path.{Path}
use Rattle.ficus_rules.specs.Rule.{Tells, Once, Along}
use Rattle.ficus_commands.specs.declared.told.Told.TheVariants.{Versions}
use Rattle.ficus_rules.specs.Versions.{VersionsRule}
use Rattle.ficus_rules.specs.View.{View, SameShown}
use Rattle.ficus_rules.proofs.Rules.{then_once, tells_once, then_along, tells_along}
use Rattle.ficus_rules.proofs.Sound.{IsSound}
use Rattle.ficus_rules.proofs.Walks.{versioned_once, versioned_along}

pub versions_once : (view : View) → IsSound view → (path : Path) → Once (VersionsRule view path)
versions_once view sound path =
    then_once (versioned_once view path) (λ file. tells_once (Versions view.members) (sound.one_list file))

pub versions_along : {one other : View} → SameShown one other → (path : Path) →
    Along (VersionsRule one path) (VersionsRule other path)
versions_along {one} {other} same path =
    then_along (versioned_along same path)
    (λ file walked. subst (λ members. Along (Tells (Versions one.members) (one.versions file))
    (Tells (Versions members) (other.versions file))) same.members
    (tells_along (Versions one.members) (λ versions shown. (same.versions file versions).0 shown)))
