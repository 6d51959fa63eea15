-- `alike`: what two views are compared by.
use Rattle.std.specs.Prelude.{◌↔◌, ℕ, List}
use Rattle.ficus_ids.specs.declared.id.Id.{Id}
use Rattle.ficus_ids.specs.declared.kind.Kind.{Kind}
use Rattle.ficus_file.specs.declared.version.Version.{Version}
use Rattle.ficus_rules.specs.View.{View, IsBoundIn}

-- both show the same names in each directory, and of each visible object the same kind and the same versions, and both
-- have the same orphans; which names and files are in conflict and which directories are detached follows. What is
-- known of removals isn't compared.
pub record AreAlike (one other : View) : Type 0 where
  pub bound : (dir : Id) (name : List ℕ) (target : Id) → IsBoundIn one dir name target ↔ IsBoundIn other dir name target
  pub kinds : (object : Id) (kind : Kind) → one.kinds object kind ↔ other.kinds object kind
  pub versions : (object : Id) (versions : List Version) →
      one.versions object versions ↔ other.versions object versions
  pub orphans : (object : Id) → one.orphans object ↔ other.orphans object
