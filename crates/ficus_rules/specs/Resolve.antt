-- `resolve`: what it answers.
use Rattle.std.specs.Prelude.{length, Result, Ok}
use Rattle.ficus_ids.specs.declared.id.Id.{Id}
use Rattle.ficus_ids.specs.declared.refusal.Refusal.{Refusal}
use Rattle.ficus_ids.specs.declared.refusal.Refusal.TheVariants.{NoConflict}
use Rattle.ficus_model.specs.declared.event.Op.{Op}
use Rattle.ficus_model.specs.declared.event.Op.TheVariants.{Resolve}
use Rattle.ficus_path.specs.declared.path.Path.{Path}
use Rattle.ficus_rules.specs.Limits.{LimitsRule}
use Rattle.ficus_rules.specs.Resolved.{ResolvedRule}
use Rattle.ficus_rules.specs.Rule.{Then, Where, Gives}
use Rattle.ficus_rules.specs.View.{View}
use Rattle.ficus_rules.specs.Walk.{VersionedRule}

-- the file is in conflict: what is refused further is known by what its resolver makes, and that takes memory
pub record NeedsResolver (view : View) (path : Path) : Type 0 where
  pub file : Id
  pub walked : VersionedRule view path (Ok file)
  pub conflict : view.conflicts file

-- the walk; `isdir`; `islink`; `noconflict`; `declined`; the limits; else a Resolve
abbrev pub ResolveRule : View → Path → Result Op Refusal → Type 0
ResolveRule view path =
    Then (VersionedRule view path) (λ file.
    Where (view.conflicts file) NoConflict (
    Then (ResolvedRule view file) (λ bytes.
    LimitsRule view (length bytes) (
    Gives (Resolve file bytes)))))
