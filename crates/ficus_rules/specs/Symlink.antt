-- `symlink`: what it answers.
use Rattle.std.specs.Prelude.{ℕ, List, length, Result}
use Rattle.ficus_ids.specs.Kind.{most_fixed_bytes, FitsKind}
use Rattle.ficus_ids.specs.declared.kind.Kind.TheVariants.{Symlink}
use Rattle.ficus_ids.specs.declared.refusal.Refusal.{Refusal}
use Rattle.ficus_ids.specs.declared.refusal.Refusal.TheVariants.{Exists}
use Rattle.ficus_model.specs.declared.event.Op.{Op}
use Rattle.ficus_model.specs.declared.event.Op.TheVariants.{Make}
use Rattle.ficus_path.specs.declared.path.Path.{Path}
use Rattle.ficus_rules.specs.Limits.{LimitsUpTo}
use Rattle.ficus_rules.specs.Rule.{Then, Unless, GivesWhere}
use Rattle.ficus_rules.specs.View.{View, IsTakenIn}
use Rattle.ficus_rules.specs.Walk.{ParentRule, last_name}

-- the parent walk; `exists`; the limits, with 1,024 bytes at most; else a Make of a symbolic link with the text,
-- which isn't empty
abbrev pub SymlinkRule : View → Path → List ℕ → Result Op Refusal → Type 0
SymlinkRule view path text =
    Then (ParentRule view path) (λ dir.
    Unless (IsTakenIn view dir (last_name path)) Exists (
    LimitsUpTo most_fixed_bytes view (length text) (
    GivesWhere (FitsKind Symlink text) (Make dir (last_name path) Symlink text))))
