-- `resolve`: its answer is one, and the same over views that show the same.
use Rattle.std.proofs.Common.{length, Ok}
use Rattle.ficus_ids.specs.declared.refusal.Refusal.TheVariants.{NoConflict}
use Rattle.ficus_model.specs.declared.event.Op.TheVariants.{Resolve}
use Rattle.ficus_path.specs.declared.path.Path.{Path}
use Rattle.ficus_rules.specs.Resolve.{NeedsResolver, ResolveRule}
use Rattle.ficus_rules.specs.Rule.{Once, Along}
use Rattle.ficus_rules.specs.View.{View, SameView}
use Rattle.ficus_rules.proofs.Limits.{limits_once, limits_along}
use Rattle.ficus_rules.proofs.Resolved.{resolved_once, resolved_along}
use Rattle.ficus_rules.proofs.Rules.{then_once, where_once, gives_once, then_along, where_along, gives_along}
use Rattle.ficus_rules.proofs.Sound.{IsSound}
use Rattle.ficus_rules.proofs.Walks.{versioned_once, versioned_along}

pub resolve_once : (view : View) → IsSound view → (path : Path) → Once (ResolveRule view path)
resolve_once view sound path =
    then_once (versioned_once view path)
    (λ file. where_once _ _ (then_once (resolved_once sound file) (λ bytes. limits_once view _ (gives_once _))))

pub resolve_along : {one other : View} → SameView one other → (path : Path) →
    Along (ResolveRule one path) (ResolveRule other path)
resolve_along same path =
    then_along (versioned_along same.shown path)
    (λ file walked. where_along NoConflict (same.shown.conflicts file)
    (then_along (resolved_along same.shown file)
    (λ bytes resolved. limits_along same (length bytes) (gives_along (Resolve file bytes)))))

pub resolver_there : {one other : View} → SameView one other → (path : Path) → NeedsResolver one path →
    NeedsResolver other path
resolver_there same path needs = record {
  file = needs.file;
  walked = versioned_along same.shown path (Ok needs.file) needs.walked;
  conflict = (same.shown.conflicts needs.file).0 needs.conflict;
}
