-- What the resolver of its kind makes of a file.
use Rattle.std.specs.Prelude.{◌≡◌, ℕ, List, map, Option, Some, None, Result, Ok, Err}
use Rattle.ficus_ids.specs.declared.id.Id.{Id}
use Rattle.ficus_ids.specs.declared.kind.Kind.{Kind}
use Rattle.ficus_ids.specs.declared.refusal.Refusal.{Refusal}
use Rattle.ficus_ids.specs.declared.refusal.Refusal.TheVariants.{Declined}
use Rattle.ficus_file.specs.declared.version.Version.{Version}
use Rattle.ficus_resolve.specs.Resolver.{IsResolution}
use Rattle.ficus_rules.specs.View.{View}

-- what the resolver of the file's kind makes of the contents of its versions
pub record ComesOf (view : View) (file : Id) (outcome : Option (List ℕ)) : Type 0 where
  pub kind : Kind
  pub of_kind : view.kinds file kind
  pub versions : List Version
  pub shown : view.versions file versions
  pub resolution : IsResolution kind (map (λ version. version.bytes) versions) outcome

-- this, or `declined` where the resolver declines
abbrev pub ResolvedRule : View → Id → Result (List ℕ) Refusal → Type 0
ResolvedRule view file (Ok bytes) = ComesOf view file (Some bytes)
ResolvedRule view file (Err refusal) = (refusal ≡ Declined) × ComesOf view file None
