-- What comes of resolving, by the kind of the file.
use Rattle.std.specs.Prelude.{◌≡◌, ℕ, ◌<◌, List, length, Option, Some, None}
use Rattle.ficus_ids.specs.declared.kind.Kind.{Kind}
use Rattle.ficus_ids.specs.declared.kind.Kind.TheVariants.{Dir, Plain, Lines, Max, Keep, Symlink}
use Rattle.ficus_resolve.specs.Keep.{KeepsAll}
use Rattle.ficus_resolve.specs.Lines.{IsUnionOfLines}
use Rattle.ficus_resolve.specs.Max.{IsMaximum}

-- what the resolver of the kind makes of the contents, or nothing where it declines; what has no versions that
-- change has no resolver
abbrev pub IsResolution : Kind → List (List ℕ) → Option (List ℕ) → Type 0
IsResolution Dir contents outcome = ⊥
IsResolution Plain contents outcome = outcome ≡ None
IsResolution Lines contents (Some text) = IsUnionOfLines contents text
IsResolution Lines contents None = ⊥
IsResolution Max contents outcome = IsMaximum contents outcome
IsResolution Keep contents (Some text) = KeepsAll contents text
IsResolution Keep contents None = ⊥
IsResolution Symlink contents outcome = ⊥

-- the resolver's text has more bytes than a content may have
pub record IsTooLong (kind : Kind) (contents : List (List ℕ)) : Type 0 where
  pub text : List ℕ
  pub resolved : IsResolution kind contents (Some text)
  pub long : 16384 < length text
