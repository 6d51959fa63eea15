-- Laws of kinds, for the proofs of the crates above.
use Rattle.std.specs.Prelude.{◌≡◌, ◌≢◌, ◌⊎◌, ℕ, ◌≤◌, List, [], length}
use Rattle.std.proofs.Common.{inl, inr, refl, arith}
use Rattle.ficus_ids.specs.Kind.{sort_of, FitsKind, most_fixed_bytes}
use Rattle.ficus_ids.specs.declared.kind.Kind.{Kind}
use Rattle.ficus_ids.specs.declared.kind.Kind.TheVariants.{Dir, Symlink}
use Rattle.ficus_ids.specs.declared.kind.Sort.TheVariants.{Directory, Versioned, Fixed}

-- a kind is that of directories, or one of files
pub kind_sort : (kind : Kind) → (kind ≡ Dir) ⊎ (kind ≢ Dir)
kind_sort Dir = inl refl
kind_sort kind = inr (λ is. cc)

-- only directories are for entries to lie in them
pub directory_kind : (kind : Kind) → sort_of kind ≡ Directory → kind ≡ Dir
directory_kind Dir directory = refl
directory_kind kind directory = absurd cc

-- a text that an object may be made with is short
pub text_short : (kind : Kind) (text : List ℕ) → FitsKind kind text → length text ≤ most_fixed_bytes
text_short Symlink text fits = fits.within
text_short kind text none = let same : text ≡ [] = none in rw same (omega arith)

-- what isn't a directory, and has no text that stays, has versions that change
pub versioned_kind : (kind : Kind) → kind ≢ Dir → (sort_of kind ≡ Fixed → ⊥) → sort_of kind ≡ Versioned
versioned_kind Dir other changes = absurd (other refl)
versioned_kind Symlink other changes = absurd (changes refl)
versioned_kind kind other changes = refl

-- an object whose text stays isn't a directory
pub fixed_file : {kind : Kind} → sort_of kind ≡ Fixed → kind ≢ Dir
fixed_file {kind = Dir} fixed is = absurd cc
fixed_file {kind = kind} fixed is = absurd cc

-- an object whose versions change isn't a directory
pub versioned_file : {kind : Kind} → sort_of kind ≡ Versioned → kind ≢ Dir
versioned_file {kind = Dir} versioned is = absurd cc
versioned_file {kind = kind} versioned is = absurd cc
