-- What version vectors and covers count. Source: Parker and others 1983.
use Rattle.std.specs.Prelude.{◌≡◌, ◌⊎◌, ℕ, zero, suc, ◌+◌, List, length}
use Rattle.ficus_ids.specs.declared.id.Id.{Id}
use Rattle.ficus_model.specs.declared.event.Event.{Event}
use Rattle.ficus_model.specs.Events.{IsOf}
use Rattle.ficus_model.specs.Known.{HasInPast}
use Rattle.ficus_model.specs.Versions.{IsVersion, IsCovering}

-- among the numbers below the bound exactly so many have the property
pub data Counts (P : ℕ → Type 0) : ℕ → ℕ → Type 0 where
  Nothing : Counts P zero zero
  OneMore : {bound count : ℕ} → P bound → Counts P bound count → Counts P (suc bound) (suc count)
  AsMany : {bound count : ℕ} → (P bound → ⊥) → Counts P bound count → Counts P (suc bound) count

-- a version event of the file by the replica which is the one at the position or lies in its past
pub record IsInVector (H : List Event) (file : Id) (position replica counted : ℕ) : Type 0 where
  pub version : IsVersion H file counted
  pub own : IsOf H counted replica
  pub within : (counted ≡ position) ⊎ HasInPast H position counted

-- the vector of the file's version at a position: for each replica how many such version events there are
pub record IsVectorOf (H : List Event) (file : Id) (position : ℕ) (vector : ℕ → ℕ) : Type 0 where
  pub counts : (replica : ℕ) → Counts (IsInVector H file position replica) (position + 1) (vector replica)

-- a version event of the file by the replica which lies in the past of a known Remove or Discard of the file
pub record IsCovered (H : List Event) (U : ℕ → Type 0) (file : Id) (replica counted : ℕ) : Type 0 where
  pub version : IsVersion H file counted
  pub own : IsOf H counted replica
  pub cover : ℕ
  pub covering : IsCovering H file cover
  pub known : U cover
  pub past : HasInPast H cover counted

-- the cover of the file: for each replica how many such version events there are
pub record IsCoverOf (H : List Event) (U : ℕ → Type 0) (file : Id) (cover : ℕ → ℕ) : Type 0 where
  pub counts : (replica : ℕ) → Counts (IsCovered H U file replica) (length H) (cover replica)
