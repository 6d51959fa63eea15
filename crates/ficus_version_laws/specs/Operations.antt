-- Which operations give a file a version, and which give it up.
use Rattle.std.specs.Prelude.{◌≢◌, ℕ, List}
use Rattle.ficus_ids.specs.declared.id.Id.{Id}
use Rattle.ficus_ids.specs.declared.kind.Kind.{Kind}
use Rattle.ficus_ids.specs.declared.kind.Kind.TheVariants.{Dir}
use Rattle.ficus_model.specs.declared.event.Op.{Op}
use Rattle.ficus_model.specs.declared.event.Op.TheVariants.{Make, Remove, Write, Settle, Resolve, Discard}

-- The update with this number gives the file a version with these bytes: the Make of a file gives it the first,
-- its text, and a Write, a Settle and a Resolve the bytes that they name.
pub data Writes : Id → Op → Id → List ℕ → Type 0 where
  ByMake : {number dir : Id} {name text : List ℕ} {kind : Kind} → kind ≢ Dir →
      Writes number (Make dir name kind text) number text
  ByWrite : {number file : Id} {bytes : List ℕ} → Writes number (Write file bytes) file bytes
  BySettle : {number file : Id} {bytes : List ℕ} → Writes number (Settle file bytes) file bytes
  ByResolve : {number file : Id} {bytes : List ℕ} → Writes number (Resolve file bytes) file bytes

-- the operation gives the object up: it is a Remove or a Discard of it
pub data GivesUp : Op → Id → Type 0 where
  ByRemove : {entries : List Id} {target : Id} → GivesUp (Remove entries target) target
  ByDiscard : {file : Id} → GivesUp (Discard file) file
