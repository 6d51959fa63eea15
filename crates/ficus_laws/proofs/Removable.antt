-- What an operation may remove.
use Rattle.std.proofs.Common.{◌≡◌, ◌⊎◌, ℕ, List, [], refl, inl, inr}
use Rattle.std.specs.Prelude.{Contains}
use Rattle.ficus_ids.specs.ListLaws.{here_or_there, not_inside_none}
use Rattle.ficus_ids.specs.declared.id.Id.{Id}
use Rattle.ficus_model.specs.declared.event.Event.{Event}
use Rattle.ficus_model.specs.declared.event.Op.{Op}
use Rattle.ficus_model.specs.declared.event.Op.TheVariants.{Remove, Move, Discard}
use Rattle.ficus_model.specs.Live.{ModelEntry, removed_by, IsLive}
use Rattle.ficus_model.specs.Lawful.{AreNames, IsAllowed}

-- an entry with this identifier is alive
pub record IsLiveAs (H : List Event) (U : ℕ → Type 0) (id : Id) : Type 0 where
  pub entry : ModelEntry
  pub live : IsLive H U entry
  pub named : entry.id ≡ id

-- the operation is a Discard, and the identifier is its number
pub record IsDiscardOf (number : Id) (op : Op) (id : Id) : Type 0 where
  pub file : Id
  pub is : op ≡ Discard file
  pub own : id ≡ number

-- what an operation may remove is alive, or the operation is the Discard that enters it
abbrev pub IsRemovable : List Event → (ℕ → Type 0) → Id → Op → Id → Type 0
IsRemovable H U number op id = IsLiveAs H U id ⊎ IsDiscardOf number op id

named_live : {H : List Event} {U : ℕ → Type 0} {entries : List Id} {object id : Id} → AreNames H U entries object →
    Contains entries id → IsLiveAs H U id
named_live {id = id} names inside =
    let found = (names.all id).0 inside in
    record { entry = found.bound.entry; live = found.bound.live; named = found.by }

pub is_removable : (H : List Event) (U : ℕ → Type 0) (number id : Id) (op : Op) → IsAllowed H U op →
    Contains (removed_by number op) id → IsRemovable H U number op id
is_removable H U number id (Remove entries target) allowed removes = inl (named_live allowed.names removes)
is_removable H U number id (Move entries dir name target) allowed removes = inl (named_live allowed.names removes)
is_removable H U number id (Discard file) allowed removes =
    inr (record { file = file; is = refl; own = only (here_or_there number id [] removes) })
  where
    only : (id ≡ number) ⊎ Contains [] id → id ≡ number
    only (inl same) = same
    only (inr none) = absurd (not_inside_none id none)
is_removable H U number id op allowed removes = absurd (not_inside_none id removes)
