-- Versions and their items.
use Rattle.std.proofs.Common.{◌≡◌, inl, inr, ℕ, List, [], ◌∷◌, Contains, arith, sym, ap, ◌∙◌}
use Rattle.std.proofs.Math.ListN.{get_or-map, length-map}
use Rattle.ficus_ids.specs.ListLaws.{here, there, here_or_there, not_inside_none}
use Rattle.ficus_ids.specs.declared.id.Id.{Id}
use Rattle.ficus_vectors.specs.VectorLaws.{same_vector}
use Rattle.ficus_file.specs.declared.version.Version.{Version}
use Rattle.ficus_model.specs.declared.event.Event.{Event}
use Rattle.ficus_version_laws.specs.Listed.{Item, IsItemOf, IsShownItem}
use Rattle.ficus_version_laws.proofs.Counting.{counts_once}
use Rattle.ficus_version_laws.proofs.Orphaned.{bytes_once}
use Rattle.ficus_file_laws.specs.Items.{item_of, items_of, AreVersionsOf}

-- the item of a version of the list is among the items
pub item_inside : (versions : List Version) (version : Version) → Contains versions version →
    Contains (items_of versions) (item_of version)
item_inside versions version inside = (
  inside.0,
  omega (arith, inside.1, length-map versions item_of),
  get_or-map item_of versions inside.0 version ∙ ap item_of inside.2,
)

-- a version of the list that has the item
pub record HasItem (versions : List Version) (item : Item) : Type 0 where
  pub version : Version
  pub inside : Contains versions version
  pub is : item_of version ≡ item

-- and each of the items is that of one
pub from_items : (versions : List Version) (item : Item) → Contains (items_of versions) item → HasItem versions item
from_items [] item inside = absurd (not_inside_none item inside)
from_items (version ∷ versions) item inside =
    elim (here_or_there (item_of version) item (items_of versions) inside) [
      | inl is ↦ record { version = version; inside = here version versions; is = sym is }
      | inr later ↦
          let found = from_items versions item later in
          record { version = found.version; inside = there version found.version versions found.inside; is = found.is }
    ]

-- two versions whose items are those of one position are one
pub one_version : {H : List Event} {file : Id} {position : ℕ} (version other : Version) →
    IsItemOf H file position (item_of version) → IsItemOf H file position (item_of other) → version ≡ other
one_version version other is is_too =
    let vector = same_vector version.vector other.vector
    (λ replica. counts_once (is.vector.counts replica) (is_too.vector.counts replica)) in
    let bytes = bytes_once is.bytes is_too.bytes in
    λ i. record { vector = vector i; bytes = bytes i }

-- each version of the list is shown
pub shown_item : {H : List Event} {U : ℕ → Type 0} {file : Id} (versions : List Version) (version : Version) →
    AreVersionsOf H U file versions → Contains versions version → IsShownItem H U file (item_of version)
shown_item versions version are inside = are.shown.each (item_of version) (item_inside versions version inside)
