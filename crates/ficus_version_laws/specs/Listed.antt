-- Lists of the shown versions of a file: what they have, and how they are merged and advanced.
use Rattle.std.specs.Prelude.{◌↔◌, ◌⊎◌, ℕ, max, List, [], ◌∷◌, Contains}
use Rattle.ficus_ids.specs.declared.id.Id.{Id}
use Rattle.ficus_model.specs.declared.event.Event.{Event}
use Rattle.ficus_model.specs.Known.{HasInPast}
use Rattle.ficus_model.specs.Versions.{HasBytes, IsShown}
use Rattle.ficus_model.specs.Vectors.{IsVectorOf}
use Rattle.ficus_version_laws.specs.Compared.{IsUnder, bump}

-- a version as a list has it: its vector and its bytes
pub record Item : Type 0 where
  pub vector : ℕ → ℕ
  pub bytes : List ℕ

-- the item has the vector and the bytes of the file's version at the position
pub record IsItemOf (H : List Event) (file : Id) (position : ℕ) (item : Item) : Type 0 where
  pub vector : IsVectorOf H file position item.vector
  pub bytes : HasBytes H position item.bytes

-- the item is that of a shown version
pub record IsShownItem (H : List Event) (U : ℕ → Type 0) (file : Id) (item : Item) : Type 0 where
  pub position : ℕ
  pub shown : IsShown H U file position
  pub is : IsItemOf H file position item

-- an item of the list is that of the version at the position
pub record IsListed (H : List Event) (file : Id) (versions : List Item) (position : ℕ) : Type 0 where
  pub item : Item
  pub inside : Contains versions item
  pub is : IsItemOf H file position item

-- the list has the items of the shown versions, and no others
pub record AreShown (H : List Event) (U : ℕ → Type 0) (file : Id) (versions : List Item) : Type 0 where
  pub each : (item : Item) → Contains versions item → IsShownItem H U file item
  pub all : (position : ℕ) → IsShown H U file position → IsListed H file versions position

-- shown in the one or in the other
abbrev pub IsShownInEither : List Event → (ℕ → Type 0) → List Event → (ℕ → Type 0) → Id → ℕ → Type 0
IsShownInEither H U K V file position = IsShown H U file position ⊎ IsShown K V file position

-- a version that is shown in one of the two, and lies in the past of none that is shown in one of them
pub record IsLatestOfBoth (H : List Event) (U : ℕ → Type 0) (K : List Event) (V : ℕ → Type 0)
    (file : Id) (position : ℕ) : Type 0 where
  pub shown : IsShownInEither H U K V file position
  pub latest : (other : ℕ) → IsShownInEither H U K V file other → HasInPast H other position → ⊥

-- an item of the one list or of the other
abbrev pub IsOfEither : List Item → List Item → Item → Type 0
IsOfEither versions others item = Contains versions item ⊎ Contains others item

-- an item of the two lists whose vector is under that of none of their items
pub record IsKept (members : ℕ) (versions others : List Item) (item : Item) : Type 0 where
  pub from : IsOfEither versions others item
  pub latest : (over : Item) → IsOfEither versions others over → IsUnder members item.vector over.vector → ⊥

-- the list has the kept items of the two, and no others
pub record AreMerged (members : ℕ) (versions others merged : List Item) : Type 0 where
  pub items : (item : Item) → Contains merged item ↔ IsKept members versions others item

-- for each replica the greatest count of the versions
abbrev pub join_all : List Item → ℕ → ℕ
join_all [] replica = 0
join_all (item ∷ items) replica = max (item.vector replica) (join_all items replica)

-- the one version that a write by a replica leaves: it is over all of these
abbrev pub advanced : ℕ → List ℕ → List Item → List Item
advanced by bytes versions = record { vector = bump by (join_all versions); bytes = bytes } ∷ []
