-- The removal of an entry.
use Rattle.std.specs.Prelude.{◌≡◌, ℕ, Bool, true, false, List, Contains, ◌==◌}
use Rattle.ficus_ids.specs.declared.id.Id.{Id}
use Rattle.ficus_ids.specs.Marks.{has}
use Rattle.ficus_entry.specs.Entry.{PutsEntry}
use Rattle.ficus_entry.specs.declared.entry.Entry.{Entry}
use Rattle.ficus_entry.specs.declared.entry.State.{State}
use Rattle.ficus_entry.specs.declared.entry.State.TheVariants.{Live, Dead}

-- whether an entry isn't removed
abbrev pub is_live : Entry → Bool
is_live entry = elim entry.state [ Live ↦ true | Dead one two ↦ false ]

-- a live entry of the list has the identifier
pub record HoldsLive (entries : List Entry) (id : Id) : Type 0 where
  pub entry : Entry
  pub inside : Contains entries entry
  pub has_id : entry.id ≡ id
  pub live : entry.state ≡ Live

-- no live entry of the list has one of the identifiers
abbrev pub NoneIsLive : List Entry → List Id → Type 0
NoneIsLive entries ids = (id : Id) → Contains ids id → HoldsLive entries id → ⊥

-- the marks stand for one replica alone
abbrev pub IsOnly : ℕ → ℕ → Type 0
IsOnly marks by = (replica : ℕ) → has marks replica ≡ (replica == by)

-- the entry with the identifier has become dead, known to one replica and to none that all know it, and all others stay
pub record IsKilled (old new : List Entry) (id : Id) (by : ℕ) : Type 0 where
  pub entry : Entry
  pub one : ℕ
  pub two : ℕ
  pub inside : Contains old entry
  pub has_id : entry.id ≡ id
  pub only : IsOnly one by
  pub none : (replica : ℕ) → has two replica ≡ false
  pub puts : PutsEntry old new (record entry { state = Dead one two })

-- removed just now by one replica, which alone is known to know of it
abbrev pub IsJustKilled : ℕ → State → Type 0
IsJustKilled by Live = ⊥
IsJustKilled by (Dead one two) = IsOnly one by × ((replica : ℕ) → has two replica ≡ false)

-- what the removal of the entries with these identifiers makes of an entry
pub record IsLeftAs (ids : List Id) (by : ℕ) (entry after : Entry) : Type 0 where
  pub same : after ≡ record entry { state = after.state }
  pub removed : Contains ids entry.id → IsJustKilled by after.state
  pub left : (Contains ids entry.id → ⊥) → after.state ≡ entry.state

-- an entry of the list, as the removal leaves it
pub record IsFromList (old : List Entry) (ids : List Id) (by : ℕ) (after : Entry) : Type 0 where
  pub entry : Entry
  pub inside : Contains old entry
  pub is : IsLeftAs ids by entry after

-- the list has the entry, as the removal leaves it
pub record HasLeft (new : List Entry) (ids : List Id) (by : ℕ) (entry : Entry) : Type 0 where
  pub after : Entry
  pub inside : Contains new after
  pub is : IsLeftAs ids by entry after

-- the entries with these identifiers have become dead, known to one replica alone, and all others stay
pub record AreKilled (old new : List Entry) (ids : List Id) (by : ℕ) : Type 0 where
  pub from : (after : Entry) → Contains new after → IsFromList old ids by after
  pub all : (entry : Entry) → Contains old entry → HasLeft new ids by entry
