-- What a table holds, and what becomes of it without memory.
use Rattle.std.specs.Prelude.{◌≡◌, ◌⊎◌, ◌↔◌, ℕ, List, [], map, Option, Some, Result, IfOk, OnOk, OnErr, slice_get, slice_set, Contains}
use Rattle.ficus_ids.specs.declared.id.Id.{Id}
use Rattle.ficus_ids.specs.Rising.{IsRisingBy, ReplacesBy}
use Rattle.ficus_table.specs.Edits.{shown}

-- what the rows show, and the indices of those that were edited
pub record Rows (S : Type 0) : Type 0 where
  pub items : List S
  pub edited : List ℕ

-- a row with the identifier of what stands at the index keeps it when this becomes of it
abbrev pub KeepsId : {F R S : Type 0} → (S → Id) → (R → S) → (F → R → S) → List S → ℕ → F → Type 0
KeepsId id_of seen formed items index form = (row : _) (was : _) → slice_get items index ≡ Some was →
    id_of (seen row) ≡ id_of was → id_of (formed form row) ≡ id_of was

-- the row at the index, which had the earlier form if there was one, has this form, and all others stay
pub record IsEdited {F R S : Type 0} (seen : R → S) (formed : F → R → S) (old new : Rows S) (index : ℕ) (form : F)
    (earlier : Option F) : Type 0 where
  pub row : R
  pub was : slice_get old.items index ≡ Some (shown formed seen earlier row)
  pub is : new.items ≡ slice_set old.items index (formed form row)
  pub edited : (other : ℕ) → Contains new.edited other ↔ (Contains old.edited other ⊎ (other ≡ index))

-- the table shows these from now on, of which none was edited, or all is as before
pub record HoldsFrom {S A E : Type 0} (id_of : S → Id) (shown : List S) (old new : Rows S) (result : Result A E)
    : Type 0 where
  pub items : OnOk result (new.items ≡ shown)
  pub edited : OnOk result (new.edited ≡ [])
  pub kept : OnErr result (new ≡ old)
  pub rising : IsRisingBy id_of new.items

-- a list in which each of these rows stands in place of the one with its identifier
pub record ReplacesIn {R S E : Type 0} (id_of : S → Id) (seen : R → S) (items : List S) (rows : List R)
    (result : Result (List R) E) : Type 0 where
  pub replaced : IfOk result (λ list. ReplacesBy id_of items (map seen rows) (map seen list))
  pub rising : IfOk result (IsRisingBy (λ row. id_of (seen row)))
