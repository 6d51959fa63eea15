-- A list of rows some of which were edited since.
use Rattle.std.specs.Prelude.{◌≡◌, ◌≢◌, ◌⊎◌, ℕ, zero, suc, ◌+◌, ◌-◌, ◌*◌, ◌/◌, ◌^◌, ◌≤◌, ◌<◌, ◌==◌, min, if◌then◌else◌, List, [], ◌∷◌, length, map, All, AllPairs, Option, Some, None}
use Rattle.std.specs.Option.{is_some}
use Rattle.ficus_ids.specs.declared.id.Id.{Id}
use Rattle.ficus_ids.specs.Rising.{IsRisingBy}
use Rattle.ficus_table.specs.declared.edit.Edit.{Edit}

-- the form that the row at an index has; of two edits there the first one counts
abbrev pub form_at : {F : Type 0} → List (Edit F) → ℕ → Option F
form_at [] index = None
form_at (edit ∷ later) index = if edit.index == index then Some edit.form else form_at later index

-- the edits with one more, in place of an earlier one at its index
abbrev pub put_in : {F : Type 0} → List (Edit F) → Edit F → List (Edit F)
put_in [] new = new ∷ []
put_in (edit ∷ later) new = if edit.index == new.index then new ∷ later else edit ∷ put_in later new

-- how many of the first indices have no edit
abbrev pub untouched : {F : Type 0} → List (Edit F) → ℕ → ℕ
untouched edits zero = 0
untouched edits (suc n) = (if is_some (form_at edits n) then 0 else 1) + untouched edits n

-- the indices of the edits
abbrev pub indices : {F : Type 0} → List (Edit F) → List ℕ
indices edits = map (λ edit. edit.index) edits

-- each edit is at an index below this one
abbrev pub AreBelow : {F : Type 0} → List (Edit F) → ℕ → Type 0
AreBelow edits end = All (λ index. index < end) (indices edits)

-- what a row shows: by its form, where it has one
abbrev pub shown : {F R S : Type 0} → (F → R → S) → (R → S) → Option F → R → S
shown formed seen None row = seen row
shown formed seen (Some form) row = formed form row

-- what rows show whose indices begin with this one
abbrev pub shown_from : {F R S : Type 0} → (F → R → S) → (R → S) → ℕ → List (Edit F) → List R → List S
shown_from formed seen start edits [] = []
shown_from formed seen start edits (row ∷ rows) =
    shown formed seen (form_at edits start) row ∷ shown_from formed seen (start + 1) edits rows

-- what the rows of a list show
abbrev pub overlaid : {F R S : Type 0} → (F → R → S) → (R → S) → List (Edit F) → List R → List S
overlaid formed seen edits rows = shown_from formed seen 0 edits rows

-- how much room is made for the edits of so many rows: the next multiple of 4,096, where memory can be so large
abbrev pub room_of : ℕ → ℕ
room_of count = min ((count / 4096 + 1) * 4096) (2 ^ 64 - 1)

-- the room was made at once for some count of rows, or there is none; grown room would have another size
abbrev pub IsMadeAtOnce : ℕ → Type 0
IsMadeAtOnce capacity = (capacity ≡ 0) ⊎ ((count : ℕ) × (capacity ≡ room_of count))

-- the identifiers rise, the edits are of rows of the list, one for each at most, and keep their identifiers, and there
-- is room for an edit of each row without one, which was made at once
pub record IsSound {F R S : Type 0} (id_of : S → Id) (seen : R → S) (formed : F → R → S) (edits : List (Edit F))
    (rows : List R) (capacity : ℕ) : Type 0 where
  pub rising : IsRisingBy (λ row. id_of (seen row)) rows
  pub within : AreBelow edits (length rows)
  pub once : AllPairs (λ one other. one ≢ other) (indices edits)
  pub same : map id_of (overlaid formed seen edits rows) ≡ map (λ row. id_of (seen row)) rows
  pub room : length edits + untouched edits (length rows) ≤ capacity
  pub made : IsMadeAtOnce capacity
