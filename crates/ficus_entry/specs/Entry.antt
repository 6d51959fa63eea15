-- Lists of directory entries.
use Rattle.std.specs.Prelude.{◌≡◌, List, Option, All}
use Rattle.std.specs.declared.cmp.Ordering.TheVariants.{Less}
use Rattle.ficus_ids.specs.Id.{id_cmp}
use Rattle.ficus_ids.specs.declared.id.Id.{Id}
use Rattle.ficus_ids.specs.Rising.{IsRisingBy, HoldsBy, HoldsUnderBy, Adds, PutsBy, ReplacesBy}
use Rattle.ficus_entry.specs.declared.entry.Entry.{Entry}

-- the identifiers rise strictly
abbrev pub IsRising : List Entry → Type 0
IsRising entries = IsRisingBy (λ entry. entry.id) entries

-- the identifier is above those of all entries
abbrev pub IsAboveAll : List Entry → Id → Type 0
IsAboveAll entries id = All (λ entry. id_cmp entry.id id ≡ Less) entries

-- some entry of the list has the identifier
abbrev pub Holds : List Entry → Id → Type 0
Holds entries id = HoldsBy (λ entry. entry.id) entries id

-- what the list holds under the identifier: an entry, or nothing
abbrev pub HoldsUnder : List Entry → Id → Option Entry → Type 0
HoldsUnder entries id found = HoldsUnderBy (λ entry. entry.id) entries id found

-- the new list holds the old entries and this one
abbrev pub AddsEntry : List Entry → List Entry → Entry → Type 0
AddsEntry old new entry = Adds old new entry

-- the new list holds this entry, and those old ones that have other identifiers
abbrev pub PutsEntry : List Entry → List Entry → Entry → Type 0
PutsEntry old new entry = PutsBy (λ entry. entry.id) old new entry

-- under each identifier the new list holds the other entry, or where there is none what the old list holds
abbrev pub ReplacesEntries : List Entry → List Entry → List Entry → Type 0
ReplacesEntries old others new = ReplacesBy (λ entry. entry.id) old others new
