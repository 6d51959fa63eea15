-- The merge of two lists of entries.
use Rattle.std.specs.Prelude.{ℕ, List, Option}
use Rattle.std.specs.Option.{option_or}
use Rattle.ficus_ids.specs.declared.id.Id.{Id}
use Rattle.ficus_table.specs.Made.{IsMadeBy}
use Rattle.ficus_entry.specs.Entry.{HoldsUnder}
use Rattle.ficus_entry.specs.declared.entry.Entry.{Entry}
use Rattle.ficus_merge_entries.specs.Table.{MergesEntry}

-- under each identifier, what the merged list holds is what the table says of what the two lists hold
pub record MergesEntries (r members : ℕ) (mine theirs merged : List Entry) : Type 0 where
  pub each : (id : Id) (at_r at_peer after : Option Entry) → HoldsUnder mine id at_r → HoldsUnder theirs id at_peer →
      HoldsUnder merged id after → MergesEntry r members at_r at_peer after

-- the replacement, or where there is none what stood at r, is what the table says
abbrev pub IsReplacement : ℕ → ℕ → Option Entry → Option Entry → Option Entry → Type 0
IsReplacement r members mine theirs replacement = MergesEntry r members mine theirs (option_or replacement mine)

-- under each identifier, the list holds the replacement of what the two lists hold, or nothing where there is none
abbrev pub AreReplacements : ℕ → ℕ → List Entry → List Entry → List Entry → Type 0
AreReplacements r members = IsMadeBy (λ entry. entry.id) (IsReplacement r members)
