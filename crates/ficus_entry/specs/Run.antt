-- Entries that are read one by one.
use Rattle.std.specs.Prelude.{◌≡◌, ℕ, ◌+◌, ◌-◌, ◌^◌, min, ◌++◌, List, [], Option, None}
use Rattle.ficus_table.specs.SideBySide.{as_list}
use Rattle.ficus_entry.specs.declared.entry.Entry.{Entry}

-- the entries left, and how many calls were made
pub record Reading : Type 0 where
  pub left : List Entry
  pub calls : ℕ

-- the first of what was left, if there is one, and what is left behind it
pub record Takes (before after : List Entry) (first : Option Entry) : Type 0 where
  pub is : before ≡ as_list first ++ after
  pub none : first ≡ None → after ≡ []

-- the count after one more call: it stands still at 2^64 - 1
abbrev pub next_call : ℕ → ℕ
next_call calls = min (calls + 1) (2 ^ 64 - 1)
