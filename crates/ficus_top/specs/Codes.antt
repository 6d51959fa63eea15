-- The codes with which the program ends.
use Rattle.std.specs.Prelude.{◌≡◌, ◌⊎◌, ℕ}

-- the code of a run that ended before the whole script was read
abbrev pub IsUnreadCode : ℕ → Type 0
IsUnreadCode code = (code ≡ 1) ⊎ (code ≡ 4) ⊎ (code ≡ 8)

-- the code of a run that read the whole script, where its mode reads one
abbrev pub IsReadCode : ℕ → Type 0
IsReadCode code = (code ≡ 0) ⊎ (code ≡ 2) ⊎ (code ≡ 5) ⊎ (code ≡ 6) ⊎ (code ≡ 7) ⊎ (code ≡ 9)

-- the code of a run in which no command was carried out
abbrev pub IsIdleCode : ℕ → Type 0
IsIdleCode code = IsUnreadCode code ⊎ (code ≡ 2) ⊎ (code ≡ 6) ⊎ (code ≡ 7) ⊎ (code ≡ 9)

-- the code of a run that touched no disk
abbrev pub IsUntouchedCode : ℕ → Type 0
IsUntouchedCode code = IsUnreadCode code ⊎ (code ≡ 2)

-- the code is one of those that the program ends with
abbrev pub IsCode : ℕ → Type 0
IsCode code = (code ≡ 0) ⊎ (code ≡ 1) ⊎ (code ≡ 2) ⊎ (code ≡ 3) ⊎ (code ≡ 4) ⊎ (code ≡ 5) ⊎ (code ≡ 6) ⊎ (code ≡ 7)
    ⊎ (code ≡ 8) ⊎ (code ≡ 9)

-- the code names a replica: its disks failed, are those of no world, or hold something
abbrev pub NamesReplica : ℕ → Type 0
NamesReplica code = (code ≡ 6) ⊎ (code ≡ 7) ⊎ (code ≡ 9)

-- a code that stands for the first bad line, by its number, or want of memory
abbrev pub IsBadLineCode : ℕ → ℕ → ℕ → Type 0
IsBadLineCode n code line = ((code ≡ 2) × (line ≡ n)) ⊎ (code ≡ 3)

-- a code that refuses the disks of this replica, and names it; or a fault came before, or want of memory
abbrev pub IsRefusalCode : ℕ → ℕ → ℕ → ℕ → Type 0
IsRefusalCode refusal r code replica =
    ((code ≡ refusal) × (replica ≡ r)) ⊎ IsUntouchedCode code ⊎ (code ≡ 3) ⊎ (code ≡ 6)
