-- The parts of an answer that are held.
use Rattle.std.specs.Prelude.{◌≡◌, ◌≢◌, ℕ, ◌+◌, ◌<◌, ◌≤◌, List, [], ◌∷◌, map, Option, Some, None, IsSome}
use Rattle.std.specs.BTreeMap.{insert_entry, is_at}
use Rattle.std.specs.List.{concat, range_with_len}
use Rattle.std.specs.Map.{lookup}
use Rattle.std.specs.Option.{unwrap_or}
use Rattle.std.specs.Ordering.{nat_cmp}

-- the state that was served, how many pieces it has, and those that are held, each with its index, which rise
pub record HeldParts : Type 0 where
  pub state : ℕ
  pub pieces : ℕ
  pub have : List (ℕ × List ℕ)

-- none is held
abbrev pub no_parts : ℕ → ℕ → HeldParts
no_parts state pieces = record { state = state; pieces = pieces; have = [] }

-- the piece with this index, where it is held
abbrev pub part_at : HeldParts → ℕ → Option (List ℕ)
part_at parts index = lookup (is_at (nat_cmp index)) parts.have

abbrev pub HasPart : HeldParts → ℕ → Type 0
HasPart parts index = IsSome (part_at parts index)

-- all are held
abbrev pub HasAll : HeldParts → Type 0
HasAll parts = (index : ℕ) → index < parts.pieces → HasPart parts index

-- all but this one are
abbrev pub HasAllBut : HeldParts → ℕ → Type 0
HasAllBut parts index = (other : ℕ) → other < parts.pieces → other ≢ index → HasPart parts other

-- with one more, at its place
abbrev pub with_part : HeldParts → ℕ → List ℕ → HeldParts
with_part parts index bytes = record parts { have = insert_entry nat_cmp parts.have index bytes }

-- the bytes of all pieces, in order; none in place of one that isn't held
abbrev pub joined : HeldParts → List ℕ
joined parts = concat (map (λ index. unwrap_or (part_at parts index) []) (range_with_len 0 parts.pieces))

-- nothing where one is missing, else all bytes
abbrev pub IsWholeOf : HeldParts → Option (List ℕ) → Type 0
IsWholeOf parts None = HasAll parts → ⊥
IsWholeOf parts (Some bytes) = HasAll parts × (bytes ≡ joined parts)

-- the numbers of the pairs rise from the first number on, and stay below the second
abbrev pub RisesFrom : {X : Type 0} → ℕ → ℕ → List (ℕ × X) → Type 0
RisesFrom least most [] = Unit {0}
RisesFrom least most (pair ∷ pairs) =
    (least ≤ pair.0) × (pair.0 < most) × RisesFrom (pair.0 + 1) most pairs
