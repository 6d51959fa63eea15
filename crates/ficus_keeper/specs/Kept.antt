-- What a keeper keeps.
use Rattle.std.specs.Prelude.{◌≡◌, ◌⊎◌, ℕ, ◌+◌, Bool, true, false, List, [], ◌∷◌, ◌++◌, length, Option, Some, None}
use Rattle.ficus_disk.specs.Crash.{Only}
use Rattle.ficus_disk.specs.declared.pair.Pair.{Pair}
use Rattle.ficus_keeper.specs.declared.opened.Opened.{Opened}

-- an image with its generation, and the records behind it, each of which is one generation more
pub record Kept : Type 0 where
  pub generation : ℕ
  pub image : List ℕ
  pub records : List (List ℕ)

-- an image alone
abbrev pub image_alone : ℕ → List ℕ → Kept
image_alone generation image = record { generation = generation; image = image; records = [] }

-- the generation that is kept
abbrev pub generation_of : Kept → ℕ
generation_of kept = kept.generation + length kept.records

-- what was opened
abbrev pub kept_of : Opened → Kept
kept_of opened = record { generation = opened.generation; image = opened.image; records = opened.records }

-- what is kept after an image or a record is saved
abbrev pub after_commit : Bool → ℕ → List ℕ → Option Kept → Option Kept
after_commit true generation bytes before = Some (image_alone generation bytes)
after_commit false generation bytes None = None
after_commit false generation bytes (Some kept) = Some (record kept { records = kept.records ++ bytes ∷ [] })

-- what a keeper finds in what a read of the pair gives
abbrev pub found_in : {D : Type 0} → (List ℕ → List ℕ → Option Kept) → (D → List ℕ) → Pair D → Option Kept
found_in kept seen pair = kept (seen pair.a) (seen pair.b)

-- the keeper fits what the pair holds, and nothing is unsynced
pub record Settled {K D : Type 0} (fits : K → List ℕ → List ℕ → Type 0) (seen : D → List ℕ)
    (may_leave : D → List ℕ → Type 0) (keeper : K) (pair : Pair D) : Type 0 where
  pub holds : fits keeper (seen pair.a) (seen pair.b)
  pub synced_a : Only (seen pair.a) (may_leave pair.a)
  pub synced_b : Only (seen pair.b) (may_leave pair.b)

-- whatever a crash leaves of the pair, one of these two is kept
pub record KeepsOneOf {D : Type 0} (kept : List ℕ → List ℕ → Option Kept) (may_leave : D → List ℕ → Type 0)
    (pair : Pair D) (before after : Option Kept) : Type 0 where
  pub each : (a b : List ℕ) → may_leave pair.a a → may_leave pair.b b → (kept a b ≡ before) ⊎ (kept a b ≡ after)

-- whatever a crash at a moment between these two states might have left, one of these two is kept
pub record KeepsOneBetween {D : Type 0} (kept : List ℕ → List ℕ → Option Kept) (moment : D → ℕ)
    (left_since : D → ℕ → List ℕ → Type 0) (old new : Pair D) (before after : Option Kept) : Type 0 where
  pub each : (a b : List ℕ) → left_since new.a (moment old.a) a → left_since new.b (moment old.b) b
      → (kept a b ≡ before) ⊎ (kept a b ≡ after)
