-- What the disks of one replica are judged to be, by what they hold.
use Rattle.std.specs.Prelude.{◌≡◌, ℕ, ◌^◌, ◌<◌, List, [], Option}
use Rattle.ficus_disk.specs.declared.pair.Pair.{Pair}
use Rattle.ficus_keeper.specs.Kept.{Kept, found_in}
use Rattle.ficus_stable_storage.specs.Leads.Holds.{Holds}
use Rattle.ficus_durable_state.specs.Saved.{FitsImage}
use Rattle.ficus_durable_state.specs.declared.saved.Saved.{Saved}
use Rattle.ficus_opening.specs.Check.Holding.{holding_of}
use Rattle.ficus_opening.specs.declared.check.checked.Checked.{Checked}
use Rattle.ficus_opening.specs.declared.check.checked.Checked.TheVariants.{Empty, Damaged, Sound}

-- of one replica alone: what it saved is its own, and of a generation below 2^62, so that a world may be opened with it
pub record IsOwn (saved : Saved) (r : ℕ) : Type 0 where
  pub me : saved.me ≡ r
  pub generation : saved.generation < 2 ^ 62

-- of two together: this is of the same volume as what the first member saved
pub record IsOfVolume (first saved : Saved) : Type 0 where
  pub members : saved.members ≡ first.members
  pub ids : saved.ids ≡ first.ids
  pub bytes : saved.bytes ≡ first.bytes

-- a world is opened from what is of this member and of the same volume as the first member's, and of a generation below
-- 2^62
pub record MayOpen (first saved : Saved) (r : ℕ) : Type 0 where
  pub own : IsOwn saved r
  pub same : IsOfVolume first saved

module _ {D : Type 0} where
  -- both disks hold nothing
  abbrev pub IsEmptyPair : (D → List ℕ) → Pair D → Type 0
  IsEmptyPair seen pair = (seen pair.a ≡ []) × (seen pair.b ≡ [])

  -- they hold nothing of this replica's own: no slot is open and whole, or what it holds is no image of its generation
  -- with records that fit, or that is another replica's, or of 2^62 saves or more
  abbrev pub HoldsNoneOf : (List ℕ → List ℕ → Option Kept) → (D → List ℕ) → ℕ → Pair D → Type 0
  HoldsNoneOf kept seen r pair =
      (saved : Saved) → FitsImage saved → Holds (found_in kept seen pair) saved → IsOwn saved r → ⊥

  -- they hold something, and nothing of this replica's own
  pub record IsDamaged (kept : List ℕ → List ℕ → Option Kept) (seen : D → List ℕ) (r : ℕ) (pair : Pair D) :
      Type 0 where
    pub some : IsEmptyPair seen pair → ⊥
    pub none : HoldsNoneOf kept seen r pair

-- what is told of what a replica saved: its volume's members, its generation, and how much it holds
abbrev pub soundness_of : Saved → Checked
soundness_of saved =
    let holding = holding_of saved.entries saved.files in
    Sound saved.members saved.generation holding.live holding.dead holding.objects

module _ {D : Type 0} where
  -- they hold what this replica saved, of which this is told
  pub record IsSound (kept : List ℕ → List ℕ → Option Kept) (seen : D → List ℕ) (r : ℕ) (pair : Pair D)
      (told : Checked) : Type 0 where
    pub some : IsEmptyPair seen pair → ⊥
    pub saved : Saved
    pub fits : FitsImage saved
    pub holds : Holds (found_in kept seen pair) saved
    pub own : IsOwn saved r
    pub says : told ≡ soundness_of saved

  -- what the pair is judged to be
  abbrev pub IsJudged : (List ℕ → List ℕ → Option Kept) → (D → List ℕ) → ℕ → Pair D → Checked → Type 0
  IsJudged kept seen r pair Empty = IsEmptyPair seen pair
  IsJudged kept seen r pair Damaged = IsDamaged kept seen r pair
  IsJudged kept seen r pair (Sound members generation live dead objects) =
      IsSound kept seen r pair (Sound members generation live dead objects)
