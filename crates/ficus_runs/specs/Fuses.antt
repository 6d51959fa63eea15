-- How the fuses of the members' disks decide what becomes of saves and openings.
use Rattle.std.specs.Prelude.{◌≡◌, ℕ, ◌+◌, Bool, true, false, ◌==◌, if◌then◌else◌, List, [], ◌∷◌}
use Rattle.ficus_disk.specs.Fuse.{armed, numbered}
use Rattle.ficus_disk.specs.declared.fuse.Fuse.{Fuse}
use Rattle.ficus_keeper.specs.Fuses.{Fuses, after_save, both_unarmed, finds, lasts, on_side}
use Rattle.ficus_runs.specs.Outcome.{Outcome, IsDone, LinkFails, IsSaved, SaveFails, IsOpened, IsFound, OpeningFails, IsArmed}

-- how many calls save a generation, and whether they go to the disk `a`
pub record Keeping : Type 0 where
  pub calls : ℕ → ℕ
  pub is_on_a : ℕ → Bool

-- the fuses of both disks of a member; how often it has saved; and whether what is pending, if anything is, will be
-- found on its disks
pub record FuseState : Type 0 where
  pub fuses : Fuses
  pub generation : ℕ
  pub will_find : Bool

-- what the next save takes: so many calls, on the disk with this fuse
abbrev pub next_calls : Keeping → FuseState → ℕ
next_calls keeping state = keeping.calls (state.generation + 1)

abbrev pub next_fuse : Keeping → FuseState → Fuse
next_fuse keeping state = on_side (keeping.is_on_a (state.generation + 1)) state.fuses

-- the fuses of a member allow what became of something that was asked of its disks; they say nothing of the link
abbrev pub FusesAllow : Keeping → (ℕ → FuseState) → Outcome → Type 0
FusesAllow keeping F IsDone = Unit {0}
FusesAllow keeping F LinkFails = Unit {0}
FusesAllow keeping F (IsSaved by) = lasts (next_calls keeping (F by)) (next_fuse keeping (F by)) ≡ true
FusesAllow keeping F (SaveFails by) = lasts (next_calls keeping (F by)) (next_fuse keeping (F by)) ≡ false
FusesAllow keeping F (IsOpened by) = (F by).will_find ≡ false
FusesAllow keeping F (IsFound by) = (F by).will_find ≡ true
FusesAllow keeping F (OpeningFails by) = ⊥
FusesAllow keeping F (IsArmed by calls pick) = Unit {0}

-- how a member's fuses stand once its disks have saved
abbrev pub after_saving : Keeping → FuseState → FuseState
after_saving keeping state = record state {
  fuses = after_save (keeping.is_on_a (state.generation + 1)) (next_calls keeping state) state.fuses;
  generation = state.generation + 1;
}

-- once a save has failed: what is pending will be found where all but its last two calls passed, and the pick finds it
abbrev pub after_failing : Keeping → FuseState → FuseState
after_failing keeping state =
    record state { will_find = finds (next_calls keeping state) (next_fuse keeping state) }

-- once its disks were opened again
abbrev pub after_opening : FuseState → FuseState
after_opening state = record state { fuses = both_unarmed; will_find = false }

-- once they were armed
abbrev pub after_arming : ℕ → ℕ → FuseState → FuseState
after_arming calls pick state = record state {
  fuses = record {
    a = armed calls (numbered pick) state.fuses.a;
    b = armed calls (numbered pick) state.fuses.b;
  };
}

-- with this one in the place of the member's
abbrev pub with_fuses : (ℕ → FuseState) → ℕ → FuseState → ℕ → FuseState
with_fuses F by state r = if by == r then state else F r

-- how the fuses of the members stand after an outcome
abbrev pub after_outcome : Keeping → (ℕ → FuseState) → Outcome → ℕ → FuseState
after_outcome keeping F IsDone = F
after_outcome keeping F LinkFails = F
after_outcome keeping F (IsSaved by) = with_fuses F by (after_saving keeping (F by))
after_outcome keeping F (SaveFails by) = with_fuses F by (after_failing keeping (F by))
after_outcome keeping F (IsOpened by) = with_fuses F by (after_opening (F by))
after_outcome keeping F (IsFound by) =
    with_fuses F by (after_opening (record (F by) { generation = (F by).generation + 1 }))
after_outcome keeping F (OpeningFails by) = F
after_outcome keeping F (IsArmed by calls pick) = with_fuses F by (after_arming calls pick (F by))

-- how they stand after these outcomes
abbrev pub after_outcomes : Keeping → (ℕ → FuseState) → List Outcome → ℕ → FuseState
after_outcomes keeping F [] = F
after_outcomes keeping F (outcome ∷ outcomes) = after_outcomes keeping (after_outcome keeping F outcome) outcomes

-- the fuses allow each of these outcomes, as they stand after those before it
abbrev pub FusesAllowAll : Keeping → (ℕ → FuseState) → List Outcome → Type 0
FusesAllowAll keeping F [] = Unit {0}
FusesAllowAll keeping F (outcome ∷ outcomes) =
    FusesAllow keeping F outcome × FusesAllowAll keeping (after_outcome keeping F outcome) outcomes
