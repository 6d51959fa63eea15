-- What a commit promises of the disk that it writes and of the other.
use Rattle.std.proofs.Common.{◌≡◌, inl, inr, ℕ, ◌+◌, ◌<◌, ◌^◌, Bool, true, false, not, Option, Some, List, length, refl, sym, subst}
use Rattle.ficus_keeper.specs.Kept.{Kept, after_commit, generation_of, image_alone}
use Rattle.ficus_keeper.proofs.Sides.{KnownAt, Saves, kept_at}
use Rattle.ficus_slot.specs.Slot.{SlotContent}
use Rattle.ficus_slot.specs.Stays.{IsFound, Stays}
use Rattle.ficus_two_slots.specs.Slots.{bound}
use Rattle.ficus_log.specs.Appending.{Appends, IsAppended, IsShutAt}
use Rattle.ficus_journal.specs.Journal.{Fits, FitsOn, FitsSide, IsShort, saves_image}
use Rattle.ficus_journal.specs.Logs.{EndsShut, HaveNoOpenGate, IsRegular, calls_of_journal, kept_in, lies_on_a}
use Rattle.ficus_journal.specs.declared.journal.Journal.{Journal}
use Rattle.ficus_journal.proofs.Gates.{ends_shut, gate_there, gates_at, not_open}
use Rattle.ficus_journal.proofs.Regular.{image_calls, image_regular, image_side, of_side, record_calls, record_regular, record_short, record_side, to_side, turned, turned_back}
use Rattle.ficus_journal.proofs.Sides.{MayAppend, grown, image_fits, image_found, next_of, place, record_fits, record_found, saved_as, stays_at, still}

fits_side : (on_a : Bool) (keeper : Journal) (mine other : List ℕ)
    → FitsSide keeper (bound on_a keeper.generation) mine other → KnownAt (FitsOn on_a keeper) on_a mine other
fits_side true keeper mine other fits = fits
fits_side false keeper mine other fits = fits

fits_at : (on_a : Bool) (keeper : Journal) (mine other : List ℕ) → keeper.on_a ≡ on_a
    → FitsSide keeper (bound on_a keeper.generation) mine other → KnownAt (Fits keeper) on_a mine other
fits_at on_a keeper mine other side fits =
    subst (λ (b : Bool). KnownAt (FitsOn b keeper) on_a mine other) (sym side) (fits_side on_a keeper mine other fits)

stays_or : (old : List ℕ) (saved : SlotContent) (is_found : Bool) (c : List ℕ) → IsFound is_found old saved c → Stays old saved c
stays_or old saved true c is = inr is
stays_or old saved false c is = inl is

appends_or : (end generation : ℕ) (body old : List ℕ) (is_found : Bool) (c : List ℕ)
    → IsAppended is_found end generation body old c → Appends end generation body old c
appends_or end generation body old true c is = inr is
appends_or end generation body old false c is = inl is

-- what is known of the disks, by the side of the keeper
pub fits_on : (on_a : Bool) (keeper : Journal) (a b : List ℕ) → keeper.on_a ≡ on_a → Fits keeper a b
    → FitsOn on_a keeper a b
fits_on on_a keeper a b side fits = subst (λ (v : Bool). FitsOn v keeper a b) side fits

module _ (on_a : Bool) (keeper : Journal) (force other : List ℕ)
    (fits : FitsSide keeper (bound on_a keeper.generation) force other) (new : ℕ) (body : List ℕ)
    (follows : (k : Kept) → kept_at kept_in on_a force other ≡ Some k → new ≡ generation_of k + 1) where
  next : new ≡ keeper.generation + keeper.count + 1
  next = next_of on_a keeper force other fits new follows

  -- an image, on the disk not in force
  module _ (wants : saves_image keeper ≡ true) where
    pub image_saves : (after : Journal) → after.on_a ≡ not on_a → after.generation ≡ new → after.shut ≡ false
        → after.end ≡ length body + 17 → after.count ≡ 0 → after.stuck ≡ false
        → Saves kept_in Fits IsRegular (λ is_found c. IsFound is_found other (saved_as new body) c) (not on_a)
        (Some (image_alone new body)) after other force
    image_saves after side generation shut end count stuck = record {
      unchanged = inr refl;
      keeps = image_found on_a keeper force other fits new body next;
      holds = λ c is. fits_at (not on_a) after c force side
          (image_fits on_a keeper force other fits new body next c is after generation shut end count stuck);
      regular = λ was is_found c is. turned_back on_a force c (of_side on_a force c
          (image_regular on_a keeper force other fits (to_side on_a force other (turned on_a force other was)) new body
          next wants c (stays_or other (saved_as new body) is_found c is)));
    }

    pub image_turns : KnownAt IsRegular on_a force other → (calls_of_journal new ≡ 6) × (lies_on_a new ≡ not on_a)
    image_turns was =
        let regular = to_side on_a force other was in (
          image_calls on_a keeper force other fits regular new body next wants,
          image_side on_a keeper force other fits regular new body next wants,
        )

  -- a record, on the disk in force
  module _ (wants : saves_image keeper ≡ false) (small : new < 2 ^ 64)
      (short : IsShort keeper (length body)) where
    by : MayAppend keeper new body
    by = record { wants = wants; next = next; small = small; few = (record_short keeper (length body) wants short).0 }

    pub record_place : IsShutAt keeper.end force
    record_place = place on_a keeper force other fits new body by

    pub record_saves : (after : Journal) → after.on_a ≡ on_a → after.generation ≡ keeper.generation
        → after.shut ≡ keeper.shut → after.end ≡ keeper.end + length body + 13 → after.count ≡ keeper.count + 1
        → after.stuck ≡ keeper.stuck
        → Saves kept_in Fits IsRegular (λ is_found c. IsAppended is_found keeper.end new body force c) on_a
        (after_commit false new body (kept_at kept_in on_a force other)) after force other
    record_saves after side generation shut end count stuck = record {
      unchanged = stays_at keeper.end force force record_place refl;
      keeps = record_found on_a keeper force other fits new body by;
      holds = λ c is. fits_at on_a after c other side
          (record_fits on_a keeper force other fits new body by c is after generation shut end count stuck);
      regular = λ was is_found c is. of_side on_a c other
          (record_regular on_a keeper force other fits (to_side on_a force other was) new body by c
          (appends_or keeper.end new body force is_found c is));
    }

    record_ends : (is_found : Bool) (c : List ℕ) → IsAppended is_found keeper.end new body force c → EndsShut c
    record_ends true c more = ends_shut (grown on_a keeper force other fits new body by c more) refl
    record_ends false c stays =
        ends_shut (still on_a keeper force other fits new body by c stays) (not_open stays.gate stays.shut)

    -- and leaves no gate open
    pub record_gates : (after : Option Kept) (keeper_after : Journal)
        → Saves kept_in Fits IsRegular (λ is_found c. IsAppended is_found keeper.end new body force c) on_a after
        keeper_after force other
        → Saves kept_in Fits HaveNoOpenGate (λ is_found c. IsAppended is_found keeper.end new body force c) on_a after
        keeper_after force other
    record_gates after keeper_after saves = record {
      unchanged = saves.unchanged;
      keeps = saves.keeps;
      holds = saves.holds;
      regular = λ was is_found c is. gates_at on_a c other (record_ends is_found c is) (gate_there on_a force other was);
    }

    pub record_turns : KnownAt IsRegular on_a force other → (calls_of_journal new ≡ 4) × (lies_on_a new ≡ on_a)
    record_turns was =
        let regular = to_side on_a force other was in (
          record_calls on_a keeper force other fits regular new body by,
          record_side on_a keeper force other fits regular new body by,
        )
