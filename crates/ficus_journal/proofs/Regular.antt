-- Which generations are images, where they lie, and what a commit leaves of that.
use Rattle.std.proofs.Common.{◌≡◌, inl, inr, ℕ, ◌+◌, ◌%◌, ◌/◌, ◌<◌, ◌≤◌, ◌^◌, Bool, true, false, not, Some, None, List, [], ◌∷◌, ◌++◌, length, refl, sym, ◌∙◌, ap, subst, arith}
use Rattle.std.specs.Prelude.{◌||◌, nat_le}
use Rattle.std.specs.Bool.{MatchBool}
use Rattle.std.proofs.lemmas.List.{length_push}
use Rattle.std.proofs.lemmas.Bool.Decides.{nat_tests}
use Rattle.ficus_keeper.proofs.Sides.{KnownAt}
use Rattle.ficus_slot.specs.Slot.{SlotContent, slot_in}
use Rattle.ficus_slot.specs.Stays.{Stays}
use Rattle.ficus_two_slots.specs.Slots.{bound}
use Rattle.ficus_log.specs.Appending.{Appends}
use Rattle.ficus_log.specs.Log.{Log, is_open, tail_log}
use Rattle.ficus_journal.specs.Journal.{FitsSide, IsShort, saves_image}
use Rattle.ficus_journal.specs.Logs.{IsRegular, IsTrim, calls_of_journal, lies_on_a}
use Rattle.ficus_journal.specs.declared.journal.Journal.{Journal}
use Rattle.ficus_journal.proofs.Gates.{ends_shut, none_ends, not_open}
use Rattle.ficus_journal.proofs.Sides.{LogIs, MayAppend, few_records, generation_of_slot, grown, new_log, saved_as, still}

-- what is taken
pub record_short : (keeper : Journal) (n : ℕ) → saves_image keeper ≡ false → IsShort keeper n
    → (n < 2 ^ 32) × (keeper.end < 2 ^ 62)
record_short keeper n is short =
    subst (λ (b : Bool). MatchBool b (n < 2 ^ 63) ((n < 2 ^ 32) × (keeper.end < 2 ^ 62))) is short

-- the disks by the one in force and the other
abbrev residue : Bool → ℕ
residue true = 0
residue false = 65

pub record IsRegularSide (on_a : Bool) (force other : List ℕ) : Type 0 where
  pub mine : (saved : SlotContent) → slot_in force ≡ Some saved → saved.generation % 130 ≡ residue on_a
  pub theirs : (saved : SlotContent) → slot_in other ≡ Some saved → saved.generation % 130 ≡ residue (not on_a)
  pub trim : IsTrim force
  pub trim_other : IsTrim other

pub to_side : (on_a : Bool) (mine other : List ℕ) → KnownAt IsRegular on_a mine other → IsRegularSide on_a mine other
to_side true mine other is = record { mine = is.even; theirs = is.odd; trim = is.trim_a; trim_other = is.trim_b }
to_side false mine other is = record { mine = is.odd; theirs = is.even; trim = is.trim_b; trim_other = is.trim_a }

pub of_side : (on_a : Bool) (mine other : List ℕ) → IsRegularSide on_a mine other → KnownAt IsRegular on_a mine other
of_side true mine other is = record { even = is.mine; odd = is.theirs; trim_a = is.trim; trim_b = is.trim_other }
of_side false mine other is = record { even = is.theirs; odd = is.mine; trim_a = is.trim_other; trim_b = is.trim }

-- by the one of them, and by the other
pub turned : (on_a : Bool) (force other : List ℕ) → KnownAt IsRegular (not on_a) other force
    → KnownAt IsRegular on_a force other
turned true force other is = is
turned false force other is = is

pub turned_back : (on_a : Bool) (force other : List ℕ) → KnownAt IsRegular on_a force other
    → KnownAt IsRegular (not on_a) other force
turned_back true force other is = is
turned_back false force other is = is

-- the generation of an image, and those of the records behind it
record Turns (on_a : Bool) (new : ℕ) : Type 0 where
  calls : calls_of_journal new ≡ 6
  side : lies_on_a new ≡ not on_a
  placed : new % 130 ≡ residue (not on_a)

six_calls : (new : ℕ) → new % 65 ≡ 0 → calls_of_journal new ≡ 6
six_calls new is = grind (arith, nat_tests)

four_calls : (new : ℕ) → 0 < new % 65 → calls_of_journal new ≡ 4
four_calls new is = grind (arith, nat_tests)

on_a_where : (new : ℕ) → new / 65 % 2 ≡ 0 → lies_on_a new ≡ true
on_a_where new is = grind (arith, nat_tests)

on_b_where : (new : ℕ) → new / 65 % 2 ≡ 1 → lies_on_a new ≡ false
on_b_where new is = grind (arith, nat_tests)

image_turns : (on_a : Bool) (generation new : ℕ) → generation % 130 ≡ residue on_a → new ≡ generation + 65
    → Turns on_a new
image_turns true generation new is next = record {
  calls = six_calls new (omega arith);
  side = on_b_where new (omega arith);
  placed = omega arith;
}
image_turns false generation new is next = record {
  calls = six_calls new (omega arith);
  side = on_a_where new (omega arith);
  placed = omega arith;
}

record_turns : (on_a : Bool) (generation count new : ℕ) → generation % 130 ≡ residue on_a → count < 64
    → new ≡ generation + count + 1 → (calls_of_journal new ≡ 4) × (lies_on_a new ≡ on_a)
record_turns true generation count new is few next = (four_calls new (omega arith), on_a_where new (omega arith))
record_turns false generation count new is few next = (four_calls new (omega arith), on_b_where new (omega arith))

limit_reached : (stuck : Bool) (count : ℕ) → (stuck || nat_le 64 count) ≡ true → stuck ≡ false → count ≤ 64 → count ≡ 64
limit_reached true count saves free few = absurd (cc)
limit_reached false count saves free few =
    let reached : 64 ≤ count = grind (arith, nat_tests) in
    omega arith

-- what is trim
pub trim_log : (s : SlotContent) (bodies : List (List ℕ)) (rest c : List ℕ) → LogIs s bodies rest c → length bodies ≤ 64
    → is_open rest ≡ false → IsTrim c
trim_log s bodies rest c is few shut = record {
  few = λ t found.
      let same : s ≡ t = some_same s t (sym is.slot ∙ found) in
      let log_is = ap (λ (l : Log). length l.bodies) (ap (λ (z : SlotContent). tail_log z c) (sym same) ∙ is.log) in
      omega (arith, log_is);
  shut = ends_shut is shut;
}
  where
    some_same : (s t : SlotContent) → Some s ≡ Some t → s ≡ t
    some_same s t is = cc

pub trim_none : (c : List ℕ) → slot_in c ≡ None → IsTrim c
trim_none c none = record {
  few = λ t found. absurd (let no = sym none ∙ found in cc);
  shut = none_ends c none;
}

module _ (on_a : Bool) (keeper : Journal) (force other : List ℕ)
    (fits : FitsSide keeper (bound on_a keeper.generation) force other) (regular : IsRegularSide on_a force other)
    (new : ℕ) (body : List ℕ) (next : new ≡ keeper.generation + keeper.count + 1) where
  abbrev saved : SlotContent
  saved = saved_as keeper.generation fits.stands.body

  image_turn : saves_image keeper ≡ true → Turns on_a new
  image_turn image =
      let free : keeper.stuck ≡ false = fits.records.gate ∙ regular.trim.shut saved fits.stands.in_force in
      let few : keeper.count ≤ 64 = omega (arith, regular.trim.few saved fits.stands.in_force, fits.records.counted) in
      let full = limit_reached keeper.stuck keeper.count image free few in
      image_turns on_a keeper.generation new (regular.mine saved fits.stands.in_force) (omega arith)

  pub image_calls : saves_image keeper ≡ true → calls_of_journal new ≡ 6
  image_calls image = (image_turn image).calls

  pub image_side : saves_image keeper ≡ true → lies_on_a new ≡ not on_a
  image_side image = (image_turn image).side

  pub image_regular : saves_image keeper ≡ true → (y : List ℕ) → Stays other (saved_as new body) y
      → IsRegularSide on_a force y
  image_regular image y stays = record {
    mine = regular.mine;
    theirs = λ s found. elim stays [
      | inl old ↦ elim old [
        | inl none ↦ absurd (let no = sym none ∙ found in cc)
        | inr before ↦ regular.theirs s (ap slot_in (sym before) ∙ found)
      ]
      | inr now ↦
          let number : new ≡ s.generation = ap generation_of_slot (sym now.is ∙ found) in
          ap (λ n. n % 130) (sym number) ∙ (image_turn image).placed
    ];
    trim = regular.trim;
    trim_other = elim stays [
      | inl old ↦ elim old [
        | inl none ↦ trim_none y none
        | inr before ↦ subst IsTrim (sym before) regular.trim_other
      ]
      | inr now ↦ trim_log (saved_as new body) [] (0 ∷ now.slot.more) y (new_log (saved_as new body) y now) (omega arith) refl
    ];
  }

module _ (on_a : Bool) (keeper : Journal) (force other : List ℕ)
    (fits : FitsSide keeper (bound on_a keeper.generation) force other) (regular : IsRegularSide on_a force other)
    (new : ℕ) (body : List ℕ) (by : MayAppend keeper new body) where
  abbrev read : SlotContent
  read = saved_as keeper.generation fits.stands.body

  few_count : keeper.count < 64
  few_count = few_records on_a keeper force other fits new body by

  pub record_calls : calls_of_journal new ≡ 4
  record_calls =
      (record_turns on_a keeper.generation keeper.count new (regular.mine read fits.stands.in_force) few_count by.next).0

  pub record_side : lies_on_a new ≡ on_a
  record_side =
      (record_turns on_a keeper.generation keeper.count new (regular.mine read fits.stands.in_force) few_count by.next).1

  pub record_regular : (x : List ℕ) → Appends keeper.end new body force x → IsRegularSide on_a x other
  record_regular x appends =
      record {
        mine = λ s found.
            let number : keeper.generation ≡ s.generation = ap generation_of_slot (sym slot_is ∙ found) in
            ap (λ n. n % 130) (sym number) ∙ regular.mine read fits.stands.in_force;
        theirs = regular.theirs;
        trim = elim appends [
          | inl stays ↦ trim_log read (tail_log read force).bodies (stays.gate ∷ stays.rest) x
              (still on_a keeper force other fits new body by x stays)
              (omega (arith, fits.records.counted, few_count)) (not_open stays.gate stays.shut)
          | inr more ↦ trim_log read ((tail_log read force).bodies ++ body ∷ []) (0 ∷ more.more) x
              (grown on_a keeper force other fits new body by x more)
              (omega (arith, fits.records.counted, few_count, length_push (tail_log read force).bodies body)) refl
        ];
        trim_other = regular.trim_other;
      }
    where
      slot_is : slot_in x ≡ Some (saved_as keeper.generation fits.stands.body)
      slot_is = elim appends [
        | inl stays ↦ (still on_a keeper force other fits new body by x stays).slot
        | inr more ↦ (grown on_a keeper force other fits new body by x more).slot
      ]
