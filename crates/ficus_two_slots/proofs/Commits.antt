-- What is in force after a commit on one of the disks, by the disk that is written and the other.
use Rattle.std.proofs.Common.{◌≡◌, ◌⊎◌, inl, inr, ℕ, ◌+◌, ◌%◌, ◌<◌, Bool, true, false, not, Option, Some, None, if◌then◌else◌, List, refl, sym, ◌∙◌, ap, subst, arith}
use Rattle.std.proofs.lemmas.Bool.Decides.{nat_tests}
use Rattle.ficus_keeper.specs.Kept.{Kept, generation_of, image_alone}
use Rattle.ficus_keeper.proofs.Sides.{KnownAt, Saves, kept_at}
use Rattle.ficus_slot.specs.Slot.{SlotContent, slot_in}
use Rattle.ficus_slot.specs.Stays.{IsFound, IsNew, IsOld}
use Rattle.ficus_slot.proofs.Written.{open_of}
use Rattle.ficus_two_slots.proofs.Tails.{new_shut, none_shut}
use Rattle.ficus_two_slots.specs.Slots.{HasShutTail, IsRegular, Stands, StandsOn, bound, greater, kept_in, kept_slot, lies_on_a}
use Rattle.ficus_two_slots.specs.TwoSlot.{Fits}
use Rattle.ficus_two_slots.specs.declared.two_slot.TwoSlot.{TwoSlot}

-- the greater generation is in force
second_wins : (x y : Option SlotContent) (old new : SlotContent) → x ≡ Some old → y ≡ Some new → old.generation < new.generation
    → greater x y ≡ Some new
second_wins x y old new is_x is_y less =
    let step : greater x y ≡ greater (Some old) (Some new) = cc in
    step ∙ (let e : greater (Some old) (Some new) ≡ Some new = grind (arith, nat_tests) in e)

first_wins : (x y : Option SlotContent) (old new : SlotContent) → x ≡ Some new → y ≡ Some old → old.generation < new.generation
    → greater x y ≡ Some new
first_wins x y old new is_x is_y less =
    let step : greater x y ≡ greater (Some new) (Some old) = cc in
    step ∙ (let e : greater (Some new) (Some old) ≡ Some new = grind (arith, nat_tests) in e)

stays_first : (saved : SlotContent) (x y : Option SlotContent) → x ≡ Some saved
    → ((z : SlotContent) → y ≡ Some z → z.generation < saved.generation + 1) → greater x y ≡ Some saved
stays_first saved x None is_x loses = ap (λ v. greater v None) is_x
stays_first saved x (Some z) is_x loses =
    let less = loses z refl in
    ap (λ v. greater v (Some z)) is_x ∙ (let e : greater (Some saved) (Some z) ≡ Some saved = grind (arith, nat_tests) in e)

stays_second : (saved : SlotContent) (x y : Option SlotContent) → y ≡ Some saved
    → ((z : SlotContent) → x ≡ Some z → z.generation < saved.generation) → greater x y ≡ Some saved
stays_second saved None y is_y loses = is_y
stays_second saved (Some z) y is_y loses =
    let less = loses z refl in
    ap (λ v. greater (Some z) v) is_y ∙ (let e : greater (Some z) (Some saved) ≡ Some saved = grind (arith, nat_tests) in e)

still_loses : (x y : Option SlotContent) (bound : ℕ) → (y ≡ None) ⊎ (y ≡ x) → ((z : SlotContent) → x ≡ Some z → z.generation < bound)
    → (z : SlotContent) → y ≡ Some z → z.generation < bound
still_loses x y bound (inl none) loses z is = absurd (cc)
still_loses x y bound (inr same) loses z is = loses z (sym same ∙ is)

-- the old slot, or none
as_slots : (old c : List ℕ) → IsOld old c → (slot_in c ≡ None) ⊎ (slot_in c ≡ slot_in old)
as_slots old c (inl none) = inl none
as_slots old c (inr same) = inr (ap slot_in same)

abbrev generation_in : Option SlotContent → ℕ
generation_in None = 0
generation_in (Some saved) = saved.generation

abbrev saved_as : ℕ → List ℕ → SlotContent
saved_as generation body = record { generation = generation; body = body }

-- what is known of the disks, by the side of the keeper
pub stands_on : (on_a : Bool) (keeper : TwoSlot) (a b : List ℕ) → keeper.on_a ≡ on_a → Fits keeper a b
    → StandsOn on_a keeper.generation keeper.shut a b
stands_on on_a keeper a b side fits = subst (λ (v : Bool). StandsOn v keeper.generation keeper.shut a b) side fits

-- the greater generation is kept, wherever it lies
wins : (on_a : Bool) (mine other : List ℕ) (old new : SlotContent) → slot_in mine ≡ Some new → slot_in other ≡ Some old
    → old.generation < new.generation → kept_at kept_in on_a mine other ≡ Some (image_alone new.generation new.body)
wins true mine other old new is was less = ap kept_slot (first_wins (slot_in mine) (slot_in other) old new is was less)
wins false mine other old new is was less = ap kept_slot (second_wins (slot_in other) (slot_in mine) old new was is less)

stays : (on_a : Bool) (mine other : List ℕ) (saved : SlotContent) → slot_in other ≡ Some saved
    → ((z : SlotContent) → slot_in mine ≡ Some z → z.generation < bound (not on_a) saved.generation)
    → kept_at kept_in on_a mine other ≡ Some (image_alone saved.generation saved.body)
stays true mine other saved is loses = ap kept_slot (stays_second saved (slot_in mine) (slot_in other) is loses)
stays false mine other saved is loses = ap kept_slot (stays_first saved (slot_in other) (slot_in mine) is loses)

below : (b : Bool) (m n : ℕ) → m < n → m < bound b n
below true m n less = omega (arith, less)
below false m n less = less

-- the slot in force lies on the disk that was written
stands_mine : (on_a : Bool) (generation : ℕ) (shut : Bool) (mine other : List ℕ)
    → Stands generation (bound on_a generation) shut mine other
    → KnownAt (StandsOn on_a generation shut) on_a mine other
stands_mine true generation shut mine other stands = stands
stands_mine false generation shut mine other stands = stands

fits_as : (on_a : Bool) (keeper : TwoSlot) (new : ℕ) (mine other : List ℕ) → keeper.on_a ≡ on_a
    → keeper.generation ≡ new → keeper.shut ≡ false → KnownAt (StandsOn on_a new false) on_a mine other
    → KnownAt (Fits keeper) on_a mine other
fits_as on_a keeper new mine other side generation shut stands =
    subst (λ (b : Bool). KnownAt (StandsOn b keeper.generation keeper.shut) on_a mine other) (sym side)
    (subst (λ (n : ℕ). KnownAt (StandsOn on_a n keeper.shut) on_a mine other) (sym generation)
    (subst (λ (b : Bool). KnownAt (StandsOn on_a new b) on_a mine other) (sym shut) stands))

-- even generations lie on one disk, odd ones on the other, and no record behind either
abbrev parity : Bool → ℕ
parity true = 0
parity false = 1

record IsRegularSide (on_a : Bool) (mine other : List ℕ) : Type 0 where
  here : (saved : SlotContent) → slot_in mine ≡ Some saved → saved.generation % 2 ≡ parity on_a
  there : (saved : SlotContent) → slot_in other ≡ Some saved → saved.generation % 2 ≡ parity (not on_a)
  shut : HasShutTail mine
  shut_other : HasShutTail other

to_side : (on_a : Bool) (mine other : List ℕ) → KnownAt IsRegular on_a mine other → IsRegularSide on_a mine other
to_side true mine other is = record { here = is.even; there = is.odd; shut = is.shut_a; shut_other = is.shut_b }
to_side false mine other is = record { here = is.odd; there = is.even; shut = is.shut_b; shut_other = is.shut_a }

of_side : (on_a : Bool) (mine other : List ℕ) → IsRegularSide on_a mine other → KnownAt IsRegular on_a mine other
of_side true mine other is = record { even = is.here; odd = is.there; shut_a = is.shut; shut_b = is.shut_other }
of_side false mine other is = record { even = is.there; odd = is.here; shut_a = is.shut_other; shut_b = is.shut }

turn : (on_a : Bool) (generation new : ℕ) → generation % 2 ≡ parity (not on_a) → new ≡ generation + 1
    → new % 2 ≡ parity on_a
turn true generation new is next = omega (arith, is, next)
turn false generation new is next = omega (arith, is, next)

lies : (on_a : Bool) (new : ℕ) → new % 2 ≡ parity on_a → lies_on_a new ≡ on_a
lies true new is = grind (arith, nat_tests)
lies false new is = grind (arith, nat_tests)

-- a commit saves the generation behind the kept one
next_to : (generation new : ℕ) → new ≡ generation + 0 + 1 → new ≡ generation + 1
next_to generation new is = omega arith

module _ (on_a : Bool) (generation new : ℕ) (shut : Bool) (body mine other : List ℕ)
    (stands : Stands generation (bound (not on_a) generation) shut other mine)
    (follows : (before : Kept) → kept_at kept_in on_a mine other ≡ Some before → new ≡ generation_of before + 1) where
  abbrev before : SlotContent
  before = saved_as generation stands.body

  kept_before : kept_at kept_in on_a mine other ≡ Some (image_alone generation before.body)
  kept_before = stays on_a mine other before stands.in_force stands.loses

  next : new ≡ generation + 1
  next = next_to generation new (follows (image_alone generation before.body) kept_before)

  keeps : (is_found : Bool) (c : List ℕ) → IsFound is_found mine (saved_as new body) c
      → kept_at kept_in on_a c other ≡ (if is_found then Some (image_alone new body) else kept_at kept_in on_a mine other)
  keeps true c found = wins on_a c other before (saved_as new body) found.is stands.in_force (omega (arith, next))
  keeps false c old =
      stays on_a c other before stands.in_force
      (still_loses (slot_in mine) (slot_in c) (bound (not on_a) generation) (as_slots mine c old) stands.loses)
      ∙ sym kept_before

  stands_after : (c : List ℕ) → IsNew (saved_as new body) c → Stands new (bound on_a new) false c other
  stands_after c saved = record {
    body = body;
    in_force = saved.is;
    loses = λ s found.
        let same : generation ≡ s.generation = ap generation_in (sym stands.in_force ∙ found) in
        below on_a s.generation new (omega (arith, same, next));
    gate = open_of other before stands.in_force;
  }

  turns : KnownAt IsRegular on_a mine other → new % 2 ≡ parity on_a
  turns regular = turn on_a generation new ((to_side on_a mine other regular).there before stands.in_force) next

  -- on which disk it is saved
  pub side : KnownAt IsRegular on_a mine other → lies_on_a new ≡ on_a
  side regular = lies on_a new (turns regular)

  here_after : KnownAt IsRegular on_a mine other → (is_found : Bool) (c : List ℕ)
      → IsFound is_found mine (saved_as new body) c → (s : SlotContent) → slot_in c ≡ Some s
      → s.generation % 2 ≡ parity on_a
  here_after regular true c found s at =
      let number : new ≡ s.generation = ap generation_in (sym found.is ∙ at) in
      ap (λ n. n % 2) (sym number) ∙ turns regular
  here_after regular false c (inl none) s at = absurd (cc)
  here_after regular false c (inr same) s at =
      (to_side on_a mine other regular).here s (sym (ap slot_in same) ∙ at)

  shut_after : KnownAt IsRegular on_a mine other → (is_found : Bool) (c : List ℕ)
      → IsFound is_found mine (saved_as new body) c → HasShutTail c
  shut_after regular true c found = new_shut found
  shut_after regular false c (inl none) = none_shut c none
  shut_after regular false c (inr same) = subst HasShutTail (sym same) (to_side on_a mine other regular).shut

  pub saves : (after : TwoSlot) → after.on_a ≡ on_a → after.generation ≡ new → after.shut ≡ false
      → Saves kept_in Fits IsRegular (λ is_found c. IsFound is_found mine (saved_as new body) c) on_a
      (Some (image_alone new body)) after mine other
  saves after side generation shut = record {
    unchanged = inr refl;
    keeps = keeps;
    holds = λ c saved. fits_as on_a after new c other side generation shut
        (stands_mine on_a new false c other (stands_after c saved));
    regular = λ regular is_found c found. of_side on_a c other (record {
      here = here_after regular is_found c found;
      there = (to_side on_a mine other regular).there;
      shut = shut_after regular is_found c found;
      shut_other = (to_side on_a mine other regular).shut_other;
    });
  }
