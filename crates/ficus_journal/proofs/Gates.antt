-- No open gate, and what two slots left.
use Rattle.std.proofs.Common.{◌≡◌, inl, inr, ⊎_elim, ℕ, ◌+◌, ◌==◌, Bool, true, false, Option, Some, None, List, [], ◌∷◌, length, drop, refl, sym, ◌∙◌, ap, subst, arith}
use Rattle.std.specs.Prelude.{◌||◌, nat_le, if◌then◌else◌}
use Rattle.std.proofs.lemmas.Bool.Decides.{nat_tests}
use Rattle.ficus_disk.specs.declared.disk.Disk.{Ghosts as Disk}
use Rattle.ficus_disk.specs.declared.pair.Pair.{Pair}
use Rattle.ficus_keeper.specs.Kept.{Kept, image_alone}
use Rattle.ficus_slot.specs.Gate.{IsShut}
use Rattle.ficus_keeper.proofs.Sides.{KnownAt, Saves}
use Rattle.ficus_slot.specs.Slot.{SlotContent, slot_in}
use Rattle.ficus_slot.specs.Stays.{IsFound}
use Rattle.ficus_two_slots.specs.Committing.{LeavesOldOrShut}
use Rattle.ficus_two_slots.specs.Slots.{HasShutTail, IsRegular as AreTwoSlots, greater, kept_in as kept_by_two_slots, kept_slot as slot_kept}
use Rattle.ficus_log.specs.Log.{Log, is_open, log_of, tail_log}
use Rattle.ficus_log.proofs.Walks.{closed}
use Rattle.ficus_journal.specs.Committing.{LeavesShut}
use Rattle.ficus_journal.specs.Journal.{Fits, FitsOn, FitsSide, saves_image}
use Rattle.ficus_journal.specs.Logs.{EndsShut, HaveNoOpenGate, IsRegular, kept_in, kept_on, later, record_limit}
use Rattle.ficus_journal.specs.declared.journal.Journal.{Journal}
use Rattle.ficus_journal.proofs.Choosing.{kept_none, kept_slot}
use Rattle.ficus_journal.proofs.Sides.{LogIs, new_log, saved_as}

-- where reading ends at a closed gate
pub ends_shut : {saved : SlotContent} {bodies : List (List ℕ)} {rest c : List ℕ} → LogIs saved bodies rest c
    → is_open rest ≡ false → EndsShut c
ends_shut {saved} {bodies} {rest} {c} is shut other found =
    let same : saved ≡ other = some_same saved other (sym is.slot ∙ found) in
    ap (λ (l : Log). is_open l.rest) (ap (λ (z : SlotContent). tail_log z c) (sym same) ∙ is.log) ∙ shut
  where
    some_same : (s t : SlotContent) → Some s ≡ Some t → s ≡ t
    some_same s t is = cc

pub none_ends : (c : List ℕ) → slot_in c ≡ None → EndsShut c
none_ends c none saved found = absurd (let no = sym none ∙ found in cc)

-- on both disks, by the one that is written and the other
pub gates_at : (on_a : Bool) (mine other : List ℕ) → EndsShut mine → EndsShut other
    → KnownAt HaveNoOpenGate on_a mine other
gates_at true mine other here there = record { on_a = here; on_b = there }
gates_at false mine other here there = record { on_a = there; on_b = here }

gate_here : (on_a : Bool) (mine other : List ℕ) → KnownAt HaveNoOpenGate on_a mine other → EndsShut mine
gate_here true mine other is = is.on_a
gate_here false mine other is = is.on_b

pub gate_there : (on_a : Bool) (mine other : List ℕ) → KnownAt HaveNoOpenGate on_a mine other → EndsShut other
gate_there true mine other is = is.on_b
gate_there false mine other is = is.on_a

-- an image that is saved leaves none open, whether it is found or not
image_ends : (old : List ℕ) (saved : SlotContent) (is_found : Bool) (c : List ℕ) → IsFound is_found old saved c
    → EndsShut old → EndsShut c
image_ends old saved true c new was = ends_shut (new_log saved c new) refl
image_ends old saved false c (inl none) was = none_ends c none
image_ends old saved false c (inr same) was = subst EndsShut (sym same) was

pub image_gates : (on_a : Bool) (saved : SlotContent) (after : Option Kept) (keeper : Journal) (mine other : List ℕ)
    → Saves kept_in Fits IsRegular (λ is_found c. IsFound is_found mine saved c) on_a after keeper mine other
    → Saves kept_in Fits HaveNoOpenGate (λ is_found c. IsFound is_found mine saved c) on_a after keeper mine other
image_gates on_a saved after keeper mine other saves = record {
  unchanged = saves.unchanged;
  keeps = saves.keeps;
  holds = saves.holds;
  regular = λ was is_found c is. gates_at on_a c other
      (image_ends mine saved is_found c is (gate_here on_a mine other was)) (gate_there on_a mine other was);
}

-- behind a tail that is shut nothing is read
nothing_behind : (last : ℕ) (bytes : List ℕ) → IsShut bytes → log_of last bytes ≡ record { bodies = []; rest = bytes }
nothing_behind last [] shut = absurd shut
nothing_behind last (gate ∷ rest) shut = closed last gate rest shut

pub not_open : (gate : ℕ) → (gate ≡ 1 → ⊥) → (gate == 1) ≡ false
not_open gate shut = grind (arith, nat_tests)

shut_closed : (bytes : List ℕ) → IsShut bytes → is_open bytes ≡ false
shut_closed [] shut = absurd shut
shut_closed (gate ∷ rest) shut = not_open gate shut

tail_alone : (bytes : List ℕ) → HasShutTail bytes → (saved : SlotContent) → slot_in bytes ≡ Some saved
    → tail_log saved bytes ≡ record { bodies = []; rest = drop (17 + length saved.body) bytes }
tail_alone bytes shut saved is =
    nothing_behind saved.generation (drop (17 + length saved.body) bytes) (shut saved is)

pub tail_ends : (bytes : List ℕ) → HasShutTail bytes → EndsShut bytes
tail_ends bytes shut saved is =
    ap (λ (l : Log). is_open l.rest) (tail_alone bytes shut saved is)
    ∙ shut_closed (drop (17 + length saved.body) bytes) (shut saved is)

-- the same is kept
slot_alone : (bytes : List ℕ) (found : Option SlotContent) → slot_in bytes ≡ found → HasShutTail bytes
    → kept_on bytes ≡ slot_kept (slot_in bytes)
slot_alone bytes None none shut = kept_none bytes none ∙ sym (ap slot_kept none)
slot_alone bytes (Some saved) is shut =
    kept_slot bytes saved is
    ∙ ap (λ (l : Log). let kept : Kept = record { generation = saved.generation; image = saved.body; records = l.bodies } in
    Some kept) (tail_alone bytes shut saved is)
    ∙ sym (ap slot_kept is)

later_alone : (x y : Option SlotContent)
    → later (slot_kept x) (slot_kept y) ≡ slot_kept (greater x y)
later_alone None y = refl
later_alone (Some k) None = refl
later_alone (Some k) (Some z) = by_test (nat_le z.generation k.generation)
  where
    by_test : (b : Bool) → (if b then Some (image_alone k.generation k.body) else Some (image_alone z.generation z.body))
        ≡ slot_kept (if b then Some k else Some z)
    by_test true = refl
    by_test false = refl

pub same_kept : (a b : List ℕ) → AreTwoSlots a b → kept_in a b ≡ kept_by_two_slots a b
same_kept a b is =
    (λ i. later (slot_alone a (slot_in a) refl is.shut_a i) (slot_alone b (slot_in b) refl is.shut_b i))
    ∙ later_alone (slot_in a) (slot_in b)

-- no gate stands open of what either keeper alone wrote
pub two_slots_shut : (a b : List ℕ) → AreTwoSlots a b → HaveNoOpenGate a b
two_slots_shut a b is = record { on_a = tail_ends a is.shut_a; on_b = tail_ends b is.shut_b }

pub journal_shut : (a b : List ℕ) → IsRegular a b → HaveNoOpenGate a b
journal_shut a b is = record { on_a = is.trim_a.shut; on_b = is.trim_b.shut }

-- nor does one where two slots commit and none stood open
pub commits_shut : {D : Type 0} (disk : Disk D) (old new : Pair D)
    → (disk.tells → (d : D) → disk.may_leave d (disk.seen d)) → LeavesOldOrShut disk old new → LeavesShut disk old new
commits_shut disk old new now_left leaves told was = record {
  each = λ a b left_a left_b. record {
    on_a = ⊎_elim (λ was_left. (was.each a (disk.seen old.b) was_left (now_left told old.b)).on_a) (tail_ends a)
        (leaves.a told a left_a);
    on_b = ⊎_elim (λ was_left. (was.each (disk.seen old.a) b (now_left told old.a) was_left).on_b) (tail_ends b)
        (leaves.b told b left_b);
  };
}

-- so the keeper that stands for it wants an image only behind enough records
module _ (keeper : Journal) (bound : ℕ) (force other : List ℕ) (fits : FitsSide keeper bound force other) where
  free_side : EndsShut force → keeper.stuck ≡ false
  free_side shut =
      fits.records.gate ∙ shut (saved_as keeper.generation fits.stands.body) fits.stands.in_force

  none_side : HasShutTail force → keeper.count ≡ 0
  none_side shut =
      sym fits.records.counted
      ∙ ap (λ (l : Log). length l.bodies)
      (tail_alone force shut (saved_as keeper.generation fits.stands.body) fits.stands.in_force)

free_on : (on_a : Bool) (keeper : Journal) (a b : List ℕ) → HaveNoOpenGate a b → FitsOn on_a keeper a b
    → keeper.stuck ≡ false
free_on true keeper a b shut fits = free_side keeper (keeper.generation + 1) a b fits shut.on_a
free_on false keeper a b shut fits = free_side keeper keeper.generation b a fits shut.on_b

none_on : (on_a : Bool) (keeper : Journal) (a b : List ℕ) → AreTwoSlots a b → FitsOn on_a keeper a b
    → keeper.count ≡ 0
none_on true keeper a b is fits = none_side keeper (keeper.generation + 1) a b fits is.shut_a
none_on false keeper a b is fits = none_side keeper keeper.generation b a fits is.shut_b

pub wants_by_count : (keeper : Journal) (a b : List ℕ) → HaveNoOpenGate a b → Fits keeper a b
    → saves_image keeper ≡ nat_le record_limit keeper.count
wants_by_count keeper a b shut fits =
    ap (λ (v : Bool). v || nat_le 64 keeper.count) (free_on keeper.on_a keeper a b shut fits)

pub wants_record : (keeper : Journal) (a b : List ℕ) → AreTwoSlots a b → Fits keeper a b
    → saves_image keeper ≡ false
wants_record keeper a b is fits =
    wants_by_count keeper a b (two_slots_shut a b is) fits
    ∙ ap (λ (n : ℕ). nat_le 64 n) (none_on keeper.on_a keeper a b is fits)
