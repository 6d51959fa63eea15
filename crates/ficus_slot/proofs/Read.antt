-- Bytes that are read as a slot are one.
use Rattle.std.proofs.Common.{◌≡◌, ◌↔◌, ℕ, zero, suc, ◌+◌, ◌==◌, ◌&&◌, ◌^◌, ◌<◌, ◌≤◌, Bool, true, false, Some, None, List, [], ◌∷◌, ◌++◌, length, take, drop, refl, sym, ◌∙◌, ap, ap₂, subst, arith, append_assoc, length-drop}
use Rattle.std.specs.Prelude.{if◌then◌else◌, nat_le}
use Rattle.std.proofs.lemmas.List.{get_or-drop, take-append-drop, length-take-le, drop-drop}
use Rattle.std.proofs.lemmas.Nat.{be_bytes_8}
use Rattle.std.proofs.lemmas.Bool.Decides.{nat_tests}
use Rattle.std.specs.Int.{w64, from_be_bytes}
use Rattle.ficus_slot.specs.Slot.{AreBytes, HasSlot, IsSlot, SlotContent, is_whole, number_of, slot_in, spelled}
use Rattle.ficus_slot.proofs.Written.{read_as, tail_of}

pub if_some : {A : Type 0} (b : Bool) (x y : A) → (if b then Some x else None) ≡ Some y → (b ≡ true) × (x ≡ y)
if_some true x y is = (refl, cc)
if_some false x y is = absurd (cc)

pub and_parts : (a b : Bool) → (a && b) ≡ true → (a ≡ true) × (b ≡ true)
and_parts true b is = (refl, is)
and_parts false b is = absurd (cc)

pub gate_one : (gate : ℕ) → (gate == 1) ≡ true → gate ≡ 1
gate_one gate is = grind (arith, nat_tests)

pub at_most : (m n : ℕ) → nat_le m n ≡ true → m ≤ n
at_most m n is = grind (arith, nat_tests)

-- bytes within bytes
bytes_before : (n : ℕ) (bytes : List ℕ) → AreBytes bytes → AreBytes (take n bytes)
bytes_before zero bytes each i = omega arith
bytes_before (suc n) [] each i = omega arith
bytes_before (suc n) (byte ∷ bytes) each zero = each 0
bytes_before (suc n) (byte ∷ bytes) each (suc i) = bytes_before n bytes (λ j. each (suc j)) i

bytes_behind : (n : ℕ) (bytes : List ℕ) → AreBytes bytes → AreBytes (drop n bytes)
bytes_behind n bytes each i = rw (get_or-drop n bytes i 0) (each (n + i))

-- eight bytes are the spelling of a number below 2^64
below_all : (bytes : List ℕ) → AreBytes bytes → from_be_bytes w64 bytes < 2 ^ 64
below_all bytes each = omega (arith, each 0, each 1, each 2, each 3, each 4, each 5, each 6, each 7)

module _ (bytes : List ℕ) (each : AreBytes bytes) where
  number_below : number_of bytes < 2 ^ 64
  unfolding number_of
  number_below = below_all (take 8 bytes) (bytes_before 8 bytes each)

  spelled_back : 8 ≤ length bytes → spelled (number_of bytes) ≡ take 8 bytes
  unfolding number_of spelled
  spelled_back long =
      be_bytes_8 (take 8 bytes) (from_be_bytes w64 (take 8 bytes)) (length-take-le 8 bytes long)
      (bytes_before 8 bytes each) refl

first_and_more : (bytes : List ℕ) → 1 ≤ length bytes → (first : ℕ) × (more : List ℕ) × (bytes ≡ first ∷ more)
first_and_more [] some = absurd (omega arith)
first_and_more (first ∷ more) some = (first, more, refl)

-- bytes behind an open gate that have a whole body
module _ (rest : List ℕ) (each : AreBytes rest) (long : 17 + number_of (drop 8 rest) ≤ length rest) where
  abbrev count : ℕ
  count = number_of (drop 8 rest)

  abbrev slot_at : SlotContent
  slot_at = record { generation = number_of rest; body = take count (drop 16 rest) }

  counts : length (slot_at.body) ≡ count
  counts = length-take-le count (drop 16 rest) (omega (arith, length-drop 16 rest))

  split_16 : take 8 rest ++ (take 8 (drop 8 rest) ++ drop 16 rest) ≡ rest
  split_16 =
      ap (λ (l : List ℕ). take 8 rest ++ (take 8 (drop 8 rest) ++ l)) (sym (drop-drop 8 8 rest))
      ∙ ap (λ (l : List ℕ). take 8 rest ++ l) (take-append-drop 8 (drop 8 rest)) ∙ take-append-drop 8 rest

  numbers_are : spelled (number_of rest) ++ spelled (length (slot_at.body)) ≡ take 8 rest ++ take 8 (drop 8 rest)
  numbers_are = ap₂ (λ (l m : List ℕ). l ++ m) (spelled_back rest each (omega arith))
      (ap spelled counts ∙ spelled_back (drop 8 rest) (bytes_behind 8 rest each) (omega (arith, length-drop 8 rest)))

  -- they are the slot
  pub has_slot : HasSlot slot_at (1 ∷ rest)
  has_slot =
      let behind = first_and_more (drop count (drop 16 rest))
      (omega (arith, length-drop count (drop 16 rest), length-drop 16 rest)) in
      let body : List ℕ = take count (drop 16 rest) in
      let tail : List ℕ = behind.0 ∷ behind.1 in
      let joined : drop 16 rest ≡ body ++ tail =
      sym (take-append-drop count (drop 16 rest)) ∙ ap (λ (l : List ℕ). body ++ l) behind.2 in
      let front : List ℕ = take 8 rest ++ take 8 (drop 8 rest) in
      record {
        tail = behind.0;
        slot = record {
          generation = number_below rest each;
          size = rw counts (number_below (drop 8 rest) (bytes_behind 8 rest each));
          more = behind.1;
          is = ap (λ (l : List ℕ). 1 ∷ l) (sym split_16
              ∙ sym (append_assoc (take 8 rest) (take 8 (drop 8 rest)) (drop 16 rest))
              ∙ ap₂ (λ (l m : List ℕ). l ++ m) (sym numbers_are) joined
              ∙ sym (append_assoc (spelled (number_of rest) ++ spelled (length body)) body tail));
        };
      }

-- what is read is what stands there
pub has_read : (saved : SlotContent) (bytes : List ℕ) → AreBytes bytes → slot_in bytes ≡ Some saved → HasSlot saved bytes
has_read saved [] each is = absurd (cc)
has_read saved (gate ∷ rest) each is =
    let both = if_some ((gate == 1) && is_whole rest) (record {
      generation = number_of rest;
      body = take (number_of (drop 8 rest)) (drop 16 rest);
    }) saved is in
    let tests = and_parts (gate == 1) (is_whole rest) both.0 in
    subst (λ (s : SlotContent). HasSlot s (gate ∷ rest)) both.1
    (subst (λ (g : ℕ). HasSlot (slot_at rest (λ i. each (suc i)) (at_most _ _ tests.1)) (g ∷ rest))
    (sym (gate_one gate tests.0)) (has_slot rest (λ i. each (suc i)) (at_most _ _ tests.1)))

pub read_exactly : (saved : SlotContent) (bytes : List ℕ) → AreBytes bytes → slot_in bytes ≡ Some saved ↔ HasSlot saved bytes
read_exactly saved bytes each = (has_read saved bytes each, λ has. read_as has.slot)

-- bytes are one slot
same_some : (one other : SlotContent) → Some one ≡ Some other → one ≡ other
same_some one other same = cc

same_head : (tail end : ℕ) (more behind : List ℕ) → tail ∷ more ≡ end ∷ behind → tail ≡ end
same_head tail end more behind same = cc

pub one_slot : (one other : SlotContent) (tail end : ℕ) (bytes : List ℕ) → IsSlot one tail bytes → IsSlot other end bytes
    → (one ≡ other) × (tail ≡ end)
one_slot one other tail end bytes is also =
    let same : one ≡ other = same_some one other (sym (read_as is) ∙ read_as also) in (
      same,
      same_head tail end is.more also.more (sym (tail_of is)
          ∙ ap (λ (s : SlotContent). drop (17 + length s.body) bytes) same ∙ tail_of also),
    )
