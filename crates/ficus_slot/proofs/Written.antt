-- A slot as it is written.
use Rattle.std.proofs.Common.{◌≡◌, ℕ, ◌+◌, ◌^◌, ◌<◌, ◌≤◌, inl, inr, true, Some, None, List, [], ◌∷◌, ◌++◌, length, take, drop, refl, ◌∙◌, ap, arith, append_assoc, length-append}
use Rattle.std.proofs.lemmas.List.{take_at, drop_at}
use Rattle.std.proofs.lemmas.Nat.{from_be_bytes-to_be_bytes_8}
use Rattle.std.proofs.lemmas.Bool.{cases_eq}
use Rattle.std.proofs.lemmas.Bool.Decides.{nat_tests}
use Rattle.std.specs.Int.{w64, to_be_bytes, from_be_bytes}
use Rattle.ficus_slot.specs.Gate.{IsOpenOrNone}
use Rattle.ficus_slot.specs.Slot.{IsSlot, SlotContent, is_whole, number_of, range_of, slot_in, spelled}
use Rattle.ficus_slot.specs.Stays.{IsNew}

length-spelled : (n : ℕ) → length (spelled n) ≡ 8
unfolding spelled
length-spelled n = refl

number_of-spelled : (n : ℕ) (rest : List ℕ) → n < 2 ^ 64 → number_of (spelled n ++ rest) ≡ n
unfolding number_of spelled
number_of-spelled n rest small =
    ap (from_be_bytes w64) (take_at (to_be_bytes w64 n) rest 8 refl) ∙ from_be_bytes-to_be_bytes_8 n small

pub length-range_of : (generation : ℕ) (body : List ℕ) → length (range_of generation body) ≡ 17 + length body
length-range_of generation body = simp length-append (omega (arith, length-spelled generation, length-spelled (length body)))

module _ (saved : SlotContent) (tail : ℕ) (more : List ℕ) where
  abbrev numbers : List ℕ
  numbers = spelled saved.generation ++ spelled (length saved.body)

  -- what stands behind the gate
  abbrev rest : List ℕ
  rest = numbers ++ saved.body ++ tail ∷ more

  length-numbers : length numbers ≡ 16
  length-numbers =
      omega (
        arith,
        length-append (spelled saved.generation) (spelled (length saved.body)),
        length-spelled saved.generation,
        length-spelled (length saved.body),
      )

  length-rest : length rest ≡ 17 + length saved.body + length more
  length-rest =
      omega (arith, length-numbers, length-append (numbers ++ saved.body) (tail ∷ more), length-append numbers saved.body)

  regroup : rest ≡ spelled saved.generation ++ (spelled (length saved.body) ++ (saved.body ++ tail ∷ more))
  regroup = simp append_assoc

  drops_8 : drop 8 rest ≡ spelled (length saved.body) ++ (saved.body ++ tail ∷ more)
  drops_8 = ap (λ (l : List ℕ). drop 8 l) regroup ∙ drop_at (spelled saved.generation) _ 8 (length-spelled saved.generation)

  drops_16 : drop 16 rest ≡ saved.body ++ tail ∷ more
  drops_16 =
      ap (λ (l : List ℕ). drop 16 l) (append_assoc numbers saved.body (tail ∷ more))
      ∙ drop_at numbers (saved.body ++ tail ∷ more) 16 length-numbers

  -- what stands from the tail on
  tail_behind : drop (17 + length saved.body) (1 ∷ rest) ≡ tail ∷ more
  tail_behind =
      let front : List ℕ = 1 ∷ (numbers ++ saved.body) in
      let counts : length front ≡ 17 + length saved.body =
      omega (arith, length-numbers, length-append numbers saved.body) in
      drop_at front (tail ∷ more) (17 + length saved.body) counts

  module _ (small : saved.generation < 2 ^ 64) (fits : length saved.body < 2 ^ 64) where
    names : number_of rest ≡ saved.generation
    names = ap number_of regroup ∙ number_of-spelled saved.generation _ small

    counts : number_of (drop 8 rest) ≡ length saved.body
    counts = ap number_of drops_8 ∙ number_of-spelled (length saved.body) _ fits

    whole : is_whole rest ≡ true
    whole =
        let long : 17 + number_of (drop 8 rest) ≤ length rest = omega (arith, counts, length-rest) in
        grind (arith, nat_tests)

    read_behind : slot_in (1 ∷ rest) ≡ Some saved
    read_behind =
        let picked : take (number_of (drop 8 rest)) (drop 16 rest) ≡ saved.body =
        ap (λ (n : ℕ). take n (drop 16 rest)) counts
        ∙ ap (λ (l : List ℕ). take (length saved.body) l) drops_16
        ∙ take_at saved.body (tail ∷ more) (length saved.body) refl in
        rw (whole, names, picked) refl

-- what is read of a slot, and what stands from its tail on
pub read_as : {saved : SlotContent} {tail : ℕ} {c : List ℕ} → IsSlot saved tail c → slot_in c ≡ Some saved
read_as {saved} {tail} {c} slot = ap slot_in slot.is ∙ read_behind saved tail slot.more slot.generation slot.size

pub tail_of : {saved : SlotContent} {tail : ℕ} {c : List ℕ} (slot : IsSlot saved tail c)
    → drop (17 + length saved.body) c ≡ tail ∷ slot.more
tail_of {saved} {tail} {c} slot =
    ap (λ (l : List ℕ). drop (17 + length saved.body) l) slot.is ∙ tail_behind saved tail slot.more

-- what is written behind an open gate is the slot, and its tail is closed
pub written_is_new : (generation : ℕ) (body rest : List ℕ) → generation < 2 ^ 64 → length body < 2 ^ 64 → (c : List ℕ)
    → c ≡ 1 ∷ (range_of generation body ++ rest) → IsNew (record { generation = generation; body = body }) c
written_is_new generation body rest small fits c is = record { slot = slot; is = read_as slot }
  where
    slot : IsSlot (record { generation = generation; body = body }) 0 c
    slot = record {
      generation = small;
      size = fits;
      more = rest;
      is = is
          ∙ ap (λ (l : List ℕ). 1 ∷ l) (append_assoc (spelled generation ++ spelled (length body) ++ body) (0 ∷ []) rest);
    }

-- a slot has an open gate
pub open_of : (bytes : List ℕ) (saved : SlotContent) → slot_in bytes ≡ Some saved → IsOpenOrNone bytes
open_of [] saved is = tt
open_of (gate ∷ rest) saved is = elim (cases_eq gate 1) [
  | inl one ↦ one
  | inr other ↦ absurd (let none : slot_in (gate ∷ rest) ≡ None = grind (arith, nat_tests) in cc)
]
