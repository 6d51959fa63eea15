-- What the shifts and masks of `Marks` do to a set.
use Rattle.std.specs.Prelude.{◌≡◌, ◌≢◌, ◌↔◌, ℕ, ◌+◌, ◌-◌, ◌*◌, ◌/◌, ◌%◌, ◌^◌, ◌<◌, ◌≤◌, ◌&&◌, ◌||◌, ◌==◌, nat_le, nat_eq, bit_and, bit_or, min}
use Rattle.std.specs.Int.{bit_at}
use Rattle.std.proofs.Common.{arith, ap, sym, ◌∙◌, w8, inl, inr}
use Rattle.std.proofs.lemmas.Bool.{cases_lt, cases_eq}
use Rattle.std.proofs.lemmas.Bool.Decides.{nat_tests}
use Rattle.std.proofs.lemmas.Nat.Bits.{bit_at_and, bit_at-lt, bit_at_ones, bit_at_ones_above, bit_at_set_same, bit_at_set_other, ones_shr, shr_and_one, same_from_bits}
use Rattle.ficus_ids.specs.Marks.{has, IsFull, HasMembersOnly}
use Rattle.ficus_ids.specs.MarksLaws.{bit_from_has, has_from_bit}
use Rattle.ficus_ids.specs.Members.{IsMember}

-- the test `(marks >> (replica - 1)) & 1 == 1`
pub has-shr : (marks replica : ℕ) → 1 ≤ replica → nat_eq (bit_and (marks / 2 ^ (replica - 1)) 1) 1 ≡ has marks replica
unfolding has
has-shr marks replica from_one = rw (shr_and_one marks (replica - 1)) (grind (arith, nat_tests))

abbrev with : ℕ → ℕ → ℕ
with marks replica = bit_or marks (1 * 2 ^ (replica - 1) % 256)

has-with_other : (marks replica other : ℕ) → 1 ≤ replica → replica ≤ 8 → other ≢ replica →
    has (with marks replica) other ≡ (has marks other || other == replica)
unfolding has
has-with_other marks replica other from_one to_eight different =
    elim (cases_lt 0 other) as (λ _. (nat_le 1 other && (bit_at (with marks replica) (other - 1) == 1)) ≡
    ((nat_le 1 other && (bit_at marks (other - 1) == 1)) || other == replica)) [
      | inl positive ↦
          let within : replica - 1 < 8 = omega arith in
          let elsewhere : other - 1 ≢ replica - 1 = λ same. absurd (omega arith) in
          rw (bit_at_set_other w8 marks (replica - 1) within (other - 1) elsewhere) (grind (arith, nat_tests))
      | inr none ↦ grind (arith, nat_tests)
    ]

-- `marks | 1 << (replica - 1)` adds the replica
pub has-with : (marks replica other : ℕ) → 1 ≤ replica → replica ≤ 8 →
    has (bit_or marks (1 * 2 ^ (replica - 1) % 256)) other ≡ (has marks other || other == replica)
unfolding has
has-with marks replica other from_one to_eight =
    elim (cases_eq other replica) as (λ _. (nat_le 1 other && (bit_at (with marks replica) (other - 1) == 1)) ≡
    ((nat_le 1 other && (bit_at marks (other - 1) == 1)) || other == replica)) [
      | inl same ↦
          let within : replica - 1 < 8 = omega arith in
          let set = bit_at_set_same w8 marks (replica - 1) within in
          rw (same, set) (grind (arith, nat_tests))
      | inr different ↦ has-with_other marks replica other from_one to_eight different
    ]

-- `u8::MAX >> (8 - members)` has a bit for each member
all_members : (members : ℕ) → members ≤ 8 → 255 / 2 ^ (8 - members) ≡ 2 ^ members - 1
all_members members to_eight =
    let rest : 8 - (8 - members) ≡ members = omega arith in
    let within : 8 - members ≤ 8 = omega arith in
    ones_shr 8 (8 - members) within ∙ ap (λ k. 2 ^ k - 1) rest

module _ (marks members : ℕ) where
  full_from_bits : bit_and marks (2 ^ members - 1) ≡ 2 ^ members - 1 → IsFull marks members
  full_from_bits all replica member =
      let below : replica - 1 < members = omega arith in
      let ones = bit_at_ones members (replica - 1) below in
      let both = sym (bit_at_and marks (2 ^ members - 1) (replica - 1)) ∙ ap (λ n. bit_at n (replica - 1)) all ∙ ones in
      has_from_bit marks replica member.at_least (omega (arith, bit_at-lt marks (replica - 1), ones, both))

  bit_of_full : IsFull marks members → (index : ℕ) →
      min (bit_at marks index) (bit_at (2 ^ members - 1) index) ≡ bit_at (2 ^ members - 1) index
  bit_of_full full index =
      elim (cases_lt index members) as (λ _. min (bit_at marks index) (bit_at (2 ^ members - 1) index) ≡ bit_at (2 ^ members - 1) index) [
        | inl below ↦
            let back : index + 1 - 1 ≡ index = omega arith in
            let member : IsMember members (index + 1) = record { at_least = omega arith; at_most = omega arith } in
            let set = rw back at (bit_from_has marks (index + 1) (full (index + 1) member)).1 in
            rw (set, bit_at_ones members index below)
        | inr above ↦ rw (bit_at_ones_above members index above) (omega arith)
      ]

  bits_from_full : IsFull marks members → bit_and marks (2 ^ members - 1) ≡ 2 ^ members - 1
  bits_from_full full = same_from_bits _ _ (λ index. bit_at_and marks (2 ^ members - 1) index ∙ bit_of_full full index)

  members_from_bits : bit_and marks (2 ^ members - 1) ≡ marks → HasMembersOnly marks members
  members_from_bits kept replica inside =
      let bit = bit_from_has marks replica inside in
      elim (cases_lt (replica - 1) members) as (λ _. IsMember members replica) [
        | inl below ↦ record { at_least = bit.0; at_most = omega (arith, bit.0) }
        | inr above ↦
            let clear = bit_at_ones_above members (replica - 1) above in
            let both = sym (bit_at_and marks (2 ^ members - 1) (replica - 1)) ∙ ap (λ n. bit_at n (replica - 1)) kept in
            absurd (omega (arith, clear, both, bit.1))
      ]

  bit_of_members : HasMembersOnly marks members → (index : ℕ) →
      min (bit_at marks index) (bit_at (2 ^ members - 1) index) ≡ bit_at marks index
  bit_of_members only index =
      elim (cases_lt index members) as (λ _. min (bit_at marks index) (bit_at (2 ^ members - 1) index) ≡ bit_at marks index) [
        | inl below ↦ rw (bit_at_ones members index below) (omega (arith, bit_at-lt marks index))
        | inr above ↦
            elim (cases_eq (bit_at marks index) 1) as (λ _. min (bit_at marks index) (bit_at (2 ^ members - 1) index) ≡ bit_at marks index) [
              | inl set ↦
                  let back : index + 1 - 1 ≡ index = omega arith in
                  let from_one : 1 ≤ index + 1 = omega arith in
                  let member = only (index + 1) (has_from_bit marks (index + 1) from_one (rw back set)) in
                  absurd (omega (arith, member.at_most))
              | inr clear ↦ omega (arith, bit_at-lt marks index)
            ]
      ]

  bits_from_members : HasMembersOnly marks members → bit_and marks (2 ^ members - 1) ≡ marks
  bits_from_members only = same_from_bits _ _ (λ index. bit_at_and marks (2 ^ members - 1) index ∙ bit_of_members only index)

  -- the test `marks & all == all`, for `all` as above
  pub full_by_mask : members ≤ 8 →
      (bit_and marks (255 / 2 ^ (8 - members)) ≡ 255 / 2 ^ (8 - members)) ↔ IsFull marks members
  full_by_mask to_eight = rw (all_members members to_eight) (full_from_bits, bits_from_full)

  -- the test `marks & all == marks`
  pub members_by_mask : members ≤ 8 → (bit_and marks (255 / 2 ^ (8 - members)) ≡ marks) ↔ HasMembersOnly marks members
  members_by_mask to_eight = rw (all_members members to_eight) (members_from_bits, bits_from_members)
