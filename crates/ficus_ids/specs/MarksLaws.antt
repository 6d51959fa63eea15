-- Laws of sets of replica numbers, for the proofs of this crate and of those above it.
use Rattle.std.specs.Prelude.{◌≡◌, ◌⊎◌, ℕ, ◌+◌, ◌-◌, ◌<◌, ◌≤◌, Bool, true, false, ◌&&◌, ◌||◌, ◌==◌, nat_le, IsTrue, bit_or, max, refl}
use Rattle.std.specs.Int.{bit_at}
use Rattle.std.proofs.Common.{arith, sym, ◌∙◌}
use Rattle.std.proofs.lemmas.Bool.{and_parts, and_from, eqb-true, eq-eqb, leb-true, le-leb}
use Rattle.std.proofs.lemmas.Bool.Decides.{nat_tests}
use Rattle.std.proofs.lemmas.Nat.Bits.{bit_at-zero, bit_at_or, bit_at-lt, same_from_bits}
use Rattle.ficus_ids.specs.Marks.{has, IsFull}
use Rattle.ficus_ids.specs.Members.{IsMember}
use Rattle.ficus_ids.specs.MembersLaws.{all_or_one_not}

-- who is in a set has a number from 1, whose bit is set
pub bit_from_has : (marks replica : ℕ) → IsTrue (has marks replica) → (1 ≤ replica) × (bit_at marks (replica - 1) ≡ 1)
unfolding has
bit_from_has marks replica inside =
    let parts = and_parts (nat_le 1 replica) (bit_at marks (replica - 1) == 1) inside in
    (leb-true 1 replica parts.0, eqb-true (bit_at marks (replica - 1)) 1 parts.1)

pub has_from_bit : (marks replica : ℕ) → 1 ≤ replica → bit_at marks (replica - 1) ≡ 1 → IsTrue (has marks replica)
unfolding has
has_from_bit marks replica from_one set =
    and_from _ _ (le-leb 1 replica from_one) (eq-eqb (bit_at marks (replica - 1)) 1 set)

-- nobody is in the set 0
pub has-zero : (replica : ℕ) → has 0 replica ≡ false
unfolding has
has-zero replica = grind (arith, nat_tests, bit_at-zero (replica - 1))

max_is_one : (x y : ℕ) → x < 2 → y < 2 → (max x y == 1) ≡ (x == 1 || y == 1)
max_is_one x y low_x low_y = grind (arith, nat_tests)

and-or : (p x y : Bool) → (p && (x || y)) ≡ ((p && x) || (p && y))
and-or true x y = refl
and-or false x y = refl

-- `|` is the union
pub has-or : (a b replica : ℕ) → has (bit_or a b) replica ≡ (has a replica || has b replica)
unfolding has
has-or a b replica =
    let x : ℕ = bit_at a (replica - 1) in
    let y : ℕ = bit_at b (replica - 1) in
    rw (bit_at_or a b (replica - 1), max_is_one x y (bit_at-lt a (replica - 1)) (bit_at-lt b (replica - 1)))
    (and-or (nat_le 1 replica) (x == 1) (y == 1))

has-at : (marks index : ℕ) → has marks (index + 1) ≡ (bit_at marks index == 1)
unfolding has
has-at marks index =
    let back : index + 1 - 1 ≡ index = omega arith in
    rw back (grind (arith, nat_tests))

same_bit : (x y : ℕ) → x < 2 → y < 2 → (x == 1) ≡ (y == 1) → x ≡ y
same_bit x y low_x low_y same = grind (arith, nat_tests)

-- sets with the same replicas are the same number
pub same_marks : (a b : ℕ) → ((replica : ℕ) → has a replica ≡ has b replica) → a ≡ b
same_marks a b same =
    let same_at : (index : ℕ) → (bit_at a index == 1) ≡ (bit_at b index == 1) =
    λ index. sym (has-at a index) ∙ same (index + 1) ∙ has-at b index in
    same_from_bits a b (λ index. same_bit (bit_at a index) (bit_at b index) (bit_at-lt a index) (bit_at-lt b index)
    (same_at index))

-- a set that isn't full lacks a member
pub full_or_one_missing : (marks members : ℕ) →
    IsFull marks members ⊎ ((replica : ℕ) × IsMember members replica × (has marks replica ≡ false))
full_or_one_missing marks members = all_or_one_not (has marks) members
