-- Laws of members, for the proofs of this crate and of those above it.
use Rattle.std.specs.Prelude.{◌≡◌, ◌⊎◌, ℕ, ◌≤◌, Bool, false, IsTrue}
use Rattle.std.proofs.Common.{zero, suc, arith, inl, inr}
use Rattle.std.proofs.lemmas.Bool.{cases_Bool, cases_eq, cases_lt}
use Rattle.ficus_ids.specs.Members.{IsCount, IsMember}

-- a member's number fits a set of marks
pub member_in_range : {members replica : ℕ} → IsCount members → IsMember members replica → (1 ≤ replica) × (replica ≤ 8)
member_in_range count member = (member.at_least, omega arith)

pub is_member_or_not : (members replica : ℕ) → IsMember members replica ⊎ (IsMember members replica → ⊥)
is_member_or_not members replica =
    elim (cases_lt replica 1) as (λ _. IsMember members replica ⊎ (IsMember members replica → ⊥)) [
      | inl below ↦ inr (λ member. absurd (omega (arith, member.at_least)))
      | inr from_one ↦
          elim (cases_lt members replica) as (λ _. IsMember members replica ⊎ (IsMember members replica → ⊥)) [
            | inl above ↦ inr (λ member. absurd (omega (arith, member.at_most)))
            | inr within ↦ inl (record { at_least = from_one; at_most = within })
          ]
    ]

all_with_last : (p : ℕ → Bool) (members : ℕ) → ((replica : ℕ) → IsMember members replica → IsTrue (p replica)) →
    IsTrue (p (suc members)) → (replica : ℕ) → IsMember (suc members) replica → IsTrue (p replica)
all_with_last p members all last replica member =
    elim (cases_eq replica (suc members)) as (λ _. IsTrue (p replica)) [
      | inl same ↦ rw same last
      | inr other ↦ all replica (record { at_least = member.at_least; at_most = omega arith })
    ]

-- a test passes at every member, or fails at one
pub all_or_one_not : (p : ℕ → Bool) (members : ℕ) →
    ((replica : ℕ) → IsMember members replica → IsTrue (p replica)) ⊎
    ((replica : ℕ) × IsMember members replica × (p replica ≡ false))
all_or_one_not p zero = inl (λ replica member. absurd (omega (arith, member.at_least, member.at_most)))
all_or_one_not p (suc members) =
    elim (all_or_one_not p members) [
      | inr below ↦ inr (
        below.0,
        record {
          at_least = below.1.at_least;
          at_most = omega (arith, below.1.at_most);
        },
        below.2,
      )
      | inl all ↦
          elim (cases_Bool (p (suc members))) [
            | inr fails ↦ inr (suc members, record { at_least = omega arith; at_most = omega arith }, fails)
            | inl passes ↦ inl (λ replica member. all_with_last p members all passes replica member)
          ]
    ]
