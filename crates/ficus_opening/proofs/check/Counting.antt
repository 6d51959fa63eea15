-- What is counted of entries.
use Rattle.std.proofs.Common.{◌≡◌, ℕ, suc, ◌+◌, ◌<◌, Bool, true, false, not, List, [], ◌∷◌, length, get_or, take, refl, ap, ◌∙◌, inl, inr, arith}
use Rattle.std.specs.Prelude.{cond, count_by, slice_get, Some, IsTrue, ◌↔◌}
use Rattle.std.specs.Int.{from_bool}
use Rattle.std.proofs.lemmas.Bool.{cases_Bool}
use Rattle.std.proofs.lemmas.List.Sums.{count_by_more_no, count_by_more_yes, sum_by-cons}
use Rattle.std.proofs.lemmas.Option.{get_or_from_slice_get}
use Rattle.ficus_entry.specs.Kill.{is_live}
use Rattle.ficus_entry.specs.declared.entry.Entry.{Entry}
use Rattle.ficus_entry.specs.declared.entry.State.{State}
use Rattle.ficus_entry.specs.declared.entry.State.TheVariants.{Live, Dead}

-- each of a list passes a test or doesn't
pub count_both : {A : Type 0} (test : A → Bool) (list : List A)
    → count_by test list + count_by (λ one. not (test one)) list ≡ length list
count_both test [] = refl
count_both {A} test (one ∷ list) =
    let other : A → Bool = λ each. not (test each) in
    let rest = count_both test list in
    let first = sum_by-cons (λ each. cond (test each) 1 0) one list in
    let second = sum_by-cons (λ each. cond (other each) 1 0) one list in
    elim (cases_Bool (test one)) [
      | inl passes ↦ go true passes first second rest
      | inr fails ↦ go false fails first second rest
    ]
  where
    go : (passes : Bool) → test one ≡ passes → count_by test (one ∷ list) ≡ cond (test one) 1 0 + count_by test list
        → count_by (λ each. not (test each)) (one ∷ list)
        ≡ cond (not (test one)) 1 0 + count_by (λ each. not (test each)) list
        → count_by test list + count_by (λ each. not (test each)) list ≡ length list
        → count_by test (one ∷ list) + count_by (λ each. not (test each)) (one ∷ list) ≡ suc (length list)
    go true is first second rest =
        omega (arith, first, second, rest, ap {B = ℕ} (λ b. cond b 1 0) is, ap {B = ℕ} (λ b. cond (not b) 1 0) is)
    go false is first second rest =
        omega (arith, first, second, rest, ap {B = ℕ} (λ b. cond b 1 0) is, ap {B = ℕ} (λ b. cond (not b) 1 0) is)

-- so neither those that pass nor the others are more than all
pub count_either : {A : Type 0} (test : A → Bool) (list : List A) (limit : ℕ) → length list < limit
    → (count_by test list < limit) × (count_by (λ one. not (test one)) list < limit)
count_either test list limit few = (omega (arith, few, count_both test list), omega (arith, few, count_both test list))

live_so : (entry : Entry) → entry.state ≡ Live → is_live entry ≡ true
live_so entry live = rw live refl

dead_so : (entry : Entry) → (entry.state ≡ Live → ⊥) → is_live entry ≡ false
dead_so entry dead = go entry.state dead
  where
    go : (state : State) → (state ≡ Live → ⊥) → is_live (record entry { state = state }) ≡ false
    go Live dead = absurd (dead refl)
    go (Dead one two) dead = refl

-- one entry more, which is live or isn't
pub count_more : (entries : List Entry) (index : ℕ) (entry : Entry) (live : Bool) → index < length entries
    → slice_get entries index ≡ Some entry → IsTrue live ↔ (entry.state ≡ Live)
    → count_by is_live (take (index + 1) entries) ≡ count_by is_live (take index entries) + from_bool live
count_more entries index entry live within is tells = go live tells
  where
    at : get_or entries index entry ≡ entry
    at = get_or_from_slice_get entries index entry entry is

    go : (live : Bool) → IsTrue live ↔ (entry.state ≡ Live) → count_by is_live (take (index + 1) entries)
        ≡ count_by is_live (take index entries) + from_bool live
    go true tells = count_by_more_yes is_live entries index entry within (rw at (live_so entry (tells.0 refl)))
    go false tells =
        count_by_more_no is_live entries index entry within (rw at (dead_so entry (λ live. cc (tells.1 live)))) ∙
        omega arith
