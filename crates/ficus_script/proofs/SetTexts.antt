-- The text of a set is written one replica after the other.
use Rattle.std.proofs.Common.{◌≡◌, ◌≢◌, ℕ, ◌+◌, ◌-◌, ◌≤◌, List, [], ◌∷◌, ◌++◌, length, sym, ap, subst, ◌∙◌, arith}
use Rattle.std.specs.List.{flat_map, range_with_len}
use Rattle.std.proofs.lemmas.Grind.{flat_map-append}
use Rattle.std.proofs.lemmas.List.{append-nil, append_assoc, length-append, map-id}
use Rattle.std.proofs.lemmas.List.FromFn.{map-range_with_len_more}
use Rattle.ficus_script.specs.Answer.{digit_in, or_dash}

-- the digits of the first replicas, of this many
abbrev pub digits_of_first : ℕ → ℕ → List ℕ
digits_of_first set count = flat_map (digit_in set) (range_with_len 1 count)

range_more : (count : ℕ) → range_with_len 1 (count + 1) ≡ range_with_len 1 count ++ (count + 1) ∷ []
range_more count =
    sym (map-id (range_with_len 1 (count + 1)))
    ∙ map-range_with_len_more (λ (n : ℕ). n) 1 count (count + 1) (omega arith)
    ∙ ap (λ (first : List ℕ). first ++ (count + 1) ∷ []) (map-id (range_with_len 1 count))

-- one replica more
digits_more : (set count : ℕ) → digits_of_first set (count + 1) ≡ digits_of_first set count ++ digit_in set (count + 1)
digits_more set count =
    ap (flat_map (digit_in set)) (range_more count)
    ∙ flat_map-append (digit_in set) (range_with_len 1 count) ((count + 1) ∷ [])
    ∙ ap (λ (last : List ℕ). digits_of_first set count ++ last) (append-nil (digit_in set (count + 1)))

module _ (set replica : ℕ) (some : 1 ≤ replica) where
  digits_to : digits_of_first set replica ≡ digits_of_first set (replica - 1) ++ digit_in set replica
  digits_to =
      let one : replica - 1 + 1 ≡ replica = omega (arith, some) in
      subst (λ n. digits_of_first set n ≡ digits_of_first set (replica - 1) ++ digit_in set n) one
      (digits_more set (replica - 1))

  pub next_digit : (before text next : List ℕ) → text ≡ before ++ digits_of_first set (replica - 1) →
      next ≡ text ++ digit_in set replica → next ≡ before ++ digits_of_first set (replica + 1 - 1)
  next_digit before text next is added =
      let end : replica ≡ replica + 1 - 1 = omega arith in
      added ∙ ap (λ (t : List ℕ). t ++ digit_in set replica) is
      ∙ append_assoc before (digits_of_first set (replica - 1)) (digit_in set replica)
      ∙ ap (λ (digits : List ℕ). before ++ digits) (sym digits_to)
      ∙ ap (λ (n : ℕ). before ++ digits_of_first set n) end

-- where nothing was added, a dash is
pub dash_for_none : (text digits after : List ℕ) → after ≡ text ++ digits → length after ≡ length text →
    after ++ 45 ∷ [] ≡ text ++ or_dash digits
dash_for_none text [] after is same = ap (λ (bytes : List ℕ). bytes ++ 45 ∷ []) (is ∙ append-nil text)
dash_for_none text (byte ∷ bytes) after is same =
    absurd (omega (arith, same, ap length is, length-append text (byte ∷ bytes)))

pub no_dash_for_some : (text digits after : List ℕ) → after ≡ text ++ digits → length after ≢ length text →
    after ≡ text ++ or_dash digits
no_dash_for_some text [] after is other = absurd (other (ap length (is ∙ append-nil text)))
no_dash_for_some text (byte ∷ bytes) after is other = is
