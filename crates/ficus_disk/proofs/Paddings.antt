-- Marks with clean ones behind them.
use Rattle.std.proofs.Common.{◌≡◌, inl, inr, ℕ, zero, suc, ◌+◌, ◌-◌, ◌≤◌, max, List, [], ◌∷◌, ◌++◌, length, get_or, take, drop, refl, sym, ◌∙◌, ap, arith, append_assoc, length-append, take-append-drop, replicate}
use Rattle.std.proofs.lemmas.Bool.{cases_lt}
use Rattle.std.proofs.lemmas.List.{append-nil, drop-replicate, get_or-replicate, get_or_past, length-replicate, replicate-append-replicate, take-append-le}
use Rattle.ficus_disk.specs.Bytes.{patch}
use Rattle.ficus_disk.specs.Marks.{padded}
use Rattle.ficus_disk.specs.Platter.{IsCleanBut, is_clean, marks_of}
use Rattle.ficus_disk.specs.declared.mark.Mark.{Mark}
use Rattle.ficus_disk.specs.declared.mark.Mark.TheVariants.{Clean}
use Rattle.ficus_disk.proofs.Patches.{length-marks_of, length-patch}

pub length-padded : (marks : List Mark) (count : ℕ) → length (padded marks count) ≡ max (length marks) count
length-padded marks count =
    omega (
      arith,
      length-append marks (replicate (count - length marks) Clean),
      length-replicate (count - length marks) Clean,
    )

-- first some, and then the rest
padded-padded : (marks : List Mark) (some count : ℕ) → some ≤ count → length marks ≤ count
    → padded (padded marks some) count ≡ padded marks count
padded-padded marks some count le short =
    let long = length-padded marks some in
    append_assoc marks (replicate (some - length marks) Clean) (replicate (count - length (padded marks some)) Clean)
    ∙ ap (λ (l : List Mark). marks ++ l)
    (replicate-append-replicate (some - length marks) (count - length (padded marks some)) Clean
    ∙ ap (λ (n : ℕ). replicate n Clean) (omega (arith, long)))

drop-padded : (marks : List Mark) (k n : ℕ)
    → drop k (marks ++ replicate n Clean) ≡ drop k marks ++ replicate (n - (k - length marks)) Clean
drop-padded [] zero n = ap (λ (i : ℕ). replicate i Clean) (omega arith)
drop-padded [] (suc k) n =
    drop-replicate (suc k) n Clean ∙ ap (λ (i : ℕ). replicate i Clean) (omega arith)
drop-padded (m ∷ marks) zero n = ap (λ (i : ℕ). m ∷ marks ++ replicate i Clean) (omega arith)
drop-padded (m ∷ marks) (suc k) n =
    drop-padded marks k n ∙ ap (λ (i : ℕ). drop k marks ++ replicate i Clean) (omega arith)

-- a range is marked before the clean ones are appended
patch-padded : (marks xs : List Mark) (at count : ℕ) → at ≤ length marks → length marks ≤ count
    → padded (patch marks at xs) (max count (at + length xs)) ≡ patch (padded marks count) at xs
patch-padded marks xs at count le short =
    let long = length-patch marks xs at le in
    let behind = drop-padded marks (at + length xs) (count - length marks) in
    let front = take-append-le at marks (replicate (count - length marks) Clean) le in
    let many : max count (at + length xs) - length (patch marks at xs)
    ≡ count - length marks - (at + length xs - length marks) = omega (arith, long) in
    ap (λ (n : ℕ). patch marks at xs ++ replicate n Clean) many
    ∙ append_assoc (take at marks ++ xs) (drop (at + length xs) marks) _
    ∙ sym (λ i. front i ++ xs ++ behind i)

-- what is marked of a range of no places
pub patch-empty : (marks : List Mark) (from upto : ℕ) → upto ≤ from → patch marks from (marks_of (upto - from)) ≡ marks
patch-empty marks from upto none =
    let nothing : upto - from ≡ 0 = omega arith in
    let behind : from + 0 ≡ from = omega arith in
    ap (λ (n : ℕ). patch marks from (marks_of n)) nothing
    ∙ (λ i. append-nil (take from marks) i ++ drop (behind i) marks)
    ∙ take-append-drop from marks

-- the latest range is marked, behind clean marks up to its place
pub patch-settled : (marks : List Mark) (from upto count : ℕ) → from ≤ upto → from ≤ count → length marks ≤ count
    → padded (patch (padded marks from) from (marks_of (upto - from))) (max count upto)
    ≡ patch (padded marks count) from (marks_of (upto - from))
patch-settled marks from upto count rises near short =
    let range = marks_of (upto - from) in
    let long = length-padded marks from in
    let ends : max count upto ≡ max count (from + length range) = omega (arith, length-marks_of (upto - from)) in
    ap (λ (n : ℕ). padded (patch (padded marks from) from range) n) ends
    ∙ patch-padded (padded marks from) range from count (omega (arith, long)) (omega (arith, long))
    ∙ ap (λ (l : List Mark). patch l from range) (padded-padded marks from count near short)

get_or-padded : (marks : List Mark) (n k : ℕ) → get_or (marks ++ replicate n Clean) k Clean ≡ get_or marks k Clean
get_or-padded [] n k = elim (cases_lt k n) [
  | inl less ↦ get_or-replicate n k Clean Clean less
  | inr past ↦ get_or_past (replicate n Clean) k Clean (omega (arith, length-replicate n Clean))
]
get_or-padded (m ∷ marks) n zero = refl
get_or-padded (m ∷ marks) n (suc k) = get_or-padded marks n k

-- clean marks behind change nothing outside a range
pub padded-clean : (from upto : ℕ) (marks : List Mark) (count : ℕ) → IsCleanBut from upto marks
    → IsCleanBut from upto (padded marks count)
padded-clean from upto marks count clean = record {
  before = λ k less. ap is_clean (get_or-padded marks (count - length marks) k) ∙ clean.before k less;
  behind = λ k far. ap is_clean (get_or-padded marks (count - length marks) k) ∙ clean.behind k far;
}
