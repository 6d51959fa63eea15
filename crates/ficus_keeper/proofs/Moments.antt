-- How a run of a disk's calls goes on.
use Rattle.std.proofs.Common.{inl, inr, ◌≤◌, ⊎_elim, ℕ, List, arith}
use Rattle.ficus_disk.specs.Crash.{Elapses}
use Rattle.ficus_disk.specs.declared.pair.Pair.{Pair}
use Rattle.ficus_keeper.specs.Moments.{LeavesOnly, PairSpans, Spans}

-- one part of a run after another
pub joined : {before mid now : ℕ} {past between since : ℕ → List ℕ → Type 0} {P Q : List ℕ → Type 0}
    (R : List ℕ → Type 0) → LeavesOnly before mid past between P → LeavesOnly mid now between since Q
    → ((c : List ℕ) → P c → R c) → ((c : List ℕ) → Q c → R c) → LeavesOnly before now past since R
joined R first second p q = record {
  later = omega (arith, first.later, second.later);
  nothing_else = λ t c le left. ⊎_elim
      (λ mid. ⊎_elim (λ old. inl old) (λ is. inr (p c is)) (first.nothing_else t c le mid))
      (λ is. inr (q c is)) (second.nothing_else t c (omega (arith, le, first.later)) left);
}

-- and less said of it
pub weaker : {before now : ℕ} {past since : ℕ → List ℕ → Type 0} {P : List ℕ → Type 0} (R : List ℕ → Type 0)
    → LeavesOnly before now past since P → ((c : List ℕ) → P c → R c) → LeavesOnly before now past since R
weaker R first p = record {
  later = first.later;
  nothing_else = λ t c le left. ⊎_elim (λ old. inl old) (λ is. inr (p c is)) (first.nothing_else t c le left);
}

-- no call
pub spans_none : (now : ℕ) (since : ℕ → List ℕ → Type 0) → Spans now now since since
spans_none now since = record { later = omega arith; splits = λ t c le left. inl left; kept = λ t c le left. left }

-- one call
pub spans_call : {before now : ℕ} {past since : ℕ → List ℕ → Type 0} {may_leave : List ℕ → Type 0}
    → Elapses before now past since may_leave → ((c : List ℕ) → may_leave c → since before c)
    → Spans before now past since
spans_call time left_now = record {
  later = time.later;
  splits = λ t c le left. ⊎_elim (λ old. inl old) (λ is. inr (left_now c is)) (time.nothing_else t c le left);
  kept = time.kept;
}

-- one after another
pub spans_join : {before mid now : ℕ} {past between since : ℕ → List ℕ → Type 0}
    → ((t u : ℕ) (c : List ℕ) → t ≤ u → since u c → since t c)
    → Spans before mid past between → Spans mid now between since → Spans before now past since
spans_join {before} {mid} earlier first second = record {
  later = omega (arith, first.later, second.later);
  splits = λ t c le left. ⊎_elim
      (λ mid. ⊎_elim (λ old. inl old) (λ is. inr (second.kept before c first.later is)) (first.splits t c le mid))
      (λ is. inr (earlier before mid c first.later is)) (second.splits t c (omega (arith, le, first.later)) left);
  kept = λ t c le past. second.kept t c (omega (arith, le, first.later)) (first.kept t c le past);
}

-- the same of a pair
module _ {D : Type 0} (moment : D → ℕ) (left_since : D → ℕ → List ℕ → Type 0)
    (earlier : (d : D) (t u : ℕ) (c : List ℕ) → t ≤ u → left_since d u c → left_since d t c) where
  pub pair_joins : (old mid new : Pair D) → PairSpans moment left_since old mid → PairSpans moment left_since mid new
      → PairSpans moment left_since old new
  pair_joins old mid new first second = record {
    a = spans_join (earlier new.a) first.a second.a;
    b = spans_join (earlier new.b) first.b second.b;
  }

-- one call of a disk that tells what was left since a moment
module _ {D : Type 0} (moment : D → ℕ) (left_since : D → ℕ → List ℕ → Type 0) (may_leave : D → List ℕ → Type 0)
    (left_now : (d : D) (t : ℕ) (c : List ℕ) → t ≤ moment d → may_leave d c → left_since d t c) where
  pub spans_disk : (old new : D)
      → Elapses (moment old) (moment new) (left_since old) (left_since new) (may_leave new)
      → Spans (moment old) (moment new) (left_since old) (left_since new)
  spans_disk old new time = spans_call time (λ c leaves. left_now new (moment old) c time.later leaves)
