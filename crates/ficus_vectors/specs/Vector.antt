-- Vectors: a count for each replica. Source: Parker and others 1983.
use Rattle.std.specs.Prelude.{◌≢◌, ℕ, zero, suc, ◌+◌, ◌≤◌, ◌==◌, max, if◌then◌else◌, List, [], ◌∷◌, get_or}
use Rattle.std.specs.Cmp.Lexicographic.{slice_cmp}
use Rattle.std.specs.declared.cmp.Ordering.{Ordering}
use Rattle.std.specs.Ordering.{nat_cmp}

-- a vector: the counts of the replicas 1 to 8
pub record Counts : Type 0 where
  pub first : ℕ
  pub second : ℕ
  pub third : ℕ
  pub fourth : ℕ
  pub fifth : ℕ
  pub sixth : ℕ
  pub seventh : ℕ
  pub eighth : ℕ

-- the counts in order
abbrev pub in_order : Counts → List ℕ
in_order v = v.first ∷ v.second ∷ v.third ∷ v.fourth ∷ v.fifth ∷ v.sixth ∷ v.seventh ∷ v.eighth ∷ []

-- the count of a replica where the list has those from replica 1 upwards, and 0 where it has none
abbrev pub count_in : List ℕ → ℕ → ℕ
count_in counts zero = 0
count_in counts (suc index) = get_or counts index 0

-- the count of a replica, and 0 for a number that no replica has
abbrev pub count_of : Counts → ℕ → ℕ
count_of vector replica = count_in (in_order vector) replica

-- the vector in which each replica has this count
abbrev pub vector_of : (ℕ → ℕ) → Counts
vector_of count = record {
  first = count 1;
  second = count 2;
  third = count 3;
  fourth = count 4;
  fifth = count 5;
  sixth = count 6;
  seventh = count 7;
  eighth = count 8;
}

-- all counts are 0
unfoldable pub no_counts : Counts
no_counts = vector_of (λ replica. 0)

-- for each replica the greater count
unfoldable pub join : Counts → Counts → Counts
join vector other = vector_of (λ replica. max (count_of vector replica) (count_of other replica))

-- one more for this replica
unfoldable pub bump : ℕ → Counts → Counts
bump by vector = vector_of (λ replica. if replica == by then count_of vector replica + 1 else count_of vector replica)

-- each count is at least the other's
pub record Covers (vector other : Counts) : Type 0 where
  pub each : (replica : ℕ) → count_of other replica ≤ count_of vector replica

-- it covers the other, and they differ
pub record IsOver (vector other : Counts) : Type 0 where
  pub covers : Covers vector other
  pub differ : vector ≢ other

-- neither covers the other
pub record AreApart (vector other : Counts) : Type 0 where
  pub not_covering : Covers vector other → ⊥
  pub not_covered : Covers other vector → ⊥

-- the order of vectors: the first count that differs decides, from replica 1 upwards
unfoldable pub vector_cmp : Counts → Counts → Ordering
vector_cmp vector other = slice_cmp nat_cmp (in_order vector) (in_order other)
