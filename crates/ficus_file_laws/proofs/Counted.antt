-- The counts of vectors that are bumped and joined.
use Rattle.std.proofs.Common.{◌≡◌, ◌≢◌, ℕ, ◌+◌, ◌≤◌, ◌==◌, max, Bool, true, false, if◌then◌else◌, List, [], ◌∷◌, inl, inr, arith, ap, ◌∙◌, refl}
use Rattle.std.proofs.lemmas.Bool.{cases_eq, eqb-true}
use Rattle.ficus_vectors.specs.Vector.{Counts, count_of, bump, join as join_counts}
use Rattle.ficus_vectors.specs.VectorLaws.{bump_other, count_of-bump, count_of-join, count_of-none}
use Rattle.ficus_file.specs.declared.version.Version.{Version}
use Rattle.ficus_file.specs.File.{over_all, covered_file}
use Rattle.ficus_file.specs.declared.file.FileReplica.{FileReplica}
use Rattle.ficus_file.specs.Version.{join_all}
use Rattle.ficus_version_laws.specs.Compared as items
use Rattle.ficus_version_laws.specs.Listed as listed
use Rattle.ficus_file_laws.specs.Items.{items_of}

-- counts that are the same for each replica are equal
same_counts : (counts others : ℕ → ℕ) → ((replica : ℕ) → counts replica ≡ others replica) → counts ≡ others
same_counts counts others same = λ i replica. same replica i

-- the counts of a join
pub joined_counts : (vector other : Counts) →
    count_of (join_counts vector other) ≡ items.join (count_of vector) (count_of other)
joined_counts vector other =
    same_counts (count_of (join_counts vector other)) (items.join (count_of vector) (count_of other))
    (count_of-join vector other)

-- and of the join of a list
joined_all : (versions : List Version) (replica : ℕ) →
    count_of (join_all versions) replica ≡ listed.join_all (items_of versions) replica
joined_all [] replica = count_of-none replica
joined_all (version ∷ versions) replica =
    count_of-join version.vector (join_all versions) replica
    ∙ ap (max (count_of version.vector replica)) (joined_all versions replica)

-- the counts with one more for a replica
bumped_counts : (by : ℕ) (vector : Counts) (replica : ℕ) → 1 ≤ by → by ≤ 8 →
    count_of (bump by vector) replica ≡ items.bump by (count_of vector) replica
bumped_counts by vector replica from to = elim (cases_eq replica by) [
  | inl is ↦ count_of-bump by vector replica (omega (arith, is)) (omega (arith, is))
  | inr other ↦ bump_other by vector replica other ∙ by_answer (replica == by) refl other
]
  where
    by_answer : (answer : Bool) → (replica == by) ≡ answer → replica ≢ by →
        count_of vector replica ≡ (if answer then count_of vector replica + 1 else count_of vector replica)
    by_answer true is other = absurd (other (eqb-true replica by is))
    by_answer false is other = refl

-- the version that a write leaves, in the terms of both
pub written_counts : (by : ℕ) (bytes : List ℕ) (versions : List Version) → 1 ≤ by → by ≤ 8 →
    items_of (over_all by bytes versions ∷ []) ≡ listed.advanced by bytes (items_of versions)
written_counts by bytes versions from to =
    let vector = same_counts
    (count_of (bump by (join_all versions))) (items.bump by (listed.join_all (items_of versions)))
    (λ replica.
    bumped_counts by (join_all versions) replica from to
    ∙ ap (λ count. if replica == by then count + 1 else count) (joined_all versions replica)) in
    λ i. record { vector = vector i; bytes = bytes } ∷ []

-- the cover of a file whose versions are covered, in the terms of both
pub covered_counts : (file : FileReplica) →
    count_of (covered_file file).covered ≡ items.join (count_of file.covered) (listed.join_all (items_of file.versions))
covered_counts file = same_counts _ _ (λ replica.
    count_of-join file.covered (join_all file.versions) replica
    ∙ ap (max (count_of file.covered replica)) (joined_all file.versions replica))
