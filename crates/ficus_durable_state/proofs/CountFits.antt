-- Counts that fit tables, joined and with one more for a replica.
use Rattle.std.specs.Prelude.{ℕ, ◌<◌, ◌≤◌, List, [], ◌∷◌, Contains}
use Rattle.std.proofs.Common.{sym, subst, ◌∙◌, arith, inl, inr}
use Rattle.std.proofs.lemmas.Bool.{cases_eq}
use Rattle.ficus_ids.specs.ListLaws.{here, there}
use Rattle.ficus_ids.specs.Members.{IsMember}
use Rattle.ficus_vectors.specs.Vector.{Counts, count_of, no_counts, join, bump}
use Rattle.ficus_vectors.specs.VectorLaws.{count_of-join, count_of-none, bump_at_most, bump_other}
use Rattle.ficus_file.specs.Version.{join_all}
use Rattle.ficus_file.specs.declared.version.Version.{Version}
use Rattle.ficus_durable_state.specs.Limits.{update_limit}
use Rattle.ficus_durable_state.specs.Tables.{FitsCounts, FitsVersion}

-- no count is above what no count of two vectors is above
pub join_at_most : (v w : Counts) (replica limit : ℕ) → count_of v replica ≤ limit → count_of w replica ≤ limit →
    count_of (join v w) replica ≤ limit
join_at_most v w replica limit first second = rw (count_of-join v w replica) (omega arith)

pub join_below : (v w : Counts) (replica limit : ℕ) → count_of v replica < limit → count_of w replica < limit →
    count_of (join v w) replica < limit
join_below v w replica limit first second = rw (count_of-join v w replica) (omega arith)

pub join_all_at_most : (versions : List Version) (replica limit : ℕ) →
    ((version : Version) → Contains versions version → count_of version.vector replica ≤ limit) →
    count_of (join_all versions) replica ≤ limit
join_all_at_most [] replica limit each = omega (arith, count_of-none replica)
join_all_at_most (first ∷ later) replica limit each =
    join_at_most first.vector (join_all later) replica limit (each first (here first later))
    (join_all_at_most later replica limit (λ version inside. each version (there first version later inside)))

pub none_fits : (members : ℕ) → FitsCounts members no_counts
none_fits members = record {
  at_most = λ replica. omega (arith, count_of-none replica);
  members_only = λ replica other. count_of-none replica;
}

pub join_fits : (members : ℕ) (v w : Counts) → FitsCounts members v → FitsCounts members w →
    FitsCounts members (join v w)
join_fits members v w first second = record {
  at_most = λ replica. join_at_most v w replica update_limit (first.at_most replica) (second.at_most replica);
  members_only = λ replica other. omega (arith, join_at_most v w replica 0 (at_none v first replica other) (at_none w second replica other));
}
  where
    at_none : (u : Counts) → FitsCounts members u → (replica : ℕ) → (IsMember members replica → ⊥) →
        count_of u replica ≤ 0
    at_none u fits replica other = omega (arith, fits.members_only replica other)

pub join_all_fits : (members : ℕ) (versions : List Version) →
    ((version : Version) → Contains versions version → FitsVersion members version) →
    FitsCounts members (join_all versions)
join_all_fits members [] each = none_fits members
join_all_fits members (first ∷ later) each =
    join_fits members first.vector (join_all later) (each first (here first later)).vector
    (join_all_fits members later (λ version inside. each version (there first version later inside)))

-- one more for a member fits where its count is below the limit
pub bump_fits : (members me : ℕ) (v : Counts) → IsMember members me → count_of v me < update_limit →
    FitsCounts members v → FitsCounts members (bump me v)
bump_fits members me v member room fits = record {
  at_most = λ replica. elim (cases_eq replica me) [
    | inl is ↦ rw is (omega (arith, bump_at_most me v me))
    | inr other ↦ rw (bump_other me v replica other) (fits.at_most replica)
  ];
  members_only = λ replica outside.
      bump_other me v replica (λ is. outside (subst (IsMember members) (sym is) member)) ∙ fits.members_only replica outside;
}
