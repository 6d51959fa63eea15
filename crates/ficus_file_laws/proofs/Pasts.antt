-- The vectors of two versions stand to each other as their pasts.
use Rattle.std.proofs.Common.{◌≡◌, ◌↔◌, ℕ, List, arith, ap}
use Rattle.ficus_vectors.specs.Vector.{Counts, count_of, Covers, IsOver, AreApart}
use Rattle.ficus_vectors.specs.VectorLaws.{equal_by_covers}
use Rattle.ficus_ids.specs.declared.id.Id.{Id}
use Rattle.ficus_model.specs.declared.event.Event.{Event}
use Rattle.ficus_model.specs.Lawful.{Volume, IsLawful}
use Rattle.ficus_model.specs.Vectors.{IsVectorOf}
use Rattle.ficus_model.specs.Versions.{IsVersion}
use Rattle.ficus_version_laws.specs.Compared as compared
use Rattle.ficus_version_laws.specs.Compared.{IsAtMost, IsUnder, AreEqual}
use Rattle.ficus_version_laws.proofs.Comparing.{compare_as_pasts}
use Rattle.ficus_file_laws.specs.Pasts.{StandAsPasts}
use Rattle.ficus_file_laws.proofs.Merging.{CountsMembers, vector_counts_members, covers_from, over_from_under, under_from_over}

at_most_from : (members : ℕ) (vector other : Counts) → Covers vector other →
    IsAtMost members (count_of other) (count_of vector)
at_most_from members vector other covers = record { each = λ replica _. covers.each replica }

-- Of vectors that count members alone each standing is the same over all counts and over those of members.
module _ (members : ℕ) (vector other : Counts) (outside : CountsMembers members vector)
    (outside_too : CountsMembers members other) where
  equal_standing : AreEqual members (count_of vector) (count_of other) ↔ (vector ≡ other)
  equal_standing = (
    λ same. equal_by_covers vector other
        (covers_from members vector other outside_too (record { each = λ replica m. let e = same.each replica m in omega arith }))
        (covers_from members other vector outside (record { each = λ replica m. let e = same.each replica m in omega arith })),
    λ same. record { each = λ replica _. ap (λ counts. count_of counts replica) same },
  )

  over_standing : IsUnder members (count_of other) (count_of vector) ↔ IsOver vector other
  over_standing =
      (over_from_under members vector other outside_too, under_from_over members vector other outside)

  apart_standing : compared.AreApart members (count_of vector) (count_of other) ↔ AreApart vector other
  apart_standing = (
    λ apart. record {
      not_covering = λ covers. apart.not_at_least (at_most_from members vector other covers);
      not_covered = λ covers. apart.not_at_most (at_most_from members other vector covers);
    },
    λ apart. record {
      not_at_most = λ least. apart.not_covered (covers_from members other vector outside least);
      not_at_least = λ least. apart.not_covering (covers_from members vector other outside_too least);
    },
  )

module _ {A B C : Type 0} where
  by_way : B ↔ A → B ↔ C → A ↔ C
  by_way first second = (λ a. second.0 (first.1 a), λ c. first.0 (second.1 c))

-- the vectors of two versions stand as their pasts
pub stand_as_pasts : (volume : Volume) (H : List Event) (file : Id) (position other : ℕ) (vector again : Counts) →
    IsLawful volume H → IsVersion H file position → IsVersion H file other →
    IsVectorOf H file position (count_of vector) → IsVectorOf H file other (count_of again) →
    StandAsPasts H position other vector again
stand_as_pasts volume H file position other vector again lawful v w is is_too =
    let members = volume.members in
    let outside = vector_counts_members volume H vector lawful is in
    let outside_too = vector_counts_members volume H again lawful is_too in
    let pasts = compare_as_pasts volume H lawful file v w is is_too in
    record {
      equal = by_way (equal_standing members vector again outside outside_too) pasts.equal;
      under = by_way (over_standing members again vector outside_too outside) pasts.under;
      over = by_way (over_standing members vector again outside outside_too) pasts.over;
      apart = by_way (apart_standing members vector again outside outside_too) pasts.apart;
    }
