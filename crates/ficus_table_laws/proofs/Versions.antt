-- In a lawful history of at most eight members a file has a list of its shown versions as tables keep it, and a cover.
use Rattle.std.proofs.Common.{◌≡◌, ◌⊎◌, ℕ, zero, suc, ◌+◌, List, [], ◌∷◌, length, inl, inr, refl, subst, sym, ap, arith}
use Rattle.std.specs.Prelude.{Contains}
use Rattle.std.specs.declared.cmp.Ordering.{Ordering}
use Rattle.std.specs.declared.cmp.Ordering.TheVariants.{Less, Equal, Greater}
use Rattle.ficus_ids.specs.ListLaws.{here, there}
use Rattle.ficus_ids.specs.Members.{IsCount, IsMember}
use Rattle.ficus_ids.specs.declared.id.Id.{Id}
use Rattle.ficus_vectors.specs.Vector.{Counts, count_of, vector_cmp, vector_of}
use Rattle.ficus_vectors.specs.VectorLaws.{vector_cmp-Equal, vector_cmp-flip, vector_cmp_total}
use Rattle.ficus_file.specs.declared.version.Version.{Version}
use Rattle.ficus_model.specs.declared.event.Event.{Event}
use Rattle.ficus_model.specs.Events.{IsOf}
use Rattle.ficus_model.specs.Known.{Knows}
use Rattle.ficus_model.specs.Lawful.{Volume, IsLawful}
use Rattle.ficus_model.specs.Vectors.{IsCoverOf}
use Rattle.ficus_laws.proofs.Lawful.{lawful_member}
use Rattle.ficus_version_laws.specs.Listed.{AreShown, IsItemOf, IsListed, IsShownItem, Item}
use Rattle.ficus_version_laws.proofs.Comparing.{compare_as_pasts}
use Rattle.ficus_version_laws.proofs.Counting.{counts_none, counts_once}
use Rattle.ficus_version_laws.proofs.Existing.{cover_exists, list_exists}
use Rattle.ficus_file_laws.specs.Items.{AreVersionsOf, item_of, items_of}
use Rattle.ficus_file_laws.proofs.Items.{from_items, item_inside, one_version}
use Rattle.ficus_table_laws.proofs.Sorting.{IsSorted, sorted}

-- counts of at most eight replicas are those of a vector
counts_of_vector : (counts : ℕ → ℕ) → ((replica : ℕ) → (IsMember 8 replica → ⊥) → counts replica ≡ 0) →
    (replica : ℕ) → count_of (vector_of counts) replica ≡ counts replica
counts_of_vector counts none zero = sym (none 0 (λ is. omega (arith, is.at_least)))
counts_of_vector counts none (suc zero) = refl
counts_of_vector counts none (suc (suc zero)) = refl
counts_of_vector counts none (suc (suc (suc zero))) = refl
counts_of_vector counts none (suc (suc (suc (suc zero)))) = refl
counts_of_vector counts none (suc (suc (suc (suc (suc zero))))) = refl
counts_of_vector counts none (suc (suc (suc (suc (suc (suc zero)))))) = refl
counts_of_vector counts none (suc (suc (suc (suc (suc (suc (suc zero))))))) = refl
counts_of_vector counts none (suc (suc (suc (suc (suc (suc (suc (suc zero)))))))) = refl
counts_of_vector counts none (suc (suc (suc (suc (suc (suc (suc (suc (suc replica))))))))) =
    sym (none (suc (suc (suc (suc (suc (suc (suc (suc (suc replica))))))))) (λ is. omega (arith, is.at_most)))

pub vector_exists : (counts : ℕ → ℕ) → ((replica : ℕ) → (IsMember 8 replica → ⊥) → counts replica ≡ 0) →
    (vector : Counts) × (count_of vector ≡ counts)
vector_exists counts none =
    let same = counts_of_vector counts none in
    (vector_of counts, λ i replica. same replica i)

module _ (volume : Volume) (H : List Event) (lawful : IsLawful volume H) (count : IsCount volume.members)
    (reader : ℕ) (file : Id) where
  abbrev U : ℕ → Type 0
  U = Knows H reader

  -- who is none of eight has done nothing
  no_stranger : {position replica : ℕ} → (IsMember 8 replica → ⊥) → IsOf H position replica → ⊥
  no_stranger none own =
      let member = lawful_member volume H lawful own in
      none (record { at_least = member.at_least; at_most = omega (arith, member.at_most, count.at_most) })

  version_exists : (item : Item) → IsShownItem H U file item → (version : Version) × (item_of version ≡ item)
  version_exists item shown =
      let vector = vector_exists item.vector (λ replica none.
      counts_once (shown.is.vector.counts replica)
      (counts_none (shown.position + 1) (λ number _ counted. no_stranger none counted.own))) in
      (record { vector = vector.0; bytes = item.bytes }, λ i. record { vector = vector.1 i; bytes = item.bytes })

  versions_exist : (items : List Item) → ((item : Item) → Contains items item → IsShownItem H U file item) →
      (versions : List Version) × (items_of versions ≡ items)
  versions_exist [] each = ([], refl)
  versions_exist (item ∷ items) each =
      let first = version_exists item (each item (here item items)) in
      let rest = versions_exist items (λ other inside. each other (there item other items inside)) in
      (first.0 ∷ rest.0, λ i. first.1 i ∷ rest.1 i)

  abbrev IsBelow : Version → Version → Type 0
  IsBelow version other = vector_cmp version.vector other.vector ≡ Less

  abbrev HaveOneVector : Version → Version → Type 0
  HaveOneVector version other = version.vector ≡ other.vector

  compared : (version other : Version) →
      IsBelow version other ⊎ (HaveOneVector version other ⊎ IsBelow other version)
  compared version other = go (vector_cmp version.vector other.vector) refl
    where
      go : (answer : Ordering) → vector_cmp version.vector other.vector ≡ answer →
          IsBelow version other ⊎ (HaveOneVector version other ⊎ IsBelow other version)
      go Less is = inl is
      go Equal is = inr (inl (vector_cmp-Equal version.vector other.vector is))
      go Greater is = inr (inr (vector_cmp-flip version.vector other.vector is))

  -- shown versions with one vector are one
  one_of_vector : (version other : Version) → IsShownItem H U file (item_of version) →
      IsShownItem H U file (item_of other) → version.vector ≡ other.vector → version ≡ other
  one_of_vector version other shown shown_too same =
      let position : shown.position ≡ shown_too.position =
      (compare_as_pasts volume H lawful file shown.shown.version shown_too.shown.version
      shown.is.vector shown_too.is.vector).equal.0
      (record { each = λ replica member. ap (λ vector. count_of vector replica) same }) in
      one_version version other shown.is
      (subst (λ at. IsItemOf H file at (item_of other)) (sym position) shown_too.is)

  pub list_of_versions : (versions : List Version) × AreVersionsOf H U file versions
  list_of_versions = (
    ys.0,
    record {
      shown = record {
        each = λ item inside.
            let found = from_items ys.0 item inside in
            subst (IsShownItem H U file) found.is (is_shown found.version (ys.1.each found.version found.inside));
        all = λ position shown. listed position (items.1.all position shown);
      };
      ordered = ys.1.rises;
    },
  )
    where
      items : (items : List Item) × AreShown H U file items
      items = list_exists H reader file

      versions : (versions : List Version) × (items_of versions ≡ items.0)
      versions = versions_exist items.0 items.1.each

      is_shown : (version : Version) → Contains versions.0 version → IsShownItem H U file (item_of version)
      is_shown version inside = items.1.each (item_of version)
          (subst (λ list. Contains list (item_of version)) versions.1 (item_inside versions.0 version inside))

      ys : (ys : List Version) × IsSorted IsBelow HaveOneVector compared
          (λ x y z. vector_cmp_total.trans x.vector y.vector z.vector) versions.0 ys
      ys = sorted IsBelow HaveOneVector compared (λ x y z. vector_cmp_total.trans x.vector y.vector z.vector)
          versions.0
          (λ x inside y inside_too same. one_of_vector x y (is_shown x inside) (is_shown y inside_too) same)

      listed : (position : ℕ) → IsListed H file items.0 position → IsListed H file (items_of ys.0) position
      listed position of =
          let found = from_items versions.0 of.item
          (subst (λ list. Contains list of.item) (sym versions.1) of.inside) in
          record {
            item = item_of found.version;
            inside = item_inside ys.0 found.version (ys.1.all found.version found.inside);
            is = subst (IsItemOf H file position) (sym found.is) of.is;
          }

  pub cover_of_counts : (cover : Counts) × IsCoverOf H U file (count_of cover)
  cover_of_counts =
      let found = cover_exists H reader file in
      let vector = vector_exists found.0 (λ replica none.
      counts_once (found.1.counts replica)
      (counts_none (length H) (λ number _ covered. no_stranger none covered.own))) in
      (vector.0, subst (IsCoverOf H U file) (sym vector.1) found.1)
