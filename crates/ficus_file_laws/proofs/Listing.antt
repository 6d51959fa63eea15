-- A file has one list of versions, which tells whether it is in conflict.
use Rattle.std.proofs.Common.{◌≡◌, ◌↔◌, ℕ, List, Contains, sym, ap, subst, ◌∙◌}
use Rattle.std.specs.declared.cmp.Ordering.TheVariants.{Less}
use Rattle.ficus_ids.specs.ListLaws.{same_rising}
use Rattle.ficus_ids.specs.declared.id.Id.{Id}
use Rattle.ficus_vectors.specs.Vector.{vector_cmp}
use Rattle.ficus_vectors.specs.VectorLaws.{vector_cmp_total, not_before_itself}
use Rattle.ficus_file.specs.declared.version.Version.{Version}
use Rattle.ficus_file.specs.Version.{HasTwoTexts}
use Rattle.ficus_model.specs.declared.event.Event.{Event}
use Rattle.ficus_model.specs.Versions.{IsInConflict}
use Rattle.ficus_version_laws.specs.Covers as items
use Rattle.ficus_version_laws.specs.Listed.{IsItemOf}
use Rattle.ficus_version_laws.proofs.Orphaned.{conflict_listed}
use Rattle.ficus_file_laws.specs.Items.{item_of, items_of, AreVersionsOf}
use Rattle.ficus_file_laws.proofs.Items.{item_inside, from_items, one_version, shown_item}

module _ {H : List Event} {U : ℕ → Type 0} {file : Id} where
  inside_other : (versions others : List Version) → AreVersionsOf H U file versions → AreVersionsOf H U file others →
      (version : Version) → Contains versions version → Contains others version
  inside_other versions others are are_too version inside =
      let s = shown_item versions version are inside in
      let i = are_too.shown.all s.position s.shown in
      let found = from_items others i.item i.inside in
      let is = subst (λ item. IsItemOf H file s.position item) (sym found.is) i.is in
      subst (Contains others) (sym (one_version version found.version s.is is)) found.inside

  -- two lists of the versions that are shown are one
  pub one_list : (versions others : List Version) → AreVersionsOf H U file versions → AreVersionsOf H U file others →
      versions ≡ others
  one_list versions others are are_too =
      same_rising (λ (v w : Version). vector_cmp v.vector w.vector ≡ Less) (λ v. not_before_itself v.vector)
      (λ x y z. vector_cmp_total.trans x.vector y.vector z.vector)
      versions others are.ordered are_too.ordered
      (inside_other versions others are are_too) (inside_other others versions are_too are)

two_items : (versions : List Version) → HasTwoTexts versions → items.HasTwoTexts (items_of versions)
two_items versions two = record {
  one = item_of two.one;
  other = item_of two.other;
  inside = item_inside versions two.one two.inside;
  inside_too = item_inside versions two.other two.inside_too;
  differ = two.differ;
}

two_versions : (versions : List Version) → items.HasTwoTexts (items_of versions) → HasTwoTexts versions
two_versions versions two =
    let one = from_items versions two.one two.inside in
    let other = from_items versions two.other two.inside_too in
    record {
      one = one.version;
      other = other.version;
      inside = one.inside;
      inside_too = other.inside;
      differ = λ same. two.differ (sym (ap (λ item. item.bytes) one.is) ∙ same ∙ ap (λ item. item.bytes) other.is);
    }

-- a file is in conflict exactly where two versions of its list differ in bytes
pub conflict_of_list : {H : List Event} {U : ℕ → Type 0} {file : Id} (versions : List Version) →
    AreVersionsOf H U file versions → IsInConflict H U file ↔ HasTwoTexts versions
conflict_of_list versions are =
    let listed = conflict_listed are.shown in
    (λ conflict. two_versions versions (listed.0 conflict), λ two. listed.1 (two_items versions two))
