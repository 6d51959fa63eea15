-- Versions whose vectors count members alone, and what two lists of them make together.
use Rattle.std.proofs.Common.{◌≡◌, inl, inr, ℕ, ◌+◌, ◌≤◌, List, Contains, arith, sym, ap, subst}
use Rattle.ficus_ids.specs.Members.{IsMember}
use Rattle.ficus_ids.specs.MembersLaws.{is_member_or_not}
use Rattle.ficus_ids.specs.declared.id.Id.{Id}
use Rattle.ficus_vectors.specs.Vector.{Counts, count_of, Covers, IsOver}
use Rattle.ficus_vectors.specs.VectorLaws.{equal_by_covers}
use Rattle.ficus_file.specs.declared.version.Version.{Version}
use Rattle.ficus_model.specs.declared.event.Event.{Event}
use Rattle.ficus_model.specs.Lawful.{Volume, IsLawful}
use Rattle.ficus_model.specs.Vectors.{IsVectorOf}
use Rattle.ficus_laws.proofs.Lawful.{lawful_member}
use Rattle.ficus_merge_files.specs.Versions.{HasOver, IsOfEither, IsKept, AreMerged}
use Rattle.ficus_version_laws.specs.Compared.{IsAtMost, IsUnder}
use Rattle.ficus_version_laws.specs.Listed as listed
use Rattle.ficus_version_laws.specs.Listed.{Item}
use Rattle.ficus_version_laws.proofs.Counting.{counts_none, counts_once}
use Rattle.ficus_file_laws.specs.Items.{item_of, items_of, AreVersionsOf, CountMembersOnly}
use Rattle.ficus_file_laws.proofs.Items.{HasItem, item_inside, from_items, shown_item}

-- the vector counts members alone
abbrev pub CountsMembers : ℕ → Counts → Type 0
CountsMembers members vector = (replica : ℕ) → (IsMember members replica → ⊥) → count_of vector replica ≡ 0

-- in a lawful history the vector of a version does
pub vector_counts_members : (volume : Volume) (H : List Event) {file : Id} {position : ℕ} (vector : Counts) →
    IsLawful volume H → IsVectorOf H file position (count_of vector) → CountsMembers volume.members vector
vector_counts_members volume H {position = position} vector lawful is replica other =
    counts_once (is.counts replica)
    (counts_none (position + 1) (λ number _ counted. other (lawful_member volume H lawful counted.own)))

-- and so do those of what is shown
pub count_members : (volume : Volume) (H : List Event) {U : ℕ → Type 0} {file : Id} (versions : List Version) →
    IsLawful volume H → AreVersionsOf H U file versions → CountMembersOnly volume.members versions
count_members volume H versions lawful are = record {
  each = λ version inside.
      vector_counts_members volume H version.vector lawful (shown_item versions version are inside).is.vector;
}

pub covers_from : (members : ℕ) (vector other : Counts) → CountsMembers members other →
    IsAtMost members (count_of other) (count_of vector) → Covers vector other
covers_from members vector other outside at_most = record { each = each }
  where
    each : (replica : ℕ) → count_of other replica ≤ count_of vector replica
    each replica = elim (is_member_or_not members replica) [
      | inl member ↦ at_most.each replica member
      | inr stranger ↦ omega (arith, outside replica stranger)
    ]

-- of vectors that count members alone the one is over the other exactly where the other is under it
pub over_from_under : (members : ℕ) (vector other : Counts) → CountsMembers members other →
    IsUnder members (count_of other) (count_of vector) → IsOver vector other
over_from_under members vector other outside under = record {
  covers = covers_from members vector other outside under.at_most;
  differ = λ same. under.strictly (record {
    each = λ replica _. let e = ap (λ counts. count_of counts replica) same in omega (arith, e);
  });
}

pub under_from_over : (members : ℕ) (vector other : Counts) → CountsMembers members vector → IsOver vector other →
    IsUnder members (count_of other) (count_of vector)
under_from_over members vector other outside over = record {
  at_most = record { each = λ replica _. over.covers.each replica };
  strictly = λ at_least. over.differ
      (equal_by_covers vector other over.covers (covers_from members other vector outside at_least));
}

module _ (members : ℕ) (mine theirs : List Version) (mine_count : CountMembersOnly members mine)
    (theirs_count : CountMembersOnly members theirs) where
  counts_members : (version : Version) → IsOfEither mine theirs version → CountsMembers members version.vector
  counts_members version (inl inside) = mine_count.each version inside
  counts_members version (inr inside) = theirs_count.each version inside

  -- the item is kept of the items of both
  abbrev KeptItem : Item → Type 0
  KeptItem item = listed.IsKept members (items_of mine) (items_of theirs) item

  kept_item : (version : Version) → IsKept mine theirs version → KeptItem (item_of version)
  kept_item version kept = record { from = from kept.from; latest = latest }
    where
      from : IsOfEither mine theirs version → listed.IsOfEither (items_of mine) (items_of theirs) (item_of version)
      from (inl inside) = inl (item_inside mine version inside)
      from (inr inside) = inr (item_inside theirs version inside)

      over : (versions : List Version) (item : Item) → HasItem versions item →
          IsUnder members (count_of version.vector) item.vector → HasOver versions version.vector
      over versions item found under = record {
        version = found.version;
        inside = found.inside;
        over = over_from_under members found.version.vector version.vector (counts_members version kept.from)
            (subst (λ i. IsUnder members (count_of version.vector) i.vector) (sym found.is) under);
      }

      latest : (item : Item) → listed.IsOfEither (items_of mine) (items_of theirs) item →
          IsUnder members (count_of version.vector) item.vector → ⊥
      latest item (inl inside) under = kept.latest.not_mine (over mine item (from_items mine item inside) under)
      latest item (inr inside) under = kept.latest.not_theirs (over theirs item (from_items theirs item inside) under)

  item_kept : (item : Item) → KeptItem item →
      (version : Version) × IsKept mine theirs version × (item_of version ≡ item)
  item_kept item kept = go kept.from
    where
      none_over : (version : Version) → item_of version ≡ item → (over : Version) → IsOfEither mine theirs over →
          listed.IsOfEither (items_of mine) (items_of theirs) (item_of over) → IsOver over.vector version.vector → ⊥
      none_over version is over of_either among o =
          kept.latest (item_of over) among
          (subst (λ i. IsUnder members i.vector (count_of over.vector)) is
          (under_from_over members over.vector version.vector (counts_members over of_either) o))

      keeps : (version : Version) → item_of version ≡ item → IsOfEither mine theirs version → IsKept mine theirs version
      keeps version is from = record {
        from = from;
        latest = record {
          not_mine = λ has. none_over version is has.version (inl has.inside)
              (inl (item_inside mine has.version has.inside)) has.over;
          not_theirs = λ has. none_over version is has.version (inr has.inside)
              (inr (item_inside theirs has.version has.inside)) has.over;
        };
      }

      go : listed.IsOfEither (items_of mine) (items_of theirs) item →
          (version : Version) × IsKept mine theirs version × (item_of version ≡ item)
      go (inl inside) =
          let found = from_items mine item inside in
          (found.version, keeps found.version found.is (inl found.inside), found.is)
      go (inr inside) =
          let found = from_items theirs item inside in
          (found.version, keeps found.version found.is (inr found.inside), found.is)

  -- what the two lists make together, in the terms of both
  pub merges_agree : (both : List Version) → AreMerged mine theirs both →
      listed.AreMerged members (items_of mine) (items_of theirs) (items_of both)
  merges_agree both merged = record { items = λ item. (there item, back item) }
    where
      there : (item : Item) → Contains (items_of both) item → KeptItem item
      there item inside =
          let found = from_items both item inside in
          subst KeptItem found.is
          (kept_item found.version ((merged.items found.version).0 found.inside))

      back : (item : Item) → KeptItem item → Contains (items_of both) item
      back item kept =
          let found = item_kept item kept in
          subst (Contains (items_of both)) found.2
          (item_inside both found.0 ((merged.items found.0).1 found.1))
