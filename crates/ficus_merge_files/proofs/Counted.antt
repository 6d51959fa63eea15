-- How many versions two lists make together.
use Rattle.std.proofs.Common.{◌≡◌, ◌⊎◌, inl, inr, ℕ, zero, suc, ◌+◌, ◌<◌, ◌≤◌, List, [], ◌∷◌, length, get_or, take, Contains, refl, sym, subst, arith}
use Rattle.std.specs.List.{insert}
use Rattle.std.specs.declared.cmp.Ordering.{Ordering}
use Rattle.std.specs.declared.cmp.Ordering.TheVariants.{Less, Equal, Greater}
use Rattle.std.proofs.lemmas.List.Edits.{length-insert}
use Rattle.ficus_ids.specs.ListLaws.{here, there, rest_rises, not_inside_none}
use Rattle.ficus_ids.specs.RisingLaws.{Contains-insert}
use Rattle.ficus_vectors.specs.Vector.{Counts, vector_cmp}
use Rattle.ficus_vectors.specs.VectorLaws.{vector_cmp_total, vector_cmp-flip, vector_cmp-Equal}
use Rattle.ficus_file.specs.declared.version.Version.{Version}
use Rattle.ficus_merge_files.specs.Versions.{HasVector, IsLatest, IsKeptOf, AreOrdered, AreOfEither, HaveOneText, IsPlaceOf}
use Rattle.ficus_merge_files.specs.Counts.{HaveSameVectors, Grows, MakeSoMany}
use Rattle.ficus_merge_files.proofs.Kept.{insert_ordered, settled, kept_too, of_either, earlier_only, at_end, merged_from, first_of_either}

abbrev Below : Version → Version → Type 0
Below version other = vector_cmp version.vector other.vector ≡ Less

-- in an ordered list a vector stands, or has a place
pub place_of : (versions : List Version) (vector : Counts) → AreOrdered versions →
    HasVector versions vector ⊎ ((index : ℕ) × IsPlaceOf versions vector index)
place_of [] vector ordered = inr (
  0,
  record {
    within = omega arith;
    above = λ k d from to. absurd (omega arith);
    below = λ k d from to. absurd (omega arith);
  },
)
place_of (first ∷ later) vector ordered = by_order (vector_cmp first.vector vector) refl (place_of later vector (rest_rises Below first later ordered))
  where
    by_order : (o : Ordering) → vector_cmp first.vector vector ≡ o →
        HasVector later vector ⊎ ((index : ℕ) × IsPlaceOf later vector index) →
        HasVector (first ∷ later) vector ⊎ ((index : ℕ) × IsPlaceOf (first ∷ later) vector index)
    by_order Equal is rest =
        inl (record { version = first; inside = here first later; same = vector_cmp-Equal first.vector vector is })
    by_order Greater is rest =
        let next : vector_cmp vector first.vector ≡ Less = vector_cmp-flip first.vector vector is in
        inr (
          0,
          record {
            within = omega arith;
            above = λ k d from to. absurd (omega arith);
            below = after next;
          },
        )
      where
        after : vector_cmp vector first.vector ≡ Less → (k : ℕ) (d : Version) → 0 ≤ k → k < length (first ∷ later) →
            vector_cmp vector (get_or (first ∷ later) k d).vector ≡ Less
        after next zero d from to = next
        after next (suc k) d from to =
            vector_cmp_total.trans vector first.vector (get_or later k d).vector next (ordered 0 (suc k) d (omega arith) to)
    by_order Less is (inl has) =
        inl (record { version = has.version; inside = there first has.version later has.inside; same = has.same })
    by_order Less is (inr (index, place)) = inr (
      suc index,
      record {
        within = omega (arith, place.within);
        above = front;
        below = behind;
      },
    )
      where
        front : (k : ℕ) (d : Version) → 0 ≤ k → k < suc index →
            vector_cmp (get_or (first ∷ later) k d).vector vector ≡ Less
        front zero d from to = is
        front (suc k) d from to = place.above k d (omega arith) (omega arith)

        behind : (k : ℕ) (d : Version) → suc index ≤ k → k < length (first ∷ later) →
            vector_cmp vector (get_or (first ∷ later) k d).vector ≡ Less
        behind zero d from to = absurd (omega arith)
        behind (suc k) d from to = place.below k d (omega arith) (omega arith)

module _ (from : List Version) (i : ℕ) (version : Version) (within : i < length from)
    (at : get_or from i version ≡ version) (mine theirs old : List Version) (count : ℕ)
    (one_text : HaveOneText mine theirs)
    (each_from : AreOfEither from mine theirs) (each_old : AreOfEither old mine theirs)
    (so_far : Grows (take i from) mine theirs old count) where
  -- what isn't new isn't counted
  pub not_counted : (IsLatest mine theirs version.vector → HasVector old version.vector) →
      Grows (take (i + 1) from) mine theirs old count
  not_counted known = record {
    new = so_far.new;
    gains = settled from i version within at mine theirs old so_far.new so_far.gains one_text each_from each_old
        (λ latest. let has = known latest in
        record { version = has.version; inside = (so_far.gains has.version).1 (inl has.inside); same = has.same });
    ordered = so_far.ordered;
    long = so_far.long;
  }

  -- and what is new is counted
  pub counted : AreOrdered from → IsLatest mine theirs version.vector → (HasVector old version.vector → ⊥) →
      Grows (take (i + 1) from) mine theirs old (count + 1)
  counted ordered latest new = elim (place_of so_far.new version.vector so_far.ordered) [
    | inl has ↦
        let is : has.version ≡ version =
        one_text has.version version (of_either from i version within at mine theirs old so_far.new so_far.gains each_from each_old has.version has.inside)
        (each_from version (i, within, at)) has.same in
        elim ((so_far.gains has.version).0 has.inside) [
          | inl had ↦ absurd (new (record { version = has.version; inside = had; same = has.same }))
          | inr kept ↦ absurd (earlier_only from i version within at ordered (subst (Contains (take i from)) is kept.inside))
        ]
    | inr (index, place) ↦ record {
      new = insert so_far.new index version;
      gains = kept_too from i version within at mine theirs old so_far.new so_far.gains (insert so_far.new index version) one_text each_from each_old latest
          (inr (λ other. Contains-insert so_far.new index version other));
      ordered = insert_ordered so_far.new version index so_far.ordered place;
      long = omega (arith, length-insert so_far.new index version place.within, so_far.long);
    }
  ]

pub none_counted : (mine theirs old : List Version) → AreOrdered old → Grows [] mine theirs old 0
none_counted mine theirs old ordered = record {
  new = old;
  gains = λ v. (inl, only_old v);
  ordered = ordered;
  long = omega arith;
}
  where
    only_old : (v : Version) → Contains old v ⊎ IsKeptOf [] mine theirs v → Contains old v
    only_old v (inl had) = had
    only_old v (inr kept) = absurd (not_inside_none v kept.inside)

pub all_counted : (from mine theirs old : List Version) (n count : ℕ) → length from ≤ n →
    Grows (take n from) mine theirs old count → Grows from mine theirs old count
all_counted from mine theirs old n count all grows = record {
  new = grows.new;
  gains = at_end from mine theirs old grows.new n all grows.gains;
  ordered = grows.ordered;
  long = grows.long;
}

-- mine and then theirs
pub both_counted : (mine theirs none : List Version) (count more : ℕ) → none ≡ [] →
    ((old : List Version) → AreOrdered old → AreOfEither old mine theirs → HaveSameVectors mine mine theirs old none →
    Grows mine mine theirs old count) →
    ((old : List Version) → AreOrdered old → AreOfEither old mine theirs → HaveSameVectors theirs mine theirs old mine →
    Grows theirs mine theirs old more) →
    MakeSoMany mine theirs (count + more)
both_counted mine theirs none count more empty grow_mine grow_theirs =
    let first = grow_mine [] (λ i j d before within. absurd (omega arith)) (λ v inside. absurd (not_inside_none v inside))
    (λ v inside latest. (
      λ has. absurd (not_inside_none has.version has.inside),
      λ has. absurd (not_inside_none has.version (subst (λ l. Contains l has.version) empty has.inside)),
    )) in
    let second = grow_theirs first.new first.ordered (first_of_either mine theirs [] first.new refl first.gains)
    (λ v inside latest. (into first v, back first v latest)) in
    record {
      both = second.new;
      merged = merged_from mine theirs [] first.new second.new refl first.gains second.gains second.ordered;
      long = omega (arith, first.long, second.long);
    }
  where
    into : (first : Grows mine mine theirs [] count) (v : Version) → HasVector first.new v.vector →
        HasVector mine v.vector
    into first v has = elim ((first.gains has.version).0 has.inside) [
      | inl had ↦ absurd (not_inside_none has.version had)
      | inr kept ↦ record { version = has.version; inside = kept.inside; same = has.same }
    ]

    back : (first : Grows mine mine theirs [] count) (v : Version) → IsLatest mine theirs v.vector →
        HasVector mine v.vector → HasVector first.new v.vector
    back first v latest has = record {
      version = has.version;
      inside = (first.gains has.version).1 (inr (record { inside = has.inside; latest = subst (IsLatest mine theirs) (sym has.same) latest }));
      same = has.same;
    }
