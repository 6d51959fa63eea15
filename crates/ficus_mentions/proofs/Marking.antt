-- Marks of identifiers.
use Rattle.std.proofs.Common.{◌≡◌, ◌≢◌, ◌↔◌, ◌⊎◌, ℕ, ◌+◌, ◌<◌, Bool, true, false, List, [], ◌∷◌, ◌++◌, length, get_or, slice_get, take, set, Some, refl, sym, ap, subst, ◌∙◌, inl, inr, append_assoc}
use Rattle.std.specs.Prelude.{Contains, replicate}
use Rattle.std.proofs.lemmas.Bool.{cases_eq, cases_order}
use Rattle.std.proofs.lemmas.Grind.{flat_map-append}
use Rattle.std.proofs.lemmas.List.{length-set, get_or-set_same, get_or-set_other, length-replicate, get_or-replicate}
use Rattle.std.proofs.lemmas.List.Elements.{Contains-append_left, Contains-push, Contains-push_cases}
use Rattle.std.proofs.lemmas.Option.{slice_get_within, get_or_from_slice_get, slice_get-get_or, same_Some}
use Rattle.ficus_ids.specs.IdLaws.{not_below_itself}
use Rattle.ficus_ids.specs.ListLaws.{not_inside_none}
use Rattle.ficus_ids.specs.Rising.{IsRisingBy, HoldsBy}
use Rattle.ficus_ids.specs.declared.id.Id.{Id}
use Rattle.ficus_entry.specs.declared.entry.Entry.{Entry}
use Rattle.ficus_mentions.specs.Touched.{touched_by, HasMark, AreMarked}
use Rattle.ficus_mentions.proofs.Kept.{take_next}

-- the place of an identifier in a rising list is one
one_place : (ids : List Id) (i j : ℕ) (id : Id) → IsRisingBy (λ (other : Id). other) ids → slice_get ids i ≡ Some id →
    slice_get ids j ≡ Some id → i ≡ j
one_place ids i j id rising at there =
    let is : get_or ids i id ≡ id = get_or_from_slice_get ids i id id at in
    let is_too : get_or ids j id ≡ id = get_or_from_slice_get ids j id id there in
    elim (cases_order i j) [
      | inl same ↦ same
      | inr (inl before) ↦ absurd (not_below_itself id
          (rw (is, is_too) at (rising.each i j id before (slice_get_within ids j id there))))
      | inr (inr behind) ↦ absurd (not_below_itself id
          (rw (is_too, is) at (rising.each j i id behind (slice_get_within ids i id at))))
    ]

-- whether the identifier at a place has its mark
pub mark_set : (ids : List Id) (marks : List Bool) (index : ℕ) (id : Id) → slice_get ids index ≡ Some id →
    slice_get marks index ≡ Some true → HasMark ids marks id
mark_set ids marks index id at mark = record { index = index; at = at; mark = mark }

pub mark_clear : (ids : List Id) (marks : List Bool) (index : ℕ) (id : Id) →
    IsRisingBy (λ (other : Id). other) ids → slice_get ids index ≡ Some id → slice_get marks index ≡ Some false →
    HasMark ids marks id → ⊥
mark_clear ids marks index id rising at clear has =
    let same : has.index ≡ index = one_place ids has.index index id rising has.at at in
    let set : slice_get marks index ≡ Some true = subst (λ i. slice_get marks i ≡ Some true) same has.mark in
    let both : Some false ≡ Some true = sym clear ∙ set in
    cc

-- the items kept are those with a mark
pub kept_is : (ids : List Id) (marks : List Bool) (kept : List Id) →
    ((id : Id) → Contains kept id ↔ (HoldsBy (λ (other : Id). other) ids id × HasMark ids marks id)) → (id : Id) →
    Contains kept id ↔ HasMark ids marks id
kept_is ids marks kept are id = (
  λ inside. ((are id).0 inside).1,
  λ has. (are id).1 (
    record {
      item = id;
      inside = (has.index, slice_get_within ids has.index id has.at, get_or_from_slice_get ids has.index id id has.at);
      has_id = refl;
    },
    has,
  ),
)

-- One identifier more is among the others.
module _ (others ids : List Id) (id : Id) (marks : List Bool) (are : AreMarked others ids marks) where
  -- where it is none of these
  pub not_among : (Contains ids id → ⊥) → AreMarked (others ++ id ∷ []) ids marks
  not_among none = record {
    lengths = are.lengths;
    each = λ other. (
      λ has. let is = (are.each other).0 has in (is.0, Contains-append_left others (id ∷ []) other is.1),
      λ is. elim (Contains-push_cases others id other is.1) [
        | inl before ↦ (are.each other).1 (is.0, before)
        | inr same ↦ absurd (none (subst (Contains ids) (sym same) is.0))
      ],
    );
  }

  -- and where its mark is set now
  pub marked_at : (index : ℕ) → slice_get ids index ≡ Some id → AreMarked (others ++ id ∷ []) ids (set marks index true)
  marked_at index at = record {
    lengths = length-set marks index true ∙ are.lengths;
    each = λ other. (λ has. out other has (cases_eq has.index index), λ is. into other is.0 (Contains-push_cases others id other is.1));
  }
    where
      within : index < length marks
      within = rw are.lengths (slice_get_within ids index id at)

      set_here : slice_get (set marks index true) index ≡ Some true
      set_here =
          slice_get-get_or (set marks index true) index true (rw (length-set marks index true) within)
          ∙ ap Some (get_or-set_same marks index true true within)

      set_there : (k : ℕ) → k ≢ index → k < length marks → slice_get (set marks index true) k ≡ slice_get marks k
      set_there k other inside =
          slice_get-get_or (set marks index true) k true (rw (length-set marks index true) inside)
          ∙ ap Some (get_or-set_other marks index k true true other)
          ∙ sym (slice_get-get_or marks k true inside)

      within_at : (k : ℕ) (other : Id) → slice_get ids k ≡ Some other → k < length marks
      within_at k other there = rw are.lengths (slice_get_within ids k other there)

      out : (other : Id) (has : HasMark ids (set marks index true) other) → (has.index ≡ index) ⊎ (has.index ≢ index) →
          Contains ids other × Contains (others ++ id ∷ []) other
      out other has (inl same) =
          let there : slice_get ids index ≡ Some other = subst (λ i. slice_get ids i ≡ Some other) same has.at in
          let is : other ≡ id = same_Some other id (sym there ∙ at) in (
            (has.index, slice_get_within ids has.index other has.at, get_or_from_slice_get ids has.index other other has.at),
            subst (Contains (others ++ id ∷ [])) (sym is) (Contains-push others id),
          )
      out other has (inr elsewhere) =
          let was : HasMark ids marks other = record {
            index = has.index;
            at = has.at;
            mark = sym (set_there has.index elsewhere (within_at has.index other has.at)) ∙ has.mark;
          } in
          let is = (are.each other).0 was in
          (is.0, Contains-append_left others (id ∷ []) other is.1)

      into : (other : Id) → Contains ids other → Contains others other ⊎ (id ≡ other) →
          HasMark ids (set marks index true) other
      into other inside (inl before) =
          let was = (are.each other).1 (inside, before) in
          elim (cases_eq was.index index) [
            | inl same ↦ record {
              index = index;
              at = subst (λ i. slice_get ids i ≡ Some other) same was.at;
              mark = set_here;
            }
            | inr elsewhere ↦ record {
              index = was.index;
              at = was.at;
              mark = set_there was.index elsewhere (within_at was.index other was.at) ∙ was.mark;
            }
          ]
      into other inside (inr same) = record {
        index = index;
        at = at ∙ ap Some same;
        mark = set_here;
      }

-- with none among the others no mark is set
pub none_marked : (ids : List Id) → AreMarked [] ids (replicate (length ids) false)
none_marked ids = record {
  lengths = length-replicate (length ids) false;
  each = λ id. (
    λ has. let within = slice_get_within ids has.index id has.at in
        let clear : Some false ≡ Some true =
        ap Some (sym (get_or-replicate (length ids) has.index false true within))
        ∙ sym (slice_get-get_or (replicate (length ids) false) has.index true
        (rw (length-replicate (length ids) false) within)) ∙ has.mark in
        cc,
    λ is. absurd (not_inside_none id is.1),
  );
}

-- one more entry names one more object and lies in one more directory
pub touched_next : (entries : List Entry) (index : ℕ) (entry : Entry) → slice_get entries index ≡ Some entry →
    touched_by (take (index + 1) entries)
    ≡ (touched_by (take index entries) ++ entry.target ∷ []) ++ entry.dir ∷ []
touched_next entries index entry at =
    ap touched_by (take_next entries index entry at)
    ∙ flat_map-append (λ (e : Entry). e.target ∷ e.dir ∷ []) (take index entries) (entry ∷ [])
    ∙ sym (append_assoc (touched_by (take index entries)) (entry.target ∷ []) (entry.dir ∷ []))

-- those that have a mark are those of the identifiers that are among the others
pub marked_are : {others ids : List Id} {marks : List Bool} (kept : List Id) → AreMarked others ids marks →
    ((id : Id) → Contains kept id ↔ HasMark ids marks id) → (id : Id) →
    Contains kept id ↔ (Contains ids id × Contains others id)
marked_are kept are is id = (
  λ inside. (are.each id).0 ((is id).0 inside),
  λ both. (is id).1 ((are.each id).1 both),
)
