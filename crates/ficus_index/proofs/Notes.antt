-- What cuts through notes find, and what an edit of them keeps.
use Rattle.std.proofs.Common.{◌≡◌, ◌≢◌, ℕ, ◌+◌, ◌<◌, ◌≤◌, Bool, List, length, get_or, slice_get, Some, ◌∙◌, sym, ap, arith, inl, inr, nat_lt}
use Rattle.std.specs.Prelude.{Contains}
use Rattle.std.specs.List.{insert, remove}
use Rattle.std.specs.List.Sorted.{IsPartitionedBy}
use Rattle.std.proofs.lemmas.Bool.{cases_lt, ltb-true, ltb-false}
use Rattle.std.proofs.lemmas.List.Sorted.{IsPartitionedBy-ltb, IsNonDecreasingBy-insert, IsPermutation-remove}
use Rattle.std.proofs.lemmas.Option.{get_or_from_slice_get, slice_get_within}
use Rattle.std.proofs.lemmas.List.Edits.{length-remove, get_or-remove_below, get_or-remove_above}
use Rattle.ficus_persistent.specs.Cut.{IsCutAt}
use Rattle.ficus_index.specs.declared.place.Note.{Note}
use Rattle.ficus_index.specs.declared.place.Place.{Place}
use Rattle.ficus_index.specs.Place.{order_of, AreOrdered, IsSpan, TakesOne}

abbrev pub before_place : Place → Note → Bool
before_place place note = nat_lt (order_of note.place) (order_of place)

module _ (notes : List Note) (ordered : AreOrdered notes) where
  pub notes_parted : (place : Place) → IsPartitionedBy (before_place place) notes
  notes_parted place = IsPartitionedBy-ltb (λ note. order_of note.place) notes (order_of place) ordered

  pub span_by_cuts : (from to : Place) (start end : ℕ) → end ≤ length notes →
      IsCutAt (before_place from) notes start → IsCutAt (before_place to) notes end → IsSpan notes from to start end
  span_by_cuts from to start end within first last = record {
    within = within;
    all = λ k d inside at_least below_it. (
      elim (cases_lt k start) [
        | inl front ↦ let less =
            ltb-true (order_of (get_or notes k d).place) (order_of from) (first.0 k d (omega arith) front) in
            absurd (omega arith)
        | inr behind ↦ omega arith
      ],
      elim (cases_lt k end) [
        | inl front ↦ front
        | inr behind ↦ let more =
            ltb-false (order_of (get_or notes k d).place) (order_of to) (last.1 k d (omega arith) inside) in
            absurd (omega arith)
      ],
    );
  }

  pub insert_ordered : (index : ℕ) (note : Note) → index ≤ length notes →
      IsCutAt (before_place note.place) notes index → AreOrdered (insert notes index note)
  insert_ordered index note within cut =
      IsNonDecreasingBy-insert (λ l. order_of l.place) notes index note ordered within
      (λ k d before. let less =
      ltb-true (order_of (get_or notes k d).place) (order_of note.place) (cut.0 k d (omega arith) before) in
      omega arith)
      (λ k d from to. ltb-false (order_of (get_or notes k d).place) (order_of note.place) (cut.1 k d from to))

  pub remove_ordered : (index : ℕ) → index < length notes → AreOrdered (remove notes index)
  remove_ordered index inside i j d before within =
      let long = length-remove notes index inside in
      elim (cases_lt i index) [
        | inl i_front ↦ elim (cases_lt j index) [
          | inl j_front ↦ rw (
            get_or-remove_below notes index d i i_front inside,
            get_or-remove_below notes index d j j_front inside,
          ) (ordered i j d before (omega arith))
          | inr j_behind ↦ rw (
            get_or-remove_below notes index d i i_front inside,
            get_or-remove_above notes index d j j_behind inside,
          ) (ordered i (j + 1) d (omega arith) (omega arith))
        ]
        | inr i_behind ↦ rw (
          get_or-remove_above notes index d i i_behind inside,
          get_or-remove_above notes index d j
              (omega arith) inside,
        ) (ordered (i + 1) (j + 1) d (omega arith) (omega arith))
      ]

  -- a note that stands neither before its place nor up to a position, and is of a place before the one there, is
  -- nowhere
  pub nowhere : (note other : Note) (first position : ℕ) → IsCutAt (before_place note.place) notes first →
      ((k : ℕ) (d : Note) → first ≤ k → k < position → get_or notes k d ≢ note) →
      slice_get notes position ≡ Some other → order_of note.place < order_of other.place → Contains notes note → ⊥
  nowhere note other first position cut unseen at behind (k, within, is) =
      let same : order_of (get_or notes k note).place ≡ order_of note.place = ap (λ (n : Note). order_of n.place) is in
      elim (cases_lt k first) [
        | inl front ↦
            let less =
            ltb-true (order_of (get_or notes k note).place) (order_of note.place)
            (cut.0 k note (omega arith) front) in
            absurd (omega arith)
        | inr from ↦ elim (cases_lt k position) [
          | inl seen ↦ unseen k note from seen is
          | inr past ↦
              let rises = ordered position k note past within in
              let there = ap (λ (n : Note). order_of n.place) (get_or_from_slice_get notes position other note at) in
              absurd (omega arith)
        ]
      ]

-- one position more at which another note stands
pub unseen_more : (notes : List Note) (note other : Note) (first position : ℕ) →
    ((k : ℕ) (d : Note) → first ≤ k → k < position → get_or notes k d ≢ note) →
    slice_get notes position ≡ Some other → other ≢ note → (k : ℕ) (d : Note) → first ≤ k → k < position + 1 →
    get_or notes k d ≢ note
unseen_more notes note other first position unseen at differs k d from below is =
    elim (cases_lt k position) [
      | inl seen ↦ unseen k d from seen is
      | inr past ↦
          let last : k ≡ position = omega arith in
          differs (sym (get_or_from_slice_get notes position other d at) ∙ rw (← last) is)
    ]

-- without the note at a position the others are left
pub takes_at : (notes : List Note) (position : ℕ) (note : Note) → slice_get notes position ≡ Some note →
    TakesOne notes note (remove notes position)
takes_at notes position note at =
    let within = slice_get_within notes position note at in
    let is = get_or_from_slice_get notes position note note at in
    record {
      present = λ _. IsPermutation-remove notes position note within (sym is);
      absent = λ none. absurd (none (position, within, is));
    }
