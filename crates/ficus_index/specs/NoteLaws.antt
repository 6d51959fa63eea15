-- What keeps the notes of an index those of some rows, each as often, for the proofs of the crates above.
use Rattle.std.proofs.Common.{◌≡◌, ◌≢◌, ◌⊎◌, ℕ, ◌+◌, ◌<◌, Bool, true, cond, List, [], ◌∷◌, length, get_or, set, map, refl, sym, ap, ap₂, zero-add, ◌∙◌, subst, arith, inl, inr}
use Rattle.std.proofs.Math.Logic.{∥∥₁_elim, ∥∥₁_map}
use Rattle.std.specs.Prelude.{Contains}
use Rattle.std.specs.List.{insert, remove, sum_by, filter}
use Rattle.std.specs.List.Sorted.{IsPermutation}
use Rattle.std.proofs.lemmas.Bool.{cases_eq, cases_Bool}
use Rattle.std.proofs.lemmas.List.Sums.{sum_by-cons, sum_by-insert, sum_by-remove, sum_by-set}
use Rattle.std.proofs.lemmas.List.Sorted.{sum_by-IsPermutation, sum_by_pushed, sum_by_popped, Contains-permutation, IsPermutation-refl, IsPermutation-sym, IsPermutation-trans, IsPermutation-cons, IsPermutation-remove}
use Rattle.ficus_ids.specs.IdLaws.{same_id_or_not}
use Rattle.ficus_ids.specs.ListLaws.{here, there, here_or_there, not_inside_none, into_map}
use Rattle.ficus_ids.specs.declared.id.Id.{Id}
use Rattle.ficus_index.specs.declared.place.Note.{Note}
use Rattle.ficus_index.specs.Place.{TakesOne, AreNotesOf, AddsRow, TakesRow}

abbrev note_at : Id → ℕ → Id → Note
note_at dir rank id = record { place = record { dir = dir; rank = rank }; id = id }

same_note : (a b : Note) → a.place.dir ≡ b.place.dir → a.place.rank ≡ b.place.rank → a.id ≡ b.id → a ≡ b
same_note a b dir rank id =
    ap (λ d. note_at d a.place.rank a.id) dir ∙ ap (λ r. note_at b.place.dir r a.id) rank
    ∙ ap (λ i. note_at b.place.dir b.place.rank i) id

-- notes are the same or not
same_note_or_not : (a b : Note) → (a ≡ b) ⊎ (a ≢ b)
same_note_or_not a b =
    elim (same_id_or_not a.id b.id) [
      | inl id ↦ elim (same_id_or_not a.place.dir b.place.dir) [
        | inl dir ↦ elim (cases_eq a.place.rank b.place.rank) [
          | inl rank ↦ inl (same_note a b dir rank id)
          | inr differs ↦ inr (λ is. differs (ap (λ (n : Note). n.place.rank) is))
        ]
        | inr differs ↦ inr (λ is. differs (ap (λ (n : Note). n.place.dir) is))
      ]
      | inr differs ↦ inr (λ is. differs (ap (λ (n : Note). n.id) is))
    ]

-- 1 where a fact holds, and 0 where it doesn't
abbrev one_if : {P : Type 0} → P ⊎ (P → ⊥) → ℕ
one_if (inl _) = 1
one_if (inr _) = 0

-- how often a note counts as this one
abbrev is : Note → Note → ℕ
is note other = one_if (same_note_or_not other note)

is_itself : (note : Note) → is note note ≡ 1
is_itself note = by (same_note_or_not note note)
  where
    by : (decided : (note ≡ note) ⊎ (note ≢ note)) → one_if decided ≡ 1
    by (inl _) = refl
    by (inr differs) = absurd (differs refl)

is_no_other : (note other : Note) → other ≢ note → is note other ≡ 0
is_no_other note other differs = by (same_note_or_not other note)
  where
    by : (decided : (other ≡ note) ⊎ (other ≢ note)) → one_if decided ≡ 0
    by (inl same) = absurd (differs same)
    by (inr _) = refl

found : (note : Note) (notes : List Note) → 0 < sum_by (is note) notes → Contains notes note
found note [] some = absurd (omega (arith, some))
found note (other ∷ notes) some =
    elim (same_note_or_not other note) [
      | inl same ↦ subst (λ n. Contains (n ∷ notes) note) (sym same) (here note notes)
      | inr differs ↦ there other note notes
          (found note notes
          (omega (arith, some, sum_by-cons (is note) other notes, is_no_other note other differs)))
    ]

-- lists over which each sum is the same have the same notes, each as often
pub permutation_from_sums : (notes others : List Note) →
    ((f : Note → ℕ) → sum_by f notes ≡ sum_by f others) → IsPermutation notes others
permutation_from_sums [] [] sums = IsPermutation-refl []
permutation_from_sums [] (other ∷ others) sums =
    absurd (omega (arith, sums (λ _. 1), sum_by-cons (λ _. 1) other others))
permutation_from_sums (note ∷ notes) others sums =
    let at : Contains others note =
    found note others (omega (arith, sums (is note), sum_by-cons (is note) note notes, is_itself note)) in
    let rest : IsPermutation notes (remove others at.0) =
    permutation_from_sums notes (remove others at.0)
    (λ f. omega (
      arith,
      sums f,
      sum_by-cons f note notes,
      sum_by-remove f others at.0 note at.1,
      ap f at.2,
    )) in
    IsPermutation-trans (note ∷ notes) (note ∷ remove others at.0) others
    (IsPermutation-cons note notes (remove others at.0) rest)
    (IsPermutation-sym others (note ∷ remove others at.0) (IsPermutation-remove others at.0 note at.1 (sym at.2)))

module _ {X : Type 0} (test : X → Bool) (note_of : X → Note) where
  abbrev notes_of : List X → List Note
  notes_of rows = map note_of (filter test rows)

  -- what a row counts for in a sum over the notes
  abbrev share : (Note → ℕ) → X → ℕ
  share f row = cond (test row) (f (note_of row)) 0

  sum_of : (f : Note → ℕ) (rows : List X) → sum_by f (notes_of rows) ≡ sum_by (share f) rows
  sum_of f [] = refl
  sum_of f (row ∷ rows) =
      elim (cases_Bool (test row)) [
        | inl passes_it ↦
            let one : share f row ≡ f (note_of row) = rw passes_it refl in
            let notes : notes_of (row ∷ rows) ≡ note_of row ∷ notes_of rows = rw passes_it refl in
            ap (sum_by f) notes ∙ sum_by-cons f (note_of row) (notes_of rows) ∙
            ap₂ (λ x y. x + y) (sym one) (sum_of f rows) ∙ sym (sum_by-cons (share f) row rows)
        | inr fails ↦
            let none : share f row ≡ 0 = rw fails refl in
            let notes : notes_of (row ∷ rows) ≡ notes_of rows = rw fails refl in
            ap (sum_by f) notes ∙ sum_of f rows ∙
            sym (sum_by-cons (share f) row rows ∙ ap (λ n. n + sum_by (share f) rows) none ∙ zero-add _)
      ]

  sum_noted : (rows : List X) (notes : List Note) → IsPermutation (notes_of rows) notes → (f : Note → ℕ) →
      sum_by f notes ≡ sum_by (share f) rows
  sum_noted rows notes same f = sum_by-IsPermutation f (notes_of rows) notes same ∙ sum_of f rows

  sum_added : (notes : List Note) (row : X) (more : List Note) → AddsRow test note_of notes row more →
      (f : Note → ℕ) → sum_by f more ≡ sum_by f notes + share f row
  sum_added notes row more added f =
      elim (cases_Bool (test row)) [
        | inl passes_it ↦ rw passes_it (omega (arith, sum_by_pushed f (note_of row) notes more (rw passes_it at added)))
        | inr fails ↦
            let same : more ≡ notes = rw fails at added in
            rw (fails, same) (omega arith)
      ]

  -- a row that passes the test is among those that do
  pub into_filter : (rows : List X) (row : X) → Contains rows row → test row ≡ true →
      Contains (filter test rows) row
  into_filter [] row inside passes = absurd (not_inside_none row inside)
  into_filter (first ∷ rows) row inside passes =
      elim (here_or_there first row rows inside) [
        | inl same ↦
            let first_passes : test first ≡ true = ap test (sym same) ∙ passes in
            rw first_passes (subst (λ (x : X). Contains (x ∷ filter test rows) row) same (here row (filter test rows)))
        | inr later ↦
            let rest = into_filter rows row later passes in
            elim (cases_Bool (test first)) [
              | inl passes_it ↦ rw passes_it (there first row (filter test rows) rest)
              | inr fails ↦ rw fails rest
            ]
      ]

  -- notes built anew are those of the rows
  pub notes_anew : (rows : List X) (notes : List Note) → IsPermutation (map note_of (filter test rows)) notes →
      AreNotesOf test note_of rows notes
  notes_anew rows notes same = ∣ same ∣₁

  note_inside : (rows : List X) (notes : List Note) (row : X) → IsPermutation (notes_of rows) notes →
      Contains rows row → test row ≡ true → Contains notes (note_of row)
  note_inside rows notes row same inside passes =
      Contains-permutation (notes_of rows) notes (note_of row) same
      (into_map note_of (filter test rows) row (into_filter rows row inside passes))

  -- each row that passes the test is noted
  pub row_noted : (rows : List X) (notes : List Note) → AreNotesOf test note_of rows notes → (row : X) →
      Contains rows row → test row ≡ true → (Contains notes (note_of row) → ⊥) → ⊥
  row_noted rows notes noted row inside passes missing =
      ∥∥₁_elim noted (λ a b. absurd a) (λ same. missing (note_inside rows notes row same inside passes))

  -- one row more, and what is noted of it
  pub notes_with : (rows : List X) (index : ℕ) (row : X) (notes more : List Note) →
      AreNotesOf test note_of rows notes → AddsRow test note_of notes row more →
      AreNotesOf test note_of (insert rows index row) more
  notes_with rows index row notes more noted added =
      ∥∥₁_map noted (λ same. permutation_from_sums (notes_of (insert rows index row)) more
      (λ f. omega (
        arith,
        sum_added notes row more added f,
        sum_noted rows notes same f,
        sum_by-insert (share f) rows index row,
        sum_of f (insert rows index row),
      )))

  module _ (rows : List X) (index : ℕ) (old : X) (notes fewer : List Note) (within : index < length rows)
      (at : get_or rows index old ≡ old) (taken : TakesRow test note_of notes old fewer) where
    sum_taken : IsPermutation (notes_of rows) notes → (f : Note → ℕ) →
        sum_by f notes ≡ sum_by f fewer + share f old
    sum_taken same f =
        elim (cases_Bool (test old)) [
          | inl passes_it ↦
              let one : TakesOne notes (note_of old) fewer = rw passes_it at taken in
              rw passes_it (omega (
                arith,
                sum_by_popped f (note_of old) notes fewer
                    (one.present (note_inside rows notes old same (index, within, at) passes_it)),
              ))
          | inr fails ↦
              let fewer_is : fewer ≡ notes = rw fails at taken in
              rw (fails, fewer_is) (omega arith)
        ]

    -- another row at an index, and what is noted of it in place of what was of the other one
    pub notes_set : (row : X) (more : List Note) → AreNotesOf test note_of rows notes →
        AddsRow test note_of fewer row more → AreNotesOf test note_of (set rows index row) more
    notes_set row more noted added =
        ∥∥₁_map noted (λ same. permutation_from_sums (notes_of (set rows index row)) more
        (λ f. omega (
          arith,
          sum_added fewer row more added f,
          sum_taken same f,
          sum_noted rows notes same f,
          sum_by-set (share f) rows index row old within,
          ap (share f) at,
          sum_of f (set rows index row),
        )))
