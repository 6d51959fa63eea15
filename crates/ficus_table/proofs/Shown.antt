-- What rows show under edits.
use Rattle.std.proofs.Common.{◌≡◌, ℕ, zero, suc, ◌+◌, ◌<◌, ◌≤◌, true, false, List, [], ◌∷◌, length, map, get_or, slice_get, Option, Some, None, set, drop, ◌∙◌, refl, sym, ap, subst, arith, inl, inr}
use Rattle.std.specs.Prelude.{position, ◌==◌}
use Rattle.std.specs.List.{position_or_len}
use Rattle.std.proofs.Math.Seq.{drop-cons}
use Rattle.std.proofs.lemmas.Bool.{cases_Bool, cases_lt, eqb-true, eq-eqb, ne_eqb}
use Rattle.std.proofs.lemmas.List.Quantifiers.{position-Some}
use Rattle.std.proofs.lemmas.List.{drop_all}
use Rattle.std.proofs.lemmas.Option.{same_Some}
use Rattle.ficus_table.specs.declared.edit.Edit.{Edit}
use Rattle.ficus_table.specs.Edits.{form_at, put_in, shown, shown_from, overlaid}

module _ {F : Type 0} where
  -- the first edit at an index gives its form
  form_some : (edits : List (Edit F)) (i k : ℕ) (d : Edit F) → k < length edits →
      ((get_or edits k d).index == i) ≡ true → ((j : ℕ) → j < k → ((get_or edits j d).index == i) ≡ false) →
      form_at edits i ≡ Some (get_or edits k d).form
  form_some [] i k d within hit miss = absurd (omega arith)
  form_some (edit ∷ later) i zero d within hit miss = rw hit refl
  form_some (edit ∷ later) i (suc k) d within hit miss =
      rw (miss 0 (omega arith)) (form_some later i k d (omega arith) hit (λ j before. miss (suc j) (omega arith)))

  pub form_by : (edits : List (Edit F)) (i place : ℕ) (d : Edit F) →
      position (λ edit. edit.index == i) edits ≡ Some place → form_at edits i ≡ Some (get_or edits place d).form
  form_by edits i place d is =
      let parts = position-Some (λ (edit : Edit F). edit.index == i) edits place d is in
      form_some edits i place d parts.0 parts.1 parts.2

  none_there : (edits : List (Edit F)) (i : ℕ) →
      length edits ≤ position_or_len (λ edit. edit.index == i) edits → form_at edits i ≡ None
  none_there [] i none = refl
  none_there (edit ∷ later) i none =
      elim (cases_Bool (edit.index == i)) [
        | inl hit ↦ absurd (let short = rw hit at none in omega arith)
        | inr miss ↦ rw miss (none_there later i (let long = rw miss at none in omega arith))
      ]

  pub form_none : (edits : List (Edit F)) (i : ℕ) → position (λ edit. edit.index == i) edits ≡ None →
      form_at edits i ≡ None
  form_none edits i none =
      elim (cases_lt (position_or_len (λ (edit : Edit F). edit.index == i) edits) (length edits)) [
        | inl some ↦ absurd (grind arith)
        | inr past ↦ none_there edits i past
      ]

  -- an edit that is put in counts at its index, and at no other
  pub form_put : (edits : List (Edit F)) (new : Edit F) (k : ℕ) →
      form_at (put_in edits new) k ≡ form_at (new ∷ edits) k
  form_put [] new k = refl
  form_put (edit ∷ later) new k =
      elim (cases_Bool (edit.index == new.index)) [
        | inl hit ↦ elim (cases_Bool (new.index == k)) [
          | inl here ↦ rw (hit, here) refl
          | inr elsewhere ↦ rw (hit, elsewhere, eqb-true edit.index new.index hit, elsewhere) refl
        ]
        | inr miss ↦ elim (cases_Bool (edit.index == k)) [
          | inl here ↦
              let other : (new.index == k) ≡ false =
              subst (λ n. (new.index == n) ≡ false) (eqb-true edit.index k here) (ne_eqb new.index edit.index
              (λ is. cc (miss, eq-eqb edit.index new.index (sym is)))) in
              rw (miss, here, other) refl
          | inr elsewhere ↦ rw (miss, elsewhere) (form_put later new k)
        ]
      ]

module _ {F R S : Type 0} (formed : F → R → S) (seen : R → S) where
  pub length_shown : (start : ℕ) (edits : List (Edit F)) (rows : List R) →
      length (shown_from formed seen start edits rows) ≡ length rows
  length_shown start edits [] = refl
  length_shown start edits (row ∷ rows) = ap suc (length_shown (start + 1) edits rows)

  shown_at : (start k : ℕ) (edits : List (Edit F)) (rows : List R) (i : ℕ) (row : R) → k ≡ start + i →
      slice_get rows i ≡ Some row →
      slice_get (shown_from formed seen start edits rows) i ≡ Some (shown formed seen (form_at edits k) row)
  shown_at start k edits [] i row is at = cc
  shown_at start k edits (first ∷ rows) zero row is at =
      let here : start ≡ k = omega arith in
      rw (same_Some first row at, here) refl
  shown_at start k edits (first ∷ rows) (suc i) row is at =
      shown_at (start + 1) k edits rows i row (omega arith) at

  -- what a row shows
  pub overlaid_at : (edits : List (Edit F)) (rows : List R) (i : ℕ) (row : R) → slice_get rows i ≡ Some row →
      slice_get (overlaid formed seen edits rows) i ≡ Some (shown formed seen (form_at edits i) row)
  overlaid_at edits rows i row at = shown_at 0 i edits rows i row (omega arith) at

  -- by the form that was found for it
  pub shown_by : (edits : List (Edit F)) (rows : List R) (i : ℕ) (row : R) (form : Option F) → slice_get rows i ≡ Some row →
      form ≡ form_at edits i → slice_get (overlaid formed seen edits rows) i ≡ Some (shown formed seen form row)
  shown_by edits rows i row form at is = rw is (overlaid_at edits rows i row at)

  no_edits : (start : ℕ) (rows : List R) → shown_from formed seen start [] rows ≡ map seen rows
  no_edits start [] = refl
  no_edits start (row ∷ rows) = ap (λ items. seen row ∷ items) (no_edits (start + 1) rows)

  pub overlaid_none : (rows : List R) → overlaid formed seen [] rows ≡ map seen rows
  overlaid_none rows = no_edits 0 rows

  pub overlaid_end : (edits : List (Edit F)) (rows : List R) (n : ℕ) → length edits ≤ n →
      map seen rows ≡ overlaid formed seen (drop n edits) rows
  overlaid_end edits rows n past =
      sym (ap (λ es. overlaid formed seen es rows) (drop_all n edits past) ∙ overlaid_none rows)

  same_shown : (start : ℕ) (one other : List (Edit F)) (rows : List R) →
      ((k : ℕ) → form_at one k ≡ form_at other k) →
      shown_from formed seen start one rows ≡ shown_from formed seen start other rows
  same_shown start one other [] same = refl
  same_shown start one other (row ∷ rows) same =
      rw (same start, same_shown (start + 1) one other rows same) refl

  edit_before : (start : ℕ) (edit : Edit F) (later : List (Edit F)) (rows : List R) → edit.index < start →
      shown_from formed seen start (edit ∷ later) rows ≡ shown_from formed seen start later rows
  edit_before start edit later [] before = refl
  edit_before start edit later (row ∷ rows) before =
      rw (ne_eqb edit.index start (λ is. omega arith), edit_before (start + 1) edit later rows (omega arith)) refl

  edit_there : (start : ℕ) (edit : Edit F) (later : List (Edit F)) (rows : List R) (i : ℕ) (row : R) →
      edit.index ≡ start + i → slice_get rows i ≡ Some row → shown_from formed seen start (edit ∷ later) rows ≡
      set (shown_from formed seen start later rows) i (formed edit.form row)
  edit_there start edit later [] i row is at = cc
  edit_there start edit later (first ∷ rows) zero row is at =
      let here : (edit.index == start) ≡ true = eq-eqb edit.index start (omega arith) in
      rw (here, same_Some first row at, edit_before (start + 1) edit later rows (omega arith)) refl
  edit_there start edit later (first ∷ rows) (suc i) row is at =
      let there : (edit.index == start) ≡ false = ne_eqb edit.index start (λ same. omega arith) in
      rw (there, edit_there (start + 1) edit later rows i row (omega arith) at) refl

  -- an edit in front has its row show its form
  pub overlaid_more : (edit : Edit F) (later : List (Edit F)) (rows : List R) (row : R) →
      slice_get rows edit.index ≡ Some row →
      overlaid formed seen (edit ∷ later) rows ≡ set (overlaid formed seen later rows) edit.index (formed edit.form row)
  overlaid_more edit later rows row at = edit_there 0 edit later rows edit.index row (omega arith) at

  pub overlaid_drop : (edits : List (Edit F)) (rows : List R) (n k : ℕ) (d : Edit F) (row : R) → n ≡ k + 1 →
      k < length edits → d ≡ get_or edits k d → slice_get rows d.index ≡ Some row →
      overlaid formed seen (drop k edits) rows ≡ set (overlaid formed seen (drop n edits) rows) d.index
      (formed d.form row)
  overlaid_drop edits rows n k d row is within here at =
      let next : n ≡ suc k = omega arith in
      ap (λ es. overlaid formed seen es rows) (drop-cons edits k d within) ∙
      rw (← here, next) (overlaid_more d (drop (suc k) edits) rows row at)

  -- so does an edit that is put in
  pub overlaid_put : (edits : List (Edit F)) (new : Edit F) (rows : List R) (row : R) →
      slice_get rows new.index ≡ Some row → overlaid formed seen (put_in edits new) rows ≡
      set (overlaid formed seen edits rows) new.index (formed new.form row)
  overlaid_put edits new rows row at =
      same_shown 0 (put_in edits new) (new ∷ edits) rows (form_put edits new) ∙ overlaid_more new edits rows row at
