-- Edits stay sound by one more.
use Rattle.std.proofs.Common.{◌≡◌, ◌≢◌, ◌⊎◌, ◌↔◌, ℕ, zero, suc, ◌+◌, ◌<◌, ◌≤◌, true, false, List, [], ◌∷◌, ◌++◌, length, map, get_or, slice_get, Option, Some, None, set, take, drop, ◌∙◌, refl, sym, ap, subst, arith, inl, inr}
use Rattle.std.specs.Prelude.{AllPairs, Contains, ◌==◌}
use Rattle.std.specs.List.{insert}
use Rattle.std.specs.Option.{is_some}
use Rattle.std.proofs.Math.Seq.{map-set_same}
use Rattle.std.proofs.lemmas.Bool.{cases_Bool, cases_eq, eqb-true, eqb-false, eq-eqb, ne_eqb}
use Rattle.std.proofs.lemmas.List.{length-map, length_push, get_or-map, map-set, map-append, take-map, drop-map}
use Rattle.std.proofs.lemmas.List.Elements.{All-push, Contains-push, Contains-push_cases, Contains-append_left, Contains-get_or}
use Rattle.std.proofs.lemmas.List.Quantifiers.{all_pairs_push}
use Rattle.std.proofs.lemmas.Option.{slice_get_within, get_or_from_slice_get, slice_get-get_or}
use Rattle.ficus_ids.specs.declared.id.Id.{Id}
use Rattle.ficus_ids.specs.ListLaws.{here, there, here_or_there, not_inside_none}
use Rattle.ficus_ids.specs.Rising.{IsRisingBy, IsFoundAtBy, IsPlaceBy, PutsBy}
use Rattle.ficus_ids.specs.RisingLaws.{item_at, set_puts, insert_puts, IsRisingBy-set, IsRisingBy-insert}
use Rattle.ficus_table.specs.declared.edit.Edit.{Edit}
use Rattle.ficus_table.specs.Edits.{form_at, put_in, untouched, indices, AreBelow, shown, overlaid, IsSound, IsMadeAtOnce}
use Rattle.ficus_table.specs.Table.{KeepsId, IsEdited}
use Rattle.ficus_table.proofs.SameIds.{same_id, rising_same, found_same, place_same}
use Rattle.ficus_table.proofs.Shown.{form_put, overlaid_at, overlaid_put, overlaid_none, length_shown}

module _ {F : Type 0} where
  -- there is an edit at an index, or none
  pub indexed : (edits : List (Edit F)) (k : ℕ) →
      (Contains (indices edits) k × (is_some (form_at edits k) ≡ true)) ⊎
      ((Contains (indices edits) k → ⊥) × (form_at edits k ≡ None))
  indexed [] k = inr (not_inside_none k, refl)
  indexed (edit ∷ later) k =
      elim (cases_Bool (edit.index == k)) [
        | inl hit ↦ inl (
          subst (Contains (indices (edit ∷ later))) (eqb-true edit.index k hit)
              (here edit.index (indices later)),
          rw hit refl,
        )
        | inr miss ↦ elim (indexed later k) [
          | inl old ↦ inl (there edit.index k (indices later) old.0, rw miss old.1)
          | inr none ↦ inr (
            λ inside. elim (here_or_there edit.index k (indices later) inside) [
              | inl is ↦ eqb-false edit.index k miss (sym is)
              | inr behind ↦ none.0 behind
            ],
            rw miss none.1,
          )
        ]
      ]

  -- an edit at an index without one stands behind all others, and else in the place of the first there
  pub put_none : (edits : List (Edit F)) (new : Edit F) → form_at edits new.index ≡ None →
      put_in edits new ≡ edits ++ new ∷ []
  put_none [] new none = refl
  put_none (edit ∷ later) new none =
      elim (cases_Bool (edit.index == new.index)) [
        | inl hit ↦ absurd (let some = rw hit at none in cc)
        | inr miss ↦ rw miss (ap (λ edits. edit ∷ edits) (put_none later new (rw miss at none)))
      ]

  pub put_some : (edits : List (Edit F)) (new : Edit F) (i : ℕ) (d : Edit F) → i < length edits →
      ((get_or edits i d).index == new.index) ≡ true →
      ((k : ℕ) → k < i → ((get_or edits k d).index == new.index) ≡ false) → put_in edits new ≡ set edits i new
  put_some [] new i d within hit miss = absurd (omega arith)
  put_some (edit ∷ later) new zero d within hit miss = rw hit refl
  put_some (edit ∷ later) new (suc i) d within hit miss =
      rw (miss 0 (omega arith)) (ap (λ edits. edit ∷ edits)
      (put_some later new i d (omega arith) hit (λ k before. miss (suc k) (omega arith))))

  indices_old : (edits : List (Edit F)) (new : Edit F) → Contains (indices edits) new.index →
      indices (put_in edits new) ≡ indices edits
  indices_old [] new old = absurd (not_inside_none new.index old)
  indices_old (edit ∷ later) new old =
      elim (cases_Bool (edit.index == new.index)) [
        | inl hit ↦ rw hit (ap (λ i. i ∷ indices later) (sym (eqb-true edit.index new.index hit)))
        | inr miss ↦ rw miss (ap (λ is. edit.index ∷ is) (indices_old later new (elim
            (here_or_there edit.index new.index (indices later) old) [
              | inl is ↦ absurd (eqb-false edit.index new.index miss (sym is))
              | inr behind ↦ behind
            ])))
      ]

  indices_push : (edits : List (Edit F)) (new : Edit F) → indices (edits ++ new ∷ []) ≡ indices edits ++ new.index ∷ []
  indices_push [] new = refl
  indices_push (edit ∷ later) new = ap (λ is. edit.index ∷ is) (indices_push later new)

  -- a row more is edited
  pub edited_put : (edits : List (Edit F)) (new : Edit F) (k : ℕ) →
      Contains (indices (put_in edits new)) k ↔ (Contains (indices edits) k ⊎ (k ≡ new.index))
  edited_put edits new k =
      elim (indexed edits new.index) [
        | inl old ↦ rw (indices_old edits new old.0)
            (inl, λ either. elim either [ inl inside ↦ inside | inr is ↦ subst (Contains (indices edits)) (sym is) old.0 ])
        | inr none ↦ rw (put_none edits new none.1, indices_push edits new) (
          λ inside. elim (Contains-push_cases (indices edits) new.index k inside) [
            | inl old ↦ inl old
            | inr is ↦ inr (sym is)
          ],
          λ either. elim either [
            | inl inside ↦ Contains-append_left (indices edits) (new.index ∷ []) k inside
            | inr is ↦ subst (Contains (indices edits ++ new.index ∷ [])) (sym is) (Contains-push (indices edits) new.index)
          ],
        )
      ]

  once_put : (edits : List (Edit F)) (new : Edit F) → AllPairs (λ one other. one ≢ other) (indices edits) →
      AllPairs (λ one other. one ≢ other) (indices (put_in edits new))
  once_put edits new once =
      elim (indexed edits new.index) [
        | inl old ↦ rw (indices_old edits new old.0) once
        | inr none ↦ rw (put_none edits new none.1, indices_push edits new)
            (all_pairs_push (λ one other. one ≢ other) (indices edits) new.index once
            (λ k d within is. none.0 (subst (Contains (indices edits)) is (Contains-get_or (indices edits) k d within))))
      ]

  below_put : (edits : List (Edit F)) (new : Edit F) (end : ℕ) → AreBelow edits end → new.index < end →
      AreBelow (put_in edits new) end
  below_put edits new end below within =
      elim (indexed edits new.index) [
        | inl old ↦ rw (indices_old edits new old.0) below
        | inr none ↦ rw (put_none edits new none.1, indices_push edits new)
            (All-push (λ i. i < end) (indices edits) new.index below within)
      ]

  pub one_below : (edits : List (Edit F)) (end k : ℕ) (d : Edit F) → AreBelow edits end → k < length edits →
      (get_or edits k d).index < end
  one_below edits end k d below within =
      rw (← get_or-map (λ edit. edit.index) edits k d d.index within)
      (below k d.index (rw (length-map edits (λ edit. edit.index)) within))

  untouched_same : (one other : List (Edit F)) (n : ℕ) →
      ((k : ℕ) → k < n → is_some (form_at one k) ≡ is_some (form_at other k)) → untouched one n ≡ untouched other n
  untouched_same one other zero same = refl
  untouched_same one other (suc n) same =
      rw (same n (omega arith), untouched_same one other n (λ k below. same k (omega arith))) refl

  some_put : (edits : List (Edit F)) (new : Edit F) (k : ℕ) → new.index ≢ k →
      is_some (form_at (put_in edits new) k) ≡ is_some (form_at edits k)
  some_put edits new k other = ap is_some (form_put edits new k ∙ rw (ne_eqb new.index k other) refl)

  some_here : (edits : List (Edit F)) (new : Edit F) → is_some (form_at (put_in edits new) new.index) ≡ true
  some_here edits new = ap is_some (form_put edits new new.index) ∙ rw (eq-eqb new.index new.index refl) refl

  touched : (edits : List (Edit F)) (new : Edit F) (n : ℕ) → form_at edits new.index ≡ None → new.index < n →
      untouched (put_in edits new) n + 1 ≡ untouched edits n
  touched edits new zero none within = absurd (omega arith)
  touched edits new (suc n) none within =
      elim (cases_eq new.index n) [
        | inl last ↦
            let hit : is_some (form_at (put_in edits new) n) ≡ true =
            subst (λ k. is_some (form_at (put_in edits new) k) ≡ true) last (some_here edits new) in
            let miss : is_some (form_at edits n) ≡ false =
            subst (λ k. is_some (form_at edits k) ≡ false) last (ap is_some none) in
            let rest = untouched_same (put_in edits new) edits n (λ k below. some_put edits new k (λ is. omega arith)) in
            rw (hit, miss) (omega arith)
        | inr before ↦
            let same = some_put edits new n before in
            let rest = touched edits new n none (omega arith) in
            rw same (omega arith)
      ]

  room_put : (edits : List (Edit F)) (new : Edit F) (n : ℕ) → new.index < n →
      length (put_in edits new) + untouched (put_in edits new) n ≡ length edits + untouched edits n
  room_put edits new n within =
      elim (indexed edits new.index) [
        | inl old ↦
            let long : length (put_in edits new) ≡ length edits =
            sym (length-map (put_in edits new) (λ edit. edit.index)) ∙ ap length (indices_old edits new old.0) ∙
            length-map edits (λ edit. edit.index) in
            let rest = untouched_same (put_in edits new) edits n (λ k below. elim (cases_eq new.index k) [
              | inl is ↦ subst (λ i. is_some (form_at (put_in edits new) i) ≡ is_some (form_at edits i)) is
                  (some_here edits new ∙ sym old.1)
              | inr other ↦ some_put edits new k other
            ]) in
            omega arith
        | inr none ↦
            let long : length (put_in edits new) ≡ length edits + 1 =
            ap length (put_none edits new none.1) ∙ length_push edits new in
            let rest = touched edits new n none.1 within in
            omega arith
      ]

  untouched_most : (edits : List (Edit F)) (n : ℕ) → untouched edits n ≤ n
  untouched_most edits zero = omega arith
  untouched_most edits (suc n) =
      let rest = untouched_most edits n in
      elim (cases_Bool (is_some (form_at edits n))) [
        | inl old ↦ rw old (omega arith)
        | inr none ↦ rw none (omega arith)
      ]

module _ {F R S : Type 0} (id_of : S → Id) (seen : R → S) (formed : F → R → S) where
  -- where a row has no edit there is room for one
  pub room_for_edit : (edits : List (Edit F)) (rows : List R) (capacity : ℕ) (new : Edit F) →
      IsSound id_of seen formed edits rows capacity → new.index < length rows → form_at edits new.index ≡ None →
      length edits < capacity
  room_for_edit edits rows capacity new sound within none =
      let rest = touched edits new (length rows) none within in
      omega (arith, sound.room)

  pub mapped : (rows : List R) → map id_of (map seen rows) ≡ map (λ row. id_of (seen row)) rows
  mapped [] = refl
  mapped (row ∷ rows) = ap (λ ids. id_of (seen row) ∷ ids) (mapped rows)

  pub sound_fresh : (rows : List R) (capacity : ℕ) → IsRisingBy (λ row. id_of (seen row)) rows →
      length rows ≤ capacity → IsMadeAtOnce capacity → IsSound id_of seen formed [] rows capacity
  sound_fresh rows capacity rising within made = record {
    rising = rising;
    within = λ i d inside. absurd (omega arith);
    once = λ i j d before inside. absurd (omega arith);
    same = ap (map id_of) (overlaid_none formed seen rows) ∙ mapped rows;
    room = omega (arith, untouched_most {F = F} [] (length rows));
    made = made;
  }

  -- what a row shows has its identifier
  shown_id : (edits : List (Edit F)) (rows : List R) (capacity i : ℕ) (row : R) →
      IsSound id_of seen formed edits rows capacity → slice_get rows i ≡ Some row →
      id_of (shown formed seen (form_at edits i) row) ≡ id_of (seen row)
  shown_id edits rows capacity i row sound at =
      let shows = overlaid formed seen edits rows in
      let is = shown formed seen (form_at edits i) row in
      let within : i < length shows =
      rw (length_shown formed seen 0 edits rows) (slice_get_within rows i row at) in
      ap id_of (sym (get_or_from_slice_get shows i is is (overlaid_at formed seen edits rows i row at))) ∙
      same_id id_of (λ r. id_of (seen r)) shows rows sound.same i is row within ∙
      ap (λ r. id_of (seen r)) (get_or_from_slice_get rows i row row at)

  keeps_id : (edits : List (Edit F)) (new : Edit F) (rows : List R) (capacity : ℕ) (row : R) →
      IsSound id_of seen formed edits rows capacity → slice_get rows new.index ≡ Some row →
      KeepsId id_of seen formed (overlaid formed seen edits rows) new.index new.form →
      id_of (formed new.form row) ≡ id_of (shown formed seen (form_at edits new.index) row)
  keeps_id edits new rows capacity row sound at keeps =
      keeps row (shown formed seen (form_at edits new.index) row) (overlaid_at formed seen edits rows new.index row at)
      (sym (shown_id edits rows capacity new.index row sound at))

  -- a row of the list stands at an index of what they show
  row_at : (edits : List (Edit F)) (rows : List R) (i : ℕ) → i < length (overlaid formed seen edits rows) →
      (row : R) × (slice_get rows i ≡ Some row)
  row_at edits rows i within =
      let there : i < length rows = rw (← length_shown formed seen 0 edits rows) within in
      let item = item_at rows i there in
      (item.0, slice_get-get_or rows i item.0 there ∙ ap Some item.1)

  pub sound_put : (edits : List (Edit F)) (new : Edit F) (rows : List R) (capacity : ℕ) →
      IsSound id_of seen formed edits rows capacity → new.index < length (overlaid formed seen edits rows) →
      KeepsId id_of seen formed (overlaid formed seen edits rows) new.index new.form →
      IsSound id_of seen formed (put_in edits new) rows capacity
  sound_put edits new rows capacity sound there keeps =
      let found = row_at edits rows new.index there in
      let row : R = found.0 in
      let within : new.index < length rows = slice_get_within rows new.index row found.1 in
      let shows = overlaid formed seen edits rows in
      let more : S = formed new.form row in
      let is : id_of more ≡ id_of (get_or shows new.index more) =
      keeps_id edits new rows capacity row sound found.1 keeps ∙
      ap id_of (sym (get_or_from_slice_get shows new.index (shown formed seen (form_at edits new.index) row) more
      (overlaid_at formed seen edits rows new.index row found.1))) in
      record {
        rising = sound.rising;
        within = below_put edits new (length rows) sound.within within;
        once = once_put edits new sound.once;
        same = ap (map id_of) (overlaid_put formed seen edits new rows row found.1) ∙
            map-set_same id_of shows new.index more more is ∙ sound.same;
        room = omega (arith, room_put edits new (length rows) within, sound.room);
        made = sound.made;
      }

  pub is_edited : (edits more : List (Edit F)) (new : Edit F) (earlier : Option F) (rows : List R) →
      new.index < length (overlaid formed seen edits rows) → more ≡ put_in edits new →
      earlier ≡ form_at edits new.index →
      IsEdited seen formed (record { items = overlaid formed seen edits rows; edited = indices edits })
      (record { items = overlaid formed seen more rows; edited = indices more }) new.index new.form earlier
  is_edited edits more new earlier rows there put is =
      let found = row_at edits rows new.index there in
      rw (put, is) (record {
        row = found.0;
        was = overlaid_at formed seen edits rows new.index found.0 found.1;
        is = overlaid_put formed seen edits new rows found.0 found.1;
        edited = edited_put edits new;
      })

  -- what the rows show rises
  pub rising_shown : (edits : List (Edit F)) (rows : List R) (capacity : ℕ) →
      IsSound id_of seen formed edits rows capacity → IsRisingBy id_of (overlaid formed seen edits rows)
  rising_shown edits rows capacity sound =
      rising_same id_of (λ row. id_of (seen row)) (overlaid formed seen edits rows) rows sound.same sound.rising

  -- and so does a list of rows that show this
  pub rising_whole : (edits : List (Edit F)) (rows list : List R) (capacity : ℕ) →
      IsSound id_of seen formed edits rows capacity → map seen list ≡ overlaid formed seen edits rows →
      IsRisingBy (λ row. id_of (seen row)) list
  rising_whole edits rows list capacity sound same =
      rising_same (λ row. id_of (seen row)) (λ row. id_of (seen row)) list rows
      (sym (mapped list) ∙ ap (map id_of) same ∙ sound.same) sound.rising

  pub rising_seen : (rows : List R) → IsRisingBy (λ row. id_of (seen row)) rows → IsRisingBy id_of (map seen rows)
  rising_seen rows rising = rising_same id_of (λ row. id_of (seen row)) (map seen rows) rows (mapped rows) rising

  -- a list with a row in place of the one with its identifier, and with one more
  pub set_row : (list more : List R) (row : R) (id : Id) (i : ℕ) → IsRisingBy (λ r. id_of (seen r)) list →
      id ≡ id_of (seen row) → IsFoundAtBy (λ r. id_of (seen r)) list id i → more ≡ set list i row →
      PutsBy id_of (map seen list) (map seen more) (seen row) × IsRisingBy (λ r. id_of (seen r)) more
  set_row list more row id i rising has found is =
      let here : IsFoundAtBy (λ r. id_of (seen r)) list (id_of (seen row)) i =
      subst (λ k. IsFoundAtBy (λ r. id_of (seen r)) list k i) has found in (
        rw (is, map-set seen list i row) (set_puts id_of (map seen list) (seen row) i (rising_seen list rising)
            (found_same id_of (λ r. id_of (seen r)) (map seen list) list (mapped list) (id_of (seen row)) i here)),
        rw is (IsRisingBy-set (λ r. id_of (seen r)) list row i rising here),
      )

  map-insert : (list : List R) (i : ℕ) (row : R) → map seen (insert list i row) ≡ insert (map seen list) i (seen row)
  map-insert list i row =
      map-append seen (take i list) (row ∷ drop i list) ∙
      rw (take-map seen i list, drop-map seen i list) refl

  pub insert_row : (list more : List R) (row : R) (id : Id) (i : ℕ) → IsRisingBy (λ r. id_of (seen r)) list →
      id ≡ id_of (seen row) → IsPlaceBy (λ r. id_of (seen r)) list id i → more ≡ insert list i row →
      PutsBy id_of (map seen list) (map seen more) (seen row) × IsRisingBy (λ r. id_of (seen r)) more
  insert_row list more row id i rising has place is =
      let here : IsPlaceBy (λ r. id_of (seen r)) list (id_of (seen row)) i =
      subst (λ k. IsPlaceBy (λ r. id_of (seen r)) list k i) has place in (
        rw (is, map-insert list i row) (insert_puts id_of (map seen list) (seen row) i
            (place_same id_of (λ r. id_of (seen r)) (map seen list) list (mapped list) (id_of (seen row)) i here)),
        rw is (IsRisingBy-insert (λ r. id_of (seen r)) list row i rising here),
      )
