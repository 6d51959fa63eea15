-- After a lawful history no replica has written more than it may.
use Rattle.std.proofs.Common.{zero, suc, ◌≡◌, ℕ, ◌+◌, ◌≤◌, List, [], ◌∷◌, ◌++◌, length, get_or, Option, Some, None, false, refl, sym, ap, subst, ◌∙◌, add-one, inl, inr, arith, rules}
use Rattle.std.specs.Prelude.{IfSome}
use Rattle.std.specs.Option.{unwrap_or}
use Rattle.std.proofs.lemmas.Bool.{cases_eq}
use Rattle.std.proofs.lemmas.Option.{slice_get-get_or}
use Rattle.std.proofs.lemmas.List.{take_all}
use Rattle.ficus_model.specs.declared.event.Event.{Event}
use Rattle.ficus_model.specs.declared.event.Event.TheVariants.{Update, Collect}
use Rattle.ficus_model.specs.Events.{IsAt, before, is_update_of}
use Rattle.ficus_model.specs.Lawful.{Volume, IsLawful, MayCome, FitsBytes}
use Rattle.ficus_model.specs.Versions.{given_by, written_of}
use Rattle.ficus_laws.proofs.Positions.{through_is}
use Rattle.ficus_replica.proofs.Saves.{written_kept, written_more}

module _ (volume : Volume) (r : ℕ) where
  -- what may be given leaves it within
  gives_within : (H : List Event) (given : Option (List ℕ)) → written_of r H ≤ volume.bytes →
      IfSome given (λ bytes. FitsBytes volume H r bytes) →
      written_of r H + length (unwrap_or given []) ≤ volume.bytes
  gives_within H (Some bytes) within fits = fits.left
  gives_within H None within fits = omega arith

  -- so does any event that may come
  more_within : (H : List Event) (event : Event) → written_of r H ≤ volume.bytes → MayCome volume H event →
      written_of r (H ++ event ∷ []) ≤ volume.bytes
  more_within H (Update by op) within may = elim (cases_eq by r) [
    | inl same ↦
        let fits = subst (λ replica. IfSome (given_by op) (λ bytes. FitsBytes volume H replica bytes)) same may.bytes in
        subst (λ replica. written_of r (H ++ Update replica op ∷ []) ≤ volume.bytes) (sym same)
        (omega (arith, written_more r H op, gives_within H (given_by op) within fits))
    | inr other ↦
        let none : is_update_of r (Update by op) ≡ false = search (rules, other) in
        omega (arith, written_kept r H (Update by op) none)
  ]
  more_within H event within may = omega (arith, written_kept r H event refl)

  module _ (H : List Event) (lawful : IsLawful volume H) where
    before_within : (n : ℕ) → n ≤ length H → written_of r (before n H) ≤ volume.bytes
    before_within zero h = omega arith
    before_within (suc n) h =
        let event = get_or H n (Collect 0) in
        let at : IsAt H n event = record { is = slice_get-get_or H n (Collect 0) (omega arith) } in
        subst (λ K. written_of r K ≤ volume.bytes) (sym (through_is at) ∙ ap (λ k. before k H) (add-one n))
        (more_within (before n H) event (before_within n (omega arith)) (lawful.each n event at))

    pub written_within : written_of r H ≤ volume.bytes
    written_within =
        subst (λ K. written_of r K ≤ volume.bytes) (take_all (length H) H (omega arith)) (before_within (length H) (omega arith))
