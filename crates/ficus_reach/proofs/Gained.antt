-- How a list of found objects grows.
use Rattle.std.specs.Prelude.{◌≡◌, ◌⊎◌, ◌↔◌, List, [], ◌∷◌, ◌++◌, Contains}
use Rattle.std.proofs.Common.{refl, sym, ap, ◌∙◌, subst, inl, inr, append-nil, append_assoc}
use Rattle.std.proofs.lemmas.List.Elements.{Contains-append_left, Contains-push, Contains-push_cases}
use Rattle.ficus_ids.specs.declared.id.Id.{Id}
use Rattle.std.specs.BTreeSet.{BTreeSet}
use Rattle.ficus_reach.specs.Found.{IsTracked, Gains}

-- nothing is gained
pub gains_none : (xs : List Id) {gained : Id → Type 0} → ((object : Id) → gained object → ⊥) → Gains xs xs gained
gains_none xs none = record {
  more = [];
  appended = sym (append-nil xs);
  objects = λ object. (λ inside. inl inside, λ either. elim either [ inl inside ↦ inside | inr is ↦ absurd (none object is) ]);
}

-- what was found before is gained again
pub gains_known : (xs : List Id) (object : Id) → Contains xs object → Gains xs xs (λ gained. gained ≡ object)
gains_known xs object known = record {
  more = [];
  appended = sym (append-nil xs);
  objects = λ other. (λ inside. inl inside, λ either. elim either [ inl inside ↦ inside | inr same ↦ subst (Contains xs) (sym same) known ]);
}

pub gains_push : (xs : List Id) (object : Id) → Gains xs (xs ++ object ∷ []) (λ gained. gained ≡ object)
gains_push xs object = record {
  more = object ∷ [];
  appended = refl;
  objects = λ other. (
    λ inside. elim (Contains-push_cases xs object other inside) [ inl before ↦ inl before | inr same ↦ inr (sym same) ],
    λ either. elim either [
      | inl before ↦ Contains-append_left xs (object ∷ []) other before
      | inr same ↦ subst (Contains (xs ++ object ∷ [])) (sym same) (Contains-push xs object)
    ],
  );
}

-- one gain after another
pub gains_more : (xs ys zs : List Id) {before here all : Id → Type 0} →
    ((object : Id) → all object ↔ (before object ⊎ here object)) →
    Gains xs ys before → Gains ys zs here → Gains xs zs all
gains_more xs ys zs {before} {here} {all} both first second = record {
  more = first.more ++ second.more;
  appended = second.appended ∙ ap (λ l. l ++ second.more) first.appended ∙ append_assoc xs first.more second.more;
  objects = λ object. (
    λ inside. elim ((second.objects object).0 inside) [
      | inl earlier ↦ elim ((first.objects object).0 earlier) [ inl old ↦ inl old | inr gained ↦ inr ((both object).1 (inl gained)) ]
      | inr gained ↦ inr ((both object).1 (inr gained))
    ],
    λ either. elim either [
      | inl old ↦ (second.objects object).1 (inl ((first.objects object).1 (inl old)))
      | inr gained ↦ elim ((both object).0 gained) [
        | inl earlier ↦ (second.objects object).1 (inl ((first.objects object).1 (inr earlier)))
        | inr here ↦ (second.objects object).1 (inr here)
      ]
    ],
  );
}

-- a loop has found some of what it adds
pub record IsGaining (old : List Id) (set : BTreeSet Id) (order : List Id) (gained : Id → Type 0) : Type 0 where
  pub tracked : IsTracked set order
  pub gains : Gains old order gained
