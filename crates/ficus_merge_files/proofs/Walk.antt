-- One file after the other.
use Rattle.std.proofs.Common.{◌≡◌, ◌≢◌, ◌⊎◌, inl, inr, ℕ, ◌+◌, ◌<◌, List, [], ◌∷◌, ◌++◌, length, get_or, slice_get}
use Rattle.std.proofs.Common.{take, drop, Contains, Option, Some, None, Result, Ok, Err, arith, refl, sym, ap, ◌∙◌, subst}
use Rattle.std.specs.Prelude.{IfOk, IfSome, unwrap_or}
use Rattle.std.specs.Option.{option_or}
use Rattle.std.specs.declared.cmp.Ordering.TheVariants.{Less}
use Rattle.std.proofs.lemmas.List.{take-append-drop, get_or-take, length-take, append-nil}
use Rattle.std.proofs.lemmas.List.Elements.{Contains-append_left, Contains-append_right, Contains-push, Contains-push_cases, Contains-get_or}
use Rattle.std.proofs.lemmas.List.Quantifiers.{all_pairs_push}
use Rattle.std.proofs.lemmas.Option.{slice_get_within, get_or_from_slice_get}
use Rattle.ficus_ids.specs.declared.id.Id.{Id}
use Rattle.ficus_ids.specs.Id.{id_cmp}
use Rattle.ficus_ids.specs.IdLaws.{same_id_or_not, not_below_itself}
use Rattle.ficus_ids.specs.ListLaws.{here, not_inside_none}
use Rattle.ficus_ids.specs.Rising.{HoldsBy, HoldsUnderBy, ReplacesBy}
use Rattle.ficus_ids.specs.RisingLaws.{one_item, one_held, held_or_not}
use Rattle.ficus_table.specs.SideBySide.{as_list}
use Rattle.ficus_file.specs.declared.file.FileReplica.{FileReplica}
use Rattle.ficus_file.specs.Files.{id_of, IsRising, IsSoundFile, AreFiles}
use Rattle.ficus_mentions.proofs.Kept.{take_next}
use Rattle.ficus_merge_files.specs.Merge.{IsMergedFile, IsTaken, Merges, AreMergedFiles}
use Rattle.ficus_merge_files.specs.Replacements.{IsReplacement, AddsReplacement, AreReplacements}

inside_whole : {X : Type 0} (xs : List X) (k : ℕ) (x : X) → Contains (take k xs) x → Contains xs x
inside_whole xs k x inside =
    subst (λ l. Contains l x) (take-append-drop k xs) (Contains-append_left (take k xs) (drop k xs) x inside)

-- so many files of theirs were looked at
pub record AreReplacementsSoFar (held : List Id) (mine theirs replacements : List FileReplica) (k : ℕ) : Type 0 where
  pub replacements_are : AreReplacements held mine (take k theirs) replacements
  pub files : AreFiles replacements
  pub earlier : (file : FileReplica) → Contains replacements file → HoldsBy id_of (take k theirs) file.id

pub none_so_far : (held : List Id) (mine theirs : List FileReplica) → AreReplacementsSoFar held mine theirs [] 0
none_so_far held mine theirs = record {
  replacements_are = record { each = λ id m t c has_m has_t has_c. none id m t c has_t has_c };
  files = record {
    rising = record { each = λ i j d before within. absurd (omega (arith, within)) };
    each = λ file inside. absurd (not_inside_none file inside);
  };
  earlier = λ file inside. absurd (not_inside_none file inside);
}
  where
    none : (id : Id) (m t c : Option FileReplica) → HoldsUnderBy id_of [] id t → HoldsUnderBy id_of [] id c →
        Merges held m t (option_or c m)
    none id m (Some t) c has_t has_c = absurd (not_inside_none t has_t.0)
    none id m None (Some c) has_t has_c = absurd (not_inside_none c has_c.0)
    none id (Some m) None None has_t has_c = refl
    none id None None None has_t has_c = refl

-- one replacement more, or none, under an identifier that no other has
module _ (replacements : List FileReplica) (id : Id) where
  abbrev Fits : Option FileReplica → Type 0
  Fits replacement = (file : FileReplica) → replacement ≡ Some file → IsSoundFile file × (file.id ≡ id)

  there : (replacement c : Option FileReplica) → Fits replacement → (HoldsBy id_of replacements id → ⊥) →
      HoldsUnderBy id_of (replacements ++ as_list replacement) id c → c ≡ replacement
  there None None fits none has = refl
  there None (Some file) fits none has =
      absurd (none (record { item = file; inside = rw append-nil at has.0; has_id = has.1 }))
  there (Some item) None fits none has =
      absurd (has (record { item = item; inside = Contains-push replacements item; has_id = (fits item refl).1 }))
  there (Some item) (Some file) fits none has =
      elim (Contains-push_cases replacements item file has.0) [
        | inl early ↦ absurd (none (record { item = file; inside = early; has_id = has.1 }))
        | inr last ↦ ap Some (sym last)
      ]

  elsewhere : (replacement c : Option FileReplica) (other : Id) → Fits replacement → other ≢ id →
      HoldsUnderBy id_of (replacements ++ as_list replacement) other c → HoldsUnderBy id_of replacements other c
  elsewhere None c other fits differ has = rw append-nil at has
  elsewhere (Some item) None other fits differ has = λ held. has (record {
    item = held.item;
    inside = Contains-append_left replacements (item ∷ []) held.item held.inside;
    has_id = held.has_id;
  })
  elsewhere (Some item) (Some file) other fits differ has =
      elim (Contains-push_cases replacements item file has.0) [
        | inl early ↦ (early, has.1)
        | inr last ↦ absurd (differ (sym has.1 ∙ ap id_of (sym last) ∙ (fits item refl).1))
      ]

  files_more : (replacement : Option FileReplica) → Fits replacement → AreFiles replacements →
      ((file : FileReplica) → Contains replacements file → id_cmp file.id id ≡ Less) → AreFiles (replacements ++ as_list replacement)
  files_more None fits are above = rw append-nil are
  files_more (Some item) fits are above = record {
    rising = record {
      each = all_pairs_push (λ (a b : FileReplica). id_cmp a.id b.id ≡ Less) replacements item are.rising.each
          (λ k d within. rw (fits item refl).1 (above (get_or replacements k d) (Contains-get_or replacements k d within)));
    };
    each = λ file inside. elim (Contains-push_cases replacements item file inside) [
      | inl early ↦ are.each file early
      | inr last ↦ subst IsSoundFile last (fits item refl).0
    ];
  }

  from_there : (replacement : Option FileReplica) (file : FileReplica) → Fits replacement →
      Contains (replacements ++ as_list replacement) file → Contains replacements file ⊎ (file.id ≡ id)
  from_there None file fits inside = inl (rw append-nil at inside)
  from_there (Some item) file fits inside = elim (Contains-push_cases replacements item file inside) [
    | inl early ↦ inl early
    | inr last ↦ inr (ap id_of (sym last) ∙ (fits item refl).1)
  ]

module _ (held : List Id) (mine theirs : List FileReplica) (k : ℕ) (their : FileReplica) (rising_mine : IsRising mine)
    (rising : IsRising theirs) (at : slice_get theirs k ≡ Some their) where
  within : k < length theirs
  within = slice_get_within theirs k their at

  next : take (k + 1) theirs ≡ take k theirs ++ their ∷ []
  next = take_next theirs k their at

  inside : Contains theirs their
  inside = (k, within, get_or_from_slice_get theirs k their their at)

  now_inside : Contains (take (k + 1) theirs) their
  now_inside = rw next (Contains-append_right (take k theirs) (their ∷ []) their (here their []))

  -- what is before it is below it
  below : (id : Id) → HoldsBy id_of (take k theirs) id → id_cmp id their.id ≡ Less
  below id has =
      let j = has.inside.0 in
      let short : j < k = omega (arith, length-take k theirs, has.inside.1) in
      let is : (get_or theirs j has.item).id ≡ id =
      ap id_of (sym (get_or-take k theirs j has.item short) ∙ has.inside.2) ∙ has.has_id in
      let is_their : (get_or theirs k has.item).id ≡ their.id =
      ap id_of (get_or_from_slice_get theirs k their has.item at) in
      rw (is, is_their) at (rising.each j k has.item short within)

  not_before : HoldsBy id_of (take k theirs) their.id → ⊥
  not_before has = not_below_itself their.id (below their.id has)

  their_now : (t : Option FileReplica) → HoldsUnderBy id_of (take (k + 1) theirs) their.id t → t ≡ Some their
  their_now None none = absurd (none (record { item = their; inside = now_inside; has_id = refl }))
  their_now (Some t) held =
      ap Some (one_item id_of theirs t their rising (inside_whole theirs (k + 1) t held.0) inside held.1)

  later : (id : Id) → HoldsBy id_of (take k theirs) id → HoldsBy id_of (take (k + 1) theirs) id
  later id has = record {
    item = has.item;
    inside = rw next (Contains-append_left (take k theirs) (their ∷ []) has.item has.inside);
    has_id = has.has_id;
  }

  before : (id : Id) (t : Option FileReplica) → id ≢ their.id → HoldsUnderBy id_of (take (k + 1) theirs) id t →
      HoldsUnderBy id_of (take k theirs) id t
  before id None other none = λ held. none (later id held)
  before id (Some t) other held = elim (Contains-push_cases (take k theirs) their t (rw next at held.0)) [
    | inl early ↦ (early, held.1)
    | inr last ↦ absurd (other (sym held.1 ∙ ap id_of (sym last)))
  ]

  -- the next file of theirs is looked at
  pub replacements_more : (old new : List FileReplica) → AreReplacementsSoFar held mine theirs old k →
      AddsReplacement held mine their old new → AreReplacementsSoFar held mine theirs new (k + 1)
  replacements_more old new so_far adds = rw adds.is (record {
    replacements_are = record {
      each = λ id m t c has_m has_t has_c. elim (same_id_or_not id their.id) [
        | inl same ↦ here_is id m t c same has_m has_t has_c
        | inr other ↦ so_far.replacements_are.each id m t c has_m (before id t other has_t)
            (elsewhere old their.id adds.replacement c id adds.is_replacement.fits other has_c)
      ];
    };
    files = files_more old their.id adds.replacement adds.is_replacement.fits so_far.files
        (λ file inside. below file.id (so_far.earlier file inside));
    earlier = λ file inside. elim (from_there old their.id adds.replacement file adds.is_replacement.fits inside) [
      | inl early ↦ later file.id (so_far.earlier file early)
      | inr same ↦ record { item = their; inside = now_inside; has_id = sym same }
    ];
  })
    where
      none_there : HoldsBy id_of old their.id → ⊥
      none_there has =
          not_before (subst (HoldsBy id_of (take k theirs)) has.has_id (so_far.earlier has.item has.inside))

      here_is : (id : Id) (m t c : Option FileReplica) → id ≡ their.id → HoldsUnderBy id_of mine id m →
          HoldsUnderBy id_of (take (k + 1) theirs) id t → HoldsUnderBy id_of (old ++ as_list adds.replacement) id c →
          Merges held m t (option_or c m)
      here_is id m t c same has_m has_t has_c =
          let is_t : t ≡ Some their =
          their_now t (subst (λ i. HoldsUnderBy id_of (take (k + 1) theirs) i t) same has_t) in
          let is_c : c ≡ adds.replacement =
          there old their.id adds.replacement c adds.is_replacement.fits none_there
          (subst (λ i. HoldsUnderBy id_of (old ++ as_list adds.replacement) i c) same has_c) in
          rw (is_t, is_c) (adds.is_replacement.merges m (subst (λ i. HoldsUnderBy id_of mine i m) same has_m))

-- with the replacements in place of what mine hold the two are merged
pub merged_by_replacements : (held : List Id) (mine theirs replacements both : List FileReplica) →
    AreReplacements held mine theirs replacements → ReplacesBy id_of mine replacements both → AreMergedFiles held mine theirs both
merged_by_replacements held mine theirs replacements both are replaces = record {
  each = λ id m t b has_m has_t has_b.
      let replacement = held_or_not id_of replacements id in
      let is : b ≡ option_or replacement.0 m = replaces.each id m replacement.0 b has_m replacement.1 has_b in
      rw is (are.each id m t replacement.0 has_m has_t replacement.1);
}

-- what becomes of a file of both, and of one of theirs alone
module _ (held : List Id) (mine : List FileReplica) (their : FileReplica) where
  pub replacement_of_both : {E : Type 0} (my : FileReplica) (r : Result (Option FileReplica) E) → IsRising mine →
      HoldsUnderBy id_of mine their.id (Some my) → IfOk r (λ replacement. IsMergedFile my their (unwrap_or replacement my)) →
      IfOk r (λ replacement. IfSome replacement IsSoundFile) → IfOk r (IsReplacement held mine their)
  replacement_of_both my (Err fault) rising has merged fits = tt
  replacement_of_both my (Ok None) rising has merged fits = record {
    merges = λ m has_m. rw (one_held id_of mine their.id m (Some my) rising has_m has) merged;
    fits = λ file is. cc is;
  }
  replacement_of_both my (Ok (Some both)) rising has merged fits = record {
    merges = λ m has_m. rw (one_held id_of mine their.id m (Some my) rising has_m has) merged;
    fits = λ file is.
        let same : both ≡ file = cc is in (subst IsSoundFile same fits, ap id_of (sym same) ∙ merged.id ∙ has.1);
  }

  of_theirs_alone : (replacement : Option FileReplica) → HoldsUnderBy id_of mine their.id None →
      IsTaken held their replacement → ((file : FileReplica) → replacement ≡ Some file → IsSoundFile file × (file.id ≡ their.id)) →
      IsReplacement held mine their replacement
  of_theirs_alone replacement none taken fits = record { merges = merges replacement taken; fits = fits }
    where
      merges : (replacement : Option FileReplica) → IsTaken held their replacement → (m : Option FileReplica) →
          HoldsUnderBy id_of mine their.id m → Merges held m (Some their) (option_or replacement m)
      merges replacement taken (Some my) has = absurd (none (record { item = my; inside = has.0; has_id = has.1 }))
      merges None taken None has = taken
      merges (Some file) taken None has = taken

  pub replacement_of_theirs : {E : Type 0} (r : Result (Option FileReplica) E) → IsSoundFile their →
      HoldsUnderBy id_of mine their.id None → IfOk r (IsTaken held their) →
      IfOk r (λ taken. (file : _) → taken ≡ Some file → file ≡ their) → IfOk r (IsReplacement held mine their)
  replacement_of_theirs (Err fault) sound none taken of_theirs = tt
  replacement_of_theirs (Ok replacement) sound none taken of_theirs =
      of_theirs_alone replacement none taken (λ file is.
      subst (λ (f : FileReplica). IsSoundFile f × (f.id ≡ their.id)) (sym (of_theirs file is)) (sound, refl))
