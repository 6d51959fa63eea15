-- A walk along the files of two sides, which finds beside each of theirs the one of mine with its identifier.
use Rattle.std.proofs.Common.{◌≡◌, ◌⊎◌, ◌<◌, ℕ, ◌+◌, List, [], ◌∷◌, ◌++◌, length, get_or, Contains, Option, Some, Bor, option_copied, refl, sym, ◌∙◌, subst, inl, inr, arith}
use Rattle.std.specs.declared.cmp.Ordering.TheVariants.{Less}
use Rattle.std.proofs.lemmas.List.{length_push}
use Rattle.std.proofs.lemmas.List.Elements.{All-push, Contains-append_left, Contains-push, Contains-push_cases, Contains-get_or}
use Rattle.std.proofs.lemmas.List.Quantifiers.{all_pairs_push}
use Rattle.ficus_ids.specs.Id.{id_cmp}
use Rattle.ficus_ids.specs.ListLaws.{not_inside_none}
use Rattle.ficus_ids.specs.RisingLaws.{one_held}
use Rattle.ficus_table.specs.SideBySide.{Sides, AreRising, Passes, ArePassed}
use Rattle.ficus_file.specs.Files.{id_of, IsRising, HoldsUnder}
use Rattle.ficus_file.specs.declared.file.FileReplica.{FileReplica}
use Rattle.ficus_merge_files.specs.News.{at_places, AreInside, AreNew, IsKnown, Notes}
use Rattle.ficus_merge_files.proofs.Places.{places_still, places_more}

-- of theirs that the walk has passed what stands at these places is new, and the next one has this place
pub record AreNewsSoFar (mine theirs : List FileReplica) (sides : Sides FileReplica) (places : List ℕ) (place : ℕ) :
    Type 0 where
  pub mine_is : sides.mine ≡ mine
  pub theirs_is : sides.theirs ≡ theirs
  pub rising : IsRising mine
  pub are_new : AreNew mine sides.theirs_passed (at_places sides.theirs_passed places)
  pub inside : AreInside sides.theirs_passed places
  pub next : place ≡ length sides.theirs_passed

pub nothing_so_far : (mine theirs : List FileReplica) (sides : Sides FileReplica) → sides.mine ≡ mine →
    sides.theirs ≡ theirs → sides.theirs_passed ≡ [] → AreRising id_of sides → AreNewsSoFar mine theirs sides [] 0
nothing_so_far mine theirs sides mine_is theirs_is none rising = record {
  mine_is = mine_is;
  theirs_is = theirs_is;
  rising = rw (← mine_is) rising.mine;
  are_new = rw none (record {
    rising = record { each = λ i j d before within. absurd (omega (arith, within)) };
    of_theirs = λ file inside. inside;
    not_of_mine = λ file inside. absurd (not_inside_none file inside);
    all = λ file inside. inl inside;
  });
  inside = λ k d within. absurd (omega (arith, within));
  next = rw none refl;
}

-- with one file more of theirs, which is above all others, the same is new where mine hold it as it is, and else the
-- same and it
module _ (mine passed news : List FileReplica) (their : FileReplica) (my : Option (Bor FileReplica))
    (rising : IsRising mine) (are : AreNew mine passed news) (is : HoldsUnder mine their.id (option_copied my))
    (above : (file : FileReplica) → Contains passed file → id_cmp file.id their.id ≡ Less) where
  -- what isn't earlier is this one
  by_place : (file : FileReplica) → Contains (passed ++ their ∷ []) file → Contains passed file ⊎ (file ≡ their)
  by_place file inside = elim (Contains-push_cases passed their file inside) [
    | inl early ↦ inl early
    | inr last ↦ inr (sym last)
  ]

  known_more : IsKnown my their → AreNew mine (passed ++ their ∷ []) news
  known_more known = record {
    rising = are.rising;
    of_theirs = λ file inside. Contains-append_left passed (their ∷ []) file (are.of_theirs file inside);
    not_of_mine = are.not_of_mine;
    all = λ file inside. elim (by_place file inside) [
      | inl early ↦ are.all file early
      | inr same ↦ inr (subst (Contains mine) (sym same) (subst (HoldsUnder mine their.id) known is).0)
    ];
  }

  new_more : (IsKnown my their → ⊥) → AreNew mine (passed ++ their ∷ []) (news ++ their ∷ [])
  new_more unknown = record {
    rising = record {
      each = all_pairs_push (λ (a b : FileReplica). id_cmp a.id b.id ≡ Less) news their are.rising.each
          (λ k d within. above (get_or news k d) (are.of_theirs (get_or news k d) (Contains-get_or news k d within)));
    };
    of_theirs = λ file inside. elim (Contains-push_cases news their file inside) [
      | inl early ↦ Contains-append_left passed (their ∷ []) file (are.of_theirs file early)
      | inr last ↦ subst (Contains (passed ++ their ∷ [])) last (Contains-push passed their)
    ];
    not_of_mine = λ file inside. elim (Contains-push_cases news their file inside) [
      | inl early ↦ are.not_of_mine file early
      | inr last ↦ λ is_mine. unknown (one_held id_of mine their.id (option_copied my) (Some their) rising is
          (subst (Contains mine) (sym last) is_mine, refl))
    ];
    all = λ file inside. elim (by_place file inside) [
      | inl early ↦ elim (are.all file early) [
        | inl is_new ↦ inl (Contains-append_left news (their ∷ []) file is_new)
        | inr is_mine ↦ inr is_mine
      ]
      | inr same ↦ inl (subst (Contains (news ++ their ∷ [])) (sym same) (Contains-push news their))
    ];
  }

-- the walk passes one file of theirs more
pub news_more : (mine theirs : List FileReplica) (old new : Sides FileReplica) (places more : List ℕ) (place : ℕ)
    (my : Option (Bor FileReplica)) (their : Bor FileReplica) → AreNewsSoFar mine theirs old places place →
    Passes id_of old new (option_copied my) (Some their.now) → Notes places more place my their.now →
    AreNewsSoFar mine theirs new more (place + 1)
news_more mine theirs old new places more place my their so_far passes notes = rw passes.is (record {
  mine_is = so_far.mine_is;
  theirs_is = so_far.theirs_is;
  rising = so_far.rising;
  are_new = elim notes [
    | inl known ↦ rw (known.1, places_still passed their.now places so_far.inside) (known_more mine passed
        (at_places passed places) their.now my so_far.rising so_far.are_new is above known.0)
    | inr unknown ↦ rw (unknown.1, so_far.next, places_more passed their.now places so_far.inside) (new_more mine passed
        (at_places passed places) their.now my so_far.rising so_far.are_new is above unknown.0)
  ];
  inside = elim notes [
    | inl known ↦ rw known.1 still
    | inr unknown ↦ rw unknown.1 (All-push (λ (n : ℕ). n < length (passed ++ their.now ∷ [])) places place still
        (omega (arith, so_far.next, grown)))
  ];
  next = omega (arith, so_far.next, grown);
})
  where
    passed : List FileReplica
    passed = old.theirs_passed

    grown : length (passed ++ their.now ∷ []) ≡ length passed + 1
    grown = length_push passed their.now

    still : AreInside (passed ++ their.now ∷ []) places
    still = λ k d within. omega (arith, so_far.inside k d within, grown)

    is : HoldsUnder mine their.now.id (option_copied my)
    is = subst (λ files. HoldsUnder files their.now.id (option_copied my)) so_far.mine_is
        (subst (λ id. HoldsUnder old.mine id (option_copied my)) (sym passes.theirs_holds.1) passes.mine_holds)

    above : (file : FileReplica) → Contains passed file → id_cmp file.id their.now.id ≡ Less
    above file inside =
        subst (λ id. id_cmp file.id id ≡ Less) (sym passes.theirs_holds.1) (passes.above_theirs file inside)

-- all of theirs were passed
pub all_new : (mine theirs : List FileReplica) (sides : Sides FileReplica) (places : List ℕ) (place : ℕ) →
    AreNewsSoFar mine theirs sides places place → ArePassed sides → AreNew mine theirs (at_places theirs places)
all_new mine theirs sides places place so_far passed =
    subst (λ l. AreNew mine l (at_places l places)) (passed.theirs ∙ so_far.theirs_is) so_far.are_new

pub all_inside : (mine theirs : List FileReplica) (sides : Sides FileReplica) (places : List ℕ) (place : ℕ) →
    AreNewsSoFar mine theirs sides places place → ArePassed sides → AreInside theirs places
all_inside mine theirs sides places place so_far passed =
    subst (λ l. AreInside l places) (passed.theirs ∙ so_far.theirs_is) so_far.inside
