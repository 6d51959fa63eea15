-- What a rule makes of two lists, as far as a walk along them has come.
use Rattle.std.proofs.Common.{◌≡◌, ◌≢◌, ◌⊎◌, ◌<◌, List, [], ◌∷◌, ◌++◌, Option, Some, None, Contains, Less, sym, subst, ◌∙◌, ap, inl, inr, refl, arith}
use Rattle.std.proofs.lemmas.List.{append-nil}
use Rattle.std.proofs.lemmas.List.Elements.{Contains-append_left, Contains-push}
use Rattle.ficus_ids.specs.declared.id.Id.{Id}
use Rattle.ficus_ids.specs.Id.{id_cmp}
use Rattle.ficus_ids.specs.IdLaws.{not_below_itself, same_id_or_not}
use Rattle.ficus_ids.specs.ListLaws.{not_inside_none}
use Rattle.ficus_ids.specs.Rising.{IsRisingBy, HoldsBy, HoldsUnderBy}
use Rattle.ficus_ids.specs.RisingLaws.{one_held}
use Rattle.ficus_table.specs.Made.{IsMadeBy, HasId}
use Rattle.ficus_table.specs.SideBySide.{Sides, AreRising, as_list, left, Passes, ArePassed}
use Rattle.ficus_table.proofs.Grown.{IsGrown, grows, before_push}

module _ {S : Type 0} (id_of : S → Id) where
  -- the walk has passed an item with the identifier
  abbrev pub IsPassed : Sides S → Id → Type 0
  IsPassed sides id = HoldsBy id_of sides.mine_passed id ⊎ HoldsBy id_of sides.theirs_passed id

  has_held : (items : List S) (id : Id) (item : Option S) → HoldsUnderBy id_of items id item → HasId id_of id item
  has_held items id None held = tt
  has_held items id (Some item) held = held.1

  before_more : (items : List S) (more : Option S) (id other : Id) → HasId id_of id more → other ≢ id →
      HoldsBy id_of (items ++ as_list more) other → HoldsBy id_of items other
  before_more items None id other has differs held = subst (λ l. HoldsBy id_of l other) (append-nil items) held
  before_more items (Some item) id other has differs held =
      let was = before_push id_of items item other (λ is. differs (is ∙ has)) (Some held.item)
      (held.inside, held.has_id) in
      record { item = held.item; inside = was.0; has_id = was.1 }

  after_more : (items : List S) (more : Option S) (other : Id) → HoldsBy id_of items other →
      HoldsBy id_of (items ++ as_list more) other
  after_more items more other held = record {
    item = held.item;
    inside = Contains-append_left items (as_list more) held.item held.inside;
    has_id = held.has_id;
  }

  with_last : (items : List S) (item : S) (id : Id) → id_of item ≡ id → HoldsBy id_of (items ++ item ∷ []) id
  with_last items item id has = record { item = item; inside = Contains-push items item; has_id = has }

  module _ (old new : Sides S) (at_mine at_theirs : Option S) (p : Passes id_of old new at_mine at_theirs) where
    one_passed : (mine theirs : Option S) → HasId id_of p.id mine → HasId id_of p.id theirs →
        left (record old {
          mine_passed = old.mine_passed ++ as_list mine;
          theirs_passed = old.theirs_passed ++ as_list theirs;
        }) < left old → HoldsBy id_of (old.mine_passed ++ as_list mine) p.id ⊎
        HoldsBy id_of (old.theirs_passed ++ as_list theirs) p.id
    one_passed (Some mine) theirs mine_has theirs_has fewer = inl (with_last old.mine_passed mine p.id mine_has)
    one_passed None (Some theirs) mine_has theirs_has fewer = inr (with_last old.theirs_passed theirs p.id theirs_has)
    one_passed None None mine_has theirs_has fewer =
        absurd (let same = rw (append-nil old.mine_passed, append-nil old.theirs_passed) at fewer in
        omega (arith, same))

    now_passed : IsPassed new p.id
    now_passed =
        rw p.is (one_passed at_mine at_theirs (has_held old.mine p.id at_mine p.mine_holds)
        (has_held old.theirs p.id at_theirs p.theirs_holds)
        (subst (λ (s : Sides S). left s < left old) p.is p.fewer))

    passed_before : (id : Id) → id ≢ p.id → IsPassed new id → IsPassed old id
    passed_before id differs passed =
        by (subst (λ (s : Sides S). IsPassed s id) p.is passed)
      where
        by : HoldsBy id_of (old.mine_passed ++ as_list at_mine) id ⊎
            HoldsBy id_of (old.theirs_passed ++ as_list at_theirs) id → IsPassed old id
        by (inl held) = inl (before_more old.mine_passed at_mine p.id id
            (has_held old.mine p.id at_mine p.mine_holds) differs held)
        by (inr held) = inr (before_more old.theirs_passed at_theirs p.id id
            (has_held old.theirs p.id at_theirs p.theirs_holds) differs held)

    passed_after : (id : Id) → IsPassed old id → IsPassed new id
    passed_after id passed = rw p.is (by passed)
      where
        by : IsPassed old id → HoldsBy id_of (old.mine_passed ++ as_list at_mine) id ⊎
            HoldsBy id_of (old.theirs_passed ++ as_list at_theirs) id
        by (inl held) = inl (after_more old.mine_passed at_mine id held)
        by (inr held) = inr (after_more old.theirs_passed at_theirs id held)

    lower : (id : Id) → IsPassed old id → id_cmp id p.id ≡ Less
    lower id (inl held) = subst (λ (i : Id). id_cmp i p.id ≡ Less) held.has_id (p.above_mine held.item held.inside)
    lower id (inr held) = subst (λ (i : Id). id_cmp i p.id ≡ Less) held.has_id (p.above_theirs held.item held.inside)

  module _ (makes : Option S → Option S → Option S → Type 0) where
    -- the rule's answer stands under each identifier that was passed, and nothing under others
    pub record IsMadeSoFar (sides : Sides S) (made : List S) : Type 0 where
      pub each : (id : Id) (x y z : Option S) → IsPassed sides id → HoldsUnderBy id_of sides.mine id x →
          HoldsUnderBy id_of sides.theirs id y → HoldsUnderBy id_of made id z → makes x y z
      pub passed_alone : (id : Id) → HoldsBy id_of made id → IsPassed sides id
      pub sides_rise : AreRising id_of sides
      pub rising : IsRisingBy id_of made

    pub made_start : (sides : Sides S) → AreRising id_of sides → sides.mine_passed ≡ [] → sides.theirs_passed ≡ [] →
        IsMadeSoFar sides []
    made_start sides rise none_mine none_theirs = record {
      each = λ id x y z passed. absurd (none_passed id passed);
      passed_alone = λ id held. absurd (not_inside_none held.item held.inside);
      sides_rise = rise;
      rising = record { each = λ i j d before within. absurd (omega arith) };
    }
      where
        none_passed : (id : Id) → IsPassed sides id → ⊥
        none_passed id (inl held) = not_inside_none held.item (subst (λ l. Contains l held.item) none_mine held.inside)
        none_passed id (inr held) =
            not_inside_none held.item (subst (λ l. Contains l held.item) none_theirs held.inside)

    module _ (old new : Sides S) (at_mine at_theirs after : Option S) (made : List S)
        (p : Passes id_of old new at_mine at_theirs) (so_far : IsMadeSoFar old made)
        (is : makes at_mine at_theirs after)
        (keeps : (id : Id) → HasId id_of id at_mine → HasId id_of id at_theirs → HasId id_of id after) where
      made_lower : (x : S) → Contains made x → id_cmp (id_of x) p.id ≡ Less
      made_lower x inside =
          lower old new at_mine at_theirs p (id_of x)
          (so_far.passed_alone (id_of x) (record { item = x; inside = inside; has_id = refl }))

      not_made_yet : HoldsBy id_of made p.id → ⊥
      not_made_yet held =
          not_below_itself p.id (lower old new at_mine at_theirs p p.id (so_far.passed_alone p.id held))

      grown : IsGrown id_of made p.id after
      grown =
          grows id_of made p.id so_far.rising made_lower not_made_yet after
          (keeps p.id (has_held old.mine p.id at_mine p.mine_holds) (has_held old.theirs p.id at_theirs p.theirs_holds))

      each_more : (id : Id) (x y z : Option S) → IsPassed new id → HoldsUnderBy id_of old.mine id x →
          HoldsUnderBy id_of old.theirs id y → HoldsUnderBy id_of (made ++ as_list after) id z → makes x y z
      each_more id x y z passed held_x held_y held_z =
          elim (same_id_or_not id p.id) [
            | inl same ↦
                let x_is : x ≡ at_mine =
                one_held id_of old.mine p.id x at_mine so_far.sides_rise.mine
                (subst (λ k. HoldsUnderBy id_of old.mine k x) same held_x) p.mine_holds in
                let y_is : y ≡ at_theirs =
                one_held id_of old.theirs p.id y at_theirs so_far.sides_rise.theirs
                (subst (λ k. HoldsUnderBy id_of old.theirs k y) same held_y) p.theirs_holds in
                let z_is : z ≡ after =
                grown.under z (subst (λ k. HoldsUnderBy id_of (made ++ as_list after) k z) same held_z) in
                rw (x_is, y_is, z_is) is
            | inr differs ↦ so_far.each id x y z (passed_before old new at_mine at_theirs p id differs passed) held_x
                held_y (grown.others id differs z held_z)
          ]

      alone_more : (id : Id) → HoldsBy id_of (made ++ as_list after) id → IsPassed new id
      alone_more id held =
          elim (same_id_or_not id p.id) [
            | inl same ↦ subst (IsPassed new) (sym same) (now_passed old new at_mine at_theirs p)
            | inr differs ↦
                let was = grown.others id differs (Some held.item) (held.inside, held.has_id) in
                passed_after old new at_mine at_theirs p id
                (so_far.passed_alone id (record { item = held.item; inside = was.0; has_id = was.1 }))
          ]

      same_mine : new.mine ≡ old.mine
      same_mine = ap (λ (s : Sides S). s.mine) p.is

      same_theirs : new.theirs ≡ old.theirs
      same_theirs = ap (λ (s : Sides S). s.theirs) p.is

      -- the walk has come on
      pub made_more : IsMadeSoFar new (made ++ as_list after)
      made_more = record {
        each = λ id x y z passed held_x held_y held_z. each_more id x y z passed
            (subst (λ l. HoldsUnderBy id_of l id x) same_mine held_x)
            (subst (λ l. HoldsUnderBy id_of l id y) same_theirs held_y) held_z;
        passed_alone = alone_more;
        sides_rise = record {
          mine = subst (IsRisingBy id_of) (sym same_mine) so_far.sides_rise.mine;
          theirs = subst (IsRisingBy id_of) (sym same_theirs) so_far.sides_rise.theirs;
        };
        rising = grown.rising;
      }

    -- where the rule makes nothing of nothing, all is made once all is passed
    pub made_end : (sides : Sides S) (made : List S) → IsMadeSoFar sides made → ArePassed sides → makes None None None →
        IsMadeBy id_of makes sides.mine sides.theirs made
    made_end sides made so_far passed nothing = record { each = all }
      where
        of_mine : (id : Id) → HoldsBy id_of sides.mine id → IsPassed sides id
        of_mine id held = inl (subst (λ l. HoldsBy id_of l id) (sym passed.mine) held)

        of_theirs : (id : Id) → HoldsBy id_of sides.theirs id → IsPassed sides id
        of_theirs id held = inr (subst (λ l. HoldsBy id_of l id) (sym passed.theirs) held)

        not_passed : (id : Id) → (HoldsBy id_of sides.mine id → ⊥) → (HoldsBy id_of sides.theirs id → ⊥) →
            IsPassed sides id → ⊥
        not_passed id not_mine not_theirs (inl held) = not_mine (subst (λ l. HoldsBy id_of l id) passed.mine held)
        not_passed id not_mine not_theirs (inr held) = not_theirs (subst (λ l. HoldsBy id_of l id) passed.theirs held)

        all : (id : Id) (x y z : Option S) → HoldsUnderBy id_of sides.mine id x → HoldsUnderBy id_of sides.theirs id y →
            HoldsUnderBy id_of made id z → makes x y z
        all id (Some x) y z held_x held_y held_z =
            so_far.each id (Some x) y z (of_mine id (record { item = x; inside = held_x.0; has_id = held_x.1 })) held_x
            held_y held_z
        all id None (Some y) z held_x held_y held_z =
            so_far.each id None (Some y) z (of_theirs id (record { item = y; inside = held_y.0; has_id = held_y.1 }))
            held_x held_y held_z
        all id None None None held_x held_y held_z = nothing
        all id None None (Some z) held_x held_y held_z =
            absurd (not_passed id held_x held_y
            (so_far.passed_alone id (record { item = z; inside = held_z.0; has_id = held_z.1 })))
