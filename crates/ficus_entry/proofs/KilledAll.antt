-- Removals, one after the other.
use Rattle.std.proofs.Common.{◌≡◌, ◌≢◌, ℕ, ◌<◌, List, [], ◌∷◌, ◌++◌, length, get_or, take, ◌∙◌, refl, sym, ap, subst, arith, inl, inr}
use Rattle.std.specs.Prelude.{Contains}
use Rattle.std.specs.declared.cmp.Ordering.TheVariants.{Less}
use Rattle.std.proofs.lemmas.List.{length-take, get_or-take, get_or_default}
use Rattle.ficus_ids.specs.Id.{id_cmp}
use Rattle.std.proofs.lemmas.List.Elements.{Contains-append_left, Contains-push, Contains-push_cases}
use Rattle.ficus_ids.specs.IdLaws.{not_below_itself, same_id_or_not}
use Rattle.ficus_ids.specs.ListLaws.{not_inside_none}
use Rattle.ficus_ids.specs.Rising.{IsRisingBy}
use Rattle.ficus_ids.specs.RisingLaws.{one_item}
use Rattle.ficus_ids.specs.declared.id.Id.{Id}
use Rattle.ficus_entry.specs.declared.entry.Entry.{Entry}
use Rattle.ficus_entry.specs.declared.entry.State.TheVariants.{Dead}
use Rattle.ficus_entry.specs.Entry.{IsRising}
use Rattle.ficus_entry.specs.Kill.{HoldsLive, IsKilled, IsLeftAs, HasLeft, AreKilled}

module _ (by : ℕ) where
  pub killed_none : (entries : List Entry) → AreKilled entries entries [] by
  killed_none entries = record {
    from = λ entry inside. record { entry = entry; inside = inside; is = unchanged entry };
    all = λ entry inside. record { after = entry; inside = inside; is = unchanged entry };
  }
    where
      unchanged : (entry : Entry) → IsLeftAs [] by entry entry
      unchanged entry =
          record { same = refl; removed = λ none. absurd (not_inside_none entry.id none); left = λ _. refl }

  module _ (old now new : List Entry) (ids : List Id) (id : Id) (rising : IsRising now)
      (before : AreKilled old now ids by) (next : IsKilled now new id by) where
    abbrev dead : Entry
    dead = record next.entry { state = Dead next.one next.two }

    id_of_left : (ids_then : List Id) (entry after : Entry) → IsLeftAs ids_then by entry after → after.id ≡ entry.id
    id_of_left ids_then entry after is = ap (λ (e : Entry). e.id) is.same

    -- an entry that had another identifier stays as it is
    stays : (entry after : Entry) → IsLeftAs ids by entry after → entry.id ≢ id → IsLeftAs (ids ++ id ∷ []) by entry after
    stays entry after is differs = record {
      same = is.same;
      removed = λ inside. elim (Contains-push_cases ids id entry.id inside) [
        | inl earlier ↦ is.removed earlier
        | inr last ↦ absurd (differs (sym last))
      ];
      left = λ outside. is.left (λ earlier. outside (Contains-append_left ids (id ∷ []) entry.id earlier));
    }

    -- and the one that had it is dead
    dies : (entry after : Entry) → IsLeftAs ids by entry after → after ≡ next.entry →
        IsLeftAs (ids ++ id ∷ []) by entry dead
    dies entry after is one = record {
      same = ap (λ (e : Entry). let made : Entry = record e { state = dead.state } in made) (sym one ∙ is.same);
      removed = λ _. (next.only, next.none);
      left = λ outside. absurd (outside (subst (Contains (ids ++ id ∷ []))
          (sym next.has_id ∙ ap (λ (e : Entry). e.id) (sym one ∙ is.same)) (Contains-push ids id)));
    }

    pub killed_more : AreKilled old new (ids ++ id ∷ []) by
    killed_more = record {
      from = λ after inside. elim ((next.puts after).0 inside) [
        | inl (was_inside, differs) ↦
            let was = before.from after was_inside in
            record {
              entry = was.entry;
              inside = was.inside;
              is = stays was.entry after was.is
                  (λ same. differs (id_of_left ids was.entry after was.is ∙ same ∙ sym next.has_id));
            }
        | inr is ↦
            let was = before.from next.entry next.inside in
            record {
              entry = was.entry;
              inside = was.inside;
              is = subst (IsLeftAs (ids ++ id ∷ []) by was.entry) (sym is) (dies was.entry next.entry was.is refl);
            }
      ];
      all = λ entry inside. all_of entry (before.all entry inside);
    }
      where
        all_of : (entry : Entry) → HasLeft now ids by entry → HasLeft new (ids ++ id ∷ []) by entry
        all_of entry found = elim (same_id_or_not entry.id id) [
          | inr differs ↦ record {
            after = found.after;
            inside = (next.puts found.after).1 (inl (
              found.inside,
              λ same. differs (sym (id_of_left ids entry found.after found.is) ∙ same ∙ next.has_id),
            ));
            is = stays entry found.after found.is differs;
          }
          | inl same ↦ record {
            after = dead;
            inside = (next.puts dead).1 (inr refl);
            is = dies entry found.after found.is (one_item (λ e. e.id) now found.after next.entry rising found.inside next.inside
                (id_of_left ids entry found.after found.is ∙ same ∙ sym next.has_id));
          }
        ]

-- the identifiers before a place of a rising list have not the one at it
pub not_earlier : (ids : List Id) (index : ℕ) (d : Id) → IsRisingBy (λ (i : Id). i) ids → index < length ids →
    Contains (take index ids) (get_or ids index d) → ⊥
not_earlier ids index d rising within (place, inside, is) =
    let id : Id = get_or ids index d in
    let before : place < index = omega (arith, inside, length-take index ids) in
    let there : get_or ids place d ≡ id =
    get_or_default ids place d id (omega arith) ∙ sym (get_or-take index ids place id before) ∙ is in
    not_below_itself id (subst (λ (other : Id). id_cmp other id ≡ Less) there (rising.each place index d before within))

-- what was live and isn't killed yet is live
pub live_yet : (by : ℕ) (old now : List Entry) (ids : List Id) (id : Id) → AreKilled old now ids by →
    (Contains ids id → ⊥) → HoldsLive old id → HoldsLive now id
live_yet by old now ids id killed outside live =
    let found = killed.all live.entry live.inside in
    record {
      entry = found.after;
      inside = found.inside;
      has_id = ap (λ (e : Entry). e.id) found.is.same ∙ live.has_id;
      live = found.is.left (λ inside. outside (subst (Contains ids) live.has_id inside)) ∙ live.live;
    }
