-- What a collection gives up.
use Rattle.std.proofs.Common.{◌≡◌, ◌⊎◌, ◌↔◌, ℕ, List, [], ◌∷◌, ◌++◌, length, inl, inr, refl, subst, sym, ap, ◌∙◌}
use Rattle.std.specs.Prelude.{Contains}
use Rattle.ficus_ids.specs.ListLaws.{here}
use Rattle.ficus_ids.specs.Members.{IsMember}
use Rattle.ficus_ids.specs.declared.id.Id.{Id}
use Rattle.ficus_ids.specs.declared.kind.Kind.{Kind}
use Rattle.ficus_model.specs.declared.event.Event.{Event}
use Rattle.ficus_model.specs.declared.event.Event.TheVariants.{Collect}
use Rattle.ficus_model.specs.Held.{IsDone, IsDropped, IsHeldObject}
use Rattle.ficus_model.specs.Knowledge.{IsInTwo}
use Rattle.ficus_model.specs.Known.{Knows}
use Rattle.ficus_model.specs.View.{IsOrphan}
use Rattle.ficus_laws.specs.Updates.{SameUpdates}
use Rattle.ficus_laws.proofs.OneMore.{same_quiet}
use Rattle.ficus_laws.proofs.Shown.{entered_within, made_within}
use Rattle.ficus_laws.proofs.Views.{kept_known, orphan_within, same_turned}
use Rattle.ficus_removal_laws.specs.Marks.{IsTwoFull}
use Rattle.ficus_removal_laws.proofs.Dropping.{dropped_cases, dropped_more, dropped_now}
use Rattle.ficus_final_laws.specs.Laws.{IsGivenUp}
use Rattle.ficus_final_laws.proofs.Collecting.{done_cases}
use Rattle.ficus_view_laws.specs.Laws.{IsNeeded}
use Rattle.ficus_view_laws.proofs.Collecting.{entry_stays, left_needed, object_stays}
use Rattle.ficus_view_laws.proofs.Knowledge.{two_decided}
use Rattle.ficus_view_laws.proofs.Objects.{unless_refuted}
use Rattle.ficus_view_laws.proofs.Positions.{all_members}
use Rattle.ficus_replica.specs.Collect.{AreSoMany, Garbage, IsEntryGivenUp, IsGarbage, IsObjectGivenUp}
use Rattle.ficus_standing_laws.specs.Laws.{IsFullyRemoved, IsLeftBehind}

none_listed : {IsSuch : Id → Type 0} {count : ℕ} → ((id : Id) → IsSuch id → ⊥) → AreSoMany IsSuch count → count ≡ 0
none_listed {IsSuch} {count} none many = go many.ids refl
  where
    go : (ids : List Id) → many.ids ≡ ids → count ≡ 0
    go [] is = sym many.counted ∙ ap length is
    go (id ∷ ids) is = absurd (none id ((many.exactly id).0 (subst (λ list. Contains list id) (sym is) (here id ids))))

module _ (members : ℕ) (H : List Event) (replica : ℕ) where
  abbrev collected : List Event
  collected = H ++ Collect replica ∷ []

  same : SameUpdates H (Knows H replica) collected (Knows collected replica)
  same = same_quiet H (Collect replica) replica tt

  now_full : (id : Id) → IsDropped members collected replica id → (IsDropped members H replica id → ⊥) →
      IsTwoFull members H replica id
  now_full id dropped held = go (dropped_cases (Collect replica) dropped)
    where
      go : IsDropped members H replica id ⊎ ((Collect replica ≡ Collect replica) × IsTwoFull members H replica id) →
          IsTwoFull members H replica id
      go (inl was) = absurd (held was)
      go (inr (is, full)) = full

  pub entry_given_up : (id : Id) → IsEntryGivenUp members H replica id ↔ IsFullyRemoved members H replica id
  entry_given_up id = (
    λ given_up. record {
      entry = given_up.entry;
      has_id = given_up.has_id;
      held = given_up.held;
      full = unless_refuted
          (all_members members (λ member. IsInTwo members H replica member id)
          (λ member. two_decided members H replica member id))
          (λ not. given_up.dropped (record {
            entered = entered_within same.there given_up.held.entered;
            held = λ dropped. not (subst (IsTwoFull members H replica) given_up.has_id
                (now_full given_up.entry.id dropped given_up.held.held));
          }));
    },
    λ removed. record {
      entry = removed.entry;
      has_id = removed.has_id;
      held = removed.held;
      dropped = λ held. held.held (dropped_now (Collect replica) refl
          (subst (IsTwoFull members H replica) (sym removed.has_id) removed.full));
    },
  )

  -- an object that is an orphan or needed isn't given up
  stays : (object : Id) (kind : Kind) → IsHeldObject members H replica object kind →
      (IsGivenUp members H replica object → ⊥) → IsHeldObject members collected replica object kind
  stays object kind held not = record {
    made = made_within same.there held.made;
    held = λ position done. go (done_cases members H replica object (Collect replica) done);
  }
    where
      go : {position : ℕ} → IsDone members H replica object position ⊎
          ((position ≡ length H) × (Collect replica ≡ Collect replica) × IsGivenUp members H replica object) → ⊥
      go {position} (inl was) = held.held position was
      go (inr (end, is, given_up)) = not given_up

  dropped_then : (id : Id) → IsDropped members H replica id ⊎ IsTwoFull members H replica id →
      IsDropped members collected replica id
  dropped_then id (inl was) = dropped_more (Collect replica ∷ []) was
  dropped_then id (inr full) = dropped_now (Collect replica) refl full

  pub object_given_up : (object : Id) → IsObjectGivenUp members H replica object ↔ IsLeftBehind members H replica object
  object_given_up object = (
    λ given_up. record {
      kind = given_up.kind;
      held = given_up.held;
      no_orphan = λ orphan.
          given_up.done (stays object given_up.kind given_up.held (λ gone. gone.no_orphan orphan));
      unneeded = λ needed. given_up.done (stays object given_up.kind given_up.held (λ gone.
          needed.held.held (dropped_then needed.entry.id
          (gone.dropped needed.entry (entered_within same.back needed.held.entered) needed.touches))));
    },
    λ left. record {
      kind = left.kind;
      held = left.held;
      done = λ held. go left (left_needed members H replica object left.kind held);
    },
  )
    where
      go : IsLeftBehind members H replica object →
          IsOrphan collected (Knows collected replica) object ⊎ IsNeeded members collected replica object → ⊥
      go left (inl orphan) =
          left.no_orphan (orphan_within (same_turned (kept_known H (Collect replica) replica (inr tt))) orphan)
      go left (inr needed) = left.unneeded needed

pub second_gives_nothing : (members : ℕ) (H : List Event) (replica : ℕ) (garbage : Garbage) → IsMember members replica →
    IsGarbage members (H ++ Collect replica ∷ []) replica garbage → garbage ≡ record { entries = 0; objects = 0 }
second_gives_nothing members H replica garbage is_member are =
    let entries = none_listed
    (λ id given_up. given_up.dropped (entry_stays members H replica is_member given_up.entry given_up.held))
    are.entries in
    let objects = none_listed
    (λ id given_up. given_up.done (object_stays members H replica is_member id given_up.kind given_up.held))
    are.objects in
    λ i. record { entries = entries i; objects = objects i }
