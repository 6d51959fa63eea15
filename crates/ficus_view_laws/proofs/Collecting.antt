-- What is left after a collection, and that a second one straight behind it leaves all of that.
use Rattle.std.proofs.Common.{◌≡◌, ◌⊎◌, ℕ, List, [], ◌∷◌, ◌++◌, length, refl, inl, inr}
use Rattle.ficus_ids.specs.Members.{IsMember}
use Rattle.ficus_ids.specs.declared.id.Id.{Id}
use Rattle.ficus_ids.specs.declared.kind.Kind.{Kind}
use Rattle.ficus_model.specs.declared.event.Event.{Event}
use Rattle.ficus_model.specs.declared.event.Event.TheVariants.{Collect}
use Rattle.ficus_model.specs.Held.{IsDone, IsDropped, IsHeldEntry, IsHeldObject, Touches}
use Rattle.ficus_model.specs.Known.{Knows}
use Rattle.ficus_model.specs.Live.{ModelEntry, IsEntered, IsMade}
use Rattle.ficus_model.specs.View.{IsOrphan}
use Rattle.ficus_laws.specs.Updates.{SameUpdates}
use Rattle.ficus_laws.proofs.Deciding.{Decided, both_decided, knows_decided, not_decided}
use Rattle.ficus_laws.proofs.OneMore.{same_quiet}
use Rattle.ficus_laws.proofs.Shown.{entered_within, made_within}
use Rattle.ficus_laws.proofs.Views.{KnowsSame, kept_known, orphan_within}
use Rattle.ficus_removal_laws.specs.Marks.{IsTwoFull}
use Rattle.ficus_removal_laws.proofs.Dropping.{dropped_cases, dropped_now}
use Rattle.ficus_removal_laws.proofs.Marking.{marks_kept}
use Rattle.ficus_final_laws.specs.Laws.{IsGivenUp}
use Rattle.ficus_final_laws.proofs.Collecting.{done_cases, done_now}
use Rattle.ficus_view_laws.specs.Laws.{IsNeeded}
use Rattle.ficus_view_laws.proofs.Entries.{HasEntered, some_entered}
use Rattle.ficus_view_laws.proofs.Knowledge.{dropped_decided}
use Rattle.ficus_view_laws.proofs.Objects.{orphan_decided, touches_decided, unless_refuted}

-- after a collection of the replica
module _ (members : ℕ) (H : List Event) (replica : ℕ) where
  abbrev collected : List Event
  collected = H ++ Collect replica ∷ []

  same : SameUpdates H (Knows H replica) collected (Knows collected replica)
  same = same_quiet H (Collect replica) replica tt

  same_known : KnowsSame H (Knows H replica) collected (Knows collected replica)
  same_known = kept_known H (Collect replica) replica (inr tt)

  full_before : (id : Id) → IsMember members replica → IsTwoFull members collected replica id →
      IsTwoFull members H replica id
  full_before id is_member full = λ member m.
      ((marks_kept members H (Collect replica) replica id is_member (inr tt)).two member).1 (full member m)

  dropped_before : (id : Id) → IsDropped members collected replica id →
      IsDropped members H replica id ⊎ IsTwoFull members H replica id
  dropped_before id dropped = go (dropped_cases (Collect replica) dropped)
    where
      go : IsDropped members H replica id ⊎ ((Collect replica ≡ Collect replica) × IsTwoFull members H replica id) →
          IsDropped members H replica id ⊎ IsTwoFull members H replica id
      go (inl was) = inl was
      go (inr (is, full)) = inr full

  -- what is known fully isn't held
  pub none_full : (entry : ModelEntry) → IsMember members replica → IsHeldEntry members collected replica entry →
      IsTwoFull members collected replica entry.id → ⊥
  none_full entry is_member held full =
      held.held (dropped_now (Collect replica) refl (full_before entry.id is_member full))

  -- an object that is held isn't given up
  not_given_up : (object : Id) (kind : Kind) → IsHeldObject members collected replica object kind →
      IsGivenUp members H replica object → ⊥
  not_given_up object kind held given_up =
      held.held (length H) (done_now members H replica object (Collect replica) refl given_up)

  -- what isn't needed is given up
  unneeded : (object : Id) (kind : Kind) → IsMade collected (Knows collected replica) object kind →
      (IsOrphan collected (Knows collected replica) object → ⊥) →
      ((entry : ModelEntry) → IsEntered collected (Knows collected replica) entry → Touches entry object →
      IsDropped members collected replica entry.id ⊎ IsTwoFull members H replica entry.id) →
      IsGivenUp members H replica object
  unneeded object kind made no_orphan dropped = record {
    kind = kind;
    made = made_within same.back made;
    dropped = λ entry entered touches. either entry (dropped entry (entered_within same.there entered) touches);
    no_orphan = λ orphan. no_orphan (orphan_within same_known orphan);
  }
    where
      either : (entry : ModelEntry) →
          IsDropped members collected replica entry.id ⊎ IsTwoFull members H replica entry.id →
          IsDropped members H replica entry.id ⊎ IsTwoFull members H replica entry.id
      either entry (inl drops) = dropped_before entry.id drops
      either entry (inr full) = inr full

  -- an entry that is known, touches the object and isn't dropped
  abbrev Keeps : Id → ModelEntry → Type 0
  Keeps object entry = Touches entry object × (IsDropped members collected replica entry.id → ⊥)

  pub left_needed : (object : Id) (kind : Kind) → IsHeldObject members collected replica object kind →
      IsOrphan collected (Knows collected replica) object ⊎ IsNeeded members collected replica object
  left_needed object kind held = go
      (orphan_decided collected (Knows collected replica) (knows_decided collected replica) object)
      (some_entered collected (Knows collected replica) (knows_decided collected replica) (Keeps object)
      (λ entry. both_decided (touches_decided entry object)
      (not_decided (dropped_decided members collected replica entry.id))))
    where
      go : Decided (IsOrphan collected (Knows collected replica) object) →
          Decided (HasEntered collected (Knows collected replica) (Keeps object)) →
          IsOrphan collected (Knows collected replica) object ⊎ IsNeeded members collected replica object
      go (inl orphan) needed = inl orphan
      go (inr none) (inl has) = inr (record {
        entry = has.entry;
        held = record { entered = has.entered; held = has.holds.1 };
        touches = has.holds.0;
      })
      go (inr none) (inr nothing) = absurd (not_given_up object kind held
          (unneeded object kind held.made none
          (λ entry entered touches. inl
          (unless_refuted (dropped_decided members collected replica entry.id)
          (λ kept. nothing (record { entry = entry; entered = entered; holds = (touches, kept) }))))))

-- a second collection straight behind the first
module _ (members : ℕ) (H : List Event) (replica : ℕ) (is_member : IsMember members replica) where
  abbrev once : List Event
  once = H ++ Collect replica ∷ []

  pub entry_stays : (entry : ModelEntry) → IsHeldEntry members once replica entry →
      IsHeldEntry members (once ++ Collect replica ∷ []) replica entry
  entry_stays entry held = record {
    entered = entered_within (same members once replica).there held.entered;
    held = λ dropped. go (dropped_before members once replica entry.id dropped);
  }
    where
      go : IsDropped members once replica entry.id ⊎ IsTwoFull members once replica entry.id → ⊥
      go (inl was) = held.held was
      go (inr full) = none_full members H replica entry is_member held full

  pub object_stays : (object : Id) (kind : Kind) → IsHeldObject members once replica object kind →
      IsHeldObject members (once ++ Collect replica ∷ []) replica object kind
  object_stays object kind held = record {
    made = made_within (same members once replica).there held.made;
    held = λ position done. go (done_cases members once replica object (Collect replica) done);
  }
    where
      first : IsGivenUp members once replica object → IsGivenUp members H replica object
      first given_up = unneeded members H replica object given_up.kind given_up.made given_up.no_orphan
          (λ entry entered touches. pick entry (given_up.dropped entry entered touches))
        where
          pick : (entry : ModelEntry) → IsDropped members once replica entry.id ⊎ IsTwoFull members once replica entry.id →
              IsDropped members once replica entry.id ⊎ IsTwoFull members H replica entry.id
          pick entry (inl dropped) = inl dropped
          pick entry (inr full) = inr (full_before members H replica entry.id is_member full)

      go : {position : ℕ} → IsDone members once replica object position ⊎
          ((position ≡ length once) × (Collect replica ≡ Collect replica) × IsGivenUp members once replica object) → ⊥
      go {position} (inl was) = held.held position was
      go (inr (end, is, given_up)) = not_given_up members H replica object kind held (first given_up)
