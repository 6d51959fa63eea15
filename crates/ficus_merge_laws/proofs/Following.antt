-- How the state of an entry follows the events that take nothing.
use Rattle.std.proofs.Common.{◌≡◌, ◌≢◌, ◌↔◌, ◌⊎◌, ℕ, ◌≤◌, List, [], ◌∷◌, ◌++◌, Option, Some, None, refl, sym, ap, ◌∙◌, subst, inl, inr, false}
use Rattle.std.specs.Prelude.{Contains, IsTrue}
use Rattle.std.proofs.lemmas.Bool.{cases_eq}
use Rattle.ficus_ids.specs.Marks.{has, IsFull}
use Rattle.ficus_ids.specs.MarksLaws.{full_or_one_missing}
use Rattle.ficus_ids.specs.Members.{IsMember}
use Rattle.ficus_ids.specs.declared.id.Id.{Id}
use Rattle.ficus_entry.specs.declared.entry.State.{State}
use Rattle.ficus_entry.specs.declared.entry.State.TheVariants.{Live, Dead}
use Rattle.ficus_model.specs.declared.event.Event.{Event}
use Rattle.ficus_model.specs.declared.event.Event.TheVariants.{Update, Collect}
use Rattle.ficus_model.specs.declared.event.Op.{Op}
use Rattle.ficus_model.specs.Events.{actor}
use Rattle.ficus_model.specs.Known.{Knows}
use Rattle.ficus_model.specs.Live.{entered_by, removed_by, IsEntered, IsRemoved}
use Rattle.ficus_model.specs.Lawful.{Volume, IsLawful}
use Rattle.ficus_model.specs.Held.{IsDropped}
use Rattle.ficus_laws.specs.Updates.{next_number, SameUpdates}
use Rattle.ficus_laws.proofs.Shown.{entered_within, removed_within}
use Rattle.ficus_laws.proofs.OneMore.{within_more, same_of_other, same_quiet}
use Rattle.ficus_laws.proofs.AfterUpdate.{entered_after, entered_new, entered_id, removed_after, removed_new}
use Rattle.ficus_laws.proofs.Issued.{next_not_removed}
use Rattle.ficus_removal_laws.specs.Marks.{IsTwoFull, IsEnteredAs, LeavesEntry, SameMarks, IsBegun}
use Rattle.ficus_removal_laws.proofs.Carrying.{one_removed}
use Rattle.ficus_removal_laws.proofs.Hearing.{one_from_last, one_at_last, one_of_itself}
use Rattle.ficus_removal_laws.proofs.Dropping.{dropped_more, dropped_cases, dropped_now}
use Rattle.ficus_removal_laws.proofs.Marking.{marks_kept, removal_begins}
use Rattle.ficus_merge_laws.specs.States.{StandsAs, EntersAs, LeavesState, Collects, IsKilled}

both_ways : {P Q R : Type 0} → (P ↔ Q) → (Q ↔ R) → P ↔ R
both_ways first then = ((λ p. then.0 (first.0 p)), (λ r. first.1 (then.1 r)))

entered_where : {H K : List Event} {U V : ℕ → Type 0} {id : Id} → SameUpdates H U K V → IsEnteredAs K V id →
    IsEnteredAs H U id
entered_where same e = record { entry = e.entry; entered = entered_within same.back e.entered; named = e.named }

-- In each of these the marks of the entry stay, and the replica doesn't come to know the entry or to drop it.
module _ {members : ℕ} {H : List Event} {replica : ℕ} {id : Id} (event : Event)
    (same : SameMarks members H (H ++ event ∷ []) replica id)
    (not_entered : IsEnteredAs (H ++ event ∷ []) (Knows (H ++ event ∷ []) replica) id →
    IsEnteredAs H (Knows H replica) id)
    (not_dropped : IsDropped members (H ++ event ∷ []) replica id → IsDropped members H replica id) where
  abbrev after : List Event
  after = H ++ event ∷ []

  removed_before : IsRemoved after (Knows after replica) id → IsRemoved H (Knows H replica) id
  removed_before r = one_removed (one_from_last ((same.one replica).1 (one_at_last (one_of_itself r))))

  still_entered : IsEnteredAs H (Knows H replica) id → IsEnteredAs after (Knows after replica) id
  still_entered e = record {
    entry = e.entry;
    entered = entered_within (within_more H (event ∷ []) replica) e.entered;
    named = e.named;
  }

  state_stays : (state : Option State) → StandsAs members H replica id state → StandsAs members after replica id state
  state_stays None absent = λ entered. dropped_more (event ∷ []) (absent (not_entered entered))
  state_stays (Some Live) alive = record {
    entered = still_entered alive.entered;
    not_removed = λ r. alive.not_removed (removed_before r);
  }
  state_stays (Some (Dead one two)) dead = record {
    entered = still_entered dead.entered;
    removed = removed_within (within_more H (event ∷ []) replica) dead.removed;
    held = λ d. dead.held (not_dropped d);
    first = λ peer. both_ways (dead.first peer) (same.one peer);
    second = λ peer. both_ways (dead.second peer) (same.two peer);
  }

leaves_marks : (H : List Event) (event : Event) (id : Id) → LeavesState H event id → LeavesEntry H event id
leaves_marks H (Update by op) id leaves = leaves.1
leaves_marks H (Collect by) id leaves = absurd leaves
leaves_marks H event id leaves = leaves

leaves_unentered : (H : List Event) (event : Event) (id : Id) → LeavesState H event id →
    IsEnteredAs (H ++ event ∷ []) (Knows (H ++ event ∷ []) (actor event)) id → IsEnteredAs H (Knows H (actor event)) id
leaves_unentered H (Update by op) id leaves e = go (entered_after H by op e.entered)
  where
    go : IsEntered H (Knows H by) e.entry ⊎ (entered_by (next_number by H) op ≡ Some e.entry) →
        IsEnteredAs H (Knows H by) id
    go (inl was) = record { entry = e.entry; entered = was; named = e.named }
    go (inr new) = absurd (leaves.0 (record { entry = e.entry; enters = new; named = e.named }))
leaves_unentered H (Collect by) id leaves e = absurd leaves
leaves_unentered H event id leaves e = entered_where (same_quiet H event (actor event) leaves) e

-- what is no Collect of the replica drops nothing there
pub undropped : {members : ℕ} {H : List Event} {replica : ℕ} {id : Id} (event : Event) → event ≢ Collect replica →
    IsDropped members (H ++ event ∷ []) replica id → IsDropped members H replica id
undropped {members} {H} {replica} {id} event other d = go (dropped_cases event d)
  where
    go : IsDropped members H replica id ⊎ ((event ≡ Collect replica) × IsTwoFull members H replica id) →
        IsDropped members H replica id
    go (inl was) = was
    go (inr (is, full)) = absurd (other is)

others_state_stays : (members : ℕ) (H : List Event) (event : Event) (replica : ℕ) (id : Id) (state : Option State) →
    IsMember members replica → actor event ≢ replica → StandsAs members H replica id state →
    StandsAs members (H ++ event ∷ []) replica id state
others_state_stays members H event replica id state is_member other stands =
    state_stays event
    (marks_kept members H event replica id is_member (inl other))
    (λ entered. entered_where (same_of_other H event replica other) entered)
    (λ d. undropped event (λ is. other (ap actor is)) d)
    state stands

own_state_stays : (members : ℕ) (H : List Event) (event : Event) (id : Id) (state : Option State) →
    IsMember members (actor event) → LeavesState H event id → StandsAs members H (actor event) id state →
    StandsAs members (H ++ event ∷ []) (actor event) id state
own_state_stays members H event id state is_member leaves stands =
    state_stays event
    (marks_kept members H event (actor event) id is_member (inr (leaves_marks H event id leaves)))
    (leaves_unentered H event id leaves)
    (λ d. undropped event (λ is. subst (λ found. LeavesState H found id) is leaves) d)
    state stands

pub states_stay : (members : ℕ) (H : List Event) (event : Event) (replica : ℕ) (id : Id) (state : Option State) →
    IsMember members replica → (actor event ≢ replica) ⊎ LeavesState H event id → StandsAs members H replica id state →
    StandsAs members (H ++ event ∷ []) replica id state
states_stay members H event replica id state is_member (inl other) stands =
    others_state_stays members H event replica id state is_member other stands
states_stay members H event replica id state is_member (inr leaves) stands = go (cases_eq (actor event) replica)
  where
    own : {by : ℕ} → actor event ≡ by → IsMember members by → StandsAs members H by id state →
        StandsAs members (H ++ event ∷ []) by id state
    own same m here = subst (λ by. StandsAs members (H ++ event ∷ []) by id state) same
        (own_state_stays members H event id state
        (subst (IsMember members) (sym same) m)
        leaves
        (subst (λ by. StandsAs members H by id state) (sym same) here))

    go : (actor event ≡ replica) ⊎ (actor event ≡ replica → ⊥) → StandsAs members (H ++ event ∷ []) replica id state
    go (inl same) = own same is_member stands
    go (inr other) = others_state_stays members H event replica id state is_member other stands

-- a Collect drops what it drops
pub collect_stands : (members : ℕ) (H : List Event) (replica : ℕ) (id : Id) (state after : Option State) →
    IsMember members replica → StandsAs members H replica id state → Collects members state after →
    StandsAs members (H ++ Collect replica ∷ []) replica id after
collect_stands members H replica id state after is_member = by_state state
  where
    event : Event
    event = Collect replica

    same : SameMarks members H (H ++ Collect replica ∷ []) replica id
    same = marks_kept members H (Collect replica) replica id is_member (inr tt)

    not_entered : IsEnteredAs (H ++ Collect replica ∷ []) (Knows (H ++ Collect replica ∷ []) replica) id →
        IsEnteredAs H (Knows H replica) id
    not_entered e = entered_where (same_quiet H (Collect replica) replica tt) e

    alive : StandsAs members H replica id (Some Live) →
        StandsAs members (H ++ Collect replica ∷ []) replica id (Some Live)
    alive here = record {
      entered = record {
        entry = here.entered.entry;
        entered = entered_within (within_more H (Collect replica ∷ []) replica) here.entered.entered;
        named = here.entered.named;
      };
      not_removed = λ r. here.not_removed (removed_within (same_quiet H (Collect replica) replica tt).back r);
    }

    full_two : {one two : ℕ} → StandsAs members H replica id (Some (Dead one two)) → IsFull two members →
        IsTwoFull members H replica id
    full_two here full member m = (here.second member).0 (full member m)

    two_full : {one two : ℕ} → StandsAs members H replica id (Some (Dead one two)) → IsTwoFull members H replica id →
        IsFull two members
    two_full here full member m = (here.second member).1 (full member m)

    unless_full : {one two : ℕ} → StandsAs members H replica id (Some (Dead one two)) → (IsFull two members → ⊥) →
        IsDropped members (H ++ Collect replica ∷ []) replica id → IsDropped members H replica id
    unless_full here not_full d = go (dropped_cases (Collect replica) d)
      where
        go : IsDropped members H replica id ⊎ ((Collect replica ≡ Collect replica) × IsTwoFull members H replica id) →
            IsDropped members H replica id
        go (inl was) = was
        go (inr (is, full)) = absurd (not_full (two_full here full))

    dead : (one two : ℕ) → StandsAs members H replica id (Some (Dead one two)) →
        Collects members (Some (Dead one two)) after → IsFull two members ⊎ (IsFull two members → ⊥) →
        StandsAs members (H ++ Collect replica ∷ []) replica id after
    dead one two here collects (inl full) =
        rw (collects.0 full) (λ entered. dropped_now (Collect replica) refl (full_two here full))
    dead one two here collects (inr not_full) =
        rw (collects.1 not_full)
        (state_stays (Collect replica) same not_entered (unless_full here not_full) (Some (Dead one two)) here)

    full_or_not : (two : ℕ) → IsFull two members ⊎ (IsFull two members → ⊥)
    full_or_not two = go (full_or_one_missing two members)
      where
        go : IsFull two members ⊎ ((member : ℕ) × IsMember members member × (has two member ≡ false)) →
            IsFull two members ⊎ (IsFull two members → ⊥)
        go (inl full) = inl full
        go (inr (member, m, missing)) = inr (λ full. let inside : IsTrue (has two member) = full member m in cc)

    by_state : (state : Option State) → StandsAs members H replica id state → Collects members state after →
        StandsAs members (H ++ Collect replica ∷ []) replica id after
    by_state None here is = rw is (λ entered. dropped_more (Collect replica ∷ []) (here (not_entered entered)))
    by_state (Some Live) here is = rw is (alive here)
    by_state (Some (Dead one two)) here collects = dead one two here collects (full_or_not two)

-- what an update enters is then alive, where the update doesn't remove it
pub entered_stands : (volume : Volume) (H : List Event) (replica : ℕ) (op : Op) (id : Id) → IsLawful volume H →
    EntersAs H replica op id → (Contains (removed_by (next_number replica H) op) id → ⊥) →
    StandsAs volume.members (H ++ Update replica op ∷ []) replica id (Some Live)
entered_stands volume H replica op id lawful new kept = record {
  entered = record { entry = new.entry; entered = entered_new H replica op new.entry new.enters; named = new.named };
  not_removed = λ r. go (removed_after H replica op r);
}
  where
    is_next : id ≡ next_number replica H
    is_next = sym new.named ∙ entered_id (next_number replica H) op new.entry new.enters

    go : IsRemoved H (Knows H replica) id ⊎ Contains (removed_by (next_number replica H) op) id → ⊥
    go (inl was) =
        next_not_removed volume H replica lawful (subst (λ found. IsRemoved H (Knows H replica) found) is_next was)
    go (inr now) = kept now

-- what an update removes is then dead
pub killed_stands : (volume : Volume) (H : List Event) (replica : ℕ) (op : Op) (id : Id) (one two : ℕ) →
    2 ≤ volume.members → IsLawful volume (H ++ Update replica op ∷ []) →
    Contains (removed_by (next_number replica H) op) id → IsKilled replica one two →
    StandsAs volume.members (H ++ Update replica op ∷ []) replica id (Some (Dead one two))
killed_stands volume H replica op id one two several lawful removes killed = record {
  entered = record { entry = begun.entry; entered = begun.held.entered; named = begun.named };
  removed = removed_new H replica op id removes;
  held = λ d. begun.held.held (subst (IsDropped volume.members then replica) (sym begun.named) d);
  first = λ peer. both_ways (killed.first peer) ((λ same. (begun.one peer).1 same), (λ o. (begun.one peer).0 o));
  second = λ peer. ((λ inside. absurd (killed.second peer inside)), (λ t. absurd (begun.two peer t)));
}
  where
    then : List Event
    then = H ++ Update replica op ∷ []

    begun : IsBegun volume.members (H ++ Update replica op ∷ []) replica id
    begun = removal_begins volume H replica op id several lawful removes
