-- What an update makes of the entries that its replica keeps.
use Rattle.std.proofs.Common.{◌≡◌, ◌↔◌, ◌⊎◌, ℕ, ◌≤◌, List, [], ◌∷◌, ◌++◌, length, Some, refl, sym, ap, ◌∙◌, subst, inl, inr, arith}
use Rattle.std.specs.Prelude.{Contains}
use Rattle.std.proofs.lemmas.List.{take_at}
use Rattle.ficus_ids.specs.Members.{IsMember}
use Rattle.ficus_ids.specs.declared.id.Id.{Id}
use Rattle.ficus_entry.specs.declared.entry.Entry.{Entry as Kept}
use Rattle.ficus_entry.specs.declared.entry.State.{State}
use Rattle.ficus_entry.specs.declared.entry.State.TheVariants.{Live, Dead}
use Rattle.ficus_model.specs.declared.event.Event.{Event}
use Rattle.ficus_model.specs.declared.event.Event.TheVariants.{Update}
use Rattle.ficus_model.specs.declared.event.Op.{Op}
use Rattle.ficus_model.specs.Known.{Knows}
use Rattle.ficus_model.specs.Lawful.{Volume, IsLawful}
use Rattle.ficus_model.specs.Live.{ModelEntry, entered_by, removed_by, IsEntered, IsRemoved}
use Rattle.ficus_model.specs.Held.{IsDropped}
use Rattle.ficus_laws.specs.Updates.{next_number, IsIssued}
use Rattle.ficus_laws.proofs.AfterUpdate.{entered_id, entered_after, entered_new, removed_after, removed_new}
use Rattle.ficus_laws.proofs.Deciding.{Decided}
use Rattle.ficus_laws.proofs.Issued.{entered_issued, next_not_removed}
use Rattle.ficus_laws.proofs.Lawful.{lawful_less, lawful_member}
use Rattle.ficus_laws.proofs.OneMore.{within_more}
use Rattle.ficus_laws.proofs.Positions.{of_end}
use Rattle.ficus_laws.proofs.Shown.{entered_within, removed_within}
use Rattle.ficus_laws.proofs.Updates.{update_end}
use Rattle.ficus_removal_laws.specs.Marks.{IsBegun}
use Rattle.ficus_removal_laws.proofs.Dropping.{dropped_more, dropped_removed}
use Rattle.ficus_removal_laws.proofs.Marking.{marks_kept, removal_begins}
use Rattle.ficus_removal_laws.proofs.Removing.{removal_first}
use Rattle.ficus_merge_laws.specs.States.{StandsAs}
use Rattle.ficus_merge_laws.proofs.Following.{undropped, entered_stands, killed_stands}
use Rattle.ficus_held_laws.specs.Entries.{IsKeptEntry, IsJustRemoved, IsSteppedTo, IsNewEntry, IsFromUpdate, place_of}
use Rattle.ficus_held_laws.proofs.Standing.{inside_decided, SameEntry, same_entry_back, kept_same, same_kept}

-- In each of these a replica has done one more operation.
module _ (volume : Volume) (H : List Event) (replica : ℕ) (op : Op)
    (lawful : IsLawful volume (H ++ Update replica op ∷ [])) where
  abbrev after : List Event
  after = H ++ Update replica op ∷ []

  abbrev removes : List Id
  removes = removed_by (next_number replica H) op

  is_member : IsMember volume.members replica
  is_member = lawful_member volume after lawful (of_end H (Update replica op))

  was_lawful : IsLawful volume H
  was_lawful = (lawful_less volume H (Update replica op) lawful).0

  -- what it removes was not removed
  not_removed_before : {id : Id} → Contains removes id → IsRemoved H (Knows H replica) id → ⊥
  not_removed_before {id} inside r =
      removal_first volume after lawful (update_end H replica op) inside
      (subst (λ L. IsRemoved L (Knows L replica) id) (sym (take_at H (Update replica op ∷ []) (length H) refl)) r)

  abbrev IsEnteredBefore : ModelEntry → Type 0
  IsEnteredBefore entry = IsEntered H (Knows H replica) entry

  -- what was entered before isn't entered again
  not_new : {entry other : ModelEntry} → IsEnteredBefore entry → entered_by (next_number replica H) op ≡ Some other →
      other.id ≡ entry.id → ⊥
  not_new {entry} {other} e new same =
      let next : entry.id ≡ next_number replica H = sym same ∙ entered_id (next_number replica H) op other new in
      let i : IsIssued H (next_number replica H) = subst (IsIssued H) next (entered_issued e) in
      omega (arith, i.at_most)

  -- what it neither enters nor removes stays as it was
  pub untouched : (id : Id) → (Contains removes id → ⊥) →
      ((entry : ModelEntry) → entered_by (next_number replica H) op ≡ Some entry → entry.id ≡ id → ⊥) →
      SameEntry volume.members H after replica id
  untouched id beside not_entered = record {
    marks = marks_kept volume.members H (Update replica op) replica id is_member (inr beside);
    entered = λ entry named. (
      entered_within (within_more H (Update replica op ∷ []) replica),
      λ e. entered entry named (entered_after H replica op e),
    );
    removed = (
      removed_within (within_more H (Update replica op ∷ []) replica),
      λ r. removed (removed_after H replica op r),
    );
    dropped = (dropped_more (Update replica op ∷ []), undropped (Update replica op) (λ is. cc));
  }
    where
      entered : (entry : ModelEntry) → entry.id ≡ id →
          IsEnteredBefore entry ⊎ (entered_by (next_number replica H) op ≡ Some entry) → IsEnteredBefore entry
      entered entry named (inl was) = was
      entered entry named (inr new) = absurd (not_entered entry new named)

      removed : IsRemoved H (Knows H replica) id ⊎ Contains removes id → IsRemoved H (Knows H replica) id
      removed (inl was) = was
      removed (inr inside) = absurd (beside inside)

  pub left_as_it_was : {entry : ModelEntry} → IsEnteredBefore entry → (Contains removes entry.id → ⊥) →
      SameEntry volume.members H after replica entry.id
  left_as_it_was {entry} e beside = untouched entry.id beside (λ other new same. not_new e new same)

  still_entered : {entry : ModelEntry} → IsEnteredBefore entry ⊎ (entered_by (next_number replica H) op ≡ Some entry) →
      IsEntered after (Knows after replica) entry
  still_entered (inl was) = entered_within (within_more H (Update replica op ∷ []) replica) was
  still_entered {entry} (inr new) = entered_new H replica op entry new

  -- what it enters and doesn't remove is alive then
  fresh : {id : Id} {entry : ModelEntry} → entered_by (next_number replica H) op ≡ Some entry → entry.id ≡ id →
      (Contains removes id → ⊥) → IsRemoved after (Knows after replica) id → ⊥
  fresh {id} {entry} new named beside r = go (removed_after H replica op r)
    where
      next : id ≡ next_number replica H
      next = sym named ∙ entered_id (next_number replica H) op entry new

      go : IsRemoved H (Knows H replica) id ⊎ Contains removes id → ⊥
      go (inl was) = next_not_removed volume H replica was_lawful (subst (IsRemoved H (Knows H replica)) next was)
      go (inr inside) = beside inside

  fresh_kept : {entry : Kept} → IsNewEntry (next_number replica H) op entry → (Contains removes entry.id → ⊥) →
      IsKeptEntry volume.members after replica entry
  fresh_kept {entry} new beside =
      let entered = entered_new H replica op (place_of entry) new.enters in
      let living = fresh new.enters refl beside in
      record {
        held = record { entered = entered; held = λ d. living (dropped_removed d is_member) };
        state = subst (λ state. StandsAs volume.members after replica entry.id (Some state)) (sym new.alive)
            (entered_stands volume H replica op entry.id was_lawful
            (record { entry = place_of entry; enters = new.enters; named = refl })
            beside);
      }

  fresh_alive : {id : Id} {entry : ModelEntry} → entered_by (next_number replica H) op ≡ Some entry → entry.id ≡ id →
      (Contains removes id → ⊥) → (state : State) → StandsAs volume.members after replica id (Some state) → state ≡ Live
  fresh_alive new named beside Live stands = refl
  fresh_alive new named beside (Dead one two) stands = absurd (fresh new named beside stands.removed)

  -- what it removes was alive
  was_alive : {entry : Kept} → Contains removes entry.id → IsEnteredBefore (place_of entry) → entry.state ≡ Live →
      IsKeptEntry volume.members H replica entry
  was_alive {entry} inside e alive =
      let living = not_removed_before inside in
      record {
        held = record { entered = e; held = λ d. living (dropped_removed d is_member) };
        state = subst (λ state. StandsAs volume.members H replica entry.id (Some state)) (sym alive)
            (record { entered = record { entry = place_of entry; entered = e; named = refl }; not_removed = living });
      }

  module _ (several : 2 ≤ volume.members) where
    begun : {id : Id} → Contains removes id → IsBegun volume.members after replica id
    begun {id} inside = removal_begins volume H replica op id several lawful inside

    -- and is removed just now
    just_removed : {id : Id} → Contains removes id → (state : State) →
        StandsAs volume.members after replica id (Some state) → IsJustRemoved replica state
    just_removed {id} inside Live alive = alive.not_removed (removed_new H replica op id inside)
    just_removed inside (Dead one two) marked =
        let b = begun inside in
        record {
          first = λ peer. (
            λ marks. (b.one peer).0 ((marked.first peer).0 marks),
            λ same. (marked.first peer).1 ((b.one peer).1 same),
          );
          second = λ peer marks. b.two peer ((marked.second peer).0 marks);
        }

    removed_stands : {id : Id} → Contains removes id → (state : State) → IsJustRemoved replica state →
        StandsAs volume.members after replica id (Some state)
    removed_stands inside Live just = absurd just
    removed_stands {id} inside (Dead one two) just =
        killed_stands volume H replica op id one two several lawful inside just

    removed_kept : {entry : Kept} → Contains removes entry.id → IsEntered after (Knows after replica) (place_of entry) →
        IsJustRemoved replica entry.state → IsKeptEntry volume.members after replica entry
    removed_kept {entry} inside entered just =
        let b = begun inside in
        record {
          held = record {
            entered = entered;
            held = λ d. b.held.held (subst (IsDropped volume.members after replica) (sym b.named) d);
          };
          state = removed_stands inside entry.state just;
        }

    -- what is kept then was kept, or it is new
    pub from_update : {entry : Kept} → IsKeptEntry volume.members after replica entry →
        IsFromUpdate volume.members H replica op entry
    from_update {entry} k = go (inside_decided removes entry.id) (entered_after H replica op k.held.entered)
      where
        go : Decided (Contains removes entry.id) →
            IsEnteredBefore (place_of entry) ⊎ (entered_by (next_number replica H) op ≡ Some (place_of entry)) →
            IsFromUpdate volume.members H replica op entry
        go (inl inside) e = record {
          entry = record entry { state = Live };
          from = alive e;
          stepped = record {
            same = refl;
            removed = λ again. just_removed inside entry.state k.state;
            left = λ none. absurd (none inside);
          };
        }
          where
            alive : IsEnteredBefore (place_of entry) ⊎ (entered_by (next_number replica H) op ≡ Some (place_of entry)) →
                IsKeptEntry volume.members H replica (record entry { state = Live }) ⊎
                IsNewEntry (next_number replica H) op (record entry { state = Live })
            alive (inl was) = inl (was_alive inside was refl)
            alive (inr new) = inr (record { enters = new; alive = refl })
        go (inr beside) (inl was) = record {
          entry = entry;
          from = inl (kept_same (same_entry_back (left_as_it_was was beside)) k);
          stepped = record { same = refl; removed = λ inside. absurd (beside inside); left = λ none. refl };
        }
        go (inr beside) (inr new) = record {
          entry = entry;
          from = inr (record { enters = new; alive = fresh_alive new refl beside entry.state k.state });
          stepped = record { same = refl; removed = λ inside. absurd (beside inside); left = λ none. refl };
        }

    -- and what was kept or is new is kept then
    pub stepped_kept : {entry next : Kept} →
        IsKeptEntry volume.members H replica entry ⊎ IsNewEntry (next_number replica H) op entry →
        IsSteppedTo replica removes entry next → IsKeptEntry volume.members after replica next
    stepped_kept {entry} {next} from stepped = go (inside_decided removes entry.id) from
      where
        entered : IsKeptEntry volume.members H replica entry ⊎ IsNewEntry (next_number replica H) op entry →
            IsEntered after (Knows after replica) (place_of entry)
        entered (inl was) = still_entered (inl was.held.entered)
        entered (inr new) = still_entered (inr new.enters)

        same_id : next.id ≡ entry.id
        same_id = ap (λ (place : ModelEntry). place.id) stepped.same

        same : (Contains removes entry.id → ⊥) → entry ≡ next
        same beside = same_kept (sym stepped.same) (sym (stepped.left beside))

        go : Decided (Contains removes entry.id) →
            IsKeptEntry volume.members H replica entry ⊎ IsNewEntry (next_number replica H) op entry →
            IsKeptEntry volume.members after replica next
        go (inl inside) found = removed_kept
            (subst (Contains removes) (sym same_id) inside)
            (subst (IsEntered after (Knows after replica)) (sym stepped.same) (entered found))
            (stepped.removed inside)
        go (inr beside) (inl was) = subst (IsKeptEntry volume.members after replica) (same beside)
            (kept_same (left_as_it_was was.held.entered beside) was)
        go (inr beside) (inr new) = subst (IsKeptEntry volume.members after replica) (same beside) (fresh_kept new beside)

    pub update_steps : (entry : Kept) →
        IsKeptEntry volume.members after replica entry ↔ IsFromUpdate volume.members H replica op entry
    update_steps entry = (from_update, λ f. stepped_kept f.from f.stepped)
