-- What each event makes of a list of the entries that a replica keeps.
use Rattle.std.proofs.Common.{◌≡◌, ◌≢◌, ◌⊎◌, ℕ, ◌≤◌, true, false, List, [], ◌∷◌, ◌++◌, Option, Some, None, refl, ap, subst, inl, inr}
use Rattle.std.specs.Prelude.{Contains}
use Rattle.ficus_ids.specs.ListLaws.{not_inside_none}
use Rattle.ficus_ids.specs.Marks.{has, IsFull}
use Rattle.ficus_ids.specs.MarksLaws.{full_or_one_missing}
use Rattle.ficus_ids.specs.Members.{IsMember}
use Rattle.ficus_ids.specs.RisingLaws.{held_or_not}
use Rattle.ficus_ids.specs.declared.id.Id.{Id}
use Rattle.ficus_entry.specs.Entry.{Holds, HoldsUnder}
use Rattle.ficus_entry.specs.declared.entry.Entry.{Entry as Kept}
use Rattle.ficus_entry.specs.declared.entry.State.{State}
use Rattle.ficus_entry.specs.declared.entry.State.TheVariants.{Live, Dead}
use Rattle.ficus_model.specs.declared.event.Event.{Event}
use Rattle.ficus_model.specs.declared.event.Event.TheVariants.{Update, Collect}
use Rattle.ficus_model.specs.declared.event.Op.{Op}
use Rattle.ficus_model.specs.Events.{actor}
use Rattle.ficus_model.specs.Known.{Knows}
use Rattle.ficus_model.specs.Lawful.{Volume, IsLawful}
use Rattle.ficus_model.specs.Live.{ModelEntry, entered_by, IsEntered}
use Rattle.ficus_model.specs.Held.{IsDropped}
use Rattle.ficus_laws.specs.Updates.{next_number}
use Rattle.ficus_laws.proofs.AfterUpdate.{entered_after}
use Rattle.ficus_laws.proofs.Deciding.{Decided}
use Rattle.ficus_laws.proofs.Knowledge.{knows_none}
use Rattle.ficus_laws.proofs.OneMore.{same_quiet}
use Rattle.ficus_laws.proofs.Shown.{entered_within}
use Rattle.ficus_removal_laws.specs.Marks.{IsEnteredAs, IsAbsent}
use Rattle.ficus_removal_laws.proofs.Dropping.{dropped_more, dropped_now}
use Rattle.ficus_collection.specs.Reclaim.{IsFullyKnown, AreUndropped}
use Rattle.ficus_held_laws.specs.Entries.{IsKeptEntry, AreKeptEntries, IsIdle, IsNewEntry, HasSteppedEntry, AreEntriesStepped}
use Rattle.ficus_held_laws.proofs.Standing.{stands_same, kept_same, kept_of, others_same_entry}
use Rattle.ficus_held_laws.proofs.Stepping.{stepped_kept}
use Rattle.ficus_held_laws.proofs.Keeping.{kept_collected, full_from_state}

pub no_entries : (members replica : ℕ) → AreKeptEntries members [] replica []
no_entries members replica = record {
  each = λ entry inside. absurd (not_inside_none entry inside);
  absent = λ id none e. absurd (knows_none e.entered.known);
}

pub list_kept : {members : ℕ} {H : List Event} {replica : ℕ} {entries : List Kept} (event : Event) →
    IsMember members replica → (actor event ≢ replica) ⊎ IsIdle event →
    AreKeptEntries members H replica entries → AreKeptEntries members (H ++ event ∷ []) replica entries
list_kept {members} {H} {replica} event m other kept = record {
  each = λ entry inside. kept_same (others_same_entry members H event replica entry.id m other) (kept.each entry inside);
  absent = λ id none. stands_same (others_same_entry members H event replica id m other) None (kept.absent id none);
}

-- a full second set is told from the marks
fully_decided : (members : ℕ) (state : State) → Decided (IsFullyKnown members state)
fully_decided members Live = inr (λ full. full)
fully_decided members (Dead one two) = go (full_or_one_missing two members)
  where
    go : IsFull two members ⊎ ((member : ℕ) × IsMember members member × (has two member ≡ false)) →
        Decided (IsFullyKnown members (Dead one two))
    go (inl full) = inl full
    go (inr (member, m, missing)) = inr (λ full. let inside : has two member ≡ true = full member m in cc)

pub list_collected : {members : ℕ} {H : List Event} {replica : ℕ} {entries left : List Kept} →
    IsMember members replica →
    AreKeptEntries members H replica entries → AreUndropped members entries left →
    AreKeptEntries members (H ++ Collect replica ∷ []) replica left
list_collected {members} {H} {replica} {entries} {left} m kept are_left = record { each = each; absent = absent }
  where
    each : (entry : Kept) → Contains left entry → IsKeptEntry members (H ++ Collect replica ∷ []) replica entry
    each entry inside =
        let was = (are_left entry).0 inside in
        (kept_collected members H replica m entry).1 (kept.each entry was.0, was.1)

    absent : (id : Id) → (Holds left id → ⊥) → IsAbsent members (H ++ Collect replica ∷ []) replica id
    absent id none e = go (held_or_not (λ (item : Kept). item.id) entries id)
      where
        entered : IsEnteredAs H (Knows H replica) id
        entered = record {
          entry = e.entry;
          entered = entered_within (same_quiet H (Collect replica) replica tt).back e.entered;
          named = e.named;
        }

        of_kept : (entry : Kept) → Contains entries entry → entry.id ≡ id → Decided (IsFullyKnown members entry.state) →
            IsDropped members (H ++ Collect replica ∷ []) replica id
        of_kept entry inside named (inl full) =
            subst (IsDropped members (H ++ Collect replica ∷ []) replica) named
            (dropped_now (Collect replica) refl (full_from_state entry.state (kept.each entry inside).state full))
        of_kept entry inside named (inr not_full) =
            absurd (none (record { item = entry; inside = (are_left entry).1 (inside, not_full); has_id = named }))

        go : (found : Option Kept) × HoldsUnder entries id found →
            IsDropped members (H ++ Collect replica ∷ []) replica id
        go (None, nothing) = dropped_more (Collect replica ∷ []) (kept.absent id nothing entered)
        go (Some entry, (inside, named)) = of_kept entry inside named (fully_decided members entry.state)

pub list_stepped : (volume : Volume) (H : List Event) (replica : ℕ) (op : Op) {entries next : List Kept} →
    2 ≤ volume.members → IsLawful volume (H ++ Update replica op ∷ []) →
    AreKeptEntries volume.members H replica entries →
    AreEntriesStepped replica (next_number replica H) op entries next →
    AreKeptEntries volume.members (H ++ Update replica op ∷ []) replica next
list_stepped volume H replica op {entries} {next} several lawful kept steps = record { each = each; absent = absent }
  where
    found : {entry : Kept} → Contains entries entry ⊎ IsNewEntry (next_number replica H) op entry →
        IsKeptEntry volume.members H replica entry ⊎ IsNewEntry (next_number replica H) op entry
    found {entry} (inl inside) = inl (kept.each entry inside)
    found (inr new) = inr new

    each : (entry : Kept) → Contains next entry → IsKeptEntry volume.members (H ++ Update replica op ∷ []) replica entry
    each entry inside =
        let f = steps.from entry inside in
        stepped_kept volume H replica op lawful several (found f.from) f.stepped

    listed : {entry : Kept} → HasSteppedEntry replica (next_number replica H) op entry next → Holds next entry.id
    listed s = record { item = s.next; inside = s.inside; has_id = ap (λ (place : ModelEntry). place.id) s.stepped.same }

    absent : (id : Id) → (Holds next id → ⊥) → IsAbsent volume.members (H ++ Update replica op ∷ []) replica id
    absent id none e = go (entered_after H replica op e.entered) (held_or_not (λ (item : Kept). item.id) entries id)
      where
        go : IsEntered H (Knows H replica) e.entry ⊎ (entered_by (next_number replica H) op ≡ Some e.entry) →
            (found : Option Kept) × HoldsUnder entries id found →
            IsDropped volume.members (H ++ Update replica op ∷ []) replica id
        go (inl was) (None, nothing) = dropped_more (Update replica op ∷ [])
            (kept.absent id nothing (record { entry = e.entry; entered = was; named = e.named }))
        go any (Some entry, (inside, named)) =
            absurd (none (subst (Holds next) named (listed (steps.all entry (inl inside)))))
        go (inr new) nothing = absurd (none (subst (Holds next) e.named
            (listed (steps.all (kept_of e.entry Live) (inr (record { enters = new; alive = refl }))))))
