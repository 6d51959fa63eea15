-- After a lawful history there is a list of the entries that a replica holds.
use Rattle.std.proofs.Common.{◌≡◌, ◌⊎◌, ℕ, List, length, Option, Some, None, refl, subst, sym, ◌∙◌, inl, inr}
use Rattle.std.specs.Prelude.{Contains}
use Rattle.std.proofs.lemmas.Option.{same_Some}
use Rattle.ficus_ids.specs.declared.id.Id.{Id}
use Rattle.ficus_entry.specs.Entry.{Holds}
use Rattle.ficus_entry.specs.declared.entry.Entry.{Entry}
use Rattle.ficus_entry.specs.declared.entry.State.{State}
use Rattle.ficus_entry.specs.declared.entry.State.TheVariants.{Live, Dead}
use Rattle.ficus_model.specs.declared.event.Event.{Event}
use Rattle.ficus_model.specs.declared.event.Op.{Op}
use Rattle.ficus_model.specs.Events.{IsUpdate}
use Rattle.ficus_model.specs.Held.{IsDropped}
use Rattle.ficus_model.specs.Known.{Knows}
use Rattle.ficus_model.specs.Lawful.{Volume, IsLawful}
use Rattle.ficus_model.specs.Live.{ModelEntry, entered_by, IsEntered, IsRemoved}
use Rattle.ficus_laws.proofs.AfterUpdate.{enters_none, entered_id}
use Rattle.ficus_laws.proofs.Deciding.{Decided, knows_decided}
use Rattle.ficus_laws.proofs.Past.{update_same}
use Rattle.ficus_laws.proofs.Positions.{at_within}
use Rattle.ficus_removal_laws.specs.Marks.{IsEnteredAs}
use Rattle.ficus_held_laws.specs.Entries.{IsKeptEntry, place_of}
use Rattle.ficus_held_laws.proofs.Standing.{kept_of, kept_once}
use Rattle.ficus_view_laws.proofs.Entries.{removed_decided}
use Rattle.ficus_view_laws.proofs.Knowledge.{dropped_decided, marked_exists}
use Rattle.ficus_view_laws.proofs.Objects.{unless_refuted}
use Rattle.ficus_view_laws.proofs.Positions.{HasUpdateAt, update_or_none}
use Rattle.ficus_table_laws.specs.Laws.{HasEntries}
use Rattle.ficus_table_laws.proofs.Gathering.{Gathered, gathered, in_order}

module _ (volume : Volume) (H : List Event) (replica : ℕ) (lawful : IsLawful volume H) where
  -- at the position the entry is entered, which the replica holds
  record Stands (position : ℕ) (entry : Entry) : Type 0 where
    known : Knows H replica position
    op : Op
    update : IsUpdate H position entry.id op
    enters : entered_by entry.id op ≡ Some (place_of entry)
    kept : IsKeptEntry volume.members H replica entry

  -- an entry that is known and isn't dropped is kept in some state
  kept_exists : (place : ModelEntry) → IsEntered H (Knows H replica) place →
      (IsDropped volume.members H replica place.id → ⊥) → (state : State) ×
      IsKeptEntry volume.members H replica (kept_of place state)
  kept_exists place entered held = go (removed_decided H (Knows H replica) (knows_decided H replica) place.id)
    where
      named : IsEnteredAs H (Knows H replica) place.id
      named = record { entry = place; entered = entered; named = refl }

      go : Decided (IsRemoved H (Knows H replica) place.id) → (state : State) ×
          IsKeptEntry volume.members H replica (kept_of place state)
      go (inr none) = (
        Live,
        record {
          held = record { entered = entered; held = held };
          state = record { entered = named; not_removed = none };
        },
      )
      go (inl removed) =
          let marks = marked_exists volume H replica place.id lawful named removed held in (
            Dead marks.one marks.two,
            record {
              held = record { entered = entered; held = held };
              state = marks.marked;
            },
          )

  find : (position : ℕ) → ((entry : Entry) × Stands position entry) ⊎ ((entry : Entry) → Stands position entry → ⊥)
  find position = go (knows_decided H replica position) (update_or_none H position)
    where
      same : (here : HasUpdateAt H position) {entry : Entry} (there : Stands position entry) →
          entered_by here.number here.op ≡ Some (place_of entry)
      same here there =
          let s = update_same here.update there.update in
          rw (s.0, s.1) there.enters

      of : Knows H replica position → (here : HasUpdateAt H position) (found : Option ModelEntry) →
          entered_by here.number here.op ≡ found →
          ((entry : Entry) × Stands position entry) ⊎ ((entry : Entry) → Stands position entry → ⊥)
      of known here None none = inr (λ entry there. enters_none (place_of entry) (sym none ∙ same here there))
      of known here (Some place) enters = pick (dropped_decided volume.members H replica place.id)
        where
          id : place.id ≡ here.number
          id = entered_id here.number here.op place enters

          update : IsUpdate H position place.id here.op
          update = subst (λ number. IsUpdate H position number here.op) (sym id) here.update

          enters_it : entered_by place.id here.op ≡ Some place
          enters_it = subst (λ number. entered_by number here.op ≡ Some place) (sym id) enters

          pick : Decided (IsDropped volume.members H replica place.id) →
              ((entry : Entry) × Stands position entry) ⊎ ((entry : Entry) → Stands position entry → ⊥)
          pick (inr held) =
              let kept = kept_exists place
              (record { position = position; op = here.op; known = known; update = update; enters = enters_it }) held in
              inl (
                kept_of place kept.0,
                record {
                  known = known;
                  op = here.op;
                  update = update;
                  enters = enters_it;
                  kept = kept.1;
                },
              )
          pick (inl dropped) = inr (λ entry there.
              let is : place ≡ place_of entry = same_Some place (place_of entry) (sym enters ∙ same here there) in
              there.kept.held.held (subst (λ found. IsDropped volume.members H replica found.id) is dropped))

      go : Decided (Knows H replica position) → Decided (HasUpdateAt H position) →
          ((entry : Entry) × Stands position entry) ⊎ ((entry : Entry) → Stands position entry → ⊥)
      go (inr unknown) update = inr (λ entry there. unknown there.known)
      go (inl known) (inr none) = inr (λ entry there.
          none (record { number = entry.id; op = there.op; update = there.update }))
      go (inl known) (inl here) = of known here (entered_by here.number here.op) refl

  all : Gathered Stands find (length H)
  all = gathered Stands find (length H)

  kept : (entry : Entry) → Contains all.items entry → IsKeptEntry volume.members H replica entry
  kept entry inside = (all.each entry inside).1.kept

  -- what is known and isn't dropped is in the list
  listed : (id : Id) (known : IsEnteredAs H (Knows H replica) id) →
      (IsDropped volume.members H replica id → ⊥) → Holds all.items id
  listed id known held =
      let state = kept_exists known.entry known.entered (λ dropped. held (subst (IsDropped volume.members H replica) known.named dropped)) in
      let found = all.all known.entered.position (kept_of known.entry state.0) (at_within known.entered.update.at) (record {
        known = known.entered.known;
        op = known.entered.op;
        update = known.entered.update;
        enters = known.entered.enters;
        kept = state.1;
      }) in
      record {
        item = found.item;
        inside = found.inside;
        has_id = (update_same found.stands.update known.entered.update).0 ∙ known.named;
      }

  pub entries_exist : HasEntries volume.members H replica
  entries_exist =
      let rising = in_order (λ (entry : Entry). entry.id) all.items
      (λ x y inside inside_too same. kept_once (kept x inside) (kept y inside_too) same) in
      record {
        entries = rising.0;
        are = record {
          rising = rising.1.rising;
          kept = record {
            each = λ entry inside. kept entry (rising.1.each entry inside);
            absent = λ id none known. unless_refuted (dropped_decided volume.members H replica id)
                (λ held.
                let holds = listed id known held in
                none (record { item = holds.item; inside = rising.1.all holds.item holds.inside; has_id = holds.has_id }));
          };
        };
      }
