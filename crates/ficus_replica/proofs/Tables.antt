-- What a replica saves next fits an image, by its counts and its tables; what an operation makes of its tables.
use Rattle.std.proofs.Common.{◌≡◌, ◌↔◌, ◌⊎◌, ℕ, ◌+◌, ◌^◌, ◌<◌, ◌≤◌, List, Some, refl, sym, ap, subst, ◌∙◌, inl, inr}
use Rattle.std.specs.Prelude.{Contains}
use Rattle.std.proofs.lemmas.Bool.{eqb-true, eq-eqb, false≢true}
use Rattle.std.proofs.lemmas.Option.{same_Some}
use Rattle.ficus_ids.specs.declared.id.Id.{Id}
use Rattle.ficus_entry.specs.Entry.{AddsEntry}
use Rattle.ficus_entry.specs.Kill.{AreKilled, IsJustKilled, IsLeftAs}
use Rattle.ficus_entry.specs.declared.entry.Entry.{Entry}
use Rattle.ficus_entry.specs.declared.entry.State.{State}
use Rattle.ficus_entry.specs.declared.entry.State.TheVariants.{Live, Dead}
use Rattle.ficus_file.specs.declared.file.FileReplica.{FileReplica}
use Rattle.ficus_model.specs.declared.event.Op.{Op}
use Rattle.ficus_model.specs.Live.{ModelEntry, entered_by, removed_by}
use Rattle.ficus_durable_state.specs.Laws.{FitsReplica}
use Rattle.ficus_durable_state.specs.Saved.{FitsImage}
use Rattle.ficus_durable_state.specs.declared.saved.Saved.{Saved}
use Rattle.ficus_held_laws.specs.Entries.{place_of, AreEntriesStepped, HasSteppedEntry, IsFromEntry, IsJustRemoved, IsNewEntry, IsSteppedTo}
use Rattle.ficus_deciding.specs.View.{held_as, held_live}

pub tables_of : {saved : Saved} → FitsImage saved →
    FitsReplica saved.members saved.me saved.next saved.entries saved.files
tables_of fits = record { tables = fits.tables; past = fits.past }

-- what is saved next: so many updates, so many bytes, so many saves, and these tables
abbrev pub next_saved : Saved → ℕ → ℕ → ℕ → List Entry → List FileReplica → Saved
next_saved old next used generation entries files =
    record old { next = next; used = used; generation = generation; entries = entries; files = files }

pub image_then : {old : Saved} {next used generation : ℕ} {entries : List Entry} {files : List FileReplica} →
    FitsImage old → 1 ≤ next → next ≤ old.ids + 1 → used ≤ old.bytes → generation < 2 ^ 63 →
    FitsReplica old.members old.me next entries files →
    FitsImage (next_saved old next used generation entries files)
image_then fits next_at_least next_at_most used generation tables = record {
  members = fits.members;
  me = fits.me;
  ids_at_least = fits.ids_at_least;
  ids_at_most = fits.ids_at_most;
  bytes = fits.bytes;
  next_at_least = next_at_least;
  next_at_most = next_at_most;
  used = used;
  generation = generation;
  tables = tables.tables;
  past = tables.past;
}

-- a removal that has just been done, in the terms of the laws
just_removed : (by : ℕ) (state : State) → IsJustKilled by state → IsJustRemoved by state
just_removed by (Dead one two) killed = record {
  first = λ peer. (
    λ inside. eqb-true peer by (sym (killed.0 peer) ∙ inside),
    λ own. killed.0 peer ∙ eq-eqb peer by own,
  );
  second = λ peer inside. false≢true (sym (killed.1 peer) ∙ inside);
}
just_removed by Live killed = absurd killed

-- the one entry that the operation enters, live
new_is : (number : Id) (op : Op) (new : ModelEntry) → entered_by number op ≡ Some new → (entry : Entry) →
    IsNewEntry number op entry → entry ≡ held_live new
new_is number op new enters entry is_new =
    let place : place_of entry ≡ new = same_Some (place_of entry) new (sym is_new.enters ∙ enters) in
    λ i. record {
      id = (place i).id;
      dir = (place i).dir;
      name = (place i).name;
      target = (place i).target;
      state = is_new.alive i;
    }

-- what an operation makes of entries of which those are removed that it removes
module _ (by : ℕ) (number : Id) (op : Op) where
  abbrev removes : List Id
  removes = removed_by number op

  left_entry : {entry after : Entry} → IsLeftAs removes by entry after → IsSteppedTo by removes entry after
  left_entry {entry} {after} is = record {
    same = ap place_of is.same;
    removed = λ inside. just_removed by after.state (is.removed inside);
    left = is.left;
  }

  -- what it doesn't remove it leaves
  stays : (entry : Entry) → (Contains removes entry.id → ⊥) → IsSteppedTo by removes entry entry
  stays entry outside = record { same = refl; removed = λ inside. absurd (outside inside); left = λ _. refl }

  module _ {entries left : List Entry} (killed : AreKilled entries left removes by) where
    -- the list has what is left and the entry that it enters, which it doesn't remove
    entered_only : {after : List Entry} →
        ((entry : Entry) → IsNewEntry number op entry → Contains removes entry.id → ⊥) →
        ((entry : Entry) → Contains after entry ↔ (Contains left entry ⊎ IsNewEntry number op entry)) →
        AreEntriesStepped by number op entries after
    entered_only {after} outside same = record {
      from = λ entry inside. elim ((same entry).0 inside) [
        | inl old ↦
            let found = killed.from entry old in
            record { entry = found.entry; from = inl found.inside; stepped = left_entry found.is }
        | inr new ↦ record { entry = entry; from = inr new; stepped = stays entry (outside entry new) }
      ];
      all = λ entry there. becomes entry there;
    }
      where
        becomes : (entry : Entry) → Contains entries entry ⊎ IsNewEntry number op entry →
            HasSteppedEntry by number op entry after
        becomes entry (inl old) =
            let found = killed.all entry old in
            record { next = found.after; inside = (same found.after).1 (inl found.inside); stepped = left_entry found.is }
        becomes entry (inr new) =
            record { next = entry; inside = (same entry).1 (inr new); stepped = stays entry (outside entry new) }

    -- where it enters none, what is left
    pub entered_none : ((entry : ModelEntry) → entered_by number op ≡ Some entry → ⊥) →
        AreEntriesStepped by number op entries left
    entered_none none =
        entered_only {after = left} (λ entry new. absurd (none (place_of entry) new.enters))
        (λ entry. (λ inside. inl inside, λ there. was entry there))
      where
        was : (entry : Entry) → Contains left entry ⊎ IsNewEntry number op entry → Contains left entry
        was entry (inl inside) = inside
        was entry (inr new) = absurd (none (place_of entry) new.enters)

    -- and where it enters this one, it too
    pub entered_one : {after : List Entry} (new : ModelEntry) → entered_by number op ≡ Some new →
        (Contains removes new.id → ⊥) → AddsEntry left after (held_live new) →
        AreEntriesStepped by number op entries after
    entered_one {after} new enters outside adds =
        entered_only {after = after}
        (λ entry is_new inside. outside
        (subst (λ (e : Entry). Contains removes e.id) (new_is number op new enters entry is_new) inside))
        (λ entry. (
          λ inside. out entry ((adds entry).0 inside),
          λ there. (adds entry).1 (into entry there),
        ))
      where
        out : (entry : Entry) → Contains left entry ⊎ (entry ≡ held_live new) →
            Contains left entry ⊎ IsNewEntry number op entry
        out entry (inl inside) = inl inside
        out entry (inr is) = inr (subst (IsNewEntry number op) (sym is) (record { enters = enters; alive = refl }))

        into : (entry : Entry) → Contains left entry ⊎ IsNewEntry number op entry →
            Contains left entry ⊎ (entry ≡ held_live new)
        into entry (inl inside) = inl inside
        into entry (inr is_new) = inr (new_is number op new enters entry is_new)

  -- where it enters this one and removes it at once, the list has what it was and this one, removed
  pub entered_removed : {entries after : List Entry} {state : State} (new : ModelEntry) →
      entered_by number op ≡ Some new → Contains removes new.id → IsJustKilled by state →
      ((entry : Entry) → Contains entries entry → Contains removes entry.id → ⊥) →
      AddsEntry entries after (held_as new state) → AreEntriesStepped by number op entries after
  entered_removed {entries} {after} {state} new enters inside killed outside adds = record {
    from = λ entry there. was entry ((adds entry).0 there);
    all = λ entry there. becomes entry there;
  }
    where
      -- the new entry, live, is left as it stands in the list
      removed_at_once : IsSteppedTo by removes (held_live new) (held_as new state)
      removed_at_once = record {
        same = refl;
        removed = λ _. just_removed by state killed;
        left = λ out. absurd (out inside);
      }

      new_entry : IsNewEntry number op (held_live new)
      new_entry = record { enters = enters; alive = refl }

      was : (entry : Entry) → Contains entries entry ⊎ (entry ≡ held_as new state) →
          IsFromEntry by number op entries entry
      was entry (inl old) =
          record { entry = entry; from = inl old; stepped = stays entry (outside entry old) }
      was entry (inr is) = subst (IsFromEntry by number op entries) (sym is)
          (record { entry = held_live new; from = inr new_entry; stepped = removed_at_once })

      becomes : (entry : Entry) → Contains entries entry ⊎ IsNewEntry number op entry →
          HasSteppedEntry by number op entry after
      becomes entry (inl old) =
          record { next = entry; inside = (adds entry).1 (inl old); stepped = stays entry (outside entry old) }
      becomes entry (inr is_new) = subst (λ (e : Entry). HasSteppedEntry by number op e after)
          (sym (new_is number op new enters entry is_new))
          (record { next = held_as new state; inside = (adds (held_as new state)).1 (inr refl); stepped = removed_at_once })
