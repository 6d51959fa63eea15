-- What a Collect and an Accept make of the entries that a replica keeps.
use Rattle.std.proofs.Common.{◌≡◌, ◌↔◌, ◌⊎◌, ℕ, List, [], ◌∷◌, ◌++◌, Some, None, Option, refl, sym, ap, subst, inl, inr}
use Rattle.std.specs.Prelude.{Contains}
use Rattle.ficus_ids.specs.Members.{IsMember}
use Rattle.ficus_ids.specs.RisingLaws.{held_or_not}
use Rattle.ficus_ids.specs.declared.id.Id.{Id}
use Rattle.ficus_entry.specs.Entry.{HoldsUnder}
use Rattle.ficus_entry.specs.declared.entry.Entry.{Entry as Kept}
use Rattle.ficus_entry.specs.declared.entry.State.{State}
use Rattle.ficus_entry.specs.declared.entry.State.TheVariants.{Live, Dead}
use Rattle.ficus_merge_entries.specs.Merge.{MergesEntries}
use Rattle.ficus_merge_entries.specs.Table.{state_of, KeepsPlace, MergesEntry}
use Rattle.ficus_model.specs.declared.event.Event.{Event}
use Rattle.ficus_model.specs.declared.event.Event.TheVariants.{Accept, Collect}
use Rattle.ficus_model.specs.Events.{IsOf, through}
use Rattle.ficus_model.specs.Known.{Knows}
use Rattle.ficus_model.specs.Lawful.{Volume}
use Rattle.ficus_model.specs.Live.{IsEntered}
use Rattle.ficus_model.specs.Held.{IsDropped}
use Rattle.ficus_laws.specs.Updates.{UpdatesWithin}
use Rattle.ficus_laws.proofs.OneMore.{same_quiet, same_accept, same_seen, within_more}
use Rattle.ficus_laws.proofs.Shown.{entered_within, within_chain, within_joined_right}
use Rattle.ficus_removal_laws.specs.Laws.{IsAnswer}
use Rattle.ficus_removal_laws.specs.Marks.{IsTwoFull}
use Rattle.ficus_removal_laws.proofs.Carrying.{one_removed, all_one}
use Rattle.ficus_removal_laws.proofs.Hearing.{two_from_last}
use Rattle.ficus_removal_laws.proofs.Dropping.{dropped_cases, dropped_now, dropped_removed}
use Rattle.ficus_removal_laws.proofs.Marking.{marks_kept}
use Rattle.ficus_merge_laws.specs.States.{StandsAs}
use Rattle.ficus_merge_laws.proofs.Rows.{merge_stands}
use Rattle.ficus_collection.specs.Reclaim.{IsFullyKnown}
use Rattle.ficus_held_laws.specs.Entries.{IsKeptEntry, AreKeptEntries, place_of}
use Rattle.ficus_held_laws.proofs.Standing.{SameEntry, same_entry_back, same_from_updates, kept_same, kept_once}

-- a state that stands has a full second set exactly where the history says so
pub full_from_state : {members : ℕ} {H : List Event} {replica : ℕ} {id : Id} (state : State) →
    StandsAs members H replica id (Some state) → IsFullyKnown members state → IsTwoFull members H replica id
full_from_state Live stands full = absurd full
full_from_state (Dead one two) marked full = λ member m. (marked.second member).0 (full member m)

pub state_from_full : {members : ℕ} {H : List Event} {replica : ℕ} {id : Id} (state : State) →
    IsMember members replica → StandsAs members H replica id (Some state) → IsTwoFull members H replica id →
    IsFullyKnown members state
state_from_full {replica = replica} Live m alive full =
    alive.not_removed (one_removed (all_one (two_from_last (full replica m)) m))
state_from_full (Dead one two) m marked full = λ member p. (marked.second member).1 (full member p)

-- In each of these a replica collects.
module _ (members : ℕ) (H : List Event) (replica : ℕ) (is_member : IsMember members replica) where
  abbrev collected : List Event
  collected = H ++ Collect replica ∷ []

  -- an entry whose second set isn't full stays as it was
  pub collect_leaves : (id : Id) → (IsTwoFull members H replica id → ⊥) → SameEntry members H collected replica id
  collect_leaves id not_full = same_from_updates (Collect replica) (same_quiet H (Collect replica) replica tt)
      (marks_kept members H (Collect replica) replica id is_member (inr tt)) (λ d. go (dropped_cases (Collect replica) d))
    where
      go : IsDropped members H replica id ⊎ ((Collect replica ≡ Collect replica) × IsTwoFull members H replica id) →
          IsDropped members H replica id
      go (inl was) = was
      go (inr (is, full)) = absurd (not_full full)

  pub kept_collected : (entry : Kept) →
      IsKeptEntry members collected replica entry ↔
      (IsKeptEntry members H replica entry × (IsFullyKnown members entry.state → ⊥))
  kept_collected entry = (there, back)
    where
      there : IsKeptEntry members collected replica entry →
          IsKeptEntry members H replica entry × (IsFullyKnown members entry.state → ⊥)
      there k = (was, λ full. not_full (full_from_state entry.state was.state full))
        where
          not_full : IsTwoFull members H replica entry.id → ⊥
          not_full full = k.held.held (dropped_now (Collect replica) refl full)

          was : IsKeptEntry members H replica entry
          was = kept_same (same_entry_back (collect_leaves entry.id not_full)) k

      back : IsKeptEntry members H replica entry × (IsFullyKnown members entry.state → ⊥) →
          IsKeptEntry members collected replica entry
      back (k, not_full) =
          kept_same (collect_leaves entry.id (λ full. not_full (state_from_full entry.state is_member k.state full))) k

-- what a list of the kept entries has under an identifier, is the state of the entry there
pub listed_stands : {members : ℕ} {H : List Event} {replica : ℕ} {entries : List Kept} (id : Id) (found : Option Kept) →
    AreKeptEntries members H replica entries → HoldsUnder entries id found →
    StandsAs members H replica id (state_of found)
listed_stands id None kept none = kept.absent id none
listed_stands {members} {H} {replica} id (Some entry) kept (inside, named) =
    subst (λ k. StandsAs members H replica k (Some entry.state)) named (kept.each entry inside).state

-- a list of the kept entries has each of them
pub kept_listed : {members : ℕ} {H : List Event} {replica : ℕ} {entries : List Kept} {entry : Kept} →
    AreKeptEntries members H replica entries → IsKeptEntry members H replica entry → Contains entries entry
kept_listed {members} {H} {replica} {entries} {entry} kept k = go (held_or_not (λ item. item.id) entries entry.id)
  where
    go : (found : Option Kept) × HoldsUnder entries entry.id found → Contains entries entry
    go (None, none) = absurd (k.held.held (kept.absent entry.id none
        (record { entry = place_of entry; entered = k.held.entered; named = refl })))
    go (Some other, (inside, named)) = subst (Contains entries) (kept_once (kept.each other inside) k named) inside

-- the updates that a server knew when it served are known once they are taken
pub taken_within : (H : List Event) (replica served piece server : ℕ) → IsOf H served server →
    UpdatesWithin (through served H) (Knows (through served H) server)
    (H ++ Accept replica served piece ∷ []) (Knows (H ++ Accept replica served piece ∷ []) replica)
taken_within H replica served piece server by_server = within_chain (same_seen H served server by_server).back
    (within_chain within_joined_right (same_accept H replica served piece).there)

-- An answer is taken by replicas with these lists.
module _ (volume : Volume) (H : List Event) (replica served piece server : ℕ) (mine theirs after : List Kept)
    (answer : IsAnswer volume H replica served piece server) (here : AreKeptEntries volume.members H replica mine)
    (peers : AreKeptEntries volume.members (through served H) server theirs)
    (merges : MergesEntries replica volume.members mine theirs after) where
  abbrev accepted : List Event
  accepted = H ++ Accept replica served piece ∷ []

  row : (id : Id) (found : Option Kept) → HoldsUnder after id found →
      (at_r : Option Kept) × HoldsUnder mine id at_r × (at_peer : Option Kept) × HoldsUnder theirs id at_peer ×
      MergesEntry replica volume.members at_r at_peer found
  row id found held =
      let a = held_or_not (λ (item : Kept). item.id) mine id in
      let b = held_or_not (λ (item : Kept). item.id) theirs id in
      (a.0, a.1, b.0, b.1, merges.each id a.0 b.0 found a.1 b.1 held)

  merged_stands : (id : Id) (found : Option Kept) → HoldsUnder after id found →
      StandsAs volume.members accepted replica id (state_of found)
  merged_stands id found held =
      let (at_r, in_mine, at_peer, in_theirs, merged) = row id found held in
      merge_stands volume H replica served piece server id answer (state_of at_r) (state_of at_peer) (state_of found)
      (listed_stands id at_r here in_mine) (listed_stands id at_peer peers in_theirs) merged.state

  entered_at_server : {entry : Kept} → IsKeptEntry volume.members (through served H) server entry →
      IsEntered accepted (Knows accepted replica) (place_of entry)
  entered_at_server k = entered_within (taken_within H replica served piece server answer.by) k.held.entered

  merged_entered : (at_r at_peer : Option Kept) (entry : Kept) → HoldsUnder mine entry.id at_r →
      HoldsUnder theirs entry.id at_peer → KeepsPlace at_r at_peer (Some entry) →
      IsEntered accepted (Knows accepted replica) (place_of entry)
  merged_entered (Some own) at_peer entry (inside, named) held place =
      subst (IsEntered accepted (Knows accepted replica)) (sym (ap place_of place))
      (entered_within (within_more H (Accept replica served piece ∷ []) replica) (here.each own inside).held.entered)
  merged_entered None (Some his) entry none (inside, named) place =
      subst (IsEntered accepted (Knows accepted replica)) (sym (ap place_of place))
      (entered_at_server (peers.each his inside))
  merged_entered None None entry none nothing place = absurd place

  not_dropped : {id : Id} (state : State) → StandsAs volume.members accepted replica id (Some state) →
      IsDropped volume.members accepted replica id → ⊥
  not_dropped Live alive d = alive.not_removed (dropped_removed d answer.may.member)
  not_dropped (Dead one two) marked d = marked.held d

  pub merged_kept : AreKeptEntries volume.members accepted replica after
  merged_kept = record {
    each = λ entry inside.
        let (at_r, in_mine, at_peer, in_theirs, merged) = row entry.id (Some entry) (inside, refl) in
        let stands = merged_stands entry.id (Some entry) (inside, refl) in
        record {
          held = record {
            entered = merged_entered at_r at_peer entry in_mine in_theirs merged.place;
            held = not_dropped entry.state stands;
          };
          state = stands;
        };
    absent = λ id none. merged_stands id None none;
  }
