-- What a list of entries that a replica holds has.
use Rattle.std.proofs.Common.{◌≡◌, ℕ, List, Some, refl, sym, subst}
use Rattle.std.specs.Prelude.{Contains}
use Rattle.ficus_ids.specs.Members.{IsMember}
use Rattle.ficus_ids.specs.RisingLaws.{same_items}
use Rattle.ficus_entry.specs.declared.entry.Entry.{Entry}
use Rattle.ficus_entry.specs.declared.entry.State.TheVariants.{Live, Dead}
use Rattle.ficus_model.specs.declared.event.Event.{Event}
use Rattle.ficus_model.specs.Held.{IsHeldEntry}
use Rattle.ficus_model.specs.Known.{Knows}
use Rattle.ficus_model.specs.Live.{IsLive}
use Rattle.ficus_removal_laws.specs.Marks.{IsMarked}
use Rattle.ficus_removal_laws.proofs.Dropping.{dropped_removed}
use Rattle.ficus_merge_laws.specs.States.{StandsAs}
use Rattle.ficus_held_laws.specs.Entries.{IsKeptEntry, place_of}
use Rattle.ficus_held_laws.proofs.Keeping.{kept_listed}
use Rattle.ficus_held_file_laws.specs.Tables.{AreHeldEntries}

module _ {members : ℕ} {H : List Event} {replica : ℕ} where
  pub entries_once : {entries others : List Entry} → AreHeldEntries members H replica entries →
      AreHeldEntries members H replica others → entries ≡ others
  entries_once {entries} {others} held held_too =
      same_items (λ (entry : Entry). entry.id) entries others held.rising held_too.rising (λ entry. (
        λ inside. kept_listed held_too.kept (held.kept.each entry inside),
        λ inside. kept_listed held.kept (held_too.kept.each entry inside),
      ))

  kept_live : {entry : Entry} → entry.state ≡ Live → IsKeptEntry members H replica entry →
      IsLive H (Knows H replica) (place_of entry)
  kept_live {entry} is k =
      let alive = subst (λ state. StandsAs members H replica entry.id (Some state)) is k.state in
      record { entered = k.held.entered; not_removed = alive.not_removed }

  -- what is alive isn't dropped, since it would be removed
  live_kept : {entry : Entry} → IsMember members replica → entry.state ≡ Live →
      IsLive H (Knows H replica) (place_of entry) → IsKeptEntry members H replica entry
  live_kept {entry} m is live = record {
    held = record { entered = live.entered; held = λ d. live.not_removed (dropped_removed d m) };
    state = subst (λ state. StandsAs members H replica entry.id (Some state)) (sym is) (record {
      entered = record { entry = place_of entry; entered = live.entered; named = refl };
      not_removed = live.not_removed;
    });
  }

  pub live_from_listed : {entries : List Entry} {entry : Entry} → AreHeldEntries members H replica entries →
      entry.state ≡ Live → Contains entries entry → IsLive H (Knows H replica) (place_of entry)
  live_from_listed {entry = entry} held is inside = kept_live is (held.kept.each entry inside)

  pub live_listed : {entries : List Entry} {entry : Entry} → AreHeldEntries members H replica entries →
      IsMember members replica → entry.state ≡ Live → IsLive H (Knows H replica) (place_of entry) →
      Contains entries entry
  live_listed held m is live = kept_listed held.kept (live_kept m is live)

  -- a removed entry is listed with two sets exactly where it is held, and the history gives it these
  module _ {entries : List Entry} {entry : Entry} {one two : ℕ} (held : AreHeldEntries members H replica entries)
      (is : entry.state ≡ Dead one two) where
    pub removed_from_listed : Contains entries entry →
        IsHeldEntry members H replica (place_of entry) × IsMarked members H replica entry.id one two
    removed_from_listed inside =
        let k = held.kept.each entry inside in
        (k.held, subst (λ state. StandsAs members H replica entry.id (Some state)) is k.state)

    pub removed_listed : IsHeldEntry members H replica (place_of entry) × IsMarked members H replica entry.id one two →
        Contains entries entry
    removed_listed (held_entry, marked) = kept_listed held.kept (record {
      held = held_entry;
      state = subst (λ state. StandsAs members H replica entry.id (Some state)) (sym is) marked;
    })
