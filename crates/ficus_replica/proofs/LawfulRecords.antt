-- The record of an event that may come after a history fits what is saved after the history.
use Rattle.std.proofs.Common.{◌≡◌, ◌⊎◌, ◌<◌, ◌≤◌, ◌-◌, ◌^◌, ℕ, List, refl, sym, ap, subst, ◌∙◌, inl, inr, arith}
use Rattle.ficus_ids.specs.Members.{IsCount}
use Rattle.ficus_ids.specs.declared.id.Id.{Id}
use Rattle.ficus_ids.specs.declared.id.TheConstants.{ROOT}
use Rattle.ficus_ids.specs.Kind.{sort_of}
use Rattle.ficus_ids.specs.declared.kind.Kind.{Kind}
use Rattle.ficus_ids.specs.declared.kind.Kind.TheVariants.{Dir}
use Rattle.ficus_model.specs.declared.event.Event.{Event}
use Rattle.ficus_model.specs.declared.event.Op.{Op}
use Rattle.ficus_model.specs.declared.event.Op.TheVariants.{Make, Link, Remove, Move, Write, Settle, Resolve, Adopt, Discard}
use Rattle.ficus_model.specs.Known.{Knows}
use Rattle.ficus_model.specs.Lawful.{Volume, IsLawful, IsAllowed, AreNames, FitsBytes, HasBytesLeft, MayCome, MayUpdate}
use Rattle.ficus_model.specs.Live.{IsFile, IsMade, IsVersioned}
use Rattle.ficus_model.specs.Reached.IsReached.{Base, Through}
use Rattle.ficus_model.specs.View.{IsInReach, IsOrphan, IsReachedDirectory, IsVisible}
use Rattle.ficus_durable_state.specs.Saved.{FitsImage}
use Rattle.ficus_durable_state.specs.declared.saved.Saved.{Saved}
use Rattle.ficus_file.specs.Files.{Holds}
use Rattle.ficus_held_file_laws.specs.Laws.{ListsObject}
use Rattle.ficus_laws.proofs.Issued.{made_issued}
use Rattle.ficus_record.specs.declared.record.Record.{Record}
use Rattle.ficus_deciding.specs.View.{held_live}
use Rattle.ficus_replica.specs.Effect.{MayWrite}
use Rattle.ficus_replica.specs.Makes.{FitsIn, FitsOpIn, FitsUpdate, IsFit, IsPlace}
use Rattle.ficus_replica.specs.Makes.{AreNames as AreHeldNames, IsFile as IsHeldFile}
use Rattle.ficus_replica.specs.Recording.{IsRecordOf}
use Rattle.ficus_replica.specs.Recording.IsRecordOf.{OfUpdate, OfAsk, OfAccept, OfCollect}
use Rattle.ficus_replica.specs.SavedOf.{IsSavedOf}
use Rattle.ficus_replica.proofs.Accepts.{served_fits}
use Rattle.ficus_replica.proofs.Views.{live_history, orphan_made, visible_listed}

-- what is in reach is the root or visible
reached_visible : (H : List Event) (U : ℕ → Type 0) (object : Id) → IsInReach H U object
    → (object ≡ ROOT) ⊎ IsVisible H U object
reached_visible H U object (Base (inl root)) = inl root
reached_visible H U object (Base (inr orphan)) = inr (inr orphan)
reached_visible H U object (Through before leads) =
    inr (inl (record { entry = leads.bound.entry; live = leads.bound.live; leads = leads.bound.leads }))

-- In each of these a replica saves after a lawful history.
module _ {volume : Volume} {H : List Event} {r : ℕ} {saved : Saved} (lawful : IsLawful volume H)
    (is : IsSavedOf volume H r saved) where
  -- an object that is made and in reach is held
  reached_listed : (object : Id) (kind : Kind) → IsInReach H (Knows H r) object → IsMade H (Knows H r) object kind
      → ListsObject saved.files object kind
  reached_listed object kind reached made = elim (reached_visible H (Knows H r) object reached) [
    | inl root ↦ absurd (omega (arith, (made_issued made).at_least, ap (λ (id : Id). id.number) root))
    | inr visible ↦ visible_listed lawful is visible made
  ]

  place_held : (dir : Id) → IsReachedDirectory H (Knows H r) dir → IsPlace saved dir
  place_held dir parent = elim parent.directory [
    | inl root ↦ inl root
    | inr made ↦
        let row = reached_listed dir Dir parent.reached made in
        inr (record { file = row.file; inside = row.inside; has_id = row.has_id; fit = row.of_kind })
  ]

  file_held : (object : Id) → IsVisible H (Knows H r) object → IsFile H (Knows H r) object → IsHeldFile saved object
  file_held object visible file =
      let row = visible_listed lawful is visible file.made in
      record {
        file = row.file;
        inside = row.inside;
        has_id = row.has_id;
        fit = λ dir. file.other (sym row.of_kind ∙ dir);
      }

  write_fits : (object : Id) (bytes : List ℕ) → IsInReach H (Knows H r) object → IsVersioned H (Knows H r) object
      → FitsBytes volume H r bytes → MayWrite saved object bytes
  write_fits object bytes reached versioned left =
      let row = reached_listed object versioned.kind reached versioned.made in
      record {
        held = record {
          file = row.file;
          inside = row.inside;
          has_id = row.has_id;
          fit = ap sort_of row.of_kind ∙ versioned.changes;
        };
        one_file = omega (arith, left.one_file);
        left = omega (arith, left.left, is.used, is.bytes);
      }

  names_held : (entries : List Id) (object : Id) → AreNames H (Knows H r) entries object
      → AreHeldNames saved entries object
  names_held entries object names = record {
    some = names.some;
    each = λ id inside.
        let by = (names.all id).0 inside in
        record {
          entry = held_live by.bound.entry;
          inside = (live_history lawful is by.bound.entry).1 by.bound.live;
          has_id = by.by;
          live = refl;
          leads = by.bound.leads;
        };
  }

  orphan_held : (object : Id) → IsOrphan H (Knows H r) object → Holds saved.files object
  orphan_held object orphan =
      let row = visible_listed lawful is (inr orphan) (orphan_made orphan).1 in
      record { item = row.file; inside = row.inside; has_id = row.has_id }

  op_fits : (op : Op) → HasBytesLeft volume H r op → IsAllowed H (Knows H r) op → FitsOpIn saved op
  op_fits (Make dir name kind text) left may = record {
    place = place_held dir may.place.parent;
    left = omega (arith, left.left, is.used, is.bytes);
  }
  op_fits (Link dir name target) left may = (
    place_held dir may.place.parent,
    file_held target
        (inl (record { entry = may.named.bound.entry; live = may.named.bound.live; leads = may.named.bound.leads }))
        may.is_file,
  )
  op_fits (Remove entries target) left may = names_held entries target may.names
  op_fits (Move entries dir name target) left may =
      (names_held entries target may.names, place_held dir may.place.parent)
  op_fits (Write file bytes) left may = write_fits file bytes may.in_reach.reached may.versioned left
  op_fits (Settle file bytes) left may = write_fits file bytes may.in_reach.reached may.versioned left
  op_fits (Resolve file bytes) left may = write_fits file bytes may.in_reach.reached may.versioned left
  op_fits (Adopt file dir name) left may = (place_held dir may.place.parent, orphan_held file may.orphan)
  op_fits (Discard file) left may = file_held file (inr may.orphan) may.is_file

  update_fits : (op : Op) → MayUpdate volume H r op → FitsUpdate saved op
  update_fits op may = record {
    left = omega (arith, may.left, is.next, is.ids);
    fits = op_fits op may.bytes may.allowed;
  }

  lawful_fits : volume.members ≤ 8 → {event : Event} {noted : Record} → MayCome volume H event
      → IsRecordOf volume H r event noted → FitsIn saved noted
  lawful_fits few may (OfUpdate {op = op}) = update_fits op may
  lawful_fits few may OfAsk = tt
  lawful_fits few may (OfAccept {serve = serve} {from = from} {number = number} {entries = entries} {files = files} served) =
      served_fits volume H r from number entries files serve saved few lawful is served
  lawful_fits few may OfCollect = tt

-- so it is of every history for which the replica saves
pub records_fitting : (volume : Volume) (H : List Event) (r : ℕ) (event : Event) (noted : Record) (saved : Saved)
    → FitsImage saved → saved.generation < 2 ^ 63 - 1 → IsLawful volume H → IsSavedOf volume H r saved
    → MayCome volume H event → IsRecordOf volume H r event noted → IsFit saved noted
records_fitting volume H r event noted saved fits generation lawful is may of = record {
  generation = generation;
  fits = lawful_fits lawful is (subst IsCount is.members fits.members).at_most may of;
}
