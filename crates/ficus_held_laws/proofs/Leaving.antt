-- What an event that brings no update, and one that collects, make of the objects that a replica keeps.
use Rattle.std.proofs.Common.{◌≡◌, ◌≢◌, ◌⊎◌, ℕ, List, [], ◌∷◌, ◌++◌, length, Option, Some, None, refl, sym, subst, inl, inr}
use Rattle.std.specs.Prelude.{Contains}
use Rattle.ficus_ids.specs.IdLaws.{same_id_or_not}
use Rattle.ficus_ids.specs.ListLaws.{here, there, here_or_there, not_inside_none}
use Rattle.ficus_ids.specs.Rising.{HoldsUnderBy}
use Rattle.ficus_ids.specs.RisingLaws.{held_or_not}
use Rattle.ficus_ids.specs.declared.id.Id.{Id}
use Rattle.ficus_ids.specs.declared.kind.Kind.{Kind}
use Rattle.ficus_entry.specs.Entry.{HoldsUnder}
use Rattle.ficus_entry.specs.declared.entry.Entry.{Entry as Kept}
use Rattle.ficus_model.specs.declared.event.Event.{Event}
use Rattle.ficus_model.specs.declared.event.Event.TheVariants.{Collect}
use Rattle.ficus_model.specs.Events.{actor}
use Rattle.ficus_model.specs.Known.{Knows}
use Rattle.ficus_model.specs.Live.{ModelEntry, IsEntered, IsMade}
use Rattle.ficus_model.specs.Held.{IsDropped, Touches, IsDone, IsHeldObject}
use Rattle.ficus_model.specs.Vectors.{IsCoverOf}
use Rattle.ficus_laws.specs.Updates.{IsQuiet}
use Rattle.ficus_laws.proofs.Deciding.{Decided}
use Rattle.ficus_laws.proofs.Knowledge.{knows_none}
use Rattle.ficus_laws.proofs.Issued.{entered_once, made_once}
use Rattle.ficus_laws.proofs.Shown.{entered_within, made_within}
use Rattle.ficus_laws.proofs.Views.{KnowsSame, same_turned, same_updates, kept_known}
use Rattle.ficus_version_laws.specs.Listed.{Item, AreShown}
use Rattle.ficus_version_laws.proofs.Advancing.{are_shown_kept}
use Rattle.ficus_version_laws.proofs.Covering.{cover_kept}
use Rattle.ficus_held_laws.specs.Entries.{IsKeptEntry, AreKeptEntries, IsIdle, place_of}
use Rattle.ficus_held_laws.specs.Objects.{KeptObject, IsKeptObject, HasObject, HasKind, HasDone, AreKeptObjects, IsTouched, AreOrphans, AreLeft}
use Rattle.ficus_removal_laws.specs.Marks.{IsTwoFull}
use Rattle.ficus_removal_laws.proofs.Dropping.{dropped_more, dropped_cases, dropped_now}
use Rattle.ficus_final_laws.specs.Laws.{IsGivenUp}
use Rattle.ficus_final_laws.proofs.Collecting.{done_cases, done_now}
use Rattle.ficus_held_laws.proofs.Done.{done_was, done_stays}
use Rattle.ficus_held_laws.proofs.Standing.{idle_quiet, others_collect_not}

-- a list has an object with the identifier, or it doesn't
pub object_or_not : (objects : List KeptObject) (id : Id) → Decided (HasObject objects id)
object_or_not objects id = go (held_or_not (λ object. object.id) objects id)
  where
    go : (found : Option KeptObject) × HoldsUnderBy (λ object. object.id) objects id found →
        Decided (HasObject objects id)
    go (Some object, (inside, named)) = inl (record { object = object; inside = inside; named = named })
    go (None, none) = inr (λ has. none (record { item = has.object; inside = has.inside; has_id = has.named }))

pub no_objects : (members replica : ℕ) → AreKeptObjects members [] replica []
no_objects members replica = record {
  each = λ object inside. absurd (not_inside_none object inside);
  absent = λ id kind m none. absurd (knows_none m.known);
}

-- a held object is listed
pub held_listed : {members : ℕ} {H : List Event} {replica : ℕ} {objects : List KeptObject} {id : Id} {kind : Kind} →
    AreKeptObjects members H replica objects → IsHeldObject members H replica id kind → HasKind objects id kind
held_listed {members} {H} {replica} {objects} {id} {kind} kept h = go (object_or_not objects id)
  where
    go : Decided (HasObject objects id) → HasKind objects id kind
    go (inl has) = record {
      has = has;
      of = made_once
          (subst (λ k. IsMade H (Knows H replica) k has.object.kind) has.named (kept.each has.object has.inside).held.made)
          h.made;
    }
    go (inr none) = let g = kept.absent id kind h.made none in absurd (h.held g.position g.done)

-- In each of these an event of another replica has come, or one that is no update and takes nothing.
module _ (H : List Event) (event : Event) (replica : ℕ) (kept : (actor event ≢ replica) ⊎ IsQuiet event) where
  abbrev after : List Event
  after = H ++ event ∷ []

  pub known_kept : KnowsSame H (Knows H replica) after (Knows after replica)
  known_kept = kept_known H event replica kept

  pub made_kept : {object : Id} {kind : Kind} → IsMade H (Knows H replica) object kind →
      IsMade after (Knows after replica) object kind
  made_kept m = made_within (same_updates known_kept).there m

  pub made_was : {object : Id} {kind : Kind} → IsMade after (Knows after replica) object kind →
      IsMade H (Knows H replica) object kind
  made_was m = made_within (same_updates known_kept).back m

  pub versions_kept : {file : Id} {versions : List Item} → AreShown H (Knows H replica) file versions →
      AreShown after (Knows after replica) file versions
  versions_kept a = (are_shown_kept H event replica (λ position v k. (same_turned known_kept).there.known v.update k)).0 a

  pub covers_kept : {file : Id} {cover : ℕ → ℕ} → IsCoverOf H (Knows H replica) file cover →
      IsCoverOf after (Knows after replica) file cover
  covers_kept d = cover_kept H event replica (λ position c k. (same_turned known_kept).there.known c.update k) d

quiet : {replica : ℕ} (event : Event) → (actor event ≢ replica) ⊎ IsIdle event → (actor event ≢ replica) ⊎ IsQuiet event
quiet event (inl differs) = inl differs
quiet event (inr idle) = inr (idle_quiet event idle)

-- an event of another replica, and an idle one, leaves the objects
module _ {members : ℕ} (H : List Event) (event : Event) (replica : ℕ)
    (other : (actor event ≢ replica) ⊎ IsIdle event) where
  pub objects_kept : {objects : List KeptObject} → AreKeptObjects members H replica objects →
      AreKeptObjects members (H ++ event ∷ []) replica objects
  objects_kept a = record {
    each = λ object inside.
        let k = a.each object inside in
        record {
          held = record {
            made = made_kept H event replica (quiet event other) k.held.made;
            held = λ position d. k.held.held position (done_was event (others_collect_not other) d);
          };
          versions = versions_kept H event replica (quiet event other) k.versions;
          cover = covers_kept H event replica (quiet event other) k.cover;
        };
    absent = λ id kind m none. done_stays event
        (a.absent id kind (made_was H event replica (quiet event other) m) none);
  }

-- an entry touches an object, or it doesn't
touches_decided : (entry : ModelEntry) (object : Id) → Decided (Touches entry object)
touches_decided entry object = go (same_id_or_not entry.target object) (same_id_or_not entry.dir object)
  where
    neither : entry.target ≢ object → entry.dir ≢ object → Touches entry object → ⊥
    neither no_target no_dir (inl leads) = no_target leads
    neither no_target no_dir (inr lies) = no_dir lies

    go : (entry.target ≡ object) ⊎ (entry.target ≢ object) → (entry.dir ≡ object) ⊎ (entry.dir ≢ object) →
        Decided (Touches entry object)
    go (inl leads) dir = inl (inl leads)
    go (inr no_target) (inl lies) = inl (inr lies)
    go (inr no_target) (inr no_dir) = inr (neither no_target no_dir)

pub touched_or_not : (entries : List Kept) (object : Id) → Decided (IsTouched entries object)
touched_or_not [] object = inr (λ touched. not_inside_none touched.entry touched.inside)
touched_or_not (first ∷ entries) object = go (touches_decided (place_of first) object) (touched_or_not entries object)
  where
    neither : (Touches (place_of first) object → ⊥) → (IsTouched entries object → ⊥) → (entry : Kept) →
        (entry ≡ first) ⊎ Contains entries entry → Touches (place_of entry) object → ⊥
    neither not_first none entry (inl is) touches =
        not_first (subst (λ (found : Kept). Touches (place_of found) object) is touches)
    neither not_first none entry (inr later) touches =
        none (record { entry = entry; inside = later; touches = touches })

    go : Decided (Touches (place_of first) object) → Decided (IsTouched entries object) →
        Decided (IsTouched (first ∷ entries) object)
    go (inl touches) rest = inl (record { entry = first; inside = here first entries; touches = touches })
    go (inr not_first) (inl rest) =
        inl (record { entry = rest.entry; inside = there first rest.entry entries rest.inside; touches = rest.touches })
    go (inr not_first) (inr none) = inr (λ touched.
        neither not_first none touched.entry (here_or_there first touched.entry entries touched.inside) touched.touches)

-- In each of these a replica collects. The lists are its entries then and its orphans, and its objects before and then.
module _ {members : ℕ} (H : List Event) (replica : ℕ) (entries : List Kept) (orphans : List Id)
    (objects left : List KeptObject) (kept_entries : AreKeptEntries members (H ++ Collect replica ∷ []) replica entries)
    (are_orphans : AreOrphans H replica orphans) (here : AreKeptObjects members H replica objects)
    (are_left : AreLeft objects entries orphans left) where
  abbrev collected : List Event
  collected = H ++ Collect replica ∷ []

  abbrev is_quiet : (actor (Collect replica) ≢ replica) ⊎ IsQuiet (Collect replica)
  is_quiet = inr tt

  same_known : KnowsSame H (Knows H replica) collected (Knows collected replica)
  same_known = known_kept H (Collect replica) replica is_quiet

  -- what is left isn't given up by this Collect
  not_given_up : {object : Id} → IsTouched entries object ⊎ Contains orphans object →
      IsGivenUp members H replica object → ⊥
  not_given_up (inl touched) g =
      go (g.dropped (place_of touched.entry) (entered_within (same_updates same_known).back k.held.entered) touched.touches)
    where
      k : IsKeptEntry members collected replica touched.entry
      k = kept_entries.each touched.entry touched.inside

      go : IsDropped members H replica touched.entry.id ⊎ IsTwoFull members H replica touched.entry.id → ⊥
      go (inl was) = k.held.held (dropped_more (Collect replica ∷ []) was)
      go (inr full) = k.held.held (dropped_now (Collect replica) refl full)
  not_given_up {object} (inr orphan) g = g.no_orphan ((are_orphans object).0 orphan)

  left_kept : (object : KeptObject) → Contains left object → IsKeptObject members collected replica object
  left_kept object inside = record {
    held = record {
      made = made_kept H (Collect replica) replica is_quiet k.held.made;
      held = λ position d. held (done_cases members H replica object.id (Collect replica) d);
    };
    versions = versions_kept H (Collect replica) replica is_quiet k.versions;
    cover = covers_kept H (Collect replica) replica is_quiet k.cover;
  }
    where
      why : Contains objects object × (IsTouched entries object.id ⊎ Contains orphans object.id)
      why = (are_left object).0 inside

      k : IsKeptObject members H replica object
      k = here.each object why.0

      held : {position : ℕ} → IsDone members H replica object.id position ⊎
          ((position ≡ length H) × (Collect replica ≡ Collect replica) × IsGivenUp members H replica object.id) → ⊥
      held {position} (inl was) = k.held.held position was
      held (inr (end, is, g)) = not_given_up why.1 g

  -- a known entry that touches an object which no entry of the list touches is dropped
  entry_dropped : {object : Id} → (IsTouched entries object → ⊥) → (entry : ModelEntry) →
      IsEntered collected (Knows collected replica) entry → Touches entry object →
      IsDropped members collected replica entry.id
  entry_dropped {object} untouched entry e touches = go (held_or_not (λ (item : Kept). item.id) entries entry.id)
    where
      go : (found : Option Kept) × HoldsUnder entries entry.id found → IsDropped members collected replica entry.id
      go (None, none) = kept_entries.absent entry.id none (record { entry = entry; entered = e; named = refl })
      go (Some found, (inside, named)) = absurd (untouched (record {
        entry = found;
        inside = inside;
        touches = subst (λ place. Touches place object)
            (entered_once e (kept_entries.each found inside).held.entered (sym named)) touches;
      }))

  left_absent : (id : Id) (kind : Kind) → IsMade collected (Knows collected replica) id kind → (HasObject left id → ⊥) →
      HasDone members collected replica id
  left_absent id kind m none = go (object_or_not objects id)
    where
      was_made : IsMade H (Knows H replica) id kind
      was_made = made_was H (Collect replica) replica is_quiet m

      given_up : (IsTouched entries id → ⊥) → (Contains orphans id → ⊥) → IsGivenUp members H replica id
      given_up untouched no_orphan = record {
        kind = kind;
        made = was_made;
        dropped = λ entry e touches. dropped (dropped_cases (Collect replica)
            (entry_dropped untouched entry (entered_within (same_updates same_known).there e) touches));
        no_orphan = λ o. no_orphan ((are_orphans id).1 o);
      }
        where
          dropped : {entry : Id} → IsDropped members H replica entry ⊎
              ((Collect replica ≡ Collect replica) × IsTwoFull members H replica entry) →
              IsDropped members H replica entry ⊎ IsTwoFull members H replica entry
          dropped (inl was) = inl was
          dropped (inr (is, full)) = inr full

      unlisted : (object : KeptObject) → Contains objects object → object.id ≡ id →
          IsTouched entries id ⊎ Contains orphans id → ⊥
      unlisted object inside named why = none (record {
        object = object;
        inside = (are_left object).1
            (inside, subst (λ k. IsTouched entries k ⊎ Contains orphans k) (sym named) why);
        named = named;
      })

      go : Decided (HasObject objects id) → HasDone members collected replica id
      go (inr none_before) = done_stays (Collect replica) (here.absent id kind was_made none_before)
      go (inl has) = record {
        position = length H;
        done = done_now members H replica id (Collect replica) refl (given_up
            (λ touched. unlisted has.object has.inside has.named (inl touched))
            (λ orphan. unlisted has.object has.inside has.named (inr orphan)));
      }

  pub objects_left : AreKeptObjects members collected replica left
  objects_left = record { each = left_kept; absent = left_absent }
