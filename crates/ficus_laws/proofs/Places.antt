-- Where the entries of a lawful history lie, and what they name.
use Rattle.std.proofs.Common.{◌≡◌, ◌≢◌, ◌⊎◌, ℕ, zero, suc, ◌+◌, ◌<◌, List, [], ◌∷◌, Some, refl, subst, inl, inr, arith}
use Rattle.std.specs.Prelude.{Contains, codes}
use Rattle.std.proofs.lemmas.Option.{same_Some}
use Rattle.ficus_ids.specs.ListLaws.{here}
use Rattle.ficus_ids.specs.declared.id.Id.{Id}
use Rattle.ficus_ids.specs.declared.id.TheConstants.{ATTIC}
use Rattle.ficus_ids.specs.declared.kind.Kind.{Kind}
use Rattle.ficus_ids.specs.declared.kind.Kind.TheVariants.{Dir}
use Rattle.ficus_model.specs.declared.event.Event.{Event}
use Rattle.ficus_model.specs.declared.event.Event.TheVariants.{Update}
use Rattle.ficus_model.specs.declared.event.Op.{Op}
use Rattle.ficus_model.specs.declared.event.Op.TheVariants.{Make, Link, Move, Adopt, Discard}
use Rattle.ficus_model.specs.Events.{IsOf, before}
use Rattle.ficus_model.specs.Known.{HasSeen, Knows}
use Rattle.ficus_model.specs.Known.HasSeen.{Earlier}
use Rattle.ficus_model.specs.Live.{ModelEntry, entry_of, entered_by, removed_by, IsEntered, IsRemoved, IsLive, IsMade, IsDirectory}
use Rattle.ficus_model.specs.View.{IsFilled, HasUnseen, IsOrphan}
use Rattle.ficus_model.specs.Lawful.{Volume, AreNames, IsAllowed, MayUpdate, IsLawful}
use Rattle.ficus_laws.specs.Updates.{HasUpdate, UpdatesWithin}
use Rattle.ficus_laws.proofs.Positions.{agree_before, at_from_before, of_at, of_from_before}
use Rattle.ficus_laws.proofs.Updates.{agree_update}
use Rattle.ficus_laws.proofs.Seen.{seen_from_before}
use Rattle.ficus_laws.proofs.Knowledge.{knows_past}
use Rattle.ficus_laws.proofs.Shown.{made_within, directory_within, entered_has, removed_from}
use Rattle.ficus_laws.proofs.AfterUpdate.{enters_none}
use Rattle.ficus_laws.proofs.Lawful.{lawful_before}

-- what a replica knew before an event of its own, the event has seen
pub seen_past : {H : List Event} {at replica position : ℕ} → IsOf H at replica → Knows (before at H) replica position →
    HasSeen H at position
seen_past {H} {at} own k =
    let (h, old) = of_from_before at k.own in
    Earlier own old h (seen_from_before at k.seen).1

-- the updates that its replica knew before an event are known wherever the event is
pub within_past : {H : List Event} {at by replica : ℕ} → IsOf H at by → Knows H replica at →
    UpdatesWithin (before at H) (Knows (before at H) by) H (Knows H replica)
within_past {H} {at} own k = record {
  has = λ number op u. record {
    position = u.position;
    known = knows_past k (seen_past own u.known);
    update = agree_update (agree_before at H) (at_from_before at u.update.at).0 u.update;
  };
}

pub orphan_made : {H : List Event} {U : ℕ → Type 0} {object : Id} → IsOrphan H U object →
    (kind : Kind) × IsMade H U object kind
orphan_made {H} {U} {object} orphan = go orphan.kept
  where
    go : IsFilled H U object ⊎ HasUnseen H U object → (kind : Kind) × IsMade H U object kind
    go (inl filled) = (Dir, filled.made)
    go (inr unseen) = (unseen.is_file.kind, unseen.is_file.made)

-- an entry lies in a directory, or in the attic and is removed by the update that enters it
entered_place : (H : List Event) (U : ℕ → Type 0) (number : Id) (op : Op) (entry : ModelEntry) → IsAllowed H U op →
    entered_by number op ≡ Some entry →
    IsDirectory H U entry.dir ⊎ ((entry.dir ≡ ATTIC) × Contains (removed_by number op) number)
entered_place H U number (Make dir name kind text) entry may enters =
    inl (subst (λ found. IsDirectory H U found.dir) (same_Some (entry_of number dir name number) entry enters) may.place.parent.directory)
entered_place H U number (Link dir name target) entry may enters =
    inl (subst (λ found. IsDirectory H U found.dir) (same_Some (entry_of number dir name target) entry enters) may.place.parent.directory)
entered_place H U number (Move entries dir name target) entry may enters =
    inl (subst (λ found. IsDirectory H U found.dir) (same_Some (entry_of number dir name target) entry enters) may.place.parent.directory)
entered_place H U number (Adopt file dir name) entry may enters =
    inl (subst (λ found. IsDirectory H U found.dir) (same_Some (entry_of number dir name file) entry enters) may.place.parent.directory)
entered_place H U number (Discard file) entry may enters =
    let same = same_Some (entry_of number ATTIC (codes "discarded") file) entry enters in
    inr (subst (λ found. found.dir ≡ ATTIC) same refl, here number [])
entered_place H U number op entry may enters = absurd (enters_none entry enters)

-- in a lawful history each entry lies in a directory, or in the attic and is removed
pub entered_in_place : (volume : Volume) (H : List Event) {replica : ℕ} {entry : ModelEntry} → IsLawful volume H →
    IsEntered H (Knows H replica) entry →
    IsDirectory H (Knows H replica) entry.dir ⊎ ((entry.dir ≡ ATTIC) × IsRemoved H (Knows H replica) entry.id)
entered_in_place volume H {replica} {entry} lawful e =
    go (entered_place earlier (Knows earlier by) entry.id e.op entry may.allowed e.enters)
  where
    by : ℕ
    by = entry.id.replica

    earlier : List Event
    earlier = before e.position H

    may : MayUpdate volume earlier by e.op
    may = lawful.each e.position (Update by e.op) e.update.at

    go : IsDirectory earlier (Knows earlier by) entry.dir ⊎
        ((entry.dir ≡ ATTIC) × Contains (removed_by entry.id e.op) entry.id) →
        IsDirectory H (Knows H replica) entry.dir ⊎ ((entry.dir ≡ ATTIC) × IsRemoved H (Knows H replica) entry.id)
    go (inl directory) = inl (directory_within (within_past (of_at e.update.at) e.known) directory)
    go (inr (attic, removes)) = inr (attic, removed_from entry.id (entered_has e) removes)

-- so each live entry lies in a directory
pub live_in_directory : (volume : Volume) (H : List Event) {replica : ℕ} {entry : ModelEntry} → IsLawful volume H →
    IsLive H (Knows H replica) entry → IsDirectory H (Knows H replica) entry.dir
live_in_directory volume H {replica} {entry} lawful live = go (entered_in_place volume H lawful live.entered)
  where
    go : IsDirectory H (Knows H replica) entry.dir ⊎ ((entry.dir ≡ ATTIC) × IsRemoved H (Knows H replica) entry.id) →
        IsDirectory H (Knows H replica) entry.dir
    go (inl directory) = directory
    go (inr (attic, removed)) = absurd (live.not_removed removed)

-- In each of these an operation is done where less is known, by a replica that knows what the names lead to.
module _ {H K : List Event} {U V : ℕ → Type 0} (more : UpdatesWithin K V H U)
    (named : (entries : List Id) (target : Id) → AreNames K V entries target → (kind : Kind) × IsMade K V target kind) where
  known_target : {number target : Id} {entry : ModelEntry} (dir : Id) (name : List ℕ) →
      entered_by number (Link dir name target) ≡ Some entry → (kind : Kind) × IsMade K V target kind →
      (kind : Kind) × IsMade H U entry.target kind
  known_target {number} {target} {entry} dir name enters made =
      (made.0, subst (λ found. IsMade H U found.target made.0) (same_Some (entry_of number dir name target) entry enters) (made_within more made.1))

  target_made : (number : Id) (op : Op) (entry : ModelEntry) → HasUpdate H U number op → IsAllowed K V op →
      entered_by number op ≡ Some entry → (kind : Kind) × IsMade H U entry.target kind
  target_made number (Make dir name kind text) entry u may enters =
      let same = same_Some (entry_of number dir name number) entry enters in (
        kind,
        subst (λ found. IsMade H U found.target kind) same (record {
          position = u.position;
          dir = dir;
          name = name;
          text = text;
          known = u.known;
          update = u.update;
        }),
      )
  target_made number (Link dir name target) entry u may enters =
      known_target dir name enters (may.is_file.kind, may.is_file.made)
  target_made number (Move entries dir name target) entry u may enters =
      known_target dir name enters (named entries target may.names)
  target_made number (Adopt file dir name) entry u may enters = known_target dir name enters (orphan_made may.orphan)
  target_made number (Discard file) entry u may enters =
      known_target ATTIC (codes "discarded") enters (may.is_file.kind, may.is_file.made)
  target_made number op entry u may enters = absurd (enters_none entry enters)

pub some_inside : (entries : List Id) → entries ≢ [] → (id : Id) × Contains entries id
some_inside [] some = absurd (some refl)
some_inside (id ∷ entries) some = (id, here id entries)

target_made_below : (volume : Volume) (bound : ℕ) (H : List Event) {replica : ℕ} {entry : ModelEntry} →
    IsLawful volume H →
    (e : IsEntered H (Knows H replica) entry) → e.position < bound →
    (kind : Kind) × IsMade H (Knows H replica) entry.target kind
target_made_below volume zero H lawful e h = absurd (omega arith)
target_made_below volume (suc bound) H {replica} {entry} lawful e h =
    let by = entry.id.replica in
    let earlier = before e.position H in
    let may : MayUpdate volume earlier by e.op = lawful.each e.position (Update by e.op) e.update.at in
    target_made (within_past (of_at e.update.at) e.known) (λ entries target names.
    let some = some_inside entries names.some in
    let found = (names.all some.0).0 some.1 in
    let was = found.bound.live.entered in
    let below = (at_from_before e.position was.update.at).0 in
    let past = lawful_before volume H e.position lawful in
    let made = target_made_below volume bound earlier past was (omega arith) in
    (made.0, subst (λ object. IsMade earlier (Knows earlier by) object made.0) found.bound.leads made.1))
    entry.id e.op entry (entered_has e) may.allowed e.enters

-- in a lawful history each entry names an object that is made
pub entered_target : (volume : Volume) (H : List Event) {replica : ℕ} {entry : ModelEntry} → IsLawful volume H →
    IsEntered H (Knows H replica) entry → (kind : Kind) × IsMade H (Knows H replica) entry.target kind
entered_target volume H lawful e = target_made_below volume (e.position + 1) H lawful e (omega arith)
