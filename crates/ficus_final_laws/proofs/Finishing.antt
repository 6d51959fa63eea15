-- Once an object is done at some replica, that replica knew every use of it, past and to come, and each member knew
-- all of it.
use Rattle.std.proofs.Common.{◌≡◌, ◌⊎◌, ℕ, zero, suc, ◌+◌, ◌<◌, ◌≤◌, List, refl, subst, inl, inr, arith}
use Rattle.std.proofs.lemmas.Bool.{cases_lt}
use Rattle.ficus_ids.specs.Members.{IsMember}
use Rattle.ficus_ids.specs.declared.id.Id.{Id}
use Rattle.ficus_model.specs.declared.event.Event.{Event}
use Rattle.ficus_model.specs.declared.event.Op.TheVariants.{Make}
use Rattle.ficus_model.specs.Events.{IsOf, IsUpdate, before}
use Rattle.ficus_model.specs.Known.{Knows, HasInPast}
use Rattle.ficus_model.specs.Live.{ModelEntry, entry_of, IsEntered, IsRemoved, HasName, IsMade, IsFile}
use Rattle.ficus_model.specs.Versions.{IsVersion, IsCovering}
use Rattle.ficus_model.specs.Lawful.{Volume, IsLawful}
use Rattle.ficus_model.specs.Held.{Touches, IsDone}
use Rattle.ficus_model.specs.Final.{IsFinal}
use Rattle.ficus_laws.proofs.Positions.{agree_back, agree_before, of_at, of_before}
use Rattle.ficus_laws.proofs.Updates.{agree_update, update_once}
use Rattle.ficus_laws.proofs.Knowledge.{knows_own}
use Rattle.ficus_laws.proofs.Past.{agree_version}
use Rattle.ficus_laws.proofs.Lawful.{lawful_before, lawful_member}
use Rattle.ficus_laws.proofs.Issued.{issuer_member}
use Rattle.ficus_laws.proofs.Shown.{removed_within, live_same}
use Rattle.ficus_laws.proofs.Views.{same_updates, file_within, uncovered_within}
use Rattle.ficus_laws.proofs.Deciding.{Decided, knows_decided}
use Rattle.ficus_version_laws.proofs.Objects.{version_file}
use Rattle.ficus_removal_laws.specs.Marks.{IsEnteredAs}
use Rattle.ficus_removal_laws.proofs.Carrying.{removed_from_before}
use Rattle.ficus_removal_laws.proofs.Dropping.{dropped_removed}
use Rattle.ficus_removal_laws.proofs.Removing.{removed_entered}
use Rattle.ficus_final_laws.specs.Uses.{IsUse, IsAlive}
use Rattle.ficus_final_laws.specs.Laws.{KnowsAllOf}
use Rattle.ficus_final_laws.proofs.Before.{known_before, known_next, known_stays, known_through, known_past, known_same, known_within, removed_stays, removed_then, entered_through}
use Rattle.ficus_final_laws.proofs.Dropped.{KnowsRemovals, dropped_knows, covering_removes}
use Rattle.ficus_final_laws.proofs.Using.{user_sees}

entry_use : {H : List Event} {U : ℕ → Type 0} {object : Id} {entry : ModelEntry} → (e : IsEntered H U entry) →
    Touches entry object → IsUse H object e.position
entry_use {entry = entry} e touches = record {
  number = entry.id;
  op = e.op;
  update = e.update;
  uses = inr (record { entry = entry; enters = e.enters; touches = touches });
}

version_use : {H : List Event} {object : Id} {position : ℕ} → IsVersion H object position → IsUse H object position
version_use v = record { number = v.number; op = v.op; update = v.update; uses = inl v.versions }

-- what was alive by the events before a position is so by all events
alive_then : (H : List Event) (n : ℕ) {replica : ℕ} {object : Id} →
    IsAlive (before n H) (Knows (before n H) replica) object → IsAlive H (Knows (before n H) replica) object
alive_then H n {replica} (inl live) = inl (record {
  entry = live.entry;
  live = live_same (same_updates (known_same H n replica)) live.live;
  touches = live.touches;
})
alive_then H n {replica} (inr unseen) = inr (record {
  is_file = file_within (known_within H n replica) unseen.is_file;
  position = unseen.position;
  uncovered = uncovered_within (known_same H n replica) unseen.uncovered;
})

-- what is decided holds where it can't be refuted
unless_refuted : {P : Type 0} → Decided P → ((P → ⊥) → ⊥) → P
unless_refuted (inl holds) refuted = holds
unless_refuted (inr none) refuted = absurd (refuted none)

-- In each of these a replica has an object done at a position of a lawful history.
module _ (volume : Volume) (H : List Event) (lawful : IsLawful volume H) {replica position : ℕ} {object : Id}
    (done : IsDone volume.members H replica object position) where
  abbrev earlier : List Event
  earlier = before position H

  earlier_lawful : IsLawful volume earlier
  earlier_lawful = lawful_before volume H position lawful

  -- each member knew each removal of each entry that touches the object and that the collector knew
  removals : {member : ℕ} {entry : ModelEntry} → IsEntered H (Knows earlier replica) entry → Touches entry object →
      IsMember volume.members member → KnowsRemovals H position replica member entry.id
  removals {entry = entry} e touches m = dropped_knows volume H lawful position (done.dropped entry e touches) m

  nameless : HasName H (Knows earlier replica) object → ⊥
  nameless n =
      let collector = lawful_member volume H lawful (of_at done.collect) in
      let s = removals n.live.entered (inl n.leads) collector in
      n.live.not_removed (removed_then H (known_next H position s.known) s.removed)

  is_file : {version : ℕ} → IsVersion H object version → Knows earlier replica version →
      IsFile H (Knows earlier replica) object
  is_file v known =
      let there = agree_version (agree_back (agree_before position H)) (known_before H position known) v in
      file_within (known_within H position replica) (version_file volume earlier earlier_lawful replica there known)

  -- A version that the collector knew is uncovered for no member that has come past all its events which the
  -- collector knew.
  not_uncovered : {member later version : ℕ} → IsMember volume.members member →
      ((at : ℕ) → IsOf H at member → Knows earlier replica at → at + 1 ≤ later) → IsVersion H object version →
      Knows earlier replica version →
      ((removal : ℕ) → IsCovering H object removal → Knows (before later H) member removal →
      HasInPast H removal version → ⊥) → ⊥
  not_uncovered {member} {later} {version} m after v known uncovered = done.no_orphan (record {
    nameless = nameless;
    kept = inr (record {
      is_file = is_file v known;
      position = version;
      uncovered = record { version = v; known = known; uncovered = covered };
    });
  })
    where
      covered : (removal : ℕ) → IsCovering H object removal → Knows earlier replica removal →
          HasInPast H removal version → ⊥
      covered removal c k p =
          let name = covering_removes volume H lawful c in
          let s = removals (entered_through position (of_at name.update.at) k name.entered) (inl name.leads) m in
          uncovered removal c (known_stays H (after s.at s.own s.known) (s.all name.update name.removes)) p

  -- an event of a member that the collector doesn't know comes after all those of the member that it knows
  later_than : {at used member : ℕ} → IsOf H used member → (Knows earlier replica used → ⊥) → IsOf H at member →
      Knows earlier replica at → at + 1 ≤ used
  later_than {at} {used} own unknown at_own k = go (cases_lt at used)
    where
      go : (at < used) ⊎ (used ≤ at) → at + 1 ≤ used
      go (inl h) = omega arith
      go (inr h) = absurd (unknown (known_through position at_own k (knows_own (of_before (omega arith) own))))

  -- a use of the object that the collector didn't know would see alive what all know to be removed or covered
  not_unknown : {used : ℕ} → (u : IsUse H object used) →
      ((sooner : ℕ) → sooner < used → IsUse H object sooner → Knows earlier replica sooner) →
      (Knows earlier replica used → ⊥) → ⊥
  not_unknown {used} u known unknown =
      go (user_sees volume H object used lawful (issuer_member volume H lawful done.made.update) u)
    where
      user : ℕ
      user = u.number.replica

      own : IsOf H used user
      own = of_at u.update.at

      m : IsMember volume.members user
      m = issuer_member volume H lawful u.update

      dead : IsAlive H (Knows (before used H) user) object → ⊥
      dead (inl live) =
          let e = live.live.entered in
          let k = known e.position (known_before H used e.known) (entry_use e live.touches) in
          let there : IsEntered H (Knows earlier replica) live.entry =
          record { position = e.position; op = e.op; known = k; update = e.update; enters = e.enters } in
          let s = removals there live.touches m in
          live.live.not_removed (removed_then H (later_than own unknown s.own s.known) s.removed)
      dead (inr unseen) =
          let v = unseen.uncovered in
          let k = known unseen.position (known_before H used v.known) (version_use v.version) in
          not_uncovered m (λ at at_own at_known. later_than own unknown at_own at_known) v.version k v.uncovered

      go : (u.number ≡ object) ⊎ IsAlive (before used H) (Knows (before used H) user) object → ⊥
      go (inl makes) =
          let made : IsUpdate H used object u.op = subst (λ id. IsUpdate H used id u.op) makes u.update in
          unknown (subst (Knows earlier replica) (update_once done.made.update made).0 done.made.known)
      go (inr alive) = dead (alive_then H used alive)

  uses_below : (bound used : ℕ) → used < bound → IsUse H object used → Knows earlier replica used
  uses_below zero used h u = absurd (omega arith)
  uses_below (suc bound) used h u =
      unless_refuted (knows_decided earlier replica used)
      (not_unknown u (λ sooner l v. uses_below bound sooner (omega arith) v))

  pub use_known : {used : ℕ} → IsUse H object used → Knows earlier replica used
  use_known {used} u = uses_below (used + 1) used (omega arith) u

  -- so each member knew every removal of each entry that touches the object
  member_removals : {member : ℕ} {entry : ModelEntry} {U : ℕ → Type 0} → IsMember volume.members member →
      IsEntered H U entry → Touches entry object → KnowsRemovals H position replica member entry.id
  member_removals m e touches =
      let k = use_known (entry_use e touches) in
      removals (record { position = e.position; op = e.op; known = k; update = e.update; enters = e.enters }) touches m

  pub entry_removed : {member : ℕ} {entry : ModelEntry} {U : ℕ → Type 0} → IsMember volume.members member →
      IsEntered H U entry → Touches entry object → IsRemoved earlier (Knows earlier member) entry.id
  entry_removed m e touches =
      let s = member_removals m e touches in
      removed_stays H (known_next H position s.known) s.removed

  removal_known_there : {member removal : ℕ} → IsMember volume.members member → IsCovering H object removal →
      Knows earlier member removal
  removal_known_there m c =
      let name = covering_removes volume H lawful c in
      let s = member_removals m name.entered (inl name.leads) in
      known_stays H (known_next H position s.known) (s.all name.update name.removes)

  version_known_there : {member version : ℕ} → IsMember volume.members member → IsVersion H object version →
      Knows earlier member version
  version_known_there {member} {version} m v =
      unless_refuted (knows_decided earlier member version)
      (λ unknown. not_uncovered m
      (λ at own k. known_next H position k)
      v
      (use_known (version_use v))
      (λ removal c k p. unknown (known_past position k p)))

  made_known_there : {member : ℕ} → IsMember volume.members member → IsMade H (Knows earlier member) object done.kind
  made_known_there {member} m = record {
    position = made.position;
    dir = made.dir;
    name = made.name;
    text = made.text;
    known = subst (Knows earlier member) (update_once there made.update).0 found.entered.known;
    update = made.update;
  }
    where
      made : IsMade H (Knows earlier replica) object done.kind
      made = done.made

      own_entry : IsEntered H (Knows earlier replica) (entry_of object made.dir made.name object)
      own_entry = record {
        position = made.position;
        op = Make made.dir made.name done.kind made.text;
        known = made.known;
        update = made.update;
        enters = refl;
      }

      found : IsEnteredAs earlier (Knows earlier member) object
      found = removed_entered volume earlier earlier_lawful (entry_removed m own_entry (inl refl))

      there : IsUpdate H found.entered.position object found.entered.op
      there =
          let h = known_before H position found.entered.known in
          let u = agree_update (agree_before position H) h found.entered.update in
          subst (λ id. IsUpdate H found.entered.position id found.entered.op) found.named u

  pub knows_all_of : {member : ℕ} → IsMember volume.members member → KnowsAllOf H position member object
  knows_all_of {member} m = record {
    made = (done.kind, made_known_there m);
    versions = λ version v. version_known_there m v;
    removals = λ removal c. removal_known_there m c;
    entries = λ reader entry e touches. removed_within (known_within H position member) (entry_removed m e touches);
  }

pub final : (volume : Volume) (H : List Event) → IsLawful volume H → IsFinal volume.members H
final volume H lawful = record {
  versions = λ replica position version object done v. use_known volume H lawful done (version_use v);
  nameless = λ replica position member object done m n.
      let then_removed = entry_removed volume H lawful done m n.live.entered (inl n.leads) in
      n.live.not_removed (removed_from_before position then_removed);
  removed = λ replica member entry d m. dropped_removed d m;
}
