-- What an Accept makes of the objects that its replica keeps.
use Rattle.std.proofs.Common.{◌⊎◌, ℕ, ◌+◌, List, [], ◌∷◌, ◌++◌, Option, Some, None, refl, sym, ap, ◌∙◌, subst, inl, inr}
use Rattle.ficus_ids.specs.Members.{IsMember}
use Rattle.ficus_ids.specs.RisingLaws.{held_or_not}
use Rattle.ficus_ids.specs.declared.id.Id.{Id}
use Rattle.ficus_ids.specs.declared.id.TheConstants.{ROOT}
use Rattle.ficus_ids.specs.declared.kind.Kind.{Kind}
use Rattle.ficus_entry.specs.Entry.{HoldsUnder}
use Rattle.ficus_entry.specs.declared.entry.Entry.{Entry as Kept}
use Rattle.ficus_model.specs.declared.event.Event.{Event}
use Rattle.ficus_model.specs.declared.event.Event.TheVariants.{Accept}
use Rattle.ficus_model.specs.declared.event.Op.TheVariants.{Make}
use Rattle.ficus_model.specs.Events.{IsUpdate, through}
use Rattle.ficus_model.specs.Known.{Knows}
use Rattle.ficus_model.specs.Lawful.{Volume, IsLawful}
use Rattle.ficus_model.specs.Live.{ModelEntry, entry_of, IsEntered, IsMade}
use Rattle.ficus_model.specs.Held.{IsDropped, IsDone, IsHeldObject}
use Rattle.ficus_model.specs.Versions.{IsVersion, IsCovering}
use Rattle.ficus_model.specs.Vectors.{IsCoverOf}
use Rattle.ficus_laws.proofs.Accept.{accept_made, made_accept}
use Rattle.ficus_laws.proofs.Deciding.{Decided, knows_decided}
use Rattle.ficus_laws.proofs.Issued.{entered_once}
use Rattle.ficus_laws.proofs.Knowledge.{knows_later}
use Rattle.ficus_laws.proofs.Lawful.{lawful_more}
use Rattle.ficus_laws.proofs.Past.{agree_version, agree_covering}
use Rattle.ficus_laws.proofs.Positions.{agree_back, agree_before, at_from_before}
use Rattle.ficus_laws.proofs.Shown.{entered_within}
use Rattle.ficus_laws.proofs.Updates.{agree_update, update_once}
use Rattle.ficus_version_laws.specs.Listed.{AreShown}
use Rattle.ficus_version_laws.proofs.Objects.{version_file, covering_object}
use Rattle.ficus_version_laws.proofs.Taking.{knows_before, accept_merges, accept_own, accept_brought, cover_accept, cover_own, cover_brought}
use Rattle.ficus_removal_laws.specs.Laws.{IsAnswer}
use Rattle.ficus_removal_laws.specs.Marks.{IsEnteredAs}
use Rattle.ficus_removal_laws.proofs.Answering as answers
use Rattle.ficus_removal_laws.proofs.Dropping.{dropped_from_before, dropped_removed}
use Rattle.ficus_removal_laws.proofs.Removing.{removed_entered}
use Rattle.ficus_final_laws.specs.Laws.{KnowsAllOf}
use Rattle.ficus_final_laws.proofs.Finishing.{use_known, knows_all_of}
use Rattle.ficus_held_laws.specs.Entries.{AreKeptEntries, place_of}
use Rattle.ficus_held_laws.specs.Objects.{KeptObject, IsKeptObject, HasObject, HasDone, AreKeptObjects, IsTouched, IsOfBoth, IsOnlyOf, IsTaken, AreObjectsMerged}
use Rattle.ficus_held_laws.proofs.Done.{done_from_before, done_was, done_stays}
use Rattle.ficus_held_laws.proofs.Growing.{renamed}
use Rattle.ficus_held_laws.proofs.Keeping.{taken_within}
use Rattle.ficus_merge_laws.proofs.Following.{undropped}
use Rattle.ficus_held_laws.proofs.Leaving.{object_or_not}

module _ (volume : Volume) (H : List Event) (replica served piece server : ℕ) (entries : List Kept)
    (mine theirs next : List KeptObject) (answer : IsAnswer volume H replica served piece server)
    (kept_entries : AreKeptEntries volume.members (H ++ Accept replica served piece ∷ []) replica entries)
    (here : AreKeptObjects volume.members H replica mine)
    (peers : AreKeptObjects volume.members (through served H) server theirs)
    (merges : AreObjectsMerged volume.members mine theirs entries next) where
  abbrev accepted : List Event
  accepted = H ++ Accept replica served piece ∷ []

  abbrev at_server : List Event
  at_server = through served H

  is_member : IsMember volume.members replica
  is_member = answer.may.member

  lawful_then : IsLawful volume accepted
  lawful_then = lawful_more volume H (Accept replica served piece) answer.lawful answer.may

  lawful_there : IsLawful volume at_server
  lawful_there = answers.lawful_there volume H replica served piece server ROOT answer

  -- an Accept makes nothing done
  done_before : {object : Id} {position : ℕ} → IsDone volume.members accepted replica object position →
      IsDone volume.members H replica object position
  done_before d = done_was (Accept replica served piece) (λ is. cc) d

  own_held : {object : Id} {kind : Kind} → IsHeldObject volume.members H replica object kind →
      IsHeldObject volume.members accepted replica object kind
  own_held h = record {
    made = made_accept H replica served piece server answer.by (inl h.made);
    held = λ position d. h.held position (done_before d);
  }

  -- At some position the replica knew all of the object.
  abbrev KnewAllOf : Id → Type 0
  KnewAllOf object = (position : ℕ) × KnowsAllOf H position replica object

  -- what the server knew and didn't keep it had done, so the replica knew all of it
  knew_all : {object : Id} {kind : Kind} → IsMade at_server (Knows at_server server) object kind →
      (HasObject theirs object → ⊥) → KnewAllOf object
  knew_all {object} {kind} m none =
      let g = peers.absent object kind m none in
      (g.position, knows_all_of volume H answer.lawful (done_from_before (served + 1) g.done) is_member)

  version_there : {file : Id} {position : ℕ} → IsVersion H file position → Knows at_server server position →
      IsVersion at_server file position
  version_there v k = agree_version (agree_back (agree_before (served + 1) H)) (knows_before H served k) v

  covering_there : {object : Id} {position : ℕ} → IsCovering H object position → Knows at_server server position →
      IsCovering at_server object position
  covering_there c k = agree_covering (agree_back (agree_before (served + 1) H)) (knows_before H served k) c

  -- an own object stays
  own_kept : {object : KeptObject} → IsOnlyOf mine theirs object → IsKeptObject volume.members accepted replica object
  own_kept {object} only = record {
    held = own_held k.held;
    versions = accept_own H replica served piece server answer.by versions k.versions;
    cover = cover_own H replica served piece server answer.by covers k.cover;
  }
    where
      k : IsKeptObject volume.members H replica object
      k = here.each object only.inside

      versions : (position : ℕ) → IsVersion H object.id position → Knows at_server server position →
          Knows H replica position
      versions position v known =
          let file = version_file volume at_server lawful_there server (version_there v known) known in
          let all = knew_all file.made only.alone in
          knows_later all.0 (all.1.versions position v)

      covers : (position : ℕ) → IsCovering H object.id position → Knows at_server server position →
          Knows H replica position
      covers position c known =
          let object_made = covering_object volume at_server lawful_there server (covering_there c known) known in
          let all = knew_all object_made.1 only.alone in
          knows_later all.0 (all.1.removals position c)

  -- one that both keep is merged
  both_kept : {object : KeptObject} → IsOfBoth volume.members mine theirs object →
      IsKeptObject volume.members accepted replica object
  both_kept {object} both =
      let own = here.each both.own both.inside in
      let his = peers.each both.his both.inside_theirs in
      let his_versions = subst (λ k. AreShown at_server (Knows at_server server) k both.his.versions) both.same his.versions in
      let his_cover = subst (λ k. IsCoverOf at_server (Knows at_server server) k both.his.cover) both.same his.cover in
      renamed object both.merged.id both.merged.kind (own_held own.held)
      (accept_merges H replica served piece server answer.by volume answer.lawful own.versions his_versions both.merged.versions)
      (subst (IsCoverOf accepted (Knows accepted replica) both.own.id) (sym both.merged.cover)
      (cover_accept H replica served piece server answer.by own.cover his_cover))

  -- an object that an entry which is kept touches isn't done
  touched_not_done : {object : Id} {position : ℕ} → IsTouched entries object →
      IsDone volume.members accepted replica object position → ⊥
  touched_not_done {object} {position} touched d =
      let k = kept_entries.each touched.entry touched.inside in
      let e = k.held.entered in
      let known = use_known volume accepted lawful_then d (record {
        number = touched.entry.id;
        op = e.op;
        update = e.update;
        uses = inr (record { entry = place_of touched.entry; enters = e.enters; touches = touched.touches });
      }) in
      k.held.held (dropped_from_before (position + 1) (d.dropped (place_of touched.entry)
      (record { position = e.position; op = e.op; known = known; update = e.update; enters = e.enters })
      touched.touches))

  -- so the replica knew nothing of one that is taken
  unknown : {object : Id} {kind : Kind} → (HasObject mine object → ⊥) → IsTouched entries object →
      IsMade H (Knows H replica) object kind → ⊥
  unknown {object} {kind} none touched m =
      let g = here.absent object kind m none in
      touched_not_done touched (done_stays (Accept replica served piece) g).done

  taken_kept : {object : KeptObject} → IsTaken mine theirs entries object →
      IsKeptObject volume.members accepted replica object
  taken_kept {object} taken = record {
    held = record {
      made = made_accept H replica served piece server answer.by (inr his.held.made);
      held = λ position d. touched_not_done taken.touched d;
    };
    versions = accept_brought H replica served piece server answer.by versions his.versions;
    cover = cover_brought H replica served piece server answer.by covers his.cover;
  }
    where
      his : IsKeptObject volume.members at_server server object
      his = peers.each object taken.only.inside

      versions : (position : ℕ) → IsVersion H object.id position → Knows H replica position →
          Knows at_server server position
      versions position v known =
          let file = version_file volume H answer.lawful replica v known in
          absurd (unknown taken.only.alone taken.touched file.made)

      covers : (position : ℕ) → IsCovering H object.id position → Knows H replica position →
          Knows at_server server position
      covers position c known =
          let object_made = covering_object volume H answer.lawful replica c known in
          absurd (unknown taken.only.alone taken.touched object_made.1)

  -- An object that the server knew and the replica didn't: the entry of its Make isn't dropped, so it touches it.
  module _ {object : Id} {kind : Kind} (m : IsMade at_server (Knows at_server server) object kind)
      (news : Knows H replica m.position → ⊥) where
    update_here : IsUpdate H m.position object (Make m.dir m.name kind m.text)
    update_here = agree_update (agree_before (served + 1) H) (at_from_before (served + 1) m.update.at).0 m.update

    entered_then : IsEntered accepted (Knows accepted replica) (entry_of object m.dir m.name object)
    entered_then = entered_within (taken_within H replica served piece server answer.by)
        (record { position = m.position; op = Make m.dir m.name kind m.text; known = m.known; update = m.update; enters = refl })

    not_entered_here : IsEnteredAs H (Knows H replica) object → ⊥
    not_entered_here e =
        let again = subst (λ id. IsUpdate H e.entered.position id e.entered.op) e.named e.entered.update in
        news (subst (Knows H replica) (update_once again update_here).0 e.entered.known)

    not_dropped : IsDropped volume.members accepted replica object → ⊥
    not_dropped d =
        not_entered_here (removed_entered volume H answer.lawful (dropped_removed (undropped (Accept replica served piece) (λ is. cc) d) is_member))

    news_touched : IsTouched entries object
    news_touched = go (held_or_not (λ (item : Kept). item.id) entries object)
      where
        go : (found : Option Kept) × HoldsUnder entries object found → IsTouched entries object
        go (None, none) = absurd (not_dropped (kept_entries.absent object none (record {
          entry = entry_of object m.dir m.name object;
          entered = entered_then;
          named = refl;
        })))
        go (Some found, (inside, named)) = record {
          entry = found;
          inside = inside;
          touches = inl (ap (λ (place : ModelEntry). place.target)
              (entered_once (kept_entries.each found inside).held.entered entered_then named));
        }

  absent : (id : Id) (kind : Kind) → IsMade accepted (Knows accepted replica) id kind → (HasObject next id → ⊥) →
      HasDone volume.members accepted replica id
  absent id kind m none = go (object_or_not mine id) (object_or_not theirs id) (accept_made H replica served piece server answer.by m)
    where
      own_listed : HasObject mine id → Decided (HasObject theirs id) → ⊥
      own_listed own (inl his) =
          let merged = merges.both own.object his.object own.inside his.inside (his.named ∙ sym own.named) in
          none (record { object = merged.object; inside = merged.inside; named = merged.merged.id ∙ own.named })
      own_listed own (inr no_his) = none (record {
        object = own.object;
        inside = merges.own own.object
            (record { inside = own.inside; alone = λ his. no_his (subst (HasObject theirs) own.named his) });
        named = own.named;
      })

      his_listed : HasObject theirs id → (HasObject mine id → ⊥) → IsTouched entries id → ⊥
      his_listed his no_own touched = none (record {
        object = his.object;
        inside = merges.taken his.object (record {
          only = record { inside = his.inside; alone = λ own. no_own (subst (HasObject mine) his.named own) };
          touched = subst (IsTouched entries) (sym his.named) touched;
        });
        named = his.named;
      })

      known_here : {any : Kind} → IsMade H (Knows H replica) id any → (HasObject mine id → ⊥) →
          HasDone volume.members accepted replica id
      known_here {any} was no_own = done_stays (Accept replica served piece) (here.absent id any was no_own)

      of_server : (his : IsMade at_server (Knows at_server server) id kind) → HasObject theirs id →
          (HasObject mine id → ⊥) → Decided (Knows H replica his.position) →
          HasDone volume.members accepted replica id
      of_server his listed no_own (inl known) = known_here
          (record {
            position = his.position;
            dir = his.dir;
            name = his.name;
            text = his.text;
            known = known;
            update =
                agree_update (agree_before (served + 1) H) (at_from_before (served + 1) his.update.at).0 his.update;
          })
          no_own
      of_server his listed no_own (inr news) = absurd (his_listed listed no_own (news_touched his news))

      go : Decided (HasObject mine id) → Decided (HasObject theirs id) →
          IsMade H (Knows H replica) id kind ⊎ IsMade at_server (Knows at_server server) id kind →
          HasDone volume.members accepted replica id
      go (inl own) his found = absurd (own_listed own his)
      go (inr no_own) his (inl was) = known_here was no_own
      go (inr no_own) (inl listed) (inr m) = of_server m listed no_own (knows_decided H replica m.position)
      go (inr no_own) (inr no_his) (inr m) =
          let all = knew_all m no_his in
          let was = all.1.made.1 in
          known_here
          (record {
            position = was.position;
            dir = was.dir;
            name = was.name;
            text = was.text;
            known = knows_later all.0 was.known;
            update = was.update;
          })
          no_own

  pub objects_merged : AreKeptObjects volume.members accepted replica next
  objects_merged = record { each = λ object inside. each object (merges.from object inside); absent = absent }
    where
      each : (object : KeptObject) → IsOnlyOf mine theirs object ⊎
          (IsOfBoth volume.members mine theirs object ⊎ IsTaken mine theirs entries object) →
          IsKeptObject volume.members accepted replica object
      each object (inl own) = own_kept own
      each object (inr (inl both)) = both_kept both
      each object (inr (inr taken)) = taken_kept taken
