-- What it tells of the removals of an entry that a replica has dropped it, and what a Remove or Discard removes.
use Rattle.std.proofs.Common.{◌≡◌, ◌⊎◌, ℕ, ◌+◌, ◌<◌, ◌≤◌, List, [], refl, sym, ◌∙◌, subst, inl, inr, arith}
use Rattle.std.specs.Prelude.{Contains, codes}
use Rattle.std.proofs.lemmas.Bool.{cases_lt}
use Rattle.ficus_ids.specs.ListLaws.{here}
use Rattle.ficus_ids.specs.Members.{IsMember}
use Rattle.ficus_ids.specs.declared.id.Id.{Id}
use Rattle.ficus_ids.specs.declared.id.TheConstants.{ATTIC}
use Rattle.ficus_model.specs.declared.event.Event.{Event}
use Rattle.ficus_model.specs.declared.event.Event.TheVariants.{Update}
use Rattle.ficus_model.specs.declared.event.Op.{Op}
use Rattle.ficus_model.specs.declared.event.Op.TheVariants.{Remove, Discard}
use Rattle.ficus_model.specs.Events.{IsOf, IsUpdate, before, through}
use Rattle.ficus_model.specs.Known.{Knows}
use Rattle.ficus_model.specs.Live.{ModelEntry, entry_of, removed_by, IsEntered, IsRemoved}
use Rattle.ficus_model.specs.Versions.{IsCovering}
use Rattle.ficus_model.specs.Lawful.{Volume, MayUpdate, IsLawful}
use Rattle.ficus_model.specs.Knowledge.{KnowsThatKnows, KnowsThatAllKnow}
use Rattle.ficus_model.specs.Held.{IsDropped}
use Rattle.ficus_laws.proofs.Positions.{agree_back, agree_before, agree_take, at_from_before, of_at, of_before, of_from_before}
use Rattle.ficus_laws.proofs.Updates.{agree_update}
use Rattle.ficus_laws.proofs.Knowledge.{knows_own}
use Rattle.ficus_laws.proofs.Lawful.{lawful_before}
use Rattle.ficus_laws.proofs.Issued.{issuer_member}
use Rattle.ficus_laws.proofs.Places.{some_inside}
use Rattle.ficus_laws.proofs.Shown.{entered_within}
use Rattle.ficus_version_laws.specs.Operations.{GivesUp}
use Rattle.ficus_version_laws.specs.Operations.GivesUp.{ByRemove, ByDiscard}
use Rattle.ficus_version_laws.proofs.Operations.{covers_gives_up}
use Rattle.ficus_removal_laws.proofs.Carrying.{one_removed, removed_from_before, all_from_before}
use Rattle.ficus_removal_laws.proofs.Hearing.{two_from_last}
use Rattle.ficus_removal_laws.proofs.Removing.{removal_first, removal_known}
use Rattle.ficus_final_laws.proofs.Before.{known_stays, known_within}

-- At a position a replica knows an event of the member through which the member knew every removal of the entry,
-- past and to come, and one at least.
pub record KnowsRemovals (H : List Event) (position replica member : ℕ) (id : Id) : Type 0 where
  pub at : ℕ
  pub known : Knows (before position H) replica at
  pub own : IsOf H at member
  pub removed : IsRemoved (through at H) (Knows (through at H) member) id
  pub all : {removal : ℕ} {number : Id} {op : Op} → IsUpdate H removal number op →
      Contains (removed_by number op) id → Knows (through at H) member removal

-- In each of these the history is lawful.
module _ (volume : Volume) (H : List Event) (lawful : IsLawful volume H) where
  -- who knows that a replica knows a removal of the entry knows each removal of it by that replica, also to come
  removal_is_known : (n : ℕ) {removal reader : ℕ} {number id : Id} {op : Op} → IsUpdate H removal number op →
      Contains (removed_by number op) id → KnowsThatKnows (before n H) reader number.replica id →
      Knows (before n H) reader removal
  removal_is_known n {removal} {reader} {number} {id} {op} update removes o = go (cases_lt removal n)
    where
      was : IsRemoved (before n H) (Knows (before n H) number.replica) id
      was = removed_from_before (o.position + 1) o.removed

      go : (removal < n) ⊎ (n ≤ removal) → Knows (before n H) reader removal
      go (inl h) =
          let there = agree_update (agree_back (agree_before n H)) h update in
          removal_known volume (before n H) (lawful_before volume H n lawful) there removes o
      go (inr h) =
          let same = sym (agree_take (agree_before removal H) h) in
          let there = subst (λ L. IsRemoved L (Knows L number.replica) id) same was in
          absurd (removal_first volume H lawful update removes (removed_from_before n there))

  -- so where it is known that a member knows that all know, the member knew every removal
  removals_known : (position : ℕ) {replica member : ℕ} {id : Id} → IsMember volume.members member →
      KnowsThatAllKnow volume.members (before position H) replica member id →
      KnowsRemovals H position replica member id
  removals_known position {replica} {member} {id} m t = record {
    at = t.position;
    known = t.known;
    own = own.1;
    removed = one_removed (each member m);
    all = λ update removes.
        removal_is_known (t.position + 1) update removes (each _ (issuer_member volume H lawful update));
  }
    where
      own : (t.position < position) × IsOf H t.position member
      own = of_from_before position t.own

      each : (peer : ℕ) → IsMember volume.members peer → KnowsThatKnows (through t.position H) member peer id
      each peer p =
          let h = own.0 in
          let l : t.position + 1 ≤ position = omega arith in
          subst (λ L. KnowsThatKnows L member peer id) (agree_take (agree_before position H) l) (t.all peer p)

  -- what is dropped once a replica has collected, was full before
  full_before : (position : ℕ) {replica member : ℕ} {id : Id} →
      IsDropped volume.members (through position H) replica id → IsMember volume.members member →
      KnowsThatAllKnow volume.members (before position H) replica member id
  full_before position {replica} {member} {id} d m =
      let h = (at_from_before (position + 1) d.collect).0 in
      let through_is = agree_take {position = d.position} (agree_before (position + 1) H) (omega arith) in
      let before_is = agree_take {position = d.position} (agree_before position H) (omega arith) in
      all_from_before d.position (subst
      (λ L. KnowsThatAllKnow volume.members L replica member id)
      (through_is ∙ sym before_is)
      (two_from_last (d.full member m)))

  pub dropped_knows : (position : ℕ) {replica member : ℕ} {id : Id} →
      IsDropped volume.members (through position H) replica id → IsMember volume.members member →
      KnowsRemovals H position replica member id
  dropped_knows position d m = removals_known position m (full_before position d m)

-- at this position an update removes an entry that leads to the object, and that its replica then knew
pub record RemovesNameOf (H : List Event) (object : Id) (position : ℕ) : Type 0 where
  pub number : Id
  pub op : Op
  pub update : IsUpdate H position number op
  pub entry : ModelEntry
  pub leads : entry.target ≡ object
  pub removes : Contains (removed_by number op) entry.id
  pub entered : IsEntered H (Knows (through position H) number.replica) entry

-- each Remove and Discard of an object does
module _ (volume : Volume) (H : List Event) (lawful : IsLawful volume H) {position : ℕ} where
  gives_up_name : {number object : Id} {op : Op} → GivesUp op object → IsUpdate H position number op →
      RemovesNameOf H object position
  gives_up_name {number} (ByRemove {entries = entries} {target = target}) update =
      let may : MayUpdate volume (before position H) number.replica (Remove entries target) =
      lawful.each position (Update number.replica (Remove entries target)) update.at in
      let id = some_inside entries may.allowed.names.some in
      let named = (may.allowed.names.all id.0).0 id.1 in
      let was = entered_within (known_within H position number.replica) named.bound.live.entered in
      record {
        number = number;
        op = Remove entries target;
        update = update;
        entry = named.bound.entry;
        leads = named.bound.leads;
        removes = subst (Contains entries) (sym named.by) id.1;
        entered = record {
          position = was.position;
          op = was.op;
          known = known_stays H {n = position} {later = position + 1} (omega arith) was.known;
          update = was.update;
          enters = was.enters;
        };
      }
  gives_up_name {number} (ByDiscard {file = file}) update = record {
    number = number;
    op = Discard file;
    update = update;
    entry = entry_of number ATTIC (codes "discarded") file;
    leads = refl;
    removes = here number [];
    entered = record {
      position = position;
      op = Discard file;
      known = knows_own (of_before (omega arith) (of_at update.at));
      update = update;
      enters = refl;
    };
  }

  pub covering_removes : {object : Id} → IsCovering H object position → RemovesNameOf H object position
  covering_removes {object} c = gives_up_name (covers_gives_up c.op object c.covers) c.update
