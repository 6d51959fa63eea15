-- What a replica is shown after an update of its own.
use Rattle.std.proofs.Common.{◌≡◌, ℕ, List, [], ◌∷◌, ◌++◌, Some, None, refl, sym, ap, subst, ◌∙◌, inl, inr, ◌⊎◌, arith}
use Rattle.std.specs.Prelude.{Contains, IfSome}
use Rattle.ficus_ids.specs.declared.id.Id.{Id}
use Rattle.ficus_ids.specs.declared.kind.Kind.{Kind}
use Rattle.ficus_model.specs.declared.event.Event.{Event}
use Rattle.ficus_model.specs.declared.event.Event.TheVariants.{Update}
use Rattle.ficus_model.specs.declared.event.Op.{Op}
use Rattle.ficus_model.specs.declared.event.Op.TheVariants.{Make, Link, Move, Adopt, Discard}
use Rattle.ficus_model.specs.Known.{Knows}
use Rattle.ficus_model.specs.Live.{ModelEntry, entered_by, removed_by, IsEntered, IsRemoved, IsLive, IsMade}
use Rattle.ficus_laws.specs.Updates.{next_number, made_entry, HasUpdate}
use Rattle.ficus_laws.proofs.Shown.{entered_from, removed_from, entered_has, removed_has, entered_within, removed_within, made_within}
use Rattle.ficus_laws.proofs.OneMore.{within_more, has_end, has_after_update}

pub enters_none : (entry : ModelEntry) → None ≡ Some entry → ⊥
enters_none entry e = cc

entered_ids : (number : Id) (op : Op) → IfSome (entered_by number op) (λ entry. entry.id ≡ number)
entered_ids number (Make dir name kind text) = refl
entered_ids number (Link dir name target) = refl
entered_ids number (Move entries dir name target) = refl
entered_ids number (Adopt file dir name) = refl
entered_ids number (Discard file) = refl
entered_ids number op = tt

-- an entry has the number of the update that enters it
pub entered_id : (number : Id) (op : Op) (entry : ModelEntry) → entered_by number op ≡ Some entry → entry.id ≡ number
entered_id number op entry e = subst (λ found. IfSome found (λ entered. entered.id ≡ number)) e (entered_ids number op)

-- In each of these a replica has done one more operation.
module _ (H : List Event) (replica : ℕ) (op : Op) where
  abbrev after : List Event
  after = H ++ Update replica op ∷ []

  pub entered_after : {entry : ModelEntry} → IsEntered after (Knows after replica) entry →
      IsEntered H (Knows H replica) entry ⊎ (entered_by (next_number replica H) op ≡ Some entry)
  entered_after {entry} e = go (has_after_update op (entered_has e))
    where
      go : HasUpdate H (Knows H replica) entry.id e.op ⊎ ((entry.id ≡ next_number replica H) × (e.op ≡ op)) →
          IsEntered H (Knows H replica) entry ⊎ (entered_by (next_number replica H) op ≡ Some entry)
      go (inl was) = inl (entered_from entry was e.enters)
      go (inr (next, same)) =
          inr (ap (λ number. entered_by number op) (sym next) ∙ ap (entered_by entry.id) (sym same) ∙ e.enters)

  pub entered_new : (entry : ModelEntry) → entered_by (next_number replica H) op ≡ Some entry →
      IsEntered after (Knows after replica) entry
  entered_new entry new =
      let id = entered_id (next_number replica H) op entry new in
      entered_from entry (rw id (has_end H replica op)) (subst (λ number. entered_by number op ≡ Some entry) (sym id) new)

  pub removed_after : {id : Id} → IsRemoved after (Knows after replica) id →
      IsRemoved H (Knows H replica) id ⊎ Contains (removed_by (next_number replica H) op) id
  removed_after {id} r = go (has_after_update op (removed_has r))
    where
      go : HasUpdate H (Knows H replica) r.number r.op ⊎ ((r.number ≡ next_number replica H) × (r.op ≡ op)) →
          IsRemoved H (Knows H replica) id ⊎ Contains (removed_by (next_number replica H) op) id
      go (inl was) = inl (removed_from id was r.removes)
      go (inr (next, same)) =
          let removes = subst (λ number. Contains (removed_by number r.op) id) next r.removes in
          inr (subst (λ done. Contains (removed_by (next_number replica H) done) id) same removes)

  pub removed_new : (id : Id) → Contains (removed_by (next_number replica H) op) id →
      IsRemoved after (Knows after replica) id
  removed_new id new = removed_from id (has_end H replica op) new

  -- what is alive then was alive and isn't removed, or it is new
  pub live_after : {entry : ModelEntry} → IsLive after (Knows after replica) entry →
      (IsLive H (Knows H replica) entry ⊎ (entered_by (next_number replica H) op ≡ Some entry)) ×
      (Contains (removed_by (next_number replica H) op) entry.id → ⊥)
  live_after {entry} l = (go (entered_after l.entered), λ removed. l.not_removed (removed_new entry.id removed))
    where
      go : IsEntered H (Knows H replica) entry ⊎ (entered_by (next_number replica H) op ≡ Some entry) →
          IsLive H (Knows H replica) entry ⊎ (entered_by (next_number replica H) op ≡ Some entry)
      go (inl was) =
          inl (record { entered = was; not_removed = λ r. l.not_removed (removed_within (within_more H (Update replica op ∷ []) replica) r) })
      go (inr new) = inr new

  still_not_removed : (id : Id) → (IsRemoved H (Knows H replica) id → ⊥) →
      (Contains (removed_by (next_number replica H) op) id → ⊥) → IsRemoved after (Knows after replica) id → ⊥
  still_not_removed id before now r = go (removed_after r)
    where
      go : IsRemoved H (Knows H replica) id ⊎ Contains (removed_by (next_number replica H) op) id → ⊥
      go (inl was) = before was
      go (inr new) = now new

  pub live_kept : {entry : ModelEntry} → IsLive H (Knows H replica) entry →
      (Contains (removed_by (next_number replica H) op) entry.id → ⊥) → IsLive after (Knows after replica) entry
  live_kept {entry} l kept = record {
    entered = entered_within (within_more H (Update replica op ∷ []) replica) l.entered;
    not_removed = still_not_removed entry.id l.not_removed kept;
  }

  pub live_new : (entry : ModelEntry) → entered_by (next_number replica H) op ≡ Some entry →
      (IsRemoved H (Knows H replica) entry.id → ⊥) → (Contains (removed_by (next_number replica H) op) entry.id → ⊥) →
      IsLive after (Knows after replica) entry
  live_new entry new fresh kept =
      record { entered = entered_new entry new; not_removed = still_not_removed entry.id fresh kept }

  -- what is made then was made, or it is new
  pub made_after : {object : Id} {kind : Kind} → IsMade after (Knows after replica) object kind →
      IsMade H (Knows H replica) object kind ⊎
      ((object ≡ next_number replica H) × (dir : Id) × (name : List ℕ) × (text : List ℕ) × (op ≡ Make dir name kind text))
  made_after {object} {kind} m =
      go (has_after_update op (record { position = m.position; known = m.known; update = m.update }))
    where
      go : HasUpdate H (Knows H replica) object (Make m.dir m.name kind m.text) ⊎
          ((object ≡ next_number replica H) × (Make m.dir m.name kind m.text ≡ op)) →
          IsMade H (Knows H replica) object kind ⊎
          ((object ≡ next_number replica H) × (dir : Id) × (name : List ℕ) × (text : List ℕ) × (op ≡ Make dir name kind text))
      go (inl was) =
          inl (record { position = was.position; dir = m.dir; name = m.name; text = m.text; known = was.known; update = was.update })
      go (inr (next, same)) = inr (next, m.dir, m.name, m.text, sym same)

-- A Make enters its entry, makes its object and removes nothing.
module _ (H : List Event) (replica : ℕ) (dir : Id) (name : List ℕ) (kind : Kind) (text : List ℕ) where
  abbrev make : Op
  make = Make dir name kind text

  abbrev once_made : List Event
  once_made = H ++ Update replica make ∷ []

  removes_none : (id : Id) → Contains (removed_by (next_number replica H) make) id → ⊥
  removes_none id removes = omega arith

  pub make_live : {entry : ModelEntry} → IsLive once_made (Knows once_made replica) entry →
      IsLive H (Knows H replica) entry ⊎ (entry ≡ made_entry replica H dir name)
  make_live {entry} l = go (live_after H replica make l).0
    where
      go : IsLive H (Knows H replica) entry ⊎ (entered_by (next_number replica H) make ≡ Some entry) →
          IsLive H (Knows H replica) entry ⊎ (entry ≡ made_entry replica H dir name)
      go (inl was) = inl was
      go (inr new) = inr (let e : Some (made_entry replica H dir name) ≡ Some entry = new in cc)

  pub make_kept : {entry : ModelEntry} → IsLive H (Knows H replica) entry →
      IsLive once_made (Knows once_made replica) entry
  make_kept {entry} l = live_kept H replica make l (removes_none entry.id)

  pub make_new : (IsRemoved H (Knows H replica) (next_number replica H) → ⊥) →
      IsLive once_made (Knows once_made replica) (made_entry replica H dir name)
  make_new fresh =
      live_new H replica make (made_entry replica H dir name) refl fresh (removes_none (next_number replica H))

  pub make_made : {object : Id} {made : Kind} → IsMade once_made (Knows once_made replica) object made →
      IsMade H (Knows H replica) object made ⊎ ((object ≡ next_number replica H) × (made ≡ kind))
  make_made {object} {made} m = go (made_after H replica make m)
    where
      go : IsMade H (Knows H replica) object made ⊎
          ((object ≡ next_number replica H) × (dir : Id) × (name : List ℕ) × (text : List ℕ) × (make ≡ Make dir name made text)) →
          IsMade H (Knows H replica) object made ⊎ ((object ≡ next_number replica H) × (made ≡ kind))
      go (inl was) = inl was
      go (inr (next, other, called, other_text, same)) =
          inr (next, (let e : Make dir name kind text ≡ Make other called made other_text = same in cc))

  pub make_made_kept : {object : Id} {made : Kind} → IsMade H (Knows H replica) object made →
      IsMade once_made (Knows once_made replica) object made
  make_made_kept m = made_within (within_more H (Update replica make ∷ []) replica) m

  pub make_made_new : IsMade once_made (Knows once_made replica) (next_number replica H) kind
  make_made_new = let u = has_end H replica make in record { position = u.position; dir = dir; name = name; text = text; known = u.known; update = u.update }
