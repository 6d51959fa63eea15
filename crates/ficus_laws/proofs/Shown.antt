-- What is shown depends only on which updates are known.
use Rattle.std.proofs.Common.{◌≡◌, ℕ, List, Some, inl, inr, ◌⊎◌}
use Rattle.std.specs.Prelude.{Contains}
use Rattle.ficus_ids.specs.declared.id.Id.{Id}
use Rattle.ficus_ids.specs.declared.kind.Kind.{Kind}
use Rattle.ficus_model.specs.declared.event.Event.{Event}
use Rattle.ficus_model.specs.declared.event.Op.{Op}
use Rattle.ficus_model.specs.declared.event.Op.TheVariants.{Make}
use Rattle.ficus_model.specs.Live.{ModelEntry, entered_by, removed_by, IsEntered, IsRemoved, IsLive, IsBound, IsMade, IsDirectory}
use Rattle.ficus_model.specs.Reached.{IsReached, Leads, IsInTree}
use Rattle.ficus_model.specs.Reached.IsReached.{Base, Through}
use Rattle.ficus_model.specs.Known.{Knows}
use Rattle.ficus_model.specs.View.{IsInReach}
use Rattle.ficus_laws.specs.Accepts.{IsLiveJoined}
use Rattle.ficus_laws.specs.Laws.{ShowSame, KnowSameUpdates}
use Rattle.ficus_laws.specs.Updates.{HasUpdate, UpdatesWithin, SameUpdates, Joined}

-- what is known at more positions has more updates
pub within_known : {H : List Event} {U V : ℕ → Type 0} → ((position : ℕ) → U position → V position) →
    UpdatesWithin H U H V
within_known more =
    record { has = λ number op u. record { position = u.position; known = more u.position u.known; update = u.update } }

-- what is known at the same positions has the same updates
pub same_known : {H : List Event} {U V : ℕ → Type 0} → ((position : ℕ) → U position → V position) →
    ((position : ℕ) → V position → U position) → SameUpdates H U H V
same_known there back = record { there = within_known there; back = within_known back }

pub within_itself : {H : List Event} {U : ℕ → Type 0} → UpdatesWithin H U H U
within_itself = record { has = λ number op u. u }

pub within_chain : {H K L : List Event} {U V W : ℕ → Type 0} → UpdatesWithin H U K V → UpdatesWithin K V L W →
    UpdatesWithin H U L W
within_chain a b = record { has = λ number op u. b.has number op (a.has number op u) }

pub same_back : {H K : List Event} {U V : ℕ → Type 0} → SameUpdates H U K V → SameUpdates K V H U
same_back same = record { there = same.back; back = same.there }

pub same_chain : {H K L : List Event} {U V W : ℕ → Type 0} → SameUpdates H U K V → SameUpdates K V L W →
    SameUpdates H U L W
same_chain a b = record { there = within_chain a.there b.there; back = within_chain b.back a.back }

-- what is entered, removed and made stays so where more updates are known
pub entered_within : {H K : List Event} {U V : ℕ → Type 0} {entry : ModelEntry} → UpdatesWithin H U K V →
    IsEntered H U entry → IsEntered K V entry
entered_within {entry} more e =
    let u = more.has entry.id e.op (record { position = e.position; known = e.known; update = e.update }) in
    record { position = u.position; op = e.op; known = u.known; update = u.update; enters = e.enters }

pub removed_within : {H K : List Event} {U V : ℕ → Type 0} {id : Id} → UpdatesWithin H U K V → IsRemoved H U id →
    IsRemoved K V id
removed_within more r =
    let u = more.has r.number r.op (record { position = r.position; known = r.known; update = r.update }) in
    record { position = u.position; number = r.number; op = r.op; known = u.known; update = u.update; removes = r.removes }

pub made_within : {H K : List Event} {U V : ℕ → Type 0} {object : Id} {kind : Kind} → UpdatesWithin H U K V →
    IsMade H U object kind → IsMade K V object kind
made_within {object} {kind} more m =
    let u = more.has object (Make m.dir m.name kind m.text) (record { position = m.position; known = m.known; update = m.update }) in
    record { position = u.position; dir = m.dir; name = m.name; text = m.text; known = u.known; update = u.update }

pub directory_within : {H K : List Event} {U V : ℕ → Type 0} {object : Id} → UpdatesWithin H U K V →
    IsDirectory H U object → IsDirectory K V object
directory_within more (inl root) = inl root
directory_within more (inr made) = inr (made_within more made)

-- the same updates show the same
pub live_same : {H K : List Event} {U V : ℕ → Type 0} {entry : ModelEntry} → SameUpdates H U K V → IsLive H U entry →
    IsLive K V entry
live_same same l =
    record { entered = entered_within same.there l.entered; not_removed = λ r. l.not_removed (removed_within same.back r) }

pub bound_same : {H K : List Event} {U V : ℕ → Type 0} {dir target : Id} {name : List ℕ} → SameUpdates H U K V →
    IsBound H U dir name target → IsBound K V dir name target
bound_same same b =
    record { entry = b.entry; live = live_same same b.live; in_dir = b.in_dir; named = b.named; leads = b.leads }

pub leads_same : {H K : List Event} {U V : ℕ → Type 0} {dir object : Id} → SameUpdates H U K V → Leads H U dir object →
    Leads K V dir object
leads_same same l = record { name = l.name; bound = bound_same same l.bound }

-- what leads further reaches more
pub reached_within : {leads more : Id → Id → Type 0} {base : Id → Type 0} {object : Id} →
    ((dir target : Id) → leads dir target → more dir target) → IsReached leads base object → IsReached more base object
reached_within h (Base b) = Base b
reached_within h (Through {dir = dir} {object = object} r l) = Through (reached_within h r) (h dir object l)

-- from more bases more is reached
pub reached_from_more : {leads : Id → Id → Type 0} {base more : Id → Type 0} {object : Id} →
    ((start : Id) → base start → more start) → IsReached leads base object → IsReached leads more object
reached_from_more h (Base {object = object} b) = Base (h object b)
reached_from_more h (Through r l) = Through (reached_from_more h r) l

pub tree_in_reach : {H : List Event} {U : ℕ → Type 0} {object : Id} → IsInTree H U object → IsInReach H U object
tree_in_reach r = reached_from_more (λ start root. inl root) r

pub tree_same : {H K : List Event} {U V : ℕ → Type 0} {object : Id} → SameUpdates H U K V → IsInTree H U object →
    IsInTree K V object
tree_same same r = reached_within (λ dir target l. leads_same same l) r

pub shows_same : {H K : List Event} {U V : ℕ → Type 0} → SameUpdates H U K V → ShowSame H U K V
shows_same same =
    let back = same_back same in
    record {
      live = λ entry. (live_same same, live_same back);
      bound = λ dir name target. (bound_same same, bound_same back);
      made = λ object kind. (made_within same.there, made_within same.back);
      tree = λ object. (tree_same same, tree_same back);
    }

-- what two know together is what one or the other knows
pub has_either : {H : List Event} {U V : ℕ → Type 0} {number : Id} {op : Op} → HasUpdate H (Joined U V) number op →
    HasUpdate H U number op ⊎ HasUpdate H V number op
has_either {H} {U} {V} {number} {op} u = go u.known
  where
    go : U u.position ⊎ V u.position → HasUpdate H U number op ⊎ HasUpdate H V number op
    go (inl known) = inl (record { position = u.position; known = known; update = u.update })
    go (inr known) = inr (record { position = u.position; known = known; update = u.update })

pub entered_from : {H : List Event} {U : ℕ → Type 0} {op : Op} (entry : ModelEntry) → HasUpdate H U entry.id op →
    entered_by entry.id op ≡ Some entry → IsEntered H U entry
entered_from {op} entry u enters =
    record { position = u.position; op = op; known = u.known; update = u.update; enters = enters }

pub removed_from : {H : List Event} {U : ℕ → Type 0} {number : Id} {op : Op} (id : Id) → HasUpdate H U number op →
    Contains (removed_by number op) id → IsRemoved H U id
removed_from {number} {op} id u removes =
    record { position = u.position; number = number; op = op; known = u.known; update = u.update; removes = removes }

pub entered_has : {H : List Event} {U : ℕ → Type 0} {entry : ModelEntry} (e : IsEntered H U entry) →
    HasUpdate H U entry.id e.op
entered_has e = record { position = e.position; known = e.known; update = e.update }

pub removed_has : {H : List Event} {U : ℕ → Type 0} {id : Id} (r : IsRemoved H U id) → HasUpdate H U r.number r.op
removed_has r = record { position = r.position; known = r.known; update = r.update }

pub made_from : {H : List Event} {U : ℕ → Type 0} {object dir : Id} {name text : List ℕ} {kind : Kind} →
    HasUpdate H U object (Make dir name kind text) → IsMade H U object kind
made_from {dir} {name} {text} u = record { position = u.position; dir = dir; name = name; text = text; known = u.known; update = u.update }

pub made_has : {H : List Event} {U : ℕ → Type 0} {object : Id} {kind : Kind} (m : IsMade H U object kind) →
    HasUpdate H U object (Make m.dir m.name kind m.text)
made_has m = record { position = m.position; known = m.known; update = m.update }

pub entered_either : {H : List Event} {U V : ℕ → Type 0} {entry : ModelEntry} → IsEntered H (Joined U V) entry →
    IsEntered H U entry ⊎ IsEntered H V entry
entered_either {H} {U} {V} {entry} e = go (has_either (entered_has e))
  where
    go : HasUpdate H U entry.id e.op ⊎ HasUpdate H V entry.id e.op → IsEntered H U entry ⊎ IsEntered H V entry
    go (inl u) = inl (entered_from entry u e.enters)
    go (inr u) = inr (entered_from entry u e.enters)

pub removed_either : {H : List Event} {U V : ℕ → Type 0} {id : Id} → IsRemoved H (Joined U V) id →
    IsRemoved H U id ⊎ IsRemoved H V id
removed_either {H} {U} {V} {id} r = go (has_either (removed_has r))
  where
    go : HasUpdate H U r.number r.op ⊎ HasUpdate H V r.number r.op → IsRemoved H U id ⊎ IsRemoved H V id
    go (inl u) = inl (removed_from id u r.removes)
    go (inr u) = inr (removed_from id u r.removes)

pub made_either : {H : List Event} {U V : ℕ → Type 0} {object : Id} {kind : Kind} → IsMade H (Joined U V) object kind →
    IsMade H U object kind ⊎ IsMade H V object kind
made_either {H} {U} {V} {object} {kind} m = go (has_either (made_has m))
  where
    go : HasUpdate H U object (Make m.dir m.name kind m.text) ⊎ HasUpdate H V object (Make m.dir m.name kind m.text) →
        IsMade H U object kind ⊎ IsMade H V object kind
    go (inl u) = inl (made_from u)
    go (inr u) = inr (made_from u)

pub within_joined_left : {H : List Event} {U V : ℕ → Type 0} → UpdatesWithin H U H (Joined U V)
within_joined_left = within_known (λ position known. inl known)

pub within_joined_right : {H : List Event} {U V : ℕ → Type 0} → UpdatesWithin H V H (Joined U V)
within_joined_right = within_known (λ position known. inr known)

-- what is alive where both are known was entered in one and is removed in neither
pub joined_live : {H : List Event} {U V : ℕ → Type 0} {entry : ModelEntry} → IsLive H (Joined U V) entry →
    IsLiveJoined H U H V entry
joined_live l = record {
  entered = entered_either l.entered;
  kept = λ r. l.not_removed (removed_within within_joined_left r);
  kept_there = λ r. l.not_removed (removed_within within_joined_right r);
}

pub live_joined : {H : List Event} {U V : ℕ → Type 0} {entry : ModelEntry} → IsLiveJoined H U H V entry →
    IsLive H (Joined U V) entry
live_joined {H} {U} {V} {entry} l =
    record { entered = entered l.entered; not_removed = λ r. removed (removed_either r) }
  where
    entered : IsEntered H U entry ⊎ IsEntered H V entry → IsEntered H (Joined U V) entry
    entered (inl own) = entered_within within_joined_left own
    entered (inr his) = entered_within within_joined_right his

    removed : IsRemoved H U entry.id ⊎ IsRemoved H V entry.id → ⊥
    removed (inl own) = l.kept own
    removed (inr his) = l.kept_there his

-- replicas that know the same updates
pub same_from_known : {H : List Event} {replica other : ℕ} → KnowSameUpdates H replica other →
    SameUpdates H (Knows H replica) H (Knows H other)
same_from_known same = record {
  there = record { has = λ number op u. record { position = u.position; known = (same u.position number op u.update).0 u.known; update = u.update } };
  back = record { has = λ number op u. record { position = u.position; known = (same u.position number op u.update).1 u.known; update = u.update } };
}
