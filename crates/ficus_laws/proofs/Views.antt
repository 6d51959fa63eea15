-- The view depends only on which updates are known, also in another history.
use Rattle.std.proofs.Common.{◌≡◌, ◌≢◌, ◌⊎◌, inl, inr, ℕ, Bool, ◌<◌, List, [], ◌∷◌, ◌++◌, length, subst, arith}
use Rattle.ficus_ids.specs.declared.id.Id.{Id}
use Rattle.ficus_ids.specs.declared.kind.Kind.{Kind}
use Rattle.ficus_model.specs.declared.event.Event.{Event}
use Rattle.ficus_model.specs.declared.event.Event.TheVariants.{Update}
use Rattle.ficus_model.specs.declared.event.Op.{Op}
use Rattle.ficus_model.specs.Events.{IsUpdate, actor}
use Rattle.ficus_model.specs.Known.{Knows, HasInPast}
use Rattle.ficus_model.specs.Live.{IsBound, HasName, HasInside, IsFile}
use Rattle.ficus_model.specs.ShownNames.{HasOther}
use Rattle.ficus_model.specs.Versions.{IsVersion, IsCovering, IsShown, IsUncovered, ShowsBytes, IsInConflict}
use Rattle.ficus_model.specs.View.{IsFilled, HasUnseen, IsOrphan, IsTop, IsInReach, IsDetached, IsVisible, ShowsName, IsShared, ShowsConflict, ShowsVersion, ViewSame}
use Rattle.ficus_laws.specs.Laws.{KnowSameUpdates}
use Rattle.ficus_laws.specs.Views.{ShowSameView}
use Rattle.ficus_laws.specs.Updates.{UpdatesWithin, SameUpdates, IsQuiet, next_number}
use Rattle.ficus_laws.proofs.Positions.{AgreeBelow, agree_back, agree_more}
use Rattle.ficus_laws.proofs.Updates.{agree_update, update_within, update_cases}
use Rattle.ficus_laws.proofs.Knowledge.{knows_within, knows_more, knows_of_other, knows_untold}
use Rattle.ficus_laws.proofs.OneMore.{quiet_takes}
use Rattle.ficus_laws.proofs.Shown.{made_within, live_same, bound_same, leads_same, reached_within, reached_from_more}
use Rattle.ficus_laws.proofs.Past.{agree_past}

-- an update that the first knows stands at the same position of the second, with the same past, and is known there
pub record KnowsWithin (H : List Event) (U : ℕ → Type 0) (K : List Event) (V : ℕ → Type 0) : Type 0 where
  pub known : {position : ℕ} {number : Id} {op : Op} → IsUpdate H position number op → U position → V position
  pub update : {position : ℕ} {number : Id} {op : Op} → IsUpdate H position number op → U position →
      IsUpdate K position number op
  pub past : {position earlier : ℕ} {number : Id} {op : Op} →
      IsUpdate H position number op → U position → HasInPast H position earlier → HasInPast K position earlier

-- and the other way round
pub record KnowsSame (H : List Event) (U : ℕ → Type 0) (K : List Event) (V : ℕ → Type 0) : Type 0 where
  pub there : KnowsWithin H U K V
  pub back : KnowsWithin K V H U

pub same_turned : {H K : List Event} {U V : ℕ → Type 0} → KnowsSame H U K V → KnowsSame K V H U
same_turned s = record { there = s.back; back = s.there }

updates_within : {H K : List Event} {U V : ℕ → Type 0} → KnowsWithin H U K V → UpdatesWithin H U K V
updates_within w = record {
  has = λ number op u. record {
    position = u.position;
    known = w.known u.update u.known;
    update = w.update u.update u.known;
  };
}

pub same_updates : {H K : List Event} {U V : ℕ → Type 0} → KnowsSame H U K V → SameUpdates H U K V
same_updates s = record { there = updates_within s.there; back = updates_within s.back }

-- all known positions lie below the bound
abbrev pub KnownBelow : ℕ → (ℕ → Type 0) → Type 0
KnownBelow bound U = (position : ℕ) → U position → position < bound

-- histories that agree on the known positions
pub agree_known : {n : ℕ} {H K : List Event} {U : ℕ → Type 0} → AgreeBelow n H K → KnownBelow n U → KnowsSame H U K U
agree_known {n} {U = U} g below = record { there = within g; back = within (agree_back g) }
  where
    within : {A B : List Event} → AgreeBelow n A B → KnowsWithin A U B U
    within a = record {
      known = λ u k. k;
      update = λ u k. agree_update a (below _ k) u;
      past = λ u k p. agree_past a (below _ k) p;
    }

-- an event of another replica, and one that is no update and takes nothing
pub kept_known : (H : List Event) (event : Event) (replica : ℕ) → (actor event ≢ replica) ⊎ IsQuiet event →
    KnowsSame H (Knows H replica) (H ++ event ∷ []) (Knows (H ++ event ∷ []) replica)
kept_known H event replica kept = record {
  there = record {
    known = λ u k. knows_more (event ∷ []) k;
    update = λ u k. agree_update (agree_more H (event ∷ [])) (knows_within k) u;
    past = λ u k p. agree_past (agree_more H (event ∷ [])) (knows_within k) p;
  };
  back = record {
    known = λ u k. was kept u k;
    update = λ u k. agree_update (agree_back (agree_more H (event ∷ []))) (knows_within (was kept u k)) u;
    past = λ u k p. agree_past (agree_back (agree_more H (event ∷ []))) (knows_within (was kept u k)) p;
  };
}
  where
    quiet_no_update : {position : ℕ} {number : Id} {op : Op} → IsQuiet event → position ≡ length H →
        IsUpdate H position number op ⊎
        ((position ≡ length H) × (event ≡ Update number.replica op) × (number ≡ next_number number.replica H)) → ⊥
    quiet_no_update quiet end (inl u) = omega (arith, update_within u)
    quiet_no_update quiet end (inr (same, is, next)) = subst IsQuiet is quiet

    untold : {position : ℕ} {number : Id} {op : Op} → IsQuiet event → IsUpdate (H ++ event ∷ []) position number op →
        Knows H replica position ⊎ (position ≡ length H) → Knows H replica position
    untold quiet u (inl k) = k
    untold quiet u (inr end) = absurd (quiet_no_update quiet end (update_cases event u))

    was : {position : ℕ} {number : Id} {op : Op} → (actor event ≢ replica) ⊎ IsQuiet event →
        IsUpdate (H ++ event ∷ []) position number op → Knows (H ++ event ∷ []) replica position →
        Knows H replica position
    was (inl other) u k = knows_of_other event other k
    was (inr quiet) u k = untold quiet u (knows_untold event (λ served takes. quiet_takes event served quiet takes) k)

-- replicas that know the same updates of one history
pub equal_known : {H : List Event} {replica other : ℕ} → KnowSameUpdates H replica other →
    KnowsSame H (Knows H replica) H (Knows H other)
equal_known same = record {
  there = record { known = λ u k. (same _ _ _ u).0 k; update = λ u k. u; past = λ u k p. p };
  back = record { known = λ u k. (same _ _ _ u).1 k; update = λ u k. u; past = λ u k p. p };
}

pub file_within : {H K : List Event} {U V : ℕ → Type 0} {object : Id} →
    UpdatesWithin H U K V → IsFile H U object → IsFile K V object
file_within more f = record { kind = f.kind; made = made_within more f.made; other = f.other }

version_within_known : {H K : List Event} {U V : ℕ → Type 0} {file : Id} {position : ℕ} → KnowsWithin H U K V →
    IsVersion H file position → U position → IsVersion K file position
version_within_known w v k = record { number = v.number; op = v.op; update = w.update v.update k; versions = v.versions }

covering_within_known : {H K : List Event} {U V : ℕ → Type 0} {file : Id} {position : ℕ} → KnowsWithin H U K V →
    IsCovering H file position → U position → IsCovering K file position
covering_within_known w c k = record { number = c.number; op = c.op; update = w.update c.update k; covers = c.covers }

-- Where two know the same, they are shown the same versions, orphans and names.
module _ {H K : List Event} {U V : ℕ → Type 0} (same : KnowsSame H U K V) where
  pub shown_within : {file : Id} {position : ℕ} → IsShown H U file position → IsShown K V file position
  shown_within s = record {
    version = version_within_known same.there s.version s.known;
    known = same.there.known s.version.update s.known;
    latest = λ other v k p. s.latest other (version_within_known same.back v k) (same.back.known v.update k) (same.back.past v.update k p);
  }

  pub uncovered_within : {file : Id} {position : ℕ} → IsUncovered H U file position → IsUncovered K V file position
  uncovered_within s = record {
    version = version_within_known same.there s.version s.known;
    known = same.there.known s.version.update s.known;
    uncovered = λ cover c k p. s.uncovered cover
        (covering_within_known same.back c k) (same.back.known c.update k)
        (same.back.past c.update k p);
  }

  pub conflict_within : {file : Id} → IsInConflict H U file → IsInConflict K V file
  conflict_within {file} c = record {
    one = c.one;
    other = c.other;
    shows_one = shows c.shows_one;
    shows_other = shows c.shows_other;
    differ = c.differ;
  }
    where
      shows : {bytes : List ℕ} → ShowsBytes H U file bytes → ShowsBytes K V file bytes
      shows s = record {
        position = s.position;
        shown = shown_within s.shown;
        has = record { number = s.has.number; op = s.has.op; update = same.there.update s.has.update s.shown.known; are = s.has.are };
      }

  named_within : {object : Id} → HasName H U object → HasName K V object
  named_within n = record { entry = n.entry; live = live_same (same_updates same) n.live; leads = n.leads }

  inside_within : {object : Id} → HasInside H U object → HasInside K V object
  inside_within n = record { entry = n.entry; live = live_same (same_updates same) n.live; in_dir = n.in_dir }

  unseen_within : {object : Id} → HasUnseen H U object → HasUnseen K V object
  unseen_within u = record {
    is_file = file_within (updates_within same.there) u.is_file;
    position = u.position;
    uncovered = uncovered_within u.uncovered;
  }

  kept_within : {object : Id} → IsFilled H U object ⊎ HasUnseen H U object → IsFilled K V object ⊎ HasUnseen K V object
  kept_within (inl f) = inl (record { made = made_within (updates_within same.there) f.made; inside = inside_within f.inside })
  kept_within (inr u) = inr (unseen_within u)

-- the rest needs both ways
module _ {H K : List Event} {U V : ℕ → Type 0} (same : KnowsSame H U K V) where
  pub orphan_within : {object : Id} → IsOrphan H U object → IsOrphan K V object
  orphan_within o = record { nameless = λ n. o.nameless (named_within (same_turned same) n); kept = kept_within same o.kept }

  visible_within : {object : Id} → IsVisible H U object → IsVisible K V object
  visible_within (inl n) = inl (named_within same n)
  visible_within (inr o) = inr (orphan_within o)

  top_within : (object : Id) → IsTop H U object → IsTop K V object
  top_within object (inl root) = inl root
  top_within object (inr o) = inr (orphan_within o)

  pub reach_within : {object : Id} → IsInReach H U object → IsInReach K V object
  reach_within r = reached_from_more top_within (reached_within (λ dir target l. leads_same (same_updates same) l) r)

  other_within : {dir target : Id} {name : List ℕ} → HasOther (IsBound H U dir) name target →
      HasOther (IsBound K V dir) name target
  other_within o = record { other = o.other; bound = bound_same (same_updates same) o.bound; differs = o.differs }

-- so their views are the same
module _ {H K : List Event} {U V : ℕ → Type 0} (same : KnowsSame H U K V) where
  name_within : {dir target : Id} {name : List ℕ} {suffixed : Bool} {kind : Kind} →
      ShowsName H U dir name target suffixed kind → ShowsName K V dir name target suffixed kind
  name_within s = record {
    shown = record {
      bound = bound_same (same_updates same) s.shown.bound;
      several = (
        λ suffixed_is. other_within same (s.shown.several.0 suffixed_is),
        λ o. s.shown.several.1 (other_within (same_turned same) o),
      );
    };
    made = made_within (updates_within same.there) s.made;
  }

  shared_within : {dir : Id} {name : List ℕ} → IsShared H U dir name → IsShared K V dir name
  shared_within s = record { target = s.target; bound = bound_same (same_updates same) s.bound; several = other_within same s.several }

  shows_conflict_within : {file : Id} → ShowsConflict H U file → ShowsConflict K V file
  shows_conflict_within s = record { visible = visible_within same s.visible; conflict = conflict_within same s.conflict }

  shows_version_within : {file : Id} {position : ℕ} → ShowsVersion H U file position → ShowsVersion K V file position
  shows_version_within s = record { visible = visible_within same s.visible; shown = shown_within same s.shown }

  detached_within : {object : Id} → IsDetached H U object → IsDetached K V object
  detached_within d = record {
    made = made_within (updates_within same.there) d.made;
    named = named_within same d.named;
    apart = λ r. d.apart (reach_within (same_turned same) r);
  }

pub same_view : {H K : List Event} {U V : ℕ → Type 0} → KnowsSame H U K V → ShowSameView H U K V
same_view same =
    let turned = same_turned same in
    record {
      names = λ dir name target suffixed kind. (name_within same, name_within turned);
      shared = λ dir name. (shared_within same, shared_within turned);
      conflicts = λ file. (shows_conflict_within same, shows_conflict_within turned);
      versions = λ file position. (shows_version_within same, shows_version_within turned);
      orphans = λ object. (orphan_within same, orphan_within turned);
      detached = λ object. (detached_within same, detached_within turned);
    }

-- in one history this is what the model calls the same view
pub view_same : {H : List Event} {U V : ℕ → Type 0} → KnowsSame H U H V → ViewSame H U V
view_same same =
    let s = same_view same in
    record {
      names = s.names;
      shared = s.shared;
      conflicts = s.conflicts;
      versions = s.versions;
      orphans = s.orphans;
      detached = s.detached;
    }
