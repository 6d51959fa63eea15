-- Which objects are orphans, and which are done, is decided.
use Rattle.std.proofs.Common.{◌≡◌, ◌⊎◌, ℕ, List, subst, inl, inr}
use Rattle.ficus_ids.specs.IdLaws.{same_id_or_not}
use Rattle.ficus_ids.specs.KindLaws.{kind_sort}
use Rattle.ficus_ids.specs.declared.id.Id.{Id}
use Rattle.ficus_ids.specs.declared.kind.Kind.{Kind}
use Rattle.ficus_ids.specs.declared.kind.Kind.TheVariants.{Dir}
use Rattle.ficus_model.specs.declared.event.Event.{Event}
use Rattle.ficus_model.specs.Events.{before, through}
use Rattle.ficus_model.specs.Known.{Knows, HasInPast}
use Rattle.ficus_model.specs.Held.{IsDropped, IsDone, Touches}
use Rattle.ficus_model.specs.Live.{ModelEntry, IsFile, IsMade}
use Rattle.ficus_model.specs.Versions.{IsCovering, IsUncovered}
use Rattle.ficus_model.specs.View.{HasUnseen, IsFilled, IsOrphan}
use Rattle.ficus_laws.proofs.Deciding.{Decided, both_decided, decided_from, either_decided, knows_decided, not_decided}
use Rattle.ficus_laws.proofs.Issued.{made_once}
use Rattle.ficus_laws.proofs.Positions.{at_within}
use Rattle.ficus_version_laws.proofs.Existing.{covering_decided, past_decided, version_decided}
use Rattle.ficus_version_laws.proofs.Past.{covering_within, version_within}
use Rattle.ficus_held_laws.specs.Objects.{HasDone}
use Rattle.ficus_view_laws.proofs.Entries.{HasEntered, inside_or_not, name_decided, some_entered, some_made}
use Rattle.ficus_view_laws.proofs.Knowledge.{dropped_decided}
use Rattle.ficus_view_laws.proofs.Positions.{collect_decided, some_position}

module _ (H : List Event) (U : ℕ → Type 0) (known : (position : ℕ) → Decided (U position)) where
  -- an object is made, as something
  pub made_or_not : (object : Id) → Decided ((kind : Kind) × IsMade H U object kind)
  made_or_not object = decided_from
      (λ has. (has.kind, subst (λ id. IsMade H U id has.kind) has.holds has.made))
      (λ made. record { object = object; kind = made.0; made = made.1; holds = λ i. object })
      (some_made H U known (λ id kind. id ≡ object) (λ id kind. same_id_or_not id object))

  made_as : (object : Id) → Decided ((kind : Kind) × IsMade H U object kind) → Decided (IsMade H U object Dir)
  made_as object (inr none) = inr (λ made. none (Dir, made))
  made_as object (inl (kind, made)) = go (kind_sort kind)
    where
      go : Decided (kind ≡ Dir) → Decided (IsMade H U object Dir)
      go (inl is) = inl (subst (IsMade H U object) is made)
      go (inr other) = inr (λ made_too. other (made_once made made_too))

  file_as : (object : Id) → Decided ((kind : Kind) × IsMade H U object kind) → Decided (IsFile H U object)
  file_as object (inr none) = inr (λ is. none (is.kind, is.made))
  file_as object (inl (kind, made)) = go (kind_sort kind)
    where
      go : Decided (kind ≡ Dir) → Decided (IsFile H U object)
      go (inl is) = inr (λ file. file.other (let same = made_once made file.made in cc))
      go (inr other) = inl (record { kind = kind; made = made; other = other })

  filled_decided : (object : Id) → Decided (IsFilled H U object)
  filled_decided object = decided_from
      (λ both. record { made = both.0; inside = both.1 }) (λ is. (is.made, is.inside))
      (both_decided (made_as object (made_or_not object)) (inside_or_not H U known object))

  abbrev CoversAt : Id → ℕ → ℕ → Type 0
  CoversAt file version cover = IsCovering H file cover × (U cover × HasInPast H cover version)

  covered_decided : (file : Id) (version : ℕ) → Decided ((cover : ℕ) × CoversAt file version cover)
  covered_decided file version = some_position H (CoversAt file version)
      (λ cover. both_decided (covering_decided H file cover)
      (both_decided (known cover) (past_decided H cover version)))
      (λ cover there. covering_within there.0)

  uncovered_decided : (file : Id) (version : ℕ) → Decided (IsUncovered H U file version)
  uncovered_decided file version = decided_from
      (λ all. record {
        version = all.0;
        known = all.1.0;
        uncovered = λ cover covering knows past. all.1.1 (cover, (covering, (knows, past)));
      })
      (λ is. (is.version, (is.known, λ some. is.uncovered some.0 some.1.0 some.1.1.0 some.1.1.1)))
      (both_decided (version_decided H file version)
      (both_decided (known version) (not_decided (covered_decided file version))))

  unseen_decided : (object : Id) → Decided (HasUnseen H U object)
  unseen_decided object = decided_from
      (λ both. record { is_file = both.0; position = both.1.0; uncovered = both.1.1 })
      (λ is. (is.is_file, (is.position, is.uncovered)))
      (both_decided (file_as object (made_or_not object))
      (some_position H (IsUncovered H U object) (uncovered_decided object)
      (λ position there. version_within there.version)))

  pub orphan_decided : (object : Id) → Decided (IsOrphan H U object)
  orphan_decided object = decided_from
      (λ both. record { nameless = both.0; kept = both.1 }) (λ is. (is.nameless, is.kept))
      (both_decided (not_decided (name_decided H U known object))
      (either_decided (filled_decided object) (unseen_decided object)))

pub touches_decided : (entry : ModelEntry) (object : Id) → Decided (Touches entry object)
touches_decided entry object =
    either_decided (same_id_or_not entry.target object) (same_id_or_not entry.dir object)

-- what is decided holds where it can't be refuted
pub unless_refuted : {P : Type 0} → Decided P → ((P → ⊥) → ⊥) → P
unless_refuted (inl p) not_not = p
unless_refuted (inr none) not_not = absurd (not_not none)

module _ (members : ℕ) (H : List Event) (replica : ℕ) (object : Id) where
  -- an entry that is known at the position, touches the object and isn't dropped through it
  abbrev Keeps : ℕ → ModelEntry → Type 0
  Keeps position entry =
      Touches entry object × (IsDropped members (through position H) replica entry.id → ⊥)

  kept_or_none : (position : ℕ) → Decided (HasEntered H (Knows (before position H) replica) (Keeps position))
  kept_or_none position = some_entered H (Knows (before position H) replica)
      (knows_decided (before position H) replica) (Keeps position)
      (λ entry. both_decided (touches_decided entry object)
      (not_decided (dropped_decided members (through position H) replica entry.id)))

  done_decided : (position : ℕ) → Decided (IsDone members H replica object position)
  done_decided position = decided_from
      (λ all. record {
        collect = all.0;
        kind = all.1.0.0;
        made = all.1.0.1;
        dropped = λ entry entered touches.
            unless_refuted (dropped_decided members (through position H) replica entry.id)
            (λ none. all.1.1.0 (record { entry = entry; entered = entered; holds = (touches, none) }));
        no_orphan = all.1.1.1;
      })
      (λ done. (
        done.collect,
        (
          (done.kind, done.made),
          (
            λ has. has.holds.1 (done.dropped has.entry has.entered has.holds.0),
            done.no_orphan,
          ),
        ),
      ))
      (let known = knows_decided (before position H) replica in
      both_decided (collect_decided H position replica)
      (both_decided (made_or_not H (Knows (before position H) replica) known object)
      (both_decided (not_decided (kept_or_none position))
      (not_decided (orphan_decided H (Knows (before position H) replica) known object)))))

  pub done_or_not : Decided (HasDone members H replica object)
  done_or_not = decided_from
      (λ some. record { position = some.0; done = some.1 }) (λ has. (has.position, has.done))
      (some_position H (IsDone members H replica object) done_decided
      (λ position there. at_within there.collect))
