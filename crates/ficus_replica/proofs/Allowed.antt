-- What the history shows of a place or an object, and what it allows there.
use Rattle.std.proofs.Common.{◌<◌, ℕ, List, length, refl, sym, ap, subst, ◌∙◌, inl, inr, arith}
use Rattle.std.specs.Prelude.{Contains}
use Rattle.ficus_ids.specs.KindLaws.{versioned_kind}
use Rattle.ficus_ids.specs.ListLaws.{not_inside_none}
use Rattle.ficus_ids.specs.declared.id.Id.{Id}
use Rattle.ficus_path.specs.declared.path.Path.{Path}
use Rattle.ficus_model.specs.declared.event.Event.{Event}
use Rattle.ficus_model.specs.declared.event.Op.{Op}
use Rattle.ficus_model.specs.Events.{count_of}
use Rattle.ficus_model.specs.Known.{Knows}
use Rattle.ficus_model.specs.Lawful.{Volume, IsLawful, IsAllowed, HasBytesLeft, HasPlace, IsNamedInReach, AreNames, HasOtherName, StaysOutside, MayLink, MayRemove, MayMove, MayAdopt, MayDiscard, FitsBytes, most_file_bytes}
use Rattle.ficus_model.specs.Live.{ModelEntry, IsBound, IsBoundBy, IsMade, IsDirectory, IsFile, IsVersioned, HasName}
use Rattle.ficus_model.specs.View.{IsInReach, IsOrphan, IsReachedDirectory, IsReachedFile, IsVisible}
use Rattle.ficus_laws.proofs.Issued.{entered_once}
use Rattle.ficus_laws.proofs.Shown.{reached_within}
use Rattle.ficus_rules.specs.Named.{IsBoundByIn, AreNamedIn, HasOtherNameIn}
use Rattle.ficus_rules.specs.Remove.{IsFullIn}
use Rattle.ficus_rules.specs.View.{IsBoundIn, IsTakenIn, IsDirectoryIn, IsInReachIn, IsWithinIn, history_view}
use Rattle.ficus_rules.specs.Walk.{Found, last_name}
use Rattle.ficus_rules.proofs.Walks.{IsWalkedTo, IsFileAt, IsVersionedAt, IsEntryAt}
use Rattle.ficus_replica.proofs.Views.{visible_made}

-- the operation may be done after the history, by a member that is left updates and bytes
pub record MayBeDone (volume : Volume) (H : List Event) (r : ℕ) (op : Op) : Type 0 where
  pub left : count_of r H < volume.ids
  pub bytes : HasBytesLeft volume H r op
  pub allowed : IsAllowed H (Knows H r) op

module _ (volume : Volume) (H : List Event) (r : ℕ) where
  -- what is bound in the history is in its view
  pub bound_in : {dir target : Id} {name : List ℕ} → IsBound H (Knows H r) dir name target →
      IsBoundIn (history_view volume H r) dir name target
  bound_in bound = record { entry = bound.entry; live = bound.live; in_dir = bound.in_dir; named = bound.named; leads = bound.leads }

  -- and the other way round
  pub bound_of : {dir target : Id} {name : List ℕ} → IsBoundIn (history_view volume H r) dir name target →
      IsBound H (Knows H r) dir name target
  bound_of bound = record { entry = bound.entry; live = bound.live; in_dir = bound.in_dir; named = bound.named; leads = bound.leads }

  in_reach : {object : Id} → IsInReachIn (history_view volume H r) object → IsInReach H (Knows H r) object
  in_reach reached = reached_within (λ from to leads. record { name = leads.0; bound = bound_of leads.1 }) reached

  directory_of : {object : Id} → IsDirectoryIn (history_view volume H r) object → IsDirectory H (Knows H r) object
  directory_of (inl root) = inl root
  directory_of (inr kind) = inr kind.1

  -- a visible directory is one of the view
  directory_in : {object : Id} → IsVisible H (Knows H r) object → IsDirectory H (Knows H r) object →
      IsDirectoryIn (history_view volume H r) object
  directory_in visible (inl root) = inl root
  directory_in visible (inr made) = inr (visible, made)

  -- and a place that isn't within it in the view stays outside
  stays_outside : {object dir : Id} → IsVisible H (Knows H r) object →
      (IsWithinIn (history_view volume H r) object dir → ⊥) → StaysOutside H (Knows H r) object dir
  stays_outside visible outside = λ directory reached. outside (record {
    directory = directory_in visible directory;
    reached = reached_within (λ from to leads. (leads.name, bound_in leads.bound)) reached;
  })

  walked_directory : {dir : Id} → IsWalkedTo (history_view volume H r) dir → IsReachedDirectory H (Knows H r) dir
  walked_directory walked = record { directory = directory_of walked.directory; reached = in_reach walked.reached }

  -- a name that isn't taken, in a directory that a walk leads to, is a place for a new entry
  pub new_place : (dir : Id) (name : List ℕ) → IsWalkedTo (history_view volume H r) dir →
      (IsTakenIn (history_view volume H r) dir name → ⊥) → HasPlace H (Knows H r) dir name
  new_place dir name walked free =
      record { parent = walked_directory walked; free = λ taken. free (taken.0, bound_in taken.1) }

  name_of_bound : {dir object : Id} {name : List ℕ} → IsBoundIn (history_view volume H r) dir name object →
      HasName H (Knows H r) object
  name_of_bound bound = record { entry = bound.entry; live = bound.live; leads = bound.leads }

  -- an object that is no directory of the view is a file
  file_of : IsLawful volume H → {object : Id} → IsVisible H (Knows H r) object →
      (IsDirectoryIn (history_view volume H r) object → ⊥) → IsFile H (Knows H r) object
  file_of lawful {object} visible no_directory =
      let made = visible_made volume H r object lawful visible in
      record {
        kind = made.0;
        made = made.1;
        other = λ dir. no_directory (inr (visible, subst (IsMade H (Knows H r) object) dir made.1));
      }

  -- a file that a walk leads to is visible
  pub file_visible : {file : Id} → IsFileAt (history_view volume H r) file → IsVisible H (Knows H r) file
  file_visible found = elim found.visible [
    | inl named ↦ inl (record { entry = named.entry; live = named.live; leads = named.leads })
    | inr orphan ↦ inr orphan
  ]

  -- and in reach
  pub file_in_reach : IsLawful volume H → (file : Id) → IsFileAt (history_view volume H r) file →
      IsReachedFile H (Knows H r) file
  file_in_reach lawful file found = record {
    is_file = file_of lawful (file_visible found) found.no_directory;
    reached = in_reach found.reached;
  }

  -- a file that a walk leads to whose versions change
  pub file_versioned : IsLawful volume H → (file : Id) → IsVersionedAt (history_view volume H r) file →
      IsVersioned H (Knows H r) file
  file_versioned lawful file found =
      let visible = file_visible found.at in
      let is = file_of lawful visible found.at.no_directory in
      record {
        kind = is.kind;
        made = is.made;
        changes = versioned_kind is.kind is.other
            (λ fixed. found.changes (record { kind = is.kind; of_kind = (visible, is.made); is = fixed }));
      }

  -- the object of an entry that a walk leads to is named in reach
  pub named_in_reach : {path : Path} {found : Found} → IsEntryAt (history_view volume H r) path found →
      IsNamedInReach H (Knows H r) found.object
  named_in_reach {path} {found} at = record {
    dir = found.dir;
    name = last_name path;
    parent = walked_directory at.walked;
    bound = bound_of at.bound;
  }

  -- and where it is no directory, it may have one more name
  pub may_link : IsLawful volume H → (path : Path) (found : Found) (dir : Id) (name : List ℕ) →
      IsEntryAt (history_view volume H r) path found → HasPlace H (Knows H r) dir name →
      (IsDirectoryIn (history_view volume H r) found.object → ⊥) → MayLink H (Knows H r) dir name found.object
  may_link lawful path found dir name at place no_directory = record {
    place = place;
    is_file = file_of lawful (inl (name_of_bound at.bound)) no_directory;
    named = named_in_reach at;
  }

  bound_by_of : {id dir target : Id} {name : List ℕ} → IsBoundByIn (history_view volume H r) id dir name target →
      IsBoundBy H (Knows H r) id dir name target
  unfolding bound_of
  bound_by_of by = record { bound = bound_of by.bound; by = by.by }

  bound_by_in : {id dir target : Id} {name : List ℕ} → IsBoundBy H (Knows H r) id dir name target →
      IsBoundByIn (history_view volume H r) id dir name target
  unfolding bound_in
  bound_by_in by = record { bound = bound_in by.bound; by = by.by }

  -- In each of these the entries are all those of the name at a path.
  module _ (path : Path) (found : Found) (entries : List Id) (at : IsEntryAt (history_view volume H r) path found)
      (named : AreNamedIn (history_view volume H r) found.dir (last_name path) found.object entries) where
    are_names : AreNames H (Knows H r) entries found.object
    are_names = record {
      dir = found.dir;
      name = last_name path;
      parent = walked_directory at.walked;
      all = λ id. (
        λ inside. bound_by_of ((named.all id).0 inside),
        λ by. (named.all id).1 (bound_by_in by),
      );
      some = λ none. not_inside_none at.bound.entry.id (subst (λ list. Contains list at.bound.entry.id) none
          ((named.all at.bound.entry.id).1 (record { bound = at.bound; by = refl })));
    }

    -- another name is none of them
    other_name : HasOtherNameIn (history_view volume H r) found.dir (last_name path) found.object →
        HasOtherName H (Knows H r) entries found.object
    other_name has = record {
      entry = has.entry;
      live = has.live;
      leads = has.leads;
      beside = λ inside.
          let by = (named.all has.entry.id).0 inside in
          let one = entered_once by.bound.live.entered has.live.entered by.by in
          has.other (sym (ap (λ (e : ModelEntry). e.dir) one) ∙ by.bound.in_dir)
          (sym (ap (λ (e : ModelEntry). e.name) one) ∙ by.bound.named);
    }

    -- they may be removed where a directory in which something lives keeps a name
    pub may_remove : (IsFullIn (history_view volume H r) found.object →
        HasOtherNameIn (history_view volume H r) found.dir (last_name path) found.object) →
        MayRemove H (Knows H r) entries found.object
    may_remove keeps = record {
      names = are_names;
      left = λ directory inside. other_name (keeps (record {
        directory = directory_in (inl (name_of_bound at.bound)) directory;
        entry = inside.entry;
        live = inside.live;
        inside = inside.in_dir;
      }));
    }

    -- and their object may have another name in their place, a directory none within itself
    pub may_move : (dir : Id) (name : List ℕ) → HasPlace H (Knows H r) dir name →
        (IsWithinIn (history_view volume H r) found.object dir → ⊥) →
        MayMove H (Knows H r) entries dir name found.object
    may_move dir name place outside = record {
      names = are_names;
      place = place;
      outside = stays_outside (inl (name_of_bound at.bound)) outside;
    }

  -- an orphan may have a name, a directory none within itself
  pub may_adopt : (orphan dir : Id) (name : List ℕ) → IsOrphan H (Knows H r) orphan → HasPlace H (Knows H r) dir name →
      (IsWithinIn (history_view volume H r) orphan dir → ⊥) → MayAdopt H (Knows H r) orphan dir name
  may_adopt orphan dir name is place outside =
      record { orphan = is; place = place; outside = stays_outside (inr is) outside }

  -- and where it is no directory, it may be given up
  pub may_discard : IsLawful volume H → (orphan : Id) → IsOrphan H (Knows H r) orphan →
      (IsDirectoryIn (history_view volume H r) orphan → ⊥) → MayDiscard H (Knows H r) orphan
  may_discard lawful orphan is no_directory =
      record { orphan = is; is_file = file_of lawful (inr is) no_directory }

  -- bytes within the limits may be written
  pub bytes_left : (bytes : List ℕ) → (most_file_bytes < length bytes → ⊥) →
      ((history_view volume H r).over_quota (length bytes) → ⊥) → FitsBytes volume H r bytes
  bytes_left bytes short within = record { one_file = omega arith; left = omega arith }
