-- A lawful history with a file in conflict, a settled version, and an orphan.
use Rattle.std.proofs.Common.{◌≡◌, ◌↔◌, ◌⊎◌, ℕ, ◌<◌, ◌≤◌, ◌∙◌, List, [], ◌∷◌, length, refl, sym, ap, subst, inl, inr, arith}
use Rattle.std.specs.Prelude.{Contains, slice_get, codes}
use Rattle.std.proofs.lemmas.Option.{same_Some}
use Rattle.ficus_ids.specs.ListLaws.{here, here_or_there, not_inside_none}
use Rattle.ficus_ids.specs.declared.id.Id.{Id}
use Rattle.ficus_ids.specs.declared.id.TheConstants.{ROOT}
use Rattle.ficus_ids.specs.declared.kind.Kind.TheVariants.{Dir, Plain}
use Rattle.ficus_model.specs.declared.event.Event.{Event}
use Rattle.ficus_model.specs.declared.event.Event.TheVariants.{Update}
use Rattle.ficus_model.specs.declared.event.Op.{Op}
use Rattle.ficus_model.specs.Events.{IsUpdate, count_of}
use Rattle.ficus_model.specs.Known.{Knows, HasInPast}
use Rattle.ficus_model.specs.Live.{ModelEntry, IsEntered, IsRemoved, IsLive, IsBoundBy, HasName, IsMade, IsFile, IsVersioned, IsDirectory}
use Rattle.ficus_model.specs.Reached.IsReached.{Base, Through}
use Rattle.ficus_model.specs.Versions.{written_of, IsVersion, IsShown, IsInConflict}
use Rattle.ficus_model.specs.View.{IsOrphan, IsReachedFile}
use Rattle.ficus_model.specs.Lawful.{AreNames, FitsBytes, MayUpdate, IsLawful}
use Rattle.ficus_laws.proofs.Positions.{agree_back, agree_before, of_at}
use Rattle.ficus_laws.proofs.Updates.{id_of, agree_update}
use Rattle.ficus_laws.proofs.Knowledge.{knows_own}
use Rattle.ficus_laws.proofs.Past.{agree_past}
use Rattle.ficus_laws.proofs.Lawful.{lawful_none, lawful_more}
use Rattle.ficus_laws.proofs.Issued.{made_once}
use Rattle.ficus_laws.proofs.Pull.{lawful_pulled}
use Rattle.ficus_removal_laws.proofs.Example.{first, second, root_directory, place}
use Rattle.ficus_version_laws.proofs.Advancing.{shown_is_end}
use Rattle.ficus_version_laws.proofs.Orphaned.{one_no_conflict}
use Rattle.ficus_final_laws.specs.Examples.{example_file, makes_file, removes_file, conflict_volume, conflict_history}
use Rattle.ficus_final_laws.proofs.Before.{known_before}
use Rattle.ficus_final_laws.proofs.ConflictUpdates.{IsOneOf, first_writes, second_writes, settles, one_of, one_of_before, cut, Known, file_entry, entry_is, removed_late, covers_late, makes, removes, settling, first_knows, second_knows, first_told, first_told_removal, first_wrote, second_untold, removal_apart, none_over_first, none_over_second}
use Rattle.ficus_final_laws.proofs.ConflictUpdates.IsOneOf.{Making, WritingFirst, WritingSecond, Settling, Removing}
use Rattle.ficus_final_laws.proofs.Using.{not_root}

-- In each of these a replica knows the Make, and nothing is removed yet.
module _ (n replica : ℕ) (early : n ≤ 10) (known : Known n replica 0) where
  makes_there : IsUpdate (cut n) 0 example_file makes_file
  makes_there =
      agree_update (agree_back (agree_before n conflict_history)) (known_before conflict_history n known) makes

  made : IsMade (cut n) (Known n replica) example_file Plain
  made = record { position = 0; dir = _; name = _; text = _; known = known; update = makes_there }

  is_file : IsFile (cut n) (Known n replica) example_file
  is_file = record { kind = Plain; made = made; other = λ same. cc }

  versioned : IsVersioned (cut n) (Known n replica) example_file
  versioned = record { kind = Plain; made = made; changes = refl }

  nothing_removed : {removed : Id} → IsRemoved (cut n) (Known n replica) removed → ⊥
  nothing_removed r =
      let late = removed_late (one_of_before n r.known r.update) r.removes in
      let h = known_before conflict_history n r.known in
      omega (arith, early)

  live : IsLive (cut n) (Known n replica) file_entry
  live = record {
    entered = record { position = 0; op = makes_file; known = known; update = makes_there; enters = refl };
    not_removed = nothing_removed;
  }

  reached_file : IsReachedFile (cut n) (Known n replica) example_file
  reached_file = record {
    is_file = is_file;
    reached = Through (Base (inl refl)) (record {
      name = codes "a";
      bound = record { entry = file_entry; live = live; in_dir = refl; named = refl; leads = refl };
    });
  }

  alone : {entry : ModelEntry} → IsEntered (cut n) (Known n replica) entry → file_entry ≡ entry
  alone e = entry_is (one_of_before n e.known e.update) e.enters

  names : AreNames (cut n) (Known n replica) (example_file ∷ []) example_file
  names = record { dir = ROOT; name = codes "a"; parent = root_directory; all = all; some = λ none. cc }
    where
      only : {found : Id} → (found ≡ example_file) ⊎ Contains [] found → found ≡ example_file
      only (inl is) = is
      only {found} (inr none) = absurd (not_inside_none found none)

      all : (found : Id) → Contains (example_file ∷ []) found ↔
          IsBoundBy (cut n) (Known n replica) found ROOT (codes "a") example_file
      all found = (
        λ inside. record {
          bound = record { entry = file_entry; live = live; in_dir = refl; named = refl; leads = refl };
          by = sym (only (here_or_there example_file found [] inside));
        },
        λ bound.
            let is = ap (λ (entry : ModelEntry). entry.id) (alone bound.bound.live.entered) ∙ bound.by in
            subst (Contains (example_file ∷ [])) is (here example_file []),
      )

  no_directory : IsDirectory (cut n) (Known n replica) example_file → ⊥
  no_directory (inl root) = not_root example_file first root
  no_directory (inr directory) = let kinds : Dir ≡ Plain = made_once directory made in cc

-- after the pull both writes are shown, and they differ
shown_if : (position : ℕ) → IsVersion (cut 9) example_file position → Known 9 1 position →
    ((other : ℕ) (number : Id) (op : Op) → IsOneOf other number op → other < 9 →
    HasInPast conflict_history other position → ⊥) →
    IsShown (cut 9) (Known 9 1) example_file position
shown_if position v known none = record {
  version = v;
  known = known;
  latest = λ other w k p.
      let h = known_before conflict_history 9 k in
      none other w.number w.op (one_of_before 9 k w.update) h (agree_past (agree_before 9 conflict_history) h p);
}

abbrev writes_first : IsUpdate (cut 9) 4 (id_of 1 2) first_writes
writes_first = record { at = record { is = refl }; counted = refl }

abbrev writes_second : IsUpdate (cut 9) 5 (id_of 2 1) second_writes
writes_second = record { at = record { is = refl }; counted = refl }

pub in_conflict : IsInConflict (cut 9) (Known 9 1) example_file
in_conflict = record {
  one = codes "x";
  other = codes "y";
  shows_one = record {
    position = 4;
    shown = shown_if 4 (record { number = id_of 1 2; op = first_writes; update = writes_first; versions = refl })
        first_wrote
        (λ other number op h. none_over_first h);
    has = record { number = id_of 1 2; op = first_writes; update = writes_first; are = refl };
  };
  shows_other = record {
    position = 5;
    shown = shown_if 5 (record { number = id_of 2 1; op = second_writes; update = writes_second; versions = refl })
        first_told
        (λ other number op h. none_over_second h);
    has = record { number = id_of 2 1; op = second_writes; update = writes_second; are = refl };
  };
  differ = λ same.
      let codes_same : 120 ≡ 121 = same_Some 120 121 (ap (λ (bytes : List ℕ). slice_get bytes 0) same) in
      omega arith;
}

pub settled : IsInConflict (cut 10) (Known 10 1) example_file → ⊥
settled conflict = one_no_conflict {only = 9} (λ position shown. shown_is_end (cut 9) 1 settles refl shown) conflict

-- the first one sees the settled version, of which the removal hadn't heard, and no name
pub orphaned : IsOrphan conflict_history (Knows conflict_history 1) example_file
orphaned = record {
  nameless = nameless;
  kept = inr (record {
    is_file = record {
      kind = Plain;
      made = record { position = 0; dir = _; name = _; text = _; known = first_knows 14 (omega arith); update = makes };
      other = λ same. cc;
    };
    position = 9;
    uncovered = record {
      version = record { number = id_of 1 3; op = settles; update = settling; versions = refl };
      known = knows_own (of_at {event = Update 1 settles} (record { is = refl }));
      uncovered = λ cover c k p.
          let is = covers_late (one_of cover c.update) c.covers in
          removal_apart (subst (λ late. HasInPast conflict_history late 9) is p);
    };
  });
}
  where
    removed : IsRemoved conflict_history (Knows conflict_history 1) example_file
    removed = record {
      position = 10;
      number = id_of 2 2;
      op = removes_file;
      known = first_told_removal;
      update = removes;
      removes = here example_file [];
    }

    nameless : HasName conflict_history (Knows conflict_history 1) example_file → ⊥
    nameless n =
        let e = n.live.entered in
        let is = entry_is (one_of e.position e.update) e.enters in
        let gone = λ (entry : ModelEntry). IsRemoved conflict_history (Knows conflict_history 1) entry.id in
        n.live.not_removed (subst gone is removed)

-- each update may come
fits : {H : List Event} {by : ℕ} {bytes : List ℕ} → length bytes ≡ 1 → written_of by H ≤ 1 →
    FitsBytes conflict_volume H by bytes
fits one few = record { one_file = omega arith; left = omega arith }

place_of : {position : ℕ} {number : Id} {op : Op} → IsOneOf position number op →
    (position ≡ 0) ⊎ ((position ≡ 4) ⊎ (5 ≤ position))
place_of Making = inl refl
place_of WritingFirst = inr (inl refl)
place_of WritingSecond = inr (inr (omega arith))
place_of Settling = inr (inr (omega arith))
place_of Removing = inr (inr (omega arith))

-- as long as a replica knows of no write, the file isn't in conflict for it
not_in_conflict : (n replica : ℕ) → n ≤ 5 → (Known n replica 4 → ⊥) →
    IsInConflict (cut n) (Known n replica) example_file → ⊥
not_in_conflict n replica early untold conflict = one_no_conflict {only = 0}
    (λ position shown.
    is_first position shown.known (place_of (one_of_before n shown.known shown.version.update)))
    conflict
  where
    is_first : (position : ℕ) → Known n replica position → (position ≡ 0) ⊎ ((position ≡ 4) ⊎ (5 ≤ position)) →
        position ≡ 0
    is_first position k (inl is) = is
    is_first position k (inr (inl is)) = absurd (untold (subst (Known n replica) is k))
    is_first position k (inr (inr late)) =
        absurd (let h = known_before conflict_history n k in omega (arith, early))

may_make : MayUpdate conflict_volume [] 1 makes_file
may_make = record {
  member = first;
  left = omega arith;
  bytes = record { one_file = omega arith; left = omega arith };
  allowed = record { place = place; fits = refl };
}

may_write_first : MayUpdate conflict_volume (cut 4) 1 first_writes
may_write_first = record {
  member = first;
  left = let count : count_of 1 (cut 4) ≡ 1 = refl in omega arith;
  bytes = fits refl (let written : written_of 1 (cut 4) ≡ 0 = refl in omega arith);
  allowed = record {
    in_reach = reached_file 4 1 (omega arith) (first_knows 4 (omega arith));
    versioned = versioned 4 1 (omega arith) (first_knows 4 (omega arith));
    settled = not_in_conflict 4 1 (omega arith) (λ k. let h = known_before conflict_history 4 k in omega arith);
  };
}

may_write_second : MayUpdate conflict_volume (cut 5) 2 second_writes
may_write_second = record {
  member = second;
  left = let count : count_of 2 (cut 5) ≡ 0 = refl in omega arith;
  bytes = fits refl (let written : written_of 2 (cut 5) ≡ 0 = refl in omega arith);
  allowed = record {
    in_reach = reached_file 5 2 (omega arith) (second_knows 5 (omega arith));
    versioned = versioned 5 2 (omega arith) (second_knows 5 (omega arith));
    settled = not_in_conflict 5 2 (omega arith) second_untold;
  };
}

may_settle : MayUpdate conflict_volume (cut 9) 1 settles
may_settle = record {
  member = first;
  left = let count : count_of 1 (cut 9) ≡ 2 = refl in omega arith;
  bytes = fits refl (let written : written_of 1 (cut 9) ≡ 1 = refl in omega arith);
  allowed = record {
    in_reach = reached_file 9 1 (omega arith) (first_knows 9 (omega arith));
    versioned = versioned 9 1 (omega arith) (first_knows 9 (omega arith));
    conflict = in_conflict;
  };
}

may_remove : MayUpdate conflict_volume (cut 10) 2 removes_file
may_remove = record {
  member = second;
  left = let count : count_of 2 (cut 10) ≡ 1 = refl in omega arith;
  bytes = tt;
  allowed = record {
    names = names 10 2 (omega arith) (second_knows 10 (omega arith));
    left = λ directory inside. absurd (no_directory 10 2 (omega arith) (second_knows 10 (omega arith)) directory);
  };
}

pub history_lawful : IsLawful conflict_volume conflict_history
history_lawful =
    let made_is = lawful_more conflict_volume [] (Update 1 makes_file) (lawful_none conflict_volume) may_make in
    let told = lawful_pulled (cut 1) 2 1 0 conflict_volume second first (omega arith) made_is in
    let once = lawful_more conflict_volume (cut 4) (Update 1 first_writes) told may_write_first in
    let twice = lawful_more conflict_volume (cut 5) (Update 2 second_writes) once may_write_second in
    let joined = lawful_pulled (cut 6) 1 2 0 conflict_volume first second (omega arith) twice in
    let resolved = lawful_more conflict_volume (cut 9) (Update 1 settles) joined may_settle in
    let removed = lawful_more conflict_volume (cut 10) (Update 2 removes_file) resolved may_remove in
    lawful_pulled (cut 11) 1 2 0 conflict_volume first second (omega arith) removed
