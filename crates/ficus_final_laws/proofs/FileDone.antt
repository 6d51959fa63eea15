-- A lawful history in which a file is done, and an answer is taken afterwards.
use Rattle.std.proofs.Common.{◌≡◌, ◌⊎◌, ℕ, zero, suc, [], ◌∷◌, Some, refl, sym, subst, inl, inr, arith}
use Rattle.std.specs.Prelude.{slice_get}
use Rattle.ficus_ids.specs.declared.id.Id.{Id}
use Rattle.ficus_ids.specs.declared.kind.Kind.TheVariants.{Dir, Plain}
use Rattle.ficus_model.specs.declared.event.Event.TheVariants.{Update, Ask, Serve, Accept}
use Rattle.ficus_model.specs.declared.event.Op.{Op}
use Rattle.ficus_model.specs.Events.{IsAt, IsUpdate, before}
use Rattle.ficus_model.specs.Known.{Knows, HasInPast}
use Rattle.ficus_model.specs.Live.{ModelEntry, entered_by, IsEntered, IsMade}
use Rattle.ficus_model.specs.Versions.{version_of, IsCovering, IsUncovered}
use Rattle.ficus_model.specs.View.{IsFilled, HasUnseen, IsOrphan}
use Rattle.ficus_model.specs.Lawful.{IsLawful}
use Rattle.ficus_model.specs.Held.{IsDropped, IsDone}
use Rattle.ficus_laws.proofs.AfterUpdate.{enters_none}
use Rattle.ficus_laws.proofs.Knowledge.{knows_own}
use Rattle.ficus_laws.proofs.Past.{update_same}
use Rattle.ficus_laws.proofs.Issued.{made_once}
use Rattle.ficus_laws.proofs.Pull.{lawful_pulled}
use Rattle.ficus_version_laws.proofs.Objects.{none_is}
use Rattle.ficus_removal_laws.specs.Example.{drop_volume, drop_history}
use Rattle.ficus_removal_laws.proofs.Dropping.{dropped_more}
use Rattle.ficus_removal_laws.proofs.Example.{first, second, drop_lawful, drop_dropped}
use Rattle.ficus_final_laws.specs.Examples.{example_file, makes_file, removes_file, done_volume, done_history}

pub history_lawful : IsLawful done_volume done_history
history_lawful = lawful_pulled drop_history 2 1 0 drop_volume second first (omega arith) drop_lawful

pub entry_dropped : IsDropped 2 done_history 1 example_file
entry_dropped = dropped_more (Ask 2 1 ∷ Serve 1 9 5 1 ∷ Accept 2 10 0 ∷ []) drop_dropped

makes : IsUpdate done_history 0 example_file makes_file
makes = record { at = record { is = refl }; counted = refl }

removes : IsUpdate done_history 1 (record { replica = 1; number = 2 }) removes_file
removes = record { at = record { is = refl }; counted = refl }

-- there are no other updates
only : (position : ℕ) {by : ℕ} {op : Op} → slice_get done_history position ≡ Some (Update by op) →
    (position ≡ 0) ⊎ (position ≡ 1)
only zero e = inl refl
only (suc zero) e = inr refl
only (suc (suc zero)) e = cc
only (suc (suc (suc zero))) e = cc
only (suc (suc (suc (suc zero)))) e = cc
only (suc (suc (suc (suc (suc zero))))) e = cc
only (suc (suc (suc (suc (suc (suc zero)))))) e = cc
only (suc (suc (suc (suc (suc (suc (suc zero))))))) e = cc
only (suc (suc (suc (suc (suc (suc (suc (suc zero)))))))) e = cc
only (suc (suc (suc (suc (suc (suc (suc (suc (suc zero))))))))) e = cc
only (suc (suc (suc (suc (suc (suc (suc (suc (suc (suc zero)))))))))) e = cc
only (suc (suc (suc (suc (suc (suc (suc (suc (suc (suc (suc zero))))))))))) e = cc
only (suc (suc (suc (suc (suc (suc (suc (suc (suc (suc (suc (suc position)))))))))))) e = cc

-- each update is the Make or the Remove
makes_or_removes : {position : ℕ} {number : Id} {op : Op} → IsUpdate done_history position number op →
    ((number ≡ example_file) × (op ≡ makes_file) × (position ≡ 0)) ⊎ (op ≡ removes_file)
makes_or_removes {position} {number} {op} u = go (only position u.at.is)
  where
    go : (position ≡ 0) ⊎ (position ≡ 1) →
        ((number ≡ example_file) × (op ≡ makes_file) × (position ≡ 0)) ⊎ (op ≡ removes_file)
    go (inl zero_is) =
        let same = update_same (subst (λ p. IsUpdate done_history p number op) zero_is u) makes in
        inl (same.0, same.1, zero_is)
    go (inr one_is) = inr (update_same (subst (λ p. IsUpdate done_history p number op) one_is u) removes).1

at_first : IsAt (before 8 done_history) 0 (Update 1 makes_file)
at_first = record { is = refl }

at_second : IsAt (before 8 done_history) 1 (Update 1 removes_file)
at_second = record { is = refl }

made : IsMade done_history (Knows (before 8 done_history) 1) example_file Plain
made = record {
  position = 0;
  dir = _;
  name = _;
  text = _;
  known = knows_own (record { event = Update 1 makes_file; at = at_first; of = refl });
  update = makes;
}

same_entry : {U : ℕ → Type 0} {entry : ModelEntry} → (e : IsEntered done_history U entry) → example_file ≡ entry.id
same_entry {entry = entry} e = go (makes_or_removes e.update)
  where
    go : ((entry.id ≡ example_file) × (e.op ≡ makes_file) × (e.position ≡ 0)) ⊎ (e.op ≡ removes_file) →
        example_file ≡ entry.id
    go (inl found) = sym found.0
    go (inr removal) =
        absurd (enters_none entry (subst (λ op. entered_by entry.id op ≡ Some entry) removal e.enters))

covered : (position : ℕ) → IsUncovered done_history (Knows (before 8 done_history) 1) example_file position → ⊥
covered position u = go (makes_or_removes u.version.update)
  where
    covering : IsCovering done_history example_file 1
    covering = record { number = _; op = removes_file; update = removes; covers = refl }

    known : Knows (before 8 done_history) 1 1
    known = knows_own (record { event = Update 1 removes_file; at = at_second; of = refl })

    past : HasInPast done_history 1 0
    past = record {
      replica = 1;
      own = record { event = Update 1 removes_file; at = record { is = refl }; of = refl };
      known = knows_own (record { event = Update 1 makes_file; at = record { is = refl }; of = refl });
    }

    go : ((u.version.number ≡ example_file) × (u.version.op ≡ makes_file) × (position ≡ 0)) ⊎
        (u.version.op ≡ removes_file) → ⊥
    go (inl found) = u.uncovered 1 covering known (subst (HasInPast done_history 1) (sym found.2) past)
    go (inr removal) = none_is example_file
        (subst (λ op. version_of u.version.number op ≡ Some example_file) removal u.version.versions)

no_orphan : IsOrphan done_history (Knows (before 8 done_history) 1) example_file → ⊥
no_orphan orphan = go orphan.kept
  where
    go : IsFilled done_history (Knows (before 8 done_history) 1) example_file ⊎
        HasUnseen done_history (Knows (before 8 done_history) 1) example_file → ⊥
    go (inl filled) = let kinds : Dir ≡ Plain = made_once filled.made made in cc
    go (inr unseen) = covered unseen.position unseen.uncovered

pub file_done : IsDone 2 done_history 1 example_file 8
file_done = record {
  collect = record { is = refl };
  kind = Plain;
  made = made;
  dropped = λ entry e touches. subst (IsDropped 2 drop_history 1) (same_entry e) drop_dropped;
  no_orphan = no_orphan;
}
