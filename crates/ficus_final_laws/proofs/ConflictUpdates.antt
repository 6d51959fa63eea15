-- The updates of the history with a conflict, and who knows of them.
use Rattle.std.proofs.Common.{◌≡◌, ℕ, zero, suc, ◌<◌, ◌≤◌, List, Some, refl, subst, arith}
use Rattle.std.specs.Prelude.{Contains, codes}
use Rattle.std.proofs.lemmas.Option.{same_Some}
use Rattle.ficus_ids.specs.ListLaws.{not_inside_none}
use Rattle.ficus_ids.specs.declared.id.Id.{Id}
use Rattle.ficus_ids.specs.declared.id.TheConstants.{ROOT}
use Rattle.ficus_model.specs.declared.event.Event.{Event}
use Rattle.ficus_model.specs.declared.event.Event.TheVariants.{Update}
use Rattle.ficus_model.specs.declared.event.Op.{Op}
use Rattle.ficus_model.specs.declared.event.Op.TheVariants.{Write, Settle}
use Rattle.ficus_model.specs.Events.{IsUpdate, before}
use Rattle.ficus_model.specs.Known.{Knows, HasInPast}
use Rattle.ficus_model.specs.Live.{ModelEntry, entry_of, entered_by, removed_by}
use Rattle.ficus_model.specs.Versions.{covered_by}
use Rattle.ficus_laws.proofs.Positions.{agree_before, of_at, of_same}
use Rattle.ficus_laws.proofs.Updates.{id_of, agree_update}
use Rattle.ficus_laws.proofs.Knowledge.{knows_own, knows_of_other}
use Rattle.ficus_laws.proofs.Past.{past_earlier, update_same}
use Rattle.ficus_laws.proofs.AfterUpdate.{enters_none}
use Rattle.ficus_laws.proofs.Pull.{pulled_brings}
use Rattle.ficus_version_laws.proofs.Objects.{none_is}
use Rattle.ficus_final_laws.specs.Examples.{example_file, makes_file, removes_file, conflict_history}
use Rattle.ficus_final_laws.proofs.Before.{known_before, known_stays}

abbrev pub first_writes : Op
first_writes = Write example_file (codes "x")

abbrev pub second_writes : Op
second_writes = Write example_file (codes "y")

abbrev pub settles : Op
settles = Settle example_file (codes "z")

-- the updates of the history, with their positions and numbers
pub data IsOneOf : ℕ → Id → Op → Type 0 where
  Making : IsOneOf 0 example_file makes_file
  WritingFirst : IsOneOf 4 (id_of 1 2) first_writes
  WritingSecond : IsOneOf 5 (id_of 2 1) second_writes
  Settling : IsOneOf 9 (id_of 1 3) settles
  Removing : IsOneOf 10 (id_of 2 2) removes_file

pub makes : IsUpdate conflict_history 0 example_file makes_file
makes = record { at = record { is = refl }; counted = refl }

pub removes : IsUpdate conflict_history 10 (id_of 2 2) removes_file
removes = record { at = record { is = refl }; counted = refl }

pub settling : IsUpdate conflict_history 9 (id_of 1 3) settles
settling = record { at = record { is = refl }; counted = refl }

writing_first : IsUpdate conflict_history 4 (id_of 1 2) first_writes
writing_first = record { at = record { is = refl }; counted = refl }

writing_second : IsUpdate conflict_history 5 (id_of 2 1) second_writes
writing_second = record { at = record { is = refl }; counted = refl }

update_is : {position : ℕ} {number other : Id} {op done : Op} → IsOneOf position other done →
    IsUpdate conflict_history position other done → IsUpdate conflict_history position number op →
    IsOneOf position number op
update_is {position} {other = other} {op = op} h v u =
    let same = update_same v u in
    subst (λ found. IsOneOf position found op) same.0 (subst (IsOneOf position other) same.1 h)

-- there are no others
pub one_of : (position : ℕ) {number : Id} {op : Op} → IsUpdate conflict_history position number op →
    IsOneOf position number op
one_of zero u = update_is Making makes u
one_of (suc zero) u = let e = u.at.is in cc
one_of (suc (suc zero)) u = let e = u.at.is in cc
one_of (suc (suc (suc zero))) u = let e = u.at.is in cc
one_of (suc (suc (suc (suc zero)))) u = update_is WritingFirst writing_first u
one_of (suc (suc (suc (suc (suc zero))))) u = update_is WritingSecond writing_second u
one_of (suc (suc (suc (suc (suc (suc zero)))))) u = let e = u.at.is in cc
one_of (suc (suc (suc (suc (suc (suc (suc zero))))))) u = let e = u.at.is in cc
one_of (suc (suc (suc (suc (suc (suc (suc (suc zero)))))))) u = let e = u.at.is in cc
one_of (suc (suc (suc (suc (suc (suc (suc (suc (suc zero))))))))) u = update_is Settling settling u
one_of (suc (suc (suc (suc (suc (suc (suc (suc (suc (suc zero)))))))))) u = update_is Removing removes u
one_of (suc (suc (suc (suc (suc (suc (suc (suc (suc (suc (suc zero))))))))))) u = let e = u.at.is in cc
one_of (suc (suc (suc (suc (suc (suc (suc (suc (suc (suc (suc (suc zero)))))))))))) u = let e = u.at.is in cc
one_of (suc (suc (suc (suc (suc (suc (suc (suc (suc (suc (suc (suc (suc zero))))))))))))) u = let e = u.at.is in cc
one_of (suc (suc (suc (suc (suc (suc (suc (suc (suc (suc (suc (suc (suc (suc position)))))))))))))) u =
    let e = u.at.is in cc

abbrev pub cut : ℕ → List Event
cut n = before n conflict_history

abbrev pub Known : ℕ → ℕ → ℕ → Type 0
Known n replica position = Knows (cut n) replica position

pub one_of_before : (n : ℕ) {replica position : ℕ} {number : Id} {op : Op} → Known n replica position →
    IsUpdate (cut n) position number op → IsOneOf position number op
one_of_before n {position = position} k u =
    one_of position (agree_update (agree_before n conflict_history) (known_before conflict_history n k) u)

abbrev pub file_entry : ModelEntry
file_entry = entry_of example_file ROOT (codes "a") example_file

pub entry_is : {position : ℕ} {number : Id} {op : Op} {entry : ModelEntry} → IsOneOf position number op →
    entered_by number op ≡ Some entry → file_entry ≡ entry
entry_is {entry = entry} Making enters = same_Some file_entry entry enters
entry_is {entry = entry} WritingFirst enters = absurd (enters_none entry enters)
entry_is {entry = entry} WritingSecond enters = absurd (enters_none entry enters)
entry_is {entry = entry} Settling enters = absurd (enters_none entry enters)
entry_is {entry = entry} Removing enters = absurd (enters_none entry enters)

pub removed_late : {position : ℕ} {number removed : Id} {op : Op} → IsOneOf position number op →
    Contains (removed_by number op) removed → 10 ≤ position
removed_late {removed = removed} Making inside = absurd (not_inside_none removed inside)
removed_late {removed = removed} WritingFirst inside = absurd (not_inside_none removed inside)
removed_late {removed = removed} WritingSecond inside = absurd (not_inside_none removed inside)
removed_late {removed = removed} Settling inside = absurd (not_inside_none removed inside)
removed_late Removing inside = omega arith

pub covers_late : {position : ℕ} {number : Id} {op : Op} → IsOneOf position number op →
    covered_by op ≡ Some example_file → position ≡ 10
covers_late Making covers = absurd (none_is example_file covers)
covers_late WritingFirst covers = absurd (none_is example_file covers)
covers_late WritingSecond covers = absurd (none_is example_file covers)
covers_late Settling covers = absurd (none_is example_file covers)
covers_late Removing covers = refl

-- who knows what
pub first_makes : Known 1 1 0
first_makes = knows_own (of_at {event = Update 1 makes_file} (record { is = refl }))

pub first_knows : (n : ℕ) → 1 ≤ n → Known n 1 0
first_knows n h = known_stays conflict_history h first_makes

pub second_told : Known 4 2 0
second_told = pulled_brings (cut 1) 2 1 0 first_makes

pub second_knows : (n : ℕ) → 4 ≤ n → Known n 2 0
second_knows n h = known_stays conflict_history h second_told

pub first_told : Known 9 1 5
first_told = pulled_brings (cut 6) 1 2 0 (knows_own (of_at {event = Update 2 second_writes} (record { is = refl })))

pub first_told_removal : Known 14 1 10
first_told_removal =
    pulled_brings (cut 11) 1 2 0 (knows_own (of_at {event = Update 2 removes_file} (record { is = refl })))

pub first_wrote : Known 9 1 4
first_wrote = knows_own (of_at {event = Update 1 first_writes} (record { is = refl }))

pub second_untold : Known 5 2 4 → ⊥
second_untold k =
    let h = known_before conflict_history 4 (knows_of_other {H = cut 4} (Update 1 first_writes) (omega arith) k) in
    omega arith

second_untold_later : Known 10 2 9 → ⊥
second_untold_later k =
    let h = known_before conflict_history 9 (knows_of_other {H = cut 9} (Update 1 settles) (omega arith) k) in
    omega arith

-- so neither write has the other in its past, nor has the removal the settled version
second_apart : HasInPast conflict_history 5 4 → ⊥
second_apart p =
    let by = of_same p.own (of_at {event = Update 2 second_writes} (record { is = refl })) in
    second_untold (subst (λ replica. Known 5 replica 4) by p.known)

pub removal_apart : HasInPast conflict_history 10 9 → ⊥
removal_apart p =
    let by = of_same p.own (of_at {event = Update 2 removes_file} (record { is = refl })) in
    second_untold_later (subst (λ replica. Known 10 replica 9) by p.known)

pub none_over_first : {other : ℕ} {number : Id} {op : Op} → IsOneOf other number op → other < 9 →
    HasInPast conflict_history other 4 → ⊥
none_over_first Making h p = let l = past_earlier p in omega arith
none_over_first WritingFirst h p = let l = past_earlier p in omega arith
none_over_first WritingSecond h p = second_apart p
none_over_first Settling h p = omega arith
none_over_first Removing h p = omega arith

pub none_over_second : {other : ℕ} {number : Id} {op : Op} → IsOneOf other number op → other < 9 →
    HasInPast conflict_history other 5 → ⊥
none_over_second Making h p = let l = past_earlier p in omega arith
none_over_second WritingFirst h p = let l = past_earlier p in omega arith
none_over_second WritingSecond h p = let l = past_earlier p in omega arith
none_over_second Settling h p = omega arith
none_over_second Removing h p = omega arith
