-- Disks and links by their places and counts.
use Rattle.std.proofs.Common.{◌≡◌, ◌⊎◌, ℕ, ◌+◌, ◌-◌, ◌^◌, ◌<◌, ◌≤◌, List, length, get_or, Option, sym, ap, subst, ◌∙◌, inl, inr, arith}
use Rattle.std.specs.Prelude.{All}
use Rattle.std.proofs.lemmas.List.{get_or-map, length-map, same_lists}
use Rattle.std.proofs.lemmas.Option.{get_or_from_slice_get}
use Rattle.ficus_disk.specs.declared.pair.Pair.{Pair}
use Rattle.ficus_runs.specs.Numbered.{IsNumbered}
use Rattle.ficus_runs.proofs.Numbers.{number_exists}
use Rattle.ficus_script.specs.declared.command.Command.{Command}
use Rattle.ficus_world.specs.Causes.{AreCaused}
use Rattle.ficus_opening.specs.Disks.{are_fused}
use Rattle.ficus_world.specs.Follows.{TellsFor}
use Rattle.ficus_opening.specs.Opening.{AreEmpty, IsFirstOccupied, Steady, fuses_in}
use Rattle.ficus_world.proofs.Disks.{fused_same}

-- disks that tell what they hold do so for each command
pub tells_for : {tells : Type 0} → tells → (command : Command) → TellsFor tells command
tells_for told command = λ opens. told

pub tells_all : {tells : Type 0} → tells → (commands : List Command) → All (TellsFor tells) commands
tells_all told commands = λ k d within. tells_for told (get_or commands k d)

-- where the count of faults is nothing, nothing failed
pub none_caused : {before now count : ℕ} → now ≡ 0 → AreCaused before now count → count ≡ 0
none_caused {before} {now} {count} nothing caused = go caused.covered
  where
    go : (before + count ≤ now) ⊎ (2 ^ 64 - 1 ≤ now) → count ≡ 0
    go (inl few) = omega (arith, few, nothing)
    go (inr last) = absurd (omega (arith, last, nothing))

-- no disk of a member holds something where all are empty
pub not_occupied : {D : Type 0} {seen : D → List ℕ} {disks : List (Pair D)} {count r : ℕ} → AreEmpty seen disks count
    → IsFirstOccupied seen disks r → r ≤ count → ⊥
not_occupied {r = r} empty first within =
    let none = empty.each r first.pair first.is within in
    elim first.some [
      | inl some ↦ some none.0
      | inr some ↦ some none.1
    ]

-- one stands at each index, with the number above it
pub at_index : {A : Type 0} (list : List A) (index : ℕ) → index < length list
    → (x : A) × IsNumbered list (index + 1) x × ((none : A) → get_or list index none ≡ x)
at_index list index within =
    let found = number_exists list (index + 1) (record { at_least = omega arith; at_most = omega (arith, within) }) in
    let place : index + 1 - 1 ≡ index = omega arith in (
      found.0,
      found.1,
      λ none. subst (λ (n : ℕ). get_or list n none ≡ found.0) place
          (get_or_from_slice_get list (index + 1 - 1) found.0 none found.1.is),
    )

-- disks have a fuse where they had one
pub fuses_same : {D : Type 0} (armings : D → Option ℕ) {old new : List (Pair D)} → Steady armings old new
    → fuses_in armings new ≡ fuses_in armings old
fuses_same armings {old} {new} steady =
    same_lists (fuses_in armings new) (fuses_in armings old)
    (length-map new (are_fused armings) ∙ steady.count ∙ sym (length-map old (are_fused armings)))
    (λ index fused within.
    let inside : index < length new = omega (arith, within, length-map new (are_fused armings)) in
    let now = at_index new index inside in
    let was = at_index old index (omega (arith, inside, steady.count)) in
    get_or-map (are_fused armings) new index now.0 fused inside
    ∙ ap (are_fused armings) (now.2 now.0)
    ∙ fused_same armings (steady.each (index + 1) was.0 now.0 was.1 now.1)
    ∙ sym (get_or-map (are_fused armings) old index was.0 fused (omega (arith, inside, steady.count))
    ∙ ap (are_fused armings) (was.2 was.0)))
