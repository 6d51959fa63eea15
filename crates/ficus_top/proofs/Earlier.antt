-- What the disks come to since something that kept their counts of faults and their armings, they come to since before.
use Rattle.std.proofs.Common.{◌≡◌, ℕ, Bool, List, take, Option, sym, ap, subst, arith}
use Rattle.std.specs.Prelude.{◌==◌, if◌then◌else◌}
use Rattle.ficus_disk.specs.declared.disk.Disk.{Ghosts as Disk}
use Rattle.ficus_disk.specs.declared.pair.Pair.{Pair}
use Rattle.ficus_ids.specs.Members.{IsMember}
use Rattle.ficus_model.specs.Lawful.{Volume}
use Rattle.ficus_model.specs.declared.event.Event.{Event}
use Rattle.ficus_script.specs.declared.command.Command.{Command}
use Rattle.ficus_runs.specs.Fuses.{FuseState}
use Rattle.ficus_runs.specs.Start.{start}
use Rattle.ficus_opening.specs.Opening.{IsAtFault, Steady}
use Rattle.ficus_runs.proofs.Numbers.{number_exists}
use Rattle.ficus_loop.proofs.Places.{fuses_same}
use Rattle.ficus_top.specs.Ends.{Ends, EndsFront, NoneFailed}
use Rattle.ficus_top.specs.Headline.{fuses_of}
use Rattle.ficus_top.proofs.Ends.{ends_behind, front_ends_behind}

-- whether the members' disks have a fuse stays
pub fuses_of_same : {D : Type 0} (armings : D → Option ℕ) {old new : List (Pair D)} → Steady armings old new
    → (members : ℕ) → fuses_of armings members new ≡ fuses_of armings members old
fuses_of_same armings unarmed members = ap (λ (fuses : List Bool). take members fuses) (fuses_same armings unarmed)

one_fault : (r : ℕ) → ◌≡◌ {A = ℕ} (if r == r then 1 else 0) 1
one_fault r = grind arith

-- where no disk has failed, none of a member has
pub not_at_fault : {D : Type 0} {faults : D → ℕ} {old new : List (Pair D)} → NoneFailed faults old new → (r : ℕ)
    → IsAtFault faults old new r → ⊥
not_at_fault {D} {faults} {old} {new} none r fault =
    let was = number_exists old r fault.is in
    let now = number_exists new r (subst (λ (n : ℕ). IsMember n r) (sym fault.count) fault.is) in
    let rose = fault.each r was.0 now.0 was.1 now.1 in
    let same = none.steady.each r was.0 now.0 was.1 now.1 in
    let below = none.each r now.0 now.1 in
    absurd (omega (arith, rose.sum below.0 below.1, one_fault r, same.a, same.b))

module _ {D : Type 0} (disk : Disk D) {old middle new : List (Pair D)} (steady : Steady disk.faults old middle)
    (unarmed : Steady disk.armings old middle) {tells : Type 0} {Rest Before : (ℕ → FuseState) → Type 0} {volume : Volume}
    (earlier : List Event) {commands : List Command} {before after : List ℕ}
    (rests : (F : ℕ → FuseState) → Before F → Rest F) where
  -- so what was answered from the restarts of the members on
  pub ends_since : Ends tells disk Rest volume
      (start earlier volume.members 0 (fuses_of disk.armings volume.members middle)) commands before after middle new
      → Ends tells disk Before volume
      (start earlier volume.members 0 (fuses_of disk.armings volume.members old)) commands before after old new
  ends_since ends =
      subst (λ (fused : List Bool). Ends tells disk Before volume
      (start earlier volume.members 0 fused) commands before after old new)
      (fuses_of_same disk.armings unarmed volume.members) (ends_behind disk steady unarmed rests ends)

  pub front_since : {may : Type 0} → EndsFront tells may disk Rest volume
      (start earlier volume.members 0 (fuses_of disk.armings volume.members middle)) commands before after middle new
      → EndsFront tells may disk Before volume
      (start earlier volume.members 0 (fuses_of disk.armings volume.members old)) commands before after old new
  front_since {may} front =
      subst (λ (fused : List Bool). EndsFront tells may disk Before volume
      (start earlier volume.members 0 fused) commands before after old new)
      (fuses_of_same disk.armings unarmed volume.members) (front_ends_behind disk steady unarmed rests front)
