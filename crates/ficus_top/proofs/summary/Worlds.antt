-- Worlds that are made on empty disks whose fuses are unarmed, and opened.
use Rattle.std.proofs.Common.{◌≡◌, ℕ, List, length, refl, ◌∙◌}
use Rattle.ficus_disk.specs.declared.disk.Disk.{Ghosts as Disk}
use Rattle.ficus_disk.specs.declared.pair.Pair.{Pair}
use Rattle.ficus_keeper.specs.declared.keep.Keep.{Ghosts as Keep}
use Rattle.ficus_model.specs.Lawful.{Volume}
use Rattle.ficus_runs.specs.Fuses.{FuseState}
use Rattle.ficus_world.specs.Fuses.{AreAtRest, at_rest}
use Rattle.ficus_opening.specs.Opening.{AreMade, AreRead}
use Rattle.ficus_opening.specs.declared.member.Member.{Member}
use Rattle.ficus_opening.specs.declared.fault.WorldFault.{WorldFault}
use Rattle.ficus_opening.specs.declared.fault.WorldFault.TheVariants.{Image, Memory, Occupied, Store}
use Rattle.ficus_world.proofs.AtRest.{made_at_rest}

-- where no other fault comes, it is want of memory
pub memory_alone : (fault : WorldFault) → ((r : ℕ) → fault ≡ Occupied r → ⊥) → ((r : ℕ) → fault ≡ Store r → ⊥)
    → ((r : ℕ) → fault ≡ Image r → ⊥) → fault ≡ Memory
memory_alone (Occupied r) occupied store image = absurd (occupied r refl)
memory_alone (Store r) occupied store image = absurd (store r refl)
memory_alone (Image r) occupied store image = absurd (image r refl)
memory_alone Memory occupied store image = refl

-- the members that are opened on what was made are at rest
pub fresh_at_rest : {K D : Type 0} (keep : Keep K) (disk : Disk D) (volume : Volume) (disks : List (Pair D))
    (members : List Member) → length members ≡ volume.members → AreMade keep.kept disk.seen volume disks
    → AreRead keep.kept disk.seen disks members → (F : ℕ → FuseState) → ((r : ℕ) → F r ≡ at_rest 0)
    → AreAtRest F members
fresh_at_rest keep disk volume disks members counted made read F zero = record {
  each = λ r member at. zero r ∙ (made_at_rest keep disk volume disks members counted made read).each r member at;
}
