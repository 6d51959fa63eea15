-- Disks stand under a machine still.
use Rattle.std.proofs.Common.{◌≡◌, ℕ, ◌-◌, List, Option, sym, subst, inl, inr, arith}
use Rattle.std.specs.Prelude.{slice_set}
use Rattle.std.proofs.lemmas.List.{length-set}
use Rattle.ficus_disk.specs.declared.disk.Disk.{Ghosts as Disk}
use Rattle.ficus_disk.specs.declared.pair.Pair.{Pair}
use Rattle.ficus_keeper.specs.declared.keep.Keep.{Ghosts as Keep}
use Rattle.ficus_opening.specs.Disks.{AreDisksOf, IsPairAt, IsPairOf}
use Rattle.ficus_opening.specs.declared.member.Member.{Member}
use Rattle.ficus_replica.specs.declared.replica.Asked.{Asked}
use Rattle.ficus_runs.proofs.Replaced.{replaced}
use Rattle.ficus_runs.specs.Numbered.{IsNumbered}
use Rattle.ficus_stable_storage.specs.declared.stable.Stable.{Stable}
use Rattle.ficus_world.specs.Disks.{IsBacked}
use Rattle.ficus_world.specs.Hearing.{awaiting}
use Rattle.ficus_world.specs.World.{Backed}

module _ {K D : Type 0} {keep : Keep K} {disk : Disk D} where
  -- under a world of the same members and keepers
  pub backed_same : {old new : Backed K} {x : List (Pair D)} → new.whole.members ≡ old.whole.members
      → new.stables ≡ old.stables → IsBacked keep disk old x → IsBacked keep disk new x
  backed_same {old} {new} {x} same stables backed =
      subst (λ (list : List Member). IsBacked keep disk (record new { whole = record new.whole { members = list } }) x)
      (sym same)
      (subst (λ (list : List (Stable K)). IsBacked keep disk
      (record { whole = record new.whole { members = old.whole.members }; stables = list }) x) (sym stables)
      (record { pairs = backed.pairs; disks = backed.disks }))

  -- and under one of which a member waits for another answer
  module _ (members : List Member) (me : ℕ) (was : Member) (is : IsNumbered members me was) (ask : Option Asked)
      (stables : List (Stable K)) (disks : List (Pair D)) (are : AreDisksOf keep disk members stables disks) where
    abbrev waiting : List Member
    waiting = slice_set members (me - 1) (awaiting was ask)

    own : (stable : Stable K) (pair : Pair D) → IsNumbered stables me stable → IsNumbered disks me pair
        → IsPairOf keep disk (awaiting was ask) stable pair
    own stable pair at_stable at_pair =
        let of = are.each me was stable pair is at_stable at_pair in
        record { fused = of.fused; holds = of.holds }

    waiting_pair : (r : ℕ) → IsPairAt keep disk r waiting stables disks
    waiting_pair r member stable pair at at_stable at_pair =
        elim (replaced members me r (awaiting was ask) member is.member.at_least at) [
          | inl (here, swapped) ↦
              subst (λ (m : Member). IsPairOf keep disk m stable pair) (sym swapped)
              (own stable pair (subst (λ n. IsNumbered stables n stable) here at_stable)
              (subst (λ n. IsNumbered disks n pair) here at_pair))
          | inr (differs, kept) ↦ are.each r member stable pair kept at_stable at_pair
        ]

    pub waiting_disks : AreDisksOf keep disk waiting stables disks
    waiting_disks = record { each = waiting_pair }

  pub backed_waiting : {old new : Backed K} {x : List (Pair D)} {me : ℕ} {was : Member} (ask : Option Asked)
      → IsNumbered old.whole.members me was
      → new.whole.members ≡ slice_set old.whole.members (me - 1) (awaiting was ask) → new.stables ≡ old.stables
      → IsBacked keep disk old x → IsBacked keep disk new x
  backed_waiting {old} {new} {x} {me} {was} ask is members stables backed =
      subst (λ (list : List Member). IsBacked keep disk (record new { whole = record new.whole { members = list } }) x)
      (sym members)
      (subst (λ (list : List (Stable K)). IsBacked keep disk
      (record {
        whole = record new.whole { members = slice_set old.whole.members (me - 1) (awaiting was ask) };
        stables = list;
      }) x) (sym stables)
      (record {
        pairs = omega (arith, backed.pairs, length-set old.whole.members (me - 1) (awaiting was ask));
        disks = waiting_disks old.whole.members me was is ask old.stables x backed.disks;
      }))
