-- The disks of a world stand for what the world stands for.
use Rattle.std.proofs.Common.{ℕ, List, length, Some, None, sym, subst, inl, inr}
use Rattle.ficus_disk.specs.declared.disk.Disk.{Ghosts as Disk}
use Rattle.ficus_disk.specs.declared.pair.Pair.{Pair}
use Rattle.ficus_ids.specs.Members.{IsMember}
use Rattle.ficus_keeper.specs.declared.keep.Keep.{Ghosts as Keep}
use Rattle.ficus_model.specs.declared.event.Event.{Event}
use Rattle.ficus_model.specs.Lawful.{Volume, IsLawful}
use Rattle.ficus_durable_state.specs.Saved.{FitsImage}
use Rattle.ficus_replica.specs.declared.replica.Replica.{Replica}
use Rattle.ficus_replica.specs.SavedOf.{StandsFor}
use Rattle.ficus_stable_storage.specs.declared.stable.Stable.{Stable}
use Rattle.ficus_stable_storage.specs.Leads.Holds.{Holds}
use Rattle.ficus_stable_storage.specs.Stable.{IsReady}
use Rattle.ficus_runs.specs.ModelWorld.{ModelWorld, Standing}
use Rattle.ficus_runs.specs.ModelWorld as model
use Rattle.ficus_runs.specs.Numbered.{IsNumbered}
use Rattle.ficus_opening.specs.declared.member.MemberState.{MemberState}
use Rattle.ficus_opening.specs.declared.member.MemberState.TheVariants as state
use Rattle.ficus_opening.specs.Disks.{ArePairsOf, HoldsFor}
use Rattle.ficus_world.specs.Stand.{ArePending, DisksOutlast, DisksStand, KeepsFor}
use Rattle.ficus_opening.specs.Stand.{KeepsOf}
use Rattle.ficus_opening.specs.declared.member.Pending.{Pending}
use Rattle.ficus_world.specs.World.{Whole, IsPendingFor, IsPendingSound, IsWorld, StateStandsFor, WorldStandsFor}
use Rattle.ficus_runs.proofs.Numbers.{number_exists}
use Rattle.ficus_world.proofs.Lifting.Standing.{member_from, member_stands, raise, replica_stands}

module _ {K D : Type 0} (keep : Keep K) (disk : Disk D) (volume : Volume) where
  -- what a crash leaves of a member's pair holds what the member saves, by its state; where it is down, maybe what it
  -- saves with the event that is pending
  module _ (H : List Event) (lawful : IsLawful volume H) (raise r : ℕ) (replica : Replica)
      (stands : StandsFor volume H r replica) (fit : FitsImage replica.saved) (stable : Stable K) (pair : Pair D)
      (a b : List ℕ) (left_a : disk.may_leave pair.a a) (left_b : disk.may_leave pair.b b) where
    keeps : Holds (keep.kept a b) replica.saved → KeepsOf volume H r (keep.kept a b)
    keeps holds = record { saved = replica.saved; is = stands.saved; fits = fit; holds = holds }

    -- where nothing is unsynced, that is what a read gives
    still : IsReady keep.kept keep.fits disk.seen disk.may_leave stable pair replica.saved → Holds (keep.kept a b) replica.saved
    still ready =
        subst (λ (c : List ℕ). Holds (keep.kept c b) replica.saved) (sym (ready.settled.synced_a a left_a))
        (subst (λ (c : List ℕ). Holds (keep.kept (disk.seen pair.a) c) replica.saved) (sym (ready.settled.synced_b b left_b))
        ready.holds)

    keeps_for : (count events : ℕ) (stood : MemberState) (modelled : Standing)
        → StateStandsFor volume H raise r stood modelled → IsPendingSound count events r replica stood
        → HoldsFor keep disk stable pair replica.saved stood
        → KeepsFor volume H r (keep.kept a b) modelled
    keeps_for count events state.Up model.Up is sound ready = keeps (still ready)
    keeps_for count events (state.Down None) (model.Down None) is sound holds =
        elim (holds.each a b left_a left_b) [ inl here ↦ keeps here | inr here ↦ keeps here ]
    keeps_for count events (state.Down (Some pending)) (model.Down (Some event)) is sound holds =
        elim (holds.each a b left_a left_b) [
          | inl here ↦ inl (keeps here)
          | inr there ↦ inr (record {
            saved = pending.replica.saved;
            fits = sound.0.fits;
            holds = there;
            own = is.own;
            follows = λ later others along.
                let after = is.follows later others along in (after.lawful, after.stands.saved);
          })
        ]
    keeps_for count events stood modelled is sound holds = absurd is

  -- so it is of each member
  pub disks_outlast_for : disk.tells → (W : ModelWorld) (whole : Whole) (disks : List (Pair D)) → IsWorld whole
      → WorldStandsFor volume W whole → ArePairsOf keep disk whole.members disks
      → DisksOutlast keep.kept disk.may_leave volume W disks
  disks_outlast_for told W whole disks world stands own = record {
    each = λ r pair standing at stood a b left_a left_b.
        let here = member_from volume W whole stands r (subst (λ n. IsMember n r) stands.standings stood.member) in
        let member = number_exists whole.members r here in
        let of = own.each r member.0 pair member.1 at in
        let sound = world.sound r member.0 member.1 in
        keeps_for W.events stands.lawful (raise volume W whole stands) r member.0.replica
        (replica_stands volume W whole stands r member.0 member.1) sound.replica.fits of.0 pair a b left_a left_b
        (length whole.members) (length whole.events) member.0.state standing
        (member_stands volume W whole stands r member.0 member.1 standing stood) sound.pending
        (of.1.holds told);
  }

  -- what a read gives is what a crash may leave too
  pub outlast_stand : ((d : D) → disk.may_leave d (disk.seen d)) → (W : ModelWorld) (disks : List (Pair D))
      → DisksOutlast keep.kept disk.may_leave volume W disks → DisksStand keep.kept disk.seen volume W disks
  outlast_stand seen_left W disks outlast = record {
    each = λ r pair standing at stood.
        outlast.each r pair standing at stood (disk.seen pair.a) (disk.seen pair.b) (seen_left pair.a) (seen_left pair.b);
  }

-- what is pending in the model is pending in the code
module _ (volume : Volume) (H : List Event) (raise r : ℕ) (event : Event) where
  pending_is : (stood : MemberState) → StateStandsFor volume H raise r stood (model.Down (Some event))
      → (pending : Pending) × IsPendingFor volume H raise r pending event
  pending_is state.Up is = absurd is
  pending_is (state.Down None) is = absurd is
  pending_is (state.Down (Some pending)) is = (pending, is)

pub pending_may_come : (volume : Volume) (W : ModelWorld) (world : Whole) → WorldStandsFor volume W world
    → ArePending volume W
pending_may_come volume W world stands = record {
  own = λ r event stood. (of_model r event stood).1.own;
  comes = λ r event stood later others along.
      let after = (of_model r event stood).1.follows later others along in
      after.lawful;
}
  where
    of_model : (r : ℕ) (event : Event) → IsNumbered W.standings r (model.Down (Some event))
        → (pending : Pending) × IsPendingFor volume W.events (raise volume W world stands) r pending event
    of_model r event stood =
        let member =
        number_exists world.members r
        (member_from volume W world stands r (subst (λ n. IsMember n r) stands.standings stood.member)) in
        pending_is volume W.events (raise volume W world stands) r event member.0.state
        (member_stands volume W world stands r member.0 member.1 (model.Down (Some event)) stood)
