-- What the disks of a machine are found to hold after a kill is what its member had, or what it then has.
use Rattle.std.proofs.Common.{◌≡◌, ◌⊎◌, List, sym, ap, subst, ◌∙◌, inl, inr}
use Rattle.ficus_disk.specs.declared.disk.Disk.{Ghosts as Disk}
use Rattle.ficus_disk.specs.declared.pair.Pair.{Pair}
use Rattle.ficus_durable_state.specs.declared.saved.Saved.{Saved}
use Rattle.ficus_keeper.specs.declared.keep.Keep.{Ghosts as Keep}
use Rattle.ficus_stable_storage.specs.Leads.Holds.{Holds, OneHeld}
use Rattle.ficus_runs.specs.Numbered.{IsNumbered}
use Rattle.ficus_runs.proofs.Numbers.{number_once}
use Rattle.ficus_opening.specs.declared.member.Member.{Member}
use Rattle.ficus_opening.specs.declared.member.MemberState.{MemberState}
use Rattle.ficus_world.specs.Kills.{IsSavedOr, latest}
use Rattle.ficus_model.specs.declared.event.Event.{Event}
use Rattle.ficus_world.specs.Machines.Killed.{MayBeFound}
use Rattle.ficus_world.proofs.machines.Parts.{number_put}
use Rattle.ficus_world.specs.Machines.Found.{IdleIsFound, SavingIsFound}

module _ {K D : Type 0} (keep : Keep K) (disk : Disk D) (one : OneHeld) where
  pub idle_found : disk.tells → IdleIsFound keep disk
  idle_found tells machine disks r member pair a b found settled is is_pair on_a on_b holds =
      go ((settled.holds tells r member pair is is_pair).each a b on_a on_b)
    where
      go : Holds (keep.kept a b) member.replica.saved
          ⊎ Holds (keep.kept a b) (latest member.replica.saved member.state) → MayBeFound member found
      go (inl held) = inl (one (keep.kept a b) found member.replica.saved holds held)
      go (inr held) = inr (one (keep.kept a b) found (latest member.replica.saved member.state) holds held)

  -- what was saved, or is pending, is what the member is found with
  next_found : (next found : Saved) (was now : Member) (old new : List Event) → IsSavedOr next was now old new
      → found ≡ next → MayBeFound now found
  next_found next found was now old new (inl saved) same = inl (same ∙ sym saved.0)
  next_found next found was now old new (inr failed) same =
      inr (same ∙ sym failed.3 ∙ sym (ap (λ (s : MemberState). latest now.replica.saved s) failed.2))

  pub saving_found : disk.tells → disk.tells_moments → SavingIsFound keep disk
  saving_found tells moments machine after old new r was now pair now_pair a b found writes is is_now is_pair
      is_now_pair on_a on_b holds =
      let same_pair : writes.pair ≡ pair = number_once writes.is_pair is_pair in
      let same_now_pair : writes.now_pair ≡ now_pair =
      number_once (subst (λ (list : List (Pair D)). IsNumbered list r writes.now_pair) (sym writes.set_pair)
      (number_put old r writes.now_pair is_pair.member)) is_now_pair in
      let same_was : writes.was ≡ was = number_once writes.is is in
      let same_now : writes.now ≡ now =
      number_once (subst (λ (list : List Member). IsNumbered list r writes.now) (sym writes.set)
      (number_put machine.members r writes.now is.member)) is_now in
      let between = (writes.between tells moments).each a b
      (subst (λ (p : Pair D). disk.left_since writes.now_pair.a (disk.moment p.a) a) (sym same_pair)
      (subst (λ (p : Pair D). disk.left_since p.a (disk.moment pair.a) a) (sym same_now_pair) on_a))
      (subst (λ (p : Pair D). disk.left_since writes.now_pair.b (disk.moment p.b) b) (sym same_pair)
      (subst (λ (p : Pair D). disk.left_since p.b (disk.moment pair.b) b) (sym same_now_pair) on_b)) in
      go same_was same_now between
    where
      go : writes.was ≡ was → writes.now ≡ now
          → Holds (keep.kept a b) writes.was.replica.saved ⊎ Holds (keep.kept a b) writes.next
          → MayBeFound was found ⊎ MayBeFound now found
      go same_was same_now (inl held) =
          inl (inl (one (keep.kept a b) found writes.was.replica.saved holds held
          ∙ ap (λ (m : Member). m.replica.saved) same_was))
      go same_was same_now (inr held) =
          inr (subst (λ (m : Member). MayBeFound m found) same_now
          (next_found writes.next found writes.was writes.now machine.events after.events writes.after
          (one (keep.kept a b) found writes.next holds held)))
