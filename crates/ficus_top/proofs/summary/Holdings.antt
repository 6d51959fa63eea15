-- What the members of a world hold.
use Rattle.std.proofs.Common.{◌≡◌, ℕ, ◌+◌, Bool, List, [], ◌∷◌, ◌++◌, length, refl, sym, ap, subst, ◌∙◌, inl, inr, arith, length-append}
use Rattle.std.specs.Prelude.{None, Some}
use Rattle.ficus_ids.specs.Members.{IsMember}
use Rattle.ficus_model.specs.declared.event.Event.{Event}
use Rattle.ficus_model.specs.Lawful.{Volume}
use Rattle.ficus_replica.specs.SavedOf.{IsSavedOf}
use Rattle.ficus_replica.specs.declared.replica.Replica.{Replica}
use Rattle.ficus_runs.proofs.Numbers.{number_cases, number_exists}
use Rattle.ficus_runs.specs.ModelWorld.{ModelWorld, Standing, Up}
use Rattle.ficus_runs.specs.Numbered.{IsNumbered}
use Rattle.ficus_opening.specs.declared.member.Member.{Member}
use Rattle.ficus_opening.specs.declared.member.MemberState.{MemberState}
use Rattle.ficus_opening.specs.declared.member.MemberState.TheVariants as state
use Rattle.ficus_world.specs.World.{IsReplica, IsUpIn, MemberStandsFor, StateStandsFor, Whole, WorldStandsFor}
use Rattle.ficus_top.specs.Summary.Running.{HoldingsIn}
use Rattle.ficus_top.specs.Summary.Summary.{AreHoldings}
use Rattle.ficus_opening.specs.Check.Holding.{holding_of}
use Rattle.ficus_opening.specs.declared.check.holding.Holding.{Holding}

-- none yet
pub holdings_none : (world : Whole) → HoldingsIn world 0 []
holdings_none world = record {
  counted = refl;
  each = λ r holding is. absurd (omega (arith, is.member.at_least, is.member.at_most));
}

-- one member more
pub holdings_more : (world : Whole) (count number : ℕ) (holdings new : List Holding) (next : Holding)
    (replica : Replica)
    → number ≡ count + 1 → HoldingsIn world count holdings → IsReplica world.members number replica
    → next ≡ holding_of replica.saved.entries replica.saved.files → new ≡ holdings ++ next ∷ []
    → HoldingsIn world number new
holdings_more world count number holdings new next replica follows behind is holds added = record {
  counted = omega (arith, ap length added, length-append holdings (next ∷ []), behind.counted, follows);
  each = λ r holding at.
      elim (number_cases holdings next (subst (λ (all : List Holding). IsNumbered all r holding) added at)) [
        | inl one ↦ behind.each r holding one
        | inr (last, same) ↦
            let place : number ≡ r = omega (arith, last, behind.counted, follows) in
            (replica, subst (λ n. IsReplica world.members n replica) place is, same ∙ holds)
      ];
}

-- a member that is up in the model is up
up_so : (volume : Volume) (H : List Event) (raise r : ℕ) (now : MemberState) → StateStandsFor volume H raise r now Up
    → now ≡ state.Up
up_so volume H raise r state.Up so = refl
up_so volume H raise r (state.Down None) so = absurd so
up_so volume H raise r (state.Down (Some pending)) so = absurd so

module _ (volume : Volume) (W : ModelWorld) (world : Whole) (stands : WorldStandsFor volume W world) where
  -- how a member stands, and what it holds
  member_stands : (r : ℕ) (member : Member) → IsNumbered world.members r member → (standing : Standing)
      × (fused : Bool) × IsNumbered W.standings r standing
      × MemberStandsFor volume W.events (length stands.stored.earlier) r member standing fused
  member_stands r member is =
      let within : IsMember volume.members r = subst (λ n. IsMember n r) stands.members is.member in
      let standing = number_exists W.standings r (subst (λ n. IsMember n r) (sym stands.standings) within) in
      let fused = number_exists W.fused r (subst (λ n. IsMember n r) (sym stands.fuses) within) in
      (standing.0, fused.0, standing.1, stands.each r member standing.0 fused.0 is standing.1 fused.1)

  -- where all are up in the model, all are up
  pub all_up : ((r : ℕ) (standing : Standing) → IsNumbered W.standings r standing → standing ≡ Up) → (r : ℕ)
      → IsMember volume.members r → IsUpIn world r
  all_up up r member =
      let found = number_exists world.members r (subst (λ n. IsMember n r) (sym stands.members) member) in
      let so = member_stands r found.0 found.1 in
      record {
        member = found.0;
        is = found.1;
        up = up_so volume W.events (length stands.stored.earlier) r found.0.state
            (subst (λ standing. StateStandsFor volume W.events (length stands.stored.earlier) r found.0.state standing)
            (up r so.0 so.2) so.3.state);
      }

  -- what the members hold is that of the history
  pub are_holdings : (holdings : List Holding) → HoldingsIn world volume.members holdings
      → AreHoldings volume W.events holdings
  are_holdings holdings held = record {
    counted = held.counted;
    each = λ r holding at.
        let found = held.each r holding at in
        let so = member_stands r found.1.member found.1.is in (
          found.0.saved,
          subst (λ replica. IsSavedOf volume W.events r replica.saved) (sym found.1.holds) so.3.replica.saved,
          found.2,
        );
  }
