-- Machines that were each opened on fresh disks are one world.
use Rattle.std.proofs.Common.{◌≡◌, ℕ, List, [], sym, subst, ◌∙◌, arith}
use Rattle.ficus_model.specs.Lawful.{Volume}
use Rattle.ficus_replica.proofs.Standing.{replica_once}
use Rattle.ficus_runs.specs.ModelWorld.{ModelWorld, IsUp}
use Rattle.ficus_runs.specs.Numbered.{IsNumbered}
use Rattle.ficus_runs.proofs.Numbers.{number_once}
use Rattle.ficus_opening.specs.declared.member.Member.{Member}
use Rattle.ficus_opening.specs.declared.member.MemberState.{MemberState}
use Rattle.ficus_opening.specs.declared.member.MemberState.TheVariants as state
use Rattle.ficus_world.specs.World.{Whole, WorldStandsFor}
use Rattle.ficus_world.proofs.Lifting.Held.{held_once}
use Rattle.ficus_world.proofs.Lifting.Standing.{fuses_of, fuses_stand, parts_stand, replica_stands, up_from}
use Rattle.ficus_world.specs.Machines.Part.{AreAlike, AreStatesAlike, IsPartOf}
use Rattle.ficus_world.specs.Machines.Together.{AreOneWorld, OpenedAt}

module _ (volume : Volume) (W : ModelWorld) (one other : Whole) (stands : WorldStandsFor volume W one)
    (stands_too : WorldStandsFor volume W other) (r : ℕ) (up : IsUp r W) (mine theirs : Member)
    (is : IsNumbered one.members r mine) (is_there : IsNumbered other.members r theirs) where
  same_state : AreStatesAlike mine.state theirs.state
  same_state =
      subst (λ (s : MemberState). AreStatesAlike s theirs.state) (sym (up_from volume W one stands r mine is up))
      (subst (λ (s : MemberState). AreStatesAlike state.Up s)
      (sym (up_from volume W other stands_too r theirs is_there up)) tt)

  alike_for : AreAlike mine theirs
  alike_for =
      let fused = fuses_of volume W one stands r is.member in
      record {
        replica =
            replica_once (replica_stands volume W one stands r mine is)
            (replica_stands volume W other stands_too r theirs is_there);
        parts =
            held_once volume W.events stands.lawful r mine.parts theirs.parts (parts_stand volume W one stands r mine is)
            (parts_stand volume W other stands_too r theirs is_there);
        state = same_state;
        fused =
            fuses_stand volume W one stands r mine is fused.0 fused.1
            ∙ sym (fuses_stand volume W other stands_too r theirs is_there fused.0 fused.1);
      }

-- a machine whose own world was opened where all stand so is a part of the world of all
module _ (volume : Volume) (W : ModelWorld) (all : Whole) (stands : WorldStandsFor volume W all) (r : ℕ)
    (machine : Whole) (opened : OpenedAt volume W r machine) where
  opened_part : IsPartOf r machine all
  opened_part = record {
    count = opened.renews.count ∙ opened.stands.members ∙ sym stands.members;
    alike = λ mine theirs at at_there.
        subst (λ (m : Member). AreAlike m theirs) (number_once opened.renews.is at)
        (alike_for volume W opened.world all opened.stands stands r opened.up opened.renews.member theirs
        opened.renews.was at_there);
    genuine = λ n found at.
        let none = (subst (λ (p : List (List ℕ)). IsNumbered p n found) opened.renews.posts at).member in
        absurd (omega (arith, none.at_least, none.at_most));
  }

pub opened_are_one : (volume : Volume) (W : ModelWorld) (all : Whole) (machines : List Whole)
    → WorldStandsFor volume W all → all.post.posts ≡ []
    → ((r : ℕ) (machine : Whole) → IsNumbered machines r machine → OpenedAt volume W r machine)
    → AreOneWorld volume W all machines []
opened_are_one volume W all machines stands none each = record {
  stands = stands;
  parts = λ r machine is. opened_part volume W all stands r machine (each r machine is);
  posts = none;
}
