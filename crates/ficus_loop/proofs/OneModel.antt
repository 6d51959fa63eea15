-- A world stands for one world of the model, behind one history.
use Rattle.std.proofs.Common.{◌≡◌, ℕ, ◌+◌, ◌-◌, ◌≤◌, List, ◌++◌, length, take, Some, None, Bool, refl, sym, ap, subst, ◌∙◌, arith}
use Rattle.std.specs.Prelude.{map}
use Rattle.std.proofs.lemmas.List.{take-append-le}
use Rattle.std.proofs.Math.Seq.{take-append_seam}
use Rattle.ficus_ids.specs.Members.{IsMember}
use Rattle.ficus_model.specs.declared.event.Event.{Event}
use Rattle.ficus_model.specs.Events.{raised}
use Rattle.ficus_model.specs.Lawful.{Volume}
use Rattle.ficus_runs.specs.Exchange.{behind}
use Rattle.ficus_runs.specs.ModelWorld.{ModelWorld, Posted, Standing}
use Rattle.ficus_runs.specs.ModelWorld as model
use Rattle.ficus_runs.specs.Numbered.{IsNumbered}
use Rattle.ficus_runs.proofs.Extending.{Extends}
use Rattle.ficus_runs.proofs.Numbers.{number_exists, number_once}
use Rattle.ficus_opening.specs.declared.member.MemberState.{MemberState}
use Rattle.ficus_opening.specs.declared.member.MemberState.TheVariants as state
use Rattle.ficus_world.specs.Follows.{StoresAsMany}
use Rattle.ficus_world.specs.World.{StateStandsFor, Whole, WorldStandsFor}
use Rattle.ficus_world.proofs.Lifting.LastPart.{length_part}
use Rattle.ficus_world.proofs.Lifting.OneWorld.{same_list}
use Rattle.ficus_world.proofs.Lifting.Standing.{fuses_stand, member_from, member_stands, raise}

-- a state of the code stands for one of the model
pub standing_once : (volume : Volume) (H J : List Event) (n r : ℕ) (state : MemberState) (one other : Standing)
    → StateStandsFor volume H n r state one → StateStandsFor volume J n r state other → one ≡ other
standing_once volume H J n r state.Up model.Up model.Up is too = refl
standing_once volume H J n r (state.Down None) (model.Down None) (model.Down None) is too = refl
standing_once volume H J n r (state.Down (Some pending)) (model.Down (Some event)) (model.Down (Some again)) is too =
    let same : event ≡ again = sym is.raises ∙ too.raises in ap (λ (e : Event). model.Down (Some e)) same
standing_once volume H J n r state.Up model.Up (model.Down waits) is too = absurd too
standing_once volume H J n r state.Up (model.Down waits) other is too = absurd is
standing_once volume H J n r (state.Down None) model.Up other is too = absurd is
standing_once volume H J n r (state.Down None) (model.Down (Some event)) other is too = absurd is
standing_once volume H J n r (state.Down None) (model.Down None) model.Up is too = absurd too
standing_once volume H J n r (state.Down None) (model.Down None) (model.Down (Some event)) is too = absurd too
standing_once volume H J n r (state.Down (Some pending)) model.Up other is too = absurd is
standing_once volume H J n r (state.Down (Some pending)) (model.Down None) other is too = absurd is
standing_once volume H J n r (state.Down (Some pending)) (model.Down (Some event)) model.Up is too = absurd too
standing_once volume H J n r (state.Down (Some pending)) (model.Down (Some event)) (model.Down None) is too = absurd too

module _ (volume : Volume) (V U : ModelWorld) (world : Whole) (one : WorldStandsFor volume V world)
    (two : WorldStandsFor volume U world) (events : V.events ≡ U.events) where
  raises_same : raise volume V world one ≡ raise volume U world two
  raises_same =
      let lengths : length V.events ≡ length U.events = ap length events in
      omega (arith, lengths, length_part world.events V.events one.stored, length_part world.events U.events two.stored)

  same_standing : (r : ℕ) (a b : Standing) → IsNumbered V.standings r a → IsNumbered U.standings r b → a ≡ b
  same_standing r a b is is_too =
      let here = member_from volume V world one r (subst (λ n. IsMember n r) one.standings is.member) in
      let member = number_exists world.members r here in
      standing_once volume V.events U.events (raise volume V world one) r member.0.state a b
      (member_stands volume V world one r member.0 member.1 a is)
      (subst (λ n. StateStandsFor volume U.events n r member.0.state b) (sym raises_same)
      (member_stands volume U world two r member.0 member.1 b is_too))

  same_fused : (r : ℕ) (a b : Bool) → IsNumbered V.fused r a → IsNumbered U.fused r b → a ≡ b
  same_fused r a b is is_too =
      let here = member_from volume V world one r (subst (λ n. IsMember n r) one.fuses is.member) in
      let member = number_exists world.members r here in
      sym (fuses_stand volume V world one r member.0 member.1 a is)
      ∙ fuses_stand volume U world two r member.0 member.1 b is_too

  same_posted : (r : ℕ) (a b : Posted) → IsNumbered V.posted r a → IsNumbered U.posted r b → a ≡ b
  same_posted r a b is is_too =
      let place = number_exists world.post.behind r (subst (λ n. IsMember n r) one.posted is.member) in
      let bytes = number_exists world.post.posts r
      (subst (λ n. IsMember n r) (one.posted ∙ sym one.counted) is.member) in
      let here = number_once (one.mail r place.0 bytes.0 place.1 bytes.1).numbered is in
      let there = number_once (two.mail r place.0 bytes.0 place.1 bytes.1).numbered is_too in
      sym here ∙ ap (λ n. behind (place.0.position + n) place.0.index) raises_same ∙ there

  -- it stands for one world of the model
  pub model_once : V ≡ U
  model_once = λ i. record {
    events = events i;
    earlier = (sym one.began ∙ raises_same ∙ two.began) i;
    standings = same_list V.standings U.standings (one.standings ∙ sym two.standings) same_standing i;
    fused = same_list V.fused U.fused (one.fuses ∙ sym two.fuses) same_fused i;
    posted = same_list V.posted U.posted (one.posted ∙ sym two.posted) same_posted i;
    total = (sym one.total ∙ two.total) i;
  }

-- what is before the stored events is a front of what had happened
front_of : (volume : Volume) (W after : ModelWorld) (old new : Whole) → WorldStandsFor volume W old
    → (stands : WorldStandsFor volume after new) → Extends W.events after.events → StoresAsMany W old after new
    → stands.stored.earlier ≡ take (length W.events - length old.events) W.events
front_of volume W after old new before stands extends stored =
    let n = length stands.stored.earlier in
    let parts = length_part new.events after.events stands.stored in
    let parts_old = length_part old.events W.events before.stored in
    let is : n ≡ length W.events - length old.events = omega (arith, parts, parts_old, stored) in
    let within : n ≤ length W.events = omega (arith, is) in
    let front : take n after.events ≡ stands.stored.earlier =
    ap (take n) stands.stored.is ∙ take-append_seam stands.stored.earlier (map (raised n) new.events) in
    let same : take n after.events ≡ take n W.events =
    ap (take n) extends.is ∙ take-append-le n W.events extends.later within in
    sym front ∙ same ∙ ap (λ k. take k W.events) is

-- two worlds of the model for which it stands, and which go on from one, as far as it did
pub same_model : (volume : Volume) (W V U : ModelWorld) (old new : Whole) → WorldStandsFor volume W old
    → (one : WorldStandsFor volume V new) → (two : WorldStandsFor volume U new) → Extends W.events V.events
    → Extends W.events U.events → StoresAsMany W old V new → StoresAsMany W old U new → V ≡ U
same_model volume W V U old new before one two extends extends_too stored stored_too =
    let earlier : one.stored.earlier ≡ two.stored.earlier =
    front_of volume W V old new before one extends stored
    ∙ sym (front_of volume W U old new before two extends_too stored_too) in
    let events : V.events ≡ U.events =
    one.stored.is ∙ ap (λ (l : List Event). l ++ map (raised (length l)) new.events) earlier ∙ sym two.stored.is in
    model_once volume V U new one two events
