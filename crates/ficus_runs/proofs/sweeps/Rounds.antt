-- The steps of a sweep are those of star rounds, or of ring rounds.
use Rattle.std.proofs.Common.{◌≡◌, ℕ, zero, suc, ◌+◌, ◌-◌, ◌≤◌, List, [], ◌∷◌, ◌++◌, refl, ap, subst, ◌∙◌, arith}
use Rattle.std.proofs.lemmas.List.FromFn.{map-range_with_len_more}
use Rattle.ficus_model.specs.declared.event.Event.{Event}
use Rattle.ficus_laws.specs.Accepts.{pulled}
use Rattle.ficus_sweep_laws.specs.Sweeps.{HasPulled, HasCollected, IsStarRound, IsRingRound, IsStarSweep, IsRingSweep}
use Rattle.ficus_sweep_laws.specs.Sweeps.HasPulled.{Begun, Pulled}
use Rattle.ficus_sweep_laws.specs.Sweeps.HasCollected.{Nobody, Collected}
use Rattle.ficus_runs.specs.Sweep.{SweepStep, Pulling, Collecting, Leg, Gathers, Spreads, HandsOn, Collects, leg_step, leg_steps, star_round, ring_round, sweep_steps}
use Rattle.ficus_script.specs.declared.order.Order.TheVariants.{Star, Ring}
use Rattle.ficus_runs.proofs.sweeps.Chains.{StepAdded, StepsAdded, added_append}
use Rattle.ficus_runs.proofs.sweeps.Chains.StepAdded.{PullAdded, CollectAdded}
use Rattle.ficus_runs.proofs.sweeps.Chains.StepsAdded.{Nothing, Further}

leg_more : (leg : Leg) (first count : ℕ)
    → leg_steps leg first (suc count) ≡ leg_steps leg first count ++ leg_step leg (first + count) ∷ []
leg_more leg first count =
    let more : suc count ≡ count + 1 = omega arith in
    ap (λ n. leg_steps leg first n) more
    ∙ map-range_with_len_more (leg_step leg) first count (first + count) refl

-- the last of one step
one_added : (H : List Event) (step : SweepStep) (K : List Event) → StepsAdded H (step ∷ []) K → StepAdded H step K
one_added H step K (Further one Nothing) = one

-- a leg adds its pulls, one after the other
module _ (leg : Leg) (replica server : ℕ → ℕ)
    (is : (step : ℕ) → leg_step leg (suc step) ≡ Pulling (replica step) (server step)) where
  pull_more : (H M : List Event) (step : ℕ) (K : List Event) → HasPulled replica server H step M
      → StepAdded M (Pulling (replica step) (server step)) K → HasPulled replica server H (suc step) K
  pull_more H M step K pulls (PullAdded last) = Pulled last pulls

  pub leg_pulls : (H : List Event) (count : ℕ) (K : List Event) → StepsAdded H (leg_steps leg 2 count) K
      → HasPulled replica server H (suc count) K
  leg_pulls H zero K Nothing = Begun
  leg_pulls H (suc count) K added =
      let place : 2 + count ≡ suc (suc count) = omega arith in
      let both = added_append H (leg_steps leg 2 count) (leg_step leg (2 + count) ∷ []) K
      (subst (λ steps. StepsAdded H steps K) (leg_more leg 2 count) added) in
      pull_more H both.middle (suc count) K (leg_pulls H count both.middle both.first)
      (subst (λ step. StepAdded both.middle step K) (ap (leg_step leg) place ∙ is (suc count))
      (one_added both.middle (leg_step leg (2 + count)) K both.rest))

collect_more : (H M : List Event) (last : ℕ) (K : List Event) → HasCollected H last M
    → StepAdded M (Collecting (suc last)) K
    → HasCollected H (suc last) K
collect_more H M last K collected CollectAdded = Collected collected

collects : (H : List Event) (count : ℕ) (K : List Event) → StepsAdded H (leg_steps Collects 1 count) K
    → HasCollected H count K
collects H zero K Nothing = Nobody
collects H (suc count) K added =
    let place : 1 + count ≡ suc count = omega arith in
    let both = added_append H (leg_steps Collects 1 count) (leg_step Collects (1 + count) ∷ []) K
    (subst (λ steps. StepsAdded H steps K) (leg_more Collects 1 count) added) in
    collect_more H both.middle count K (collects H count both.middle both.first)
    (subst (λ n. StepAdded both.middle (Collecting n) K) place
    (one_added both.middle (Collecting (1 + count)) K both.rest))

module _ (members : ℕ) (some : 1 ≤ members) where
  all_but_one : suc (members - 1) ≡ members
  all_but_one = omega arith

  star_rounds : (H K : List Event) → StepsAdded H (star_round members) K → IsStarRound members H K
  star_rounds H K added =
      let both = added_append H (leg_steps Gathers 2 (members - 1)) (leg_steps Spreads 2 (members - 1)) K added in
      record {
        gathered = both.middle;
        gathers = subst (λ n. HasPulled (λ step. 1) (λ step. suc step) H n both.middle) all_but_one
            (leg_pulls Gathers (λ step. 1) (λ step. suc step) (λ step. refl) H (members - 1) both.middle both.first);
        spreads = subst (λ n. HasPulled (λ step. suc step) (λ step. 1) both.middle n K) all_but_one
            (leg_pulls Spreads (λ step. suc step) (λ step. 1) (λ step. refl) both.middle (members - 1) K both.rest);
      }

  -- the last pull of a ring round
  pub record LastPull (handed K : List Event) : Type 0 where
    pub last : ℕ
    pub is : K ≡ pulled handed 1 members last

  last_pull : (handed K : List Event) → StepAdded handed (Pulling 1 members) K → LastPull handed K
  last_pull handed K (PullAdded last) = record { last = last; is = refl }

  ring_rounds : (H K : List Event) → StepsAdded H (ring_round members) K → IsRingRound members H K
  ring_rounds H K added =
      let both = added_append H (leg_steps HandsOn 2 (members - 1)) (Pulling 1 members ∷ []) K added in
      let closes = last_pull both.middle K (one_added both.middle (Pulling 1 members) K both.rest) in
      record {
        handed = both.middle;
        hands = subst (λ n. HasPulled (λ step. suc step) (λ step. step) H n both.middle) all_but_one
            (leg_pulls HandsOn (λ step. suc step) (λ step. step)
            (λ step. ap (Pulling (suc step)) (omega arith)) H (members - 1) both.middle both.first);
        last = closes.last;
        closes = closes.is;
      }

  pub star_sweeps : (H K : List Event) → StepsAdded H (sweep_steps Star members) K → IsStarSweep members H K
  star_sweeps H K added =
      let round = star_round members in
      let last = leg_steps Collects 1 members in
      let one = added_append H round (round ++ (round ++ last)) K added in
      let two = added_append one.middle round (round ++ last) K one.rest in
      let three = added_append two.middle round last K two.rest in
      record {
        once = one.middle;
        twice = two.middle;
        thrice = three.middle;
        first = star_rounds H one.middle one.first;
        second = star_rounds one.middle two.middle two.first;
        third = star_rounds two.middle three.middle three.first;
        collects = collects three.middle members K three.rest;
      }

  pub ring_sweeps : (H K : List Event) → StepsAdded H (sweep_steps Ring members) K → IsRingSweep members H K
  ring_sweeps H K added =
      let round = ring_round members in
      let last = leg_steps Collects 1 members in
      let one = added_append H round (round ++ (round ++ (round ++ last))) K added in
      let two = added_append one.middle round (round ++ (round ++ last)) K one.rest in
      let three = added_append two.middle round (round ++ last) K two.rest in
      let four = added_append three.middle round last K three.rest in
      record {
        once = one.middle;
        twice = two.middle;
        thrice = three.middle;
        whole = four.middle;
        first = ring_rounds H one.middle one.first;
        second = ring_rounds one.middle two.middle two.first;
        third = ring_rounds two.middle three.middle three.first;
        fourth = ring_rounds three.middle four.middle four.first;
        collects = collects four.middle members K four.rest;
      }
