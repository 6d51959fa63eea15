-- The steps of a sweep are commands that a script may spell.
use Rattle.std.proofs.Common.{◌≡◌, ℕ, ◌+◌, ◌-◌, ◌<◌, ◌≤◌, List, [], ◌∷◌, ◌++◌, length, map, get_or, refl, sym, ap, subst, ◌∙◌, arith, length-append, append_assoc}
use Rattle.std.specs.Prelude.{All}
use Rattle.std.specs.List.{range_with_len}
use Rattle.std.proofs.lemmas.List.{get_or-map, length-map, map_push}
use Rattle.std.proofs.lemmas.List.Elements.{All-append, All-map, All-push}
use Rattle.std.proofs.lemmas.List.FromFn.{length-range_with_len, get_or-range_with_len, length-map-range_with_len, map-range_with_len_more}
use Rattle.ficus_ids.specs.Members.{IsCount}
use Rattle.ficus_script.specs.Command.{IsCommand, IsStep}
use Rattle.ficus_script.specs.declared.command.Command.{Command}
use Rattle.ficus_script.specs.declared.command.Command.TheVariants as command
use Rattle.ficus_runs.specs.Sweep.{SweepStep, Pulling, Collecting, Leg, Gathers, Spreads, HandsOn, Collects, command_of, leg_step, leg_steps, star_round, ring_round, sweep_steps}
use Rattle.ficus_script.specs.declared.order.Order.{Order}
use Rattle.ficus_script.specs.declared.order.Order.TheVariants.{Star, Ring}
use Rattle.ficus_loop.specs.SweepFollows.{IsSweepCommand}
use Rattle.ficus_world.specs.Kills.{IsDeedOf, IsSweepLink}

pull_is : (by to : ℕ) → 1 ≤ by → by ≤ 255 → 1 ≤ to → to ≤ 255 → IsCommand (command.Pull by to)
pull_is by to a b c d = record {
  number = tt;
  behind = (record { at_least = a; at_most = b }, record { at_least = c; at_most = d });
  takes = tt;
}

collect_is : (by : ℕ) → 1 ≤ by → by ≤ 255 → IsCommand (command.Collect by)
collect_is by a b = record { number = record { at_least = a; at_most = b }; behind = tt; takes = tt }

leg_is : (leg : Leg) (member : ℕ) → 2 ≤ member → member ≤ 255 → IsCommand (command_of (leg_step leg member))
leg_is Gathers member low high = pull_is 1 member (omega arith) (omega arith) (omega arith) high
leg_is Spreads member low high = pull_is member 1 (omega arith) high (omega arith) (omega arith)
leg_is HandsOn member low high = pull_is member (member - 1) (omega arith) high (omega arith) (omega arith)
leg_is Collects member low high = collect_is member (omega arith) high

abbrev AreCommands : List SweepStep → Type 0
AreCommands steps = All (λ step. IsCommand (command_of step)) steps

leg_commands : (leg : Leg) (first count : ℕ) → 1 ≤ first
    → ((member : ℕ) → first ≤ member → member < first + count → IsCommand (command_of (leg_step leg member)))
    → AreCommands (leg_steps leg first count)
leg_commands leg first count low each k d within =
    let below : k < count = omega (arith, length-map-range_with_len (leg_step leg) first count) in
    let inside : k < length (range_with_len first count) = omega (arith, length-range_with_len first count) in
    let place : get_or (leg_steps leg first count) k d ≡ leg_step leg (first + k) =
    get_or-map (leg_step leg) (range_with_len first count) k 0 d inside
    ∙ ap (leg_step leg) (get_or-range_with_len first count k 0 below) in
    subst (λ step. IsCommand (command_of step)) (sym place) (each (first + k) (omega arith) (omega arith))

pub steps_are_commands : (order : Order) (members : ℕ) → IsCount members → AreCommands (sweep_steps order members)
steps_are_commands order members count = go order
  where
    leg : (l : Leg) → AreCommands (leg_steps l 2 (members - 1))
    leg l =
        let two = count.at_least in
        let eight = count.at_most in
        leg_commands l 2 (members - 1) (omega arith) (λ member from to. leg_is l member from (omega arith))

    P : SweepStep → Type 0
    P step = IsCommand (command_of step)

    last : AreCommands (leg_steps Collects 1 members)
    last =
        let eight = count.at_most in
        leg_commands Collects 1 members (omega arith) (λ member from to. collect_is member from (omega arith))

    star : AreCommands (star_round members)
    star = All-append P (leg_steps Gathers 2 (members - 1)) (leg_steps Spreads 2 (members - 1)) (leg Gathers) (leg Spreads)

    ring : AreCommands (ring_round members)
    ring =
        let two = count.at_least in
        let eight = count.at_most in
        All-push P (leg_steps HandsOn 2 (members - 1)) (Pulling 1 members) (leg HandsOn)
        (pull_is 1 members (omega arith) (omega arith) (omega arith) (omega arith))

    go : (order : Order) → AreCommands (sweep_steps order members)
    go Star =
        All-append P (star_round members) _ star
        (All-append P (star_round members) _ star (All-append P (star_round members) _ star last))
    go Ring =
        All-append P (ring_round members) _ ring
        (All-append P (ring_round members) _ ring
        (All-append P (ring_round members) _ ring (All-append P (ring_round members) _ ring last)))

-- the commands of a sweep may be spelled, and there are few
pub is_step : (command : Command) → IsSweepCommand command → IsStep command
is_step command (step, same) = subst IsStep (sym same) (go step)
  where
    go : (step : SweepStep) → IsStep (command_of step)
    go (Pulling by to) = tt
    go (Collecting by) = tt

-- what is done as a link of one of them, is as a link of the sweep
pub sweep_link : (command link : Command) → IsSweepCommand command → IsDeedOf command link → IsSweepLink link
sweep_link command link (step, same) of = go step (subst (λ (c : Command). IsDeedOf c link) same of)
  where
    go : (step : SweepStep) → IsDeedOf (command_of step) link → IsSweepLink link
    go (Pulling by to) of = (Pulling by to, of)
    go (Collecting by) of = (Collecting by, of)

pub of_sweep : (items : List Command) (steps : List SweepStep) → items ≡ map command_of steps
    → All IsSweepCommand items
of_sweep items steps same =
    subst (All IsSweepCommand) (sym same) (All-map IsSweepCommand command_of steps (λ k d within. (get_or steps k d, refl)))

pub commands_of : (order : Order) (members : ℕ) (items : List Command) → IsCount members
    → items ≡ map command_of (sweep_steps order members) → All IsCommand items
commands_of order members items count same =
    subst (All IsCommand) (sym same) (All-map IsCommand command_of (sweep_steps order members)
    (steps_are_commands order members count))

few_steps : (order : Order) (members : ℕ) → IsCount members → length (sweep_steps order members) ≤ 50
few_steps order members count = go order
  where
    leg : (l : Leg) (first many : ℕ) → length (leg_steps l first many) ≡ many
    leg l first many = length-map-range_with_len (leg_step l) first many

    star : length (star_round members) ≤ 14
    star =
        let eight = count.at_most in
        omega (
          arith,
          length-append (leg_steps Gathers 2 (members - 1)) (leg_steps Spreads 2 (members - 1)),
          leg Gathers 2 (members - 1),
          leg Spreads 2 (members - 1),
        )

    ring : length (ring_round members) ≤ 8
    ring =
        let eight = count.at_most in
        let two = count.at_least in
        omega (
          arith,
          length-append (leg_steps HandsOn 2 (members - 1)) (Pulling 1 members ∷ []),
          leg HandsOn 2 (members - 1),
        )

    more : (round rest : List SweepStep) (a b : ℕ) → length round ≤ a → length rest ≤ b → length (round ++ rest) ≤ a + b
    more round rest a b low high = omega (arith, low, high, length-append round rest)

    last : length (leg_steps Collects 1 members) ≤ 8
    last = omega (arith, count.at_most, leg Collects 1 members)

    go : (order : Order) → length (sweep_steps order members) ≤ 50
    go Star =
        omega (
          arith,
          more (star_round members) _ 14 36 star (more (star_round members) _ 14 22 star
              (more (star_round members) _ 14 8 star last)),
        )
    go Ring =
        omega (
          arith,
          more (ring_round members) _ 8 32 ring (more (ring_round members) _ 8 24 ring
              (more (ring_round members) _ 8 16 ring (more (ring_round members) _ 8 8 ring last))),
        )

pub few_commands : (order : Order) (members : ℕ) (items : List Command) → IsCount members
    → items ≡ map command_of (sweep_steps order members) → length items ≤ 50
few_commands order members items count same =
    omega (arith, ap length same, length-map (sweep_steps order members) command_of, few_steps order members count)

-- a leg of one member more
pub leg_more : (leg : Leg) (first before : ℕ) (old more new : List Command) (command : Command)
    → more ≡ old ++ map command_of (leg_steps leg first before)
    → command ≡ command_of (leg_step leg (first + before)) → new ≡ more ++ command ∷ []
    → new ≡ old ++ map command_of (leg_steps leg first (before + 1))
leg_more leg first before old more new command so_far next pushed =
    pushed ∙ ap (λ l. l ++ command ∷ []) so_far
    ∙ append_assoc old (map command_of (leg_steps leg first before)) (command ∷ [])
    ∙ ap (λ c. old ++ (map command_of (leg_steps leg first before) ++ c ∷ [])) next
    ∙ ap (λ l. old ++ l)
    (sym (map_push command_of (leg_steps leg first before) (leg_step leg (first + before))))
    ∙ ap (λ l. old ++ map command_of l)
    (sym (map-range_with_len_more (leg_step leg) first before (first + before) refl))
