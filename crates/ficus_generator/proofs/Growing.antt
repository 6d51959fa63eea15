-- Scripts that grow by a line, and by a command.
use Rattle.std.proofs.Common.{◌≡◌, ◌∙◌, ◌≤◌, ℕ, zero, suc, ◌+◌, ◌-◌, ◌*◌, List, [], ◌∷◌, ◌++◌, map, ap, sym, arith, append_assoc}
use Rattle.std.specs.List.{range_with_len}
use Rattle.std.proofs.lemmas.List.{flat_map_more}
use Rattle.std.proofs.lemmas.List.Concat.{flat_map-append}
use Rattle.std.proofs.lemmas.List.FromFn.{map-range_with_len_more}
use Rattle.ficus_script.specs.declared.command.Command.{Command}
use Rattle.ficus_generator.specs.Commands.{step_command, step_commands}
use Rattle.ficus_generator.specs.Draws.{next_state, state_after}
use Rattle.ficus_generator.specs.Script.{step_line, step_lines, text_of}
use Rattle.ficus_generator.specs.Step.{step_from, step_of}

-- the lines of so many numbers, and that of the next one
pub lines_more : (line : ℕ → List ℕ) (old text next : List ℕ) (first count number later : ℕ) → number ≡ first + count →
    later ≡ count + 1 → text ≡ old ++ text_of (map line (range_with_len first count)) →
    next ≡ text ++ (line number ++ 10 ∷ []) → next ≡ old ++ text_of (map line (range_with_len first later))
lines_more line old text next first count number later is one_more so_far added =
    let last : map line (range_with_len first later) ≡ map line (range_with_len first count) ++ line number ∷ [] =
    ap (λ n. map line (range_with_len first n)) one_more ∙ map-range_with_len_more line first count number (sym is) in
    added ∙ ap (λ (t : List ℕ). t ++ (line number ++ 10 ∷ [])) so_far
    ∙ flat_map_more (λ (one : List ℕ). one ++ 10 ∷ []) old (map line (range_with_len first count)) (line number)
    ∙ ap (λ (lines : List (List ℕ)). old ++ text_of lines) (sym last)

-- draws go on from what those before left
state_after-again : (seed draws more : ℕ) → state_after (state_after seed draws) more ≡ state_after seed (draws + more)
state_after-again seed draws zero = ap (state_after seed) (omega arith)
state_after-again seed draws (suc more) =
    let one : suc (draws + more) ≡ draws + suc more = omega arith in
    ap next_state (state_after-again seed draws more) ∙ ap (state_after seed) one

-- three draws later
pub state_of_next : (seed number old new : ℕ) → 1 ≤ number → old ≡ state_after seed (3 * (number - 1)) →
    new ≡ state_after old 3 → new ≡ state_after seed (3 * (number + 1 - 1))
state_of_next seed number old new some so_far drawn =
    let three : 3 * (number - 1) + 3 ≡ 3 * (number + 1 - 1) = omega (arith, some) in
    drawn ∙ ap (λ s. state_after s 3) so_far ∙ state_after-again seed (3 * (number - 1)) 3 ∙ ap (state_after seed) three

-- the lines of so many steps, and that of the next one
pub steps_more : (seed members number later state : ℕ) (old text next : List ℕ) → 1 ≤ number → later ≡ number →
    state ≡ state_after seed (3 * (number - 1)) → text ≡ old ++ text_of (step_lines seed (number - 1) members) →
    next ≡ text ++ (step_line members (step_from members state number) ++ 10 ∷ []) →
    next ≡ old ++ text_of (step_lines seed later members)
steps_more seed members number later state old text next some is drawn so_far added =
    lines_more (λ n. step_line members (step_of members seed n)) old text next 1 (number - 1) number later
    (omega (arith, some)) (omega (arith, some, is)) so_far
    (added ∙ ap (λ s. text ++ (step_line members (step_from members s number) ++ 10 ∷ [])) drawn)

-- the three parts of a script
pub parts_written : (dirs pulls steps : List (List ℕ)) (start first second third : List ℕ) → start ≡ [] →
    first ≡ start ++ text_of dirs →
    second ≡ first ++ text_of pulls → third ≡ second ++ text_of steps → third ≡ text_of (dirs ++ pulls ++ steps)
parts_written dirs pulls steps start first second third empty one two three =
    let ended : List ℕ → List ℕ = λ (line : List ℕ). line ++ 10 ∷ [] in
    three ∙ ap (λ (t : List ℕ). t ++ text_of steps) (two
    ∙ ap (λ (t : List ℕ). t ++ text_of pulls) (one ∙ ap (λ (t : List ℕ). t ++ text_of dirs) empty)
    ∙ sym (flat_map-append ended dirs pulls))
    ∙ sym (flat_map-append ended (dirs ++ pulls) steps)

-- the commands of so many numbers, and that of the next one
pub commands_more : (command_of : ℕ → Command) (old so_far next : List Command) (first count number later : ℕ) →
    number ≡ first + count → later ≡ count + 1 → so_far ≡ old ++ map command_of (range_with_len first count) →
    next ≡ so_far ++ command_of number ∷ [] → next ≡ old ++ map command_of (range_with_len first later)
commands_more command_of old so_far next first count number later is one_more before added =
    let last : map command_of (range_with_len first later)
    ≡ map command_of (range_with_len first count) ++ command_of number ∷ [] =
    ap (λ n. map command_of (range_with_len first n)) one_more ∙ map-range_with_len_more command_of first count number (sym is) in
    added ∙ ap (λ (t : List Command). t ++ command_of number ∷ []) before
    ∙ append_assoc old (map command_of (range_with_len first count)) (command_of number ∷ [])
    ∙ ap (λ (t : List Command). old ++ t) (sym last)

-- the commands of so many steps, and that of the next one
pub step_commands_more : (seed members number later state : ℕ) (old so_far next : List Command) → 1 ≤ number →
    later ≡ number → state ≡ state_after seed (3 * (number - 1)) →
    so_far ≡ old ++ step_commands seed (number - 1) members →
    next ≡ so_far ++ step_command members (step_from members state number) ∷ [] →
    next ≡ old ++ step_commands seed later members
step_commands_more seed members number later state old so_far next some is drawn before added =
    commands_more (λ n. step_command members (step_of members seed n)) old so_far next 1 (number - 1) number later
    (omega (arith, some)) (omega (arith, some, is)) before
    (added ∙ ap (λ s. so_far ++ step_command members (step_from members s number) ∷ []) drawn)
