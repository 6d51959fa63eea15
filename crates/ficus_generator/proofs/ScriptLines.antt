-- The lines of a generated script are those that were written, and spell its commands.
use Rattle.std.proofs.Common.{◌≡◌, ◌≢◌, ◌∙◌, ◌<◌, ◌≤◌, ◌^◌, ◌+◌, ◌-◌, ◌*◌, ℕ, List, [], ◌∷◌, ◌++◌, map, All, refl, ap, sym, subst, arith, append_assoc, length-append}
use Rattle.std.specs.List.{AllByRecursion, filter, range_with_len}
use Rattle.std.proofs.lemmas.List.Elements.{All-from_get_or, All-from_recursion, recursion_from_All}
use Rattle.std.proofs.lemmas.List.FromFn.{get_or-range_with_len, length-range_with_len, length-map-range_with_len}
use Rattle.ficus_ids.specs.Members.{IsCount}
use Rattle.ficus_path.proofs.CutLaws.{IsFreeOf}
use Rattle.ficus_script.specs.Command.{IsCommand, command_text}
use Rattle.ficus_script.specs.Script.{lines_of, is_kept}
use Rattle.ficus_script.specs.declared.command.Command.{Command}
use Rattle.ficus_script.specs.declared.command.Command.TheVariants.{Pull}
use Rattle.ficus_script.proofs.Scripts.{line_cut}
use Rattle.ficus_generator.specs.Draws.{state_after, drawn}
use Rattle.ficus_generator.specs.Commands.{dir_commands, first_pull_commands, mkdir_command, script_commands, step_command, step_commands}
use Rattle.ficus_generator.specs.Lines.{HasLines, StopsNothing}
use Rattle.ficus_generator.specs.Script.{dir_lines, first_pull_lines, mkdir_line, pull_line, script_lines, step_line, step_lines, text_of}
use Rattle.ficus_generator.specs.Step.{action_of, step_of}
use Rattle.ficus_generator.proofs.LineLaws.{IsLineOf, action_is, mkdir_is, pull_is}

-- lines without byte 10 are the lines of their text
lines_again : (lines : List (List ℕ)) → AllByRecursion (IsFreeOf 10) lines → lines_of (text_of lines) ≡ lines
lines_again [] each = refl
lines_again (line ∷ lines) each =
    ap lines_of (append_assoc line (10 ∷ []) (text_of lines))
    ∙ line_cut line (text_of lines) (recursion_from_All (λ byte. byte ≢ 10) line each.0)
    ∙ ap (λ (behind : List (List ℕ)). line ∷ behind) (lines_again lines each.1)

-- what holds of each number of a range
each_of_range : (P : ℕ → Type 0) (first count : ℕ) → ((k : ℕ) → k < count → P (first + k)) →
    All P (range_with_len first count)
each_of_range P first count each =
    All-from_get_or P (range_with_len first count) 0
    (λ k within.
    let below : k < count = omega (arith, within, length-range_with_len first count) in
    subst P (sym (get_or-range_with_len first count k 0 below)) (each k below))

-- the lines are, one by one, spellings of the commands
abbrev AreSpelled : List Command → List (List ℕ) → Type 0
AreSpelled [] [] = Unit {0}
AreSpelled [] (line ∷ lines) = ⊥
AreSpelled (command ∷ commands) [] = ⊥
AreSpelled (command ∷ commands) (line ∷ lines) = IsLineOf command line × AreSpelled commands lines

both_spelled : (commands more : List Command) (lines others : List (List ℕ)) → AreSpelled commands lines →
    AreSpelled more others → AreSpelled (commands ++ more) (lines ++ others)
both_spelled [] more [] others first second = second
both_spelled [] more (line ∷ lines) others first second = absurd first
both_spelled (command ∷ commands) more [] others first second = absurd first
both_spelled (command ∷ commands) more (line ∷ lines) others first second =
    (first.0, both_spelled commands more lines others first.1 second)

-- what is made of the same numbers
of_each : (command_of : ℕ → Command) (line_of : ℕ → List ℕ) (numbers : List ℕ) →
    AllByRecursion (λ n. IsLineOf (command_of n) (line_of n)) numbers →
    AreSpelled (map command_of numbers) (map line_of numbers)
of_each command_of line_of [] each = tt
of_each command_of line_of (n ∷ numbers) each = (each.0, of_each command_of line_of numbers each.1)

of_range : (command_of : ℕ → Command) (line_of : ℕ → List ℕ) (first count : ℕ) →
    ((k : ℕ) → k < count → IsLineOf (command_of (first + k)) (line_of (first + k))) →
    AreSpelled (map command_of (range_with_len first count)) (map line_of (range_with_len first count))
of_range command_of line_of first count each =
    let Spells : ℕ → Type 0 = λ (n : ℕ). IsLineOf (command_of n) (line_of n) in
    of_each command_of line_of (range_with_len first count)
    (recursion_from_All Spells (range_with_len first count) (each_of_range Spells first count each))

dirs_are : AreSpelled dir_commands dir_lines
dirs_are =
    of_range (mkdir_command 1) (mkdir_line 1) 0 4
    (λ dir within.
    mkdir_is 1 (0 + dir) (record { at_least = omega arith; at_most = omega arith }) (omega (arith, within)))

pulls_are : (members : ℕ) → IsCount members → AreSpelled (first_pull_commands members) (first_pull_lines members)
pulls_are members count =
    of_range (λ member. Pull member 1) (λ member. pull_line member 1) 2 (members - 1)
    (λ k within.
    pull_is (2 + k) 1 (record { at_least = omega arith; at_most = omega (arith, within, count.at_most) })
    (record { at_least = omega arith; at_most = omega arith }))

step_is : (seed members number : ℕ) → IsCount members → number < 2 ^ 64 →
    IsLineOf (step_command members (step_of members seed number)) (step_line members (step_of members seed number))
step_is seed members number count fits =
    let state = state_after seed (3 * (number - 1)) in
    let below : drawn state 1 members < members = omega (arith, count.at_least) in
    action_is members number (1 + drawn state 1 members) (drawn state 3 8) count
    (record { at_least = omega arith; at_most = omega (arith, below) }) (omega arith) fits (action_of (drawn state 2 10))

steps_are : (seed steps members : ℕ) → steps ≤ 5000 → IsCount members →
    AreSpelled (step_commands seed steps members) (step_lines seed steps members)
steps_are seed steps members few count =
    of_range (λ number. step_command members (step_of members seed number))
    (λ number. step_line members (step_of members seed number)) 1 steps
    (λ k within. step_is seed members (1 + k) count (omega (arith, within, few)))

lines_are : (seed steps members : ℕ) → steps ≤ 5000 → IsCount members →
    AreSpelled (script_commands seed steps members) (script_lines seed steps members)
lines_are seed steps members few count =
    both_spelled (dir_commands ++ first_pull_commands members) (step_commands seed steps members)
    (dir_lines ++ first_pull_lines members) (step_lines seed steps members)
    (both_spelled dir_commands (first_pull_commands members) dir_lines (first_pull_lines members) dirs_are
    (pulls_are members count))
    (steps_are seed steps members few count)

-- what lines say that spell commands
spelled_by : (commands : List Command) (lines : List (List ℕ)) → AreSpelled commands lines →
    AllByRecursion IsCommand commands × (filter is_kept lines ≡ map command_text commands)
    × AllByRecursion StopsNothing commands × AllByRecursion (IsFreeOf 10) lines
spelled_by [] [] each = (tt, refl, tt, tt)
spelled_by [] (line ∷ lines) each = absurd each
spelled_by (command ∷ commands) [] each = absurd each
spelled_by (command ∷ commands) (line ∷ lines) each =
    let rest = spelled_by commands lines each.1 in
    let first = each.0 in (
      (first.0.0, rest.0),
      rw (first.2) (ap (λ (text : List ℕ). text ∷ filter is_kept lines) first.0.1
          ∙ ap (λ (texts : List (List ℕ)). command_text command ∷ texts) rest.1),
      (first.3, rest.2),
      (first.1, rest.3),
    )

pub has_lines : (seed steps members : ℕ) → steps ≤ 5000 → IsCount members → HasLines seed steps members
has_lines seed steps members few count =
    let commands = script_commands seed steps members in
    let lines = script_lines seed steps members in
    let spelled = spelled_by commands lines (lines_are seed steps members few count) in
    let again : lines_of (text_of lines) ≡ lines = lines_again lines spelled.3 in
    let pulls = first_pull_commands members in
    record {
      lines = again;
      script = record {
        each = All-from_recursion IsCommand commands spelled.0;
        spelled = ap (λ (lines : List (List ℕ)). filter is_kept lines) again ∙ spelled.1;
      };
      counted = omega (
        arith,
        count.at_least,
        length-append (dir_commands ++ pulls) (step_commands seed steps members),
        length-append dir_commands pulls,
        length-map-range_with_len (λ member. Pull member 1) 2 (members - 1),
        length-map-range_with_len (λ number. step_command members (step_of members seed number)) 1 steps,
      );
      stopless = All-from_recursion StopsNothing commands spelled.2;
    }
