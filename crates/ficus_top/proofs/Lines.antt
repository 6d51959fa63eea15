-- A script has no more lines, and no more commands, than bytes.
use Rattle.std.proofs.Common.{◌≡◌, ℕ, suc, ◌+◌, ◌≤◌, ◌==◌, List, [], ◌∷◌, length, Err, refl, ap, inl, inr, arith, length-append}
use Rattle.std.specs.Prelude.{IsErrOf}
use Rattle.std.specs.List.{All, AllByRecursion, AllZip, onto_first, filter}
use Rattle.std.proofs.lemmas.Bool.{cases_Bool}
use Rattle.std.proofs.lemmas.List.{length-map}
use Rattle.std.proofs.lemmas.List.Elements.{All-from_recursion}
use Rattle.ficus_script.specs.declared.command.Command.{Command}
use Rattle.ficus_script.specs.Command.{command_text}
use Rattle.ficus_script.specs.Script.{lines_of, is_kept, IsScript, IsFirstBad}
use Rattle.ficus_script.specs.VolumeLine.{IsVolumeScript, SpellsLine}
use Rattle.ficus_script.specs.declared.fault.ScriptFault.{ScriptFault}
use Rattle.ficus_script.specs.declared.fault.ScriptFault.TheVariants.{BadLine}
use Rattle.ficus_script.specs.declared.volume_line.VolumeLine.{VolumeLine}
use Rattle.ficus_top.specs.Graft.Runs.{IsLineOf}

length-onto_first : (byte : ℕ) (lines : List (List ℕ)) → length (onto_first byte lines) ≤ length lines + 1
length-onto_first byte [] = omega arith
length-onto_first byte (line ∷ lines) = omega arith

lines_within : (bytes : List ℕ) → length (lines_of bytes) ≤ length bytes
lines_within [] = omega arith
lines_within (byte ∷ bytes) =
    elim (cases_Bool (byte == 10)) [
      | inl ends ↦ rw ends (omega (arith, lines_within bytes))
      | inr goes_on ↦ rw goes_on (omega (arith, lines_within bytes, length-onto_first byte (lines_of bytes)))
    ]

kept_within : (lines : List (List ℕ)) → length (filter is_kept lines) ≤ length lines
kept_within [] = omega arith
kept_within (line ∷ lines) =
    elim (cases_Bool (is_kept line)) [
      | inl kept ↦ rw kept (omega (arith, kept_within lines))
      | inr over ↦ rw over (omega (arith, kept_within lines))
    ]

pub commands_within : (bytes : List ℕ) (commands : List Command) → IsScript bytes commands
    → length commands ≤ length bytes
commands_within bytes commands script =
    omega (
      arith,
      lines_within bytes,
      kept_within (lines_of bytes),
      ap length script.spelled,
      length-map commands
          command_text,
    )

-- there is one line for each that is kept
same_length : {A B : Type 0} (R : A → B → Type 0) (xs : List A) (ys : List B) → AllZip R xs ys → length xs ≡ length ys
same_length R [] [] zip = refl
same_length R [] (y ∷ ys) zip = absurd zip
same_length R (x ∷ xs) [] zip = absurd zip
same_length R (x ∷ xs) (y ∷ ys) zip = ap suc (same_length R xs ys zip.1)

pub volume_lines_within : (volumes : ℕ) (bytes : List ℕ) (lines : List VolumeLine) → IsVolumeScript volumes bytes lines
    → length lines ≤ length bytes
volume_lines_within volumes bytes lines script =
    omega (
      arith,
      lines_within bytes,
      kept_within (lines_of bytes),
      same_length (SpellsLine volumes) lines (filter is_kept (lines_of bytes)) script,
    )

-- each is one of a volume
each_line : (volumes : ℕ) (lines : List VolumeLine) (texts : List (List ℕ)) → AllZip (SpellsLine volumes) lines texts
    → AllByRecursion (IsLineOf volumes) lines
each_line volumes [] texts zip = tt
each_line volumes (line ∷ lines) [] zip = absurd zip
each_line volumes (line ∷ lines) (text ∷ texts) zip = (
  record { volume = zip.0.among; command = zip.0.command; step = zip.0.step },
  each_line volumes lines texts zip.1,
)

pub are_lines_of : (volumes : ℕ) (bytes : List ℕ) (lines : List VolumeLine) → IsVolumeScript volumes bytes lines
    → All (IsLineOf volumes) lines
are_lines_of volumes bytes lines script =
    All-from_recursion (IsLineOf volumes) lines (each_line volumes lines (filter is_kept (lines_of bytes)) script)

bad_line_within : (may : List ℕ → Type 0) (bytes : List ℕ) (number : ℕ) → IsFirstBad may bytes number
    → number ≤ length bytes
bad_line_within may bytes number first =
    omega (
      arith,
      lines_within bytes,
      first.counted,
      ap length first.lines,
      length-append first.before
          (first.bad ∷ first.behind),
    )

-- nor has the line that is told as the first bad one a greater number
pub told_within : {T : Type 0} (may : List ℕ → Type 0) (bytes : List ℕ) (fault : ScriptFault) (line : ℕ)
    → fault ≡ BadLine line
    → ((number : ℕ) → IsErrOf {T = T} {E = ScriptFault} (Err fault) (BadLine number) → IsFirstBad may bytes number)
    → line ≤ length bytes
told_within may bytes fault line is told = bad_line_within may bytes line (told line (ap Err is))
