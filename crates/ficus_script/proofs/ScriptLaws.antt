-- Bytes are the script of one list, of commands or of lines over several volumes, or have one first bad line.
use Rattle.std.proofs.Common.{◌≡◌, ℕ, suc, List, [], ◌∷◌, ◌++◌, ◌≤◌, length, map, refl, sym, ◌∙◌, ap, subst, inl, inr, arith}
use Rattle.std.specs.List.{All, AllByRecursion, AllZip, filter}
use Rattle.std.proofs.lemmas.Bool.{cases_Bool}
use Rattle.std.proofs.lemmas.List.Elements.{All-from_recursion, recursion_from_All}
use Rattle.ficus_script.specs.declared.command.Command.{Command}
use Rattle.ficus_script.specs.declared.fault.ScriptFault.{ScriptFault}
use Rattle.ficus_script.specs.declared.fault.ScriptFault.TheVariants as script_fault
use Rattle.ficus_script.specs.declared.volume_line.VolumeLine.{VolumeLine}
use Rattle.ficus_script.specs.Command.{IsCommand, command_text}
use Rattle.ficus_script.specs.Script.{lines_of, is_passed_over, is_kept, AreLines, IsCommandLine, IsScript, IsFirstBad, IsFirstBadLine, MayStand, SpellsCommand}
use Rattle.ficus_script.specs.VolumeLine.{IsFirstBadVolumeLine, IsVolumeLine, IsVolumeScript, SpellsLine}
use Rattle.ficus_script.proofs.CommandLaws.{command_text_injective}
use Rattle.ficus_script.proofs.VolumeLaws.{one_line}

same_pair : {X : Type 0} {x y : X} {xs ys : List X} → x ≡ y → xs ≡ ys → x ∷ xs ≡ y ∷ ys
same_pair e f = cc

module _ (may : List ℕ → Type 0) where
  AreGood : List (List ℕ) → Type 0
  AreGood lines = AllByRecursion may lines

  good_among : (before : List (List ℕ)) (line : List ℕ) (behind : List (List ℕ)) → AreGood (before ++ line ∷ behind) →
      may line
  unfolding AreGood
  good_among [] line behind are = are.0
  good_among (other ∷ before) line behind are = good_among before line behind are.1

  same_count : (before others : List (List ℕ)) (bad worse : List ℕ) (behind beyond : List (List ℕ)) → AreGood before →
      AreGood others → (may bad → ⊥) → (may worse → ⊥) → before ++ bad ∷ behind ≡ others ++ worse ∷ beyond →
      length before ≡ length others
  unfolding AreGood
  same_count [] [] bad worse behind beyond are also no_bad no_worse same = refl
  same_count [] (line ∷ others) bad worse behind beyond are also no_bad no_worse same =
      let first : line ≡ bad = cc in
      absurd (no_bad (subst may first also.0))
  same_count (line ∷ before) [] bad worse behind beyond are also no_bad no_worse same =
      let first : line ≡ worse = cc in
      absurd (no_worse (subst may first are.0))
  same_count (line ∷ before) (other ∷ others) bad worse behind beyond are also no_bad no_worse same =
      let rest : before ++ bad ∷ behind ≡ others ++ worse ∷ beyond = cc in
      ap suc (same_count before others bad worse behind beyond are.1 also.1 no_bad no_worse rest)

  pub one_first_bad : (bytes : List ℕ) (number other : ℕ) → IsFirstBad may bytes number → IsFirstBad may bytes other →
      number ≡ other
  unfolding AreGood
  one_first_bad bytes number other first also =
      let same = same_count first.before also.before first.bad also.bad first.behind also.behind
      (recursion_from_All may first.before first.each) (recursion_from_All may also.before also.each) first.no_line also.no_line
      (sym first.lines ∙ also.lines) in
      omega (arith, first.counted, also.counted)

  -- where every line may stand there, none is bad
  pub all_may : (bytes : List ℕ) (number : ℕ) → All may (lines_of bytes) → IsFirstBad may bytes number → ⊥
  unfolding AreGood
  all_may bytes number all first =
      first.no_line (good_among first.before first.bad first.behind
      (subst AreGood first.lines (recursion_from_All may (lines_of bytes) all)))

  -- a fault that names the first bad line, and where there is none alone wants memory, is the one of that line
  pub fault_is : (bytes : List ℕ) (fault : ScriptFault) (number : ℕ) →
      ((line : ℕ) → fault ≡ script_fault.BadLine line → IsFirstBad may bytes line) →
      (fault ≡ script_fault.Memory → All may (lines_of bytes)) → IsFirstBad may bytes number →
      fault ≡ script_fault.BadLine number
  fault_is bytes (script_fault.BadLine line) number named none first =
      ap (λ (n : ℕ). script_fault.BadLine n) (one_first_bad bytes line number (named line refl) first)
  fault_is bytes script_fault.Memory number named none first = absurd (all_may bytes number (none refl) first)

module _ {A : Type 0} (spells : A → List ℕ → Type 0) where
  zip_one : ((one other : A) (line : List ℕ) → spells one line → spells other line → one ≡ other) →
      (list others : List A) (lines : List (List ℕ)) → AllZip spells list lines → AllZip spells others lines →
      list ≡ others
  zip_one unique [] [] [] zip also = refl
  zip_one unique [] [] (line ∷ lines) zip also = absurd zip
  zip_one unique [] (other ∷ others) [] zip also = absurd also
  zip_one unique [] (other ∷ others) (line ∷ lines) zip also = absurd zip
  zip_one unique (one ∷ list) [] [] zip also = absurd zip
  zip_one unique (one ∷ list) [] (line ∷ lines) zip also = absurd also
  zip_one unique (one ∷ list) (other ∷ others) [] zip also = absurd zip
  zip_one unique (one ∷ list) (other ∷ others) (line ∷ lines) zip also =
      same_pair (unique one other line zip.0 also.0) (zip_one unique list others lines zip.1 also.1)

  -- where no line spells two things, bytes spell one list
  pub one_list : ((one other : A) (line : List ℕ) → spells one line → spells other line → one ≡ other) →
      (bytes : List ℕ) (list others : List A) → AreLines spells bytes list → AreLines spells bytes others → list ≡ others
  one_list unique bytes list others are also =
      zip_one unique list others (filter is_kept (lines_of bytes)) are also

  module _ (is_spelled : List ℕ → Type 0) (spelled : (one : A) (line : List ℕ) → spells one line → is_spelled line) where
    -- where the first line isn't passed over
    first_may : (line : List ℕ) (lines : List (List ℕ)) (list : List A) →
        ((rest : List A) → AllZip spells rest (filter is_kept lines) → AllByRecursion (MayStand is_spelled) lines) →
        AllZip spells list (line ∷ filter is_kept lines) → AllByRecursion (MayStand is_spelled) (line ∷ lines)
    first_may line lines [] behind zip = absurd zip
    first_may line lines (one ∷ list) behind zip = (inr (spelled one line zip.0), behind list zip.1)

    lines_may : (lines : List (List ℕ)) (list : List A) → AllZip spells list (filter is_kept lines) →
        AllByRecursion (MayStand is_spelled) lines
    lines_may [] list zip = tt
    lines_may (line ∷ lines) list zip =
        elim (cases_Bool (is_passed_over line)) [
          | inl over ↦ (inl over, lines_may lines list (rw over at zip))
          | inr kept ↦ first_may line lines list (λ rest more. lines_may lines rest more) (rw kept at zip)
        ]

    -- bytes that spell a list have no bad line
    pub no_bad : (bytes : List ℕ) (list : List A) (number : ℕ) → AreLines spells bytes list →
        IsFirstBad (MayStand is_spelled) bytes number → ⊥
    no_bad bytes list number are first =
        all_may (MayStand is_spelled) bytes number
        (All-from_recursion (MayStand is_spelled) (lines_of bytes) (lines_may (lines_of bytes) list are)) first

-- lines that spell commands are a script of them
commands_of : (commands : List Command) (lines : List (List ℕ)) → AllZip SpellsCommand commands lines →
    AllByRecursion IsCommand commands × (lines ≡ map command_text commands)
commands_of [] [] zip = (tt, refl)
commands_of [] (line ∷ lines) zip = absurd zip
commands_of (command ∷ commands) [] zip = absurd zip
commands_of (command ∷ commands) (line ∷ lines) zip =
    let behind = commands_of commands lines zip.1 in
    ((zip.0.0, behind.0), same_pair zip.0.1 behind.1)

pub script_of : (bytes : List ℕ) (commands : List Command) → AreLines SpellsCommand bytes commands →
    IsScript bytes commands
script_of bytes commands lines =
    let are = commands_of commands (filter is_kept (lines_of bytes)) lines in
    record { each = All-from_recursion IsCommand commands are.0; spelled = are.1 }

-- and those of a script spell its commands
lines_spell : (commands : List Command) → AllByRecursion IsCommand commands →
    AllZip SpellsCommand commands (map command_text commands)
lines_spell [] are = tt
lines_spell (command ∷ commands) are = ((are.0, refl), lines_spell commands are.1)

lines_of_script : (bytes : List ℕ) (commands : List Command) → IsScript bytes commands →
    AreLines SpellsCommand bytes commands
lines_of_script bytes commands script =
    rw script.spelled (lines_spell commands (recursion_from_All IsCommand commands script.each))

one_spelled : (command other : Command) (line : List ℕ) → SpellsCommand command line → SpellsCommand other line →
    command ≡ other
one_spelled command other line is also = command_text_injective command other is.0 also.0 (sym is.1 ∙ also.1)

pub one_script : (bytes : List ℕ) (commands others : List Command) → IsScript bytes commands → IsScript bytes others →
    commands ≡ others
one_script bytes commands others script also =
    one_list SpellsCommand one_spelled bytes commands others (lines_of_script bytes commands script)
    (lines_of_script bytes others also)

pub no_bad_line : (bytes : List ℕ) (commands : List Command) (number : ℕ) → IsScript bytes commands →
    IsFirstBadLine bytes number → ⊥
no_bad_line bytes commands number script first =
    no_bad SpellsCommand IsCommandLine (λ command line is. (command, is.0, is.1)) bytes commands number
    (lines_of_script bytes commands script) first

pub one_bad_line : (bytes : List ℕ) (number other : ℕ) → IsFirstBadLine bytes number → IsFirstBadLine bytes other →
    number ≡ other
one_bad_line bytes number other first also = one_first_bad (MayStand IsCommandLine) bytes number other first also

pub one_volume_script : (volumes : ℕ) → volumes ≤ 255 → (bytes : List ℕ) (lines others : List VolumeLine) →
    IsVolumeScript volumes bytes lines → IsVolumeScript volumes bytes others → lines ≡ others
one_volume_script volumes few bytes lines others script also =
    one_list (SpellsLine volumes) (one_line volumes few) bytes lines others script also

pub no_bad_volume_line : (volumes : ℕ) (bytes : List ℕ) (lines : List VolumeLine) (number : ℕ) →
    IsVolumeScript volumes bytes lines → IsFirstBadVolumeLine volumes bytes number → ⊥
no_bad_volume_line volumes bytes lines number script first =
    no_bad (SpellsLine volumes) (IsVolumeLine volumes) (λ line text is. (line, is)) bytes lines number script first

pub one_bad_volume_line : (volumes : ℕ) (bytes : List ℕ) (number other : ℕ) → IsFirstBadVolumeLine volumes bytes number →
    IsFirstBadVolumeLine volumes bytes other → number ≡ other
one_bad_volume_line volumes bytes number other first also =
    one_first_bad (MayStand (IsVolumeLine volumes)) bytes number other first also
