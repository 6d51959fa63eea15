-- What the reader of commands says of one line, and how far a script is read.
use Rattle.std.proofs.Common.{◌≡◌, ◌≢◌, ◌⊎◌, ℕ, ◌+◌, ◌<◌, ◌≤◌, List, [], ◌∷◌, ◌++◌, length, Result, Err, Ok, refl, sym, ◌∙◌, ap, inl, inr, false, arith, length-append}
use Rattle.std.specs.List.{All, AllByRecursion, AllZip, filter, onto_first}
use Rattle.std.proofs.lemmas.Bool.{cases_Bool, ne_eqb, true≢false}
use Rattle.std.proofs.lemmas.List.Sums.{count_by-le-length, length-filter}
use Rattle.std.specs.Prelude.{◌==◌, codes}
use Rattle.std.proofs.lemmas.List.Elements.{All-from_recursion, All-nil, recursion_from_All}
use Rattle.ficus_script.specs.declared.fault.ScriptFault.{ScriptFault}
use Rattle.ficus_script.specs.declared.fault.ScriptFault.TheVariants.{BadLine, Memory}
use Rattle.ficus_script.specs.declared.volume_line.VolumeLine.{VolumeLine}
use Rattle.ficus_script.specs.Command.{command_text}
use Rattle.ficus_script.specs.Script.{lines_of, is_kept, is_passed_over, MayStand}
use Rattle.ficus_script.specs.VolumeLine.{IsFirstBadVolumeLine, IsVolumeLine, IsVolumeScript, SpellsLine, at_volume}
use Rattle.ficus_script.proofs.Scripts.{AreFree, IsReadTo, IsReadTo-more, IsReadTo-none, IsSeenTo, IsSeenTo-more, IsSeenTo-none}
use Rattle.ficus_member_script.specs.declared.draft.Draft.{Draft}
use Rattle.ficus_member_script.specs.declared.member_line.MemberLine.{MemberLine}
use Rattle.ficus_member_script.specs.declared.member_line.MemberLine.TheVariants.{Does, Take}
use Rattle.ficus_member_script.specs.MemberLine.{IsMemberLine, IsMemberScript, IsOwnLine, SpellsMemberLine, SpellsNone}
use Rattle.ficus_member_script.specs.Reading.{Begins, BeginsElsewhere, IsKeptLine, IsReadingOf, Takes}
use Rattle.ficus_member_script.proofs.Begins.{asks_one}

-- where there is none in bytes, they are one line
some_line : (byte : ℕ) (line : List ℕ) → AreFree (byte ∷ line) → lines_of (byte ∷ line) ≡ (byte ∷ line) ∷ []
some_line byte [] free = rw (ne_eqb byte 10 free.0) refl
some_line byte (next ∷ line) free = rw (ne_eqb byte 10 free.0) (ap (onto_first byte) (some_line next line free.1))

line_whole : (line : List ℕ) → (line ≡ [] → ⊥) → All (λ byte. byte ≢ 10) line → lines_of line ≡ line ∷ []
line_whole [] some free = absurd (some refl)
line_whole (byte ∷ line) some free = some_line byte line (recursion_from_All (λ byte. byte ≢ 10) (byte ∷ line) free)

-- a line that isn't passed over isn't empty
kept_some : (line : List ℕ) → is_passed_over line ≡ false → line ≡ [] → ⊥
kept_some line kept empty = true≢false (sym (ap is_passed_over empty) ∙ kept)

-- the fault of a reader that failed
abbrev fault_of : {T : Type 0} → Result T ScriptFault → ScriptFault
fault_of (Ok value) = Memory
fault_of (Err fault) = fault

module _ (line : List ℕ) (is : IsKeptLine line) where
  -- it is the one line of its script, and is kept there
  alone : lines_of line ≡ line ∷ []
  alone = line_whole line (kept_some line is.kept) is.free

  kept_alone : filter is_kept (lines_of line) ≡ line ∷ []
  kept_alone = rw (alone, is.kept) refl

  module _ (none : BeginsElsewhere line → ⊥) where
    -- what it spells for a volume, a member may do
    own_of_volume : (one : VolumeLine) → SpellsLine 1 one line → SpellsMemberLine (Does one.command) line
    own_of_volume one spells = go spells.spelled
      where
        go : ((one.volume ≡ 1) × (line ≡ command_text one.command))
            ⊎ (line ≡ at_volume one.volume (command_text one.command)) → SpellsMemberLine (Does one.command) line
        go (inl behind) = record {
          own = record {
            command = spells.command;
            step = spells.step;
            alone = asks_one one.command (rw behind.1 at none);
          };
          spelled = behind.1;
        }
        go (inr at) = absurd (none (inl (_, at)))

    -- the last of the lines that are read is the one that it spells
    pub last_spells : (lines front : List VolumeLine) (one : VolumeLine) → IsVolumeScript 1 line lines →
        lines ≡ front ++ one ∷ [] → SpellsMemberLine (Does one.command) line
    last_spells lines front one script last = own_of_volume one (go front (rw (kept_alone, last) at script))
      where
        go : (front : List VolumeLine) → AllZip (SpellsLine 1) (front ++ one ∷ []) (line ∷ []) → SpellsLine 1 one line
        go [] zip = zip.0
        go (first ∷ []) zip = absurd zip.1
        go (first ∷ second ∷ front) zip = absurd zip.1

    -- there is one
    pub not_empty : (lines : List VolumeLine) → IsVolumeScript 1 line lines → length lines ≡ 0 → ⊥
    not_empty [] script empty = rw kept_alone at script
    not_empty (one ∷ lines) script empty = omega (arith, empty)

    module _ (no_name : Begins (codes "take ") line → ⊥) where
      -- where it spells nothing for a volume, it spells nothing
      none_of_volume : (IsVolumeLine 1 line → ⊥) → SpellsNone line
      none_of_volume bad (Does it) spells =
          bad (
            record { volume = 1; command = it },
            record {
              among = record { at_least = omega arith; at_most = omega arith };
              command = spells.own.command;
              step = spells.own.step;
              spelled = inl (refl, spells.spelled);
            },
          )
      none_of_volume bad (Take name) spells = no_name (name, spells.spelled)

      -- and where a bad line is found, there is nothing else
      pub bad_spells_none : (number : ℕ) → IsFirstBadVolumeLine 1 line number → SpellsNone line
      bad_spells_none number first =
          none_of_volume (λ spelled. first.no_line (inr (rw (only first.before (sym alone ∙ first.lines)) at spelled)))
        where
          only : (before : List (List ℕ)) → line ∷ [] ≡ before ++ first.bad ∷ first.behind → line ≡ first.bad
          only [] same = cc
          only (other ∷ before) same =
              absurd (omega (arith, ap (λ (lines : List (List ℕ)). length lines) same, length-append before (first.bad ∷ first.behind)))

      -- where no bad line is found, it spells something
      pub no_bad_line : (IsFirstBadVolumeLine 1 line 1 → ⊥) → IsMemberLine line
      no_bad_line clear = λ spells_none.
          clear (record {
            before = [];
            bad = line;
            behind = [];
            lines = alone;
            counted = refl;
            each = All-nil (MayStand (IsVolumeLine 1));
            no_line = bad spells_none;
          })
        where
          bad : SpellsNone line → MayStand (IsVolumeLine 1) line → ⊥
          bad spells_none (inl over) = absurd (true≢false (sym over ∙ is.kept))
          bad spells_none (inr volume) = spells_none (Does volume.0.command) (own_of_volume volume.0 volume.1)

      -- so it is with what the reader answered
      pub reading_err : {T : Type 0} (result : Result T ScriptFault) (fault : ScriptFault) → result ≡ Err fault →
          ((number : ℕ) → result ≡ Err (BadLine number) → IsFirstBadVolumeLine 1 line number) →
          ((number : ℕ) → IsFirstBadVolumeLine 1 line number → result ≡ Err (BadLine number)) →
          IsReadingOf line (Err fault)
      reading_err result (BadLine number) was bad_line no_line = bad_spells_none number (bad_line number was)
      reading_err result Memory was bad_line no_line =
          no_bad_line (λ first.
          let clash : Memory ≡ BadLine 1 = ap fault_of (sym was ∙ no_line 1 first) in
          cc)

-- The script is read so far: its lines may stand, and unless memory was refused they are what the draft has.
pub record IsDraftOf (bytes : List ℕ) (number : ℕ) (draft : Draft) (rest : List ℕ) : Type 0 where
  pub seen : IsSeenTo (MayStand IsMemberLine) bytes number rest
  pub read : draft.refused ≡ false → IsReadTo SpellsMemberLine IsMemberLine bytes number draft.lines.items rest

pub IsDraftOf-none : (bytes : List ℕ) (draft : Draft) → draft.lines.items ≡ [] → IsDraftOf bytes 0 draft bytes
IsDraftOf-none bytes draft empty = record {
  seen = IsSeenTo-none (MayStand IsMemberLine) bytes;
  read = λ whole. rw empty (IsReadTo-none SpellsMemberLine IsMemberLine bytes);
}

pub IsDraftOf-more : {bytes rest : List ℕ} {number : ℕ} {old new : Draft} (line others : List ℕ) →
    IsDraftOf bytes number old rest → lines_of rest ≡ line ∷ lines_of others → length others < length rest →
    MayStand IsMemberLine line → Takes line old new → IsDraftOf bytes (number + 1) new others
IsDraftOf-more line others so_far cut shorter may takes = record {
  seen = IsSeenTo-more (MayStand IsMemberLine) line others so_far.seen cut shorter may;
  read = λ whole.
      let both = takes whole in
      IsReadTo-more SpellsMemberLine IsMemberLine line others (so_far.read both.0) cut shorter both.1;
}

-- a byte in front makes one line more at most
count_onto : (byte : ℕ) (lines : List (List ℕ)) → length (onto_first byte lines) ≤ length lines + 1
count_onto byte [] = omega arith
count_onto byte (line ∷ lines) = omega arith

-- lines are at most as many as bytes
count_of_lines : (bytes : List ℕ) → length (lines_of bytes) ≤ length bytes
count_of_lines [] = omega arith
count_of_lines (byte ∷ bytes) =
    elim (cases_Bool (byte == 10)) [
      | inl end ↦ rw end (omega (arith, count_of_lines bytes))
      | inr within ↦ rw within (omega (arith, count_of_lines bytes, count_onto byte (lines_of bytes)))
    ]

zip_facts : (lines : List MemberLine) (texts : List (List ℕ)) → AllZip SpellsMemberLine lines texts →
    AllByRecursion IsOwnLine lines × (length lines ≤ length texts)
zip_facts [] texts zip = (tt, omega arith)
zip_facts (one ∷ lines) [] zip = absurd zip
zip_facts (one ∷ lines) (text ∷ texts) zip =
    let behind = zip_facts lines texts zip.1 in
    ((zip.0.own, behind.0), omega (arith, behind.1))

pub each_own : (bytes : List ℕ) (lines : List MemberLine) → IsMemberScript bytes lines → All IsOwnLine lines
each_own bytes lines script =
    All-from_recursion IsOwnLine lines (zip_facts lines (filter is_kept (lines_of bytes)) script).0

pub at_most : (bytes : List ℕ) (lines : List MemberLine) → IsMemberScript bytes lines → length lines ≤ length bytes
at_most bytes lines script =
    omega (
      arith,
      (zip_facts lines (filter is_kept (lines_of bytes)) script).1,
      length-filter is_kept (lines_of bytes),
      count_by-le-length is_kept (lines_of bytes),
      count_of_lines bytes,
    )
