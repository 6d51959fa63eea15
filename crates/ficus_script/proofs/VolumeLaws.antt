-- Lines of a script over several volumes, and how they are cut.
use Rattle.std.proofs.Common.{◌≡◌, ◌≢◌, ◌⊎◌, ℕ, ◌<◌, ◌≤◌, ◌^◌, List, ◌∷◌, ◌++◌, drop, get_or, Option, MatchOption, Some, Err, sym, ◌∙◌, ap, inl, inr, arith}
use Rattle.std.specs.Fmt.{decimal}
use Rattle.ficus_ids.specs.Members.{IsMember}
use Rattle.ficus_script.specs.declared.command.Command.{Command}
use Rattle.ficus_script.specs.declared.line.LineFault.{LineFault}
use Rattle.ficus_script.specs.declared.line.LineFault.TheVariants.{NotCommand, Memory as OutOfMemory}
use Rattle.ficus_script.specs.declared.volume_line.VolumeLine.{VolumeLine}
use Rattle.ficus_script.specs.Command.{command_text}
use Rattle.ficus_script.specs.Line.{IsReadingBy}
use Rattle.ficus_script.specs.Script.{IsStepLine, SpellsStep}
use Rattle.ficus_script.specs.VolumeLine.{IsVolumeCut, IsVolumeLine, SpellsLine, at_volume}
use Rattle.ficus_script.proofs.CommandLaws.{command_text_injective, no_at}
use Rattle.ficus_script.proofs.Cuts.{cut_whole, one_first_word}
use Rattle.std.specs.Borrow.{Bor}
use Rattle.ficus_path.proofs.CutLaws.{IsFreeOf}
use Rattle.ficus_script.specs.Arguments.{bytes_of}
use Rattle.ficus_script.proofs.Numbers.{IsFreeOf-number, same_number}

module _ (volumes : ℕ) (few : volumes ≤ 255) where
  fits : (volume : ℕ) → IsMember volumes volume → volume < 2 ^ 32
  fits volume among = omega (arith, among.at_most, few)

  -- a number and what stands behind it are read off in one way
  pub one_number_cut : (v w : ℕ) (text other : List ℕ) → IsMember volumes v → IsMember volumes w →
      decimal v ++ 32 ∷ text ≡ decimal w ++ 32 ∷ other → (v ≡ w) × (text ≡ other)
  one_number_cut v w text other is also same =
      let parts = one_first_word (decimal v) (decimal w) (Some text) (Some other) (IsFreeOf-number v (fits v is))
      (IsFreeOf-number w (fits w also)) same in
      let behind : text ≡ other = let some = parts.1 in cc in
      (same_number v w (fits v is) (fits w also) parts.0, behind)

  -- what stands before the first space is the number, where one stands there
  pub volume_front : (bytes front : List ℕ) (rest : Option (Bor (List ℕ))) (volume : ℕ) (text : List ℕ) →
      IsMember volumes volume → IsFreeOf 32 front →
      MatchOption rest (bytes ≡ front) (λ behind. bytes ≡ front ++ 32 ∷ behind.now) →
      bytes ≡ decimal volume ++ 32 ∷ text → (front ≡ decimal volume) × (bytes_of rest ≡ Some text)
  volume_front bytes front rest volume text among free cut same =
      one_first_word front (decimal volume) (bytes_of rest) (Some text) free (IsFreeOf-number volume (fits volume among))
      (sym (cut_whole bytes front rest cut) ∙ same)

  -- a line is cut in one way
  pub one_volume_cut : (line : List ℕ) (v w : ℕ) (text other : List ℕ) → IsVolumeCut volumes line v text →
      IsVolumeCut volumes line w other → (v ≡ w) × (text ≡ other)
  one_volume_cut line v w text other is also = go is.cut also.cut
    where
      go : ((v ≡ 1) × (line ≡ text) × (get_or line 0 0 ≢ 64)) ⊎ (line ≡ at_volume v text) →
          ((w ≡ 1) × (line ≡ other) × (get_or line 0 0 ≢ 64)) ⊎ (line ≡ at_volume w other) → (v ≡ w) × (text ≡ other)
      go (inl a) (inl b) = (a.0 ∙ sym b.0, sym a.1 ∙ b.1)
      go (inl a) (inr b) = absurd (a.2 (ap (λ (l : List ℕ). get_or l 0 0) b))
      go (inr a) (inl b) = absurd (b.2 (ap (λ (l : List ℕ). get_or l 0 0) a))
      go (inr a) (inr b) = one_number_cut v w text other is.among also.among (ap (drop 1) (sym a ∙ b))

  -- a line that spells something is cut before its command
  pub line_cut : (line : VolumeLine) (bytes : List ℕ) → SpellsLine volumes line bytes →
      IsVolumeCut volumes bytes line.volume (command_text line.command)
  line_cut line bytes is = record { among = is.among; cut = go is.spelled }
    where
      go : ((line.volume ≡ 1) × (bytes ≡ command_text line.command)) ⊎ (bytes ≡ at_volume line.volume (command_text line.command)) →
          ((line.volume ≡ 1) × (bytes ≡ command_text line.command) × (get_or bytes 0 0 ≢ 64))
          ⊎ (bytes ≡ at_volume line.volume (command_text line.command))
      go (inl alone) = inl (alone.0, alone.1, λ at. no_at line.command is.command (ap (λ (l : List ℕ). get_or l 0 0) (sym alone.1) ∙ at))
      go (inr behind) = inr behind

  -- where what is cut off it is a step's text, it spells that
  pub cut_spells : (bytes text : List ℕ) (volume : ℕ) (command : Command) → IsVolumeCut volumes bytes volume text →
      SpellsStep command text → SpellsLine volumes (record { volume = volume; command = command }) bytes
  cut_spells bytes text volume command is spells =
      record { among = is.among; command = spells.0; step = spells.2; spelled = go is.cut }
    where
      go : ((volume ≡ 1) × (bytes ≡ text) × (get_or bytes 0 0 ≢ 64)) ⊎ (bytes ≡ at_volume volume text) →
          ((volume ≡ 1) × (bytes ≡ command_text command)) ⊎ (bytes ≡ at_volume volume (command_text command))
      go (inl alone) = inl (alone.0, alone.1 ∙ spells.1)
      go (inr behind) = inr (behind ∙ ap (at_volume volume) spells.1)

  module _ (bytes text : List ℕ) (volume : ℕ) (cut : IsVolumeCut volumes bytes volume text) where
    -- the line is one of a volume exactly where what is cut off it is a step's
    pub volume_line : IsStepLine text → IsVolumeLine volumes bytes
    volume_line is =
        (record { volume = volume; command = is.0 }, cut_spells bytes text volume is.0 cut (is.1, is.2, is.3))

    pub step_line : IsVolumeLine volumes bytes → IsStepLine text
    step_line is =
        let also = line_cut is.0 bytes is.1 in
        let same = one_volume_cut bytes volume is.0.volume text (command_text is.0.command) cut also in
        (is.0.command, is.1.command, same.1, is.1.step)

    -- where the text spells no step, or memory was refused for it, it is so of the line
    pub reading_err : (fault : LineFault) → IsReadingBy SpellsStep IsStepLine text (Err fault) →
        IsReadingBy (SpellsLine volumes) (IsVolumeLine volumes) bytes (Err fault)
    reading_err NotCommand none = λ is. none (step_line is)
    reading_err OutOfMemory is = volume_line is

  -- a line spells one thing
  pub one_line : (one other : VolumeLine) (bytes : List ℕ) → SpellsLine volumes one bytes →
      SpellsLine volumes other bytes → one ≡ other
  one_line one other bytes is also =
      let same = one_volume_cut bytes one.volume other.volume (command_text one.command) (command_text other.command)
      (line_cut one bytes is) (line_cut other bytes also) in
      let command = command_text_injective one.command other.command is.command also.command same.1 in
      let at = λ (v : ℕ). let made : VolumeLine = record { volume = v; command = one.command } in made in
      let with = λ (c : Command). let made : VolumeLine = record { volume = other.volume; command = c } in made in
      ap at same.0 ∙ ap with command
