-- Lines of a script over several volumes.
use Rattle.std.specs.Prelude.{◌≡◌, ◌≢◌, ◌⊎◌, slice_index, ℕ, List, ◌∷◌, ◌++◌}
use Rattle.std.specs.Fmt.{decimal}
use Rattle.ficus_ids.specs.Members.{IsMember}
use Rattle.ficus_script.specs.declared.volume_line.VolumeLine.{VolumeLine}
use Rattle.ficus_script.specs.Command.{IsCommand, IsStep, command_text}
use Rattle.ficus_script.specs.Script.{AreLines, IsFirstBad, MayStand}

-- a text behind `@` (64), the number of a volume and a space (32)
abbrev pub at_volume : ℕ → List ℕ → List ℕ
at_volume volume text = 64 ∷ decimal volume ++ 32 ∷ text

-- The line is a text of this volume: it is behind the number, or it is the whole line, which doesn't begin with `@`,
-- and the volume is the first.
pub record IsVolumeCut (volumes : ℕ) (line : List ℕ) (volume : ℕ) (text : List ℕ) : Type 0 where
  pub among : IsMember volumes volume
  pub cut : ((volume ≡ 1) × (line ≡ text) × (slice_index line 0 ≢ 64)) ⊎ (line ≡ at_volume volume text)

-- The command is one step of a world. It stands alone, where the volume is the first; or behind the number of any of so
-- many volumes.
pub record SpellsLine (volumes : ℕ) (line : VolumeLine) (bytes : List ℕ) : Type 0 where
  pub among : IsMember volumes line.volume
  pub command : IsCommand line.command
  pub step : IsStep line.command
  pub spelled : ((line.volume ≡ 1) × (bytes ≡ command_text line.command))
      ⊎ (bytes ≡ at_volume line.volume (command_text line.command))

abbrev pub IsVolumeLine : ℕ → List ℕ → Type 0
IsVolumeLine volumes bytes = (line : VolumeLine) × SpellsLine volumes line bytes

-- the script's lines are, but for those that are passed over, the spellings of these
abbrev pub IsVolumeScript : ℕ → List ℕ → List VolumeLine → Type 0
IsVolumeScript volumes bytes lines = AreLines (SpellsLine volumes) bytes lines

-- the line of this number is the first that may not stand in such a script
abbrev pub IsFirstBadVolumeLine : ℕ → List ℕ → ℕ → Type 0
IsFirstBadVolumeLine volumes bytes number = IsFirstBad (MayStand (IsVolumeLine volumes)) bytes number
