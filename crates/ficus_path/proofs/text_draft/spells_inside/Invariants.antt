use Rattle.std.proofs.Common.{◌≡◌, List, ℕ, ◌++◌, length}
use Rattle.std.specs.List.{flat_map}
use Rattle.ficus_path.specs.Text.{quoted_byte_text}
use Rattle.ficus_path.proofs.text_draft.spells_inside.Given as goal

-- what stands inside is the spelling of some bytes, and the rest
abbrev pub invariant-loop-rest : goal.invariant-loop-rest
invariant-loop-rest l = (front : List ℕ) × (l.inside ≡ flat_map quoted_byte_text front ++ l.rest)

abbrev pub decreases-loop-rest : goal.decreases-loop-rest
decreases-loop-rest l = length l.rest
