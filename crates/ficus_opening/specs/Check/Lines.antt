-- How what the disks of replicas are judged to be is told.
use Rattle.std.specs.Prelude.{ℕ, ◌+◌, List, [], ◌∷◌, ◌++◌, codes}
use Rattle.std.specs.Fmt.{decimal}
use Rattle.ficus_opening.specs.declared.check.checked.Checked.{Checked}
use Rattle.ficus_opening.specs.declared.check.checked.Checked.TheVariants.{Empty, Damaged, Sound}

-- a line for each, numbered from this on
abbrev pub numbered_lines : {A : Type 0} → (ℕ → A → List ℕ) → ℕ → List A → List ℕ
numbered_lines line r [] = []
numbered_lines line r (one ∷ others) = line r one ++ numbered_lines line (r + 1) others

-- whose it is, of how many members, and of which generation
abbrev pub sound_head : ℕ → ℕ → ℕ → List ℕ
sound_head r members generation =
    codes "replica " ++ decimal r ++ codes " members " ++ decimal members ++ codes " generation " ++ decimal generation

-- and how much it holds
abbrev pub sound_tail : ℕ → ℕ → ℕ → List ℕ
sound_tail live dead objects =
    codes " live " ++ decimal live ++ codes " dead " ++ decimal dead ++ codes " objects " ++ decimal objects ++ 10 ∷ []

-- what the disks of replica `r` are judged to be, on a line of its own
abbrev pub checked_line : ℕ → Checked → List ℕ
checked_line r Empty = codes "replica " ++ decimal r ++ codes " empty\n"
checked_line r Damaged = codes "replica " ++ decimal r ++ codes " damaged\n"
checked_line r (Sound members generation live dead objects) =
    sound_head r members generation ++ sound_tail live dead objects

-- a line of each replica, from 1 on
abbrev pub checked_text : List Checked → List ℕ
checked_text judgements = numbered_lines checked_line 1 judgements
