-- How what a run comes to is told.
use Rattle.std.specs.Prelude.{ℕ, List, [], ◌∷◌, ◌++◌, codes}
use Rattle.std.specs.Fmt.{decimal}
use Rattle.ficus_opening.specs.Check.Lines.{numbered_lines}
use Rattle.ficus_top.specs.declared.summary.counts.Counts.{Counts}
use Rattle.ficus_opening.specs.declared.check.holding.Holding.{Holding}

-- a word and a number, on a line of its own
abbrev pub count_line : List ℕ → ℕ → List ℕ
count_line word count = word ++ 32 ∷ decimal count ++ 10 ∷ []

-- what member `r` holds, on a line of its own
abbrev pub holding_line : ℕ → Holding → List ℕ
holding_line r holding =
    codes "replica " ++ decimal r ++ codes " live " ++ decimal holding.live ++ codes " dead " ++ decimal holding.dead
    ++ codes " objects " ++ decimal holding.objects ++ 10 ∷ []

-- the members' lines, from this number on
abbrev pub holding_lines : ℕ → List Holding → List ℕ
holding_lines r holdings = numbered_lines holding_line r holdings

-- each count on a line of its own, and then what each member holds
abbrev pub counts_text : Counts → List ℕ
counts_text counts =
    count_line (codes "lines") counts.lines ++ count_line (codes "ok") counts.ok ++ count_line (codes "no") counts.no
    ++ count_line (codes "events") counts.events

abbrev pub summary_text : Counts → List Holding → List ℕ
summary_text counts holdings = counts_text counts ++ holding_lines 1 holdings
