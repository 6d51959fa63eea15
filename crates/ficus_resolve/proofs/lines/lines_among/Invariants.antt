use Rattle.std.proofs.Common.{◌↔◌, take, Contains, List, ℕ}
use Rattle.ficus_resolve.specs.Lines.{IsLineAmong}
use Rattle.ficus_resolve.specs.Texts.{texts_of}
use Rattle.ficus_resolve.proofs.lines.lines_among.Given as goal

-- the lines so far are those of the contents so far
abbrev pub invariant-loop-content : goal.invariant-loop-content
invariant-loop-content l =
    (line : List ℕ) → Contains (texts_of l.lines.items) line ↔ IsLineAmong (take l.content-index l.contents) line
