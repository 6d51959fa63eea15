use Rattle.std.proofs.Common.{◌≡◌, take}
use Rattle.std.specs.List.{flat_map}
use Rattle.ficus_resolve.specs.Lines.{line_text}
use Rattle.ficus_resolve.specs.Texts.{texts_of}
use Rattle.ficus_resolve.proofs.lines.ended.Given as goal

-- the text so far has the lines so far
abbrev pub invariant-loop-line : goal.invariant-loop-line
invariant-loop-line l = l.text.items ≡ flat_map line_text (take l.line-index (texts_of l.lines))
