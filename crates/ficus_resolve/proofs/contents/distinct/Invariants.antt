use Rattle.std.proofs.Common.{◌≡◌, take}
use Rattle.ficus_resolve.specs.Texts.{texts_of}
use Rattle.ficus_resolve.proofs.contents.distinct.Given as goal

-- the texts so far are the contents so far
abbrev pub invariant-loop-content : goal.invariant-loop-content
invariant-loop-content l = texts_of l.texts.items ≡ take l.content-index l.contents
