use Rattle.std.specs.Prelude.{Contains}
use Rattle.ficus_entry.specs.declared.entry.Entry.{Entry}
use Rattle.ficus_index.specs.Place.{IsNotedWithin}
use Rattle.ficus_entry.proofs.inside.first_of.Given as goal

abbrev pub invariant-loop-position : goal.invariant-loop-position
invariant-loop-position g l = (entry : Entry) → Contains l.entries entry → g.T.Test.Passes l.test entry →
    IsNotedWithin l.index l.fn.span.start l.position entry.id → ⊥
