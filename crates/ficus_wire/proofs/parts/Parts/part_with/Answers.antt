use Rattle.std.proofs.Common.{ℕ, List, [], sym, ap, ◌∙◌}
use Rattle.std.specs.Prelude.{Option}
use Rattle.std.specs.Option.{unwrap_or}
use Rattle.ficus_wire.specs.Parts.{part_at, with_part}
use Rattle.ficus_wire.proofs.Holding.{part_here, part_elsewhere}
use Rattle.ficus_wire.proofs.parts.Parts.part_with.Goals as goal

pub returns-then-at-index : goal.returns-then-at-index
returns-then-at-index c =
    sym (ap (λ (part : Option (List ℕ)). unwrap_or part [])
    (ap (part_at (with_part c.args.self.now c.args.index c.args.last.now)) c.if-at-index.true
    ∙ part_here c.args.self.now c.args.index c.args.last.now))

pub returns-else-at-index : goal.returns-else-at-index
returns-else-at-index c =
    c.part.ensures
    ∙ sym (ap (λ (part : Option (List ℕ)). unwrap_or part [])
    (part_elsewhere c.args.self.now c.args.index c.args.last.now c.args.at c.if-at-index.false))
