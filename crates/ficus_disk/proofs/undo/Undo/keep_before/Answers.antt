use Rattle.std.proofs.Common.{◌∙◌, ap, arith, List, ℕ}
use Rattle.ficus_disk.specs.Bytes.{patch}
use Rattle.ficus_disk.proofs.Undoing.{patch-before}
use Rattle.ficus_disk.proofs.undo.Undo.keep_before.Goals as goal

pub returns-then-at-from-clause-same : goal.returns-then-at-from-clause-same
returns-then-at-from-clause-same c =
    let was = c.args.self.now in
    ap (λ (l : List ℕ). patch c.args.bytes.now c.args.at l) c.put_before.ensures.items
    ∙ patch-before c.args.bytes.now was.kept.items c.args.at was.from (omega arith)
    (omega (arith, was.within, c.requires.counted))
