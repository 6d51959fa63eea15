use Rattle.std.proofs.Common.{◌∙◌, ◌+◌, ◌-◌, ap, arith, List, ℕ}
use Rattle.ficus_disk.specs.Bytes.{patch}
use Rattle.ficus_disk.proofs.Undoing.{patch-behind}
use Rattle.ficus_disk.proofs.undo.Undo.keep_behind.Goals as goal

pub returns-then-end-upto-clause-same : goal.returns-then-end-upto-clause-same
returns-then-end-upto-clause-same c =
    let was = c.args.self.now in
    let end = was.from + c.len.result in
    ap (λ (l : List ℕ). patch c.args.bytes.now was.from l) c.put_behind.ensures.items
    ∙ patch-behind c.args.bytes.now was.kept.items was.from end (c.args.upto - end) (omega arith)
    (omega (arith, was.within, c.requires.counted))
