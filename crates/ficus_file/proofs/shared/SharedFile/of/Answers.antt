use Rattle.std.proofs.lemmas.Bool.{eqb-true}
use Rattle.ficus_file.proofs.Joined.{nothing_covered}
use Rattle.ficus_file.proofs.shared.SharedFile.of.Goals as goal

pub alone-requires : goal.alone-requires
alone-requires c = nothing_covered c.args.file
    (eqb-true _ 0 (rw (← c.items.ensures, ← c.is_empty.ensures) c.if-is_empty.true))
