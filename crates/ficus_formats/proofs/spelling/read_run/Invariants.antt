use Rattle.ficus_formats.specs.Format.{Begins, times}
use Rattle.ficus_formats.proofs.spelling.read_run.Given as goal

abbrev pub invariant-loop : goal.invariant-loop
invariant-loop g l = Begins (times l.counter (g.S.Spelling.format l.spelling)) l.fn.reader l.values.items l.reader
