use Rattle.ficus_formats.specs.Format.{times}
use Rattle.ficus_formats.proofs.Reading.{passed}
use Rattle.ficus_formats.proofs.Runs.{run_fails}
use Rattle.ficus_formats.proofs.spelling.read_run.Goals as goal

pub returns-in_err-read : goal.returns-in_err-read
returns-in_err-read g c =
    passed (times c.args.count (g.S.Spelling.format c.args.spelling.now)) _ _ _ _ c.from_residual-in_err-read.ensures.1
    (run_fails _ c.args.count _ _ _ _ _ (g.S.Spelling.unique c.args.spelling.now) c.loop-test.true c.loop.invariant
    c.in_err-read.ensures)
