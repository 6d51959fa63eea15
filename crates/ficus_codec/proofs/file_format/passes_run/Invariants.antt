use Rattle.std.proofs.Common.{take}
use Rattle.ficus_formats.specs.Format.{Begins, times}
use Rattle.ficus_codec.specs.Formats.{version}
use Rattle.ficus_codec.proofs.file_format.passes_run.Given as goal

abbrev pub invariant-loop-value : goal.invariant-loop-value
invariant-loop-value l =
    Begins (times l.value-index (version l.fn.members)) l.fn.reader (take l.value-index l.values) l.reader
