use Rattle.std.proofs.Common.{rules, []}
use Rattle.ficus_file_disk.proofs.stored_file.open_if_there.Goals as goal

pub returns-in-Err-2-clause-refused : goal.returns-in-Err-2-clause-refused
returns-in-Err-2-clause-refused g c = λ tells. ([], c.in-Err-2.ensures.refused tells (search rules))
