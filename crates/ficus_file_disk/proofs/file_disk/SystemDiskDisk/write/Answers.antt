use Rattle.std.proofs.Common.{refl, arith}
use Rattle.std.proofs.Math.Nat.{le-max_left}
use Rattle.ficus_file_disk.proofs.file_disk.SystemDiskDisk.write.Goals as goal

-- Anything may be left, and so also what was left before: a torn write may have written nothing.
pub returns-clause-crash : goal.returns-clause-crash
returns-clause-crash g c = λ left anything.
    (left, anything, record { before = refl; after = refl; no_shorter = omega (arith); no_longer = le-max_left _ _ })
