use Rattle.std.proofs.Common.{length}
use Rattle.ficus_file_disk.proofs.folders.+count_missing.Given as goal

abbrev pub decreases-count_missing : goal.decreases-count_missing
decreases-count_missing g l = length l.path.now
