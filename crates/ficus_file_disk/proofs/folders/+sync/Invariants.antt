use Rattle.ficus_file_disk.proofs.folders.+sync.Given as goal

abbrev pub decreases-sync : goal.decreases-sync
decreases-sync g l = l.count
