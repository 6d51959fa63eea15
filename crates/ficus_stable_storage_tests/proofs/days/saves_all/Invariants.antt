use Rattle.ficus_durable_state.specs.Saved.{FitsImage}
use Rattle.ficus_stable_storage.specs.Stable.{IsReady}
use Rattle.ficus_stable_storage_tests.proofs.days.saves_all.Given as goal

abbrev pub invariant-loop-body : goal.invariant-loop-body
invariant-loop-body g l =
    FitsImage l.now.saved
    × (g.D.Disk.tells → IsReady g.K.Keep.kept g.K.Keep.fits g.D.Disk.seen g.D.Disk.may_leave l.stable l.disks l.now.saved)
