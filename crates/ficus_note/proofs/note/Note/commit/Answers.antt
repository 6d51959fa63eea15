use Rattle.std.proofs.Common.{refl, rules}
use Rattle.ficus_note.proofs.Saving.{saves}
use Rattle.ficus_note.proofs.note.Note.commit.Goals as goal

pub returns : goal.returns
returns g c =
    saves g.D.Disk c.args.noted c.args.self.now _ c.spelled.result _ _ c.args.disks.now c.commit.new.disks c.commit.result c.spelled.ensures
    refl (λ told. (c.requires.ready told).holds) c.commit.ensures.saves (search rules)
