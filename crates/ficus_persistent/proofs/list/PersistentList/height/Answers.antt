use Rattle.ficus_persistent.proofs.Heights.{low_square}
use Rattle.std.proofs.Common.{length}
use Rattle.ficus_persistent.proofs.list.PersistentList.height.Goals as goal

pub returns : goal.returns
returns g c =
    rw (c.height.ensures.is, ← c.self.view_is)
    (low_square (length c.self.inside.tree.items) c.self.inside.tree.height c.height.ensures.low)
