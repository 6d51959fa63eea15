use Rattle.ficus_ids.specs.Id.{id_cmp}
use Rattle.ficus_reach.proofs.Tracked.{tracked_none}
use Rattle.ficus_reach.proofs.found.Found.new.Goals as goal

pub returns-clause-tracked : goal.returns-clause-tracked
unfolding id_cmp
returns-clause-tracked c =
    tracked_none c.new-2.result c.new.result.items c.new-2.ensures.ordered c.new-2.ensures.empty c.new.ensures.items
