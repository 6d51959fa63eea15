use Rattle.ficus_deciding.proofs.WalkSteps.{last_at_end}
use Rattle.ficus_deciding.proofs.walk.last_part.Goals as goal

pub returns : goal.returns
returns c =
    let at = rw c.items-parts.ensures at c.index-parts-parts.is in
    last_at_end c.args.path.now.parts c.index-parts-parts.result c.requires at
