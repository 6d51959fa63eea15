use Rattle.ficus_replica.proofs.AlikeViews.{alike_views}
use Rattle.ficus_replica.proofs.laws.alike_stands.Goals as goal

pub returns : goal.returns
returns c = λ volume H r s one other lawful stands stands_too.
    alike_views volume H r s one.saved other.saved lawful stands.saved stands_too.saved
