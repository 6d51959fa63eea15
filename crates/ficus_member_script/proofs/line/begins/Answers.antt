use Rattle.std.proofs.Common.{drop, length}
use Rattle.std.proofs.lemmas.Bool.Decides.{Decides-eqb}
use Rattle.std.proofs.lemmas.Slice.Eq.{starts_is}
use Rattle.ficus_member_script.proofs.line.begins.Goals as goal

pub returns : goal.returns
returns c =
    let is = starts_is Decides-eqb c.args.line.now c.args.bytes.now c.starts_with.result c.starts_with.ensures.value in
    (λ yes. (drop (length c.args.bytes.now) c.args.line.now, is.0 yes), λ begins. is.1 begins.0 begins.1)
