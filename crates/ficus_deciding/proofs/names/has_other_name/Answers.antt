use Rattle.std.proofs.lemmas.Result.{IfOk-weaker}
use Rattle.ficus_deciding.proofs.NamedEntries.{other_tables}
use Rattle.ficus_deciding.proofs.names.has_other_name.Goals as goal

pub returns : goal.returns
returns c =
    let same = other_tables c.args.saved.now c.args.dir c.args.name.now c.args.target in
    IfOk-weaker c.has_other_name.result _ _ (λ has tells. (λ is. same.0 (tells.0 is), λ so. tells.1 (same.1 so)))
    c.has_other_name.ensures
