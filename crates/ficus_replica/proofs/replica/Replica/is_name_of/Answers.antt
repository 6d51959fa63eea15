use Rattle.ficus_replica.proofs.Fitting.{name_told}
use Rattle.ficus_replica.proofs.replica.Replica.is_name_of.Goals as goal

pub returns-in-Some : goal.returns-in-Some
returns-in-Some c =
    let told = name_told c.args.self.now.saved c.args.target c.args.id c.in-Some.entry.now c.get.ensures.rising
    c.in-Some.ensures.found in
    (λ is. told.1 (c.leads_to.ensures.0 is), λ name. c.leads_to.ensures.1 (told.0 name))
