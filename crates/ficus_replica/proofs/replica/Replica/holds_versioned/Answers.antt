use Rattle.ficus_replica.proofs.Fitting.{file_told}
use Rattle.ficus_replica.proofs.replica.Replica.holds_versioned.Goals as goal

pub returns-in-Some : goal.returns-in-Some
returns-in-Some c =
    let told = file_told c.args.self.now.saved.files c.args.id c.in-Some.file.now c.get.ensures.files
    c.in-Some.ensures.found in
    (λ is. told.1 (c.is_versioned.ensures.0 is), λ held. c.is_versioned.ensures.1 (told.0 held))
