use Rattle.std.proofs.Common.{ap}
use Rattle.std.proofs.lemmas.Result.{on_err_weaker}
use Rattle.ficus_file.specs.Files.{AreFiles}
use Rattle.ficus_file.proofs.Changed.{put_files}
use Rattle.ficus_file.proofs.files.Files.put_row.Goals as goal
use Rattle.ficus_file.proofs.files.Files.put_row.Goals.{After-put}

are_files : (c : After-put) → AreFiles c.put.new.self.items
are_files c =
    put_files c.put.result c.self.inside.table c.put.new.self c.args.row c.self.invariant c.put.ensures.rising
    c.put.ensures.put c.put.ensures.kept c.requires

pub invariant_of-self : goal.invariant_of-self
invariant_of-self c = are_files c

pub returns-clause-puts : goal.returns-clause-puts
returns-clause-puts c = rw (← c.self.view_is) c.put.ensures.put

pub returns-clause-kept : goal.returns-clause-kept
returns-clause-kept c =
    rw (← c.self.view_is) (on_err_weaker c.put.result (λ same. ap (λ rows. rows.items) same) c.put.ensures.kept)

pub returns-clause-files : goal.returns-clause-files
returns-clause-files c = are_files c
