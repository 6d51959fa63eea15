use Rattle.std.proofs.Common.{rules, ◌≡◌, ◌++◌, inl, is_some, string_bytes}
use Rattle.std.proofs.lemmas.Result.{on_err_weaker}
use Rattle.ficus_file_disk.specs.Told.{found}
use Rattle.ficus_file_disk.proofs.Refusals.{refused_after}
use Rattle.ficus_file_disk.proofs.stored_file.StoredFile.read.Goals as goal

pub returns-in-Some-clause-refused : goal.returns-in-Some-clause-refused
returns-in-Some-clause-refused g c = λ tells.
    let is_found : g.S.System.told c.find.new.self.system
    ≡ g.S.System.told c.args.self.now.system
    ++ found (is_some c.args.self.now.file) (string_bytes c.args.self.now.path) =
    search rules in
    on_err_weaker c.read_from.result (λ refused. inl (refused_after _ _ _ _ is_found refused))
    (c.read_from.ensures.refused tells)
