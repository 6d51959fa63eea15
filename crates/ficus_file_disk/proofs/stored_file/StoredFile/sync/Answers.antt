use Rattle.std.proofs.Common.{rules, ◌≡◌, ◌++◌, is_some, string_bytes}
use Rattle.ficus_file_disk.specs.Told.{found}
use Rattle.ficus_file_disk.proofs.Refusals.{on_err, refused_after}
use Rattle.ficus_file_disk.proofs.stored_file.StoredFile.sync.Goals as goal

pub returns-in_err-sync-2-clause-refused : goal.returns-in_err-sync-2-clause-refused
returns-in_err-sync-2-clause-refused g c = λ tells.
    let is_found : g.S.System.told c.find.new.self.system
    ≡ g.S.System.told c.args.self.now.system
    ++ found (is_some c.args.self.now.file) (string_bytes c.args.self.now.path) =
    search rules in
    on_err c.from_residual-in_err-sync-2.result
    (refused_after _ _ _ _ is_found
    (refused_after _ _ _ _ (c.in_ok-sync.ensures.told tells) (c.in_err-sync-2.ensures.refused tells)))
