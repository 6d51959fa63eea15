use Rattle.std.proofs.Common.{rules, ◌≡◌, ◌++◌, ◌∷◌, [], is_some, string_bytes}
use Rattle.std.proofs.lemmas.Result.{on_err_weaker}
use Rattle.ficus_file_disk.specs.Told.{NotThere, found, made}
use Rattle.ficus_file_disk.proofs.Refusals.{on_err, refused_after}
use Rattle.ficus_file_disk.proofs.stored_file.StoredFile.write.Goals.{in-Some, in-None+in_ok-file-in-None}
use Rattle.ficus_file_disk.proofs.stored_file.StoredFile.write.Goals as goal

pub returns-in_err-file-in-None-clause-refused : goal.returns-in_err-file-in-None-clause-refused
returns-in_err-file-in-None-clause-refused g c = λ tells.
    let is_missing : g.S.System.told c.find.new.self.system
    ≡ g.S.System.told c.args.self.now.system ++ NotThere (string_bytes c.args.self.now.path) ∷ [] =
    search rules in
    on_err c.from_residual-in_err-file-in-None.result
    (refused_after _ _ _ _ is_missing (search rules))

pub returns-clause-refused : goal.returns-clause-refused
returns-clause-refused g c = λ tells.
    on_err_weaker c.write_from-written.result
    (λ refused. elim c.match-take.branch [
      | in-Some w ↦
          let is_found : g.S.System.told c.match-take.self.system
          ≡ g.S.System.told c.args.self.now.system
          ++ found (is_some c.args.self.now.file) (string_bytes c.args.self.now.path) =
          search rules in
          refused_after _ _ _ _ is_found refused
      | in-None+in_ok-file-in-None w ↦
          let (missing, fits, is_made) = w.in_ok-file-in-None.ensures.told tells in
          let is_missing : g.S.System.told c.find.new.self.system
          ≡ g.S.System.told c.args.self.now.system ++ NotThere (string_bytes c.args.self.now.path) ∷ [] =
          search rules in
          let same : g.S.System.told c.match-take.self.system
          ≡ g.S.System.told c.find.new.self.system ++ made missing (string_bytes c.args.self.now.path) =
          search rules in
          refused_after _ _ _ _ is_missing (refused_after _ _ _ _ same refused)
    ])
    (c.write_from-written.ensures.refused tells)
