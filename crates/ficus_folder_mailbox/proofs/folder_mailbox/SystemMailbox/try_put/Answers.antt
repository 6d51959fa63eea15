use Rattle.std.proofs.Common.{rules, ◌≡◌, ◌++◌}
use Rattle.std.proofs.lemmas.Result.{on_err_weaker}
use Rattle.ficus_file_disk.proofs.Refusals.{refused_after}
use Rattle.ficus_folder_mailbox.specs.Mail.{makes}
use Rattle.ficus_folder_mailbox.proofs.folder_mailbox.SystemMailbox.try_put.Goals as goal

pub returns-clause-refused : goal.returns-clause-refused
returns-clause-refused g c = λ tells.
    let made : g.S.System.told c.self.inside.system
    ≡ c.args.self.now.told ++ makes c.args.self.now.is_made c.args.self.now.folder = search rules in
    on_err_weaker c.write_whole.result (refused_after _ _ _ _ made) (c.write_whole.ensures.refused tells)
