use Rattle.std.proofs.Common.{rules, []}
use Rattle.ficus_file_disk.proofs.Refusals.{refused_after}
use Rattle.ficus_folder_mailbox.proofs.incoming.look_up.Goals as goal

pub returns-in-Ok-clause-refused : goal.returns-in-Ok-clause-refused
returns-in-Ok-clause-refused g c = λ tells failed.
    refused_after _ _ _ _ (c.in-Ok.ensures.opened tells) (c.read_whole.ensures.refused tells failed)

pub returns-in-Err-2-clause-refused : goal.returns-in-Err-2-clause-refused
returns-in-Err-2-clause-refused g c = λ tells failed. ([], c.in-Err-2.ensures.refused tells (search rules))
