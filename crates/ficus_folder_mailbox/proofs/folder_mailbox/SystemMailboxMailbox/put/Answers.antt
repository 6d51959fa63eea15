use Rattle.std.proofs.Common.{refl}
use Rattle.ficus_folder_mailbox.proofs.folder_mailbox.SystemMailboxMailbox.put.Goals as goal

pub returns-clause-puts : goal.returns-clause-puts
returns-clause-puts g c = record {
  told = λ none. absurd none;
  either = λ none. absurd none;
  kept = refl;
  failed = c.counted_put.ensures.failed;
  steady = c.counted_put.ensures.steady;
  risen = c.counted_put.ensures.risen;
}
