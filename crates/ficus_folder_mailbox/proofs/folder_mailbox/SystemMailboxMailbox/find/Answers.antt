use Rattle.std.proofs.Common.{refl}
use Rattle.ficus_folder_mailbox.proofs.folder_mailbox.SystemMailboxMailbox.find.Goals as goal

pub returns-clause-finds : goal.returns-clause-finds
returns-clause-finds g c = record {
  told = λ none. absurd none;
  untold = λ none. absurd none;
  nameless = λ no. rw (c.try_find.ensures.nameless no) refl;
  within = c.try_find.ensures.within;
  kept = refl;
  failed = c.try_find.ensures.failed;
  memory = c.try_find.ensures.memory;
  steady = c.try_find.ensures.steady;
  risen = c.try_find.ensures.risen;
}
