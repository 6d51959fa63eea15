use Rattle.ficus_mailbox.proofs.Names.{one_name}
use Rattle.ficus_mailbox.proofs.message_name.one_message_name.Goals as goal

pub returns : goal.returns
returns c = one_name
