use Rattle.ficus_top.proofs.ModeLaws.{pending_lawful}
use Rattle.ficus_top.proofs.mode_laws.what_is_pending_may_come.Goals as goal

pub returns : goal.returns
returns g c = λ volume earlier script old new disks after answers r event is. (
  answers.ends.leaves.pending.own r event is,
  pending_lawful volume answers.ends.after answers.sound.lawful answers.ends.leaves.pending r event is,
)
