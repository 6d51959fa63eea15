use Rattle.ficus_slot.proofs.Read.{one_slot, read_exactly}
use Rattle.ficus_slot.proofs.laws.one_slot.Goals as goal

pub returns : goal.returns
returns c = record { one = one_slot; read = read_exactly }
