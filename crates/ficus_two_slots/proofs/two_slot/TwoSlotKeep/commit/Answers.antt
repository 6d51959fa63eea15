use Rattle.std.proofs.Common.{refl}
use Rattle.ficus_slot.proofs.Commits.{saves_same, settled_same}
use Rattle.ficus_two_slots.specs.Slots.{kept_in}
use Rattle.ficus_two_slots.specs.TwoSlot.{Fits}
use Rattle.ficus_two_slots.proofs.two_slot.TwoSlotKeep.commit.Goals as goal

pub commit_framed-committed-requires-clause-settled : goal.commit_framed-committed-requires-clause-settled
commit_framed-committed-requires-clause-settled g c told =
    settled_same g.D.Disk kept_in Fits (λ a b fits. fits) (c.requires.settled told)

pub returns-clause-saves : goal.returns-clause-saves
returns-clause-saves g c =
    saves_same g.D.Disk kept_in Fits (λ a b fits. fits) c.frame.ensures.body refl c.commit_framed-committed.ensures.saves
