use Rattle.std.proofs.Common.{refl}
use Rattle.ficus_slot.proofs.Commits.{saves_same, settled_same}
use Rattle.ficus_journal.specs.Journal.{Fits}
use Rattle.ficus_journal.specs.Logs.{kept_in}
use Rattle.ficus_journal.proofs.Still.{rebuffered}
use Rattle.ficus_journal.proofs.journal.JournalKeep.commit.Goals as goal

pub commit_framed-requires-clause-settled : goal.commit_framed-requires-clause-settled
commit_framed-requires-clause-settled g c told =
    let k = c.args.self.now in
    settled_same g.D.Disk kept_in Fits (rebuffered k.on_a k (record k { buffer = c.replace-framed.new.dest })) (c.requires.settled told)

pub returns-clause-saves : goal.returns-clause-saves
returns-clause-saves g c = saves_same g.D.Disk kept_in Fits (λ a b fits. fits) c.frame.ensures.body refl c.commit_framed.ensures.saves
