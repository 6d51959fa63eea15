use Rattle.std.proofs.Common.{◌≡◌, sym, ◌∙◌, true, false}
use Rattle.ficus_journal.specs.Journal.{saves_image}
use Rattle.ficus_journal.proofs.journal.JournalKeep.commit_framed.Goals as goal

pub returns-then-saves_image-clause-saves : goal.returns-then-saves_image-clause-saves
returns-then-saves_image-clause-saves g c =
    let done = c.commit_image.ensures in
    let image : saves_image c.args.self.now ≡ true = sym c.saves_image.ensures ∙ c.if-saves_image.true in
    record {
      told = rw image done.told;
      spans = done.spans;
      other = done.other;
      counts = done.counts;
      by_fuse = rw image done.by_fuse;
    }

pub returns-else-saves_image-clause-saves : goal.returns-else-saves_image-clause-saves
returns-else-saves_image-clause-saves g c =
    let done = c.commit_record.ensures in
    let noted : saves_image c.args.self.now ≡ false = sym c.saves_image.ensures ∙ c.if-saves_image.false in
    record {
      told = rw noted done.told;
      spans = done.spans;
      other = done.other;
      counts = done.counts;
      by_fuse = rw noted done.by_fuse;
    }
