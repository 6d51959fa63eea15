use Rattle.ficus_names.specs.ClashLaws.{AreNameClashes-along}
use Rattle.ficus_deciding.proofs.Tables.{tables_bound}
use Rattle.ficus_deciding.proofs.clashing.conflicts.Goals as goal

pub returns : goal.returns
returns c = record {
  names = rw c.of.ensures (AreNameClashes-along (tables_bound c.args.saved.now) c.in_ok-names.ensures);
  files = rw c.of-2.ensures c.in_ok-files.ensures.files;
  rising = rw c.of-2.ensures c.in_ok-files.ensures.rising;
}
