use Rattle.ficus_formats.specs.Format.{times, rising}
use Rattle.ficus_formats.specs.Unique.{unique-times, unique-rising}
use Rattle.ficus_formats.proofs.Once.{read_once}
use Rattle.ficus_formats.proofs.laws.one_reading.Goals as goal

pub returns : goal.returns
returns g c = record {
  value = λ spelling. read_once (g.S.Spelling.format spelling) (g.S.Spelling.unique spelling);
  run = λ spelling count. read_once (times count (g.S.Spelling.format spelling))
      (unique-times count (g.S.Spelling.format spelling) (g.S.Spelling.unique spelling));
  rising = λ spelling. read_once (rising g.S.RowSpelling.id_of (g.S.Spelling.format spelling))
      (unique-rising g.S.RowSpelling.id_of (g.S.Spelling.format spelling) (g.S.Spelling.unique spelling));
}
