use Rattle.ficus_codec.proofs.TableFormats.{tables_once}
use Rattle.ficus_codec.proofs.tables.one_tables.Goals as goal

pub returns : goal.returns
returns c = λ members entries others files other_files a b few fits also same.
    tables_once members few entries others files other_files a b fits also same
