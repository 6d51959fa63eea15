use Rattle.std.proofs.Common.{rules}
use Rattle.ficus_durable_state.specs.Laws.{AreCountable}
use Rattle.ficus_durable_state.specs.Saved.{FitsImage}
use Rattle.ficus_durable_state.specs.declared.saved.Saved.{Saved}
use Rattle.ficus_durable_state.proofs.Countable.{tables_countable}
use Rattle.ficus_replica.proofs.Collects.{collect_gives_stands}
use Rattle.ficus_replica.proofs.Leaving.{collect_fits, collect_leaves, collect_noted}
use Rattle.ficus_replica.proofs.replica.Replica.collect.Goals as goal

countable : {saved : Saved} → FitsImage saved → AreCountable saved.entries saved.files
countable {saved} fits = tables_countable saved.members saved.entries saved.files fits.members fits.tables

pub reclaim-requires-clause-entries : goal.reclaim-requires-clause-entries
reclaim-requires-clause-entries c = (countable c.requires.fits).few_entries

pub reclaim-requires-clause-files : goal.reclaim-requires-clause-files
reclaim-requires-clause-files c = (countable c.requires.fits).few_files

pub returns-clause-gives : goal.returns-clause-gives
returns-clause-gives c = search rules

pub returns-clause-fits : goal.returns-clause-fits
returns-clause-fits c =
    collect_fits c.args.self.now _ c.requires.fits c.requires.generation (returns-clause-gives c)

pub returns-clause-noted : goal.returns-clause-noted
returns-clause-noted c =
    collect_noted c.args.self.now _ c.requires.fits c.requires.generation (returns-clause-gives c)

pub returns-clause-no_garbage : goal.returns-clause-no_garbage
returns-clause-no_garbage c = collect_leaves c.args.self.now _ (returns-clause-gives c)

pub returns-clause-stands : goal.returns-clause-stands
returns-clause-stands c = collect_gives_stands c.args.self.now _ (returns-clause-gives c)
