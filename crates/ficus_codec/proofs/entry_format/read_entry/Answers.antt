use Rattle.std.specs.Prelude.{IsTrue, false}
use Rattle.ficus_formats.proofs.Reading.{passed, fails-meeting, fails-unmet}
use Rattle.ficus_codec.specs.Formats.{entry, entry_fields}
use Rattle.ficus_codec.specs.FormatsUnique.{entry_narrows, unique-entry_fields}
use Rattle.ficus_durable_state.specs.Tables.{FitsEntry}
use Rattle.ficus_codec.proofs.entry_format.read_entry.Goals as goal

pub returns-in_err-entry-clause-reads : goal.returns-in_err-entry-clause-reads
returns-in_err-entry-clause-reads c =
    let members = c.args.members in
    passed (entry members) _ _ _ _ c.from_residual.ensures.1
    (fails-meeting (FitsEntry members) (entry_fields members) (entry_narrows members) _ _ c.in_err-entry.ensures.reads)

pub returns-else-fits_entry-clause-reads : goal.returns-else-fits_entry-clause-reads
returns-else-fits_entry-clause-reads c =
    let members = c.args.members in
    fails-unmet (FitsEntry members) (entry_fields members) (entry_narrows members) c.in_ok-entry.entry _ _ _
    (unique-entry_fields members) c.in_ok-entry.ensures.reads
    (λ fits. let no : IsTrue false = c.if-fits_entry.ensures.1 fits in cc)
