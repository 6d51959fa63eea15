use Rattle.std.proofs.lemmas.Result.{IfOk-weaker}
use Rattle.ficus_index.specs.NoteLaws.{notes_anew}
use Rattle.ficus_entry.specs.Kill.{is_live}
use Rattle.ficus_entry.specs.Place.{note_of}
use Rattle.ficus_entry.proofs.entries.index_of.Goals as goal

pub returns : goal.returns
returns c =
    IfOk-weaker c.of.result _ _
    (λ index same. notes_anew is_live note_of c.args.table.now.items index
    (rw (c.in_ok-notes.ensures, c.in_ok-in_order.ensures) at same)) c.of.ensures
