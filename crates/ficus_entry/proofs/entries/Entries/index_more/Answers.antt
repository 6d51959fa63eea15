use Rattle.std.proofs.Common.{◌++◌, ◌∷◌, [], length, subst}
use Rattle.std.proofs.lemmas.List.Edits.{insert_end}
use Rattle.std.proofs.lemmas.Result.{IfOk-weaker}
use Rattle.std.specs.Prelude.{List}
use Rattle.ficus_index.specs.NoteLaws.{notes_with}
use Rattle.ficus_entry.specs.declared.entry.Entry.{Entry}
use Rattle.ficus_entry.specs.Kill.{is_live}
use Rattle.ficus_entry.specs.Place.{AreNoted, note_of}
use Rattle.ficus_entry.proofs.entries.Entries.index_more.Goals as goal

pub returns : goal.returns
returns c =
    let entries = c.args.self.now in
    let entry = c.args.entry.now in
    IfOk-weaker c.noting.result _ _
    (λ noted adds. subst (λ (l : List Entry). AreNoted l noted) (insert_end entries entry)
    (notes_with is_live note_of entries (length entries) entry c.in_ok-folded.folded noted c.in_ok-folded.ensures adds))
    c.noting.ensures
