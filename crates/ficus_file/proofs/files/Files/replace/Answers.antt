use Rattle.std.proofs.Common.{ap}
use Rattle.std.proofs.lemmas.List.{map-id}
use Rattle.std.proofs.lemmas.Result.{on_ok_weaker, on_err_weaker}
use Rattle.std.specs.Prelude.{OnOk}
use Rattle.ficus_ids.specs.Rising.{ReplacesBy}
use Rattle.ficus_file.specs.Files.{id_of, AreFiles}
use Rattle.ficus_file.proofs.Changed.{replaced_files}
use Rattle.ficus_file.proofs.files.Files.replace.Goals as goal
use Rattle.ficus_file.proofs.files.Files.replace.Goals.{After-replace}

replaced : (c : After-replace) → OnOk c.replace.result
    (ReplacesBy id_of c.self.inside.table.items c.args.files.now c.replace.new.self.items)
replaced c = on_ok_weaker c.replace.result (λ is. rw map-id at is) c.replace.ensures.replaced

are_files : (c : After-replace) → AreFiles c.replace.new.self.items
are_files c =
    replaced_files c.self.inside.table.items c.args.files.now c.self.invariant c.requires c.replace.result
    c.replace.new.self.items c.replace.ensures.rising (replaced c)
    (on_err_weaker c.replace.result (λ same. ap (λ rows. rows.items) same) c.replace.ensures.kept)

pub invariant_of-self : goal.invariant_of-self
invariant_of-self c = are_files c

pub returns-clause-replaced : goal.returns-clause-replaced
returns-clause-replaced c = rw (← c.self.view_is) (replaced c)

pub returns-clause-files : goal.returns-clause-files
returns-clause-files c = are_files c
