use Rattle.ficus_file.proofs.Changed.{same_id_at, covered_already, covered_another}
use Rattle.ficus_file.proofs.files.cover_at.Goals as goal

pub cover_again-requires-clause-same_id : goal.cover_again-requires-clause-same_id
cover_again-requires-clause-same_id c = λ was at.
    same_id_at c.edit.new.self.items c.args.table.now.items c.args.index was c.in-Some-Another.file c.edit.ensures.ids
    at (rw c.in-Some-Another.field-0-is at c.in-Some-Another.ensures.edited.was)

pub returns-in-Some-Covered-clause-covered : goal.returns-in-Some-Covered-clause-covered
returns-in-Some-Covered-clause-covered c = λ file at.
    let edited = c.in-Some-Covered.ensures.edited in
    covered_already c.args.table.now.items c.edit.new.self.items c.args.index file at edited.row
    (rw c.in-Some-Covered.field-0-is at edited.was) edited.is

pub returns-in-Some-Another-clause-covered : goal.returns-in-Some-Another-clause-covered
returns-in-Some-Another-clause-covered c = λ file at.
    let edited = c.in-Some-Another.ensures.edited in
    covered_another c.args.table.now.items c.cover_again.new.table.items c.args.index file at c.edit.new.self.items
    c.in-Some-Another.file _ (rw c.in-Some-Another.field-0-is at edited.was) edited.is c.cover_again.ensures.covered
