use Rattle.ficus_file.proofs.Changed.{left_files}
use Rattle.ficus_file.proofs.files.Files.without.Goals as goal

pub invariant_of-result : goal.invariant_of-result
invariant_of-result c =
    left_files c.self.inside.table.items c.in_ok-table.table.items c.args.ids.now c.self.invariant
    c.in_ok-table.ensures.rising c.in_ok-table.ensures.left

pub returns-clause-left : goal.returns-clause-left
returns-clause-left c = rw (← c.self.view_is) c.in_ok-table.ensures.left

pub returns-clause-files : goal.returns-clause-files
returns-clause-files c =
    left_files c.self.inside.table.items c.in_ok-table.table.items c.args.ids.now c.self.invariant
    c.in_ok-table.ensures.rising c.in_ok-table.ensures.left
