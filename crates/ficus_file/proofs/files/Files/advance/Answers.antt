use Rattle.ficus_file.specs.File.{MayAdvance, advanced}
use Rattle.ficus_file.proofs.Changed.{not_missing, found_fits, is_changed, advanced_there}
use Rattle.ficus_file.proofs.files.Files.advance.Goals as goal

pub unreachable-requires : goal.unreachable-requires
unreachable-requires c =
    not_missing c.self.inside.table.items c.args.id _ (MayAdvance c.args.by)
    (rw (← c.self.view_is) at c.requires.held) c.in_default.ensures.place

pub advanced-file-requires-clause-may : goal.advanced-file-requires-clause-may
advanced-file-requires-clause-may c =
    found_fits c.self.inside.table.items c.args.id c.in-Ok.index c.at.result.now c.in-Ok.ensures.found c.at.ensures
    (MayAdvance c.args.by) c.search.ensures.rising (rw (← c.self.view_is) at c.requires.held)

pub invariant_of-self : goal.invariant_of-self
invariant_of-self c =
    advanced_there c.self.inside.table.items c.args.id c.in-Ok.index c.at.result.now c.in-Ok.ensures.found c.at.ensures
    c.args.by c.args.bytes.items c.edit.new.self.items c.self.invariant (rw (← c.self.view_is) at c.requires.held)
    c.edit.ensures.rising (rw (← c.advanced-file.ensures.advanced) c.edit.ensures.edited.is)

pub returns-clause-changed : goal.returns-clause-changed
returns-clause-changed c =
    rw (← c.self.view_is)
    (is_changed c.self.inside.table.items c.args.id c.in-Ok.index c.at.result.now c.in-Ok.ensures.found c.at.ensures
    c.edit.new.self.items (advanced c.args.by c.args.bytes.items)
    (rw (← c.advanced-file.ensures.advanced) c.edit.ensures.edited.is))

pub returns-clause-files : goal.returns-clause-files
returns-clause-files c =
    advanced_there c.self.inside.table.items c.args.id c.in-Ok.index c.at.result.now c.in-Ok.ensures.found c.at.ensures
    c.args.by c.args.bytes.items c.edit.new.self.items c.self.invariant (rw (← c.self.view_is) at c.requires.held)
    c.edit.ensures.rising (rw (← c.advanced-file.ensures.advanced) c.edit.ensures.edited.is)
