use Rattle.ficus_ids.specs.RisingLaws.{none_at_place}
use Rattle.ficus_file.specs.Files.{id_of}
use Rattle.ficus_file.proofs.Changed.{covered_found, covered_files}
use Rattle.ficus_file.proofs.files.Files.cover.Goals as goal

pub unreachable-requires : goal.unreachable-requires
unreachable-requires c =
    none_at_place id_of c.self.inside.table.items c.args.id _ c.in_default.ensures.place
    (rw (← c.self.view_is) at c.requires.held)

pub invariant_of-self : goal.invariant_of-self
invariant_of-self c =
    covered_files c.self.inside.table.items c.cover_at.new.table.items c.args.id c.self.invariant
    c.cover_at.ensures.rising
    (covered_found c.self.inside.table.items c.cover_at.new.table.items c.args.id c.in-Ok.index c.in-Ok.ensures.found
    c.cover_at.ensures.covered)

pub returns-clause-changed : goal.returns-clause-changed
returns-clause-changed c =
    rw (← c.self.view_is)
    (covered_found c.self.inside.table.items c.cover_at.new.table.items c.args.id c.in-Ok.index c.in-Ok.ensures.found
    c.cover_at.ensures.covered)

pub returns-clause-files : goal.returns-clause-files
returns-clause-files c =
    covered_files c.self.inside.table.items c.cover_at.new.table.items c.args.id c.self.invariant
    c.cover_at.ensures.rising
    (covered_found c.self.inside.table.items c.cover_at.new.table.items c.args.id c.in-Ok.index c.in-Ok.ensures.found
    c.cover_at.ensures.covered)
