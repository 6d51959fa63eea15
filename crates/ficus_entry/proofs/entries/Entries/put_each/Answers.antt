use Rattle.std.proofs.Common.{◌≡◌, List, sym, subst}
use Rattle.std.proofs.lemmas.List.{take_all}
use Rattle.ficus_entry.specs.declared.entry.Entry.{Entry}
use Rattle.ficus_entry.specs.Entry.{ReplacesEntries}
use Rattle.ficus_table.proofs.Replaced.{replaced_none, replaced_next}
use Rattle.ficus_entry.proofs.entries.Entries.put_each.Goals as goal

pub loop-other-init : goal.loop-other-init
loop-other-init c = replaced_none (λ (e : Entry). e.id) c.args.self.now c.len-count.ensures.rising

pub loop-other-preserved : goal.loop-other-preserved
loop-other-preserved c =
    let other : Entry = c.other-item.result in
    let copied : c.in_ok-copied.field-0 ≡ other = c.in_ok-copied.ensures in
    replaced_next (λ (e : Entry). e.id) c.args.self.now c.args.others.now c.loop-other.other-index other
    c.loop-other.self c.put_shared.new.self c.requires c.loop-other-test.true (sym c.other-item.is) c.loop-other.invariant
    (rw copied at c.in_ok-put_shared.ensures.put) c.put_shared.ensures.rising

pub returns-clause-replaced : goal.returns-clause-replaced
returns-clause-replaced c =
    subst (λ (l : List Entry). ReplacesEntries c.args.self.now l c.loop-other.self)
    (take_all c.loop-other.other-index c.args.others.now c.loop-other-test.false) c.loop-other.invariant.so_far
