use Rattle.ficus_entry.specs.Entry.{PutsEntry}
use Rattle.ficus_entry.proofs.Noted.{noted_whole}
use Rattle.ficus_entry.proofs.entries.Entries.put_shared.Goals as goal

pub invariant_of-self : goal.invariant_of-self
invariant_of-self c = rw c.in_err-put.ensures.kept c.self.invariant

pub invariant_of-self-2 : goal.invariant_of-self-2
invariant_of-self-2 c =
    let new = c.put.new.self.items in
    let puts : PutsEntry c.args.self.now new c.args.entry = rw c.self.view_is at c.in_ok-put.ensures.put in
    rw c.in_ok-put.ensures.edited
    (noted_whole new c.in_ok-index.index (c.in_ok-index.ensures new c.put.ensures.rising (rw c.entry-2.ensures puts)))

pub returns-clause-put : goal.returns-clause-put
returns-clause-put c = rw c.self.view_is at c.in_ok-put.ensures.put
