use Rattle.std.proofs.Common.{◌≡◌, ap, ◌∙◌, sym, refl}
use Rattle.ficus_ids.specs.RisingLaws.{set_puts}
use Rattle.ficus_entry.specs.declared.entry.Entry.{Entry}
use Rattle.ficus_entry.specs.declared.entry.State.{State}
use Rattle.ficus_entry.specs.declared.entry.State.TheVariants.{Dead, Live}
use Rattle.ficus_entry.specs.Place.{alive}
use Rattle.ficus_entry.proofs.Found.{not_missing, contains_at, found_is_live}
use Rattle.ficus_entry.proofs.Noted.{noted_edited}
use Rattle.ficus_entry.proofs.entries.Entries.kill.Goals as goal
use Rattle.ficus_entry.proofs.entries.Entries.kill.Goals.{After-edit}

pub unreachable-requires : goal.unreachable-requires
unreachable-requires c = not_missing c.args.self.now c.args.id _ c.requires.live (rw c.self.view_is at c.in_default.ensures.place)

made : After-edit → Entry
made c = record c.in-Ok-copy.entry { state = Dead c.with.result c.empty-2.result }

same : (c : After-edit) → c.in-Ok-copy.entry ≡ c.at.result.now
same c = cc

-- the entry that was found is the live one with the identifier
was : (c : After-edit) → (c.at.result.now.id ≡ c.args.id) × (c.at.result.now.state ≡ Live)
was c =
    found_is_live c.self.inside.table.items c.args.id c.in-Ok.index c.at.result.now c.search.ensures.rising
    (rw (← c.self.view_is) at c.requires.live) c.in-Ok.ensures.found c.at.ensures

pub invariant_of-self : goal.invariant_of-self
unfolding made
invariant_of-self c =
    let e = (goal.at.invariant_of-self c).After-edit in
    let alive_is : c.at.result.now ≡ alive (made e) =
    ap (λ (s : State). record c.at.result.now { state = s }) (was e).1
    ∙ ap (λ (entry : Entry). record entry { state = Live }) (sym (same e)) in
    rw c.edit.ensures.edited.is
    (noted_edited c.self.inside.table.items c.self.inside.table.edited c.self.inside.index c.self.invariant
    c.edit.new.self.edited c.in-Ok.index c.at.result.now (made e) c.at.ensures (was e).1 refl alive_is
    c.edit.ensures.edited.edited)

pub returns-clause-killed : goal.returns-clause-killed
unfolding made
returns-clause-killed c =
    let e = (goal.at.returns-clause-killed c).After-edit in
    let view = c.self.inside.table.items in
    let i = c.in-Ok.index in
    let id : (made e).id ≡ c.args.id = ap (λ (entry : Entry). entry.id) (same e) ∙ (was e).0 in
    rw (← c.self.view_is, c.edit.ensures.edited.is) (record {
      entry = c.in-Ok-copy.entry;
      one = c.with.result;
      two = c.empty-2.result;
      inside = rw (same e) (contains_at view i c.at.result.now c.at.ensures);
      has_id = id;
      only = λ replica. c.with.ensures replica ∙ rw (c.empty.ensures replica) refl;
      none = c.empty-2.ensures;
      puts = set_puts (λ (entry : Entry). entry.id) view (made e) i c.search.ensures.rising
          (rw id c.in-Ok.ensures.found);
    })
