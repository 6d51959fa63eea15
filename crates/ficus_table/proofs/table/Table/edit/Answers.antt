use Rattle.std.proofs.Common.{◌<◌, vec_capacity, length, sym, subst, ◌∙◌}
use Rattle.ficus_table.specs.Edits.{overlaid, put_in, IsSound}
use Rattle.ficus_table.specs.Table.{KeepsId}
use Rattle.ficus_table.proofs.Shown.{length_shown}
use Rattle.ficus_table.proofs.Sound.{room_for_edit, sound_put, is_edited, rising_shown}
use Rattle.ficus_table.proofs.table.Table.edit.Goals as goal
use Rattle.ficus_table.proofs.table.Table.edit.Goals.{After-put}

pub put-requires : goal.put-requires
put-requires g c =
    let edits = c.self.inside.edits in
    let rows = c.self.inside.list in
    let there : c.args.index < length (overlaid g.R.Row.formed g.R.Row.seen edits.items rows) =
    subst (λ v. c.args.index < length v.items) (sym c.self.view_is) c.requires.within in
    let within : c.args.index < length rows = rw (← length_shown g.R.Row.formed g.R.Row.seen 0 edits.items rows) there in
    record {
      room = λ none. rw edits.ok.0
          (room_for_edit g.R.Row.id_of g.R.Row.seen g.R.Row.formed edits.items rows (vec_capacity edits)
          (record { index = c.args.index; form = c.args.form }) c.self.invariant within none);
    }

sound : (g : _) (c : After-put g) → IsSound g.R.Row.id_of g.R.Row.seen g.R.Row.formed
    (put_in c.self.inside.edits.items (record { index = c.args.index; form = c.args.form })) c.self.inside.list
    (vec_capacity c.self.inside.edits)
sound g c =
    sound_put g.R.Row.id_of g.R.Row.seen g.R.Row.formed c.self.inside.edits.items
    (record { index = c.args.index; form = c.args.form }) c.self.inside.list (vec_capacity c.self.inside.edits)
    c.self.invariant (subst (λ v. c.args.index < length v.items) (sym c.self.view_is) c.requires.within)
    (subst (λ v. KeepsId g.R.Row.id_of g.R.Row.seen g.R.Row.formed v.items c.args.index c.args.form)
    (sym c.self.view_is) c.requires.keeps)

pub invariant_of-self : goal.invariant_of-self
invariant_of-self g c = rw (c.put.ensures.put, c.put.ensures.capacity) (sound g c)

pub returns-clause-edited : goal.returns-clause-edited
returns-clause-edited g c =
    rw (← c.self.view_is)
    (is_edited g.R.Row.id_of g.R.Row.seen g.R.Row.formed c.self.inside.edits.items c.put.new.edits.items
    (record { index = c.args.index; form = c.args.form }) c.put.result c.self.inside.list
    (subst (λ v. c.args.index < length v.items) (sym c.self.view_is) c.requires.within)
    c.put.ensures.put c.put.ensures.earlier)

pub returns-clause-ids : goal.returns-clause-ids
returns-clause-ids g c = rw (c.put.ensures.put, ← c.self.view_is) ((sound g c).same ∙ sym c.self.invariant.same)

pub returns-clause-rising : goal.returns-clause-rising
returns-clause-rising g c =
    rw c.put.ensures.put (rising_shown g.R.Row.id_of g.R.Row.seen g.R.Row.formed _ c.self.inside.list _ (sound g c))
