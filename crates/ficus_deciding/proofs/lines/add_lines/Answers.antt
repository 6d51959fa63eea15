use Rattle.std.proofs.Common.{◌≡◌, ◌∷◌, ◌++◌, [], rules}
use Rattle.std.specs.Vec.Iter.{into_iter_items}
use Rattle.ficus_deciding.proofs.Adding.{added_none, added_more}
use Rattle.ficus_deciding.proofs.lines.add_lines.Goals as goal

pub loop-shown-init : goal.loop-shown-init
loop-shown-init c =
    let all : into_iter_items c.into_iter-shown-iterator.result ≡ c.args.names.items = search rules in
    rw all (added_none c.args.saved.now c.args.dir c.args.names.items c.args.lines.now.items c.requires.visible)

pub loop-shown-preserved : goal.loop-shown-preserved
loop-shown-preserved c =
    let first : into_iter_items c.loop-shown.shown-iterator ≡ c.in-Some.shown ∷ into_iter_items c.next.new.self =
    c.in-Some.ensures.steps.0 in
    let pushed : c.push.new.self.items ≡ c.loop-shown.lines.items ++ c.line_of.result ∷ [] = search rules in
    let added = rw first at c.loop-shown.invariant in
    rw pushed
    (added_more c.args.saved.now c.args.dir c.args.names.items (into_iter_items c.next.new.self) c.in-Some.shown
    c.args.lines.now.items c.loop-shown.lines.items c.line_of.result added
    (record { dir_is = c.line_of.ensures.dir; shown_is = c.line_of.ensures.shown; object = c.line_of.ensures.object }))
