use Rattle.std.proofs.Common.{◌≤◌, length, vec_capacity, arith, sym, subst, inr}
use Rattle.ficus_ids.specs.Rising.{IsRisingBy}
use Rattle.ficus_table.proofs.Shown.{overlaid_none}
use Rattle.ficus_table.proofs.Sound.{sound_fresh, rising_seen}
use Rattle.ficus_table.proofs.table.Table.fresh.Goals as goal

pub invariant_of-result : goal.invariant_of-result
invariant_of-result g c =
    let list = c.args.list in
    let room : length list ≤ vec_capacity c.in_ok-edits.edits =
    omega (arith, c.in_ok-edits.ensures.enough, c.len.ensures) in
    rw c.in_ok-edits.ensures.items
    (sound_fresh g.R.Row.id_of g.R.Row.seen g.R.Row.formed list (vec_capacity c.in_ok-edits.edits) c.requires room
    (inr (c.len.result, c.in_ok-edits.ensures.capacity)))

pub returns-clause-items : goal.returns-clause-items
returns-clause-items g c = rw c.in_ok-edits.ensures.items (overlaid_none g.R.Row.formed g.R.Row.seen c.args.list)

pub returns-clause-rising : goal.returns-clause-rising
returns-clause-rising g c =
    rw c.in_ok-edits.ensures.items
    (subst (IsRisingBy g.R.Row.id_of) (sym (overlaid_none g.R.Row.formed g.R.Row.seen c.args.list))
    (rising_seen g.R.Row.id_of g.R.Row.seen g.R.Row.formed c.args.list c.requires))
