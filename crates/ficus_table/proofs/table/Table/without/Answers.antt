use Rattle.std.proofs.Common.{◌≡◌, ◌+◌, ◌++◌, ◌∷◌, [], take, get_or}
use Rattle.std.proofs.lemmas.List.{take_more, take_all}
use Rattle.std.proofs.lemmas.Result.{IfOk-weaker}
use Rattle.ficus_ids.specs.declared.id.Id.{Id}
use Rattle.ficus_ids.specs.Rising.{LeavesOutBy}
use Rattle.ficus_table.proofs.Left.{leaves_all, leaves_more, leaves_seen}
use Rattle.ficus_table.proofs.table.Table.without.Goals as goal

pub loop-id-init : goal.loop-id-init
loop-id-init g c = record {
  rising = c.in_ok-list.ensures.rising;
  left = leaves_all (λ row. g.R.Row.id_of (g.R.Row.seen row)) c.in_ok-list.list;
}

pub loop-id-preserved : goal.loop-id-preserved
loop-id-preserved g c =
    let ids = c.args.ids.now in
    let n = c.loop-id.id-index in
    let none : Id = record { replica = 0; number = 0 } in
    let more : take (n + 1) ids ≡ take n ids ++ get_or ids n none ∷ [] = take_more ids n none c.loop-id-test.true in
    record {
      rising = c.in_ok-list-2.ensures.rising;
      left = rw more (leaves_more (λ row. g.R.Row.id_of (g.R.Row.seen row)) c.in_ok-list.list c.loop-id.list
          c.in_ok-list-2.list (take n ids) (get_or ids n none) c.loop-id.invariant.left c.in_ok-list-2.ensures.left);
    }

pub returns-clause-left : goal.returns-clause-left
returns-clause-left g c =
    let left : LeavesOutBy (λ row. g.R.Row.id_of (g.R.Row.seen row)) c.in_ok-list.list c.args.ids.now c.loop-id.list =
    rw (take_all c.loop-id.id-index c.args.ids.now c.loop-id-test.false) at c.loop-id.invariant.left in
    IfOk-weaker c.fresh.result _ _
    (λ table is. rw is (leaves_seen g.R.Row.id_of g.R.Row.seen c.in_ok-list.list c.loop-id.list c.args.self.now.items
    c.args.ids.now left c.in_ok-list.ensures.same)) c.fresh.ensures.items
