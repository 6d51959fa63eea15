use Rattle.ficus_table.proofs.Replaced.{replaced_none, replaced_row}
use Rattle.ficus_table.proofs.Sound.{rising_seen}
use Rattle.ficus_table.proofs.table.Table.put_each.Goals as goal

pub loop-row-init : goal.loop-row-init
loop-row-init g c =
    let whole = c.in_ok-list.ensures in
    record {
      replaced = rw whole.same (replaced_none g.R.Row.id_of c.args.self.now.items (rw (← whole.same)
          (rising_seen g.R.Row.id_of g.R.Row.seen g.R.Row.formed c.in_ok-list.list whole.rising)));
      rising = whole.rising;
    }

pub loop-row-preserved : goal.loop-row-preserved
loop-row-preserved g c = record {
  replaced = replaced_row g.R.Row.id_of g.R.Row.seen c.args.self.now.items c.args.rows.now
      c.loop-row.row-index c.row-item.result c.in_ok-copied.field-0 c.loop-row.list c.in_ok-list-2.list
      (rising_seen g.R.Row.id_of g.R.Row.seen g.R.Row.formed c.args.rows.now c.requires)
      c.loop-row-test.true c.row-item.is c.in_ok-copied.ensures c.loop-row.invariant.replaced
      c.in_ok-list-2.ensures.puts
      (rising_seen g.R.Row.id_of g.R.Row.seen g.R.Row.formed c.in_ok-list-2.list c.in_ok-list-2.ensures.rising);
  rising = c.in_ok-list-2.ensures.rising;
}
