use Rattle.std.proofs.Common.{◌≡◌, ◌∙◌}
use Rattle.std.proofs.lemmas.Result.{IfOk-weaker}
use Rattle.ficus_ids.specs.Rising.{ReplacesBy}
use Rattle.ficus_table.proofs.Replaced.{replaces_seen}
use Rattle.ficus_table.proofs.Sound.{rising_seen}
use Rattle.ficus_table.proofs.table.Table.merged.Goals as goal

pub returns : goal.returns
returns g c =
    let id_of = g.R.Row.id_of in
    let seen = g.R.Row.seen in
    let list = c.in_ok-list.list in
    let made = c.merge.new.merged.items in
    let replaces : ReplacesBy (λ row. id_of (seen row)) list c.args.rows.now made =
    rw (c.of-mine.ensures, c.of-theirs.ensures, c.in_ok-rows_of.ensures, c.in_ok-each_of.ensures) at
    c.in_ok-merge.ensures.replaced in
    record {
      replaced = IfOk-weaker c.of.result _ _
          (λ more is. let same : more ≡ made = is ∙ c.deref.ensures.value in
          rw (← c.in_ok-list.ensures.same, same) (replaces_seen id_of seen list c.args.rows.now made
          (rising_seen id_of seen g.R.Row.formed list c.in_ok-list.ensures.rising)
          (rising_seen id_of seen g.R.Row.formed c.args.rows.now c.requires)
          (rising_seen id_of seen g.R.Row.formed made c.in_ok-merge.ensures.rising) replaces)) c.of.ensures;
      rising = IfOk-weaker c.of.result _ _
          (λ more is. let same : more ≡ made = is ∙ c.deref.ensures.value in rw same c.in_ok-merge.ensures.rising)
          c.of.ensures;
    }
