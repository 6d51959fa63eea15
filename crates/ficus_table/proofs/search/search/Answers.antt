use Rattle.std.proofs.Common.{sym, ◌∙◌, ap, arith, rules}
use Rattle.ficus_table.proofs.Found.{ids_parted, found_here, differs_here, place_by_cut}
use Rattle.ficus_table.proofs.search.search.Goals as goal
use Rattle.ficus_table.proofs.search.search.Goals.{else-index-len-via-then-index-len+else-eq, else-index-len-via-else-index-len}

pub partition_point-index-requires : goal.partition_point-index-requires
partition_point-index-requires g c =
    ids_parted (λ row. g.R.Row.id_of (g.R.Row.seen row)) c.args.list.now c.args.id c.requires

pub returns-then-eq-clause-found : goal.returns-then-eq-clause-found
returns-then-eq-clause-found g c =
    found_here (λ row. g.R.Row.id_of (g.R.Row.seen row)) c.args.list.now c.args.id c.partition_point-index.result
    c.at.result.now (omega (arith, c.if-index-len.true, c.len.ensures)) c.at.ensures
    (ap g.R.Row.id_of (sym c.look.ensures) ∙ sym c.id.ensures ∙ search rules)

pub returns-else-index-len-clause-place : goal.returns-else-index-len-clause-place
returns-else-index-len-clause-place g c =
    let cut = c.partition_point-index in
    place_by_cut (λ row. g.R.Row.id_of (g.R.Row.seen row)) c.args.list.now c.args.id cut.result c.requires cut.ensures.point cut.ensures.within
    (λ d within. elim c.else-index-len.branch [
      | else-index-len-via-then-index-len+else-eq w ↦
          differs_here (λ row. g.R.Row.id_of (g.R.Row.seen row)) c.args.list.now c.args.id cut.result w.at.result.now d w.at.ensures
          (rw (w.id.ensures, w.look.ensures) at (sym w.eq.ensures ∙ w.if-eq.false))
      | else-index-len-via-else-index-len w ↦ absurd (omega (arith, w.if-index-len.false, c.len.ensures))
    ])
