use Rattle.std.proofs.Common.{◌≡◌, List, [], map, sym, subst}
use Rattle.std.proofs.lemmas.Bool.{eqb-true}
use Rattle.std.proofs.lemmas.List.{nil_from_length}
use Rattle.std.proofs.lemmas.Result.{IfOk-weaker}
use Rattle.ficus_ids.specs.Rising.{ReplacesBy}
use Rattle.ficus_table.proofs.Replaced.{replaces_none}
use Rattle.ficus_table.proofs.Sound.{rising_seen}
use Rattle.ficus_table.proofs.table.Table.replaced.Goals as goal

pub returns-then-is_empty : goal.returns-then-is_empty
returns-then-is_empty g c =
    let id_of = g.R.Row.id_of in
    let seen = g.R.Row.seen in
    let rows = c.args.rows.now in
    let none : c.args.self.now.items ≡ [] =
    nil_from_length c.args.self.now.items (eqb-true _ 0 (rw c.is_empty.ensures at c.if-is_empty.true)) in
    record {
      replaced = IfOk-weaker c.of.result _ _
          (λ list is. subst (λ (l : List _). ReplacesBy id_of c.args.self.now.items (map seen rows) (map seen l)) (sym is)
          (rw none (replaces_none id_of (map seen rows) (rising_seen id_of seen g.R.Row.formed rows c.requires))))
          c.of.ensures;
      rising = IfOk-weaker c.of.result _ _ (λ list is. rw is c.requires) c.of.ensures;
    }
