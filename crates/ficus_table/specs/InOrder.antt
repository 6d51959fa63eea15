-- What rows show, in order.
use Rattle.std.specs.Prelude.{List, map}
use Rattle.ficus_table.specs.declared.in_order.Held.{Held}
use Rattle.ficus_table.specs.declared.in_order.Held.TheVariants.{Seen, Gathered, Rows}

-- what is seen of what is looked at
abbrev pub shown : {R S : Type 0} → (R → S) → Held R S → List S
shown look (Seen each) = map (λ one. one.now) each.items
shown look (Gathered rows) = map look (map (λ row. row.now) rows.items)
shown look (Rows rows) = map look rows.now
