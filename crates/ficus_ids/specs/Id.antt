-- Identifiers: their order, and how they are written.
use Rattle.std.specs.Prelude.{ℕ, List, ◌∷◌, ◌++◌}
use Rattle.std.specs.declared.cmp.Ordering.{Ordering}
use Rattle.std.specs.Fmt.{decimal}
use Rattle.std.specs.Ordering.{nat_cmp, ordering_then}
use Rattle.ficus_ids.specs.declared.id.Id.{Id}

-- `r.k`, with a point (46) between the two numbers
abbrev pub id_text : Id → List ℕ
id_text id = decimal id.replica ++ 46 ∷ decimal id.number

-- the order of identifiers: by replica, then by number
unfoldable pub id_cmp : Id → Id → Ordering
id_cmp a b = ordering_then (nat_cmp a.replica b.replica) (nat_cmp a.number b.number)
