-- Lists of names with the objects to which they lead.
use Rattle.std.specs.Prelude.{ℕ, List, Contains}
use Rattle.std.specs.Cmp.Lexicographic.{slice_cmp}
use Rattle.std.specs.declared.cmp.Ordering.{Ordering}
use Rattle.std.specs.Ordering.{nat_cmp, ordering_then}
use Rattle.ficus_ids.specs.declared.id.Id.{Id}
use Rattle.ficus_ids.specs.Id.{id_cmp}
use Rattle.ficus_names.specs.declared.binding.Binding.{Binding}

-- one of the bindings leads from the name to the object
abbrev pub Binds : List Binding → List ℕ → Id → Type 0
Binds bindings name target = Contains bindings (record { name = name; target = target })

-- the order of listings: by the bytes of the name, then by the object
abbrev pub binding_cmp : Binding → Binding → Ordering
binding_cmp a b = ordering_then (slice_cmp nat_cmp a.name b.name) (id_cmp a.target b.target)
