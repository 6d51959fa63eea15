-- The names of all directories.
use Rattle.std.specs.Prelude.{List, [], Option, Some, None, Vec}
use Rattle.std.specs.BTreeMap.{get}
use Rattle.std.specs.declared.alloc.Global.{Global}
use Rattle.ficus_ids.specs.declared.id.Id.{Id}
use Rattle.ficus_ids.specs.Id.{id_cmp}
use Rattle.ficus_names.specs.declared.binding.Binding.{Binding}
use Rattle.ficus_names.specs.declared.directories.Directories.{Directories}

-- the items, where there are some
abbrev pub items_of : Option (Vec Binding Global) → List Binding
items_of None = []
items_of (Some bindings) = bindings.items

-- the names of a directory with the objects to which they lead
abbrev pub bindings_of : Directories → Id → List Binding
bindings_of directories dir = items_of (get id_cmp directories.bindings dir)
