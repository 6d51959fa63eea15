-- Lists of edges from directories to objects.
use Rattle.std.specs.Prelude.{List, Contains}
use Rattle.std.specs.List.Sorted.{IsSortedByKey}
use Rattle.ficus_ids.specs.declared.id.Id.{Id}
use Rattle.ficus_ids.specs.Id.{id_cmp}
use Rattle.ficus_reach.specs.declared.edge.Edge.{Edge}

-- one of the edges leads from the directory to the object
abbrev pub Edges : List Edge → Id → Id → Type 0
Edges edges dir object = Contains edges (record { dir = dir; target = object })

-- the directories don't fall
abbrev pub IsSortedByDir : List Edge → Type 0
IsSortedByDir edges = IsSortedByKey (λ edge. edge.dir) id_cmp edges
