use Rattle.std.proofs.Common.{◌≡◌, ◌++◌, take}
use Rattle.std.specs.List.{flat_map}
use Rattle.ficus_formats.specs.Format.{Keeps}
use Rattle.ficus_persistent.specs.Shape.{joined}
use Rattle.ficus_persistent.proofs.tree.Tree.+put_each.Given as goal

abbrev pub invariant-loop-tree : goal.invariant-loop-tree
invariant-loop-tree g l = record {
  put : l.out.items ++ l.window ≡ (l.initial.out.items ++ l.initial.window)
      ++ flat_map (g.S.Spelling.format l.spelling).spell (joined (take l.tree-index l.below));
  kept : Keeps l.initial.out.items l.out.items;
}
