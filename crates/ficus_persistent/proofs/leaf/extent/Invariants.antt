use Rattle.std.proofs.Common.{◌≡◌, length, take}
use Rattle.std.specs.List.{flat_map}
use Rattle.ficus_persistent.proofs.leaf.extent.Given as goal

abbrev pub invariant-loop-item : goal.invariant-loop-item
invariant-loop-item g l = l.count ≡ length (flat_map g.T.Spelled.spell (take l.item-index l.items))
