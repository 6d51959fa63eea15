use Rattle.std.proofs.Common.{◌≡◌, ◌++◌, map, take}
use Rattle.ficus_persistent.proofs.row.gather_all.Given as goal

abbrev pub invariant-loop-item : goal.invariant-loop-item
invariant-loop-item g l =
    map (λ item. item.now) l.gathered.items ≡ map (λ item. item.now) l.initial.gathered.items ++ take l.item-index l.row
