use Rattle.std.proofs.Common.{◌≡◌, ◌++◌, take}
use Rattle.std.specs.List.{flat_map}
use Rattle.ficus_formats.specs.Format.{Keeps}
use Rattle.ficus_persistent.proofs.row.put_all.Given as goal

abbrev pub invariant-loop-item : goal.invariant-loop-item
invariant-loop-item g l = record {
  put : l.out.items ++ l.window ≡ (l.initial.out.items ++ l.initial.window)
      ++ flat_map (g.S.Spelling.format l.spelling).spell (take l.item-index l.row);
  kept : Keeps l.initial.out.items l.out.items;
}
