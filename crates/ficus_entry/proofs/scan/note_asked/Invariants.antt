use Rattle.std.specs.Prelude.{Contains}
use Rattle.std.proofs.Common.{◌↔◌, take}
use Rattle.ficus_ids.specs.declared.id.Id.{Id}
use Rattle.ficus_ids.specs.Rising.{IsRisingBy}
use Rattle.ficus_entry.specs.Inside.{HoldsSuch, IsAsked}
use Rattle.ficus_entry.proofs.scan.note_asked.Given as goal

abbrev pub invariant-loop-index : goal.invariant-loop-index
invariant-loop-index l = record {
  inside : (id : Id) → Contains l.ids.items id ↔ HoldsSuch (IsAsked l.asked) (take l.index l.entries) id;
  rising : IsRisingBy (λ (id : Id). id) l.ids.items;
}
