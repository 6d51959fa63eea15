use Rattle.std.specs.Prelude.{Contains}
use Rattle.ficus_ids.specs.declared.id.Id.{Id}
use Rattle.ficus_entry.specs.Inside.{LiesInside}
use Rattle.ficus_index.specs.Place.{IsNotedWithin}
use Rattle.ficus_entry.proofs.inside.noted_of.Given as goal

abbrev pub invariant-loop-position : goal.invariant-loop-position
invariant-loop-position l = record {
  sound : (id : Id) → Contains l.ids.items id → LiesInside l.entries l.dir id;
  complete : (id : Id) → LiesInside l.entries l.dir id → IsNotedWithin l.index l.fn.span.start l.position id →
      Contains l.ids.items id;
}
