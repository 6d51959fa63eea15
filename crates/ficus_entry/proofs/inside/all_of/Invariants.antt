use Rattle.std.specs.Prelude.{Contains}
use Rattle.ficus_ids.specs.declared.id.Id.{Id}
use Rattle.ficus_entry.specs.Inside.{HoldsSuch}
use Rattle.ficus_index.specs.Place.{IsNotedWithin}
use Rattle.ficus_entry.proofs.inside.all_of.Given as goal

abbrev pub invariant-loop-position : goal.invariant-loop-position
invariant-loop-position g l = record {
  sound : (id : Id) → Contains l.ids.items id → HoldsSuch (g.T.Test.Passes l.test) l.entries id;
  complete : (id : Id) → HoldsSuch (g.T.Test.Passes l.test) l.entries id →
      IsNotedWithin l.index l.fn.span.start l.position id → Contains l.ids.items id;
}
