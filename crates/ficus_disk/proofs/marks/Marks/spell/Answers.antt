use Rattle.std.proofs.Common.{length, sym, ◌∙◌, ap, subst, arith, List}
use Rattle.ficus_disk.specs.Platter.{IsCleanBut}
use Rattle.ficus_disk.specs.declared.mark.Mark.{Mark}
use Rattle.ficus_disk.proofs.Paddings.{length-padded, padded-clean}
use Rattle.ficus_disk.proofs.marks.Marks.spell.Goals as goal

pub invariant_of-self : goal.invariant_of-self
invariant_of-self c =
    let was = c.settle.new.self in
    let is = c.clean_upto.ensures.items in
    let long = ap length is ∙ length-padded was.marks.items was.count in
    record {
      clean = subst (λ (l : List Mark). IsCleanBut was.dirty.from was.dirty.upto l) (sym is)
          (padded-clean was.dirty.from was.dirty.upto was.marks.items was.count was.clean);
      within = omega (arith, long, was.within);
      short = omega (arith, long, was.short);
      near = was.near;
      room = omega (arith, was.room, c.clean_upto.ensures.room);
      counted = omega (arith, was.counted, c.clean_upto.ensures.room);
    }
