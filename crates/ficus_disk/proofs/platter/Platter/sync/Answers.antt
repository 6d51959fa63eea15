use Rattle.std.proofs.Common.{◌∙◌, sym, ap, subst, arith, replicate, ℕ}
use Rattle.ficus_disk.specs.Crash.{Only, Within}
use Rattle.ficus_disk.specs.Held.{held_of}
use Rattle.ficus_disk.specs.Platter.{Held, IsMarked, Leaves}
use Rattle.ficus_disk.specs.declared.mark.Mark.TheVariants.{Clean}
use Rattle.ficus_disk.proofs.Crashes.{marked-settled, only-settled}
use Rattle.ficus_disk.proofs.Syncing.{settles, within_settled}
use Rattle.ficus_disk.proofs.platter.Platter.sync.Goals as goal

pub returns-clause-held : goal.returns-clause-held
returns-clause-held c = settles c.args.self.now.bytes.items _ _ (c.clear.ensures.synced c.args.self.now.bytes.items (omega arith))
    (c.clear-2.ensures.marks ∙ ap (λ (n : ℕ). replicate n Clean) (omega arith))

pub invariant_of-self : goal.invariant_of-self
invariant_of-self c =
    let was = c.args.self.now in
    let is = settles was.bytes.items _ _ (c.clear.ensures.synced was.bytes.items (omega arith))
    (c.clear-2.ensures.marks ∙ ap (λ (n : ℕ). replicate n Clean) (omega arith)) in
    record {
      marked = subst IsMarked (sym is) (marked-settled was.bytes.items);
      counted = omega (arith, c.clear.ensures.count);
      keeps = omega (arith, was.keeps, c.clear.ensures.room);
      clears = omega (arith, was.clears, c.clear-2.ensures.room);
    }

pub returns-clause-durable : goal.returns-clause-durable
returns-clause-durable c =
    let old = held_of c.args.self.now in
    subst (λ (h : Held). Only old.bytes (Leaves h)) (sym (returns-clause-held c)) (only-settled old.bytes)

pub returns-clause-crash : goal.returns-clause-crash
returns-clause-crash c =
    let old = held_of c.args.self.now in
    subst (λ (h : Held). Within (Leaves old) (Leaves h)) (sym (returns-clause-held c))
    (within_settled old c.args.self.now.marked)
