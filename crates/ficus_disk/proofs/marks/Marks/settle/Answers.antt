use Rattle.std.proofs.Common.{◌≡◌, ◌+◌, ◌-◌, max, length, ◌∙◌, ap, arith, ℕ, List}
use Rattle.ficus_disk.specs.Bytes.{patch}
use Rattle.ficus_disk.specs.Marks.{padded}
use Rattle.ficus_disk.specs.Platter.{marks_of}
use Rattle.ficus_disk.specs.declared.mark.Mark.{Mark}
use Rattle.ficus_disk.proofs.Paddings.{length-padded, padded-clean, patch-empty, patch-settled}
use Rattle.ficus_disk.proofs.Patches.{length-marks_of, length-patch}
use Rattle.ficus_disk.proofs.Syncing.{clean_with}
use Rattle.ficus_disk.proofs.marks.Marks.settle.Goals as goal

-- the marks, with the latest range and clean ones up to it
marked : (old middle new : List Mark) (from n : ℕ) → middle ≡ padded old from → new ≡ patch middle from (marks_of n)
    → new ≡ patch (padded old from) from (marks_of n)
marked old middle new from n first second = second ∙ ap (λ (l : List Mark). patch l from (marks_of n)) first

length-marked : (old : List Mark) (from n : ℕ)
    → length (patch (padded old from) from (marks_of n)) ≡ max (length old) (from + n)
length-marked old from n =
    let long = length-padded old from in
    omega (
      arith,
      long,
      length-marks_of n,
      length-patch (padded old from) (marks_of n) from (omega (arith, long)),
    )

pub invariant_of-self : goal.invariant_of-self
invariant_of-self c =
    let was = c.args.self.now in
    let from = was.latest.from in
    let n = was.latest.upto - was.latest.from in
    let dirty = c.with-dirty in
    let padded_long = length-padded was.marks.items from in
    let is = marked was.marks.items c.clean_upto.new.to.items c.mark_over.new.to.items from n c.clean_upto.ensures.items
    c.mark_over.ensures.items in
    let long = ap length is ∙ length-marked was.marks.items from n in
    let rises = was.latest.rises in
    record {
      clean = clean_with was.dirty.from was.dirty.upto from n (padded was.marks.items from) c.mark_over.new.to.items
          (padded-clean was.dirty.from was.dirty.upto was.marks.items from was.clean) was.dirty.rises
          (omega (arith, padded_long)) is dirty.result.from dirty.result.upto dirty.ensures.from
          (omega (arith, dirty.ensures.upto, rises)) dirty.ensures.lower dirty.ensures.upper;
      within = omega (arith, long, dirty.ensures.within, was.within, rises);
      short = omega (arith, long, was.short, rises, c.max-self.ensures);
      near = omega (arith, c.none-self.ensures.from);
      room = omega (arith, c.none-self.ensures.upto);
      counted = omega (
        arith,
        was.counted,
        was.room,
        c.clean_upto.ensures.room,
        c.mark_over.ensures.room,
        c.max-self.ensures,
      );
    }

pub returns-then-from-upto-clause-settled : goal.returns-then-from-upto-clause-settled
returns-then-from-upto-clause-settled c =
    let was = c.args.self.now in
    let from = was.latest.from in
    let upto = was.latest.upto in
    let is = marked was.marks.items c.clean_upto.new.to.items c.mark_over.new.to.items from (upto - from)
    c.clean_upto.ensures.items c.mark_over.ensures.items in
    (λ i. padded (is i) (c.max-self.ensures i))
    ∙ patch-settled was.marks.items from upto was.count was.latest.rises was.near was.short

pub returns-then-from-upto-clause-marks : goal.returns-then-from-upto-clause-marks
returns-then-from-upto-clause-marks c =
    patch-empty (padded c.mark_over.new.to.items c.max-self.result) c.none-self.result.from c.none-self.result.upto
    (omega (arith, c.none-self.ensures.upto))
    ∙ returns-then-from-upto-clause-settled c
