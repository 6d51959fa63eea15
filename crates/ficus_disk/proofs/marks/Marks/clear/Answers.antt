use Rattle.std.proofs.Common.{◌≡◌, ◌≤◌, ◌-◌, ℕ, List, length, refl, ◌∙◌, ap, arith}
use Rattle.std.proofs.lemmas.List.{length-replicate}
use Rattle.ficus_disk.specs.Bytes.{patch}
use Rattle.ficus_disk.specs.Marks.{padded}
use Rattle.ficus_disk.specs.Platter.{marks_of}
use Rattle.ficus_disk.specs.declared.mark.Mark.{Mark}
use Rattle.ficus_disk.specs.declared.mark.Mark.TheVariants.{Clean}
use Rattle.ficus_disk.proofs.Paddings.{length-padded, patch-empty}
use Rattle.ficus_disk.proofs.Patches.{length-patch}
use Rattle.ficus_disk.proofs.Syncing.{all_clean, all_cleared, cleared}
use Rattle.ficus_disk.proofs.marks.Marks.clear.Goals as goal

-- no more are spelled out than there are
within_count : (marks : List Mark) (count from upto all : ℕ) → length marks ≤ count → from ≤ count
    → length (patch (padded marks count) from (marks_of (upto - from))) ≡ all → length marks ≤ all
within_count marks count from upto all short near each =
    let long = length-padded marks count in
    omega (
      arith,
      long,
      each,
      length-patch (padded marks count) (marks_of (upto - from)) from (omega (arith, long)),
    )

pub returns-clause-marks : goal.returns-clause-marks
returns-clause-marks c =
    let was = c.args.self.now in
    let fewer = within_count was.marks.items was.count was.latest.from was.latest.upto c.args.count was.short was.near c.requires.each in
    patch-empty (padded c.fill_over.new.to.items c.args.count) c.none-self-2.result.from c.none-self-2.result.upto
    (omega (arith, c.none-self-2.ensures.upto))
    ∙ all_cleared was.dirty.from was.dirty.upto was.marks.items was.clean was.dirty.rises was.within c.args.count
    c.fill_over.new.to.items _ fewer c.fill_over.ensures.items refl

pub invariant_of-self : goal.invariant_of-self
invariant_of-self c =
    let was = c.args.self.now in
    let is = c.fill_over.ensures.items ∙ cleared was.dirty.from was.dirty.upto was.marks.items was.clean was.dirty.rises was.within in
    let fewer = within_count was.marks.items was.count was.latest.from was.latest.upto c.args.count was.short was.near c.requires.each in
    let long = ap length is ∙ length-replicate (length was.marks.items) Clean in
    record {
      clean = rw (c.none-self.ensures.from, c.none-self.ensures.upto) (all_clean (length was.marks.items) _ is);
      within = omega (arith, c.none-self.ensures.upto);
      short = omega (arith, long, fewer);
      near = omega (arith, c.none-self-2.ensures.from);
      room = omega (arith, c.none-self-2.ensures.upto);
      counted = omega (arith, c.requires.room, c.fill_over.ensures.room);
    }
