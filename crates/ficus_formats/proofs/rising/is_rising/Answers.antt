use Rattle.std.proofs.Common.{◌≡◌, arith, refl}
use Rattle.std.proofs.lemmas.List.Sorted.{all_adjacent_more}
use Rattle.std.specs.declared.cmp.Ordering.TheVariants.{Less}
use Rattle.ficus_ids.specs.Id.{id_cmp}
use Rattle.ficus_formats.proofs.Adjacent.{rising_from_adjacent, not_rising, is_below}
use Rattle.ficus_formats.proofs.rising.is_rising.Goals as goal

pub returns-then-ge : goal.returns-then-ge
returns-then-ge g c = (
  λ test. cc,
  λ rising. absurd (not_rising g.S.RowSpelling.id_of c.args.values.now c.loop-i.i _ _ c.id-one.result c.id-next.result c.ge.result (omega arith)
      (omega arith) c.index-values-i.is c.index-values-i-in-loop-i.is c.id-one.ensures c.id-next.ensures c.ge.ensures c.if-ge.true rising),
)

pub loop-i-preserved : goal.loop-i-preserved
loop-i-preserved g c =
    all_adjacent_more c.args.values.now (λ x y. id_cmp (g.S.RowSpelling.id_of x) (g.S.RowSpelling.id_of y) ≡ Less) c.loop-i.i (omega arith) c.loop-i.invariant
    (is_below g.S.RowSpelling.id_of c.args.values.now c.loop-i.i _ _ c.id-one.result c.id-next.result c.ge.result (omega arith)
    (omega arith) c.index-values-i.is c.index-values-i-in-loop-i.is c.id-one.ensures c.id-next.ensures c.ge.ensures c.if-ge.false)

pub returns : goal.returns
returns g c = (
  λ test. rising_from_adjacent g.S.RowSpelling.id_of c.args.values.now (λ k d within. c.loop-i.invariant k d (omega arith)),
  λ rising. refl,
)
