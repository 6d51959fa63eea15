use Rattle.std.proofs.Common.{◌≡◌, ◌+◌, sym, subst, arith}
use Rattle.ficus_why.specs.Shown.{AreOf, IsLeastOf, IsSecondBelow}
use Rattle.ficus_why.proofs.Leasts.{least_between, least_more, least_of_first, second_split}
use Rattle.ficus_why.proofs.least.least_of.Goals as goal

pub loop-other-init : goal.loop-other-init
loop-other-init c = λ clash is has. absurd (omega (arith, has.at_least, has.below))

pub loop-other-preserved : goal.loop-other-preserved
loop-other-preserved c =
    let H = c.args.history.now.events in
    let one = c.args.one in
    let other = c.loop-other.other in
    subst (λ least. IsLeastOf H c.args.known.now.reader c.args.known.now.file (IsSecondBelow H one (other + 1)) least)
    (sym c.earlier-least.ensures)
    (least_more H c.args.known.now.reader c.args.known.now.file (IsSecondBelow H one other) (λ clash. AreOf H clash one other)
    (IsSecondBelow H one (other + 1)) (second_split H c.args.known.now.reader c.args.known.now.file one other) c.loop-other.least
    c.clash_between-next.result c.loop-other.invariant
    (least_between H c.args.known.now.reader c.args.known.now.file one other c.clash_between-next.result c.clash_between-next.ensures))

pub returns : goal.returns
returns c =
    let H = c.args.history.now.events in
    let past = c.loop-other-test.false in
    let end = c.loop-other.auto.other-end in
    let all : c.loop-other.other ≡ 9 = omega arith in
    least_of_first H c.args.known.now.reader c.args.known.now.file c.requires.fits.plain c.args.one c.loop-other.least
    (subst (λ n. IsLeastOf H c.args.known.now.reader c.args.known.now.file (IsSecondBelow H c.args.one n) c.loop-other.least) all
    c.loop-other.invariant)
