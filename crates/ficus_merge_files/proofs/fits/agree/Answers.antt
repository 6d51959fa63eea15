use Rattle.std.proofs.Common.{◌≡◌, arith, rules, refl}
use Rattle.std.specs.Prelude.{Contains}
use Rattle.std.proofs.lemmas.Bool.{both_ways}
use Rattle.ficus_file.specs.declared.version.Version.{Version}
use Rattle.ficus_merge_files.proofs.Kept.{by_index, next_index}
use Rattle.ficus_merge_files.proofs.fits.agree.Goals as goal

pub returns-then-not-agrees : goal.returns-then-not-agrees
returns-then-not-agrees c = (
  λ is. absurd cc,
  λ all. absurd (both_ways c.agrees.result c.if-not-agrees.true
      (c.agrees.ensures.1 (λ version inside. all version c.other-item.result inside (c.loop-other.other-index, c.loop-other-test.true, search rules)))),
)

pub loop-other-preserved : goal.loop-other-preserved
loop-other-preserved c =
    next_index (λ (other : Version). (version : Version) → Contains c.args.mine.now version → version.vector ≡ other.vector → version.bytes ≡ other.bytes)
    c.args.theirs.now c.loop-other.other-index c.other-item.result c.loop-other-test.true (search rules) c.loop-other.invariant
    (c.agrees.ensures.0 c.if-not-agrees.false)

pub returns : goal.returns
returns c = (
  λ _ version other inside inside_too. by_index (λ (o : Version). (v : Version) → Contains c.args.mine.now v → v.vector ≡ o.vector → v.bytes ≡ o.bytes)
      c.args.theirs.now (λ k d within. c.loop-other.invariant k d (omega arith)) other inside_too version inside,
  λ _. refl,
)
