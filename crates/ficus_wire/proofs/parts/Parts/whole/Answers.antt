use Rattle.std.proofs.Common.{ℕ, Vec, Global, ap, subst, ◌∙◌, arith}
use Rattle.ficus_wire.specs.Parts.{HeldParts, RisesFrom}
use Rattle.ficus_wire.proofs.Holding.{all_counted, counted_all, front}
use Rattle.ficus_wire.proofs.Rising.{rises_made}
use Rattle.ficus_wire.proofs.parts.Parts.whole.Goals as goal

pub returns-then-len-self : goal.returns-then-len-self
returns-then-len-self c = λ all.
    let p = c.args.self.now in
    let rises : RisesFrom 0 p.pieces p.have = subst (λ (q : HeldParts). RisesFrom 0 q.pieces q.have) c.self.view_is
    (rises_made (λ (v : Vec ℕ Global). v.items) 0 c.self.inside.pieces c.self.inside.have.entries c.self.invariant.1) in
    let pieces = ap (λ (q : HeldParts). q.pieces) c.self.view_is in
    omega (arith, counted_all p rises all, c.if-len-self.true, c.len.ensures, pieces)

pub returns : goal.returns
returns c =
    let p = c.args.self.now in
    let rises : RisesFrom 0 p.pieces p.have = subst (λ (q : HeldParts). RisesFrom 0 q.pieces q.have) c.self.view_is
    (rises_made (λ (v : Vec ℕ Global). v.items) 0 c.self.inside.pieces c.self.inside.have.entries c.self.invariant.1) in
    let pieces = ap (λ (q : HeldParts). q.pieces) c.self.view_is in (
      all_counted p rises (omega (arith, c.if-len-self.false, c.len.ensures, pieces)),
      c.loop-index.invariant
          ∙ ap (front p) (omega (arith, c.loop-index-test.false, c.loop-index.auto.index-end, pieces)),
    )
