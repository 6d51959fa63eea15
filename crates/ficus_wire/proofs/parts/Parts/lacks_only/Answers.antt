use Rattle.std.proofs.Common.{ℕ, [], Vec, Global, ap, subst, arith}
use Rattle.std.proofs.lemmas.Bool.{eq-eqb, eqb-true}
use Rattle.ficus_wire.specs.Parts.{HeldParts, RisesFrom, with_part}
use Rattle.ficus_wire.proofs.Holding.{all_but_counted, counted_all_but, few_parts, one_more_part}
use Rattle.ficus_wire.proofs.Rising.{rises_made, still_rises}
use Rattle.ficus_wire.proofs.parts.Parts.lacks_only.Goals as goal

pub returns-clause-last : goal.returns-clause-last
returns-clause-last c =
    let p = c.args.self.now in
    let rises : RisesFrom 0 p.pieces p.have = subst (λ (q : HeldParts). RisesFrom 0 q.pieces q.have) c.self.view_is
    (rises_made (λ (v : Vec ℕ Global). v.items) 0 c.self.inside.pieces c.self.inside.have.entries c.self.invariant.1) in
    let pieces = ap (λ (q : HeldParts). q.pieces) c.self.view_is in (
      λ same. all_but_counted p c.args.index rises c.requires.below c.requires.lacks
          (omega (arith, eqb-true _ _ same, c.len.ensures, pieces)),
      λ all.
          let count = counted_all_but p c.args.index rises c.requires.below c.requires.lacks all in
          eq-eqb _ _ (omega (arith, count, c.len.ensures, pieces)),
    )

pub returns-clause-few : goal.returns-clause-few
returns-clause-few c =
    let p = c.args.self.now in
    let rises : RisesFrom 0 p.pieces p.have = subst (λ (q : HeldParts). RisesFrom 0 q.pieces q.have) c.self.view_is
    (rises_made (λ (v : Vec ℕ Global). v.items) 0 c.self.inside.pieces c.self.inside.have.entries c.self.invariant.1) in
    let pieces = ap (λ (q : HeldParts). q.pieces) c.self.view_is in
    let more = one_more_part p c.args.index [] c.requires.lacks in
    let most = few_parts (with_part p c.args.index [])
    (still_rises c.args.index [] 0 p.pieces p.have (omega arith) c.requires.below rises) in
    omega (arith, more, most, pieces, c.self.invariant.0)
