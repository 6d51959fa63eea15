use Rattle.std.proofs.Common.{sym, ap, ◌∙◌, ℕ, Vec, Global}
use Rattle.ficus_wire.proofs.Holding.{has_kept}
use Rattle.ficus_wire.proofs.parts.Parts.has.Goals as goal

pub returns : goal.returns
returns c =
    let kept = has_kept (λ (v : Vec ℕ Global). v.items) c.args.self.now c.self.inside.have.entries (ap (λ p. p.have) c.self.view_is) c.args.index in (
      λ is. kept ∙ sym c.contains_key.ensures ∙ is,
      λ has. c.contains_key.ensures ∙ sym kept ∙ has,
    )
