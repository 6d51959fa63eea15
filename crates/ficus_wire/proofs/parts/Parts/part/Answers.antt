use Rattle.std.proofs.Common.{ℕ, Vec, Global, List, [], sym, ap, ◌∙◌}
use Rattle.std.specs.Prelude.{Option}
use Rattle.std.specs.Option.{unwrap_or, option_copied, option_map}
use Rattle.ficus_wire.proofs.Holding.{part_kept}
use Rattle.ficus_wire.proofs.parts.Parts.part.Goals as goal

pub returns-in-Some : goal.returns-in-Some
returns-in-Some c =
    let kept = part_kept (λ (v : Vec ℕ Global). v.items) c.args.self.now c.self.inside.have.entries
    (ap (λ p. p.have) c.self.view_is) c.args.index in
    let found = sym c.get.ensures.value ∙ ap option_copied c.in-Some.is in
    c.deref.ensures.value
    ∙ sym (ap (λ (part : Option (List ℕ)). unwrap_or part [])
    (kept ∙ ap (option_map (λ (v : Vec ℕ Global). v.items)) found))

pub returns-in-None : goal.returns-in-None
returns-in-None c =
    let kept = part_kept (λ (v : Vec ℕ Global). v.items) c.args.self.now c.self.inside.have.entries
    (ap (λ p. p.have) c.self.view_is) c.args.index in
    let found = sym c.get.ensures.value ∙ ap option_copied c.in-None.is in
    sym (ap (λ (part : Option (List ℕ)). unwrap_or part [])
    (kept ∙ ap (option_map (λ (v : Vec ℕ Global). v.items)) found))
