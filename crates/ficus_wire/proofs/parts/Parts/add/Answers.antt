use Rattle.std.proofs.Common.{◌≡◌, ℕ, List, Vec, Global, map, ◌<◌, sym, ap, subst, ◌∙◌, arith}
use Rattle.ficus_wire.specs.Parts.{HeldParts, with_part}
use Rattle.ficus_wire.proofs.Rising.{still_rises, inserts_made}
use Rattle.ficus_wire.proofs.parts.Parts.add.Goals as goal

pub invariant_of-self-2 : goal.invariant_of-self-2
invariant_of-self-2 c =
    let below = subst (λ (p : HeldParts). c.args.index < p.pieces) (sym c.self.view_is) c.requires.below in (
      c.self.invariant.0,
      rw c.in_ok-insert.ensures.entries
          (still_rises c.args.index c.args.bytes 0 c.self.inside.pieces c.self.inside.have.entries (omega arith) below
          c.self.invariant.1),
    )

held : ℕ → ℕ → List (ℕ × List ℕ) → HeldParts
held state pieces have = record { state = state; pieces = pieces; have = have }

items : List (ℕ × Vec ℕ Global) → List (ℕ × List ℕ)
items pairs = map (λ pair. (pair.0, pair.1.items)) pairs

pub returns-clause-added : goal.returns-clause-added
unfolding held items
returns-clause-added c =
    subst (λ (p : HeldParts). held c.self.inside.state c.self.inside.pieces (items c.insert.new.self.entries)
    ≡ with_part p c.args.index c.args.bytes.items) c.self.view_is
    (ap (held c.self.inside.state c.self.inside.pieces) (ap items c.in_ok-insert.ensures.entries
    ∙ inserts_made (λ (v : Vec ℕ Global). v.items) c.args.index c.args.bytes c.self.inside.have.entries))
