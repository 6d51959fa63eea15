use Rattle.std.proofs.Common.{ℕ, ◌⊎◌, ◌<◌, ◌≤◌, inl, inr, arith}
use Rattle.ficus_wire.specs.Message.{piece_limit}
use Rattle.ficus_wire.proofs.Messages.{misplaced}
use Rattle.ficus_wire.proofs.decoding.read_head.Goals as goal

pub returns-then-index-pieces-clause-reads : goal.returns-then-index-pieces-clause-reads
returns-then-index-pieces-clause-reads c =
    misplaced c.args.members c.in_ok-state.state c.in_ok-pieces.pieces c.in_ok-index.index c.in_ok-route.route _ _ _ _ _
    c.in_ok-route.ensures.reads c.in_ok-state.ensures.reads c.in_ok-pieces.ensures.reads c.in_ok-index.ensures.reads
    (λ below most. outside c.then-index-pieces.either below most) where
      outside : {pieces index : ℕ} → (pieces ≤ index) ⊎ ((index < pieces) × (262144 < pieces)) → index < pieces →
          pieces ≤ piece_limit → ⊥
      outside (inl past) below most = omega (arith, past, below)
      outside (inr more) below most = omega (arith, more.1, most)
