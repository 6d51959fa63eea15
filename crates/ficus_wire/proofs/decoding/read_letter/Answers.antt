use Rattle.std.proofs.Common.{ℕ, List, subst}
use Rattle.ficus_formats.specs.Format.{Spells}
use Rattle.ficus_wire.specs.Message.{piece, route}
use Rattle.ficus_wire.specs.declared.message.PieceHead.{PieceHead}
use Rattle.ficus_wire.specs.declared.message.Route.{Route}
use Rattle.ficus_wire.proofs.Messages.{no_ask, no_piece}
use Rattle.ficus_wire.proofs.decoding.read_letter.Goals as goal

pub returns-in_err-way-in-1-clause-none : goal.returns-in_err-way-in-1-clause-none
returns-in_err-way-in-1-clause-none c =
    rw c.from_residual-in_err-way-in-1.ensures
    (no_ask c.args.members c.in_ok-kind.kind c.args.bytes.now c.in_ok-kind.rest.now c.in_ok-kind.ensures.some c.in-1.is
    (subst (λ (bytes : List ℕ). (way : Route) → Spells (route c.args.members) way bytes → ⊥) c.new.ensures
    c.in_err-way-in-1.ensures))

pub returns-in_err-head-in-3-clause-none : goal.returns-in_err-head-in-3-clause-none
returns-in_err-head-in-3-clause-none c =
    rw c.from_residual-in_err-head-in-3.ensures
    (no_piece c.args.members c.in_ok-kind.kind c.args.bytes.now c.in_ok-kind.rest.now c.in_ok-kind.ensures.some c.in-3.is
    (subst (λ (bytes : List ℕ). (p : PieceHead × List ℕ) → Spells (piece c.args.members) p bytes → ⊥) c.new-in-3.ensures
    c.in_err-head-in-3.ensures))
