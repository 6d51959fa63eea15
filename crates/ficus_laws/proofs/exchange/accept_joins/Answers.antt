use Rattle.std.proofs.Common.{inl, inr}
use Rattle.ficus_laws.proofs.Positions.{of_at, of_same}
use Rattle.ficus_laws.proofs.Accept.{known_before_served, accept_knows, accept_keeps, accept_brings, accept_live, live_accept, accept_made, made_accept}
use Rattle.ficus_laws.proofs.exchange.accept_joins.Goals as goal

pub returns-clause-newer : goal.returns-clause-newer
returns-clause-newer c = λ volume H replica served piece server position lawful may by_server known own.
    known_before_served volume H served replica lawful may.wanted.answer known (rw (← of_same by_server (of_at may.wanted.answer.served)) own)

pub returns-clause-known : goal.returns-clause-known
returns-clause-known c = λ H replica served piece server position by_server below. (
  λ known. accept_knows H replica served piece server by_server known below,
  elim [
    | inl own ↦ accept_keeps H replica served piece server by_server own
    | inr his ↦ accept_brings H replica served piece server by_server his
  ],
)

pub returns-clause-live : goal.returns-clause-live
returns-clause-live c = λ H replica served piece server entry by_server.
    (accept_live H replica served piece server by_server, live_accept H replica served piece server by_server)

pub returns-clause-made : goal.returns-clause-made
returns-clause-made c = λ H replica served piece server object kind by_server.
    (accept_made H replica served piece server by_server, made_accept H replica served piece server by_server)
