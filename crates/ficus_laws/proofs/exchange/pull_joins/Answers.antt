use Rattle.std.proofs.Common.{inl, inr}
use Rattle.ficus_laws.proofs.Pull.{lawful_pulled, count_pulled, pulled_keeps, pulled_brings, knows_pulled, knows_pulled_other, same_pulled_other, pulled_live, live_pulled, pulled_made, made_pulled}
use Rattle.ficus_laws.proofs.Shown.{shows_same}
use Rattle.ficus_laws.proofs.exchange.pull_joins.Goals as goal

pub returns-clause-lawful : goal.returns-clause-lawful
returns-clause-lawful c = λ volume H replica server last pull. lawful_pulled H replica server last volume pull.replica_is pull.server_is pull.differ pull.lawful

pub returns-clause-joined : goal.returns-clause-joined
returns-clause-joined c = λ H replica server last. record {
  known = λ position below. (
    λ known. knows_pulled H replica server last known below,
    elim [
      | inl own ↦ pulled_keeps H replica server last own
      | inr his ↦ pulled_brings H replica server last his
    ],
  );
  live = λ entry. (pulled_live H replica server last, live_pulled H replica server last);
  made = λ object kind. (pulled_made H replica server last, made_pulled H replica server last);
  others_know = λ other position differs below. (λ known. knows_pulled_other H replica server last differs known below, pulled_keeps H replica server last);
  others_shown = λ other differs. shows_same (same_pulled_other H replica server last differs);
  counts = count_pulled H replica server last;
}
