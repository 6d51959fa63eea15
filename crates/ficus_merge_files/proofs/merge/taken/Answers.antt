use Rattle.std.proofs.Common.{Some, refl, ap}
use Rattle.ficus_merge_files.proofs.merge.taken.Goals as goal

pub returns-then-not-is_among-clause-taken : goal.returns-then-not-is_among-clause-taken
returns-then-not-is_among-clause-taken c = record {
  named = λ inside. absurd (let yes = c.is_among.ensures.1 inside in cc);
  unnamed = λ _. refl;
}

pub returns-clause-taken : goal.returns-clause-taken
returns-clause-taken c = record {
  named = λ _. ap Some c.in_ok-shared.ensures;
  unnamed = λ none. absurd (none (c.is_among.ensures.0 c.if-not-is_among.false));
}
