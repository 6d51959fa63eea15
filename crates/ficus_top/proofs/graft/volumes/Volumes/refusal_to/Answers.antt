use Rattle.ficus_top.proofs.graft.volumes.Volumes.refusal_to.Goals as goal

pub returns-clause-finds : goal.returns-clause-finds
returns-clause-finds g c = record {
  answer = c.in_ok-answer.answer;
  sends = c.in_ok-answer.ensures;
  refused = c.refusal_of.ensures.found;
  unrefused = c.refusal_of.ensures.none;
}
