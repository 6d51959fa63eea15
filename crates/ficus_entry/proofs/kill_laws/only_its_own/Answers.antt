use Rattle.std.proofs.Common.{refl, sym, ◌∙◌}
use Rattle.std.proofs.lemmas.Bool.{eq-eqb, eqb-true}
use Rattle.ficus_entry.proofs.kill_laws.only_its_own.Goals as goal

pub returns-clause-own : goal.returns-clause-own
returns-clause-own c = λ marks by only. only by ∙ eq-eqb by by refl

pub returns-clause-others : goal.returns-clause-others
returns-clause-others c = λ marks by replica only is. eqb-true replica by (sym (only replica) ∙ is)
