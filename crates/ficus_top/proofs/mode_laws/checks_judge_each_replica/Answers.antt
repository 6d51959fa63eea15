use Rattle.std.proofs.Common.{List, ◌++◌, sym, subst, ap, ◌∙◌, inl, inr}
use Rattle.ficus_ids.specs.Members.{IsMember}
use Rattle.ficus_opening.specs.Check.Lines.{checked_line}
use Rattle.ficus_runs.proofs.Numbers.{number_exists}
use Rattle.ficus_top.proofs.ModeLaws.{lines_have}
use Rattle.ficus_top.proofs.mode_laws.checks_judge_each_replica.Goals as goal

pub returns-clause-told : goal.returns-clause-told
returns-clause-told g c = λ before after was now disks later status does tells told zero r pair is.
    let puts = does.told tells zero in
    let found = number_exists puts.judgements r (subst (λ n. IsMember n r) (sym puts.judged.counted) is.member) in
    let at = lines_have checked_line puts.judgements r found.0 found.1 in (
      found.0,
      puts.judged.each told r pair found.0 is found.1,
      at.0,
      at.1,
      puts.put ∙ ap (λ (text : List _). g.K.Sink.written was ++ text) at.2,
    )

pub returns-clause-silent : goal.returns-clause-silent
returns-clause-silent g c = λ before after was now disks later status does. elim does.codes [
  | inl zero ↦ inl zero
  | inr (inl three) ↦ inr (inr (does.silent (inl three)))
  | inr (inr (inl five)) ↦ inr (inl five)
  | inr (inr (inr six)) ↦ inr (inr (does.silent (inr six)))
]
