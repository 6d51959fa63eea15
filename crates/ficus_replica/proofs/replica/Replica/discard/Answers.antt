use Rattle.std.proofs.Common.{Result, Ok, Err, inl, inr}
use Rattle.ficus_ids.specs.declared.id.Id.{Id}
use Rattle.ficus_ids.specs.declared.refusal.Refusal.{Refusal}
use Rattle.ficus_ids.specs.declared.refusal.Refusal.TheVariants.{Memory}
use Rattle.ficus_model.specs.declared.event.Op.{Op}
use Rattle.ficus_commands.specs.declared.change.Change.TheVariants.{Discard as Discards}
use Rattle.ficus_rules.specs.Change.{ChangeAnswer}
use Rattle.ficus_rules.specs.Discard.{DiscardRule}
use Rattle.ficus_rules.specs.View.{View}
use Rattle.ficus_rules.proofs.Rules.{or_refused}
use Rattle.ficus_deciding.specs.View.{tables_view}
use Rattle.ficus_replica.proofs.replica.Replica.discard.Goals as goal

discard_never : (view : View) (orphan : Id) → DiscardRule view orphan (Err Memory) → ⊥
discard_never view orphan (inl (isnt, e)) = cc
discard_never view orphan (inr (is, inl (directory, e))) = cc
discard_never view orphan (inr (is, inr (file, inl (spent, e)))) = cc
discard_never view orphan (inr (is, inr (file, inr (left, none)))) = none

as_answer : (view : View) (orphan : Id) (result : Result Op Refusal) → DiscardRule view orphan result →
    ChangeAnswer view (Discards orphan) result
as_answer view orphan (Ok op) gives = gives
as_answer view orphan (Err refusal) refused =
    or_refused _ (DiscardRule view orphan) (DiscardRule view orphan) refusal (discard_never view orphan) (λ is. is)
    refused

pub done-requires-clause-change : goal.done-requires-clause-change
done-requires-clause-change c = (
  Discards c.args.orphan,
  as_answer (tables_view c.args.self.now.saved) c.args.orphan c.discard.result
      c.discard.ensures,
)

pub returns-clause-gives : goal.returns-clause-gives
returns-clause-gives c =
    c.done.ensures.gives (Discards c.args.orphan)
    (as_answer (tables_view c.args.self.now.saved) c.args.orphan c.discard.result c.discard.ensures)
