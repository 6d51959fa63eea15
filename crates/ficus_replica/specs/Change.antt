-- What the changes of a replica give, and what they are for the history.
use Rattle.std.specs.Prelude.{◌≡◌, ℕ, List, Result, Ok, Err}
use Rattle.ficus_ids.specs.declared.refusal.Refusal.{Refusal}
use Rattle.ficus_model.specs.declared.event.Event.{Event}
use Rattle.ficus_model.specs.declared.event.Event.TheVariants.{Update}
use Rattle.ficus_model.specs.Lawful.{Volume}
use Rattle.ficus_deciding.specs.View.{tables_view}
use Rattle.ficus_commands.specs.declared.change.Change.{Change}
use Rattle.ficus_rules.specs.Change.{ChangeAnswer, ChangeRule}
use Rattle.ficus_rules.specs.View.{history_view}
use Rattle.ficus_replica.specs.declared.replica.Next.{Next}
use Rattle.ficus_replica.specs.declared.replica.Replica.{Replica}
use Rattle.ficus_replica.specs.Effect.{Applied}
use Rattle.ficus_replica.specs.SavedOf.{StandsAfter}

-- the operation is the rule's, over what the replica holds; what is saved is what it makes of it, and no more
pub record Changed (old : Replica) (change : Change) (next : Next) : Type 0 where
  pub answer : ChangeRule (tables_view old.saved) change (Ok next.op)
  pub applied : Applied old.saved next.op next.replica.saved
  pub ask : next.replica.ask ≡ old.ask

-- what a change gives, over what the replica holds
abbrev pub ChangeGives : Replica → Change → Result Next Refusal → Type 0
ChangeGives old change (Ok next) = Changed old change next
ChangeGives old change (Err refusal) = ChangeAnswer (tables_view old.saved) change (Err refusal)

-- the operation is the rule's after the history; it may come, and the next replica stands for the history with it
pub record ChangedAfter (volume : Volume) (H : List Event) (r : ℕ) (change : Change) (next : Next) : Type 0 where
  pub answer : ChangeRule (history_view volume H r) change (Ok next.op)
  pub after : StandsAfter volume H r (Update r next.op) next.replica

-- what a change of replica r gives after the history
abbrev pub ChangeStands : Volume → List Event → ℕ → Change → Result Next Refusal → Type 0
ChangeStands volume H r change (Ok next) = ChangedAfter volume H r change next
ChangeStands volume H r change (Err refusal) = ChangeAnswer (history_view volume H r) change (Err refusal)
