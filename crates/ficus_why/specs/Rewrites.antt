-- The updates that give a file that was made before other bytes, and which of them are shown.
use Rattle.std.specs.Prelude.{◌≡◌, ℕ, List, Option, Some, None}
use Rattle.std.specs.Option.{option_flatten, option_map}
use Rattle.ficus_ids.specs.declared.id.Id.{Id}
use Rattle.ficus_model.specs.declared.event.Event.{Event}
use Rattle.ficus_model.specs.declared.event.Op.{Op}
use Rattle.ficus_model.specs.declared.event.Op.TheVariants.{Make, Link, Remove, Move, Write, Settle, Resolve, Adopt, Discard}
use Rattle.ficus_model.specs.Events.{IsAt, traits}
use Rattle.ficus_model.specs.Known.{HasInPast}

-- the file that an operation rewrites, if one: a Make rewrites none
abbrev pub rewritten_by : Op → Option Id
rewritten_by (Make dir name kind text) = None
rewritten_by (Link dir name target) = None
rewritten_by (Remove entries target) = None
rewritten_by (Move entries dir name target) = None
rewritten_by (Write file bytes) = Some file
rewritten_by (Settle file bytes) = Some file
rewritten_by (Resolve file bytes) = Some file
rewritten_by (Adopt file dir name) = None
rewritten_by (Discard file) = None

-- the file that an event rewrites, if one
abbrev pub rewritten_in : Event → Option Id
rewritten_in event = option_flatten (option_map rewritten_by (traits event).update)

-- at this position stands a Write, a Settle or a Resolve of the file
pub record IsRewrite (H : List Event) (file : Id) (position : ℕ) : Type 0 where
  pub event : Event
  pub at : IsAt H position event
  pub rewrites : rewritten_in event ≡ Some file

-- a known rewrite of the file that lies in the past of no other known one is shown
pub record IsShownRewrite (H : List Event) (U : ℕ → Type 0) (file : Id) (position : ℕ) : Type 0 where
  pub rewrite : IsRewrite H file position
  pub known : U position
  pub latest : (other : ℕ) → IsRewrite H file other → U other → HasInPast H other position → ⊥
