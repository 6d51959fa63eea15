-- Worlds of the model.
use Rattle.std.specs.Prelude.{ℕ, Bool, true, List, Option}
use Rattle.ficus_model.specs.declared.event.Event.{Event}
use Rattle.ficus_runs.specs.Numbered.{IsNumbered}

-- how a member stands: it takes commands; or it is down, with at most one event whose save failed
pub data Standing : Type 0 where
  Up : Standing
  Down : Option Event → Standing

-- what lies behind a posted message: the position of an ask, or of a Serve with the index of a piece of what was served
pub record Posted : Type 0 where
  pub position : ℕ
  pub index : ℕ

-- all that has happened, and how much of it had before the run; how each member stands; whether both of its disks have
-- a fuse; what lies behind each posted message; and how many bytes were posted
pub record ModelWorld : Type 0 where
  pub events : List Event
  pub earlier : ℕ
  pub standings : List Standing
  pub fused : List Bool
  pub posted : List Posted
  pub total : ℕ

-- the member takes commands
abbrev pub IsUp : ℕ → ModelWorld → Type 0
IsUp by W = IsNumbered W.standings by Up

-- both disks of the member have a fuse
abbrev pub IsFused : ℕ → ModelWorld → Type 0
IsFused by W = IsNumbered W.fused by true
