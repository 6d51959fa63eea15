-- `detached`: what it answers.
use Rattle.std.specs.Prelude.{◌↔◌, List, Result, Contains}
use Rattle.ficus_ids.specs.Rising.{IsRisingBy}
use Rattle.ficus_ids.specs.declared.id.Id.{Id}
use Rattle.ficus_ids.specs.declared.kind.Kind.TheVariants.{Dir}
use Rattle.ficus_ids.specs.declared.refusal.Refusal.{Refusal}
use Rattle.ficus_commands.specs.declared.told.Told.{Told}
use Rattle.ficus_commands.specs.declared.told.Told.TheVariants.{Detached}
use Rattle.ficus_rules.specs.Rule.{Tells}
use Rattle.ficus_rules.specs.View.{View, IsInReachIn, IsNamedIn}

-- a directory with a live name that isn't in reach
pub record IsDetachedIn (view : View) (dir : Id) : Type 0 where
  pub directory : view.kinds dir Dir
  pub named : IsNamedIn view dir
  pub apart : IsInReachIn view dir → ⊥

-- exactly the detached directories, rising
pub record AreDetachedIn (view : View) (dirs : List Id) : Type 0 where
  pub all : (dir : Id) → Contains dirs dir ↔ IsDetachedIn view dir
  pub rising : IsRisingBy (λ (id : Id). id) dirs

-- the detached directories; never refused
abbrev pub DetachedRule : View → Result Told Refusal → Type 0
DetachedRule view = Tells Detached (AreDetachedIn view)
