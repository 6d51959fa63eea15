-- `orphans`: what it answers.
use Rattle.std.specs.Prelude.{◌↔◌, List, Result, Contains, IsTrue}
use Rattle.ficus_ids.specs.Rising.{HoldsBy, IsRisingBy}
use Rattle.ficus_ids.specs.declared.id.Id.{Id}
use Rattle.ficus_ids.specs.declared.refusal.Refusal.{Refusal}
use Rattle.ficus_file.specs.declared.orphan.Orphan.{Orphan}
use Rattle.ficus_commands.specs.declared.told.Told.{Told}
use Rattle.ficus_commands.specs.declared.told.Told.TheVariants.{Orphans}
use Rattle.ficus_rules.specs.Rule.{Tells}
use Rattle.ficus_rules.specs.View.{View}

-- an orphan of the view, with its kind, and whether it is in conflict
pub record IsOrphanTold (view : View) (orphan : Orphan) : Type 0 where
  pub is : view.orphans orphan.id
  pub kind : view.kinds orphan.id orphan.kind
  pub conflict : IsTrue orphan.conflict ↔ view.conflicts orphan.id

-- exactly the orphans of the view, each of which is in the list, by identifier
pub record AreOrphansIn (view : View) (orphans : List Orphan) : Type 0 where
  pub all : (orphan : Orphan) → Contains orphans orphan ↔ IsOrphanTold view orphan
  pub complete : (object : Id) → view.orphans object → HoldsBy (λ (orphan : Orphan). orphan.id) orphans object
  pub rising : IsRisingBy (λ (orphan : Orphan). orphan.id) orphans

-- the orphans; never refused
abbrev pub OrphansRule : View → Result Told Refusal → Type 0
OrphansRule view = Tells Orphans (AreOrphansIn view)
