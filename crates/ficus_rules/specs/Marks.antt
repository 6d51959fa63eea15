-- `marks`: what it answers.
use Rattle.std.specs.Prelude.{◌↔◌, List, Result, Contains}
use Rattle.ficus_ids.specs.Rising.{IsRisingBy}
use Rattle.ficus_ids.specs.declared.refusal.Refusal.{Refusal}
use Rattle.ficus_entry.specs.declared.entry.Entry.{Entry}
use Rattle.ficus_entry.specs.declared.entry.State.{State}
use Rattle.ficus_entry.specs.declared.entry.State.TheVariants.{Live, Dead}
use Rattle.ficus_model.specs.Live.{ModelEntry}
use Rattle.ficus_commands.specs.declared.told.Told.{Told}
use Rattle.ficus_commands.specs.declared.told.Told.TheVariants.{Marks}
use Rattle.ficus_rules.specs.Rule.{Tells}
use Rattle.ficus_rules.specs.View.{View}

-- an entry, without its state
abbrev pub without_state : Entry → ModelEntry
without_state entry = record { id = entry.id; dir = entry.dir; name = entry.name; target = entry.target }

-- the state is that of a removed entry, and its sets are those that the view has of it
abbrev pub IsMarkedIn : View → ModelEntry → State → Type 0
IsMarkedIn view entry Live = ⊥
IsMarkedIn view entry (Dead knowing knowing_all_know) = view.marks entry knowing knowing_all_know

-- exactly the removed entries that are held, with what is known of their removals, by identifier
pub record AreMarksIn (view : View) (entries : List Entry) : Type 0 where
  pub all : (entry : Entry) → Contains entries entry ↔ IsMarkedIn view (without_state entry) entry.state
  pub rising : IsRisingBy (λ (entry : Entry). entry.id) entries

-- the removed entries; never refused
abbrev pub MarksRule : View → Result Told Refusal → Type 0
MarksRule view = Tells Marks (AreMarksIn view)
