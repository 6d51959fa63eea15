-- The laws of single commands, as the law functions state them.
use Rattle.std.specs.Prelude.{◌≡◌, ◌↔◌, ℕ, List, [], Ok}
use Rattle.ficus_ids.specs.declared.id.Id.{Id}
use Rattle.ficus_path.specs.declared.path.Path.{Path}
use Rattle.ficus_model.specs.declared.event.Event.{Event}
use Rattle.ficus_model.specs.Known.{Knows}
use Rattle.ficus_model.specs.Lawful.{Volume}
use Rattle.ficus_model.specs.Live.{ModelEntry, IsEntered, IsLive}
use Rattle.ficus_commands.specs.declared.change.Change.{Change}
use Rattle.ficus_commands.specs.declared.change.Change.TheVariants as change
use Rattle.ficus_rules.specs.Adopt.{AdoptRule}
use Rattle.ficus_rules.specs.Change.{ChangeRule, MayWantMemory}
use Rattle.ficus_rules.specs.Remove.{IsFullIn, RemoveRule}
use Rattle.ficus_rules.specs.Rename.{RenameRule}
use Rattle.ficus_rules.specs.Resolve.{ResolveRule}
use Rattle.ficus_rules.specs.Rule.{RefusesNothing}
use Rattle.ficus_rules.specs.View.{IsDirectoryIn, history_view}
use Rattle.ficus_rules.specs.Walk.{EntryRule, VersionedRule, Found, Places, PlacesRule}
use Rattle.ficus_script.specs.declared.answer.Answer.{Answer}
use Rattle.ficus_script.specs.declared.answer.Answer.TheVariants.{Collected}
use Rattle.ficus_script.specs.declared.command.Command.{Command}
use Rattle.ficus_script.specs.declared.command.Command.TheVariants as command
use Rattle.ficus_runs.specs.ModelWorld.{ModelWorld}
use Rattle.ficus_runs.specs.Outcome.{Outcome}
use Rattle.ficus_runs.specs.Run.{OnlyLooks, Run, Step}

-- what only looks changes nothing, and asks nothing of the outside
abbrev pub LooksChangeNothing : Type 0
LooksChangeNothing = (volume : Volume) (W after : ModelWorld) (asked : Command) (outcomes : List Outcome)
    (answer : Answer) → OnlyLooks asked → Step volume W asked outcomes answer after →
    (after ≡ W) × (outcomes ≡ [])

-- a collection that is answered straight behind one of the same member is answered with no entry and no object
abbrev pub SecondCollectsNothing : Type 0
SecondCollectsNothing = (volume : Volume) (W middle after : ModelWorld) (by entries objects again files : ℕ)
    (outcomes more : List Outcome) → Step volume W (command.Collect by) outcomes (Collected entries objects) middle →
    Step volume middle (command.Collect by) more (Collected again files) after → (again ≡ 0) × (files ≡ 0)

-- what a member had heard of and has alive after some commands it had alive before them
abbrev pub WasAlive : Type 0
WasAlive = (volume : Volume) (W after : ModelWorld) (commands : List Command) (outcomes : List (List Outcome))
    (answers : List Answer) (replica : ℕ) (entry : ModelEntry) → Run volume W commands outcomes answers after →
    IsEntered W.events (Knows W.events replica) entry → IsLive after.events (Knows after.events replica) entry →
    IsLive W.events (Knows W.events replica) entry

-- the change has to take memory before it knows all that refuses it
abbrev pub TakesMemoryEarly : Change → Type 0
TakesMemoryEarly (change.MkDir path) = ⊥
TakesMemoryEarly (change.Create path kind) = ⊥
TakesMemoryEarly (change.Symlink path text) = ⊥
TakesMemoryEarly (change.Write path text) = ⊥
TakesMemoryEarly (change.Settle path text) = ⊥
TakesMemoryEarly (change.Resolve path) = Unit {0}
TakesMemoryEarly (change.Rm path) = Unit {0}
TakesMemoryEarly (change.Ln from path) = ⊥
TakesMemoryEarly (change.Mv from path) = Unit {0}
TakesMemoryEarly (change.Adopt orphan path) = Unit {0}
TakesMemoryEarly (change.Discard orphan) = ⊥

-- any other wants it exactly where its rule refuses nothing
abbrev pub OthersWantMemoryLate : Type 0
OthersWantMemoryLate = (volume : Volume) (H : List Event) (replica : ℕ) (asked : Change) →
    (TakesMemoryEarly asked → ⊥) → let view = history_view volume H replica in
    MayWantMemory view asked ↔ RefusesNothing (ChangeRule view asked)

-- and so does each of the four where it comes to no file in conflict, to nothing that is full, to no directory
abbrev pub ResolvesWantMemoryLate : Type 0
ResolvesWantMemoryLate = (volume : Volume) (H : List Event) (replica : ℕ) (path : Path) →
    let view = history_view volume H replica in
    ((file : Id) → VersionedRule view path (Ok file) → view.conflicts file → ⊥) →
    MayWantMemory view (change.Resolve path) ↔ RefusesNothing (ResolveRule view path)

abbrev pub RemovesWantMemoryLate : Type 0
RemovesWantMemoryLate = (volume : Volume) (H : List Event) (replica : ℕ) (path : Path) →
    let view = history_view volume H replica in
    ((found : Found) → EntryRule view path (Ok found) → IsFullIn view found.object → ⊥) →
    MayWantMemory view (change.Rm path) ↔ RefusesNothing (RemoveRule view path)

abbrev pub MovesWantMemoryLate : Type 0
MovesWantMemoryLate = (volume : Volume) (H : List Event) (replica : ℕ) (from path : Path) →
    let view = history_view volume H replica in
    ((places : Places) → PlacesRule view from path (Ok places) → IsDirectoryIn view places.found.object → ⊥) →
    MayWantMemory view (change.Mv from path) ↔ RefusesNothing (RenameRule view from path)

abbrev pub AdoptsWantMemoryLate : Type 0
AdoptsWantMemoryLate = (volume : Volume) (H : List Event) (replica : ℕ) (orphan : Id) (path : Path) →
    let view = history_view volume H replica in
    (view.orphans orphan → IsDirectoryIn view orphan → ⊥) →
    MayWantMemory view (change.Adopt orphan path) ↔ RefusesNothing (AdoptRule view orphan path)
