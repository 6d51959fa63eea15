-- What a look tells over the tables it tells over the history.
use Rattle.std.proofs.Common.{ℕ, List, Result}
use Rattle.ficus_ids.specs.declared.refusal.Refusal.{Refusal}
use Rattle.ficus_model.specs.declared.event.Event.{Event}
use Rattle.ficus_model.specs.Lawful.{Volume, IsLawful}
use Rattle.ficus_commands.specs.declared.look.Look.{Look}
use Rattle.ficus_commands.specs.declared.told.Told.{Told}
pub use Rattle.ficus_rules.proofs.Looks.{look_once, look_along}
use Rattle.ficus_rules.proofs.Looks.{look_memory_along}
use Rattle.ficus_replica.specs.declared.replica.Replica.{Replica}
use Rattle.ficus_replica.specs.Look.{LookGives, LookStands}
use Rattle.ficus_replica.specs.SavedOf.{StandsFor}
use Rattle.ficus_replica.proofs.Views.{stands_same}

pub look_stands : {volume : Volume} {H : List Event} {r : ℕ} {replica : Replica} → IsLawful volume H →
    StandsFor volume H r replica → (look : Look) (result : Result Told Refusal) → LookGives replica look result →
    LookStands volume H r look result
look_stands lawful stands look result gives =
    look_memory_along (stands_same lawful stands.saved) look result gives
