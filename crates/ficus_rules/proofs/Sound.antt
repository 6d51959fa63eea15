-- What makes a view have one answer, and why what is shown after a history has it.
use Rattle.std.proofs.Common.{◌≡◌, ℕ, List}
use Rattle.ficus_ids.specs.declared.id.Id.{Id}
use Rattle.ficus_ids.specs.declared.kind.Kind.{Kind}
use Rattle.ficus_file.specs.declared.version.Version.{Version}
use Rattle.ficus_model.specs.declared.event.Event.{Event}
use Rattle.ficus_model.specs.Lawful.{Volume}
use Rattle.ficus_laws.proofs.Issued.{made_once}
use Rattle.ficus_file_laws.proofs.Listing.{one_list}
use Rattle.ficus_rules.specs.View.{View, history_view}

-- each object is of one kind, and has one list of versions
pub record IsSound (view : View) : Type 0 where
  pub one_kind : (object : Id) (kind other : Kind) → view.kinds object kind → view.kinds object other → kind ≡ other
  pub one_list : (object : Id) (versions others : List Version) →
      view.versions object versions → view.versions object others → versions ≡ others

-- an object is made once, and those of its versions that are shown stand in one order
pub history_sound : (volume : Volume) (H : List Event) (replica : ℕ) → IsSound (history_view volume H replica)
history_sound volume H replica = record {
  one_kind = λ object kind other made made_too. made_once made.1 made_too.1;
  one_list = λ object versions others are are_too. one_list versions others are.1 are_too.1;
}
