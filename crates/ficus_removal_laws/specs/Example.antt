-- A history of two members: the first makes a file and removes it, the second pulls from it, it pulls from the
-- second, and collects.
use Rattle.std.specs.Prelude.{List, [], ◌∷◌, codes}
use Rattle.ficus_ids.specs.declared.id.Id.{Id}
use Rattle.ficus_ids.specs.declared.id.TheConstants.{ROOT}
use Rattle.ficus_ids.specs.declared.kind.Kind.TheVariants.{Plain}
use Rattle.ficus_model.specs.declared.event.Event.{Event}
use Rattle.ficus_model.specs.declared.event.Event.TheVariants.{Update, Ask, Serve, Accept, Collect}
use Rattle.ficus_model.specs.declared.event.Op.TheVariants.{Make, Remove}
use Rattle.ficus_model.specs.Lawful.{Volume}

abbrev pub drop_volume : Volume
drop_volume = record { members = 2; ids = 2; bytes = 0 }

abbrev pub drop_entry : Id
drop_entry = record { replica = 1; number = 1 }

abbrev pub drop_history : List Event
drop_history =
    Update 1 (Make ROOT (codes "a") Plain []) ∷ Update 1 (Remove (drop_entry ∷ []) drop_entry) ∷
    Ask 2 1 ∷ Serve 1 2 2 1 ∷ Accept 2 3 0 ∷ Ask 1 2 ∷ Serve 2 5 2 1 ∷ Accept 1 6 0 ∷ Collect 1 ∷ []
