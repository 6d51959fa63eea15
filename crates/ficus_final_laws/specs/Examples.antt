-- Two histories of two members, in which what the laws speak of happens.
use Rattle.std.specs.Prelude.{List, [], ◌∷◌, codes}
use Rattle.ficus_ids.specs.declared.id.Id.{Id}
use Rattle.ficus_ids.specs.declared.id.TheConstants.{ROOT}
use Rattle.ficus_ids.specs.declared.kind.Kind.TheVariants.{Plain}
use Rattle.ficus_model.specs.declared.event.Event.{Event}
use Rattle.ficus_model.specs.declared.event.Event.TheVariants.{Update, Ask, Serve, Accept, Collect}
use Rattle.ficus_model.specs.declared.event.Op.{Op}
use Rattle.ficus_model.specs.declared.event.Op.TheVariants.{Make, Remove, Write, Settle}
use Rattle.ficus_model.specs.Lawful.{Volume}

-- the file of both: the first update of the first member makes it
abbrev pub example_file : Id
example_file = record { replica = 1; number = 1 }

abbrev pub makes_file : Op
makes_file = Make ROOT (codes "a") Plain []

abbrev pub removes_file : Op
removes_file = Remove (example_file ∷ []) example_file

-- The first member makes a file and removes it. The second pulls from it, and it from the second. It collects, at
-- position 8. Then the second pulls once more.
abbrev pub done_volume : Volume
done_volume = record { members = 2; ids = 2; bytes = 0 }

abbrev pub done_history : List Event
done_history =
    Update 1 makes_file ∷ Update 1 removes_file ∷ Ask 2 1 ∷ Serve 1 2 2 1 ∷ Accept 2 3 0 ∷ Ask 1 2 ∷ Serve 2 5 2 1 ∷
    Accept 1 6 0 ∷
    Collect 1 ∷ Ask 2 1 ∷ Serve 1 9 5 1 ∷ Accept 2 10 0 ∷ []

-- The first member makes a file, and the second pulls from it. Both write. The first pulls, and settles the conflict.
-- The second removes the file, and the first pulls.
abbrev pub conflict_volume : Volume
conflict_volume = record { members = 2; ids = 3; bytes = 2 }

abbrev pub conflict_history : List Event
conflict_history =
    Update 1 makes_file ∷ Ask 2 1 ∷ Serve 1 1 1 1 ∷ Accept 2 2 0 ∷ Update 1 (Write example_file (codes "x")) ∷
    Update 2 (Write example_file (codes "y")) ∷ Ask 1 2 ∷ Serve 2 6 3 1 ∷ Accept 1 7 0 ∷
    Update 1 (Settle example_file (codes "z")) ∷ Update 2 removes_file ∷ Ask 1 2 ∷ Serve 2 11 4 1 ∷ Accept 1 12 0 ∷ []
