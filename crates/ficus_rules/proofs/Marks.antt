-- `marks`: its answer is one, and the same over views that are the same.
use Rattle.std.proofs.Common.{◌≡◌, ◌↔◌, List}
use Rattle.ficus_ids.specs.RisingLaws.{same_items}
use Rattle.ficus_entry.specs.declared.entry.Entry.{Entry}
use Rattle.ficus_entry.specs.declared.entry.State.{State}
use Rattle.ficus_entry.specs.declared.entry.State.TheVariants.{Live, Dead}
use Rattle.ficus_model.specs.Live.{ModelEntry}
use Rattle.ficus_commands.specs.declared.told.Told.TheVariants.{Marks}
use Rattle.ficus_rules.specs.Marks.{IsMarkedIn, AreMarksIn, MarksRule, without_state}
use Rattle.ficus_rules.specs.Rule.{Once, Along}
use Rattle.ficus_rules.specs.View.{View, SameView}
use Rattle.ficus_rules.proofs.Rules.{tells_once, tells_along}

one_list_of_marks : (view : View) (entries others : List Entry) → AreMarksIn view entries → AreMarksIn view others →
    entries ≡ others
one_list_of_marks view entries others are also =
    same_items (λ (entry : Entry). entry.id) entries others are.rising also.rising (λ entry. (
      λ inside. (also.all entry).1 ((are.all entry).0 inside),
      λ inside. (are.all entry).1 ((also.all entry).0 inside),
    ))

pub marks_once : (view : View) → Once (MarksRule view)
marks_once view = tells_once Marks (one_list_of_marks view)

module _ {one other : View} (same : SameView one other) where
  marked_same : (entry : ModelEntry) (state : State) → IsMarkedIn one entry state ↔ IsMarkedIn other entry state
  marked_same entry Live = (λ none. none, λ none. none)
  marked_same entry (Dead knowing knowing_all_know) = same.marks entry knowing knowing_all_know

  marks_there : (entries : List Entry) → AreMarksIn one entries → AreMarksIn other entries
  marks_there entries are = record {
    all = λ entry.
        let either = marked_same (without_state entry) entry.state in (
          λ inside. either.0 ((are.all entry).0 inside),
          λ marked. (are.all entry).1 (either.1 marked),
        );
    rising = are.rising;
  }

  pub marks_along : Along (MarksRule one) (MarksRule other)
  marks_along = tells_along Marks marks_there
