-- `conflicts`: its answer is one, and the same over views that show the same.
use Rattle.std.proofs.Common.{◌≡◌}
use Rattle.ficus_ids.specs.RisingLaws.{same_items}
use Rattle.ficus_ids.specs.declared.id.Id.{Id}
use Rattle.ficus_names.specs.ClashLaws.{AreNameClashes-along, one_list_of_clashes}
use Rattle.ficus_names.specs.declared.clash.Clashes.{Clashes}
use Rattle.ficus_commands.specs.declared.told.Told.TheVariants.{Conflicts}
use Rattle.ficus_rules.specs.Conflicts.{AreClashesIn, ConflictsRule}
use Rattle.ficus_rules.specs.Rule.{Once, Along}
use Rattle.ficus_rules.specs.View.{View, SameShown}
use Rattle.ficus_rules.proofs.Rules.{tells_once, tells_along}
use Rattle.ficus_rules.proofs.Views.{bound_same}

one_clashes : (view : View) (clashes others : Clashes) → AreClashesIn view clashes → AreClashesIn view others →
    clashes ≡ others
one_clashes view clashes others are also =
    let names : clashes.names ≡ others.names = one_list_of_clashes clashes.names others.names are.names also.names in
    let files : clashes.files ≡ others.files =
    same_items (λ (id : Id). id) clashes.files others.files are.rising also.rising (λ file. (
      λ inside. (also.files file).1 ((are.files file).0 inside),
      λ inside. (are.files file).1 ((also.files file).0 inside),
    )) in
    λ i. record { names = names i; files = files i }

pub conflicts_once : (view : View) → Once (ConflictsRule view)
conflicts_once view = tells_once Conflicts (one_clashes view)

pub conflicts_along : {one other : View} → SameShown one other → Along (ConflictsRule one) (ConflictsRule other)
conflicts_along same = tells_along Conflicts (λ clashes are. record {
  names = AreNameClashes-along (bound_same same) are.names;
  files = λ file.
      let either = same.conflicts file in
      (λ inside. either.0 ((are.files file).0 inside), λ conflict. (are.files file).1 (either.1 conflict));
  rising = are.rising;
})
