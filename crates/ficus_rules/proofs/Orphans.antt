-- `orphans`: its answer is one, and the same over views that show the same.
use Rattle.std.proofs.Common.{◌≡◌, List}
use Rattle.ficus_ids.specs.RisingLaws.{same_items}
use Rattle.ficus_file.specs.declared.orphan.Orphan.{Orphan}
use Rattle.ficus_commands.specs.declared.told.Told.TheVariants.{Orphans}
use Rattle.ficus_rules.specs.Orphans.{IsOrphanTold, AreOrphansIn, OrphansRule}
use Rattle.ficus_rules.specs.Rule.{Once, Along}
use Rattle.ficus_rules.specs.View.{View, SameShown}
use Rattle.ficus_rules.proofs.Rules.{tells_once, tells_along}
use Rattle.ficus_rules.proofs.Views.{same_back}

one_list_of_orphans : (view : View) (orphans others : List Orphan) → AreOrphansIn view orphans →
    AreOrphansIn view others → orphans ≡ others
one_list_of_orphans view orphans others are also =
    same_items (λ (orphan : Orphan). orphan.id) orphans others are.rising also.rising (λ orphan. (
      λ inside. (also.all orphan).1 ((are.all orphan).0 inside),
      λ inside. (are.all orphan).1 ((also.all orphan).0 inside),
    ))

pub orphans_once : (view : View) → Once (OrphansRule view)
orphans_once view = tells_once Orphans (one_list_of_orphans view)

orphan_there : {one other : View} → SameShown one other → (orphan : Orphan) → IsOrphanTold one orphan →
    IsOrphanTold other orphan
orphan_there same orphan told =
    let conflict = same.conflicts orphan.id in
    record {
      is = (same.orphans orphan.id).0 told.is;
      kind = (same.kinds orphan.id orphan.kind).0 told.kind;
      conflict = (λ flag. conflict.0 (told.conflict.0 flag), λ has. told.conflict.1 (conflict.1 has));
    }

pub orphans_along : {one other : View} → SameShown one other → Along (OrphansRule one) (OrphansRule other)
orphans_along same = tells_along Orphans (λ orphans are. record {
  all = λ orphan. (
    λ inside. orphan_there same orphan ((are.all orphan).0 inside),
    λ told. (are.all orphan).1 (orphan_there (same_back same) orphan told),
  );
  complete = λ object orphan. are.complete object ((same.orphans object).1 orphan);
  rising = are.rising;
})
