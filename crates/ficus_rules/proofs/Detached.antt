-- `detached`: its answer is one, and the same over views that show the same.
use Rattle.std.proofs.Common.{◌≡◌, List}
use Rattle.ficus_ids.specs.RisingLaws.{same_items}
use Rattle.ficus_ids.specs.declared.id.Id.{Id}
use Rattle.ficus_ids.specs.declared.kind.Kind.TheVariants.{Dir}
use Rattle.ficus_commands.specs.declared.told.Told.TheVariants.{Detached}
use Rattle.ficus_rules.specs.Detached.{IsDetachedIn, AreDetachedIn, DetachedRule}
use Rattle.ficus_rules.specs.Rule.{Once, Along}
use Rattle.ficus_rules.specs.View.{View, SameShown}
use Rattle.ficus_rules.proofs.Rules.{tells_once, tells_along}
use Rattle.ficus_rules.proofs.Views.{in_reach_there, named_there, same_back}

one_list_of_detached : (view : View) (dirs others : List Id) → AreDetachedIn view dirs → AreDetachedIn view others →
    dirs ≡ others
one_list_of_detached view dirs others are also =
    same_items (λ (id : Id). id) dirs others are.rising also.rising (λ dir. (
      λ inside. (also.all dir).1 ((are.all dir).0 inside),
      λ inside. (are.all dir).1 ((also.all dir).0 inside),
    ))

pub detached_once : (view : View) → Once (DetachedRule view)
detached_once view = tells_once Detached (one_list_of_detached view)

detached_there : {one other : View} → SameShown one other → (dir : Id) → IsDetachedIn one dir → IsDetachedIn other dir
detached_there same dir detached = record {
  directory = (same.kinds dir Dir).0 detached.directory;
  named = named_there same dir detached.named;
  apart = λ reached. detached.apart (in_reach_there (same_back same) dir reached);
}

pub detached_along : {one other : View} → SameShown one other → Along (DetachedRule one) (DetachedRule other)
detached_along same = tells_along Detached (λ dirs are. record {
  all = λ dir. (
    λ inside. detached_there same dir ((are.all dir).0 inside),
    λ detached. (are.all dir).1 (detached_there (same_back same) dir detached),
  );
  rising = are.rising;
})
