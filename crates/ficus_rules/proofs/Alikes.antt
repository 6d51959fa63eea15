-- Views that are alike: those that show the same are, and so are others that show the same as two that are.
use Rattle.std.proofs.Common.{◌↔◌}
use Rattle.ficus_rules.specs.Alike.{AreAlike}
use Rattle.ficus_rules.specs.View.{View, SameShown}
use Rattle.ficus_rules.proofs.Views.{bound_same, same_back, turned}

pub same_shown_alike : {one other : View} → SameShown one other → AreAlike one other
same_shown_alike same = record {
  bound = bound_same same;
  kinds = same.kinds;
  versions = same.versions;
  orphans = same.orphans;
}

-- what is so in the first is so in the second, which is so in the third, which is so in the fourth
through : {A B C D : Type 0} → A ↔ B → B ↔ C → C ↔ D → A ↔ D
through first second third = (
  λ a. third.0 (second.0 (first.0 a)),
  λ d. first.1 (second.1 (third.1 d)),
)

pub alike_back : {one other : View} → AreAlike one other → AreAlike other one
alike_back alike = record {
  bound = λ dir name target. turned (alike.bound dir name target);
  kinds = λ object kind. turned (alike.kinds object kind);
  versions = λ object versions. turned (alike.versions object versions);
  orphans = λ object. turned (alike.orphans object);
}

alike_there : {one other same same_too : View} → SameShown same one → SameShown other same_too → AreAlike one other →
    AreAlike same same_too
alike_there here there alike = record {
  bound = λ dir name target. through (bound_same here dir name target) (alike.bound dir name target)
      (bound_same there dir name target);
  kinds = λ object kind. through (here.kinds object kind) (alike.kinds object kind) (there.kinds object kind);
  versions = λ object versions.
      through (here.versions object versions) (alike.versions object versions) (there.versions object versions);
  orphans = λ object. through (here.orphans object) (alike.orphans object) (there.orphans object);
}

pub alike_along : {one other same same_too : View} → SameShown one same → SameShown other same_too →
    AreAlike one other ↔ AreAlike same same_too
alike_along here there =
    (alike_there (same_back here) there, alike_there here (same_back there))
