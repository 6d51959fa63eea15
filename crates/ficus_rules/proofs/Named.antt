-- The entries of a name: they are one list, and the same over views that show the same.
use Rattle.std.proofs.Common.{◌≡◌, ◌↔◌, ℕ, List}
use Rattle.ficus_ids.specs.RisingLaws.{same_items}
use Rattle.ficus_ids.specs.declared.id.Id.{Id}
use Rattle.ficus_rules.specs.Named.{IsBoundByIn, AreNamedIn, HasOtherNameIn}
use Rattle.ficus_rules.specs.View.{View, SameShown}
use Rattle.ficus_rules.proofs.Views.{same_back}

pub one_named : (view : View) (dir : Id) (name : List ℕ) (target : Id) (entries others : List Id) →
    AreNamedIn view dir name target entries → AreNamedIn view dir name target others → entries ≡ others
one_named view dir name target entries others are also =
    same_items (λ (id : Id). id) entries others are.rising also.rising
    (λ id. (λ inside. (also.all id).1 ((are.all id).0 inside), λ inside. (are.all id).1 ((also.all id).0 inside)))

module _ {one other : View} (same : SameShown one other) where
  bound_by_there : {id dir target : Id} {name : List ℕ} → IsBoundByIn one id dir name target →
      IsBoundByIn other id dir name target
  bound_by_there by =
      let bound = by.bound in
      record {
        bound = record {
          entry = bound.entry;
          live = (same.live bound.entry).0 bound.live;
          in_dir = bound.in_dir;
          named = bound.named;
          leads = bound.leads;
        };
        by = by.by;
      }

  other_name_there : {dir target : Id} {name : List ℕ} → HasOtherNameIn one dir name target →
      HasOtherNameIn other dir name target
  other_name_there has =
      record { entry = has.entry; live = (same.live has.entry).0 has.live; leads = has.leads; other = has.other }

module _ {one other : View} (same : SameShown one other) where
  pub named_there : {dir target : Id} {name : List ℕ} (entries : List Id) → AreNamedIn one dir name target entries →
      AreNamedIn other dir name target entries
  named_there entries are = record {
    all = λ id. (
      λ inside. bound_by_there same ((are.all id).0 inside),
      λ bound. (are.all id).1 (bound_by_there (same_back same) bound),
    );
    rising = are.rising;
  }

  pub other_name_same : (dir : Id) (name : List ℕ) (target : Id) →
      HasOtherNameIn one dir name target ↔ HasOtherNameIn other dir name target
  other_name_same dir name target = (λ has. other_name_there same has, λ has. other_name_there (same_back same) has)
