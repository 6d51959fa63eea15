-- Views that show the same.
use Rattle.std.proofs.Common.{◌≡◌, ◌↔◌, ◌⊎◌, ℕ, List, refl, sym, inl, inr}
use Rattle.ficus_ids.specs.declared.id.Id.{Id}
use Rattle.ficus_ids.specs.declared.id.TheConstants.{ROOT}
use Rattle.ficus_ids.specs.declared.kind.Kind.TheVariants.{Dir}
use Rattle.ficus_ids.specs.declared.kind.Sort.{Sort}
use Rattle.ficus_laws.proofs.Shown.{reached_from_more, reached_within}
use Rattle.ficus_rules.specs.View.{View, SameShown, SameView, IsBoundIn, IsTakenIn, IsDirectoryIn, IsForIn, IsInReachIn, IsNamedIn, IsReachedFromIn, IsReachedIn, IsWithinIn}

-- whatever is so is so, and where two things are so together, so they are the other way round
itself : {A : Type 0} → A ↔ A
itself = (λ is. is, λ is. is)

pub turned : {A B : Type 0} → A ↔ B → B ↔ A
turned either = (either.1, either.0)

pub same_itself : (view : View) → SameShown view view
same_itself view = record {
  members = refl;
  live = λ entry. itself;
  orphans = λ object. itself;
  kinds = λ object kind. itself;
  conflicts = λ object. itself;
  versions = λ object versions. itself;
}

pub same_back : {one other : View} → SameShown one other → SameShown other one
same_back same = record {
  members = sym same.members;
  live = λ entry. turned (same.live entry);
  orphans = λ object. turned (same.orphans object);
  kinds = λ object kind. turned (same.kinds object kind);
  conflicts = λ object. turned (same.conflicts object);
  versions = λ object versions. turned (same.versions object versions);
}

pub view_back : {one other : View} → SameView one other → SameView other one
view_back same = record {
  shown = same_back same.shown;
  marks = λ entry knowing knowing_all_know. turned (same.marks entry knowing knowing_all_know);
  spent = turned same.spent;
  over_quota = λ bytes. turned (same.over_quota bytes);
}

module _ {one other : View} (same : SameShown one other) where
  pub bound_there : {dir target : Id} {name : List ℕ} → IsBoundIn one dir name target → IsBoundIn other dir name target
  bound_there bound = record {
    entry = bound.entry;
    live = (same.live bound.entry).0 bound.live;
    in_dir = bound.in_dir;
    named = bound.named;
    leads = bound.leads;
  }

module _ {one other : View} (same : SameShown one other) where
  pub bound_same : (dir : Id) (name : List ℕ) (target : Id) →
      IsBoundIn one dir name target ↔ IsBoundIn other dir name target
  bound_same dir name target = (λ bound. bound_there same bound, λ bound. bound_there (same_back same) bound)

  pub taken_same : (dir : Id) (name : List ℕ) → IsTakenIn one dir name ↔ IsTakenIn other dir name
  taken_same dir name = (λ taken. (taken.0, bound_there same taken.1), λ taken. (taken.0, bound_there (same_back same) taken.1))

  pub directory_there : (object : Id) → IsDirectoryIn one object → IsDirectoryIn other object
  directory_there object (inl root) = inl root
  directory_there object (inr kind) = inr ((same.kinds object Dir).0 kind)

  pub for_there : (sort : Sort) (object : Id) → IsForIn one sort object → IsForIn other sort object
  for_there sort object is =
      record { kind = is.kind; of_kind = (same.kinds object is.kind).0 is.of_kind; is = is.is }

module _ {one other : View} (same : SameShown one other) where
  pub for_same : (sort : Sort) (object : Id) → IsForIn one sort object ↔ IsForIn other sort object
  for_same sort object = (for_there same sort object, for_there (same_back same) sort object)

  pub directory_same : (object : Id) → IsDirectoryIn one object ↔ IsDirectoryIn other object
  directory_same object = (directory_there same object, directory_there (same_back same) object)

  pub named_there : (object : Id) → IsNamedIn one object → IsNamedIn other object
  named_there object named = record {
    entry = named.entry;
    live = (same.live named.entry).0 named.live;
    leads = named.leads;
  }

  top_there : (top : Id) → (top ≡ ROOT) ⊎ one.orphans top → (top ≡ ROOT) ⊎ other.orphans top
  top_there top (inl root) = inl root
  top_there top (inr orphan) = inr ((same.orphans top).0 orphan)

  pub in_reach_there : (object : Id) → IsInReachIn one object → IsInReachIn other object
  in_reach_there object reached =
      reached_from_more top_there (reached_within (λ from to leads. (leads.0, bound_there same leads.1)) reached)

  pub reached_from_same : (start object : Id) → IsReachedFromIn one start object ↔ IsReachedFromIn other start object
  reached_from_same start object = (
    λ reached. reached_within (λ from to leads. (leads.0, bound_there same leads.1)) reached,
    λ reached. reached_within (λ from to leads. (leads.0, bound_there (same_back same) leads.1)) reached,
  )

  pub reached_same : (object : Id) → IsReachedIn one object ↔ IsReachedIn other object
  reached_same object = reached_from_same ROOT object

within_there : {one other : View} {object dir : Id} → SameShown one other → IsWithinIn one object dir →
    IsWithinIn other object dir
within_there {object = object} {dir = dir} same within = record {
  directory = (directory_same same object).0 within.directory;
  reached = (reached_from_same same object dir).0 within.reached;
}

pub within_same : {one other : View} → SameShown one other → (object dir : Id) →
    IsWithinIn one object dir ↔ IsWithinIn other object dir
within_same same object dir = (λ within. within_there same within, λ within. within_there (same_back same) within)
