-- The changes: each has one answer, and the same over views that show the same, with want of memory where it is there.
use Rattle.std.proofs.Common.{Err, inl, inr}
use Rattle.ficus_ids.specs.declared.kind.Kind.TheVariants.{Dir}
use Rattle.ficus_commands.specs.declared.change.Change.{Change}
use Rattle.ficus_commands.specs.declared.change.Change.TheVariants.{MkDir, Create, Symlink, Write, Settle, Resolve, Rm, Ln, Mv, Adopt, Discard}
use Rattle.ficus_rules.specs.Change.{ChangeAnswer, ChangeRule, MayWantMemory}
use Rattle.ficus_rules.specs.Rule.{RefusesNothing, Once, Along}
use Rattle.ficus_rules.specs.View.{View, SameView}
use Rattle.ficus_rules.proofs.Adopts.{adopt_once, adopt_along, search_below_there}
use Rattle.ficus_rules.proofs.Discards.{discard_once, discard_along}
use Rattle.ficus_rules.proofs.Links.{link_once, link_along}
use Rattle.ficus_rules.proofs.Makes.{make_once, make_along}
use Rattle.ficus_rules.proofs.Removes.{names_there, remove_once, remove_along}
use Rattle.ficus_rules.proofs.Renames.{search_there, rename_once, rename_along}
use Rattle.ficus_rules.proofs.Resolves.{resolver_there, resolve_once, resolve_along}
use Rattle.ficus_rules.proofs.Rules.{memory_where_along}
use Rattle.ficus_rules.proofs.Settles.{settle_once, settle_along}
use Rattle.ficus_rules.proofs.Sound.{IsSound}
use Rattle.ficus_rules.proofs.Symlinks.{symlink_once, symlink_along}
use Rattle.ficus_rules.proofs.Views.{view_back}
use Rattle.ficus_rules.proofs.Writes.{write_once, write_along}

pub change_once : (view : View) → IsSound view → (change : Change) → Once (ChangeRule view change)
change_once view sound (MkDir path) = make_once view path Dir
change_once view sound (Create path kind) = make_once view path kind
change_once view sound (Symlink path text) = symlink_once view path text
change_once view sound (Write path bytes) = write_once view path bytes
change_once view sound (Settle path bytes) = settle_once view path bytes
change_once view sound (Resolve path) = resolve_once view sound path
change_once view sound (Rm path) = remove_once view path
change_once view sound (Ln from path) = link_once view from path
change_once view sound (Mv from path) = rename_once view from path
change_once view sound (Adopt orphan path) = adopt_once view orphan path
change_once view sound (Discard orphan) = discard_once view orphan

pub change_along : {one other : View} → SameView one other → (change : Change) →
    Along (ChangeRule one change) (ChangeRule other change)
change_along same (MkDir path) = make_along same path Dir
change_along same (Create path kind) = make_along same path kind
change_along same (Symlink path text) = symlink_along same path text
change_along same (Write path bytes) = write_along same path bytes
change_along same (Settle path bytes) = settle_along same path bytes
change_along same (Resolve path) = resolve_along same path
change_along same (Rm path) = remove_along same path
change_along same (Ln from path) = link_along same from path
change_along same (Mv from path) = rename_along same from path
change_along same (Adopt orphan path) = adopt_along same orphan path
change_along same (Discard orphan) = discard_along same orphan

module _ {one other : View} (same : SameView one other) where
  -- where the rule refuses nothing it doesn't over the other view either
  none_there : (change : Change) → RefusesNothing (ChangeRule one change) → RefusesNothing (ChangeRule other change)
  none_there change none refusal refuses = none refusal (change_along (view_back same) change (Err refusal) refuses)

  pub may_there : (change : Change) → MayWantMemory one change → MayWantMemory other change
  may_there (Resolve path) (inl none) = inl (none_there (Resolve path) none)
  may_there (Resolve path) (inr needs) = inr (resolver_there same path needs)
  may_there (Rm path) (inl none) = inl (none_there (Rm path) none)
  may_there (Rm path) (inr needs) = inr (names_there same path needs)
  may_there (Mv from path) (inl none) = inl (none_there (Mv from path) none)
  may_there (Mv from path) (inr needs) = inr (search_there same from path needs)
  may_there (Adopt orphan path) (inl none) = inl (none_there (Adopt orphan path) none)
  may_there (Adopt orphan path) (inr needs) = inr (search_below_there same orphan path needs)
  may_there change none = none_there change none

  pub change_answer_along : (change : Change) → Along (ChangeAnswer one change) (ChangeAnswer other change)
  change_answer_along change = memory_where_along (may_there change) (change_along same change)

-- want of memory may be answered where the rule refuses nothing
pub may_where_none : (view : View) (change : Change) → RefusesNothing (ChangeRule view change) →
    MayWantMemory view change
may_where_none view (Resolve path) none = inl none
may_where_none view (Rm path) none = inl none
may_where_none view (Mv from path) none = inl none
may_where_none view (Adopt orphan path) none = inl none
may_where_none view change none = none
