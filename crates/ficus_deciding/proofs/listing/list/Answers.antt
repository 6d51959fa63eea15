use Rattle.std.proofs.Common.{◌++◌, Ok, ap, ◌∙◌, inl}
use Rattle.ficus_ids.specs.declared.id.Id.{Id}
use Rattle.ficus_path.specs.declared.path.Path.{Path}
use Rattle.ficus_names.specs.ListingLaws.{IsListing-along}
use Rattle.ficus_commands.specs.declared.told.Told.TheVariants.{Names}
use Rattle.ficus_rules.specs.List.{ListRule}
use Rattle.ficus_rules.specs.Rule.{RefusesNothing}
use Rattle.ficus_rules.specs.View.{View}
use Rattle.ficus_rules.specs.Walk.{DirectoryRule}
use Rattle.ficus_rules.proofs.Listings.{lines_of_one}
use Rattle.ficus_rules.proofs.Rules.{behind}
use Rattle.ficus_rules.proofs.Walks.{directory_never, directory_once}
use Rattle.ficus_deciding.specs.View.{tables_view}
use Rattle.ficus_deciding.proofs.Refusals.{told_stopped, told_wanted}
use Rattle.ficus_deciding.proofs.Tables.{tables_bound, shown_visible}
use Rattle.ficus_deciding.proofs.listing.list.Goals as goal

-- where the walk gives a directory the rule refuses nothing
list_none : (view : View) (path : Path) (dir : Id) → DirectoryRule view path.base path.parts (Ok dir) →
    RefusesNothing (ListRule view path)
list_none view path dir walked refusal refuses = behind (directory_once view path.base path.parts) dir walked refuses

pub returns-in_err-dir : goal.returns-in_err-dir
returns-in_err-dir c =
    let view = tables_view c.args.saved.now in
    let path = c.args.path.now in
    told_stopped _ (DirectoryRule view path.base path.parts) (ListRule view path) (directory_never view path.base path.parts)
    (λ refusal stops. inl stops) _ _ c.in_err-dir.ensures _ c.from_residual.ensures.1

pub returns-in_err-names : goal.returns-in_err-names
returns-in_err-names c =
    let view = tables_view c.args.saved.now in
    let path = c.args.path.now in
    told_wanted _ (ListRule view path) _ _ c.from_residual-in_err-names.ensures.1
    (list_none view path c.in_ok-dir.dir c.in_ok-dir.ensures)

pub returns-in_err-lines : goal.returns-in_err-lines
returns-in_err-lines c =
    let view = tables_view c.args.saved.now in
    let path = c.args.path.now in
    told_wanted _ (ListRule view path) _ _ c.from_residual-in_err-lines.ensures.1
    (list_none view path c.in_ok-dir.dir c.in_ok-dir.ensures)

pub returns-in_err-add_lines : goal.returns-in_err-add_lines
returns-in_err-add_lines c =
    let view = tables_view c.args.saved.now in
    let path = c.args.path.now in
    told_wanted _ (ListRule view path) _ _ c.from_residual-in_err-add_lines.ensures.1
    (list_none view path c.in_ok-dir.dir c.in_ok-dir.ensures)

pub add_lines-requires-clause-visible : goal.add_lines-requires-clause-visible
add_lines-requires-clause-visible c =
    shown_visible c.args.saved.now (IsListing-along (tables_bound c.args.saved.now c.in_ok-dir.dir) c.in_ok-names.ensures)

pub returns : goal.returns
returns c =
    let listing = IsListing-along (tables_bound c.args.saved.now c.in_ok-dir.dir) c.in_ok-names.ensures in
    let added = c.in_ok-add_lines.ensures in (
      c.in_ok-dir.dir,
      c.in_ok-dir.ensures,
      (
        added.0,
        lines_of_one (tables_view c.args.saved.now) c.in_ok-dir.dir c.in_ok-names.names.items added.0 listing added.1,
        ap Names (added.2 ∙ ap (λ before. before ++ added.0) c.in_ok-lines.ensures.items),
      ),
    )
