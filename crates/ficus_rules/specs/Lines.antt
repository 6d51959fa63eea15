-- The shown names of directories, as lines.
use Rattle.std.specs.Prelude.{◌≡◌, ◌↔◌, ℕ, List, map, AllPairs, Contains, IsTrue}
use Rattle.std.specs.Ordering.{ordering_then}
use Rattle.std.specs.declared.cmp.Ordering.{Ordering}
use Rattle.std.specs.declared.cmp.Ordering.TheVariants.{Less}
use Rattle.ficus_ids.specs.Id.{id_cmp}
use Rattle.ficus_ids.specs.declared.id.Id.{Id}
use Rattle.ficus_model.specs.ShownNames.{IsShownAs}
use Rattle.ficus_names.specs.Listing.{shown_cmp}
use Rattle.ficus_names.specs.declared.listing.Line.{Line}
use Rattle.ficus_names.specs.declared.listing.ShownName.{ShownName}
use Rattle.ficus_rules.specs.View.{View, IsBoundIn}

-- by directory, then as shown
abbrev pub line_cmp : Line → Line → Ordering
line_cmp a b = ordering_then (id_cmp a.dir b.dir) (shown_cmp a.shown b.shown)

-- the line tells the kind of its object, and whether it is in conflict
pub record TellsObject (view : View) (line : Line) : Type 0 where
  pub kind : view.kinds line.shown.target line.kind
  pub conflict : IsTrue line.conflict ↔ view.conflicts line.shown.target

-- a line shows a name of its directory, and tells of its object
pub record IsShownLine (view : View) (line : Line) : Type 0 where
  pub shown : IsShownAs (IsBoundIn view line.dir) line.shown.name line.shown.target line.shown.suffixed
  pub object : TellsObject view line

-- the lines of these names in the directory, in their order
pub record AreLinesOf (view : View) (dir : Id) (items : List ShownName) (lines : List Line) : Type 0 where
  pub names : map (λ line. line.shown) lines ≡ items
  pub in_dir : (line : Line) → Contains lines line → line.dir ≡ dir
  pub objects : (line : Line) → Contains lines line → TellsObject view line

-- the line of this name and object in this directory
pub record HasLine (lines : List Line) (dir : Id) (name : List ℕ) (target : Id) : Type 0 where
  pub line : Line
  pub listed : Contains lines line
  pub in_dir : line.dir ≡ dir
  pub named : line.shown.name ≡ name
  pub leads : line.shown.target ≡ target

-- the lines are the shown names of each directory that `shows` has, by directory, then by name, then by object
pub record AreLines (view : View) (shows : Id → Type 0) (lines : List Line) : Type 0 where
  pub each : (line : Line) → Contains lines line → shows line.dir × IsShownLine view line
  pub all : (dir target : Id) (name : List ℕ) → shows dir → IsBoundIn view dir name target →
      HasLine lines dir name target
  pub ordered : AllPairs (λ a b. line_cmp a b ≡ Less) lines
