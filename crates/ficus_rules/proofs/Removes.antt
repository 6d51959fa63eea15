-- `remove`: its answer is one, and the same over views that show the same.
use Rattle.std.proofs.Common.{ℕ, List, Result, Ok}
use Rattle.ficus_ids.specs.declared.id.Id.{Id}
use Rattle.ficus_ids.specs.declared.refusal.Refusal.{Refusal}
use Rattle.ficus_ids.specs.declared.refusal.Refusal.TheVariants.{NotEmpty, Spent}
use Rattle.ficus_model.specs.declared.event.Op.TheVariants.{Remove}
use Rattle.ficus_path.specs.declared.path.Path.{Path}
use Rattle.ficus_rules.specs.Remove.{NeedsNames, RemoveRule, KeepsNameRule, IsFullIn}
use Rattle.ficus_rules.specs.Rule.{Once, Along}
use Rattle.ficus_rules.specs.View.{View, SameShown, SameView}
use Rattle.ficus_rules.specs.Walk.{Found, last_name}
use Rattle.ficus_rules.proofs.Named.{one_named, named_there, other_name_same}
use Rattle.ficus_rules.proofs.Rules.{then_once, refused_once, unless_once, tells_once, then_along, refused_along, unless_along, tells_along}
use Rattle.ficus_rules.proofs.Views.{same_back, directory_same}
use Rattle.ficus_rules.proofs.Walks.{entry_once, entry_along}

keeps_once : {B : Type 0} (view : View) (found : Found) (name : List ℕ) {rest : Result B Refusal → Type 0} →
    Once rest → Once (KeepsNameRule view found name rest)
keeps_once view found name rest_once = refused_once NotEmpty (λ bad good. bad.1 (good bad.0)) rest_once

pub remove_once : (view : View) (path : Path) → Once (RemoveRule view path)
remove_once view path =
    then_once (entry_once view path)
    (λ found. keeps_once view found (last_name path) (unless_once _ _
    (tells_once (λ entries. Remove entries found.object) (one_named view found.dir (last_name path) found.object))))

module _ {one other : View} (same : SameShown one other) where
  full_there : {object : Id} → IsFullIn one object → IsFullIn other object
  full_there {object} full = record {
    directory = (directory_same same object).0 full.directory;
    entry = full.entry;
    live = (same.live full.entry).0 full.live;
    inside = full.inside;
  }

module _ {one other : View} (same : SameShown one other) where
  keeps_along : {B : Type 0} (found : Found) (name : List ℕ) {rest more : Result B Refusal → Type 0} →
      Along rest more → Along (KeepsNameRule one found name rest) (KeepsNameRule other found name more)
  keeps_along found name next =
      let names = other_name_same same found.dir name found.object in
      refused_along NotEmpty (λ bad. (full_there same bad.0, λ has. bad.1 (names.1 has)))
      (λ good full. names.0 (good (full_there (same_back same) full))) next

pub remove_along : {one other : View} → SameView one other → (path : Path) →
    Along (RemoveRule one path) (RemoveRule other path)
remove_along same path =
    then_along (entry_along same.shown path)
    (λ found walked. keeps_along same.shown found (last_name path) (unless_along Spent same.spent
    (tells_along (λ entries. Remove entries found.object) (named_there same.shown))))

pub names_there : {one other : View} → SameView one other → (path : Path) → NeedsNames one path → NeedsNames other path
names_there same path needs = record {
  found = needs.found;
  walked = entry_along same.shown path (Ok needs.found) needs.walked;
  full = full_there same.shown needs.full;
}
