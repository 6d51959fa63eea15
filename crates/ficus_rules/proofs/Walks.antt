-- Walks: each has one answer, the same over views that show the same, and ends in what is shown.
use Rattle.std.proofs.Common.{ℕ, List, [], ◌∷◌, Option, Some, None, Ok, Err, sym, subst, inl, inr, ◌⊎◌}
use Rattle.ficus_ids.specs.declared.id.Id.{Id}
use Rattle.ficus_ids.specs.declared.id.TheConstants.{ROOT}
use Rattle.ficus_ids.specs.declared.kind.Sort.TheVariants.{Fixed}
use Rattle.ficus_ids.specs.declared.refusal.Refusal.TheVariants.{Memory, NotDir, IsDir, IsLink, NotLink, NotOrphan}
use Rattle.ficus_model.specs.Reached.IsReached.{Base, Through}
use Rattle.ficus_path.specs.declared.path.Base.{Base as PathBase}
use Rattle.ficus_path.specs.declared.path.Base.TheVariants.{Root, Orphan}
use Rattle.ficus_path.specs.declared.path.Part.{Part}
use Rattle.ficus_path.specs.declared.path.Path.{Path}
use Rattle.ficus_names.specs.Find.{FindAnswer}
use Rattle.ficus_names.specs.FindLaws.{one_answer, FindAnswer-along}
use Rattle.ficus_rules.specs.Rule.{Then, Gives, Once, Along}
use Rattle.ficus_rules.specs.View.{View, SameShown, IsBoundIn, IsNamedIn, IsVisibleIn, IsDirectoryIn, IsForIn, IsInReachIn}
use Rattle.ficus_rules.specs.Walk.{BaseRule, PartsRule, WalkRule, DirectoryRule, ParentRule, FileRule, VersionedRule, FixedRule, EntryRule, Found, Places, PlacesRule, last_name, last_target}
use Rattle.ficus_rules.proofs.Rules.{then_once, unless_once, where_once, gives_once, then_along, unless_along, where_along, gives_along}
use Rattle.ficus_rules.proofs.Views.{bound_same, directory_same, for_same}

base_once : (view : View) (base : PathBase) → Once (BaseRule view base)
base_once view Root = gives_once _
base_once view (Orphan id) = where_once _ _ (gives_once _)

parts_once : (view : View) (parts : List Part) (object : Id) → Once (PartsRule view parts object)
parts_once view [] object = gives_once _
parts_once view (part ∷ parts) object = where_once _ _ (then_once (one_answer (IsBoundIn view object) part.name part.target) (parts_once view parts))

pub walk_once : (view : View) (base : PathBase) (parts : List Part) → Once (WalkRule view base parts)
walk_once view base parts = then_once (base_once view base) (parts_once view parts)

pub directory_once : (view : View) (base : PathBase) (parts : List Part) → Once (DirectoryRule view base parts)
directory_once view base parts = then_once (walk_once view base parts) (λ object. where_once _ _ (gives_once _))

pub parent_once : (view : View) (path : Path) → Once (ParentRule view path)
parent_once view path = directory_once view path.base _

pub entry_once : (view : View) (path : Path) → Once (EntryRule view path)
entry_once view path =
    then_once (parent_once view path)
    (λ dir. then_once (one_answer (IsBoundIn view dir) (last_name path) (last_target path)) (λ object. gives_once _))

pub places_once : (view : View) (from path : Path) → Once (PlacesRule view from path)
places_once view from path =
    then_once (entry_once view from) (λ found. then_once (parent_once view path) (λ dir. gives_once _))

pub file_once : (view : View) (path : Path) → Once (FileRule view path)
file_once view path = then_once (walk_once view path.base path.parts) (λ object. unless_once _ _ (gives_once _))

pub versioned_once : (view : View) (path : Path) → Once (VersionedRule view path)
versioned_once view path = then_once (file_once view path) (λ file. unless_once _ _ (gives_once _))

pub fixed_once : (view : View) (path : Path) → Once (FixedRule view path)
fixed_once view path = then_once (walk_once view path.base path.parts) (λ object. where_once _ _ (gives_once _))

-- No walk is refused for want of memory.
find_never : (binds : List ℕ → Id → Type 0) (name : List ℕ) (target : Option Id) →
    FindAnswer binds name target (Err Memory) → ⊥
find_never binds name None none = none
find_never binds name (Some target) none = none

base_never : (view : View) (base : PathBase) → BaseRule view base (Err Memory) → ⊥
base_never view Root none = none
base_never view (Orphan id) (inl (isnt, e)) = cc
base_never view (Orphan id) (inr (is, none)) = none

parts_never : (view : View) (parts : List Part) (object : Id) → PartsRule view parts object (Err Memory) → ⊥
parts_never view [] object none = none
parts_never view (part ∷ parts) object (inl (isnt, e)) = cc
parts_never view (part ∷ parts) object (inr (directory, inl stops)) =
    find_never (IsBoundIn view object) part.name part.target stops
parts_never view (part ∷ parts) object (inr (directory, inr (next, found, rest))) = parts_never view parts next rest

walk_never : (view : View) (base : PathBase) (parts : List Part) → WalkRule view base parts (Err Memory) → ⊥
walk_never view base parts (inl stops) = base_never view base stops
walk_never view base parts (inr (object, begun, rest)) = parts_never view parts object rest

pub directory_never : (view : View) (base : PathBase) (parts : List Part) →
    DirectoryRule view base parts (Err Memory) → ⊥
directory_never view base parts (inl stops) = walk_never view base parts stops
directory_never view base parts (inr (object, walk, inl (isnt, e))) = cc
directory_never view base parts (inr (object, walk, inr (directory, none))) = none

pub parent_never : (view : View) (path : Path) → ParentRule view path (Err Memory) → ⊥
parent_never view path stops = directory_never view path.base _ stops

pub entry_never : (view : View) (path : Path) → EntryRule view path (Err Memory) → ⊥
entry_never view path (inl stops) = parent_never view path stops
entry_never view path (inr (dir, walk, inl stops)) =
    find_never (IsBoundIn view dir) (last_name path) (last_target path) stops
entry_never view path (inr (dir, walk, inr (object, found, none))) = none

pub places_never : (view : View) (from path : Path) → PlacesRule view from path (Err Memory) → ⊥
places_never view from path (inl stops) = entry_never view from stops
places_never view from path (inr (found, walk, inl stops)) = parent_never view path stops
places_never view from path (inr (found, walk, inr (dir, led, none))) = none

pub file_never : (view : View) (path : Path) → FileRule view path (Err Memory) → ⊥
file_never view path (inl stops) = walk_never view path.base path.parts stops
file_never view path (inr (object, walk, inl (is, e))) = cc
file_never view path (inr (object, walk, inr (isnt, none))) = none

pub versioned_never : (view : View) (path : Path) → VersionedRule view path (Err Memory) → ⊥
versioned_never view path (inl stops) = file_never view path stops
versioned_never view path (inr (file, walk, inl (is, e))) = cc
versioned_never view path (inr (file, walk, inr (isnt, none))) = none

pub fixed_never : (view : View) (path : Path) → FixedRule view path (Err Memory) → ⊥
fixed_never view path (inl stops) = walk_never view path.base path.parts stops
fixed_never view path (inr (object, walk, inl (isnt, e))) = cc
fixed_never view path (inr (object, walk, inr (is, none))) = none

abbrev pub found_at : Id → Id → Found
found_at dir object = record { dir = dir; object = object }

abbrev places_at : Found → Id → Places
places_at found dir = record { found = found; dir = dir }

module _ {one other : View} (same : SameShown one other) where
  base_along : (base : PathBase) → Along (BaseRule one base) (BaseRule other base)
  base_along Root = gives_along ROOT
  base_along (Orphan id) = where_along NotOrphan (same.orphans id) (gives_along id)

  parts_along : (parts : List Part) (object : Id) → Along (PartsRule one parts object) (PartsRule other parts object)
  parts_along [] object = gives_along object
  parts_along (part ∷ parts) object =
      where_along NotDir (directory_same same object)
      (then_along (FindAnswer-along (bound_same same object) part.name part.target)
      (λ next found. parts_along parts next))

  pub walk_along : (base : PathBase) (parts : List Part) → Along (WalkRule one base parts) (WalkRule other base parts)
  walk_along base parts = then_along (base_along base) (λ object begun. parts_along parts object)

  pub directory_along : (base : PathBase) (parts : List Part) →
      Along (DirectoryRule one base parts) (DirectoryRule other base parts)
  directory_along base parts = then_along (walk_along base parts) (λ object walked. where_along NotDir (directory_same same object) (gives_along object))

  pub parent_along : (path : Path) → Along (ParentRule one path) (ParentRule other path)
  parent_along path = directory_along path.base _

  pub entry_along : (path : Path) → Along (EntryRule one path) (EntryRule other path)
  entry_along path =
      then_along {rest = λ dir. Then (FindAnswer (IsBoundIn one dir) (last_name path) (last_target path))
      (λ object. Gives (found_at dir object))}
      {more = λ dir. Then (FindAnswer (IsBoundIn other dir) (last_name path) (last_target path))
      (λ object. Gives (found_at dir object))} (parent_along path)
      (λ dir walked. then_along {rest = λ object. Gives (found_at dir object)}
      {more = λ object. Gives (found_at dir object)}
      (FindAnswer-along (bound_same same dir) (last_name path) (last_target path))
      (λ object found. gives_along (found_at dir object)))

  pub places_along : (from path : Path) → Along (PlacesRule one from path) (PlacesRule other from path)
  places_along from path =
      then_along {rest = λ found. Then (ParentRule one path) (λ dir. Gives (places_at found dir))}
      {more = λ found. Then (ParentRule other path) (λ dir. Gives (places_at found dir))} (entry_along from)
      (λ found walked. then_along {rest = λ dir. Gives (places_at found dir)}
      {more = λ dir. Gives (places_at found dir)} (parent_along path) (λ dir led. gives_along (places_at found dir)))

  pub file_along : (path : Path) → Along (FileRule one path) (FileRule other path)
  file_along path = then_along (walk_along path.base path.parts) (λ object walked. unless_along IsDir (directory_same same object) (gives_along object))

  pub versioned_along : (path : Path) → Along (VersionedRule one path) (VersionedRule other path)
  versioned_along path = then_along (file_along path) (λ file walked. unless_along IsLink (for_same same Fixed file) (gives_along file))

  pub fixed_along : (path : Path) → Along (FixedRule one path) (FixedRule other path)
  fixed_along path = then_along (walk_along path.base path.parts) (λ object walked. where_along NotLink (for_same same Fixed object) (gives_along object))

-- what is found under a name is bound to it
pub found_bound : (binds : List ℕ → Id → Type 0) (name : List ℕ) (target : Option Id) (object : Id) →
    FindAnswer binds name target (Ok object) → binds name object
found_bound binds name None object found = found.bound
found_bound binds name (Some target) object found = subst (binds name) (sym found.1) found.0

module _ (view : View) where
  -- what a walk leads to is reached as its start is
  parts_reach : (parts : List Part) (object target : Id) → PartsRule view parts object (Ok target) →
      IsInReachIn view object → IsInReachIn view target
  parts_reach [] object target is reached = subst (IsInReachIn view) (sym is) reached
  parts_reach (part ∷ parts) object target (directory, (next, found, rest)) reached =
      parts_reach parts next target rest (Through reached (part.name, found_bound (IsBoundIn view object) part.name part.target next found))

  pub base_reached : (base : PathBase) (object : Id) → BaseRule view base (Ok object) → IsInReachIn view object
  base_reached Root object is = Base (inl is)
  base_reached (Orphan id) object (orphan, is) = Base (inr (subst view.orphans (sym is) orphan))

  pub walk_reached : (base : PathBase) (parts : List Part) (object : Id) → WalkRule view base parts (Ok object) →
      IsInReachIn view object
  walk_reached base parts object (start, begun, rest) = parts_reach parts start object rest (base_reached base start begun)

  -- a directory that is walked to
  pub record IsWalkedTo (dir : Id) : Type 0 where
    pub directory : IsDirectoryIn view dir
    pub reached : IsInReachIn view dir

  pub directory_walked : (base : PathBase) (parts : List Part) (dir : Id) → DirectoryRule view base parts (Ok dir) →
      IsWalkedTo dir
  directory_walked base parts dir (object, walk, (directory, is)) = record {
    directory = subst (IsDirectoryIn view) (sym is) directory;
    reached = subst (IsInReachIn view) (sym is) (walk_reached base parts object walk);
  }

  pub parent_walked : (path : Path) (dir : Id) → ParentRule view path (Ok dir) → IsWalkedTo dir
  parent_walked path dir walk = directory_walked path.base _ dir walk

  -- what is bound is named
  bound_named : {dir object : Id} {name : List ℕ} → IsBoundIn view dir name object → IsNamedIn view object
  bound_named bound = record { entry = bound.entry; live = bound.live; leads = bound.leads }

  -- a walk ends where it begins, or at an object that is visible
  parts_visible : (parts : List Part) (object target : Id) → PartsRule view parts object (Ok target) →
      IsDirectoryIn view object ⊎ IsVisibleIn view object → IsDirectoryIn view target ⊎ IsVisibleIn view target
  parts_visible [] object target is ends = subst (λ end. IsDirectoryIn view end ⊎ IsVisibleIn view end) (sym is) ends
  parts_visible (part ∷ parts) object target (directory, (next, found, rest)) ends =
      parts_visible parts next target rest
      (inr (inl (bound_named (found_bound (IsBoundIn view object) part.name part.target next found))))

  base_visible : (base : PathBase) (object : Id) → BaseRule view base (Ok object) →
      IsDirectoryIn view object ⊎ IsVisibleIn view object
  base_visible Root object is = inl (inl is)
  base_visible (Orphan id) object (orphan, is) = inr (inr (subst view.orphans (sym is) orphan))

  -- a file that is walked to
  pub record IsFileAt (file : Id) : Type 0 where
    pub reached : IsInReachIn view file
    pub no_directory : IsDirectoryIn view file → ⊥
    pub visible : IsVisibleIn view file

  pub file_walked : (path : Path) (file : Id) → FileRule view path (Ok file) → IsFileAt file
  file_walked path file (object, walk, (no_directory, is)) =
      subst IsFileAt (sym is) (record {
        reached = walk_reached path.base path.parts object walk;
        no_directory = no_directory;
        visible = elim (parts_visible path.parts walk.0 object walk.2 (base_visible path.base walk.0 walk.1)) [
          | inl directory ↦ absurd (no_directory directory)
          | inr visible ↦ visible
        ];
      })

  -- a file that is walked to whose versions change
  pub record IsVersionedAt (file : Id) : Type 0 where
    pub at : IsFileAt file
    pub changes : IsForIn view Fixed file → ⊥

  pub versioned_walked : (path : Path) (file : Id) → VersionedRule view path (Ok file) → IsVersionedAt file
  versioned_walked path file (object, walk, (changes, is)) =
      subst IsVersionedAt (sym is) (record { at = file_walked path object walk; changes = changes })

  -- an entry that is walked to: its directory is, and a live entry there has the name and leads to the object
  pub record IsEntryAt (path : Path) (found : Found) : Type 0 where
    pub walked : IsWalkedTo found.dir
    pub bound : IsBoundIn view found.dir (last_name path) found.object

  pub entry_walked : (path : Path) (found : Found) → EntryRule view path (Ok found) → IsEntryAt path found
  entry_walked path found (dir, walk, (object, finds, is)) = subst (IsEntryAt path) (sym is) (record {
    walked = parent_walked path dir walk;
    bound = found_bound (IsBoundIn view dir) (last_name path) (last_target path) object finds;
  })

  -- both walks
  pub record AreWalked (from path : Path) (places : Places) : Type 0 where
    pub found : EntryRule view from (Ok places.found)
    pub dir : ParentRule view path (Ok places.dir)

  pub places_walked : (from path : Path) (places : Places) → PlacesRule view from path (Ok places) →
      AreWalked from path places
  places_walked from path places (found, walk, (dir, led, is)) =
      subst (AreWalked from path) (sym is) (record { found = walk; dir = led })
