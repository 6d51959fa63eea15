-- The views of two replicas are alike exactly where what both know shows the same.
use Rattle.std.proofs.Common.{◌≡◌, ◌↔◌, ℕ, Bool, true, false, List, [], ◌∷◌, refl, sym, subst, ◌∙◌, inl, inr}
use Rattle.std.specs.Prelude.{Contains}
use Rattle.std.specs.Str.{bytes_eq}
use Rattle.std.proofs.lemmas.Bool.{false≢true}
use Rattle.std.proofs.lemmas.Slice.Eq.{bytes_eq-Decides}
use Rattle.ficus_ids.specs.IdLaws.{same_id_or_not}
use Rattle.ficus_ids.specs.ListLaws.{here, here_or_there, not_inside_none, there}
use Rattle.ficus_ids.specs.declared.id.Id.{Id}
use Rattle.ficus_ids.specs.declared.kind.Kind.{Kind}
use Rattle.ficus_entry.specs.declared.entry.Entry.{Entry}
use Rattle.ficus_entry.specs.declared.entry.State.{State}
use Rattle.ficus_entry.specs.declared.entry.State.TheVariants.{Live, Dead}
use Rattle.ficus_file.specs.declared.version.Version.{Version}
use Rattle.ficus_model.specs.declared.event.Event.{Event}
use Rattle.ficus_model.specs.Known.{Knows}
use Rattle.ficus_model.specs.Lawful.{Volume, IsLawful}
use Rattle.ficus_model.specs.Live.{IsBound, IsMade, HasName}
use Rattle.ficus_model.specs.Reached.{Leads}
use Rattle.ficus_model.specs.ShownNames.{HasOther}
use Rattle.ficus_model.specs.Versions.{IsShown}
use Rattle.ficus_model.specs.View.{IsDetached, IsInReach, IsOrphan, IsShared, IsTop, IsVisible, ShowsConflict, ShowsName, ShowsVersion, ViewSame}
use Rattle.ficus_laws.proofs.Deciding.{Decided, both_decided, not_decided}
use Rattle.ficus_laws.proofs.Issued.{made_once}
use Rattle.ficus_laws.proofs.Shown.{reached_from_more, reached_within}
use Rattle.ficus_version_laws.proofs.Comparing.{compare_as_pasts}
use Rattle.ficus_file_laws.specs.Items.{AreVersionsOf}
use Rattle.ficus_file_laws.proofs.Listing.{conflict_of_list}
use Rattle.ficus_names.specs.Binds.{BindsIn}
use Rattle.ficus_names.specs.ListingLaws.{HasOther-along, IsShownAs-along}
use Rattle.ficus_durable_state.specs.declared.saved.Saved.{Saved}
use Rattle.ficus_rules.specs.Alike.{AreAlike}
use Rattle.ficus_rules.specs.View.{IsBoundIn, history_view}
use Rattle.ficus_rules.proofs.Alikes.{alike_back}
use Rattle.ficus_rules.proofs.Views.{bound_same, turned}
use Rattle.ficus_deciding.proofs.Tables.{tables_bound}
use Rattle.ficus_replica.specs.SavedOf.{IsSavedOf}
use Rattle.ficus_replica.proofs.Allowed.{bound_in, bound_of}
use Rattle.ficus_replica.proofs.Views.{named_made, orphan_made, stands_same, visible_versions}

-- an item of a list is so, or none is
some_or_none : {X : Type 0} (P : X → Type 0) → ((x : X) → Decided (P x)) → (xs : List X) →
    Decided ((x : X) × Contains xs x × P x)
some_or_none P decided [] = inr (λ some. not_inside_none some.0 some.1)
some_or_none {X} P decided (x ∷ xs) = first (some_or_none P decided xs) (decided x)
  where
    later : Decided ((y : X) × Contains xs y × P y) → (P x → ⊥) → Decided ((y : X) × Contains (x ∷ xs) y × P y)
    later (inl some) not = inl (some.0, there x some.0 xs some.1, some.2)
    later (inr none) not = inr (λ some. elim (here_or_there x some.0 xs some.1) [
      | inl is ↦ not (subst P is some.2)
      | inr behind ↦ none (some.0, behind, some.2)
    ])

    first : Decided ((y : X) × Contains xs y × P y) → Decided (P x) → Decided ((y : X) × Contains (x ∷ xs) y × P y)
    first rest (inl so) = inl (x, here x xs, so)
    first rest (inr not) = later rest not

bytes_decided : (a b : List ℕ) → Decided (a ≡ b)
bytes_decided a b = go (bytes_eq a b) (bytes_eq-Decides a b).0 (bytes_eq-Decides a b).1
  where
    go : (flag : Bool) → (flag ≡ true → a ≡ b) → (a ≡ b → flag ≡ true) → Decided (a ≡ b)
    go true means back = inl (means refl)
    go false means back = inr (λ same. false≢true (back same))

live_decided : (state : State) → Decided (state ≡ Live)
live_decided Live = inl refl
live_decided (Dead knowing knowing_all_know) = inr (λ is. cc)

-- whether a live entry of the directory with the name leads elsewhere
module _ (entries : List Entry) (dir : Id) (name : List ℕ) (target : Id) where
  abbrev LeadsElsewhere : Entry → Type 0
  LeadsElsewhere entry =
      (entry.state ≡ Live) × ((entry.dir ≡ dir) × ((entry.name ≡ name) × (entry.target ≡ target → ⊥)))

  elsewhere_decided : (entry : Entry) → Decided (LeadsElsewhere entry)
  elsewhere_decided entry =
      both_decided (live_decided entry.state) (both_decided (same_id_or_not entry.dir dir)
      (both_decided (bytes_decided entry.name name) (not_decided (same_id_or_not entry.target target))))

  other_decided : Decided (HasOther (BindsIn entries dir) name target)
  other_decided = go (some_or_none LeadsElsewhere elsewhere_decided entries)
    where
      go : Decided ((entry : Entry) × Contains entries entry × LeadsElsewhere entry) →
          Decided (HasOther (BindsIn entries dir) name target)
      go (inl (entry, inside, leads)) = inl (record {
        other = entry.target;
        bound = record {
          entry = entry;
          inside = inside;
          live = leads.0;
          in_dir = leads.1.0;
          named = leads.1.1.0;
          leads = refl;
        };
        differs = leads.1.1.1;
      })
      go (inr none) = inr (λ has.
          let bound = has.bound in
          none (
            bound.entry,
            bound.inside,
            (bound.live, (bound.in_dir, (bound.named, λ is. has.differs (sym bound.leads ∙ is)))),
          ))

-- in both histories the same is bound, one way of saying it for the other
module _ (volume : Volume) (H : List Event) (r : ℕ) where
  bound_view : (dir : Id) (name : List ℕ) (target : Id) →
      IsBound H (Knows H r) dir name target ↔ IsBoundIn (history_view volume H r) dir name target
  bound_view dir name target = (λ bound. bound_in volume H r bound, λ bound. bound_of volume H r bound)

  name_of : (object : Id) (named : HasName H (Knows H r) object) →
      IsBound H (Knows H r) named.entry.dir named.entry.name object
  name_of object named =
      record { entry = named.entry; live = named.live; in_dir = refl; named = refl; leads = named.leads }

  named_of : (dir : Id) (name : List ℕ) (object : Id) → IsBound H (Knows H r) dir name object →
      HasName H (Knows H r) object
  named_of dir name object bound = record { entry = bound.entry; live = bound.live; leads = bound.leads }

-- What tables give that stand for the history: a visible object has a list of versions, and whether a name leads
-- elsewhere is decided.
record IsFounded (H : List Event) (r : ℕ) : Type 0 where
  versions : (object : Id) → IsVisible H (Knows H r) object →
      (versions : List Version) × AreVersionsOf H (Knows H r) object versions
  decided : (dir : Id) (name : List ℕ) (target : Id) → Decided (HasOther (IsBound H (Knows H r) dir) name target)

founded : (volume : Volume) (H : List Event) (r : ℕ) (saved : Saved) → IsLawful volume H → IsSavedOf volume H r saved →
    IsFounded H r
founded volume H r saved lawful is = record {
  versions = λ object visible. visible_versions lawful is visible;
  decided = λ dir name target. go dir name target (other_decided saved.entries dir name target);
}
  where
    bound : (dir : Id) (name : List ℕ) (target : Id) →
        BindsIn saved.entries dir name target ↔ IsBound H (Knows H r) dir name target
    bound dir name target =
        let table = tables_bound saved dir name target in
        let same = bound_same (stands_same lawful is).shown dir name target in
        let view = bound_view volume H r dir name target in
        (λ binds. view.1 (same.0 (table.0 binds)), λ is. table.1 (same.1 (view.0 is)))

    go : (dir : Id) (name : List ℕ) (target : Id) → Decided (HasOther (BindsIn saved.entries dir) name target) →
        Decided (HasOther (IsBound H (Knows H r) dir) name target)
    go dir name target (inl other) = inl (HasOther-along (bound dir) other)
    go dir name target (inr none) =
        inr (λ other. none (HasOther-along (λ n t. ((bound dir n t).1, (bound dir n t).0)) other))

-- what is shown is shown where the list of versions is the same
shown_there : (volume : Volume) (H : List Event) (file : Id) → IsLawful volume H → (U V : ℕ → Type 0) (position : ℕ)
    (versions : List Version) → IsShown H U file position → AreVersionsOf H U file versions →
    AreVersionsOf H V file versions → IsShown H V file position
shown_there volume H file lawful U V position versions shown are too =
    let listed = are.shown.all position shown in
    let there = too.shown.each listed.item listed.inside in
    let same : position ≡ there.position =
    (compare_as_pasts volume H lawful file shown.version there.shown.version listed.is.vector there.is.vector).equal.0
    (record { each = λ replica member. refl }) in
    subst (IsShown H V file) (sym same) there.shown

module _ (volume : Volume) (H : List Event) (lawful : IsLawful volume H) (r s : ℕ)
    (alike : AreAlike (history_view volume H r) (history_view volume H s)) where
  bound_there : (dir : Id) (name : List ℕ) (target : Id) → IsBound H (Knows H r) dir name target →
      IsBound H (Knows H s) dir name target
  bound_there dir name target bound =
      (bound_view volume H s dir name target).1 ((alike.bound dir name target).0 ((bound_view volume H r dir name target).0 bound))

  bound_back : (dir : Id) (name : List ℕ) (target : Id) → IsBound H (Knows H s) dir name target →
      IsBound H (Knows H r) dir name target
  bound_back dir name target bound =
      (bound_view volume H r dir name target).1 ((alike.bound dir name target).1 ((bound_view volume H s dir name target).0 bound))

  bound_both : (dir : Id) (name : List ℕ) (target : Id) →
      IsBound H (Knows H r) dir name target ↔ IsBound H (Knows H s) dir name target
  bound_both dir name target = (bound_there dir name target, bound_back dir name target)

  kind_there : (object : Id) (kind : Kind) → IsVisible H (Knows H r) object → IsMade H (Knows H r) object kind →
      IsMade H (Knows H s) object kind
  kind_there object kind visible made = ((alike.kinds object kind).0 (visible, made)).1

  names_there : (dir : Id) (name : List ℕ) (target : Id) (suffixed : Bool) (kind : Kind) →
      ShowsName H (Knows H r) dir name target suffixed kind → ShowsName H (Knows H s) dir name target suffixed kind
  names_there dir name target suffixed kind shows = record {
    shown = IsShownAs-along (bound_both dir) (record { name = name; target = target; suffixed = suffixed }) shows.shown;
    made = kind_there target kind (inl (named_of volume H r dir name target shows.shown.bound)) shows.made;
  }

  shared_there : (dir : Id) (name : List ℕ) → IsShared H (Knows H r) dir name → IsShared H (Knows H s) dir name
  shared_there dir name shared = record {
    target = shared.target;
    bound = bound_there dir name shared.target shared.bound;
    several = HasOther-along (bound_both dir) shared.several;
  }

  orphan_there : (object : Id) → IsOrphan H (Knows H r) object → IsOrphan H (Knows H s) object
  orphan_there object = (alike.orphans object).0

  named_there : (object : Id) → HasName H (Knows H r) object → HasName H (Knows H s) object
  named_there object named =
      let bound = bound_there named.entry.dir named.entry.name object (name_of volume H r object named) in
      named_of volume H s named.entry.dir named.entry.name object bound

  reach_back : (object : Id) → IsInReach H (Knows H s) object → IsInReach H (Knows H r) object
  reach_back object reached = reached_from_more top (reached_within leads reached)
    where
      leads : (from to : Id) → Leads H (Knows H s) from to → Leads H (Knows H r) from to
      leads from to way = record { name = way.name; bound = bound_back from way.name to way.bound }

      top : (start : Id) → IsTop H (Knows H s) start → IsTop H (Knows H r) start
      top start (inl root) = inl root
      top start (inr orphan) = inr ((alike.orphans start).1 orphan)

  detached_there : (object : Id) → IsDetached H (Knows H r) object → IsDetached H (Knows H s) object
  detached_there object detached = record {
    made = kind_there object _ (inl detached.named) detached.made;
    named = named_there object detached.named;
    apart = λ reached. detached.apart (reach_back object reached);
  }

  module _ (base : IsFounded H r) where
    conflict_there : (file : Id) → ShowsConflict H (Knows H r) file → ShowsConflict H (Knows H s) file
    conflict_there file shows =
        let list = base.versions file shows.visible in
        let there = (alike.versions file list.0).0 (shows.visible, list.1) in
        record {
          visible = there.0;
          conflict = (conflict_of_list list.0 there.1).1 ((conflict_of_list list.0 list.1).0 shows.conflict);
        }

    version_there : (file : Id) (position : ℕ) → ShowsVersion H (Knows H r) file position →
        ShowsVersion H (Knows H s) file position
    version_there file position shows =
        let list = base.versions file shows.visible in
        let there = (alike.versions file list.0).0 (shows.visible, list.1) in
        record {
          visible = there.0;
          shown = shown_there volume H file lawful (Knows H r) (Knows H s) position list.0 shows.shown list.1
              there.1;
        }

module _ (volume : Volume) (H : List Event) (lawful : IsLawful volume H) (r s : ℕ)
    (same : ViewSame H (Knows H r) (Knows H s)) (base : IsFounded H r) where
  shows_of : (dir : Id) (name : List ℕ) (target : Id) (kind : Kind) → IsBound H (Knows H r) dir name target →
      IsMade H (Knows H r) target kind → (suffixed : Bool) × ShowsName H (Knows H r) dir name target suffixed kind
  shows_of dir name target kind bound made = go (base.decided dir name target)
    where
      go : Decided (HasOther (IsBound H (Knows H r) dir) name target) →
          (suffixed : Bool) × ShowsName H (Knows H r) dir name target suffixed kind
      go (inl other) =
          (true, record { shown = record { bound = bound; several = (λ _. other, λ _. refl) }; made = made })
      go (inr none) = (
        false,
        record {
          shown = record {
            bound = bound;
            several = (λ flag. absurd (false≢true flag), λ other. absurd (none other));
          };
          made = made;
        },
      )

  shows_there : (dir : Id) (name : List ℕ) (target : Id) (kind : Kind) → IsBound H (Knows H r) dir name target →
      IsMade H (Knows H r) target kind → IsBound H (Knows H s) dir name target × IsMade H (Knows H s) target kind
  shows_there dir name target kind bound made =
      let here = shows_of dir name target kind bound made in
      let there = (same.names dir name target here.0 kind).0 here.1 in
      (there.shown.bound, there.made)

  seen_bound : (dir : Id) (name : List ℕ) (target : Id) → IsBound H (Knows H r) dir name target →
      IsBound H (Knows H s) dir name target
  seen_bound dir name target bound =
      let made = named_made volume H r target lawful (named_of volume H r dir name target bound) in
      (shows_there dir name target made.0 bound made.1).0

  seen_there : (object : Id) → IsVisible H (Knows H r) object → IsVisible H (Knows H s) object
  seen_there object (inl named) =
      inl (named_of volume H s named.entry.dir named.entry.name object
      (seen_bound named.entry.dir named.entry.name object (name_of volume H r object named)))
  seen_there object (inr orphan) = inr ((same.orphans object).0 orphan)

  seen_kind : (object : Id) (kind : Kind) → IsVisible H (Knows H r) object → IsMade H (Knows H r) object kind →
      IsMade H (Knows H s) object kind
  seen_kind object kind (inl named) made =
      (shows_there named.entry.dir named.entry.name object kind (name_of volume H r object named) made).1
  seen_kind object kind (inr orphan) made =
      let there = orphan_made ((same.orphans object).0 orphan) in
      subst (IsMade H (Knows H s) object) (sym (made_once made there.1)) there.1

  seen_versions : (object : Id) (versions : List Version) → IsVisible H (Knows H r) object →
      AreVersionsOf H (Knows H r) object versions → AreVersionsOf H (Knows H s) object versions
  seen_versions object versions visible are = record {
    shown = record {
      each = λ item inside.
          let one = are.shown.each item inside in
          record {
            position = one.position;
            shown = ((same.versions object one.position).0 (record { visible = visible; shown = one.shown })).shown;
            is = one.is;
          };
      all = λ position shown.
          are.shown.all position
          ((same.versions object position).1 (record { visible = seen_there object visible; shown = shown })).shown;
    };
    ordered = are.ordered;
  }

same_turned : (H : List Event) (U V : ℕ → Type 0) → ViewSame H U V → ViewSame H V U
same_turned H U V same = record {
  names = λ dir name target suffixed kind. turned (same.names dir name target suffixed kind);
  shared = λ dir name. turned (same.shared dir name);
  conflicts = λ file. turned (same.conflicts file);
  versions = λ file position. turned (same.versions file position);
  orphans = λ object. turned (same.orphans object);
  detached = λ object. turned (same.detached object);
}

module _ (volume : Volume) (H : List Event) (lawful : IsLawful volume H) (r s : ℕ) (base : IsFounded H r)
    (base_too : IsFounded H s) where
  alike_out : AreAlike (history_view volume H r) (history_view volume H s) → ViewSame H (Knows H r) (Knows H s)
  alike_out alike =
      let back = alike_back alike in
      record {
        names = λ dir name target suffixed kind. (
          names_there volume H lawful r s alike dir name target suffixed kind,
          names_there volume H lawful s r back dir name target suffixed kind,
        );
        shared = λ dir name. (
          shared_there volume H lawful r s alike dir name,
          shared_there volume H lawful s r back dir name,
        );
        conflicts = λ file. (
          conflict_there volume H lawful r s alike base file,
          conflict_there volume H lawful s r back base_too file,
        );
        versions = λ file position. (
          version_there volume H lawful r s alike base file position,
          version_there volume H lawful s r back base_too file position,
        );
        orphans = alike.orphans;
        detached = λ object. (
          detached_there volume H lawful r s alike object,
          detached_there volume H lawful s r back object,
        );
      }

  alike_into : ViewSame H (Knows H r) (Knows H s) → AreAlike (history_view volume H r) (history_view volume H s)
  alike_into same =
      let back = same_turned H (Knows H r) (Knows H s) same in
      record {
        bound = λ dir name target.
            let here = bound_view volume H r dir name target in
            let there = bound_view volume H s dir name target in (
              λ bound. there.0 (seen_bound volume H lawful r s same base dir name target (here.1 bound)),
              λ bound. here.0 (seen_bound volume H lawful s r back base_too dir name target (there.1 bound)),
            );
        kinds = λ object kind. (
          λ is. (
            seen_there volume H lawful r s same base object is.0,
            seen_kind volume H lawful r s same base object kind is.0 is.1,
          ),
          λ is. (
            seen_there volume H lawful s r back base_too object is.0,
            seen_kind volume H lawful s r back base_too object kind is.0 is.1,
          ),
        );
        versions = λ object versions. (
          λ is. (
            seen_there volume H lawful r s same base object is.0,
            seen_versions volume H lawful r s same base object versions is.0 is.1,
          ),
          λ is. (
            seen_there volume H lawful s r back base_too object is.0,
            seen_versions volume H lawful s r back base_too object versions is.0 is.1,
          ),
        );
        orphans = same.orphans;
      }

-- so it is where both stand for a lawful history
pub alike_views : (volume : Volume) (H : List Event) (r s : ℕ) (one other : Saved) → IsLawful volume H →
    IsSavedOf volume H r one → IsSavedOf volume H s other →
    AreAlike (history_view volume H r) (history_view volume H s) ↔ ViewSame H (Knows H r) (Knows H s)
alike_views volume H r s one other lawful is is_too =
    let base = founded volume H r one lawful is in
    let base_too = founded volume H s other lawful is_too in
    (alike_out volume H lawful r s base base_too, alike_into volume H lawful r s base base_too)
