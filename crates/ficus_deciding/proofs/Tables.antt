-- What tables that fit show: by their entries, and of each object by its file.
use Rattle.std.proofs.Common.{◌≡◌, ◌↔◌, ℕ, List, refl, sym, ap, subst, ◌∙◌, inl, inr}
use Rattle.std.specs.Prelude.{All, Contains}
use Rattle.std.proofs.lemmas.List.Elements.{All-contains}
use Rattle.ficus_ids.specs.RisingLaws.{one_item}
use Rattle.ficus_ids.specs.Kind.{sort_of}
use Rattle.ficus_ids.specs.declared.id.Id.{Id}
use Rattle.ficus_ids.specs.declared.kind.Sort.{Sort}
use Rattle.ficus_entry.specs.declared.entry.Entry.{Entry}
use Rattle.ficus_entry.specs.declared.entry.State.{State}
use Rattle.ficus_entry.specs.declared.entry.State.TheVariants.{Live}
use Rattle.ficus_file.specs.Files.{id_of, Holds}
use Rattle.ficus_file.specs.declared.file.FileReplica.{FileReplica}
use Rattle.ficus_names.specs.Binds.{BindsIn}
use Rattle.ficus_names.specs.Listing.{IsListing}
use Rattle.ficus_names.specs.declared.listing.ShownName.{ShownName}
use Rattle.ficus_durable_state.specs.Saved.{FitsImage}
use Rattle.ficus_durable_state.specs.Tables.{FitsFile, HasObjectsIn}
use Rattle.ficus_durable_state.specs.declared.saved.Saved.{Saved}
use Rattle.ficus_entry.specs.Inside.{IsNamedBy}
use Rattle.ficus_orphan.specs.Orphan.{IsKept, IsOrphanBy, IsOrphanIn}
use Rattle.ficus_rules.specs.View.{IsBoundIn, IsForIn, IsNamedIn}
use Rattle.ficus_rules.specs.Marks.{without_state}
use Rattle.ficus_deciding.specs.View.{HasObject, IsVisibleBy, held_as, held_live, tables_view}

-- an entry is what tables hold of it in its state
pub held_in_state : (entry : Entry) (state : State) → entry.state ≡ state → entry ≡ held_as (without_state entry) state
held_in_state entry state is = ap (λ (state : State). record entry { state = state }) is

pub held_as_live : (entry : Entry) → entry.state ≡ Live → entry ≡ held_live (without_state entry)
held_as_live entry live = held_in_state entry Live live

module _ (saved : Saved) where
  pub tables_bound : (dir : Id) (name : List ℕ) (target : Id) →
      BindsIn saved.entries dir name target ↔ IsBoundIn (tables_view saved) dir name target
  tables_bound dir name target = (
    λ binds. record {
      entry = without_state binds.entry;
      live = subst (Contains saved.entries) (held_as_live binds.entry binds.live) binds.inside;
      in_dir = binds.in_dir;
      named = binds.named;
      leads = binds.leads;
    },
    λ bound. record {
      entry = held_live bound.entry;
      inside = bound.live;
      live = refl;
      in_dir = bound.in_dir;
      named = bound.named;
      leads = bound.leads;
    },
  )

  -- what is bound is named
  pub bound_named : {dir object : Id} {name : List ℕ} → IsBoundIn (tables_view saved) dir name object →
      IsNamedBy saved.entries object
  bound_named bound =
      record { entry = held_live bound.entry; inside = bound.live; live = refl; leads = bound.leads }

  -- what the tables name, they show as named
  pub tables_named : (object : Id) → IsNamedBy saved.entries object ↔ IsNamedIn (tables_view saved) object
  tables_named object = (
    λ named. record {
      entry = without_state named.entry;
      live = subst (Contains saved.entries) (held_as_live named.entry named.live) named.inside;
      leads = named.leads;
    },
    λ named. record { entry = held_live named.entry; inside = named.live; live = refl; leads = named.leads },
  )

  -- and so visible
  pub bound_visible : {dir object : Id} {name : List ℕ} → IsBoundIn (tables_view saved) dir name object →
      IsVisibleBy saved object
  bound_visible bound = inl (bound_named bound)

  -- so is what a directory shows
  pub shown_visible : {dir : Id} {names : List ShownName} → IsListing (IsBoundIn (tables_view saved) dir) names →
      All (λ shown. IsVisibleBy saved shown.target) names
  shown_visible listing place default within = bound_visible (listing.shown place default within).bound

module _ {saved : Saved} (fits : FitsImage saved) where
  -- what is named is among the files
  pub named_held : {object : Id} → IsNamedBy saved.entries object → Holds saved.files object
  named_held named =
      let objects = All-contains (HasObjectsIn saved.files) saved.entries named.entry fits.tables.objects
      named.inside in
      subst (Holds saved.files) named.leads objects.target

  -- so is what is visible
  pub visible_held : {object : Id} → IsVisibleBy saved object → Holds saved.files object
  visible_held (inl named) = named_held named
  visible_held (inr orphan) = record { item = orphan.file; inside = orphan.inside; has_id = orphan.has_id }

  -- the file under an identifier is an orphan exactly where the object is
  pub orphan_under : {object : Id} {file : FileReplica} → Contains saved.files file → file.id ≡ object →
      IsOrphanBy saved.entries file ↔ IsOrphanIn saved.entries saved.files object
  orphan_under {object} {file} inside has_id = (
    λ orphan. record {
      nameless = λ named. orphan.nameless (subst (IsNamedBy saved.entries) (sym has_id) named);
      file = file;
      inside = inside;
      has_id = has_id;
      kept = orphan.kept;
    },
    λ orphan. record {
      nameless = λ named. orphan.nameless (subst (IsNamedBy saved.entries) has_id named);
      kept = subst (IsKept saved.entries)
          (one_item id_of saved.files orphan.file file fits.tables.rising_files orphan.inside inside
          (orphan.has_id ∙ sym has_id)) orphan.kept;
    },
  )

  module _ {object : Id} {file : FileReplica} (has : HasObject saved object (λ held. held ≡ file)) where
    -- a file is one with what the tables hold under its identifier
    file_of_object : (held : FileReplica) → Contains saved.files held → held.id ≡ object → held ≡ file
    file_of_object held inside has_id =
        one_item id_of saved.files held has.file fits.tables.rising_files inside has.inside (has_id ∙ sym has.has_id)
        ∙ has.so

    -- what is so of the file is so of the object
    pub so_of_file : (is : FileReplica → Type 0) → is file ↔ HasObject saved object is
    so_of_file is = (
      λ so. record {
        visible = has.visible;
        file = has.file;
        inside = has.inside;
        has_id = has.has_id;
        so = subst is (sym has.so) so;
      },
      λ object_has. subst is (file_of_object object_has.file object_has.inside object_has.has_id) object_has.so,
    )

    -- and it is for this exactly where the object is
    pub for_of_file : (sort : Sort) → (sort_of file.kind ≡ sort) ↔ IsForIn (tables_view saved) sort object
    for_of_file sort = (
      λ is. record { kind = file.kind; of_kind = (so_of_file (λ held. held.kind ≡ file.kind)).0 refl; is = is },
      λ has. ap sort_of ((so_of_file (λ held. held.kind ≡ has.kind)).1 has.of_kind) ∙ has.is,
    )

    -- the file is one that fits
    pub file_fits : FitsFile saved.members file
    file_fits =
        subst (FitsFile saved.members) has.so
        (All-contains (FitsFile saved.members) saved.files has.file fits.tables.each_file has.inside)
