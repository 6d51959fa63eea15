-- Tables that show alike: by the names of both, by which objects are visible, and by the file of each of these.
use Rattle.std.proofs.Common.{◌≡◌, ◌↔◌, ℕ, List, refl, sym, subst, ◌∙◌, inl, inr}
use Rattle.std.specs.Prelude.{Bool, Contains, IsTrue}
use Rattle.ficus_ids.specs.Rising.{IsRisingBy}
use Rattle.ficus_ids.specs.RisingLaws.{one_item, same_items}
use Rattle.ficus_ids.specs.declared.id.Id.{Id}
use Rattle.ficus_ids.specs.declared.kind.Kind.{Kind}
use Rattle.ficus_file.specs.Files.{id_of, IsRising}
use Rattle.ficus_file.specs.Showing.{ShowsSame}
use Rattle.ficus_file.specs.declared.file.FileReplica.{FileReplica}
use Rattle.ficus_file.specs.declared.version.Version.{Version}
use Rattle.ficus_durable_state.specs.Saved.{FitsImage}
use Rattle.ficus_durable_state.specs.declared.saved.Saved.{Saved}
use Rattle.ficus_names.specs.Binds.{BindsIn}
use Rattle.ficus_entry.specs.Inside.{IsNamedBy}
use Rattle.ficus_orphan.specs.Orphan.{IsOrphanIn}
use Rattle.ficus_rules.specs.Alike.{AreAlike}
use Rattle.ficus_deciding.specs.Alike.{ShowSameAt}
use Rattle.ficus_deciding.specs.View.{HasObject, IsVisibleBy, tables_view}
use Rattle.ficus_deciding.proofs.Tables.{so_of_file, tables_bound, visible_held}

-- the list has exactly the visible objects
abbrev pub AreVisible : Saved → List Id → Type 0
AreVisible saved ids = (object : Id) → Contains ids object ↔ IsVisibleBy saved object

-- in both the same names lead to the same objects
abbrev pub BindSame : Saved → Saved → Type 0
BindSame one other = (dir : Id) (name : List ℕ) (target : Id) →
    BindsIn one.entries dir name target ↔ BindsIn other.entries dir name target

-- the names are the same, the same objects are visible, and each is of one kind with the same versions
pub record ShowAlike (one other : Saved) (ids others : List Id) : Type 0 where
  pub names : BindSame one other
  pub same : ids ≡ others
  pub each : (id : Id) → Contains ids id → ShowSameAt one.files other.files id

module _ (files others : List FileReplica) (rising : IsRising files) (rising_too : IsRising others) (id : Id)
    (file other : FileReplica) (inside : Contains files file) (inside_too : Contains others other) (has_id : file.id ≡ id)
    (has_id_too : other.id ≡ id) where
  same_shows : ShowSameAt files others id → ShowsSame file other
  same_shows at =
      let here : at.file ≡ file = one_item id_of files at.file file rising at.inside inside (at.has_id ∙ sym has_id) in
      let there : at.other ≡ other = one_item id_of others at.other other rising_too at.inside_too inside_too
      (at.has_id_too ∙ sym has_id_too) in
      subst (ShowsSame file) there (subst (λ (one : FileReplica). ShowsSame one at.other) here at.same)

  -- the test of the two files with the identifier
  pub same_at : (flag : Bool) → IsTrue flag ↔ ShowsSame file other → IsTrue flag ↔ ShowSameAt files others id
  same_at flag means = (
    λ is. record {
      file = file;
      other = other;
      inside = inside;
      inside_too = inside_too;
      has_id = has_id;
      has_id_too = has_id_too;
      same = means.0 is;
    },
    λ at. means.1 (same_shows at),
  )

turned_same : {files others : List FileReplica} {id : Id} → ShowSameAt files others id → ShowSameAt others files id
turned_same at = record {
  file = at.other;
  other = at.file;
  inside = at.inside_too;
  inside_too = at.inside;
  has_id = at.has_id_too;
  has_id_too = at.has_id;
  same = record { kind = sym at.same.kind; versions = sym at.same.versions };
}

turned_names : (one other : Saved) → BindSame one other → BindSame other one
turned_names one other names dir name target = let either = names dir name target in (either.1, either.0)

turned_alike : {one other : Saved} {ids others : List Id} → ShowAlike one other ids others →
    ShowAlike other one others ids
turned_alike {one} {other} alike = record {
  names = turned_names one other alike.names;
  same = sym alike.same;
  each = λ id inside. turned_same (alike.each id (subst (λ list. Contains list id) (sym alike.same) inside));
}

-- what is named here is named there
named_there : (one other : Saved) → BindSame one other → (object : Id) → IsNamedBy one.entries object →
    IsNamedBy other.entries object
named_there one other names object named =
    let bound = (names named.entry.dir named.entry.name object).0 (record {
      entry = named.entry;
      inside = named.inside;
      live = named.live;
      in_dir = refl;
      named = refl;
      leads = named.leads;
    }) in
    record { entry = bound.entry; inside = bound.inside; live = bound.live; leads = bound.leads }

module _ (one other : Saved) (fits : FitsImage one) (ids others : List Id) (visible : AreVisible one ids)
    (visible_too : AreVisible other others) (alike : ShowAlike one other ids others) where
  visible_there : (object : Id) → IsVisibleBy one object → IsVisibleBy other object
  visible_there object seen =
      (visible_too object).0 (subst (λ list. Contains list object) alike.same ((visible object).1 seen))

  has_there : (object : Id) (is : FileReplica → Type 0) →
      ((file same : FileReplica) → ShowsSame file same → is file → is same) → HasObject one object is →
      HasObject other object is
  has_there object is keeps has =
      let at = alike.each object ((visible object).1 has.visible) in
      let file : has.file ≡ at.file = one_item id_of one.files has.file at.file fits.tables.rising_files has.inside
      at.inside (has.has_id ∙ sym at.has_id) in
      record {
        visible = visible_there object has.visible;
        file = at.other;
        inside = at.inside_too;
        has_id = at.has_id_too;
        so = keeps at.file at.other at.same (subst is file has.so);
      }

  kind_there : (object : Id) (kind : Kind) → (tables_view one).kinds object kind → (tables_view other).kinds object kind
  kind_there object kind =
      has_there object (λ file. file.kind ≡ kind) (λ file same shows is. sym shows.kind ∙ is)

  versions_there : (object : Id) (versions : List Version) → (tables_view one).versions object versions →
      (tables_view other).versions object versions
  versions_there object versions =
      has_there object (λ file. file.versions ≡ versions) (λ file same shows is. sym shows.versions ∙ is)

  orphan_there : (object : Id) → IsOrphanIn one.entries one.files object → IsOrphanIn other.entries other.files object
  orphan_there object orphan = go (visible_there object (inr orphan))
    where
      go : IsVisibleBy other object → IsOrphanIn other.entries other.files object
      go (inl named) =
          absurd (orphan.nameless (named_there other one (turned_names one other alike.names) object named))
      go (inr is) = is

-- views that are alike show the same names
pub alike_names : (one other : Saved) → AreAlike (tables_view one) (tables_view other) → BindSame one other
alike_names one other alike dir name target =
    let here = tables_bound one dir name target in
    let there = tables_bound other dir name target in
    let either = alike.bound dir name target in (
      λ binds. there.1 (either.0 (here.0 binds)),
      λ binds. here.1 (either.1 (there.0 binds)),
    )

module _ (one other : Saved) (fits : FitsImage one) (fits_too : FitsImage other) (ids others : List Id)
    (visible : AreVisible one ids) (visible_too : AreVisible other others) where
  alike_out : ShowAlike one other ids others → AreAlike (tables_view one) (tables_view other)
  alike_out alike =
      let back = turned_alike alike in
      record {
        bound = λ dir name target.
            let here = tables_bound one dir name target in
            let there = tables_bound other dir name target in
            let either = alike.names dir name target in (
              λ bound. there.0 (either.0 (here.1 bound)),
              λ bound. here.0 (either.1 (there.1 bound)),
            );
        kinds = λ object kind. (
          kind_there one other fits ids others visible visible_too alike object kind,
          kind_there other one fits_too others ids visible_too visible back object kind,
        );
        versions = λ object versions. (
          versions_there one other fits ids others visible visible_too alike object versions,
          versions_there other one fits_too others ids visible_too visible back object versions,
        );
        orphans = λ object. (
          orphan_there one other fits ids others visible visible_too alike object,
          orphan_there other one fits_too others ids visible_too visible back object,
        );
      }

  module _ (alike : AreAlike (tables_view one) (tables_view other)) where
    seen_there : (object : Id) → IsVisibleBy one object → IsVisibleBy other object
    seen_there object (inl named) = inl (named_there one other (alike_names one other alike) object named)
    seen_there object (inr orphan) = inr ((alike.orphans object).0 orphan)

    seen_here : (object : Id) → IsVisibleBy other object → IsVisibleBy one object
    seen_here object (inl named) = inl (named_there other one (turned_names one other (alike_names one other alike)) object named)
    seen_here object (inr orphan) = inr ((alike.orphans object).1 orphan)

    each_in : (id : Id) → Contains ids id → ShowSameAt one.files other.files id
    each_in id inside =
        let seen = (visible id).0 inside in
        let held = visible_held fits seen in
        let file : FileReplica = held.item in
        let has : HasObject one id (λ other. other ≡ file) =
        record { visible = seen; file = file; inside = held.inside; has_id = held.has_id; so = refl } in
        let kind = (alike.kinds id file.kind).0 ((so_of_file fits has (λ other. other.kind ≡ file.kind)).0 refl) in
        let versions = (alike.versions id file.versions).0
        ((so_of_file fits has (λ other. other.versions ≡ file.versions)).0 refl) in
        let same : versions.file ≡ kind.file = one_item id_of other.files versions.file kind.file
        fits_too.tables.rising_files versions.inside kind.inside (versions.has_id ∙ sym kind.has_id) in
        record {
          file = file;
          other = kind.file;
          inside = held.inside;
          inside_too = kind.inside;
          has_id = held.has_id;
          has_id_too = kind.has_id;
          same = record {
            kind = sym kind.so;
            versions = sym (subst (λ (other : FileReplica). other.versions ≡ file.versions) same versions.so);
          };
        }

    alike_into : IsRisingBy (λ (id : Id). id) ids → IsRisingBy (λ (id : Id). id) others →
        ShowAlike one other ids others
    alike_into rising rising_too = record {
      names = alike_names one other alike;
      same = same_items (λ (id : Id). id) ids others rising rising_too (λ id. (
        λ inside. (visible_too id).1 (seen_there id ((visible id).0 inside)),
        λ inside. (visible id).1 (seen_here id ((visible_too id).0 inside)),
      ));
      each = each_in;
    }

  -- the tables show alike exactly where these do
  pub alike_tables : IsRisingBy (λ (id : Id). id) ids → IsRisingBy (λ (id : Id). id) others →
      ShowAlike one other ids others ↔ AreAlike (tables_view one) (tables_view other)
  alike_tables rising rising_too = (alike_out, λ alike. alike_into alike rising rising_too)
