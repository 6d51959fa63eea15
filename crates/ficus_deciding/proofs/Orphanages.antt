-- What tables tell of orphans, and what is in reach of them.
use Rattle.std.proofs.Common.{◌≡◌, ◌↔◌, ◌⊎◌, List, ◌∷◌, refl, sym, subst, inl, inr}
use Rattle.std.specs.Prelude.{Contains, map}
use Rattle.ficus_ids.specs.ListLaws.{from_map, into_map, here, here_or_there, there}
use Rattle.ficus_ids.specs.declared.id.Id.{Id}
use Rattle.ficus_ids.specs.declared.id.TheConstants.{ROOT}
use Rattle.ficus_file.specs.Version.{HasTwoTexts}
use Rattle.ficus_durable_state.specs.Saved.{FitsImage}
use Rattle.ficus_durable_state.specs.declared.saved.Saved.{Saved}
use Rattle.ficus_model.specs.Reached.{IsReached}
use Rattle.ficus_orphan.specs.Made.{IsMadeOf}
use Rattle.ficus_entry.specs.Inside.{IsNamedBy}
use Rattle.ficus_orphan.specs.Orphan.{AreOrphans, IsOrphanIn, TellsOrphan}
use Rattle.ficus_file.specs.declared.orphan.Orphan.{Orphan}
use Rattle.ficus_orphan.proofs.Told.{orphan_here}
use Rattle.ficus_reach.specs.Leads.{LeadsIn}
use Rattle.ficus_reach.specs.ReachedLaws.{IsReached-along}
use Rattle.ficus_rules.specs.Orphans.{AreOrphansIn, IsOrphanTold}
use Rattle.ficus_rules.specs.View.{IsInReachIn}
use Rattle.ficus_deciding.specs.View.{HasObject, tables_view}
use Rattle.ficus_deciding.proofs.Tables.{so_of_file}
use Rattle.ficus_deciding.proofs.Trees.{leads_from, leads_into}

module _ (saved : Saved) where
  -- an orphan has what its file has
  has_file : {object : Id} (orphan : IsOrphanIn saved.entries saved.files object) →
      HasObject saved object (λ held. held ≡ orphan.file)
  has_file orphan = record {
    visible = inr orphan;
    file = orphan.file;
    inside = orphan.inside;
    has_id = orphan.has_id;
    so = refl;
  }

  abbrev orphan_of : (orphan : Orphan) → IsMadeOf (TellsOrphan saved.entries) saved.files orphan →
      IsOrphanIn saved.entries saved.files orphan.id
  orphan_of orphan made =
      let tells = made.makes_it in
      record {
        nameless = λ named. tells.is.nameless (subst (IsNamedBy saved.entries) tells.told.id named);
        file = made.item;
        inside = made.inside;
        has_id = sym tells.told.id;
        kept = tells.is.kept;
      }

  -- the identifiers of all orphans
  pub orphan_ids : (orphans : List Orphan) → AreOrphans saved.entries saved.files orphans → (object : Id) →
      Contains (map (λ orphan. orphan.id) orphans) object ↔ IsOrphanIn saved.entries saved.files object
  orphan_ids orphans are object = (
    λ inside.
        let from = from_map (λ (orphan : Orphan). orphan.id) orphans object inside in
        subst (IsOrphanIn saved.entries saved.files) from.2 (orphan_of from.0 ((are.all.all from.0).0 from.1)),
    λ orphan.
        let held = are.complete object orphan in
        subst (Contains (map (λ orphan. orphan.id) orphans)) held.has_id
        (into_map (λ (orphan : Orphan). orphan.id) orphans held.item held.inside),
  )

  -- and the root
  pub tops_tables : (orphans : List Orphan) → AreOrphans saved.entries saved.files orphans → (top : Id) →
      Contains (ROOT ∷ map (λ orphan. orphan.id) orphans) top ↔
      ((top ≡ ROOT) ⊎ IsOrphanIn saved.entries saved.files top)
  tops_tables orphans are top =
      let ids = map (λ (orphan : Orphan). orphan.id) orphans in
      let orphan = orphan_ids orphans are top in (
        λ inside. elim (here_or_there ROOT top ids inside) [
          | inl root ↦ inl root
          | inr later ↦ inr (orphan.0 later)
        ],
        λ either. elim either [
          | inl root ↦ subst (Contains (ROOT ∷ ids)) (sym root) (here ROOT ids)
          | inr is ↦ there ROOT top ids (orphan.1 is)
        ],
      )

  -- what is reached from these is in reach
  pub reach_tables : (tops : List Id) →
      ((top : Id) → Contains tops top ↔ ((top ≡ ROOT) ⊎ IsOrphanIn saved.entries saved.files top)) → (object : Id) →
      IsReached (LeadsIn saved.entries) (Contains tops) object ↔ IsInReachIn (tables_view saved) object
  reach_tables tops are object = (
    λ reached. IsReached-along (leads_from saved) (λ top. (are top).0) reached,
    λ reached. IsReached-along (leads_into saved) (λ top. (are top).1) reached,
  )

module _ {saved : Saved} (fits : FitsImage saved) where
  told_out : (orphan : Orphan) → IsMadeOf (TellsOrphan saved.entries) saved.files orphan →
      IsOrphanTold (tables_view saved) orphan
  told_out orphan made =
      let told = made.makes_it.told in
      let one = orphan_of saved orphan made in
      let so = so_of_file fits (has_file saved one) in
      let conflict = so (λ file. HasTwoTexts file.versions) in
      record {
        is = one;
        kind = (so (λ file. file.kind ≡ orphan.kind)).0 (sym told.kind);
        conflict = (λ flag. conflict.0 (told.conflict.0 flag), λ has. told.conflict.1 (conflict.1 has));
      }

  told_into : (orphan : Orphan) → IsOrphanTold (tables_view saved) orphan →
      IsMadeOf (TellsOrphan saved.entries) saved.files orphan
  told_into orphan told =
      let so = so_of_file fits (has_file saved told.is) in
      let conflict = so (λ file. HasTwoTexts file.versions) in
      record {
        item = told.is.file;
        inside = told.is.inside;
        makes_it = record {
          is = orphan_here told.is refl;
          told = record {
            id = sym told.is.has_id;
            kind = sym ((so (λ file. file.kind ≡ orphan.kind)).1 told.kind);
            conflict = (λ flag. conflict.1 (told.conflict.0 flag), λ has. told.conflict.1 (conflict.0 has));
          };
        };
      }

  -- the orphans of the tables are those that they show
  pub orphans_tables : (orphans : List Orphan) → AreOrphans saved.entries saved.files orphans →
      AreOrphansIn (tables_view saved) orphans
  orphans_tables orphans are = record {
    all = λ orphan. (
      λ inside. told_out orphan ((are.all.all orphan).0 inside),
      λ told. (are.all.all orphan).1 (told_into orphan told),
    );
    complete = are.complete;
    rising = are.rising;
  }
