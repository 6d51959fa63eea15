-- Orphans, one file after the other.
use Rattle.std.specs.Prelude.{◌≡◌, ◌↔◌, ℕ, ◌+◌, ◌≤◌, List, [], ◌∷◌, ◌++◌, length, take, slice_get, Some, Bool, true, false, not, Contains, IsTrue}
use Rattle.std.proofs.Common.{refl, sym, ap, subst, ◌∙◌, inl, inr}
use Rattle.std.proofs.lemmas.Bool.{false≢true}
use Rattle.std.proofs.lemmas.List.{take_all}
use Rattle.std.proofs.lemmas.List.Elements.{Contains-append_left, Contains-push}
use Rattle.ficus_ids.specs.ListLaws.{not_inside_none}
use Rattle.ficus_ids.specs.declared.id.Id.{Id}
use Rattle.ficus_entry.specs.declared.entry.Entry.{Entry}
use Rattle.ficus_file.specs.Files.{id_of, IsRising}
use Rattle.ficus_file.specs.declared.file.FileReplica.{FileReplica}
use Rattle.ficus_orphan.specs.Made.{IsMadeOf}
use Rattle.ficus_entry.specs.Inside.{IsNamedBy, IsNameFor}
use Rattle.ficus_orphan.specs.Orphan.{AreOrphans, IsKept, IsOrphanBy, IsOrphanIn, TellsFile, TellsOrphan}
use Rattle.ficus_file.specs.declared.orphan.Orphan.{Orphan}
use Rattle.ficus_orphan.proofs.Made.{inside_next, made_none, made_stay, made_push, rising_none, rising_push}

-- an object is named by what is made of the entries, each of the object to which it leads
pub named_made : (entries : List Entry) (object : Id) → IsMadeOf IsNameFor entries object ↔ IsNamedBy entries object
named_made entries object = (
  λ is. record { entry = is.item; inside = is.inside; live = is.makes_it.live; leads = is.makes_it.leads },
  λ named. record {
    item = named.entry;
    inside = named.inside;
    makes_it = record { live = named.live; leads = named.leads };
  },
)

-- what is kept is an orphan exactly where it isn't named
pub left_is : (entries : List Entry) (file : FileReplica) (named : Bool) → IsKept entries file →
    IsTrue named ↔ IsNamedBy entries file.id → IsTrue (not named) ↔ IsOrphanBy entries file
left_is entries file true kept means =
    (λ flag. absurd (false≢true flag), λ orphan. absurd (orphan.nameless (means.0 refl)))
left_is entries file false kept means = (
  λ _. record { nameless = λ named. false≢true (means.1 named); kept = kept },
  λ _. refl,
)

-- two tests of one thing come out alike
same_flag : {P : Type 0} (one other : Bool) → IsTrue one ↔ P → IsTrue other ↔ P → one ≡ other
same_flag true true means means_too = refl
same_flag true false means means_too = sym (means_too.1 (means.0 refl))
same_flag false true means means_too = means.1 (means_too.0 refl)
same_flag false false means means_too = refl

-- one thing is told of a file
pub told_once : (file : FileReplica) (one other : Orphan) → TellsFile file one → TellsFile file other → one ≡ other
told_once file one other tells also =
    let id : one.id ≡ other.id = tells.id ∙ sym also.id in
    let kind : one.kind ≡ other.kind = tells.kind ∙ sym also.kind in
    let conflict : one.conflict ≡ other.conflict = same_flag one.conflict other.conflict tells.conflict also.conflict in
    λ i. record { id = id i; kind = kind i; conflict = conflict i }

-- the same orphan in another list
pub orphan_among : {entries : List Entry} {files : List FileReplica} {object : Id}
    (orphan : IsOrphanIn entries files object) (others : List FileReplica) → Contains others orphan.file →
    IsOrphanIn entries others object
orphan_among orphan others inside = record {
  nameless = orphan.nameless;
  file = orphan.file;
  inside = inside;
  has_id = orphan.has_id;
  kept = orphan.kept;
}

-- an orphan of a list is its file
pub orphan_here : {entries : List Entry} {files : List FileReplica} {object : Id} {file : FileReplica}
    (orphan : IsOrphanIn entries files object) → file ≡ orphan.file → IsOrphanBy entries file
orphan_here {entries} orphan same = subst (IsOrphanBy entries) (sym same) (record {
  nameless = λ named. orphan.nameless (subst (IsNamedBy entries) orphan.has_id named);
  kept = orphan.kept;
})

module _ (entries : List Entry) (files : List FileReplica) where
  pub orphans_none : AreOrphans entries (take 0 files) []
  orphans_none = record {
    all = made_none (TellsOrphan entries) files;
    complete = λ object orphan. absurd (not_inside_none orphan.file orphan.inside);
    rising = rising_none (λ (orphan : Orphan). orphan.id);
  }

  pub orphans_all : (index : ℕ) (orphans : List Orphan) → length files ≤ index →
      AreOrphans entries (take index files) orphans → AreOrphans entries files orphans
  orphans_all index orphans past are =
      subst (λ whole. AreOrphans entries whole orphans) (take_all index files past) are

  module _ (rising : IsRising files) (index : ℕ) (file : FileReplica) (at : slice_get files index ≡ Some file)
      (orphans : List Orphan) (are : AreOrphans entries (take index files) orphans) where
    pub orphans_stay : (IsOrphanBy entries file → ⊥) → AreOrphans entries (take (index + 1) files) orphans
    orphans_stay none = record {
      all = made_stay (TellsOrphan entries) files index file at orphans are.all (λ orphan tells. none tells.is);
      complete = λ object orphan. elim (inside_next files index file at orphan.file orphan.inside) [
        | inl before ↦ are.complete object (orphan_among orphan (take index files) before)
        | inr here ↦ absurd (none (orphan_here orphan here))
      ];
      rising = are.rising;
    }

    pub orphans_push : (orphan : Orphan) → IsOrphanBy entries file → TellsFile file orphan →
        AreOrphans entries (take (index + 1) files) (orphans ++ orphan ∷ [])
    orphans_push orphan is told =
        let tells : TellsOrphan entries file orphan = record { is = is; told = told } in
        record {
          all = made_push (TellsOrphan entries) files index file at orphans are.all orphan tells
              (λ other also. told_once file other orphan also.told told);
          complete = λ object one. elim (inside_next files index file at one.file one.inside) [
            | inl before ↦
                let held = are.complete object (orphan_among one (take index files) before) in
                record {
                  item = held.item;
                  inside = Contains-append_left orphans (orphan ∷ []) held.item held.inside;
                  has_id = held.has_id;
                }
            | inr here ↦ record {
              item = orphan;
              inside = Contains-push orphans orphan;
              has_id = told.id ∙ ap id_of here ∙ one.has_id;
            }
          ];
          rising = rising_push (TellsOrphan entries) files index file at orphans are.all id_of
              (λ (orphan : Orphan). orphan.id) rising (λ one made makes. makes.told.id) orphan tells are.rising;
        }
