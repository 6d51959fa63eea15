-- What an Accept makes of the files that its replica holds.
use Rattle.std.proofs.Common.{◌≡◌, ◌⊎◌, ℕ, ◌+◌, ◌≤◌, List, [], ◌∷◌, ◌++◌, Option, Some, None, refl, sym, ap, ◌∙◌, subst, inl, inr}
use Rattle.std.proofs.lemmas.Option.{same_Some, none-some}
use Rattle.std.specs.Prelude.{Contains}
use Rattle.ficus_ids.specs.ListLaws.{into_map, from_map}
use Rattle.ficus_ids.specs.RisingLaws.{held_or_not}
use Rattle.ficus_ids.specs.declared.id.Id.{Id}
use Rattle.ficus_vectors.specs.Vector.{count_of}
use Rattle.ficus_entry.specs.declared.entry.Entry.{Entry}
use Rattle.ficus_file.specs.Files.{id_of, AreFiles, Holds, HoldsUnder}
use Rattle.ficus_file.specs.declared.file.FileReplica.{FileReplica}
use Rattle.ficus_model.specs.declared.event.Event.{Event}
use Rattle.ficus_model.specs.declared.event.Event.TheVariants.{Accept}
use Rattle.ficus_model.specs.Events.{IsOf, through}
use Rattle.ficus_model.specs.Known.{Knows}
use Rattle.ficus_model.specs.Lawful.{Volume, IsLawful}
use Rattle.ficus_model.specs.Live.{IsMade}
use Rattle.ficus_laws.proofs.Deciding.{Decided}
use Rattle.ficus_laws.proofs.Issued.{made_once}
use Rattle.ficus_laws.proofs.Lawful.{lawful_before}
use Rattle.ficus_laws.proofs.Positions.{agree_before, at_from_before}
use Rattle.ficus_laws.proofs.Updates.{agree_update}
use Rattle.ficus_merge_files.specs.Merge.{CanMerge, Fit, IsMergedFile, IsTaken, AreMergedFiles}
use Rattle.ficus_merge_files.proofs.Current.{ordered_of}
use Rattle.ficus_removal_laws.specs.Laws.{IsAnswer}
use Rattle.ficus_held_laws.specs.Objects.{KeptObject, HasObject, IsObjectMerged, IsOfBoth, IsOnlyOf, IsTaken as IsTakenObject, HasMerged, AreObjectsMerged}
use Rattle.ficus_held_laws.proofs.Merging.{objects_merged}
use Rattle.ficus_held_laws.proofs.Standing.{inside_decided}
use Rattle.ficus_file_laws.specs.Items.{AreVersionsOf}
use Rattle.ficus_file_laws.proofs.Counted.{joined_counts}
use Rattle.ficus_file_laws.proofs.Merging.{count_members, merges_agree}
use Rattle.ficus_file_laws.proofs.Taking.{lists_agree, few_of_kind_merged}
use Rattle.ficus_held_file_laws.specs.Tables.{object_of, objects_of, AreHeldEntries, AreHeldFiles}
use Rattle.ficus_held_file_laws.specs.Laws.{AreTouched}
use Rattle.ficus_held_file_laws.proofs.Files.{object_held, held_object, kept_file, versions_held}

-- In each of these the lists are the files of a replica, and of the server when it served.
module _ (volume : Volume) (H : List Event) (replica served server : ℕ) (lawful : IsLawful volume H)
    (by_server : IsOf H served server) {mine theirs : List FileReplica}
    (here : AreHeldFiles volume.members H replica mine)
    (there : AreHeldFiles volume.members (through served H) server theirs) where
  abbrev at_server : List Event
  at_server = through served H

  module _ {file other : FileReplica} (inside : Contains mine file) (inside_theirs : Contains theirs other)
      (same : other.id ≡ file.id) where
    own_versions : AreVersionsOf H (Knows H replica) file.id file.versions
    own_versions = versions_held here inside

    his_versions : AreVersionsOf at_server (Knows at_server server) file.id other.versions
    his_versions = subst (λ id. AreVersionsOf at_server (Knows at_server server) id other.versions) same
        (versions_held there inside_theirs)

    his_made : IsMade H (Knows at_server server) file.id other.kind
    his_made =
        let m = subst (λ id. IsMade at_server (Knows at_server server) id other.kind) same
        (kept_file there inside_theirs).held.made in
        record {
          position = m.position;
          dir = m.dir;
          name = m.name;
          text = m.text;
          known = m.known;
          update = agree_update (agree_before (served + 1) H) (at_from_before (served + 1) m.update.at).0 m.update;
        }

    can_merge : volume.members ≤ 8 → CanMerge file other
    can_merge fits = record {
      kind = made_once (kept_file here inside).held.made his_made;
      agree = lists_agree volume H replica served server file.versions other.versions lawful by_server own_versions his_versions;
      few = λ both merged.
          few_of_kind_merged volume H replica served server file.versions other.versions lawful by_server
          own_versions his_versions file.kind (kept_file here inside).held.made fits both merged;
    }

    -- what both make together is, in the terms of the laws, what their objects make
    file_merged : {both : FileReplica} → IsMergedFile file other both →
        IsObjectMerged volume.members (object_of file) (object_of other) (object_of both)
    file_merged {both} merged = record {
      id = merged.id;
      kind = merged.kind;
      versions = merges_agree volume.members file.versions other.versions
          (count_members volume H file.versions lawful own_versions)
          (count_members volume at_server other.versions (lawful_before volume H (served + 1) lawful) his_versions)
          both.versions merged.versions;
      cover = ap count_of merged.covered ∙ joined_counts file.covered other.covered;
    }

  pub files_fit : volume.members ≤ 8 → Fit mine theirs
  files_fit fits = record {
    each = λ file other inside inside_theirs same. can_merge inside inside_theirs (sym same) fits;
  }

  module _ (entries : List Entry) (touched : List Id) (both : List FileReplica)
      (are_touched : AreTouched entries touched) (merges : AreMergedFiles touched mine theirs both) where
    -- a file of the merge is an own one, of both, or taken
    abbrev Comes : FileReplica → Type 0
    Comes file = IsOnlyOf (objects_of mine) (objects_of theirs) (object_of file) ⊎
        (IsOfBoth volume.members (objects_of mine) (objects_of theirs) (object_of file) ⊎
        IsTakenObject (objects_of mine) (objects_of theirs) entries (object_of file))

    only : (files others : List FileReplica) (file : FileReplica) → Contains files file → (Holds others file.id → ⊥) →
        IsOnlyOf (objects_of files) (objects_of others) (object_of file)
    only files others file inside none = record {
      inside = into_map object_of files file inside;
      alone = λ has. none (held_object others has);
    }

    comes : (file : FileReplica) → Contains both file → Comes file
    comes file inside = go (held_or_not id_of mine file.id) (held_or_not id_of theirs file.id)
      where
        taken : (his : FileReplica) → Contains theirs his → his.id ≡ file.id → (Holds mine file.id → ⊥) →
            IsTaken touched his (Some file) → Decided (Contains touched his.id) → Comes file
        taken his inside_theirs same none take (inr untouched) = absurd (none-some file (sym (take.unnamed untouched)))
        taken his inside_theirs same none take (inl touches) =
            let is : file ≡ his = same_Some file his (take.named touches) in
            inr (inr (record {
              only = only theirs mine file (subst (Contains theirs) (sym is) inside_theirs) none;
              touched = (are_touched file.id).0 (subst (Contains touched) same touches);
            }))

        go : (own : Option FileReplica) × HoldsUnder mine file.id own →
            (his : Option FileReplica) × HoldsUnder theirs file.id his → Comes file
        go (Some own, at_mine) (Some his, at_theirs) = inr (inl (record {
          own = object_of own;
          his = object_of his;
          inside = into_map object_of mine own at_mine.0;
          inside_theirs = into_map object_of theirs his at_theirs.0;
          same = at_theirs.1 ∙ sym at_mine.1;
          merged = file_merged at_mine.0 at_theirs.0 (at_theirs.1 ∙ sym at_mine.1)
              (merges.each file.id (Some own) (Some his) (Some file) at_mine at_theirs (inside, refl));
        }))
        go (Some own, at_mine) (None, none) =
            let is : file ≡ own =
            same_Some file own (merges.each file.id (Some own) None (Some file) at_mine none (inside, refl)) in
            inl (only mine theirs file (subst (Contains mine) (sym is) at_mine.0) none)
        go (None, none) (Some his, at_theirs) = taken his at_theirs.0 at_theirs.1 none
            (merges.each file.id None (Some his) (Some file) none at_theirs (inside, refl))
            (inside_decided touched his.id)
        go (None, none) (None, none_theirs) =
            absurd (none-some file (sym (merges.each file.id None None (Some file) none none_theirs (inside, refl))))

    -- an own file that the peer doesn't have stays
    own_stays : (file : FileReplica) → Contains mine file → (Holds theirs file.id → ⊥) → Contains both file
    own_stays file inside none = go (held_or_not id_of both file.id)
      where
        go : (found : Option FileReplica) × HoldsUnder both file.id found → Contains both file
        go (found, at_both) =
            let is = merges.each file.id (Some file) None found (inside, refl) none at_both in
            (subst (HoldsUnder both file.id) is at_both).0

    -- one of the peer alone is taken where an entry touches it
    taken_stays : (file : FileReplica) → Contains theirs file → (Holds mine file.id → ⊥) → Contains touched file.id →
        Contains both file
    taken_stays file inside none touches = go (held_or_not id_of both file.id)
      where
        go : (found : Option FileReplica) × HoldsUnder both file.id found → Contains both file
        go (found, at_both) =
            let take = merges.each file.id None (Some file) found none (inside, refl) at_both in
            (subst (HoldsUnder both file.id) (take.named touches) at_both).0

    -- and of a file of both there is the merge
    both_stay : (own his : FileReplica) → Contains mine own → Contains theirs his → his.id ≡ own.id →
        HasMerged volume.members (object_of own) (object_of his) (objects_of both)
    both_stay own his inside inside_theirs same = go (held_or_not id_of both own.id)
      where
        go : (found : Option FileReplica) × HoldsUnder both own.id found →
            HasMerged volume.members (object_of own) (object_of his) (objects_of both)
        go (None, none) =
            absurd (merges.each own.id (Some own) (Some his) None (inside, refl) (inside_theirs, same) none)
        go (Some file, at_both) = record {
          object = object_of file;
          inside = into_map object_of both file at_both.0;
          merged = file_merged inside inside_theirs same
              (merges.each own.id (Some own) (Some his) (Some file) (inside, refl) (inside_theirs, same) at_both);
        }

    objects_merge : AreObjectsMerged volume.members (objects_of mine) (objects_of theirs) entries (objects_of both)
    objects_merge = record {
      from = λ object inside.
          let found = from_map object_of both object inside in
          subst (λ o. IsOnlyOf (objects_of mine) (objects_of theirs) o ⊎
          (IsOfBoth volume.members (objects_of mine) (objects_of theirs) o ⊎
          IsTakenObject (objects_of mine) (objects_of theirs) entries o)) found.2 (comes found.0 found.1);
      own = λ object o.
          let found = from_map object_of mine object o.inside in
          let none = λ (h : Holds theirs found.0.id). o.alone
          (subst (λ (k : KeptObject). HasObject (objects_of theirs) k.id) found.2 (object_held theirs h)) in
          subst (Contains (objects_of both)) found.2
          (into_map object_of both found.0 (own_stays found.0 found.1 none));
      both = λ own his inside inside_theirs same.
          let found = from_map object_of mine own inside in
          let found_theirs = from_map object_of theirs his inside_theirs in
          let one : found_theirs.0.id ≡ found.0.id =
          ap (λ (k : KeptObject). k.id) found_theirs.2 ∙ same ∙ sym (ap (λ (k : KeptObject). k.id) found.2) in
          subst (λ k. HasMerged volume.members own k (objects_of both)) found_theirs.2
          (subst (λ k. HasMerged volume.members k (object_of found_theirs.0) (objects_of both)) found.2
          (both_stay found.0 found_theirs.0 found.1 found_theirs.1 one));
      taken = λ object t.
          let found = from_map object_of theirs object t.only.inside in
          let same : found.0.id ≡ object.id = ap (λ (k : KeptObject). k.id) found.2 in
          let none = λ (h : Holds mine found.0.id). t.only.alone
          (subst (HasObject (objects_of mine)) same (object_held mine h)) in
          let touches = subst (Contains touched) (sym same) ((are_touched object.id).1 t.touched) in
          subst (Contains (objects_of both)) found.2
          (into_map object_of both found.0 (taken_stays found.0 found.1 none touches));
    }

    pub files_merged : (piece : ℕ) → IsAnswer volume H replica served piece server →
        AreHeldEntries volume.members (H ++ Accept replica served piece ∷ []) replica entries →
        AreFiles both → AreHeldFiles volume.members (H ++ Accept replica served piece ∷ []) replica both
    files_merged piece answer held are = record {
      rising = are.rising;
      ordered = λ file inside. ordered_of file (are.each file inside).well_formed;
      kept = objects_merged volume H replica served piece server entries (objects_of mine) (objects_of theirs)
          (objects_of both) answer held.kept here.kept there.kept objects_merge;
    }
