-- What taking an answer leaves of a file's versions.
use Rattle.std.proofs.Common.{ℕ, ◌+◌, ◌≤◌, List, [], ◌∷◌, ◌++◌, length, sym, ap, subst}
use Rattle.ficus_ids.specs.Kind.{sort_of}
use Rattle.ficus_ids.specs.declared.id.Id.{Id}
use Rattle.ficus_ids.specs.declared.kind.Kind.{Kind}
use Rattle.ficus_vectors.specs.Vector.{count_of}
use Rattle.ficus_file.specs.File.{most_versions}
use Rattle.ficus_file.specs.declared.version.Version.{Version}
use Rattle.ficus_model.specs.declared.event.Event.{Event}
use Rattle.ficus_model.specs.declared.event.Event.TheVariants.{Accept}
use Rattle.ficus_model.specs.Events.{IsOf, through}
use Rattle.ficus_model.specs.Known.{Knows}
use Rattle.ficus_model.specs.Lawful.{Volume, IsLawful}
use Rattle.ficus_model.specs.Live.{IsMade}
use Rattle.ficus_model.specs.Versions.{HasBytes}
use Rattle.ficus_laws.specs.Updates.{Joined}
use Rattle.ficus_laws.proofs.Positions.{agree_before}
use Rattle.ficus_merge_files.specs.Merge.{AgreeOnBytes}
use Rattle.ficus_merge_files.specs.Versions.{AreMerged}
use Rattle.ficus_version_laws.proofs.Comparing.{compare_as_pasts}
use Rattle.ficus_version_laws.proofs.Latest.{agree_are_shown, are_shown_merged}
use Rattle.ficus_version_laws.proofs.Orphaned.{bytes_once}
use Rattle.ficus_version_laws.proofs.Taking.{knows_before, accept_merges}
use Rattle.ficus_version_laws.specs.Listed as listed
use Rattle.ficus_file_laws.specs.Items.{items_of, AreVersionsOf}
use Rattle.ficus_file_laws.proofs.Items.{shown_item}
use Rattle.ficus_file_laws.proofs.Merging.{count_members, merges_agree}
use Rattle.ficus_file_laws.proofs.Few.{few_of_kind, few_versions}

module _ (volume : Volume) (H : List Event) (replica served server : ℕ) {file : Id} (mine theirs : List Version)
    (lawful : IsLawful volume H) (by_server : IsOf H served server) (own : AreVersionsOf H (Knows H replica) file mine)
    (brought : AreVersionsOf (through served H) (Knows (through served H) server) file theirs) where
  abbrev Brought : ℕ → Type 0
  Brought = Knows (through served H) server

  -- what the server was shown is the same in the whole history
  brought_later : AreVersionsOf H Brought file theirs
  brought_later = record {
    shown = agree_are_shown (agree_before (served + 1) H) (λ position known. knows_before H served known) brought.shown;
    ordered = brought.ordered;
  }

  merged_items : (both : List Version) → AreMerged mine theirs both →
      listed.AreMerged volume.members (items_of mine) (items_of theirs) (items_of both)
  merged_items = merges_agree volume.members mine theirs
      (count_members volume H mine lawful own) (count_members volume H theirs lawful brought_later)

  -- what the two lists make together are the versions that are then shown
  pub merged_shown : (piece : ℕ) (both : List Version) → AreMerged mine theirs both →
      let K = H ++ Accept replica served piece ∷ [] in
      AreVersionsOf K (Knows K replica) file both
  merged_shown piece both merged = record {
    shown = accept_merges H replica served piece server by_server volume lawful own.shown brought.shown
        (merged_items both merged);
    ordered = merged.ordered;
  }

  -- versions of the two lists with one vector have the same bytes
  pub lists_agree : AgreeOnBytes mine theirs
  lists_agree version other inside inside_too same =
      let s = shown_item mine version own inside in
      let t = shown_item theirs other brought_later inside_too in
      let compared = compare_as_pasts volume H lawful file s.shown.version t.shown.version s.is.vector t.is.vector in
      let at = compared.equal.0 (record { each = λ by _. ap (λ vector. count_of vector by) same }) in
      bytes_once s.is.bytes (subst (λ position. HasBytes H position other.bytes) (sym at) t.is.bytes)

  -- and they make at most as many together as there are members
  pub few_merged : (both : List Version) → AreMerged mine theirs both → length both ≤ volume.members
  few_merged both merged = few_versions volume H lawful (Joined (Knows H replica) Brought) file both (record {
    shown = are_shown_merged volume lawful own.shown brought_later.shown (merged_items both merged);
    ordered = merged.ordered;
  })

  -- and as one of its kind
  pub few_of_kind_merged : (kind : Kind) → IsMade H (Knows H replica) file kind → volume.members ≤ 8 →
      (both : List Version) → AreMerged mine theirs both → length both ≤ most_versions (sort_of kind)
  few_of_kind_merged kind made fits both merged =
      few_of_kind volume H lawful (Joined (Knows H replica) Brought) file kind made fits both (record {
        shown = are_shown_merged volume lawful own.shown brought_later.shown (merged_items both merged);
        ordered = merged.ordered;
      })
