-- Files that fit tables: made, written and merged.
use Rattle.std.specs.Prelude.{◌≡◌, ℕ, ◌+◌, ◌-◌, ◌<◌, ◌≤◌, List, [], ◌∷◌, length, Contains}
use Rattle.std.proofs.Common.{refl, sym, subst, ◌∙◌, ap, arith, inl, inr}
use Rattle.ficus_ids.specs.KindLaws.{kind_sort, text_short}
use Rattle.ficus_ids.specs.ListLaws.{here_or_there, not_inside_none}
use Rattle.ficus_ids.specs.Members.{IsMember}
use Rattle.ficus_ids.specs.declared.id.Id.{Id}
use Rattle.ficus_ids.specs.declared.kind.Kind.{Kind}
use Rattle.ficus_ids.specs.Kind.{sort_of, FitsKind}
use Rattle.ficus_ids.specs.declared.kind.Kind.TheVariants.{Dir}
use Rattle.ficus_ids.specs.declared.kind.Sort.{Sort}
use Rattle.ficus_ids.specs.declared.kind.Sort.TheVariants.{Directory, Versioned, Fixed}
use Rattle.ficus_vectors.specs.Vector.{count_of, no_counts, join}
use Rattle.ficus_vectors.specs.VectorLaws.{count_of-none, join_with_none, bump_at_most}
use Rattle.ficus_file.specs.File.{IsWellFormed, over_all, first_of, first_versions, made_file, advanced, covered_file}
use Rattle.ficus_file.specs.FileLaws.{made_well_formed}
use Rattle.ficus_file.specs.Version.{join_all}
use Rattle.ficus_file.specs.declared.file.FileReplica.{FileReplica}
use Rattle.ficus_file.specs.declared.version.Version.{Version}
use Rattle.ficus_merge_files.specs.Merge.{IsMergedFile}
use Rattle.ficus_merge_files.specs.Versions.{AreMerged, IsKept, IsOfEither}
use Rattle.ficus_merge_files.proofs.Current.{merged_current}
use Rattle.ficus_durable_state.specs.Limits.{update_limit, file_limit}
use Rattle.ficus_durable_state.specs.Saved.{IsOfPast, IsFileOfPast}
use Rattle.ficus_durable_state.specs.Tables.{IsIssuable, FitsVersion, FitsFile}
use Rattle.ficus_durable_state.proofs.CountFits.{join_below, join_all_at_most, join_all_fits, join_fits, none_fits, bump_fits}

-- it doesn't matter which of two lists comes first
turned_kept : (mine theirs : List Version) (version : Version) → IsKept mine theirs version → IsKept theirs mine version
turned_kept mine theirs version kept = record {
  from = turned_from kept.from;
  latest = record { not_mine = kept.latest.not_theirs; not_theirs = kept.latest.not_mine };
}
  where
    turned_from : IsOfEither mine theirs version → IsOfEither theirs mine version
    turned_from (inl inside) = inr inside
    turned_from (inr inside) = inl inside

-- what is of the past stays of it
pub past_later : (me next : ℕ) (id : Id) → IsOfPast me next id → IsOfPast me (next + 1) id
past_later me next id past own = omega (arith, past own)

module _ (members me next : ℕ) where
  -- a file of a replica's tables
  pub record FitsAsFile (file : FileReplica) : Type 0 where
    pub tables : FitsFile members file
    pub past : IsFileOfPast me next file

  -- a version of such a file
  record FitsAsVersion (version : Version) : Type 0 where
    tables : FitsVersion members version
    past : count_of version.vector me < next

  versions_fit : (file : FileReplica) → FitsAsFile file → (version : Version) → Contains file.versions version →
      FitsAsVersion version
  versions_fit file fits version inside =
      record { tables = fits.tables.versions version inside; past = fits.past.versions version inside }

  -- where both are directories or both are files, though only one kind is said
  other_is_dir : (mine theirs both : FileReplica) → IsWellFormed theirs → IsWellFormed both →
      IsMergedFile mine theirs both → both.kind ≡ Dir → theirs.kind ≡ Dir
  other_is_dir mine theirs both well well_both merged is = elim (kind_sort theirs.kind) [
    | inl dir ↦ dir
    | inr is_file ↦
        let none : length both.versions ≡ 0 = ap (λ (l : List Version). length l) (well_both.directory is) in
        let some = merged_current theirs.versions mine.versions both.versions (well.current is_file).at_least (omega arith) turned in
        absurd (omega (arith, some.at_least))
  ]
    where
      turned : AreMerged theirs.versions mine.versions both.versions
      turned = record {
        items = λ version. (
          λ inside. turned_kept mine.versions theirs.versions version ((merged.versions.items version).0 inside),
          λ kept. (merged.versions.items version).1 (turned_kept theirs.versions mine.versions version kept),
        );
        ordered = merged.versions.ordered;
      }

  -- what two files that fit make together fits
  pub merged_file_fits : (mine theirs both : FileReplica) → FitsAsFile mine → FitsAsFile theirs →
      IsWellFormed both → IsMergedFile mine theirs both → FitsAsFile both
  merged_file_fits mine theirs both fits others well merged = record {
    tables = record {
      id = subst (IsIssuable members) (sym merged.id) fits.tables.id;
      well_formed = well;
      versions = λ version inside. (each version inside).tables;
      covered = rw merged.covered (join_fits members mine.covered theirs.covered fits.tables.covered others.tables.covered);
      directory = λ dir.
          let mine_none = fits.tables.directory (sym merged.kind ∙ dir) in
          let theirs_none = others.tables.directory (other_is_dir mine theirs both others.tables.well_formed well merged dir) in
          merged.covered ∙ ap (λ v. join v theirs.covered) mine_none ∙ ap (join no_counts) theirs_none ∙ join_with_none no_counts;
    };
    past = record {
      id = subst (IsOfPast me next) (sym merged.id) fits.past.id;
      versions = λ version inside. (each version inside).past;
      covered = rw merged.covered (join_below mine.covered theirs.covered me next fits.past.covered others.past.covered);
    };
  }
    where
      of_either : (version : Version) → IsOfEither mine.versions theirs.versions version → FitsAsVersion version
      of_either version (inl inside) = versions_fit mine fits version inside
      of_either version (inr inside) = versions_fit theirs others version inside

      each : (version : Version) → Contains both.versions version → FitsAsVersion version
      each version inside = of_either version ((merged.versions.items version).0 inside).from

module _ (members me next : ℕ) (member : IsMember members me) (some : 1 ≤ next) (room : next ≤ update_limit) where
  -- the version of the next update over versions that fit fits afterwards
  over_all_fits : (bytes : List ℕ) (versions : List Version) → length bytes ≤ file_limit →
      ((version : Version) → Contains versions version → FitsAsVersion members me next version) →
      FitsAsVersion members me (next + 1) (over_all me bytes versions)
  over_all_fits bytes versions short each =
      let least : count_of (join_all versions) me ≤ next - 1 =
      join_all_at_most versions me (next - 1) (λ version inside. omega (arith, (each version inside).past)) in
      let all = join_all_fits members versions (λ version inside. (each version inside).tables) in
      record {
        tables = record {
          vector = bump_fits members me (join_all versions) member (omega arith) all;
          bytes = short;
        };
        past = omega (arith, bump_at_most me (join_all versions) me);
      }

  of_one : (one version : Version) → FitsAsVersion members me (next + 1) one → Contains (one ∷ []) version →
      FitsAsVersion members me (next + 1) version
  of_one one version fits inside = elim (here_or_there one version [] inside) [
    | inl is ↦ subst (FitsAsVersion members me (next + 1)) (sym is) fits
    | inr none ↦ absurd (not_inside_none version none)
  ]

  first_fits : (kind : Kind) (text : List ℕ) → FitsKind kind text → (version : Version) →
      Contains (first_versions kind me text) version → FitsAsVersion members me (next + 1) version
  first_fits kind text fits version inside = by_sort (sort_of kind) inside
    where
      short : length text ≤ file_limit
      short = omega (arith, text_short kind text fits)

      first : Contains (over_all me text [] ∷ []) version → FitsAsVersion members me (next + 1) version
      first here = of_one (over_all me text []) version (over_all_fits text [] short (λ other none. absurd (not_inside_none other none))) here

      by_sort : (sort : Sort) → Contains (first_of sort me text) version → FitsAsVersion members me (next + 1) version
      by_sort Directory none = absurd (not_inside_none version none)
      by_sort Versioned here = first here
      by_sort Fixed here = first here

  -- an object that the next update makes fits afterwards
  pub made_file_fits : (kind : Kind) (text : List ℕ) → FitsKind kind text →
      FitsAsFile members me (next + 1) (made_file (record { replica = me; number = next }) kind me text)
  made_file_fits kind text fits = record {
    tables = record {
      id = record { replica = member; at_least = some; at_most = room };
      well_formed = made_well_formed (record { replica = me; number = next }) kind me text fits;
      versions = λ version inside. (first_fits kind text fits version inside).tables;
      covered = none_fits members;
      directory = λ dir. refl;
    };
    past = record {
      id = λ own. omega arith;
      versions = λ version inside. (first_fits kind text fits version inside).past;
      covered = omega (arith, count_of-none me);
    };
  }

  -- a file that the next update writes fits afterwards
  pub advanced_file_fits : (bytes : List ℕ) (file : FileReplica) → length bytes ≤ file_limit →
      IsWellFormed (advanced me bytes file) → FitsAsFile members me next file →
      FitsAsFile members me (next + 1) (advanced me bytes file)
  advanced_file_fits bytes file short well fits = record {
    tables = record {
      id = fits.tables.id;
      well_formed = well;
      versions = λ version inside. (written version inside).tables;
      covered = fits.tables.covered;
      directory = fits.tables.directory;
    };
    past = record {
      id = past_later me next file.id fits.past.id;
      versions = λ version inside. (written version inside).past;
      covered = omega (arith, fits.past.covered);
    };
  }
    where
      written : (version : Version) → Contains (over_all me bytes file.versions ∷ []) version →
          FitsAsVersion members me (next + 1) version
      written version inside = of_one (over_all me bytes file.versions) version
          (over_all_fits bytes file.versions short (versions_fit members me next file fits)) inside

  -- a file whose versions are covered fits afterwards
  pub covered_file_fits : (file : FileReplica) → FitsAsFile members me next file →
      FitsAsFile members me (next + 1) (covered_file file)
  covered_file_fits file fits = record {
    tables = record {
      id = fits.tables.id;
      well_formed = record {
        directory = fits.tables.well_formed.directory;
        current = fits.tables.well_formed.current;
        fixed = fits.tables.well_formed.fixed;
      };
      versions = fits.tables.versions;
      covered = join_fits members file.covered (join_all file.versions) fits.tables.covered
          (join_all_fits members file.versions fits.tables.versions);
      directory = λ dir. ap (λ v. join v (join_all file.versions)) (fits.tables.directory dir)
          ∙ ap (λ versions. join no_counts (join_all versions)) (fits.tables.well_formed.directory dir)
          ∙ join_with_none no_counts;
    };
    past = record {
      id = past_later me next file.id fits.past.id;
      versions = λ version inside. omega (arith, fits.past.versions version inside);
      covered = omega (arith, join_below file.covered (join_all file.versions) me next fits.past.covered below_all);
    };
  }
    where
      below_all : count_of (join_all file.versions) me < next
      below_all =
          let most = join_all_at_most file.versions me (next - 1)
          (λ version inside. omega (arith, fits.past.versions version inside)) in
          omega arith

  -- one that stays fits afterwards
  pub file_fits_later : (file : FileReplica) → FitsAsFile members me next file → FitsAsFile members me (next + 1) file
  file_fits_later file fits = record {
    tables = fits.tables;
    past = record {
      id = past_later me next file.id fits.past.id;
      versions = λ version inside. omega (arith, fits.past.versions version inside);
      covered = omega (arith, fits.past.covered);
    };
  }
