-- Joins of the vectors of versions.
use Rattle.std.proofs.Common.{◌≡◌, ℕ, ◌+◌, ◌<◌, List, [], ◌∷◌, ◌++◌, length, get_or, take, refl, sym, ap, ◌∙◌, arith}
use Rattle.std.proofs.lemmas.List.{take_more}
use Rattle.ficus_vectors.specs.Vector.{Counts, no_counts, join}
use Rattle.ficus_vectors.specs.VectorLaws.{join_comm, join_assoc, join_covered, none_joined, join_with_none, covers_itself}
use Rattle.ficus_file.specs.declared.version.Version.{Version}
use Rattle.ficus_file.specs.declared.file.FileReplica.{FileReplica}
use Rattle.ficus_file.specs.Version.{join_all}
use Rattle.ficus_file.specs.File.{covered_file}

join_all_more : (versions : List Version) (version : Version) →
    join_all (versions ++ version ∷ []) ≡ join (join_all versions) version.vector
join_all_more [] version = join_comm version.vector no_counts
join_all_more (first ∷ later) version =
    ap (join first.vector) (join_all_more later version) ∙ sym (join_assoc first.vector (join_all later) version.vector)

-- one version more is joined to what was joined
pub joined_step : (versions : List Version) (k : ℕ) (d : Version) (from : Counts) → k < length versions →
    join (join from (join_all (take k versions)))
    (get_or versions k d).vector ≡ join from (join_all (take (k + 1) versions))
joined_step versions k d from within =
    join_assoc from (join_all (take k versions)) (get_or versions k d).vector ∙ ap (join from)
    (sym (join_all_more (take k versions) (get_or versions k d)) ∙ ap join_all (sym (take_more versions k d within)))

-- what is joined from no counts on
pub joined_from_none : (versions items : List Version) (from joined : Counts) → joined ≡ join from (join_all items) →
    from ≡ no_counts → items ≡ versions → joined ≡ join_all versions
joined_from_none versions items from joined is none same =
    is ∙ ap (λ v. join v (join_all items)) none ∙ none_joined (join_all items) ∙ ap join_all same

-- to cover twice is to cover once
pub covered_twice : (file : FileReplica) → covered_file (covered_file file) ≡ covered_file file
covered_twice file =
    let all : Counts = join_all file.versions in
    ap (λ v. record file { covered = v }) (join_assoc file.covered all all ∙ ap (join file.covered) (join_covered all all (covers_itself all)))

-- what has no versions is the same once it is covered
pub nothing_covered : (file : FileReplica) → length file.versions ≡ 0 → covered_file file ≡ file
nothing_covered file none =
    ap (λ v. record file { covered = v }) (ap (join file.covered) (none_to_join file.versions none) ∙ join_with_none file.covered)
  where
    none_to_join : (versions : List Version) → length versions ≡ 0 → join_all versions ≡ no_counts
    none_to_join [] is = refl
    none_to_join (version ∷ versions) is = absurd (omega (arith, is))
