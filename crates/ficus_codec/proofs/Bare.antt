-- What has no versions.
use Rattle.std.specs.Prelude.{◌≡◌, ◌*◌, ◌≤◌, ◌++◌, ℕ, List, [], take, replicate}
use Rattle.std.specs.List.{flat_map}
use Rattle.std.specs.Int.{w32, to_be_bytes}
use Rattle.std.proofs.Common.{◌∙◌, sym, arith, inl, inr, append_assoc}
use Rattle.std.proofs.lemmas.List.{take-replicate}
use Rattle.ficus_ids.specs.KindLaws.{kind_sort}
use Rattle.ficus_vectors.specs.Vector.{no_counts}
use Rattle.ficus_file.specs.declared.file.FileReplica.{FileReplica}
use Rattle.ficus_durable_state.specs.Tables.{FitsFile}
use Rattle.ficus_codec.specs.Formats.{member_counts}
use Rattle.ficus_codec.proofs.NoCounts.{zeros}

-- of 32 zeros so many are the counts of the members, where nothing is counted
pub front_of_zeros : (members : ℕ) → members ≤ 8 →
    take (4 * members) (replicate 32 0) ≡ flat_map (to_be_bytes w32) (member_counts members no_counts)
front_of_zeros members few = take-replicate (4 * members) 32 0 (omega arith) ∙ sym (zeros members few)

-- what was written in two steps are the parts of a file, one after the other
pub bare_joined : (was one two zeroed a b c d : List ℕ) → one ≡ was ++ (a ++ (b ++ c)) → two ≡ one ++ zeroed →
    zeroed ≡ d → two ≡ was ++ (a ++ (b ++ (c ++ d)))
bare_joined was one two zeroed a b c d p q r = rw (q, p, r) (simp append_assoc)

-- nothing is covered of what may stand in tables and has no versions
pub bare_covered : (members : ℕ) (file : FileReplica) → FitsFile members file → file.versions ≡ [] →
    file.covered ≡ no_counts
bare_covered members file fits none = elim (kind_sort file.kind) [
  | inl is_dir ↦ fits.directory is_dir
  | inr other ↦
      let some = (fits.well_formed.current other).at_least in
      absurd (omega (arith, rw none at some))
]
