-- Counts of which each is 0.
use Rattle.std.specs.Prelude.{◌≡◌, ℕ, zero, suc, ◌+◌, ◌*◌, ◌≤◌, List, ◌++◌, replicate}
use Rattle.std.specs.List.{flat_map}
use Rattle.std.specs.Int.{w32, to_be_bytes}
use Rattle.std.proofs.Common.{refl, sym, ap, ◌∙◌, append_assoc, arith}
use Rattle.std.proofs.lemmas.List.{replicate-append-replicate}
use Rattle.ficus_ids.specs.Members.{IsCount}
use Rattle.ficus_vectors.specs.Vector.{no_counts}
use Rattle.ficus_vectors.specs.VectorLaws.{count_of-none}
use Rattle.ficus_formats.specs.Format.{Begins}
use Rattle.ficus_codec.specs.Formats.{counts, member_counts}

-- they are spelled as zeros alone
pub zeros : (members : ℕ) → members ≤ 8 →
    flat_map (to_be_bytes w32) (member_counts members no_counts) ≡ replicate (4 * members) 0
unfolding no_counts
zeros zero few = refl
zeros (suc zero) few = refl
zeros (suc (suc zero)) few = refl
zeros (suc (suc (suc zero))) few = refl
zeros (suc (suc (suc (suc zero)))) few = refl
zeros (suc (suc (suc (suc (suc zero))))) few = refl
zeros (suc (suc (suc (suc (suc (suc zero)))))) few = refl
zeros (suc (suc (suc (suc (suc (suc (suc zero))))))) few = refl
zeros (suc (suc (suc (suc (suc (suc (suc (suc zero)))))))) few = refl
zeros (suc (suc (suc (suc (suc (suc (suc (suc (suc k))))))))) few = absurd (omega arith)

-- behind zeros stand more
pub more_zeros : (here more : ℕ) (before mid after : List ℕ) → before ≡ replicate here 0 ++ mid →
    mid ≡ replicate more 0 ++ after → before ≡ replicate (here + more) 0 ++ after
more_zeros here more before mid after first second =
    first ∙ ap (λ (l : List ℕ). replicate here 0 ++ l) second
    ∙ sym (append_assoc (replicate here 0) (replicate more 0) after)
    ∙ ap (λ (l : List ℕ). l ++ after) (replicate-append-replicate here more 0)

-- four for each member
pub no_counts_begin : (members : ℕ) (before after : List ℕ) → IsCount members →
    before ≡ replicate (4 * members) 0 ++ after → Begins (counts members) before no_counts after
no_counts_begin members before after few is = record {
  fits = record {
    at_most = λ replica. omega (arith, count_of-none replica);
    members_only = λ replica other. count_of-none replica;
  };
  spelled = is ∙ ap (λ (l : List ℕ). l ++ after) (sym (zeros members few.at_most));
}
