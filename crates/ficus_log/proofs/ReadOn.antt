-- How far records have been read.
use Rattle.std.proofs.Common.{◌≡◌, ℕ, ◌+◌, ◌≤◌, List, [], ◌∷◌, ◌++◌, length, refl, sym, subst, arith}
use Rattle.std.proofs.lemmas.List.{length_push}
use Rattle.ficus_log.specs.Log.{AreRecords, IsEnd, IsLog, IsRecord}
use Rattle.ficus_log.proofs.Walks.{length-begins}

-- records of these bodies stand in front of what is still to be read
pub record IsReadOn (first last : ℕ) (bytes rest : List ℕ) (bodies : List (List ℕ)) : Type 0 where
  pub records : AreRecords first bodies rest bytes
  pub at : last ≡ first + length bodies
  pub within : length rest ≤ length bytes

pub nothing_read : (first : ℕ) (bytes : List ℕ) → IsReadOn first first bytes bytes []
nothing_read first bytes = record { records = refl; at = omega arith; within = omega arith }

-- one record more
pushed : (first last : ℕ) (bodies : List (List ℕ)) (body bytes rest next : List ℕ) → last ≡ first + length bodies
    → AreRecords first bodies rest bytes → IsRecord last body next rest
    → AreRecords first (bodies ++ body ∷ []) next bytes
pushed first last [] body bytes rest next at are more =
    let same : last ≡ first = omega arith in (
      next,
      subst (λ (n : ℕ). IsRecord n body next bytes) same
          (subst (λ (l : List ℕ). IsRecord last body next l) (sym are) more),
      refl,
    )
pushed first last (other ∷ bodies) body bytes rest next at (behind, is, are) more =
    (behind, is, pushed (first + 1) last bodies body behind rest next (omega arith) are more)

pub read_more : (first last after : ℕ) (bytes rest next : List ℕ) (bodies : List (List ℕ)) (body : List ℕ)
    → IsReadOn first last bytes rest bodies → IsRecord last body next rest → after ≡ last + 1
    → IsReadOn first after bytes next (bodies ++ body ∷ [])
read_more first last after bytes rest next bodies body gone more is =
    let shorter = length-begins last body next rest more in
    let longer = length_push bodies body in
    record {
      records = pushed first last bodies body bytes rest next gone.at gone.records more;
      at = omega (arith, gone.at, is, longer);
      within = omega (arith, gone.within, shorter);
    }

pub all_read : (first last : ℕ) (bytes rest : List ℕ) (bodies : List (List ℕ)) → IsReadOn first last bytes rest bodies
    → IsEnd last rest → IsLog first (record { bodies = bodies; rest = rest }) bytes
all_read first last bytes rest bodies gone ends =
    record { records = gone.records; ends = subst (λ (n : ℕ). IsEnd n rest) gone.at ends }
