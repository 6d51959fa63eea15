-- There is one log behind a generation, and it is the one that is found step by step.
use Rattle.std.proofs.Common.{◌≡◌, ◌↔◌, ℕ, zero, suc, ◌+◌, ◌<◌, Option, Some, None, List, [], ◌∷◌, length, refl, sym, ◌∙◌, ap, subst, arith}
use Rattle.ficus_log.specs.Log.{AreRecords, IsEnd, IsLog, Log, Piece, behind, log_of, record_in}
use Rattle.ficus_log.proofs.Walks.{begins_read, ended, length-begins, one_more, read_begins}

-- none is found where none stands, and none stands where none is found
none_found : (last : ℕ) (bytes : List ℕ) (found : Option Piece) → record_in last bytes ≡ found → IsEnd last bytes
    → record_in last bytes ≡ None
none_found last bytes None is ends = is
none_found last bytes (Some piece) is ends = absurd (ends piece.body piece.rest (read_begins last bytes piece is))

pub none_stands : (last : ℕ) (bytes : List ℕ) → record_in last bytes ≡ None → IsEnd last bytes
none_stands last bytes none body rest is =
    absurd (let both = sym none ∙ begins_read last body rest bytes is in cc)

-- what stands there is found
log_found : (bodies : List (List ℕ)) (last : ℕ) (rest bytes : List ℕ) → AreRecords last bodies rest bytes
    → IsEnd (last + length bodies) rest → log_of last bytes ≡ record { bodies = bodies; rest = rest }
log_found [] last rest bytes same ends =
    let here : IsEnd last bytes =
    subst (λ (l : List ℕ). IsEnd last l) (sym same)
    (subst (λ (n : ℕ). IsEnd n rest) (let e : last + 0 ≡ last = omega arith in e) ends) in
    ended last bytes (none_found last bytes (record_in last bytes) refl here)
    ∙ ap (λ (l : List ℕ). let log : Log = record { bodies = []; rest = l } in log) same
log_found (body ∷ bodies) last rest bytes (next, is, are) ends =
    let then_ : IsEnd (last + 1 + length bodies) rest =
    subst (λ (n : ℕ). IsEnd n rest) (let e : last + suc (length bodies) ≡ last + 1 + length bodies = omega arith in e) ends in
    one_more last bytes (record { body = body; rest = next }) (begins_read last body next bytes is)
    ∙ ap (λ (log : Log). behind (body ∷ []) log) (log_found bodies (last + 1) rest next are then_)

-- and what is found stands there
log_stands : (n last : ℕ) (bytes : List ℕ) (found : Option Piece) → record_in last bytes ≡ found → length bytes < n
    → IsLog last (log_of last bytes) bytes
log_stands zero last bytes found is less = absurd (omega arith)
log_stands (suc n) last bytes None none less =
    subst (λ (log : Log). IsLog last log bytes) (sym (ended last bytes none))
    (record {
      records = refl;
      ends = subst (λ (n : ℕ). IsEnd n bytes) (let e : last ≡ last + 0 = omega arith in e) (none_stands last bytes none);
    })
log_stands (suc n) last bytes (Some piece) is less =
    let begins = read_begins last bytes piece is in
    let shorter = length-begins last piece.body piece.rest bytes begins in
    let next = log_stands n (last + 1) piece.rest (record_in (last + 1) piece.rest) refl (omega arith) in
    let log : Log = log_of (last + 1) piece.rest in
    subst (λ (log : Log). IsLog last log bytes) (sym (one_more last bytes piece is))
    (record {
      records = (piece.rest, begins, next.records);
      ends = subst (λ (n : ℕ). IsEnd n log.rest)
          (let e : last + 1 + length log.bodies ≡ last + suc (length log.bodies) = omega arith in e) next.ends;
    })

pub log_is : {last : ℕ} {log : Log} {bytes : List ℕ} → IsLog last log bytes → log_of last bytes ≡ log
log_is {last} {log} {bytes} is = log_found log.bodies last log.rest bytes is.records is.ends

pub has_log : (last : ℕ) (bytes : List ℕ) → IsLog last (log_of last bytes) bytes
has_log last bytes = log_stands (suc (length bytes)) last bytes (record_in last bytes) refl (omega arith)

pub read_exactly : (last : ℕ) (log : Log) (bytes : List ℕ) → log_of last bytes ≡ log ↔ IsLog last log bytes
read_exactly last log bytes =
    (λ is. subst (λ (found : Log). IsLog last found bytes) is (has_log last bytes), λ is. log_is is)

pub one_log : (last : ℕ) (one other : Log) (bytes : List ℕ) → IsLog last one bytes → IsLog last other bytes
    → one ≡ other
one_log last one other bytes is also = sym (log_is is) ∙ log_is also
