-- What is read of records.
use Rattle.std.proofs.Common.{◌≡◌, ◌≢◌, ℕ, zero, suc, ◌+◌, ◌==◌, ◌&&◌, ◌≤◌, ◌<◌, ◌^◌, Bool, true, false, Option, Some, None, List, [], ◌∷◌, ◌++◌, length, take, drop, refl, sym, ◌∙◌, ap, subst, arith, append_assoc, length-append, length-drop}
use Rattle.std.specs.Prelude.{if◌then◌else◌, nat_le}
use Rattle.std.proofs.lemmas.List.{take_at, drop_at, append-nil, take-append-le, drop-append-le, take-append-drop, length-take-le}
use Rattle.std.specs.Int.{w32, w64, to_be_bytes, from_be_bytes}
use Rattle.std.proofs.lemmas.Nat.{from_be_bytes-to_be_bytes_8, from_be_bytes-to_be_bytes_4}
use Rattle.std.proofs.lemmas.Bool.Decides.{nat_tests}
use Rattle.ficus_slot.specs.Slot.{number_of, spelled}
use Rattle.ficus_log.specs.Log.{IsRecord, Log, Piece, behind, gone_on, is_record, log_of, piece_of, record_in, record_range, short_number, short_spelled, walked}

-- the numbers in front of a record stand in its first twelve bytes
pub numbers_at : (head rest : List ℕ) → length head ≡ 12
    → (number_of (head ++ rest) ≡ number_of head) × (short_number (drop 8 (head ++ rest)) ≡ short_number (drop 8 head))
unfolding number_of short_number
numbers_at head rest twelve =
    let front : take 8 (head ++ rest) ≡ take 8 head = take-append-le 8 head rest (omega arith) in
    let back : take 4 (drop 8 (head ++ rest)) ≡ take 4 (drop 8 head) =
    ap (λ (l : List ℕ). take 4 l) (drop-append-le 8 head rest (omega arith))
    ∙ take-append-le 4 (drop 8 head) rest (omega (arith, length-drop 8 head)) in
    (ap (from_be_bytes w64) front, ap (from_be_bytes w32) back)

drop_past : (xs ys : List ℕ) (m n : ℕ) → m ≡ length xs + n → drop m (xs ++ ys) ≡ drop n ys
drop_past [] ys m n is = let same : m ≡ n = omega arith in ap (λ (k : ℕ). drop k ys) same
drop_past (x ∷ xs) ys zero n is = absurd (omega arith)
drop_past (x ∷ xs) ys (suc m) n is = drop_past xs ys m n (omega arith)

test_holds : (last gate : ℕ) (rest : List ℕ) (piece : Piece) → gate ≡ 1 → is_record last rest ≡ true
    → piece_of rest ≡ piece → record_in last (gate ∷ rest) ≡ Some piece
test_holds last gate rest piece opens holds is =
    ap (λ (g : ℕ). record_in last (g ∷ rest)) opens
    ∙ ap (λ (b : Bool). if b then Some (piece_of rest) else None) holds ∙ ap Some is

-- such bytes are read as this record
pub begins_read : (last : ℕ) (body rest bytes : List ℕ) → IsRecord last body rest bytes
    → record_in last bytes ≡ Some (record { body = body; rest = rest })
begins_read last body rest bytes begins =
    let head = begins.head in
    let all : List ℕ = head ++ (body ++ rest) in
    let numbers = numbers_at head (body ++ rest) begins.twelve in
    let stamp : number_of all ≡ last + 1 = numbers.0 ∙ begins.stamp in
    let count : short_number (drop 8 all) ≡ length body = numbers.1 ∙ begins.count in
    let long : 13 + short_number (drop 8 all) ≤ length all =
    omega (arith, count, begins.twelve, begins.more, length-append head (body ++ rest), length-append body rest) in
    let holds : is_record last all ≡ true = grind (arith, nat_tests) in
    let back : drop 12 all ≡ body ++ rest = drop_at head (body ++ rest) 12 begins.twelve in
    let first : take (short_number (drop 8 all)) (drop 12 all) ≡ body =
    (λ i. take (count i) (back i)) ∙ take_at body rest (length body) refl in
    let then_ : drop (short_number (drop 8 all)) (drop 12 all) ≡ rest =
    (λ i. drop (count i) (back i)) ∙ drop_at body rest (length body) refl in
    ap (record_in last) begins.is
    ∙ test_holds last 1 all (record { body = body; rest = rest }) refl holds
    (λ i. record { body = first i; rest = then_ i })

if_some : {A : Type 0} (b : Bool) (x y : A) → (if b then Some x else None) ≡ Some y → (b ≡ true) × (x ≡ y)
if_some true x y is = (refl, cc)
if_some false x y is = absurd (cc)

and_parts : (a b : Bool) → (a && b) ≡ true → (a ≡ true) × (b ≡ true)
and_parts true b is = (refl, is)
and_parts false b is = absurd (cc)

-- what the test says
record Passes (last gate : ℕ) (rest : List ℕ) : Type 0 where
  gate_is : gate ≡ 1
  long : 13 + short_number (drop 8 rest) ≤ length rest
  stamp : number_of rest ≡ last + 1

gate_one : (gate : ℕ) → (gate == 1) ≡ true → gate ≡ 1
gate_one gate is = grind (arith, nat_tests)

at_most : (m n : ℕ) → nat_le m n ≡ true → m ≤ n
at_most m n is = grind (arith, nat_tests)

same_number : (m n : ℕ) → (m == n) ≡ true → m ≡ n
same_number m n is = grind (arith, nat_tests)

passes : (last gate : ℕ) (rest : List ℕ) → ((gate == 1) && is_record last rest) ≡ true → Passes last gate rest
passes last gate rest holds =
    let tests = and_parts (gate == 1) (is_record last rest) holds in
    let inner = and_parts (nat_le (13 + short_number (drop 8 rest)) (length rest)) (number_of rest == last + 1) tests.1 in
    record {
      gate_is = gate_one gate tests.0;
      long = at_most _ _ inner.0;
      stamp = same_number _ _ inner.1;
    }

first_twelve : (rest : List ℕ) → 12 ≤ length rest
    → (number_of (take 12 rest) ≡ number_of rest) × (short_number (drop 8 (take 12 rest)) ≡ short_number (drop 8 rest))
first_twelve rest long =
    let split : take 12 rest ++ drop 12 rest ≡ rest = take-append-drop 12 rest in
    let numbers = numbers_at (take 12 rest) (drop 12 rest) (length-take-le 12 rest long) in (
      sym numbers.0 ∙ ap number_of split,
      sym numbers.1 ∙ ap (λ (l : List ℕ). short_number (drop 8 l)) split,
    )

begins_where : (last gate : ℕ) (rest : List ℕ) → Passes last gate rest
    → IsRecord last (piece_of rest).body (piece_of rest).rest (gate ∷ rest)
begins_where last gate rest passed =
    let count : ℕ = short_number (drop 8 rest) in
    let long = passed.long in
    let twelve : 12 ≤ length rest = omega arith in
    let numbers = first_twelve rest twelve in
    let back : take count (drop 12 rest) ++ drop count (drop 12 rest) ≡ drop 12 rest =
    take-append-drop count (drop 12 rest) in
    let fits : count ≤ length (drop 12 rest) = omega (arith, length-drop 12 rest) in
    record {
      head = take 12 rest;
      is = ap (λ (g : ℕ). g ∷ rest) passed.gate_is
          ∙ ap (λ (l : List ℕ). 1 ∷ l) (sym (take-append-drop 12 rest)
          ∙ ap (λ (l : List ℕ). take 12 rest ++ l) (sym back));
      twelve = length-take-le 12 rest twelve;
      stamp = numbers.0 ∙ passed.stamp;
      count = numbers.1 ∙ sym (length-take-le count (drop 12 rest) fits);
      more = omega (arith, length-drop count (drop 12 rest), length-drop 12 rest);
    }

-- and what is read as a record begins so
pub read_begins : (last : ℕ) (bytes : List ℕ) (piece : Piece) → record_in last bytes ≡ Some piece
    → IsRecord last piece.body piece.rest bytes
read_begins last [] piece is = absurd (cc)
read_begins last (gate ∷ rest) piece is =
    let both = if_some ((gate == 1) && is_record last rest) (piece_of rest) piece is in
    subst (λ (p : Piece). IsRecord last p.body p.rest (gate ∷ rest)) both.1
    (begins_where last gate rest (passes last gate rest both.0))

pub length-begins : (last : ℕ) (body rest bytes : List ℕ) → IsRecord last body rest bytes
    → length bytes ≡ 13 + length body + length rest
length-begins last body rest bytes begins =
    omega (
      arith,
      ap length begins.is,
      begins.twelve,
      length-append begins.head (body ++ rest),
      length-append body rest,
    )

-- more steps read nothing more
same_on : (n m last : ℕ) (bytes : List ℕ) (found : Option Piece) → record_in last bytes ≡ found
    → ((rest : List ℕ) → length rest < length bytes → walked n (last + 1) rest ≡ walked m (last + 1) rest)
    → gone_on bytes (walked n (last + 1)) found ≡ gone_on bytes (walked m (last + 1)) found
same_on n m last bytes None is on = refl
same_on n m last bytes (Some piece) is on =
    let shorter = length-begins last piece.body piece.rest bytes (read_begins last bytes piece is) in
    ap (λ (log : Log). behind (piece.body ∷ []) log) (on piece.rest (omega arith))

pub more_steps : (n m last : ℕ) (bytes : List ℕ) → length bytes < n → length bytes < m
    → walked n last bytes ≡ walked m last bytes
more_steps zero m last bytes less more = absurd (omega arith)
more_steps (suc n) zero last bytes less more = absurd (omega arith)
more_steps (suc n) (suc m) last bytes less more =
    same_on n m last bytes (record_in last bytes) refl
    (λ rest shorter. more_steps n m (last + 1) rest (omega arith) (omega arith))

-- a gate that isn't open ends it
pub closed : (last gate : ℕ) (rest : List ℕ) → gate ≢ 1
    → log_of last (gate ∷ rest) ≡ record { bodies = []; rest = gate ∷ rest }
unfolding log_of
closed last gate rest shut =
    let none : record_in last (gate ∷ rest) ≡ None = no_record last gate rest shut in
    ap (gone_on (gate ∷ rest) (walked (length (gate ∷ rest)) (last + 1))) none
  where
    no_record : (last gate : ℕ) (rest : List ℕ) → gate ≢ 1 → record_in last (gate ∷ rest) ≡ None
    no_record last gate rest shut = grind (arith, nat_tests)

-- nothing is read where no record stands
pub ended : (last : ℕ) (bytes : List ℕ) → record_in last bytes ≡ None
    → log_of last bytes ≡ record { bodies = []; rest = bytes }
unfolding log_of
ended last bytes none = ap (gone_on bytes (walked (length bytes) (last + 1))) none

-- a record, and what is read behind it
pub one_more : (last : ℕ) (bytes : List ℕ) (piece : Piece) → record_in last bytes ≡ Some piece
    → log_of last bytes ≡ behind (piece.body ∷ []) (log_of (last + 1) piece.rest)
unfolding log_of
one_more last bytes piece is =
    let shorter = length-begins last piece.body piece.rest bytes (read_begins last bytes piece is) in
    ap (gone_on bytes (walked (length bytes) (last + 1))) is
    ∙ ap (λ (log : Log). behind (piece.body ∷ []) log)
    (more_steps (length bytes) (suc (length piece.rest)) (last + 1) piece.rest (omega arith) (omega arith))

-- bytes that read as these records, whatever stands behind them
abbrev pub Reads : ℕ → List (List ℕ) → List ℕ → Type 0
Reads last [] bytes = bytes ≡ []
Reads last (body ∷ bodies) bytes =
    (head : List ℕ) × (rest : List ℕ) × (bytes ≡ 1 ∷ (head ++ (body ++ rest))) × (length head ≡ 12)
    × (number_of head ≡ last + 1) × (short_number (drop 8 head) ≡ length body) × Reads (last + 1) bodies rest

-- what is read is the bytes as far as the rest
pub record IsRead (log : Log) (last : ℕ) (bytes : List ℕ) : Type 0 where
  pub front : List ℕ
  pub is : bytes ≡ front ++ log.rest
  pub reads : Reads last log.bodies front
  pub more : 1 ≤ length bytes → 1 ≤ length log.rest

read_on : (n last : ℕ) (bytes : List ℕ) (found : Option Piece) → record_in last bytes ≡ found
    → ((rest : List ℕ) → IsRead (walked n (last + 1) rest) (last + 1) rest)
    → IsRead (gone_on bytes (walked n (last + 1)) found) last bytes
read_on n last bytes None is on = record { front = []; is = refl; reads = refl; more = λ some. some }
read_on n last bytes (Some piece) is on =
    let begins = read_begins last bytes piece is in
    let next = on piece.rest in
    let log : Log = walked n (last + 1) piece.rest in
    let joins : 1 ∷ (begins.head ++ (piece.body ++ (next.front ++ log.rest)))
    ≡ (1 ∷ (begins.head ++ (piece.body ++ next.front))) ++ log.rest =
    ap (λ (l : List ℕ). 1 ∷ l) (ap (λ (l : List ℕ). begins.head ++ l) (sym (append_assoc piece.body next.front log.rest))
    ∙ sym (append_assoc begins.head (piece.body ++ next.front) log.rest)) in
    record {
      front = 1 ∷ (begins.head ++ (piece.body ++ next.front));
      is = begins.is ∙ ap (λ (l : List ℕ). 1 ∷ (begins.head ++ (piece.body ++ l))) next.is ∙ joins;
      reads = (begins.head, next.front, refl, begins.twelve, begins.stamp, begins.count, next.reads);
      more = λ some. next.more begins.more;
    }

walked_reads : (n last : ℕ) (bytes : List ℕ) → IsRead (walked n last bytes) last bytes
walked_reads zero last bytes = record { front = []; is = refl; reads = refl; more = λ some. some }
walked_reads (suc n) last bytes =
    read_on n last bytes (record_in last bytes) refl (λ rest. walked_reads n (last + 1) rest)

pub log_reads : (last : ℕ) (bytes : List ℕ) → IsRead (log_of last bytes) last bytes
unfolding log_of
log_reads last bytes = walked_reads (suc (length bytes)) last bytes

-- what reads as records is read, and then what stands behind it
reads_walked : (bodies : List (List ℕ)) (n last : ℕ) (front tail : List ℕ) → Reads last bodies front
    → 1 ≤ length tail
    → walked (length bodies + n) last (front ++ tail) ≡ behind bodies (walked n (last + length bodies) tail)
reads_walked [] n last front tail is some =
    (λ i. walked (let e : 0 + n ≡ n = omega arith in e i) last (is i ++ tail))
    ∙ ap (λ (k : ℕ). walked n k tail) (let e : last ≡ last + 0 = omega arith in e)
reads_walked (body ∷ bodies) n last front tail (head, rest, is, twelve, stamp, count, on) some =
    let k : ℕ = length bodies + n in
    let whole : front ++ tail ≡ 1 ∷ (head ++ (body ++ (rest ++ tail))) =
    ap (λ (l : List ℕ). l ++ tail) is
    ∙ ap (λ (l : List ℕ). 1 ∷ l) (append_assoc head (body ++ rest) tail
    ∙ ap (λ (l : List ℕ). head ++ l) (append_assoc body rest tail)) in
    let begins : IsRecord last body (rest ++ tail) (front ++ tail) = record {
      head = head;
      is = whole;
      twelve = twelve;
      stamp = stamp;
      count = count;
      more = omega (arith, length-append rest tail);
    } in
    (λ i. walked (let e : suc (length bodies) + n ≡ suc k = omega arith in e i) last (front ++ tail))
    ∙ ap (gone_on (front ++ tail) (walked k (last + 1))) (begins_read last body (rest ++ tail) (front ++ tail) begins)
    ∙ ap (λ (log : Log). behind (body ∷ []) log) (reads_walked bodies n (last + 1) rest tail on some)
    ∙ ap (λ (m : ℕ). behind (body ∷ bodies) (walked n m tail))
    (let e : last + 1 + length bodies ≡ last + suc (length bodies) = omega arith in e)

pub log_behind : (bodies : List (List ℕ)) (last : ℕ) (front tail : List ℕ) → Reads last bodies front
    → 1 ≤ length tail → log_of last (front ++ tail) ≡ behind bodies (log_of (last + length bodies) tail)
unfolding log_of
log_behind bodies last front tail reads some =
    let n : ℕ = suc (length front + length tail) in
    let long = length-append front tail in
    more_steps (suc (length (front ++ tail))) (length bodies + n) last (front ++ tail) (omega arith) (omega arith)
    ∙ reads_walked bodies n last front tail reads some
    ∙ ap (λ (log : Log). behind bodies log)
    (more_steps n (suc (length tail)) (last + length bodies) tail (omega arith) (omega arith))

-- a record as it is written
length-head : (m n : ℕ) → length (spelled m ++ short_spelled n) ≡ 12
unfolding spelled short_spelled
length-head m n = refl

pub length-record_range : (generation : ℕ) (body : List ℕ) → length (record_range generation body) ≡ 13 + length body
length-record_range generation body =
    omega (
      arith,
      length-append ((spelled generation ++ short_spelled (length body)) ++ body) (0 ∷ []),
      length-append (spelled generation ++ short_spelled (length body)) body,
      length-head generation (length body),
    )

head_numbers : (m n : ℕ) → m < 2 ^ 64 → n < 2 ^ 32
    → (number_of (spelled m ++ short_spelled n) ≡ m) × (short_number (drop 8 (spelled m ++ short_spelled n)) ≡ n)
unfolding number_of short_number spelled short_spelled
head_numbers m n small few =
    let back : drop 8 (to_be_bytes w64 m ++ to_be_bytes w32 n) ≡ to_be_bytes w32 n =
    drop_at (to_be_bytes w64 m) (to_be_bytes w32 n) 8 refl in (
      ap (from_be_bytes w64) (take_at (to_be_bytes w64 m) (to_be_bytes w32 n) 8 refl)
          ∙ from_be_bytes-to_be_bytes_8 m small,
      ap (λ (l : List ℕ). from_be_bytes w32 (take 4 l)) back ∙ ap (from_be_bytes w32) (take_all_4 n)
          ∙ from_be_bytes-to_be_bytes_4 n few,
    )
  where
    take_all_4 : (n : ℕ) → take 4 (to_be_bytes w32 n) ≡ to_be_bytes w32 n
    take_all_4 n = refl

pub written_begins : (last generation : ℕ) (body more : List ℕ) → generation ≡ last + 1 → generation < 2 ^ 64
    → length body < 2 ^ 32 → IsRecord last body (0 ∷ more) (1 ∷ (record_range generation body ++ more))
written_begins last generation body more next small few =
    let head : List ℕ = spelled generation ++ short_spelled (length body) in
    let numbers = head_numbers generation (length body) small few in
    record {
      head = head;
      is = ap (λ (l : List ℕ). 1 ∷ l) (append_assoc (head ++ body) (0 ∷ []) more ∙ append_assoc head body (0 ∷ more));
      twelve = length-head generation (length body);
      stamp = numbers.0 ∙ next;
      count = numbers.1;
      more = omega arith;
    }

-- it is read behind the records that stand there
pub log_appended : (bodies : List (List ℕ)) (last generation : ℕ) (front body more : List ℕ) → Reads last bodies front
    → generation ≡ last + length bodies + 1 → generation < 2 ^ 64 → length body < 2 ^ 32
    → log_of last (front ++ 1 ∷ (record_range generation body ++ more))
    ≡ record { bodies = bodies ++ body ∷ []; rest = 0 ∷ more }
log_appended bodies last generation front body more reads next small few =
    let stamp : ℕ = last + length bodies in
    let tail : List ℕ = 1 ∷ (record_range generation body ++ more) in
    let piece : Piece = record { body = body; rest = 0 ∷ more } in
    let found = begins_read stamp body (0 ∷ more) tail (written_begins stamp generation body more next small few) in
    log_behind bodies last front tail reads (omega arith)
    ∙ ap (λ (log : Log). behind bodies log)
    (one_more stamp tail piece found
    ∙ ap (λ (log : Log). behind (body ∷ []) log) (closed (stamp + 1) 0 more (λ e. absurd (omega arith))))

-- and where the gate isn't open, only they are
pub log_shut : (bodies : List (List ℕ)) (last gate : ℕ) (front rest : List ℕ) → Reads last bodies front → gate ≢ 1
    → log_of last (front ++ gate ∷ rest) ≡ record { bodies = bodies; rest = gate ∷ rest }
log_shut bodies last gate front rest reads shut =
    log_behind bodies last front (gate ∷ rest) reads (omega arith)
    ∙ ap (λ (log : Log). behind bodies log) (closed (last + length bodies) gate rest shut)
    ∙ ap (λ (l : List (List ℕ)). record { bodies = l; rest = gate ∷ rest }) (append-nil bodies)
