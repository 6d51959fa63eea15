-- A slot with records behind it: what stands in front of the gate at which reading ends.
use Rattle.std.proofs.Common.{◌≡◌, ℕ, ◌+◌, ◌==◌, ◌&&◌, ◌≤◌, Bool, true, Some, None, List, [], ◌∷◌, ◌++◌, length, take, drop, refl, sym, ◌∙◌, ap, subst, arith, append_assoc, length-append, length-drop}
use Rattle.std.specs.Prelude.{if◌then◌else◌}
use Rattle.std.proofs.lemmas.List.{take_at, drop_at, take-append-le, drop-append-le, take-append-drop, length-take-le}
use Rattle.std.specs.Int.{w64, from_be_bytes}
use Rattle.std.proofs.lemmas.Bool.Decides.{nat_tests}
use Rattle.ficus_slot.specs.Slot.{SlotContent, is_whole, number_of, slot_in}
use Rattle.ficus_slot.proofs.Read.{and_parts, at_most, gate_one, if_some}
use Rattle.ficus_log.specs.Log.{log_of, tail_log}
use Rattle.ficus_log.proofs.Walks.{Reads, log_reads}

-- the bytes begin with this slot, and its tail is there
pub record HasSlot (saved : SlotContent) (bytes : List ℕ) : Type 0 where
  pub head : List ℕ
  pub tail : List ℕ
  pub is : bytes ≡ 1 ∷ (head ++ (saved.body ++ tail))
  pub sixteen : length head ≡ 16
  pub stamp : number_of head ≡ saved.generation
  pub count : number_of (drop 8 head) ≡ length saved.body
  pub more : 1 ≤ length tail

numbers_in : (head rest : List ℕ) → length head ≡ 16
    → (number_of (head ++ rest) ≡ number_of head) × (number_of (drop 8 (head ++ rest)) ≡ number_of (drop 8 head))
unfolding number_of
numbers_in head rest sixteen =
    let front : take 8 (head ++ rest) ≡ take 8 head = take-append-le 8 head rest (omega arith) in
    let back : take 8 (drop 8 (head ++ rest)) ≡ take 8 (drop 8 head) =
    ap (λ (l : List ℕ). take 8 l) (drop-append-le 8 head rest (omega arith))
    ∙ take-append-le 8 (drop 8 head) rest (omega (arith, length-drop 8 head)) in
    (ap (from_be_bytes w64) front, ap (from_be_bytes w64) back)

slot_where : (rest : List ℕ) (saved : SlotContent) → is_whole rest ≡ true → number_of rest ≡ saved.generation
    → take (number_of (drop 8 rest)) (drop 16 rest) ≡ saved.body → slot_in (1 ∷ rest) ≡ Some saved
slot_where rest saved whole stamp body =
    ap (λ (b : Bool). if b
    then Some (record { generation = number_of rest; body = take (number_of (drop 8 rest)) (drop 16 rest) }) else None)
    whole
    ∙ (λ i. Some (record { generation = stamp i; body = body i }))

-- such bytes are this slot
pub slot_has : (saved : SlotContent) (bytes : List ℕ) → HasSlot saved bytes → slot_in bytes ≡ Some saved
slot_has saved bytes has =
    let rest : List ℕ = has.head ++ (saved.body ++ has.tail) in
    let numbers = numbers_in has.head (saved.body ++ has.tail) has.sixteen in
    let count : number_of (drop 8 rest) ≡ length saved.body = numbers.1 ∙ has.count in
    let long : 17 + number_of (drop 8 rest) ≤ length rest =
    omega (
      arith,
      count,
      has.sixteen,
      has.more,
      length-append has.head (saved.body ++ has.tail),
      length-append saved.body has.tail,
    ) in
    let whole : is_whole rest ≡ true = grind (arith, nat_tests) in
    let back : drop 16 rest ≡ saved.body ++ has.tail = drop_at has.head (saved.body ++ has.tail) 16 has.sixteen in
    let body : take (number_of (drop 8 rest)) (drop 16 rest) ≡ saved.body =
    (λ i. take (count i) (back i)) ∙ take_at saved.body has.tail (length saved.body) refl in
    ap slot_in has.is ∙ slot_where rest saved whole (numbers.0 ∙ has.stamp) body

abbrev slot_at : List ℕ → SlotContent
slot_at rest = record { generation = number_of rest; body = take (number_of (drop 8 rest)) (drop 16 rest) }

has_where : (gate : ℕ) (rest : List ℕ) → gate ≡ 1 → 17 + number_of (drop 8 rest) ≤ length rest
    → HasSlot (slot_at rest) (gate ∷ rest)
has_where gate rest opens long =
    let count : ℕ = number_of (drop 8 rest) in
    let sixteen : length (take 16 rest) ≡ 16 = length-take-le 16 rest (omega arith) in
    let split : take 16 rest ++ drop 16 rest ≡ rest = take-append-drop 16 rest in
    let numbers = numbers_in (take 16 rest) (drop 16 rest) sixteen in
    let fits : count ≤ length (drop 16 rest) = omega (arith, length-drop 16 rest) in
    record {
      head = take 16 rest;
      tail = drop count (drop 16 rest);
      is = ap (λ (g : ℕ). g ∷ rest) opens
          ∙ ap (λ (l : List ℕ). 1 ∷ l) (sym split
          ∙ ap (λ (l : List ℕ). take 16 rest ++ l) (sym (take-append-drop count (drop 16 rest))));
      sixteen = sixteen;
      stamp = sym numbers.0 ∙ ap number_of split;
      count = sym numbers.1 ∙ ap (λ (l : List ℕ). number_of (drop 8 l)) split
          ∙ sym (length-take-le count (drop 16 rest) fits);
      more = omega (arith, length-drop count (drop 16 rest), length-drop 16 rest);
    }

pub has_slot : (saved : SlotContent) (bytes : List ℕ) → slot_in bytes ≡ Some saved → HasSlot saved bytes
has_slot saved [] is = absurd (cc)
has_slot saved (gate ∷ rest) is =
    let both = if_some ((gate == 1) && is_whole rest) (slot_at rest) saved is in
    let tests = and_parts (gate == 1) (is_whole rest) both.0 in
    subst (λ (s : SlotContent). HasSlot s (gate ∷ rest)) both.1
    (has_where gate rest (gate_one gate tests.0) (at_most _ _ tests.1))

-- what stands behind the slot
pub tail_is : (saved : SlotContent) (bytes : List ℕ) (has : HasSlot saved bytes)
    → drop (17 + length saved.body) bytes ≡ has.tail
tail_is saved bytes has =
    let front : List ℕ = 1 ∷ (has.head ++ saved.body) in
    let counts : length front ≡ 17 + length saved.body =
    omega (arith, has.sixteen, length-append has.head saved.body) in
    let joined : bytes ≡ front ++ has.tail =
    has.is ∙ ap (λ (l : List ℕ). 1 ∷ l) (sym (append_assoc has.head saved.body has.tail)) in
    ap (λ (l : List ℕ). drop (17 + length saved.body) l) joined ∙ drop_at front has.tail (17 + length saved.body) counts

-- the bytes are the slot and these records, up to the gate behind the last
pub record HasLog (saved : SlotContent) (bodies : List (List ℕ)) (front : List ℕ) : Type 0 where
  pub head : List ℕ
  pub records : List ℕ
  pub is : front ≡ 1 ∷ (head ++ (saved.body ++ records))
  pub sixteen : length head ≡ 16
  pub stamp : number_of head ≡ saved.generation
  pub count : number_of (drop 8 head) ≡ length saved.body
  pub reads : Reads saved.generation bodies records

module _ (saved : SlotContent) (bodies : List (List ℕ)) (front : List ℕ) (has : HasLog saved bodies front) where
  has_behind : (tail : List ℕ) → 1 ≤ length tail → HasSlot saved (front ++ tail)
  has_behind tail some = record {
    head = has.head;
    tail = has.records ++ tail;
    is = ap (λ (l : List ℕ). l ++ tail) has.is
        ∙ ap (λ (l : List ℕ). 1 ∷ l) (append_assoc has.head (saved.body ++ has.records) tail
        ∙ ap (λ (l : List ℕ). has.head ++ l) (append_assoc saved.body has.records tail));
    sixteen = has.sixteen;
    stamp = has.stamp;
    count = has.count;
    more = omega (arith, length-append has.records tail);
  }

  -- whatever stands behind them, the slot stays
  pub slot_behind : (tail : List ℕ) → 1 ≤ length tail → slot_in (front ++ tail) ≡ Some saved
  slot_behind tail some = slot_has saved (front ++ tail) (has_behind tail some)

  pub tail_behind : (tail : List ℕ) → 1 ≤ length tail
      → tail_log saved (front ++ tail) ≡ log_of saved.generation (has.records ++ tail)
  unfolding has_behind
  tail_behind tail some =
      ap (log_of saved.generation) (tail_is saved (front ++ tail) (has_behind tail some))

-- bytes with a slot, up to the gate at which reading ends
pub record HasFront (saved : SlotContent) (bytes : List ℕ) : Type 0 where
  pub front : List ℕ
  pub has : HasLog saved (tail_log saved bytes).bodies front
  pub is : bytes ≡ front ++ (tail_log saved bytes).rest
  pub more : 1 ≤ length (tail_log saved bytes).rest

pub front_of : (saved : SlotContent) (bytes : List ℕ) → slot_in bytes ≡ Some saved → HasFront saved bytes
front_of saved bytes is =
    let slot = has_slot saved bytes is in
    let tail : List ℕ = drop (17 + length saved.body) bytes in
    let same : tail ≡ slot.tail = tail_is saved bytes slot in
    let read = log_reads saved.generation tail in
    let rest : List ℕ = (tail_log saved bytes).rest in
    let some : 1 ≤ length tail = omega (arith, ap length same, slot.more) in
    record {
      front = 1 ∷ (slot.head ++ (saved.body ++ read.front));
      has = record {
        head = slot.head;
        records = read.front;
        is = refl;
        sixteen = slot.sixteen;
        stamp = slot.stamp;
        count = slot.count;
        reads = read.reads;
      };
      is = slot.is
          ∙ ap (λ (l : List ℕ). 1 ∷ (slot.head ++ (saved.body ++ l))) (sym same ∙ read.is)
          ∙ ap (λ (l : List ℕ). 1 ∷ l) (ap (λ (l : List ℕ). slot.head ++ l) (sym (append_assoc saved.body read.front rest))
          ∙ sym (append_assoc slot.head (saved.body ++ read.front) rest));
      more = read.more some;
    }
