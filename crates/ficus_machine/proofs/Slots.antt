-- What calls do to the disks of the note, one after the other.
use Rattle.std.proofs.Common.{◌≡◌, ℕ, Result, Ok, Err, is_err, inl, inr, ap, ◌∙◌, arith}
use Rattle.std.specs.Prelude.{IsErrOf, OnOk}
use Rattle.std.proofs.lemmas.Result.{IfOk-from_err, on_ok_weaker}
use Rattle.ficus_disk.specs.Pair.{PairRose}
use Rattle.ficus_disk.specs.declared.disk.Disk.{Ghosts as Disk}
use Rattle.ficus_disk.specs.declared.pair.Pair.{Pair}
use Rattle.ficus_keeper.specs.Pairs.{PairSame}
use Rattle.ficus_note.specs.declared.note.Note.{Note}
use Rattle.ficus_machine.specs.Noting.{AsksSlots}
use Rattle.ficus_machine.specs.declared.fault.LineFault.{LineFault}
use Rattle.ficus_machine.specs.declared.fault.LineFault.TheVariants.{Memory, Note as NoteFault}

module _ {N : Type 0} {faults : N → ℕ} where
  -- no count rises where none changes
  pub rose_none : {old new : Pair N} → PairSame faults old new → PairRose faults 0 old new
  rose_none {old} {new} same = record {
    a = omega (arith, same.a);
    b = omega (arith, same.b);
    sum = λ within also. omega (arith, same.a, same.b);
  }

  -- it rises behind calls that left it
  pub rose_behind : {by : ℕ} {old middle new : Pair N} → PairSame faults old middle → PairRose faults by middle new
      → PairRose faults by old new
  rose_behind {by} {old} {middle} {new} same rose = record {
    a = omega (arith, same.a, rose.a);
    b = omega (arith, same.b, rose.b);
    sum = λ within also. omega (arith, same.a, same.b, rose.sum within also);
  }

  pub same_behind : {old middle new : Pair N} → PairSame faults old middle → PairSame faults middle new
      → PairSame faults old new
  same_behind first then = record { a = then.a ∙ first.a; b = then.b ∙ first.b }

module _ {N : Type 0} {slot : Disk N} {now : Note} where
  -- a call behind others that failed at no disk
  pub asks_behind : {A : Type 0} {result : Result A LineFault} {old middle new : Pair N}
      → PairSame slot.faults old middle → AsksSlots slot result now middle new → AsksSlots slot result now old new
  asks_behind {result = result} {old} {middle} {new} same asks = record {
    failed = λ is.
        elim (asks.failed is) [
          | inl rose ↦ inl (rose_behind same rose)
          | inr full ↦ inr full
        ];
    steady = on_ok_weaker result (λ then. same_behind same then) asks.steady;
    spared = λ is. same_behind same (asks.spared is);
    risen = rose_behind same asks.risen;
  }

  -- one that came to a value
  pub asks_fine : {A : Type 0} {value : A} {old new : Pair N} → PairSame slot.faults old new
      → AsksSlots slot (Ok value) now old new
  asks_fine same = record { failed = λ is. (cc); steady = same; spared = λ is. same; risen = rose_none same }

  -- one that ended for want of memory
  pub asks_memory : {A : Type 0} {old new : Pair N} → PairSame slot.faults old new
      → AsksSlots {A = A} slot (Err Memory) now old new
  asks_memory same = record { failed = λ is. (cc); steady = tt; spared = λ is. same; risen = rose_none same }

  -- the fault of a call is that of its caller
  pub asks_err : {A B : Type 0} (fault : LineFault) {first : Result A LineFault} {second : Result B LineFault}
      {old new : Pair N} → first ≡ Err fault → second ≡ Err fault → AsksSlots slot first now old new
      → AsksSlots slot second now old new
  asks_err {A} {B} fault {first} {second} {old} {new} one other asks =
      let same : (wanted : LineFault) → second ≡ Err wanted → first ≡ Err wanted = λ wanted is. (cc) in
      record {
        failed = λ is. asks.failed (same _ is);
        steady = IfOk-from_err second (λ value. PairSame slot.faults old new) (ap is_err other);
        spared = λ is. asks.spared (same _ is);
        risen = asks.risen;
      }

  -- one that doesn't end for the note
  pub asks_spared : {A : Type 0} (result : Result A LineFault) {old new : Pair N} → (IsErrOf result NoteFault → ⊥)
      → PairSame slot.faults old new → AsksSlots slot result now old new
  asks_spared result {old} {new} never same = record {
    failed = λ is. absurd (never is);
    steady = on_ok result;
    spared = λ is. same;
    risen = rose_none same;
  }
    where
      on_ok : {A : Type 0} (came_to : Result A LineFault) → OnOk came_to (PairSame slot.faults old new)
      on_ok (Ok value) = same
      on_ok (Err fault) = tt
