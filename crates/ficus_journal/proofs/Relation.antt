-- What two disks keep is what is found on them.
use Rattle.std.proofs.Common.{◌≡◌, ◌↔◌, ◌⊎◌, inl, inr, ℕ, ◌+◌, ◌<◌, ◌≤◌, Option, Some, None, List, length, drop, refl, sym, ◌∙◌, ap, subst, arith}
use Rattle.std.specs.Prelude.{nat_le, Bool, true, false, if◌then◌else◌}
use Rattle.std.proofs.lemmas.Bool.Decides.{nat_tests}
use Rattle.ficus_keeper.specs.Kept.{Kept}
use Rattle.ficus_slot.specs.Slot.{AreBytes, HasSlot, SlotContent, slot_in}
use Rattle.ficus_slot.proofs.Read.{has_read}
use Rattle.ficus_slot.proofs.Written.{read_as, tail_of}
use Rattle.ficus_log.specs.Log.{IsLog, Log, log_of, tail_log}
use Rattle.ficus_log.proofs.Logs.{has_log, log_is}
use Rattle.ficus_journal.specs.Logs.{IsKept, IsKeptOn, kept_in, kept_on, later, log_kept}
use Rattle.ficus_journal.proofs.Choosing.{first_stays, kept_none, kept_slot, second_stays}

-- on one disk
found_on : (kept : Kept) (bytes : List ℕ) → IsKeptOn kept bytes → kept_on bytes ≡ Some kept
found_on kept bytes is =
    let saved : SlotContent = record { generation = kept.generation; body = kept.image } in
    let log : tail_log saved bytes ≡ record { bodies = kept.records; rest = is.rest } =
    ap (log_of saved.generation) (tail_of is.slot) ∙ log_is is.log in
    kept_slot bytes saved (read_as is.slot)
    ∙ ap (λ (l : Log). let found : Kept = record { generation = saved.generation; image = saved.body; records = l.bodies } in
    Some found) log

stands_on : (saved : SlotContent) (bytes : List ℕ) → HasSlot saved bytes → IsKeptOn (log_kept saved bytes) bytes
stands_on saved bytes has = record {
  tail = has.tail;
  slot = has.slot;
  rest = (tail_log saved bytes).rest;
  log = subst (λ (l : List ℕ). IsLog saved.generation (tail_log saved bytes) l) (tail_of has.slot)
      (has_log saved.generation (drop (17 + length saved.body) bytes));
}

same_kept : (one other : Kept) → Some one ≡ Some other → one ≡ other
same_kept one other is = cc

on_where : (kept : Kept) (bytes : List ℕ) (found : Option SlotContent) → slot_in bytes ≡ found → AreBytes bytes
    → kept_on bytes ≡ Some kept → IsKeptOn kept bytes
on_where kept bytes None none each is = absurd (let no = sym (kept_none bytes none) ∙ is in cc)
on_where kept bytes (Some saved) slot each is =
    subst (λ (k : Kept). IsKeptOn k bytes)
    (same_kept (log_kept saved bytes) kept (sym (kept_slot bytes saved slot) ∙ is))
    (stands_on saved bytes (has_read saved bytes each slot))

kept_stands : (kept : Kept) (bytes : List ℕ) → AreBytes bytes → kept_on bytes ≡ Some kept → IsKeptOn kept bytes
kept_stands kept bytes each is = on_where kept bytes (slot_in bytes) refl each is

-- which of two is in force
abbrev IsLater : Option Kept → Option Kept → Kept → Type 0
IsLater x y kept = ((x ≡ Some kept) × ((z : Kept) → y ≡ Some z → z.generation ≤ kept.generation))
    ⊎ ((y ≡ Some kept) × ((z : Kept) → x ≡ Some z → z.generation < kept.generation))

picked : (b : Bool) (k z kept : Kept) → nat_le z.generation k.generation ≡ b
    → (if b then Some k else Some z) ≡ Some kept → IsLater (Some k) (Some z) kept
picked true k z kept least is =
    let same : k ≡ kept = same_kept k kept is in
    let most : z.generation ≤ k.generation = grind (arith, nat_tests) in
    inl (
      is,
      λ other found. let also : z ≡ other = same_kept z other found in
          omega (arith, most, ap (λ (v : Kept). v.generation) same, ap (λ (v : Kept). v.generation) also),
    )
picked false k z kept least is =
    let same : z ≡ kept = same_kept z kept is in
    let less : k.generation < z.generation = grind (arith, nat_tests) in
    inr (
      is,
      λ other found. let also : k ≡ other = same_kept k other found in
          omega (arith, less, ap (λ (v : Kept). v.generation) same, ap (λ (v : Kept). v.generation) also),
    )

later_is : (x y : Option Kept) (kept : Kept) → later x y ≡ Some kept → IsLater x y kept
later_is None y kept is = inr (is, λ z found. absurd (cc found))
later_is (Some k) None kept is = inl (is, λ z found. absurd (cc found))
later_is (Some k) (Some z) kept is = picked (nat_le z.generation k.generation) k z kept refl is

stands : (kept : Kept) (a b : List ℕ) → AreBytes a → AreBytes b → IsLater (kept_on a) (kept_on b) kept → IsKept kept a b
stands kept a b bytes_a bytes_b (inl (here, most)) =
    inl (kept_stands kept a bytes_a here, λ other on. most other (found_on other b on))
stands kept a b bytes_a bytes_b (inr (here, most)) =
    inr (kept_stands kept b bytes_b here, λ other on. most other (found_on other a on))

found : (kept : Kept) (a b : List ℕ) → AreBytes a → AreBytes b → IsKept kept a b → kept_in a b ≡ Some kept
found kept a b bytes_a bytes_b (inl (on, most)) =
    first_stays (kept_on a) (kept_on b) kept (found_on kept a on)
    (λ z is. let at_most = most z (kept_stands z b bytes_b is) in omega arith)
found kept a b bytes_a bytes_b (inr (on, most)) =
    second_stays (kept_on a) (kept_on b) kept (found_on kept b on) (λ z is. most z (kept_stands z a bytes_a is))

pub kept_exactly : (kept : Kept) (a b : List ℕ) → AreBytes a → AreBytes b → kept_in a b ≡ Some kept ↔ IsKept kept a b
kept_exactly kept a b bytes_a bytes_b =
    (λ is. stands kept a b bytes_a bytes_b (later_is (kept_on a) (kept_on b) kept is), found kept a b bytes_a bytes_b)
