-- A keeper that stays, and one that was opened.
use Rattle.std.proofs.Common.{◌≡◌, ℕ, ◌+◌, ◌-◌, ◌≤◌, Bool, true, false, Option, Some, None, List, length, sym, ◌∙◌, ap, subst, arith}
use Rattle.std.specs.Prelude.{if◌then◌else◌}
use Rattle.ficus_disk.specs.Crash.{Within}
use Rattle.ficus_disk.specs.declared.pair.Pair.{Pair}
use Rattle.ficus_keeper.specs.Kept.{Settled}
use Rattle.ficus_slot.specs.Slot.{SlotContent, slot_in}
use Rattle.ficus_two_slots.specs.Slots.{Stands, StandsOn}
use Rattle.ficus_log.specs.Log.{Log, is_open, tail_log}
use Rattle.ficus_journal.specs.Journal.{Fits, FitsOn, FitsSide, HoldsRecords}
use Rattle.ficus_journal.specs.declared.journal.Journal.{Journal}
use Rattle.ficus_journal.proofs.Sides.{saved_as}

-- with another buffer it fits as before
pub rebuffered : (on_a : Bool) (k other : Journal) (a b : List ℕ) → FitsOn on_a k a b
    → FitsOn on_a (record k { buffer = other.buffer }) a b
rebuffered true k other a b fits = record { stands = fits.stands; records = fits.records }
rebuffered false k other a b fits = record { stands = fits.stands; records = fits.records }

pub settled_still : {D : Type 0} (seen : D → List ℕ) (may_leave : D → List ℕ → Type 0) (k other : Journal)
    (old new : Pair D) → seen new.a ≡ seen old.a → seen new.b ≡ seen old.b
    → Within (may_leave old.a) (may_leave new.a) → Within (may_leave old.b) (may_leave new.b)
    → Settled Fits seen may_leave k old → Settled Fits seen may_leave (record k { buffer = other.buffer }) new
settled_still seen may_leave k other old new same_a same_b within_a within_b settled =
    let after : Journal = record k { buffer = other.buffer } in
    record {
      holds = subst (λ (l : List ℕ). FitsOn k.on_a after l (seen new.b)) (sym same_a)
          (subst (λ (l : List ℕ). FitsOn k.on_a after (seen old.a) l) (sym same_b)
          (rebuffered k.on_a k other (seen old.a) (seen old.b) settled.holds));
      synced_a = λ c left. settled.synced_a c (within_a c left) ∙ sym same_a;
      synced_b = λ c left. settled.synced_b c (within_b c left) ∙ sym same_b;
    }

-- the records that were read stand behind the slot that was found
holds_read : (k : Journal) (body : List ℕ) (bodies : List (List ℕ)) (rest force : List ℕ)
    → tail_log (saved_as k.generation body) force ≡ record { bodies = bodies; rest = rest }
    → length rest ≤ length force → k.end ≡ length force - length rest → k.count ≡ length bodies
    → k.stuck ≡ is_open rest → HoldsRecords (saved_as k.generation body) k.count k.end k.stuck force
holds_read k body bodies rest force log within ends counts stuck = record {
  counted = ap (λ (l : Log). length l.bodies) log ∙ sym counts;
  ends = omega (arith, ends, within, ap (λ (l : Log). length l.rest) log);
  gate = stuck ∙ sym (ap (λ (l : Log). is_open l.rest) log);
}

one_body : (generation : ℕ) (body other : List ℕ) → Some (saved_as generation body) ≡ Some (saved_as generation other)
    → body ≡ other
one_body generation body other is = ap body_of is
  where
    body_of : Option SlotContent → List ℕ
    body_of None = body
    body_of (Some saved) = saved.body

side_opened : (k : Journal) (bound : ℕ) (body force other : List ℕ) → slot_in force ≡ Some (saved_as k.generation body)
    → HoldsRecords (saved_as k.generation body) k.count k.end k.stuck force
    → Stands k.generation bound k.shut force other → FitsSide k bound force other
side_opened k bound body force other slot records stands = record {
  stands = stands;
  records = subst (λ (l : List ℕ). HoldsRecords (saved_as k.generation l) k.count k.end k.stuck force)
      (one_body k.generation body stands.body (sym slot ∙ stands.in_force)) records;
}

pub fits_opened : (on_a : Bool) (k : Journal) (body : List ℕ) (bodies : List (List ℕ)) (rest a b force : List ℕ)
    → force ≡ (if on_a then a else b) → slot_in (if on_a then a else b) ≡ Some (saved_as k.generation body)
    → tail_log (saved_as k.generation body) force ≡ record { bodies = bodies; rest = rest }
    → length rest ≤ length force → k.end ≡ length force - length rest → k.count ≡ length bodies
    → k.stuck ≡ is_open rest → StandsOn on_a k.generation k.shut a b → FitsOn on_a k a b
fits_opened true k body bodies rest a b force is slot log within ends counts stuck stands =
    side_opened k (k.generation + 1) body a b slot
    (subst (λ (l : List ℕ). HoldsRecords (saved_as k.generation body) k.count k.end k.stuck l) is
    (holds_read k body bodies rest force log within ends counts stuck)) stands
fits_opened false k body bodies rest a b force is slot log within ends counts stuck stands =
    side_opened k k.generation body b a slot
    (subst (λ (l : List ℕ). HoldsRecords (saved_as k.generation body) k.count k.end k.stuck l) is
    (holds_read k body bodies rest force log within ends counts stuck)) stands
