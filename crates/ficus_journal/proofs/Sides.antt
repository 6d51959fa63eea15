-- A commit on one of the disks, by the one in force and the other.
use Rattle.std.proofs.Common.{◌≡◌, inl, inr, ℕ, ◌+◌, ◌==◌, ◌<◌, ◌≤◌, ◌^◌, Bool, true, false, not, Option, Some, None, List, [], ◌∷◌, ◌++◌, length, take, refl, sym, ◌∙◌, ap, subst, arith, length-append, length-drop}
use Rattle.std.specs.Prelude.{◌||◌, if◌then◌else◌, nat_le}
use Rattle.std.proofs.lemmas.List.{take_at, length-take-le, length_push}
use Rattle.std.proofs.lemmas.Bool.Decides.{nat_tests}
use Rattle.ficus_keeper.specs.Kept.{Kept, after_commit, image_alone}
use Rattle.ficus_keeper.proofs.Sides.{kept_at}
use Rattle.ficus_slot.specs.Gate.{GateIs}
use Rattle.ficus_slot.specs.Slot.{SlotContent, slot_in}
use Rattle.ficus_slot.proofs.Written.{open_of, tail_of}
use Rattle.ficus_slot.specs.Stays.{IsFound, IsNew, IsOld}
use Rattle.ficus_two_slots.specs.Slots.{bound}
use Rattle.ficus_log.specs.Appending.{HasRecord, IsAppended, IsShutAt, StaysShut}
use Rattle.ficus_log.specs.Log.{Log, is_open, log_of, record_range, tail_log}
use Rattle.ficus_log.proofs.Walks.{closed, length-record_range, log_appended, log_shut}
use Rattle.ficus_log.proofs.Fronts.{HasFront, front_of, slot_behind, tail_behind}
use Rattle.ficus_journal.specs.Journal.{FitsSide, saves_image}
use Rattle.ficus_journal.specs.Logs.{kept_in, kept_on, log_kept}
use Rattle.ficus_journal.specs.declared.journal.Journal.{Journal}
use Rattle.ficus_journal.proofs.Choosing.{force_kept, kept_loses, kept_none, kept_slot, stands_kept}

abbrev pub saved_as : ℕ → List ℕ → SlotContent
saved_as generation body = record { generation = generation; body = body }

-- a record of the next generation, which isn't too long, may be written behind those in force
pub record MayAppend (keeper : Journal) (new : ℕ) (body : List ℕ) : Type 0 where
  pub wants : saves_image keeper ≡ false
  pub next : new ≡ keeper.generation + keeper.count + 1
  pub small : new < 2 ^ 64
  pub few : length body < 2 ^ 32

-- this slot stands there, and this is read behind it
pub record LogIs (saved : SlotContent) (bodies : List (List ℕ)) (rest c : List ℕ) : Type 0 where
  pub slot : slot_in c ≡ Some saved
  pub log : tail_log saved c ≡ record { bodies = bodies; rest = rest }

pub kept_log : (saved : SlotContent) (bodies : List (List ℕ)) (rest c : List ℕ) → LogIs saved bodies rest c
    → kept_on c ≡ Some (record { generation = saved.generation; image = saved.body; records = bodies })
kept_log saved bodies rest c is =
    let kept : List (List ℕ) → Option Kept = λ l. Some (record { generation = saved.generation; image = saved.body; records = l }) in
    kept_slot c saved is.slot ∙ ap (λ (log : Log). kept log.bodies) is.log

-- a new image
pub new_log : (saved : SlotContent) (c : List ℕ) (new : IsNew saved c) → LogIs saved [] (0 ∷ new.slot.more) c
new_log saved c new = record {
  slot = new.is;
  log = ap (log_of saved.generation) (tail_of new.slot) ∙ closed saved.generation 0 new.slot.more (λ e. absurd (omega arith));
}

length_new : (saved : SlotContent) (c : List ℕ) (new : IsNew saved c)
    → length saved.body + 17 + length (0 ∷ new.slot.more) ≡ length c
length_new saved c new = omega (arith, ap length (tail_of new.slot), length-drop (17 + length saved.body) c)

abbrev pub generation_of_slot : Option SlotContent → ℕ
generation_of_slot None = 0
generation_of_slot (Some saved) = saved.generation

-- records behind a slot
module _ (saved : SlotContent) (end : ℕ) (force : List ℕ) (is : slot_in force ≡ Some saved)
    (ends : end + length (tail_log saved force).rest ≡ length force)
    (shut : is_open (tail_log saved force).rest ≡ false) where
  abbrev parts : HasFront saved force
  parts = front_of saved force is

  abbrev bodies : List (List ℕ)
  bodies = (tail_log saved force).bodies

  end_is : length (front_of saved force is).front ≡ end
  end_is =
      omega (
        arith,
        ends,
        ap length (front_of saved force is).is,
        length-append (front_of saved force is).front (tail_log saved force).rest,
      )

  front_is : take end force ≡ (front_of saved force is).front
  front_is = ap (λ (l : List ℕ). take end l) (front_of saved force is).is
      ∙ take_at (front_of saved force is).front (tail_log saved force).rest end end_is

  by_rest : (rest : List ℕ) → force ≡ take end force ++ rest → 1 ≤ length rest → is_open rest ≡ false
      → IsShutAt end force
  by_rest [] same some not_open = absurd (omega arith)
  by_rest (gate ∷ rest) same some not_open = record {
    gate = gate;
    rest = rest;
    is = same;
    long = omega (
      arith,
      ap length (front_of saved force is).is,
      length-append (front_of saved force is).front (tail_log saved force).rest,
      end_is,
    );
    shut = λ opens. let open_gate : (gate == 1) ≡ true = grind (arith, nat_tests) in cc;
  }

  -- the gate behind the last isn't open
  pub is_shut_at : IsShutAt end force
  is_shut_at =
      by_rest (tail_log saved force).rest
      ((front_of saved force is).is ∙ ap (λ (l : List ℕ). l ++ (tail_log saved force).rest) (sym front_is))
      (front_of saved force is).more shut

  -- where it stays so, the same is read
  pub still_log : (c : List ℕ) (stays : StaysShut end force c) → LogIs saved bodies (stays.gate ∷ stays.rest) c
  still_log c stays =
      let front = (front_of saved force is).front in
      let has = (front_of saved force is).has in
      let tail : List ℕ = stays.gate ∷ stays.rest in
      let same : c ≡ front ++ tail = stays.is ∙ ap (λ (l : List ℕ). l ++ tail) front_is in
      record {
        slot = ap slot_in same ∙ slot_behind saved bodies front has tail (omega arith);
        log = ap (tail_log saved) same ∙ tail_behind saved bodies front has tail (omega arith)
            ∙ log_shut bodies saved.generation stays.gate has.records stays.rest has.reads stays.shut;
      }

  -- where a record stands behind it, it is read too
  pub grown_log : (generation : ℕ) (body c : List ℕ) → generation ≡ saved.generation + length bodies + 1
      → generation < 2 ^ 64 → length body < 2 ^ 32 → (more : HasRecord end generation body force c)
      → LogIs saved (bodies ++ body ∷ []) (0 ∷ more.more) c
  grown_log generation body c next small few more =
      let front = (front_of saved force is).front in
      let has = (front_of saved force is).has in
      let tail : List ℕ = 1 ∷ (record_range generation body ++ more.more) in
      let same : c ≡ front ++ tail = more.is ∙ ap (λ (l : List ℕ). l ++ tail) front_is in
      record {
        slot = ap slot_in same ∙ slot_behind saved bodies front has tail (omega arith);
        log = ap (tail_log saved) same ∙ tail_behind saved bodies front has tail (omega arith)
            ∙ log_appended bodies saved.generation generation has.records body more.more has.reads next small few;
      }

  pub length_grown : (generation : ℕ) (body c : List ℕ) (more : HasRecord end generation body force c)
      → end + length body + 13 + length (0 ∷ more.more) ≡ length c
  length_grown generation body c more =
      let at = is_shut_at in
      omega (
        arith,
        ap length more.is,
        length-append (take end force) (1 ∷ (record_range generation body ++ more.more)),
        length-append (record_range generation body) more.more,
        length-record_range generation body,
        length-take-le end force at.long,
      )

-- the keeper stands for the disk in force and the other
module _ (on_a : Bool) (keeper : Journal) (force other : List ℕ)
    (fits : FitsSide keeper (bound on_a keeper.generation) force other) where
  abbrev saved : SlotContent
  saved = saved_as keeper.generation fits.stands.body

  abbrev before : Kept
  before = log_kept (saved_as keeper.generation fits.stands.body) force

  pub before_is : kept_at kept_in on_a force other ≡ Some (log_kept (saved_as keeper.generation fits.stands.body) force)
  before_is = stands_kept on_a keeper.generation keeper.shut force other fits.stands

  -- the generation behind the kept one
  pub next_of : (new : ℕ)
      → ((k : Kept) → kept_at kept_in on_a force other ≡ Some k → new ≡ k.generation + length k.records + 1)
      → new ≡ keeper.generation + keeper.count + 1
  next_of new next = omega (arith, next before before_is, fits.records.counted)

  -- the other disk loses while the slot in force stays
  other_loses : (y : List ℕ) → IsOld other y → (z : Kept) → kept_on y ≡ Some z
      → z.generation < bound on_a keeper.generation
  other_loses y (inl none) z is = absurd (let no = sym (kept_none y none) ∙ is in cc)
  other_loses y (inr same) z is =
      kept_loses other (bound on_a keeper.generation) fits.stands.loses z (ap kept_on (sym same) ∙ is)

  module _ (new : ℕ) (body : List ℕ) (next : new ≡ keeper.generation + keeper.count + 1) where
    -- an image on the other disk
    pub image_kept : (c : List ℕ) → IsNew (saved_as new body) c
        → kept_at kept_in (not on_a) c force ≡ Some (image_alone new body)
    image_kept c is =
        force_kept (not on_a) c force (image_alone new body) (kept_log (saved_as new body) [] _ c (new_log (saved_as new body) c is))
        (kept_loses force (bound (not on_a) new) (λ s found.
        let same : keeper.generation ≡ s.generation = ap generation_of_slot (sym fits.stands.in_force ∙ found) in
        below (not on_a) s.generation (omega arith)))
      where
        below : (b : Bool) (m : ℕ) → m < new → m < bound b new
        below true m less = omega arith
        below false m less = less

    pub image_fits : (c : List ℕ) → IsNew (saved_as new body) c → (after : Journal) → after.generation ≡ new
        → after.shut ≡ false → after.end ≡ length body + 17 → after.count ≡ 0 → after.stuck ≡ false
        → FitsSide after (bound (not on_a) after.generation) c force
    image_fits c is after generation shut end count stuck =
        let log = new_log (saved_as new body) c is in
        let at : SlotContent = saved_as after.generation body in
        let same : saved_as new body ≡ at = ap (λ g. saved_as g body) (sym generation) in
        let log_is : tail_log at c ≡ record { bodies = []; rest = 0 ∷ is.slot.more } =
        ap (λ (s : SlotContent). tail_log s c) (sym same) ∙ log.log in
        record {
          stands = record {
            body = body;
            in_force = is.is ∙ ap (λ (s : SlotContent). Some s) same;
            loses = λ s found.
                let number : keeper.generation ≡ s.generation = ap generation_of_slot (sym fits.stands.in_force ∙ found) in
                less_bound (not on_a) s.generation after.generation (omega arith);
            gate = subst (λ (b : Bool). GateIs b force) (sym shut)
                (open_of force (saved_as keeper.generation fits.stands.body) fits.stands.in_force);
          };
          records = record {
            counted = ap (λ (l : Log). length l.bodies) log_is ∙ sym count;
            ends = ap (λ (l : Log). after.end + length l.rest) log_is
                ∙ omega (arith, end, length_new (saved_as new body) c is);
            gate = stuck ∙ sym (ap (λ (l : Log). is_open l.rest) log_is);
          };
        }
      where
        less_bound : (b : Bool) (m k : ℕ) → m < k → m < bound b k
        less_bound true m k less = omega arith
        less_bound false m k less = less

    flipped : (b : Bool) (x y : List ℕ) → kept_at kept_in (not b) y x ≡ kept_at kept_in b x y
    flipped true x y = refl
    flipped false x y = refl

    -- what is kept by whether it is found
    pub image_found : (is_found : Bool) (y : List ℕ) → IsFound is_found other (saved_as new body) y
        → kept_at kept_in (not on_a) y force
        ≡ (if is_found then Some (image_alone new body) else kept_at kept_in (not on_a) other force)
    image_found true y is = image_kept y is
    image_found false y old =
        flipped on_a force y
        ∙ force_kept on_a force y before (kept_slot force saved fits.stands.in_force) (other_loses y old)
        ∙ sym before_is ∙ sym (flipped on_a force other)

  -- a record behind those in force
  module _ (new : ℕ) (body : List ℕ) (by : MayAppend keeper new body) where
    stuck_not : (a b : Bool) → (a || b) ≡ false → (a ≡ false) × (b ≡ false)
    stuck_not true b is = absurd (cc)
    stuck_not false b is = (refl, is)

    not_stuck : keeper.stuck ≡ false
    not_stuck = (stuck_not keeper.stuck (nat_le 64 keeper.count) by.wants).0

    pub few_records : keeper.count < 64
    few_records =
        let below : nat_le 64 keeper.count ≡ false = (stuck_not keeper.stuck (nat_le 64 keeper.count) by.wants).1 in
        below_limit keeper.count below
      where
        below_limit : (n : ℕ) → nat_le 64 n ≡ false → n < 64
        below_limit n below = grind (arith, nat_tests)

    not_open : is_open (tail_log saved force).rest ≡ false
    not_open = sym fits.records.gate ∙ not_stuck

    pub place : IsShutAt keeper.end force
    place = is_shut_at saved keeper.end force fits.stands.in_force fits.records.ends not_open

    stamp : new ≡ keeper.generation + length (tail_log saved force).bodies + 1
    stamp = omega (arith, by.next, fits.records.counted)

    pub still : (c : List ℕ) (stays : StaysShut keeper.end force c)
        → LogIs saved (tail_log saved force).bodies (stays.gate ∷ stays.rest) c
    still = still_log saved keeper.end force fits.stands.in_force fits.records.ends not_open

    pub grown : (c : List ℕ) (more : HasRecord keeper.end new body force c)
        → LogIs saved ((tail_log saved force).bodies ++ body ∷ []) (0 ∷ more.more) c
    grown c more =
        grown_log saved keeper.end force fits.stands.in_force fits.records.ends not_open new body c stamp by.small by.few more

    abbrev pub after_record : Kept
    after_record = record (log_kept (saved_as keeper.generation fits.stands.body) force) {
      records = (tail_log (saved_as keeper.generation fits.stands.body) force).bodies ++ body ∷ [];
    }

    -- what is kept with it
    abbrev pub with_record : Option Kept
    with_record = after_commit false new body (kept_at kept_in on_a force other)

    after_is : after_commit false new body (kept_at kept_in on_a force other) ≡ Some after_record
    after_is = ap (after_commit false new body) before_is

    pub record_kept : (c : List ℕ) → HasRecord keeper.end new body force c → kept_at kept_in on_a c other ≡ with_record
    record_kept c more =
        force_kept on_a c other after_record
        (kept_log saved ((tail_log saved force).bodies ++ body ∷ []) (0 ∷ more.more) c (grown c more))
        (kept_loses other (bound on_a keeper.generation) fits.stands.loses)
        ∙ sym after_is

    still_kept : (c : List ℕ) → StaysShut keeper.end force c → kept_at kept_in on_a c other ≡ kept_at kept_in on_a force other
    still_kept c stays =
        force_kept on_a c other before
        (kept_log saved (tail_log saved force).bodies (stays.gate ∷ stays.rest) c (still c stays))
        (kept_loses other (bound on_a keeper.generation) fits.stands.loses)
        ∙ sym before_is

    pub record_found : (is_found : Bool) (x : List ℕ) → IsAppended is_found keeper.end new body force x
        → kept_at kept_in on_a x other ≡ (if is_found then with_record else kept_at kept_in on_a force other)
    record_found true x more = record_kept x more
    record_found false x stays = still_kept x stays

    pub record_fits : (c : List ℕ) → HasRecord keeper.end new body force c → (after : Journal)
        → after.generation ≡ keeper.generation → after.shut ≡ keeper.shut
        → after.end ≡ keeper.end + length body + 13 → after.count ≡ keeper.count + 1 → after.stuck ≡ keeper.stuck
        → FitsSide after (bound on_a after.generation) c other
    record_fits c more after generation shut end count stuck =
        let log = grown c more in
        let at : SlotContent = saved_as after.generation fits.stands.body in
        let same : saved ≡ at = ap (λ g. saved_as g fits.stands.body) (sym generation) in
        let log_is : tail_log at c
        ≡ record { bodies = (tail_log saved force).bodies ++ body ∷ []; rest = 0 ∷ more.more } =
        ap (λ (s : SlotContent). tail_log s c) (sym same) ∙ log.log in
        let long = length_grown saved keeper.end force fits.stands.in_force fits.records.ends not_open new body c more in
        record {
          stands = record {
            body = fits.stands.body;
            in_force = log.slot ∙ ap (λ (s : SlotContent). Some s) same;
            loses = λ s found.
                subst (λ g. s.generation < bound on_a g) (sym generation) (fits.stands.loses s found);
            gate = subst (λ (b : Bool). GateIs b other) (sym shut) fits.stands.gate;
          };
          records = record {
            counted = ap (λ (l : Log). length l.bodies) log_is
                ∙ omega (arith, length_push (tail_log saved force).bodies body, fits.records.counted, count);
            ends = ap (λ (l : Log). after.end + length l.rest) log_is ∙ omega (arith, end, long);
            gate = stuck ∙ not_stuck ∙ sym (ap (λ (l : Log). is_open l.rest) log_is);
          };
        }

-- bytes that a crash leaves as they were
pub stays_at : (end : ℕ) (old c : List ℕ) → IsShutAt end old → c ≡ old → StaysShut end old c
stays_at end old c at same = record { gate = at.gate; rest = at.rest; is = same ∙ at.is; shut = at.shut }
