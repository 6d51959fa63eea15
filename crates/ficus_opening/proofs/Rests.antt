-- Nothing is written on disks, one call after the other.
use Rattle.std.proofs.Common.{◌≡◌, ℕ, ◌+◌, ◌-◌, ◌<◌, ◌≤◌, List, length, get_or, refl, sym, ap, subst, ◌∙◌, inl, inr, ⊎_elim, arith}
use Rattle.std.specs.Prelude.{slice_set}
use Rattle.std.proofs.lemmas.List.{length-set}
use Rattle.ficus_disk.specs.Crash.{Elapses, Within}
use Rattle.ficus_disk.specs.declared.disk.Disk.{Ghosts as Disk}
use Rattle.ficus_disk.specs.declared.pair.Pair.{Pair}
use Rattle.ficus_ids.specs.Members.{IsMember}
use Rattle.ficus_keeper.specs.Moments.{LeavesOnly, PairLeavesOld, PairSpans, Spans}
use Rattle.ficus_keeper.specs.Pairs.{PairWithin}
use Rattle.ficus_keeper.proofs.Moments.{joined, spans_call, spans_none}
use Rattle.ficus_runs.specs.Numbered.{IsNumbered}
use Rattle.ficus_opening.specs.Rests.{AllRest, PairRests, RestsAt}
use Rattle.ficus_runs.proofs.Numbers.{number_exists, number_once, number_read}
use Rattle.ficus_runs.proofs.Replaced.{replaced}

-- there are as many pairs
pub rests_count : {D : Type 0} {disk : Disk D} {by : ℕ} {old new : List (Pair D)} → RestsAt disk by old new
    → length new ≡ length old
rests_count {by = by} {old = old} rests =
    ap (λ (list : List (Pair _)). length list) rests.set ∙ length-set old (by - 1) rests.now

module _ {D : Type 0} (disk : Disk D) where
  -- no call
  pub rests_none : (pair : Pair D) → PairRests disk pair pair
  rests_none pair = record {
    within = record { a = λ c left. left; b = λ c left. left };
    leaves = record {
      a = record { later = omega arith; nothing_else = λ t c le left. inl left };
      b = record { later = omega arith; nothing_else = λ t c le left. inl left };
    };
    spans = λ told. record {
      a = spans_none (disk.moment pair.a) (disk.left_since pair.a);
      b = spans_none (disk.moment pair.b) (disk.left_since pair.b);
    };
  }

  -- on one pair of all nothing is written
  pub rests_pair : (by : ℕ) (disks : List (Pair D)) (was now : Pair D) → IsNumbered disks by was
      → PairWithin disk.may_leave was now → PairLeavesOld disk.moment disk.left_since disk.may_leave was now
      → (disk.tells_moments → PairSpans disk.moment disk.left_since was now)
      → RestsAt disk by disks (slice_set disks (by - 1) now)
  rests_pair by disks was now is within leaves spans = record {
    was = was;
    is = is;
    now = now;
    set = refl;
    rests = record { within = within; leaves = leaves; spans = spans };
  }

  -- one call of one disk that leaves no more than before
  leaves_call : (old new : D) → Within (disk.may_leave old) (disk.may_leave new)
      → Elapses (disk.moment old) (disk.moment new) (disk.left_since old) (disk.left_since new) (disk.may_leave new)
      → LeavesOnly (disk.moment old) (disk.moment new) (disk.left_since old) (disk.left_since new) (disk.may_leave old)
  leaves_call old new within time = record {
    later = time.later;
    nothing_else = λ t c le left. ⊎_elim (λ past. inl past) (λ may. inr (within c may)) (time.nothing_else t c le left);
  }

  module _ (left_now : disk.tells_moments → (d : D) (t : ℕ) (c : List ℕ) → t ≤ disk.moment d → disk.may_leave d c
      → disk.left_since d t c) where
    spans_one : disk.tells_moments → (old new : D)
        → Elapses (disk.moment old) (disk.moment new) (disk.left_since old) (disk.left_since new) (disk.may_leave new)
        → Spans (disk.moment old) (disk.moment new) (disk.left_since old) (disk.left_since new)
    spans_one told old new time = spans_call time (λ c may. left_now told new (disk.moment old) c time.later may)

    -- one call of each disk
    pub rests_calls : (old new : Pair D) → Within (disk.may_leave old.a) (disk.may_leave new.a)
        → Within (disk.may_leave old.b) (disk.may_leave new.b)
        → Elapses (disk.moment old.a) (disk.moment new.a) (disk.left_since old.a) (disk.left_since new.a)
        (disk.may_leave new.a)
        → Elapses (disk.moment old.b) (disk.moment new.b) (disk.left_since old.b) (disk.left_since new.b)
        (disk.may_leave new.b)
        → PairRests disk old new
    rests_calls old new within_a within_b time_a time_b = record {
      within = record { a = within_a; b = within_b };
      leaves = record {
        a = leaves_call old.a new.a within_a time_a;
        b = leaves_call old.b new.b within_b time_b;
      };
      spans = λ told. record {
        a = spans_one told old.a new.a time_a;
        b = spans_one told old.b new.b time_b;
      };
    }

    -- one call of the first disk alone
    pub rests_first : (old new b : D) → Within (disk.may_leave old) (disk.may_leave new)
        → Elapses (disk.moment old) (disk.moment new) (disk.left_since old) (disk.left_since new) (disk.may_leave new)
        → PairRests disk (record { a = old; b = b }) (record { a = new; b = b })
    rests_first old new b within time =
        rests_calls (record { a = old; b = b }) (record { a = new; b = b }) within (λ c left. left) time (record {
          later = omega arith;
          kept = λ t c le past. past;
          nothing_else = λ t c le left. inl left;
        })

  -- one part of a run after another
  module _ (earlier : (d : D) (t u : ℕ) (c : List ℕ) → t ≤ u → disk.left_since d u c → disk.left_since d t c) where
    goes_on : (old mid new : D) → Spans (disk.moment old) (disk.moment mid) (disk.left_since old) (disk.left_since mid)
        → Spans (disk.moment mid) (disk.moment new) (disk.left_since mid) (disk.left_since new)
        → Spans (disk.moment old) (disk.moment new) (disk.left_since old) (disk.left_since new)
    goes_on old mid new first second = record {
      later = omega (arith, first.later, second.later);
      splits = λ t c le left. ⊎_elim
          (λ past. ⊎_elim (λ before. inl before)
          (λ since. inr (second.kept (disk.moment old) c first.later since)) (first.splits t c le past))
          (λ since. inr (earlier new (disk.moment old) (disk.moment mid) c first.later since))
          (second.splits t c (omega (arith, le, first.later)) left);
      kept = λ t c le past. second.kept t c (omega (arith, le, first.later)) (first.kept t c le past);
    }

    pub spans_then : (old mid new : Pair D) → PairSpans disk.moment disk.left_since old mid
        → PairSpans disk.moment disk.left_since mid new → PairSpans disk.moment disk.left_since old new
    spans_then old mid new first second = record {
      a = goes_on old.a mid.a new.a first.a second.a;
      b = goes_on old.b mid.b new.b first.b second.b;
    }

module _ {D : Type 0} (disk : Disk D) where
  -- nothing is written on any pair
  pub all_rest_none : (disks : List (Pair D)) → AllRest disk disks disks
  all_rest_none disks = record {
    count = refl;
    each = λ r was now at at_now.
        subst (λ (p : Pair D). PairRests disk was p) (number_once at at_now) (rests_none disk was);
  }

  -- also where one of them was touched
  pub all_rest_one : (disks : List (Pair D)) (index : ℕ) (before after : Pair D) → index < length disks
      → before ≡ get_or disks index before → PairRests disk before after
      → AllRest disk disks (slice_set disks index after)
  all_rest_one disks index before after within is rests = record {
    count = length-set disks index after;
    each = λ r was now at at_now.
        let place : index + 1 - 1 ≡ index = omega arith in
        let at_before : IsNumbered disks (index + 1) before =
        number_read disks (index + 1) before before
        (record { at_least = omega arith; at_most = omega (arith, within) })
        (ap (λ k. get_or disks k before) place ∙ sym is) in
        ⊎_elim
        (λ here.
        let found : IsNumbered disks (index + 1) was = subst (λ n. IsNumbered disks n was) here.0 at in
        subst (λ (p : Pair D). PairRests disk p now) (number_once at_before found)
        (subst (λ (p : Pair D). PairRests disk before p) (sym here.1) rests))
        (λ other. subst (λ (p : Pair D). PairRests disk was p) (number_once at other.1) (rests_none disk was))
        (replaced disks (index + 1) r after now (omega arith)
        (subst (λ k. IsNumbered (slice_set disks k after) r now) (sym place) at_now));
  }

  module _ (earlier : (d : D) (t u : ℕ) (c : List ℕ) → t ≤ u → disk.left_since d u c → disk.left_since d t c) where
    pub rests_then : (old mid new : Pair D) → PairRests disk old mid → PairRests disk mid new → PairRests disk old new
    rests_then old mid new first second = record {
      within = record {
        a = λ c left. first.within.a c (second.within.a c left);
        b = λ c left. first.within.b c (second.within.b c left);
      };
      leaves = record {
        a = joined (disk.may_leave old.a) first.leaves.a second.leaves.a (λ c left. left) first.within.a;
        b = joined (disk.may_leave old.b) first.leaves.b second.leaves.b (λ c left. left) first.within.b;
      };
      spans = λ moments. spans_then disk earlier old mid new (first.spans moments) (second.spans moments);
    }

    -- one thing after the other
    pub all_rest_then : (old mid new : List (Pair D)) → AllRest disk old mid → AllRest disk mid new
        → AllRest disk old new
    all_rest_then old mid new first second = record {
      count = second.count ∙ first.count;
      each = λ r was now at at_now.
          let found = number_exists mid r (subst (λ n. IsMember n r) (sym first.count) at.member) in
          rests_then was found.0 now (first.each r was found.0 at found.1) (second.each r found.0 now found.1 at_now);
    }
