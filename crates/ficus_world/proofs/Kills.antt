-- What the disks of a world come to at each moment, one thing that is asked of them after the other.
use Rattle.std.proofs.Common.{◌≡◌, ℕ, ◌+◌, ◌-◌, ◌≤◌, List, [], ◌∷◌, ◌++◌, length, Some, None, Result, Ok, Err, sym, ap, ap₂, subst, ◌∙◌, inl, inr, ◌⊎◌, ⊎_elim, arith}
use Rattle.std.specs.Prelude.{slice_set, OnErr, OnOk}
use Rattle.ficus_model.specs.declared.event.Event.{Event}
use Rattle.std.proofs.lemmas.List.{length-set}
use Rattle.ficus_disk.specs.Crash.{Only, Within}
use Rattle.ficus_disk.specs.declared.disk.Disk.{Ghosts as Disk}
use Rattle.ficus_disk.specs.declared.pair.Pair.{Pair}
use Rattle.ficus_keeper.specs.Moments.{LeavesOnly, PairSpans, Spans}
use Rattle.ficus_keeper.specs.declared.keep.Keep.{Ghosts as Keep}
use Rattle.ficus_durable_state.specs.declared.saved.Saved.{Saved}
use Rattle.ficus_stable_storage.specs.Leads.Holds.{Holds}
use Rattle.ficus_stable_storage.proofs.leads.Led.{held_at}
use Rattle.ficus_stable_storage.specs.Holds.{HoldsOneOf}
use Rattle.ficus_stable_storage.specs.declared.stable.Stable.{Stable}
use Rattle.ficus_runs.specs.Numbered.{IsNumbered}
use Rattle.ficus_opening.specs.declared.member.Member.{Member}
use Rattle.ficus_opening.specs.declared.member.MemberState.TheVariants.{Up, Down}
use Rattle.ficus_opening.specs.declared.member.MemberState.{MemberState}
use Rattle.ficus_opening.specs.Disks.{ArePairsOf, HoldsFor}
use Rattle.ficus_world.specs.Disks.{IsAfterSave, SavesAt}
use Rattle.ficus_world.specs.World.{IsWorld, Whole}
use Rattle.ficus_opening.specs.Rests.{OthersStay, RestsAt}
use Rattle.ficus_world.specs.Kills.{IsSavedOr, IsSettled, SavesOn, Touches, WritesAt, latest}
use Rattle.ficus_world.specs.Kills.Touches.{TouchesNone, TouchesOne, WritesOne}
use Rattle.ficus_opening.proofs.Others.{others_none, others_one}
use Rattle.ficus_opening.proofs.Rests.{rests_none, spans_then}
use Rattle.ficus_world.proofs.Disks.{set_here}
use Rattle.ficus_world.proofs.Saves.{up_ready}
use Rattle.ficus_world.proofs.Lifting.Sets.{set_again, set_same}

pub writes_count : {K D : Type 0} {keep : Keep K} {disk : Disk D} {by : ℕ} {before after : Whole}
    {old new : List (Pair D)} → WritesAt keep disk by before after old new → length new ≡ length old
writes_count {by = by} {old = old} writes =
    ap (λ (list : List (Pair _)). length list) writes.set_pair ∙ length-set old (by - 1) writes.now_pair

module _ {D : Type 0} (disk : Disk D) where
  pub rests_same : (by : ℕ) (disks : List (Pair D)) (pair : Pair D) → IsNumbered disks by pair
      → RestsAt disk by disks disks
  rests_same by disks pair is = record {
    was = pair;
    is = is;
    now = pair;
    set = sym (set_same disks by pair is);
    rests = rests_none disk pair;
  }

  module _ (only_now : (d : D) (c : List ℕ) → disk.left_since d (disk.moment d) c → disk.may_leave d c) where
    -- what was left while nothing was written, might have been left before
    pub left_old : (old new : D) → LeavesOnly (disk.moment old) (disk.moment new) (disk.left_since old)
        (disk.left_since new) (disk.may_leave old)
        → (c : List ℕ) → disk.left_since new (disk.moment old) c → disk.may_leave old c
    left_old old new leaves c left =
        ⊎_elim (λ past. only_now old c past) (λ may. may) (leaves.nothing_else (disk.moment old) c (omega arith) left)

    module _ (told : disk.tells) (moments : disk.tells_moments)
        (seen_may : (d : D) → disk.may_leave d (disk.seen d))
        (left_now : (d : D) (t : ℕ) (c : List ℕ) → t ≤ disk.moment d → disk.may_leave d c → disk.left_since d t c)
      where
        -- where nothing was unsynced, what was left since the first is what was left since the second
        pub late : (old mid new : D) → Within (disk.may_leave old) (disk.may_leave mid)
            → LeavesOnly (disk.moment old) (disk.moment mid) (disk.left_since old) (disk.left_since mid)
            (disk.may_leave old) → Only (disk.seen old) (disk.may_leave old)
            → Spans (disk.moment mid) (disk.moment new) (disk.left_since mid) (disk.left_since new) → (c : List ℕ)
            → disk.left_since new (disk.moment old) c → disk.left_since new (disk.moment mid) c
        late old mid new within leaves only spans c left =
            ⊎_elim
            (λ past.
            let before : c ≡ disk.seen old = only c (left_old old mid leaves c past) in
            let after : disk.seen mid ≡ disk.seen old = only (disk.seen mid) (within (disk.seen mid) (seen_may mid)) in
            subst (λ (x : List ℕ). disk.left_since new (disk.moment mid) x) (after ∙ sym before)
            (spans.kept (disk.moment mid) (disk.seen mid) (omega arith)
            (left_now mid (disk.moment mid) (disk.seen mid) (omega arith) (seen_may mid))))
            (λ since. since) (spans.splits (disk.moment old) c leaves.later left)

-- where a member was saved, it was saved, or it is down
pub saved_or : {T E : Type 0} (next : Saved) (event : Event) (result : Result T E) (was now : Member)
    (old new : List Event) → IsAfterSave next was result now → OnOk result (new ≡ old ++ event ∷ [])
    → OnErr result (new ≡ old) → IsSavedOr next was now old new
saved_or next event (Ok done) was now old new after stored kept = inl (after.0, after.1, event, stored)
saved_or next event (Err failed) was now old new after stored kept = inr (after.0, after.2, after.3, after.4, kept)

module _ {K D : Type 0} (keep : Keep K) (disk : Disk D) (by : ℕ) where
  -- a save of a member that is up
  pub writes_at : {T E : Type 0} {next : Saved} {result : Result T E} (old new : Whole) (event : Event)
      {x z : List (Pair D)} → SavesAt by next result old.members new.members
      → OnOk result (new.events ≡ old.events ++ event ∷ []) → OnErr result (new.events ≡ old.events)
      → ArePairsOf keep disk old.members x
      → ((was : Member) → IsNumbered old.members by was → next.generation ≡ was.replica.saved.generation + 1)
      → SavesOn keep disk by next x z → WritesAt keep disk by old new x z
  writes_at {next = next} {result = result} old new event saves stored kept own above on =
      record {
        was = saves.was;
        is = saves.is;
        up = saves.up;
        next = next;
        now = saves.now;
        after = saved_or next event result saves.was saves.now old.events new.events saves.after stored kept;
        above = above saves.was saves.is;
        set = saves.set;
        pair = on.was;
        is_pair = on.is;
        now_pair = on.now;
        set_pair = on.set;
        between = λ told moments.
            let of = own.each by saves.was on.was saves.is on.is in
            let ready = up_ready keep disk saves.was of.0 on.was saves.up (of.1.holds told) in
            on.between told saves.was.replica.saved ready.holds;
        spans = on.spans;
      }

  -- room was taken, and then a member saved
  module _ (only_now : (d : D) (c : List ℕ) → disk.left_since d (disk.moment d) c → disk.may_leave d c)
      (seen_may : disk.tells → (d : D) → disk.may_leave d (disk.seen d))
      (left_now : disk.tells_moments → (d : D) (t : ℕ) (c : List ℕ) → t ≤ disk.moment d → disk.may_leave d c
      → disk.left_since d t c)
      (earlier : (d : D) (t u : ℕ) (c : List ℕ) → t ≤ u → disk.left_since d u c → disk.left_since d t c) where
    pub rests_then_writes : {old new : Whole} {x y z : List (Pair D)} → ArePairsOf keep disk old.members x
        → RestsAt disk by x y → WritesAt keep disk by old new y z → WritesAt keep disk by old new x z
    rests_then_writes {x = x} {z = z} own rests writes =
        let middle : writes.pair ≡ rests.now =
        set_here by x rests.now writes.pair rests.is.member.at_least
        (subst (λ (list : List (Pair D)). IsNumbered list by writes.pair) rests.set writes.is_pair) in
        let spans : disk.tells_moments → PairSpans disk.moment disk.left_since rests.now writes.now_pair =
        λ moments. subst (λ (p : Pair D). PairSpans disk.moment disk.left_since p writes.now_pair) middle
        (writes.spans moments) in
        record {
          was = writes.was;
          is = writes.is;
          up = writes.up;
          next = writes.next;
          now = writes.now;
          after = writes.after;
          above = writes.above;
          set = writes.set;
          now_pair = writes.now_pair;
          pair = rests.was;
          is_pair = rests.is;
          set_pair =
              writes.set_pair ∙ ap (λ (list : List (Pair D)). slice_set list (by - 1) writes.now_pair) rests.set
              ∙ set_again x (by - 1) rests.now writes.now_pair;
          between = λ told moments.
              let of = own.each by writes.was rests.was writes.is rests.is in
              let ready = up_ready keep disk writes.was of.0 rests.was writes.up (of.1.holds told) in
              let crossing = subst
              (λ (p : Pair D). (a b : List ℕ) → disk.left_since writes.now_pair.a (disk.moment p.a) a
              → disk.left_since writes.now_pair.b (disk.moment p.b) b
              → Holds (keep.kept a b) writes.was.replica.saved ⊎ Holds (keep.kept a b) writes.next) middle
              (writes.between told moments).each in
              record {
                each = λ a b left_a left_b.
                    crossing a b
                    (late disk only_now told moments (seen_may told) (left_now moments) rests.was.a rests.now.a
                    writes.now_pair.a rests.rests.within.a rests.rests.leaves.a ready.settled.synced_a (spans moments).a
                    a left_a)
                    (late disk only_now told moments (seen_may told) (left_now moments) rests.was.b rests.now.b
                    writes.now_pair.b rests.rests.within.b rests.rests.leaves.b ready.settled.synced_b (spans moments).b
                    b left_b);
              };
          spans = λ moments. spans_then disk earlier rests.was rests.now writes.now_pair (rests.rests.spans moments)
              (spans moments);
        }

module _ {K D : Type 0} (keep : Keep K) (disk : Disk D) where
  -- what a crash leaves of a member's pair holds what it has saved, or what is pending
  holds_latest : (stable : Stable K) (pair : Pair D) (saved : Saved) (state : MemberState)
      → HoldsFor keep disk stable pair saved state
      → HoldsOneOf keep.kept disk.may_leave pair (Some saved) (Some (latest saved state))
  holds_latest stable pair saved Up ready = record {
    each = λ a b left_a left_b.
        inl (held_at _ _ saved (ap₂ keep.kept (ready.settled.synced_a a left_a) (ready.settled.synced_b b left_b))
        ready.holds);
  }
  holds_latest stable pair saved (Down None) holds = holds
  holds_latest stable pair saved (Down (Some pending)) holds = holds

  pub settled_so : (world : Whole) (disks : List (Pair D)) → IsWorld world → ArePairsOf keep disk world.members disks
      → IsSettled keep disk world disks
  settled_so world disks sound own = record {
    sound = sound;
    holds = λ told r member pair is is_pair.
        let of = own.each r member pair is is_pair in
        holds_latest of.0 pair member.replica.saved member.state (of.1.holds told);
  }

-- what a command that is no pull does touches no other pairs
pub touches_others : {K D : Type 0} {keep : Keep K} {disk : Disk D} {before after : Whole} {old new : List (Pair D)}
    → Touches keep disk before after old new → OthersStay (length before.members) old new
touches_others {before = before} {old = old} TouchesNone = others_none (length before.members) old
touches_others {before = before} {old = old} (TouchesOne {by = by} member rests) =
    subst (λ (l : List (Pair _)). OthersStay (length before.members) old l) (sym rests.set)
    (others_one (length before.members) old (by - 1) rests.now (omega (arith, member.at_least, member.at_most)))
touches_others {before = before} {old = old} (WritesOne {by = by} writes) =
    subst (λ (l : List (Pair _)). OthersStay (length before.members) old l) (sym writes.set_pair)
    (others_one (length before.members) old (by - 1) writes.now_pair
    (omega (arith, writes.is.member.at_least, writes.is.member.at_most)))
