-- What becomes of the fuses of the members' disks.
use Rattle.std.proofs.Common.{◌≡◌, ◌≢◌, ℕ, ◌+◌, ◌-◌, ◌≤◌, Bool, true, false, List, [], ◌∷◌, ◌++◌, length, Option, Some, None, Result, Ok, Err, is_ok, refl, sym, ap, ap₂, subst, ◌∙◌, inl, inr, ◌⊎◌, eq-eqb, arith}
use Rattle.std.specs.Prelude.{if◌then◌else◌, slice_set}
use Rattle.std.proofs.lemmas.Bool.{cases_eq, ne_eqb}
use Rattle.ficus_disk.specs.Fuse.{armed, numbered, pick_of}
use Rattle.ficus_disk.specs.declared.disk.Disk.{Ghosts as Disk}
use Rattle.ficus_disk.specs.declared.pair.Pair.{Pair}
use Rattle.ficus_ids.specs.Members.{IsMember}
use Rattle.ficus_keeper.specs.Fuses.{Fuses, Reopens, SameFuses, StaysRegular, IsRegularIn, found_again, fuses_of, lasts, on_side}
use Rattle.ficus_keeper.specs.Kept.{Kept, found_in}
use Rattle.ficus_keeper.specs.Pairs.{PairWithin}
use Rattle.ficus_keeper.specs.declared.keep.Keep.{Ghosts as Keep}
use Rattle.ficus_durable_state.specs.declared.saved.Saved.{Saved}
use Rattle.ficus_stable_storage.specs.Fuses.{DecidedByFuses}
use Rattle.ficus_stable_storage.specs.Leads.Holds.{Holds, OneHeld}
use Rattle.ficus_stable_storage.proofs.leads.Led.{held_generation}
use Rattle.ficus_runs.specs.Fuses.{FuseState, FusesAllow, FusesAllowAll, Keeping, after_arming, after_failing, after_outcome, after_outcomes, after_saving, next_calls, next_fuse, with_fuses}
use Rattle.ficus_runs.specs.Numbered.{IsNumbered}
use Rattle.ficus_runs.specs.Outcome.{Outcome, IsArmed, IsFound, IsOpened, IsSaved, SaveFails}
use Rattle.ficus_opening.specs.declared.member.Member.{Member}
use Rattle.ficus_opening.specs.declared.member.MemberState.{MemberState}
use Rattle.ficus_opening.specs.declared.member.MemberState.TheVariants.{Up, Down}
use Rattle.ficus_opening.specs.declared.member.Pending.{Pending}
use Rattle.ficus_world.specs.Disks.{DisksComeTo, IsReadAt, SavesAt, save_outcome}
use Rattle.ficus_world.specs.Fuses.{FuseStands, FusesFollow, FusesPermit, FusesStand, IsReadBy, StandsSo, at_rest, keeping_of}
use Rattle.ficus_world.specs.Moves.{restarted}
use Rattle.ficus_world.specs.World.{IsPendingSound, IsSoundMember}
use Rattle.ficus_runs.proofs.Numbers.{number_exists}
use Rattle.ficus_world.proofs.Disks.{OthersStay, follows_then, others_set, set_here}

-- the fuses allow what they allow one after the other
pub allow_then : (keeping : Keeping) (F : ℕ → FuseState) (one other : List Outcome) → FusesAllowAll keeping F one
    → FusesAllowAll keeping (after_outcomes keeping F one) other → FusesAllowAll keeping F (one ++ other)
allow_then keeping F [] other first second = second
allow_then keeping F (outcome ∷ one) other first second =
    (first.0, allow_then keeping (after_outcome keeping F outcome) one other first.1 second)

-- and stand as it leaves them
pub after_then : (keeping : Keeping) (F : ℕ → FuseState) (one other : List Outcome)
    → after_outcomes keeping F (one ++ other) ≡ after_outcomes keeping (after_outcomes keeping F one) other
after_then keeping F [] other = refl
after_then keeping F (outcome ∷ one) other = after_then keeping (after_outcome keeping F outcome) one other

-- the fuses of the others stay
others_as_were : (F : ℕ → FuseState) (by : ℕ) (state : FuseState) (r : ℕ) → by ≢ r → with_fuses F by state r ≡ F r
others_as_were F by state r differs = rw (ne_eqb by r differs)

here_so : (F : ℕ → FuseState) (by : ℕ) (state : FuseState) → with_fuses F by state by ≡ state
here_so F by state = rw (eq-eqb by by refl)

-- two things that are held are of one generation
pub same_generation : (found : Option Kept) (m n : Saved) → Holds found m → Holds found n
    → m.generation ≡ n.generation
same_generation found m n holds also =
    let kept : Kept = record {
      generation = holds.base.generation;
      image = holds.image;
      records = holds.records;
    } in
    sym (held_generation kept m (subst (λ k. Holds k m) holds.is holds))
    ∙ held_generation kept n (subst (λ k. Holds k n) holds.is also)

module _ {K D : Type 0} {keep : Keep K} {disk : Disk D} where
  -- nothing is allowed always
  pub permit_none : {members : List Member} {x : List (Pair D)} → FusesPermit keep disk [] members x
  permit_none = record { all = λ fused told F stand. tt }

  -- one thing after the other
  pub permit_then : {one other : List Outcome} {old new : List Member} {x y : List (Pair D)}
      → FusesFollow keep disk one old new x y → FusesPermit keep disk other new y
      → FusesPermit keep disk (one ++ other) old x
  permit_then {one} {other} first second = record {
    all = λ fused told F stand.
        allow_then (keeping_of keep) F one other (first.permit.all fused told F stand)
        (second.all fused told (after_outcomes (keeping_of keep) F one) (first.stand fused told F stand));
  }

  pub fuses_then : {one other : List Outcome} {old middle new : List Member} {x y z : List (Pair D)}
      → FusesFollow keep disk one old middle x y → FusesFollow keep disk other middle new y z
      → FusesFollow keep disk (one ++ other) old new x z
  fuses_then {one} {other} {old} {middle} {new} {x} {y} {z} first second = record {
    permit = permit_then first second.permit;
    stand = λ fused told F stand.
        subst (λ G. FusesStand keep disk G new z) (sym (after_then (keeping_of keep) F one other))
        (second.stand fused told (after_outcomes (keeping_of keep) F one) (first.stand fused told F stand));
  }

  -- what leaves all as it is
  pub fuses_stay : {members : List Member} {x y : List (Pair D)}
      → (disk.tells_fuse → disk.tells → (F : ℕ → FuseState) → FusesStand keep disk F members x
      → FusesStand keep disk F members y) → FusesFollow keep disk [] members members x y
  fuses_stay stays = record { permit = permit_none; stand = stays }

  -- what leaves the world and its disks as they are
  pub fuses_none : {members : List Member} {x : List (Pair D)} → FusesFollow keep disk [] members members x x
  fuses_none = fuses_stay (λ fused told F stand. stand)

  -- the disks, and their fuses, one thing after the other
  pub comes_then : {one other : List Outcome} {old middle new : List Member} {x y z : List (Pair D)}
      → DisksComeTo keep disk one old middle x y → DisksComeTo keep disk other middle new y z
      → DisksComeTo keep disk (one ++ other) old new x z
  comes_then first second = record {
    disks = follows_then first.disks second.disks;
    fuses = fuses_then first.fuses second.fuses;
  }

  -- where only one member and its pair change, it is enough that its fuses stand
  pub fuses_moved : (by : ℕ) {F G : ℕ → FuseState} {old new : List Member} {x y : List (Pair D)}
      → ((r : ℕ) → by ≢ r → G r ≡ F r) → OthersStay by old new → OthersStay by x y
      → FusesStand keep disk F old x
      → ((member : Member) (pair : Pair D) → IsNumbered new by member → IsNumbered y by pair
      → FuseStands keep disk (G by) member pair) → FusesStand keep disk G new y
  fuses_moved by {F} {G} {old} {new} {x} {y} others members pairs stand here = record {
    each = λ r member pair is is_pair. go r member pair is is_pair (cases_eq r by);
  }
    where
      go : (r : ℕ) (member : Member) (pair : Pair D) → IsNumbered new r member → IsNumbered y r pair
          → (r ≡ by) ⊎ (r ≢ by) → FuseStands keep disk (G r) member pair
      go r member pair is is_pair (inl same) =
          subst (λ n. FuseStands keep disk (G n) member pair) (sym same)
          (here member pair (subst (λ n. IsNumbered new n member) same is)
          (subst (λ n. IsNumbered y n pair) same is_pair))
      go r member pair is is_pair (inr differs) =
          let other : by ≢ r = λ same. differs (sym same) in
          subst (λ state. FuseStands keep disk state member pair) (sym (others r other))
          (stand.each r member pair (members r member other is) (pairs r pair other is_pair))

  -- one member and its pair in the place of others
  pub fuses_set : (by : ℕ) {F : ℕ → FuseState} {members : List Member} {x : List (Pair D)} (state : FuseState)
      (member : Member) (pair : Pair D) → 1 ≤ by → FusesStand keep disk F members x
      → FuseStands keep disk state member pair
      → FusesStand keep disk (with_fuses F by state) (slice_set members (by - 1) member) (slice_set x (by - 1) pair)
  fuses_set by {F} {members} {x} state member pair one stand here =
      fuses_moved by (others_as_were F by state) (others_set by members member one) (others_set by x pair one) stand
      (λ found found_pair is is_pair.
      subst (λ s. FuseStands keep disk s found found_pair) (sym (here_so F by state))
      (subst (λ m. FuseStands keep disk state m found_pair) (sym (set_here by members member found one is))
      (subst (λ p. FuseStands keep disk state member p) (sym (set_here by x pair found_pair one is_pair)) here)))

  -- its pair alone
  pub fuses_set_pair : (by : ℕ) {F G : ℕ → FuseState} {members : List Member} {x : List (Pair D)} (pair : Pair D)
      → 1 ≤ by → ((r : ℕ) → by ≢ r → G r ≡ F r) → FusesStand keep disk F members x
      → ((member : Member) → IsNumbered members by member → FuseStands keep disk (G by) member pair)
      → FusesStand keep disk G members (slice_set x (by - 1) pair)
  fuses_set_pair by {F} {G} {members} {x} pair one others stand here =
      fuses_moved by others (λ r m differs is. is) (others_set by x pair one) stand
      (λ member found_pair is is_pair.
      subst (λ p. FuseStands keep disk (G by) member p) (sym (set_here by x pair found_pair one is_pair))
      (here member is))

module _ {K D : Type 0} (keep : Keep K) (disk : Disk D) where
  -- what a crash leaves of a pair stays regular
  regular_within : (pair now : Pair D) → PairWithin disk.may_leave pair now
      → StaysRegular keep.Regular disk.may_leave pair → StaysRegular keep.Regular disk.may_leave now
  regular_within pair now within regular = record {
    each = λ a b left_a left_b. regular.each a b (within.a a left_a) (within.b b left_b);
  }

  found_same : (pair now : Pair D) → SameFuses disk.image disk.fuse pair now
      → found_again keep.kept disk.image disk.fuse now ≡ found_again keep.kept disk.image disk.fuse pair
  found_same pair now same =
      ap₂ keep.kept
      (same.image_a (pick_of (disk.fuse now.a))
      ∙ ap (λ (f : Fuses). disk.image pair.a (pick_of f.a)) same.fuses)
      (same.image_b (pick_of (disk.fuse now.b))
      ∙ ap (λ (f : Fuses). disk.image pair.b (pick_of f.b)) same.fuses)

  -- a pair that was prepared
  pub stands_still : (state : FuseState) (member : Member) (pair now : Pair D) → PairWithin disk.may_leave pair now
      → SameFuses disk.image disk.fuse pair now → FuseStands keep disk state member pair
      → FuseStands keep disk state member now
  stands_still state member pair now within same stands = record {
    generation = stands.generation;
    regular = regular_within pair now within stands.regular;
    so = subst (λ fuses. StandsSo state fuses (found_again keep.kept disk.image disk.fuse now) member.replica.saved
        member.state) (sym same.fuses)
        (subst (λ found. StandsSo state (fuses_of disk.fuse pair) found member.replica.saved member.state)
        (sym (found_same pair now same)) stands.so);
  }

  -- so the fuses of all stand where one pair was prepared
  pub fuses_prepared : (by : ℕ) (members : List Member) (x : List (Pair D)) (pair now : Pair D)
      → IsNumbered x by pair → PairWithin disk.may_leave pair now
      → (disk.tells_fuse → SameFuses disk.image disk.fuse pair now)
      → FusesFollow keep disk [] members members x (slice_set x (by - 1) now)
  fuses_prepared by members x pair now is_pair within same =
      fuses_stay (λ fused told F stand.
      fuses_set_pair by now is_pair.member.at_least (λ r differs. refl) stand (λ member is.
      stands_still (F by) member pair now within (same fused) (stand.each by member pair is is_pair)))

  -- the fuses of a member that is up
  up_so : (state : FuseState) (member : Member) (pair : Pair D) → member.state ≡ Up
      → FuseStands keep disk state member pair
      → (fuses_of disk.fuse pair ≡ state.fuses) × (state.will_find ≡ false)
  up_so state member pair up stands =
      subst (λ s. StandsSo state (fuses_of disk.fuse pair) (found_again keep.kept disk.image disk.fuse pair)
      member.replica.saved s) up stands.so

  -- whether its next save lasts
  lasts_so : (state : FuseState) (generation : ℕ) (fuses : Fuses) → fuses ≡ state.fuses
      → state.generation + 1 ≡ generation
      → lasts (keep.calls generation) (on_side (keep.is_on_a generation) fuses)
      ≡ lasts (next_calls (keeping_of keep) state) (next_fuse (keeping_of keep) state)
  lasts_so state generation fuses same above =
      rw (same, sym above)

  module _ (state : FuseState) (was now : Member) (pair now_pair : Pair D) (next : Saved) (up : was.state ≡ Up)
      (above : next.generation ≡ was.replica.saved.generation + 1)
      (regular : StaysRegular keep.Regular disk.may_leave now_pair) (stands : FuseStands keep disk state was pair)
    where
      so : (fuses_of disk.fuse pair ≡ state.fuses) × (state.will_find ≡ false)
      so = up_so state was pair up stands

      next_is : state.generation + 1 ≡ next.generation
      next_is = omega (arith, above, stands.generation)

      -- a member that has saved
      pub stands_saved : now.replica.saved ≡ next → now.state ≡ Up
          → DecidedByFuses keep.kept disk.image disk.fuse (keep.calls next.generation) (keep.is_on_a next.generation)
          pair now_pair true was.replica.saved next
          → (lasts (next_calls (keeping_of keep) state) (next_fuse (keeping_of keep) state) ≡ true)
          × FuseStands keep disk (after_saving (keeping_of keep) state) now now_pair
      stands_saved saved still decided = (
        sym (lasts_so state next.generation (fuses_of disk.fuse pair) so.0 next_is) ∙ sym decided.saved,
        record {
          generation = next_is ∙ ap (λ (s : Saved). s.generation) (sym saved);
          regular = regular;
          so = subst (λ s. StandsSo (after_saving (keeping_of keep) state) (fuses_of disk.fuse now_pair)
              (found_again keep.kept disk.image disk.fuse now_pair) now.replica.saved s) (sym still) (
                decided.falls refl
                    ∙ rw (so.0, sym next_is) refl,
                so.1,
              );
        },
      )

      -- one that has failed to
      pub stands_failed : (pending : Pending) → now.replica.saved ≡ was.replica.saved
          → now.state ≡ Down (Some pending) → pending.replica.saved ≡ next
          → DecidedByFuses keep.kept disk.image disk.fuse (keep.calls next.generation) (keep.is_on_a next.generation)
          pair now_pair false was.replica.saved next
          → (lasts (next_calls (keeping_of keep) state) (next_fuse (keeping_of keep) state) ≡ false)
          × FuseStands keep disk (after_failing (keeping_of keep) state) now now_pair
      stands_failed pending saved down of_next decided = (
        sym (lasts_so state next.generation (fuses_of disk.fuse pair) so.0 next_is) ∙ sym decided.saved,
        record {
          generation = stands.generation ∙ ap (λ (s : Saved). s.generation) (sym saved);
          regular = regular;
          so = subst (λ s. StandsSo (after_failing (keeping_of keep) state) (fuses_of disk.fuse now_pair)
              (found_again keep.kept disk.image disk.fuse now_pair) now.replica.saved s) (sym down)
              (rw (saved, of_next, next_is, sym so.0) (decided.found refl));
        },
      )

  -- where one thing came of the disks of one member, it is enough what it makes of its fuses
  follows_one : (by : ℕ) (outcome : Outcome) (after : FuseState → FuseState) {old : List Member} {x : List (Pair D)}
      (now : Member) (now_pair : Pair D) → 1 ≤ by
      → ((F : ℕ → FuseState) → after_outcome (keeping_of keep) F outcome ≡ with_fuses F by (after (F by)))
      → (disk.tells_fuse → disk.tells → (F : ℕ → FuseState) → FusesStand keep disk F old x
      → FusesAllow (keeping_of keep) F outcome × FuseStands keep disk (after (F by)) now now_pair)
      → FusesFollow keep disk (outcome ∷ []) old (slice_set old (by - 1) now) x (slice_set x (by - 1) now_pair)
  follows_one by outcome after {old} {x} now now_pair one is here = record {
    permit = record { all = λ fused told F stand. ((here fused told F stand).0, tt) };
    stand = λ fused told F stand.
        subst (λ G. FusesStand keep disk G (slice_set old (by - 1) now) (slice_set x (by - 1) now_pair)) (sym (is F))
        (fuses_set by (after (F by)) now now_pair one stand (here fused told F stand).1);
  }

  -- what a read gives of a pair that stays regular is so
  regular_now : (pair : Pair D) → (disk.tells → (d : D) → disk.may_leave d (disk.seen d)) → disk.tells
      → StaysRegular keep.Regular disk.may_leave pair → IsRegularIn keep.Regular disk.seen pair
  regular_now pair left told stays =
      stays.each (disk.seen pair.a) (disk.seen pair.b) (left told pair.a) (left told pair.b)

  -- the fuses of the disks of all, where one member has saved, or failed to
  module _ (by : ℕ) (next : Saved) {old new : List Member} {x : List (Pair D)} (pair now_pair : Pair D)
      (is_pair : IsNumbered x by pair) (left : disk.tells → (d : D) → disk.may_leave d (disk.seen d))
      (regular : disk.tells → StaysRegular keep.Regular disk.may_leave pair
      → StaysRegular keep.Regular disk.may_leave now_pair) where
    pub fuses_saved : {T E : Type 0} (result : Result T E) (saves : SavesAt by next result old new)
        → (disk.tells → next.generation ≡ saves.was.replica.saved.generation + 1)
        → (disk.tells_fuse → disk.tells → IsRegularIn keep.Regular disk.seen pair
        → DecidedByFuses keep.kept disk.image disk.fuse (keep.calls next.generation) (keep.is_on_a next.generation)
        pair now_pair (is_ok result) saves.was.replica.saved next)
        → FusesFollow keep disk (save_outcome by result ∷ []) old new x (slice_set x (by - 1) now_pair)
    fuses_saved (Ok done) saves above decided =
        subst (λ members. FusesFollow keep disk (IsSaved by ∷ []) old members x (slice_set x (by - 1) now_pair))
        (sym saves.set)
        (follows_one by (IsSaved by) (after_saving (keeping_of keep)) saves.now now_pair is_pair.member.at_least
        (λ F. refl) (λ fused told F stand.
        let stands = stand.each by saves.was pair saves.is is_pair in
        stands_saved (F by) saves.was saves.now pair now_pair next saves.up (above told) (regular told stands.regular)
        stands saves.after.0 saves.after.1 (decided fused told (regular_now pair left told stands.regular))))
    fuses_saved (Err failed) saves above decided =
        subst (λ members. FusesFollow keep disk (SaveFails by ∷ []) old members x (slice_set x (by - 1) now_pair))
        (sym saves.set)
        (follows_one by (SaveFails by) (after_failing (keeping_of keep)) saves.now now_pair is_pair.member.at_least
        (λ F. refl) (λ fused told F stand.
        let stands = stand.each by saves.was pair saves.is is_pair in
        stands_failed (F by) saves.was saves.now pair now_pair next saves.up (above told) (regular told stands.regular)
        stands saves.after.2 saves.after.0 saves.after.3 saves.after.4
        (decided fused told (regular_now pair left told stands.regular))))

  -- a member that is up and was armed
  stands_armed : (state : FuseState) (member : Member) (pair now : Pair D) (calls pick : ℕ) → member.state ≡ Up
      → PairWithin disk.may_leave pair now → disk.fuse now.a ≡ armed calls (numbered pick) (disk.fuse pair.a)
      → disk.fuse now.b ≡ armed calls (numbered pick) (disk.fuse pair.b) → FuseStands keep disk state member pair
      → FuseStands keep disk (after_arming calls pick state) member now
  stands_armed state member pair now calls pick up within armed_a armed_b stands =
      let so = up_so state member pair up stands in
      record {
        generation = stands.generation;
        regular = regular_within pair now within stands.regular;
        so = subst (λ s. StandsSo (after_arming calls pick state) (fuses_of disk.fuse now)
            (found_again keep.kept disk.image disk.fuse now) member.replica.saved s) (sym up) (
              rw (armed_a, armed_b, sym so.0) refl,
              so.1,
            );
      }

  pub fuses_armed : (by calls pick : ℕ) (members : List Member) (x : List (Pair D)) (pair now : Pair D)
      → IsNumbered x by pair → ((was : Member) → IsNumbered members by was → was.state ≡ Up)
      → PairWithin disk.may_leave pair now
      → (disk.tells_fuse → disk.fuse now.a ≡ armed calls (numbered pick) (disk.fuse pair.a))
      → (disk.tells_fuse → disk.fuse now.b ≡ armed calls (numbered pick) (disk.fuse pair.b))
      → FusesFollow keep disk (IsArmed by calls pick ∷ []) members members x (slice_set x (by - 1) now)
  fuses_armed by calls pick members x pair now is_pair up within armed_a armed_b = record {
    permit = record { all = λ fused told F stand. (tt, tt) };
    stand = λ fused told F stand.
        fuses_set_pair by now is_pair.member.at_least (others_as_were F by (after_arming calls pick (F by))) stand
        (λ member is.
        subst (λ s. FuseStands keep disk s member now) (sym (here_so F by (after_arming calls pick (F by))))
        (stands_armed (F by) member pair now calls pick (up member is) within (armed_a fused) (armed_b fused)
        (stand.each by member pair is is_pair)));
  }

  -- the fuses of a member whose disks were opened again
  stands_reopened : (state : FuseState) (was : Member) (pair now : Pair D) (read : Saved)
      → PairWithin disk.may_leave pair now → Reopens disk.seen disk.image disk.fuse pair now
      → FuseStands keep disk state was pair
      → FuseStands keep disk (at_rest read.generation) (restarted was read) now
  stands_reopened state was pair now read within reopens stands = record {
    generation = refl;
    regular = regular_within pair now within stands.regular;
    so = (reopens.fuses, refl);
  }

  -- what is read of it is what its fuses say
  module _ (held_once : OneHeld) (was : Member) (found : Option Kept) (read : Saved) (holds : Holds found read)
      (read_at : IsReadAt was (Ok read)) where
    either_read : (pending : Pending) → was.state ≡ Down (Some pending) → (will_find : Bool)
        → Holds found (if will_find then pending.replica.saved else was.replica.saved) → IsReadBy will_find was read
    either_read pending down true held = (pending, down, held_once found read pending.replica.saved holds held)
    either_read pending down false held = held_once found read was.replica.saved holds held

    read_as_found : (state : FuseState) (fuses : Fuses) (now : MemberState) → was.state ≡ now
        → StandsSo state fuses found was.replica.saved now → IsReadBy state.will_find was read
    read_as_found state fuses Up up so =
        subst (λ will_find. IsReadBy will_find was read) (sym so.1)
        (elim read_at [ inl same ↦ same | inr (pending, down, same) ↦ absurd (cc) ])
    read_as_found state fuses (Down None) down so =
        subst (λ will_find. IsReadBy will_find was read) (sym so.1)
        (held_once found read was.replica.saved holds so.0)
    read_as_found state fuses (Down (Some pending)) down so = either_read pending down state.will_find so

  pub fuses_read : OneHeld → (by : ℕ) (members : List Member) (x : List (Pair D)) (was : Member) (pair now : Pair D)
      (read : Saved) (F : ℕ → FuseState) → IsNumbered members by was → IsNumbered x by pair
      → Holds (found_in keep.kept disk.seen now) read → IsReadAt was (Ok read) → PairWithin disk.may_leave pair now
      → Reopens disk.seen disk.image disk.fuse pair now → FusesStand keep disk F members x
      → IsReadBy (F by).will_find was read × FusesStand keep disk (with_fuses F by (at_rest read.generation))
      (slice_set members (by - 1) (restarted was read)) (slice_set x (by - 1) now)
  fuses_read held_once by members x was pair now read F is is_pair holds read_at within reopens stand =
      let stands = stand.each by was pair is is_pair in (
        read_as_found held_once was (found_again keep.kept disk.image disk.fuse pair) read
            (subst (λ found. Holds found read) (ap₂ keep.kept reopens.a reopens.b) holds) read_at (F by)
            (fuses_of disk.fuse pair) was.state refl stands.so,
        fuses_set by (at_rest read.generation) (restarted was read) now is_pair.member.at_least stand
            (stands_reopened (F by) was pair now read within reopens stands),
      )

  -- what a restart does to the fuses
  module _ (count events by : ℕ) (members : List Member) (x y : List (Pair D)) (was : Member) (read : Saved)
      (is : IsNumbered members by was) (within : IsMember (length x) by) (sound : IsSoundMember count events by was)
      (reads : disk.tells_fuse → disk.tells → (F : ℕ → FuseState) → FusesStand keep disk F members x
      → IsReadBy (F by).will_find was read × FusesStand keep disk (with_fuses F by (at_rest read.generation))
      (slice_set members (by - 1) (restarted was read)) y) where
    generation_is : (F : ℕ → FuseState) → FusesStand keep disk F members x
        → (F by).generation ≡ was.replica.saved.generation
    generation_is F stand =
        let pair = number_exists x by within in (stand.each by was pair.0 is pair.1).generation

    not_pending : (will_find : Bool) → IsReadBy will_find was read
        → read.generation ≡ was.replica.saved.generation → will_find ≡ false
    not_pending false so same = refl
    not_pending true (pending, down, read_is) same =
        let above = (subst (IsPendingSound count events by was.replica) down sound.pending).1 in
        let so = ap (λ (s : Saved). s.generation) read_is in
        absurd (omega (arith, above, so, same))

    pending_found : (will_find : Bool) → IsReadBy will_find was read
        → read.generation ≡ was.replica.saved.generation + 1 → will_find ≡ true
    pending_found true so same = refl
    pending_found false read_is same =
        let so = ap (λ (s : Saved). s.generation) read_is in absurd (omega (arith, so, same))

    -- it is as it was
    pub fuses_opened : read.generation ≡ was.replica.saved.generation
        → FusesFollow keep disk (IsOpened by ∷ []) members (slice_set members (by - 1) (restarted was read)) x y
    fuses_opened same = record {
      permit = record {
        all = λ fused told F stand. (not_pending (F by).will_find (reads fused told F stand).0 same, tt);
      };
      stand = λ fused told F stand.
          subst (λ n. FusesStand keep disk (with_fuses F by (at_rest n))
          (slice_set members (by - 1) (restarted was read)) y) (same ∙ sym (generation_is F stand))
          (reads fused told F stand).1;
    }

    -- or what was pending has happened
    pub fuses_found : read.generation ≡ was.replica.saved.generation + 1
        → FusesFollow keep disk (IsFound by ∷ []) members (slice_set members (by - 1) (restarted was read)) x y
    fuses_found same = record {
      permit = record {
        all = λ fused told F stand. (pending_found (F by).will_find (reads fused told F stand).0 same, tt);
      };
      stand = λ fused told F stand.
          subst (λ n. FusesStand keep disk (with_fuses F by (at_rest n))
          (slice_set members (by - 1) (restarted was read)) y)
          (same ∙ ap (λ n. n + 1) (sym (generation_is F stand)))
          (reads fused told F stand).1;
    }

  -- the fuses of disks that tell nothing, or of which nothing so comes to be
  pub fuses_never : {outcomes : List Outcome} {old new : List Member} {x y : List (Pair D)}
      → (disk.tells_fuse → disk.tells → ⊥) → FusesFollow keep disk outcomes old new x y
  fuses_never never = record {
    permit = record { all = λ fused told F stand. absurd (never fused told) };
    stand = λ fused told F stand. absurd (never fused told);
  }
