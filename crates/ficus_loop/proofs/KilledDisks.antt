-- What is left of the disks of a run that was killed between two neighbours of its trail keeps one history.
use Rattle.std.proofs.Common.{◌≡◌, ◌≢◌, ℕ, ◌+◌, ◌-◌, ◌≤◌, List, [], ◌∷◌, ◌++◌, length, Option, Some, None, zero, suc, sym, ap, subst, ◌∙◌, inl, inr, ◌⊎◌, ⊎_elim, append_assoc, arith}
use Rattle.std.specs.Prelude.{slice_get}
use Rattle.std.proofs.lemmas.Bool.{cases_eq}
use Rattle.ficus_disk.specs.declared.disk.Disk.{Ghosts as Disk}
use Rattle.ficus_disk.specs.declared.pair.Pair.{Pair}
use Rattle.ficus_ids.specs.Members.{IsMember}
use Rattle.ficus_keeper.specs.Kept.{Kept, found_in}
use Rattle.ficus_keeper.specs.Pairs.{PairLeft}
use Rattle.ficus_model.specs.declared.event.Event.{Event}
use Rattle.ficus_model.specs.Events.{actor}
use Rattle.ficus_model.specs.Lawful.{IsLawful, Volume}
use Rattle.ficus_runs.specs.ModelWorld.{ModelWorld, Standing, Up, Down}
use Rattle.ficus_runs.specs.Numbered.{IsNumbered}
use Rattle.ficus_runs.proofs.Numbers.{number_exists, number_once}
use Rattle.ficus_runs.proofs.Replaced.{replaced}
use Rattle.ficus_world.specs.Stand.{DisksOutlast}
use Rattle.ficus_opening.specs.Stand.{KeepsOf}
use Rattle.ficus_world.specs.Stand.{KeepsFor}
use Rattle.ficus_loop.specs.Trail.{BeginsSave, KeepsFrom, Neighbours, SomePending, WasLeft}
use Rattle.ficus_loop.specs.Trail.SomePending.{NonePending, With, Without}
use Rattle.ficus_loop.proofs.GoingOn.{goes_on, keeps_later}

abbrev standing_or : Option Standing → Standing
standing_or None = Up
standing_or (Some standing) = standing

abbrev found_or : {D : Type 0} → (List ℕ → List ℕ → Option Kept) → (D → List ℕ) → Option (Pair D) → Option Kept
found_or kept seen None = None
found_or kept seen (Some pair) = found_in kept seen pair

-- what another member does leaves what is kept
keeps_other : (volume : Volume) (H : List Event) (r : ℕ) (found : Option Kept) (event : Event) (standing : Standing)
    → actor event ≢ r → KeepsFor volume H r found standing → KeepsFor volume (H ++ event ∷ []) r found standing
keeps_other volume H r found event Up other keeps = keeps_later volume H r found (event ∷ []) (other, tt) keeps
keeps_other volume H r found event (Down None) other keeps =
    keeps_later volume H r found (event ∷ []) (other, tt) keeps
keeps_other volume H r found event (Down (Some waits)) other (inl keeps) =
    inl (keeps_later volume H r found (event ∷ []) (other, tt) keeps)
keeps_other volume H r found event (Down (Some waits)) other (inr keeps) = inr (record {
  saved = keeps.saved;
  fits = keeps.fits;
  holds = keeps.holds;
  own = keeps.own;
  follows = λ later others lawful.
      let assoc : (H ++ event ∷ []) ++ later ≡ H ++ (event ∷ later) = append_assoc H (event ∷ []) later in
      let after = keeps.follows (event ∷ later) (other, others) (subst (IsLawful volume) assoc lawful) in
      rw assoc after;
})

-- what is pending, however that is said of the members
pending_as : {IsPending Is : ℕ → Event → Type 0} {members count : ℕ} {more : List Event}
    → ((r : ℕ) → IsMember members r → (event : Event) → IsPending r event → Is r event) → count ≤ members
    → SomePending IsPending count more → SomePending Is count more
pending_as so within NonePending = NonePending
pending_as so within (Without some) = Without (pending_as so (omega (arith, within)) some)
pending_as so within (With {count = count} {event = event} some waits) =
    With (pending_as so (omega (arith, within)) some)
    (so (count + 1) (record { at_least = omega arith; at_most = within }) event waits)

-- it keeps one lawful history for all members, which goes on from this one by some of what is pending
pub record KeepsOneFrom (volume : Volume) (H : List Event) (IsPending : ℕ → Event → Type 0) (found : ℕ → Option Kept) :
    Type 0 where
  pub more : List Event
  pub pending : SomePending IsPending volume.members more
  pub few : length more ≤ volume.members
  pub lawful : IsLawful volume (H ++ more)
  pub each : (r : ℕ) → IsMember volume.members r → KeepsOf volume (H ++ more) r (found r)

module _ (volume : Volume) (V U : ModelWorld) (lawful : IsLawful volume V.events) (lawful_too : IsLawful volume U.events)
    (found : ℕ → Option Kept) (was now : ℕ → Standing)
    (at : (r : ℕ) → IsMember volume.members r → IsNumbered V.standings r (was r))
    (at_too : (r : ℕ) → IsMember volume.members r → IsNumbered U.standings r (now r))
    (each : (r : ℕ) → IsMember volume.members r → KeepsFor volume V.events r (found r) (was r)
    ⊎ (BeginsSave V U r × KeepsFor volume U.events r (found r) (now r))) where
  from_one : (H : List Event) → IsLawful volume H → (standing : ℕ → Standing)
      → ((r : ℕ) → IsMember volume.members r → KeepsFor volume H r (found r) (standing r))
      → KeepsOneFrom volume H (λ r event. standing r ≡ Down (Some event)) found
  from_one H along standing keeps =
      let on = goes_on volume H along found standing keeps in
      record {
        more = on.more;
        pending = on.pending;
        few = on.few;
        lawful = on.lawful_on;
        each = λ r member. on.each r member.at_least member.at_most;
      }

  -- where a save was begun, and what it saves is kept, all keep what is so after it
  after_save : (by : ℕ) → BeginsSave V U by → KeepsFor volume U.events by (found by) (now by)
      → (s : ℕ) → IsMember volume.members s → KeepsFor volume U.events s (found s) (now s)
  after_save by begins kept s member =
      ⊎_elim (λ same. subst (λ n. KeepsFor volume U.events n (found n) (now n)) (sym same) kept)
      (λ differs. ⊎_elim (λ before. other differs before) (λ after. after.1) (each s member)) (cases_eq s by)
    where
      other : s ≢ by → KeepsFor volume V.events s (found s) (was s) → KeepsFor volume U.events s (found s) (now s)
      other differs before =
          ⊎_elim
          (λ done.
          let stood : now s ≡ was s =
          number_once (subst (λ (l : List Standing). IsNumbered l s (now s)) done.1 (at_too s member)) (at s member) in
          let apart : actor begins.event ≢ s = λ same. differs (sym same ∙ begins.own) in
          subst (λ (H : List Event). KeepsFor volume H s (found s) (now s)) (sym done.0)
          (subst (λ (standing : Standing). KeepsFor volume (V.events ++ begins.event ∷ []) s (found s) standing)
          (sym stood) (keeps_other volume V.events s (found s) begins.event (was s) apart before)))
          (λ failed.
          let stood : now s ≡ was s =
          ⊎_elim (λ here. absurd (differs here.0)) (λ there. number_once there.1 (at s member))
          (replaced V.standings by s (Down (Some begins.event)) (now s) begins.up.member.at_least
          (subst (λ (l : List Standing). IsNumbered l s (now s)) failed.1 (at_too s member))) in
          subst (λ (H : List Event). KeepsFor volume H s (found s) (now s)) (sym failed.0)
          (subst (λ (standing : Standing). KeepsFor volume V.events s (found s) standing) (sym stood) before)) begins.so

  -- of the members up to this one all keep what was so before, or one keeps what it saves
  up_to : (count : ℕ) → count ≤ volume.members
      → ((r : ℕ) → IsMember volume.members r → r ≤ count → KeepsFor volume V.events r (found r) (was r))
      ⊎ ((by : ℕ) × BeginsSave V U by × KeepsFor volume U.events by (found by) (now by))
  up_to zero within = inl (λ r member below. absurd (omega (arith, below, member.at_least)))
  up_to (suc count) within =
      ⊎_elim
      (λ all.
      let member : IsMember volume.members (suc count) = record { at_least = omega arith; at_most = within } in
      ⊎_elim
      (λ before. inl (λ r is below. ⊎_elim
      (λ same. subst (λ n. KeepsFor volume V.events n (found n) (was n)) (sym same) before)
      (λ differs. all r is (omega (arith, below, differs))) (cases_eq r (suc count))))
      (λ after. inr (suc count, after.0, after.1)) (each (suc count) member))
      (λ one. inr one) (up_to count (omega (arith, within)))

  -- what is left keeps one history for all: what was so before, or, where a save was begun, what is so after it; and
  -- some of what was pending
  pub killed_keeps : KeepsOneFrom volume V.events (λ r event. was r ≡ Down (Some event)) found
      ⊎ ((by : ℕ) × BeginsSave V U by × KeepsOneFrom volume U.events (λ r event. now r ≡ Down (Some event)) found)
  killed_keeps =
      ⊎_elim
      (λ all. inl (from_one V.events lawful was (λ r member. all r member member.at_most)))
      (λ one. inr (one.0, one.1, from_one U.events lawful_too now (after_save one.0 one.1 one.2)))
      (up_to volume.members (omega arith))

module _ {D : Type 0} (kept : List ℕ → List ℕ → Option Kept) (disk : Disk D) (volume : Volume) (V U : ModelWorld)
    (old new left : List (Pair D)) (told : disk.tells) (moments : disk.tells_moments)
    (lawful : IsLawful volume V.events) (lawful_too : IsLawful volume U.events)
    (standings : length V.standings ≡ volume.members) (standings_too : length U.standings ≡ volume.members)
    (pairs : volume.members ≤ length old) (count : length left ≡ length old)
    (neighbours : Neighbours kept disk volume V U old new)
    (was_left : (r : ℕ) (was now found : Pair D) → IsNumbered old r was → IsNumbered new r now
    → IsNumbered left r found → WasLeft disk was now found) where
  -- the standing and what is found of a member, of each number
  stood : (list : List Standing) → ℕ → Standing
  stood list r = standing_or (slice_get list (r - 1))

  is_stood : (list : List Standing) → length list ≡ volume.members → (r : ℕ) → IsMember volume.members r
      → IsNumbered list r (stood list r)
  unfolding stood
  is_stood list as_many r member =
      let here = number_exists list r (subst (λ n. IsMember n r) (sym as_many) member) in
      let read : stood list r ≡ here.0 = ap standing_or here.1.is in
      subst (λ (s : Standing). IsNumbered list r s) (sym read) here.1

  found : ℕ → Option Kept
  found r = found_or kept disk.seen (slice_get left (r - 1))

  found_is : (r : ℕ) (pair : Pair D) → IsNumbered left r pair → found r ≡ found_in kept disk.seen pair
  unfolding found
  found_is r pair is = ap (λ (p : Option (Pair D)). found_or kept disk.seen p) is.is

  each_found : (r : ℕ) → IsMember volume.members r → KeepsFor volume V.events r (found r) (stood V.standings r)
      ⊎ (BeginsSave V U r × KeepsFor volume U.events r (found r) (stood U.standings r))
  each_found r member =
      let within : IsMember (length old) r =
      record { at_least = member.at_least; at_most = omega (arith, member.at_most, pairs) } in
      let was = number_exists old r within in
      let now = number_exists new r (subst (λ n. IsMember n r) (sym neighbours.count) within) in
      let pair = number_exists left r (subst (λ n. IsMember n r) (sym count) within) in
      let images = was_left r was.0 now.0 pair.0 was.1 now.1 pair.1 in
      let between = neighbours.each r was.0 now.0 was.1 now.1 in
      subst (λ (k : Option Kept). KeepsFor volume V.events r k (stood V.standings r)
      ⊎ (BeginsSave V U r × KeepsFor volume U.events r k (stood U.standings r))) (sym (found_is r pair.0 pair.1))
      (between.keeps told moments (stood V.standings r) (stood U.standings r)
      (is_stood V.standings standings r member) (is_stood U.standings standings_too r member)
      (disk.seen pair.0.a) (disk.seen pair.0.b) images.a images.b)

  keeps_from : (W : ModelWorld) → length W.standings ≡ volume.members
      → KeepsOneFrom volume W.events (λ r event. stood W.standings r ≡ Down (Some event)) found
      → KeepsFrom kept disk.seen volume W left
  keeps_from W as_many one = record {
    more = one.more;
    pending = pending_as (λ r member event waits. subst (λ (s : Standing). IsNumbered W.standings r s) waits
        (is_stood W.standings as_many r member)) (omega arith) one.pending;
    few = one.few;
    lawful = one.lawful;
    keeps = record {
      each = λ r pair at member.
          subst (λ (k : Option Kept). KeepsOf volume (W.events ++ one.more) r k) (found_is r pair at) (one.each r member);
    };
  }

  pub killed_disks : KeepsFrom kept disk.seen volume V left
      ⊎ ((by : ℕ) × BeginsSave V U by × KeepsFrom kept disk.seen volume U left)
  killed_disks =
      ⊎_elim (λ before. inl (keeps_from V standings before))
      (λ after. inr (after.0, after.1, keeps_from U standings_too after.2))
      (killed_keeps volume V U lawful lawful_too found (stood V.standings) (stood U.standings)
      (is_stood V.standings standings) (is_stood U.standings standings_too) each_found)

-- what a crash leaves of the disks of a world keeps one history too
module _ {D : Type 0} (kept : List ℕ → List ℕ → Option Kept) (seen : D → List ℕ) (may_leave : D → List ℕ → Type 0)
    (volume : Volume) (W : ModelWorld) (disks left : List (Pair D)) (lawful : IsLawful volume W.events)
    (standings : length W.standings ≡ volume.members) (pairs : volume.members ≤ length disks)
    (count : length left ≡ length disks) (outlast : DisksOutlast kept may_leave volume W disks)
    (was_left : (r : ℕ) (was now : Pair D) → IsNumbered disks r was → IsNumbered left r now
    → PairLeft seen may_leave was now) where
  standing_at : ℕ → Standing
  standing_at r = standing_or (slice_get W.standings (r - 1))

  is_at : (r : ℕ) → IsMember volume.members r → IsNumbered W.standings r (standing_at r)
  unfolding standing_at
  is_at r member =
      let here = number_exists W.standings r (subst (λ n. IsMember n r) (sym standings) member) in
      let read : standing_at r ≡ here.0 = ap standing_or here.1.is in
      subst (λ (s : Standing). IsNumbered W.standings r s) (sym read) here.1

  left_at : ℕ → Option Kept
  left_at r = found_or kept seen (slice_get left (r - 1))

  left_is : (r : ℕ) (pair : Pair D) → IsNumbered left r pair → left_at r ≡ found_in kept seen pair
  unfolding left_at
  left_is r pair is = ap (λ (p : Option (Pair D)). found_or kept seen p) is.is

  each_left : (r : ℕ) → IsMember volume.members r → KeepsFor volume W.events r (left_at r) (standing_at r)
  each_left r member =
      let within : IsMember (length disks) r =
      record { at_least = member.at_least; at_most = omega (arith, member.at_most, pairs) } in
      let was = number_exists disks r within in
      let now = number_exists left r (subst (λ n. IsMember n r) (sym count) within) in
      let images = was_left r was.0 now.0 was.1 now.1 in
      subst (λ (k : Option Kept). KeepsFor volume W.events r k (standing_at r)) (sym (left_is r now.0 now.1))
      (outlast.each r was.0 (standing_at r) was.1 (is_at r member) (seen now.0.a) (seen now.0.b) images.a images.b)

  pub left_disks : KeepsFrom kept seen volume W left
  left_disks =
      let on = goes_on volume W.events lawful left_at standing_at each_left in
      record {
        more = on.more;
        pending = pending_as (λ r member event waits. subst (λ (s : Standing). IsNumbered W.standings r s) waits
            (is_at r member)) (omega arith) on.pending;
        few = on.few;
        lawful = on.lawful_on;
        keeps = record {
          each = λ r pair at member.
              subst (λ (k : Option Kept). KeepsOf volume (W.events ++ on.more) r k) (left_is r pair at)
              (on.each r member.at_least member.at_most);
        };
      }
