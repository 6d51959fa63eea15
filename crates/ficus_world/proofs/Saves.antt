-- What becomes of a member and its pair, where it is saved, and where its disks are opened again.
use Rattle.std.proofs.Common.{OnErr, ◌≡◌, ◌≢◌, ℕ, ◌+◌, ◌-◌, ◌==◌, Bool, ◌&&◌, is_some, List, [], ◌∷◌, cond, Option, Some, None, Result, Ok, Err, refl, sym, ap₂, subst, ◌∙◌, inl, inr, ◌⊎◌, OnOk, eq-eqb, arith}
use Rattle.std.specs.Prelude.{slice_set}
use Rattle.std.proofs.lemmas.Bool.{ne_eqb}
use Rattle.ficus_disk.specs.declared.disk.Disk.{Ghosts as Disk}
use Rattle.ficus_disk.specs.Fuse.{Arms}
use Rattle.ficus_disk.specs.Pair.{PairRose}
use Rattle.ficus_disk.specs.declared.pair.Pair.{Pair}
use Rattle.ficus_keeper.specs.declared.keep.Keep.{Ghosts as Keep}
use Rattle.ficus_keeper.specs.Kept.{found_in}
use Rattle.ficus_keeper.specs.Pairs.{PairLeft, PairSame, PairWithin}
use Rattle.ficus_keeper.specs.declared.fault.StoreFault.{StoreFault}
use Rattle.ficus_keeper.specs.declared.fault.StoreFault.TheVariants.{Failed, Memory, NoImage}
use Rattle.ficus_durable_state.specs.Saved.{FitsImage}
use Rattle.ficus_durable_state.specs.declared.saved.Saved.{Saved}
use Rattle.ficus_stable_storage.specs.Leads.Holds.{Holds, OneHeld}
use Rattle.ficus_stable_storage.proofs.leads.Led.{held_at}
use Rattle.ficus_stable_storage.specs.Holds.{HoldsOneOf}
use Rattle.ficus_stable_storage.specs.Stable.{IsReady}
use Rattle.ficus_stable_storage.specs.declared.stable.Stable.{Stable}
use Rattle.ficus_stable_storage.proofs.Ready.{still_ready}
use Rattle.ficus_runs.specs.Numbered.{IsNumbered}
use Rattle.ficus_runs.specs.Outcome.{IsArmed, OpeningFails, SaveFails}
use Rattle.ficus_opening.specs.declared.member.Member.{Member}
use Rattle.ficus_opening.specs.declared.member.MemberState.{MemberState}
use Rattle.ficus_opening.specs.declared.member.MemberState.TheVariants.{Up, Down}
use Rattle.ficus_opening.specs.declared.member.Pending.{Pending}
use Rattle.ficus_opening.specs.Disks.{HoldsFor, IsPairOf, are_fused}
use Rattle.ficus_world.specs.Disks.{DisksFollow, DisksPass, DisksStay, IsAfterOpening, IsAfterSave, IsReadAt, ReopensAt, SavesAt, save_outcome}
use Rattle.ficus_wire.specs.Parts.{HeldParts}
use Rattle.ficus_world.specs.World.{IsPendingSound, IsSoundMember}
use Rattle.ficus_world.proofs.Disks.{disks_set, disks_set_pair, follows_at, fused_same, holds_down, holds_still, others_as, same_numbered, set_as}

-- one thing happened to one member's disks
once_here : (by : ℕ) → 0 + cond (by == by) 1 0 ≡ 1
once_here by = rw (eq-eqb by by refl)

once_other : (by r : ℕ) → by ≢ r → 0 + cond (by == r) 1 0 ≡ 0
once_other by r differs = rw (ne_eqb by r differs)

module _ {D : Type 0} {faults : D → ℕ} {armings : D → Option ℕ} {disks : List (Pair D)} (by : ℕ) {pair now : Pair D}
    (is : IsNumbered disks by pair) where
  -- its save failed
  save_failed : PairRose faults 1 pair now → PairSame armings pair now
      → DisksFollow faults armings (SaveFails by ∷ []) disks (slice_set disks (by - 1) now)
  save_failed rose same =
      follows_at by is
      (record { rose = subst (λ n. PairRose faults n pair now) (sym (once_here by)) rose; unarmed = λ none. same })
      (once_other by) (λ r differs. refl)

  -- it was saved, or not
  pub save_follows : {T E : Type 0} (result : Result T E) → PairRose faults 0 pair now → PairSame armings pair now
      → OnErr result (PairRose faults 1 pair now)
      → DisksFollow faults armings (save_outcome by result ∷ []) disks (slice_set disks (by - 1) now)
  save_follows (Ok done) rose same failed =
      follows_at by is (record { rose = rose; unarmed = λ none. same }) (λ r differs. refl) (λ r differs. refl)
  save_follows (Err e) rose same failed = save_failed failed same

  -- its disks couldn't be opened again
  pub opening_failed : PairRose faults 1 pair now → PairSame armings pair now
      → DisksFollow faults armings (OpeningFails by ∷ []) disks (slice_set disks (by - 1) now)
  opening_failed rose same =
      follows_at by is
      (record { rose = subst (λ n. PairRose faults n pair now) (sym (once_here by)) rose; unarmed = λ none. same })
      (once_other by) (λ r differs. refl)

  -- its disks were armed
  pub pair_armed : (calls pick : ℕ) → PairRose faults 0 pair now
      → DisksFollow faults armings (IsArmed by calls pick ∷ []) disks (slice_set disks (by - 1) now)
  pair_armed calls pick rose =
      follows_at by is
      (record { rose = rose; unarmed = λ none. let one = once_here by in absurd (omega (arith, one, none)) })
      (λ r differs. refl) (once_other by)

-- a member holds what it has saved, or is down, with that pending
module _ (by : ℕ) (next : Pending) {old new : List Member} (was : Member) (is : IsNumbered old by was)
    (up : was.state ≡ Up) where
  pub saves_held : {T E : Type 0} (parts : Option HeldParts) (done : T)
      → new ≡ slice_set old (by - 1) (record was { replica = next.replica; parts = parts })
      → SavesAt {T = T} {E = E} by next.replica.saved (Ok done) old new
  saves_held parts done set = record {
    was = was;
    is = is;
    up = up;
    now = record was { replica = next.replica; parts = parts };
    after = (refl, up, refl);
    set = set;
  }

  pub saves_pending : {T E : Type 0} (failed : E)
      → new ≡ slice_set old (by - 1) (record was { state = Down (Some next) })
      → SavesAt {T = T} {E = E} by next.replica.saved (Err failed) old new
  saves_pending failed set = record {
    was = was;
    is = is;
    up = up;
    now = record was { state = Down (Some next) };
    after = (refl, refl, next, refl, refl);
    set = set;
  }

-- a disk that is armed has a fuse as before
arms_fused : (before now : Option ℕ) → Arms before now → is_some now ≡ is_some before
arms_fused None None arms = refl
arms_fused None (Some armed) arms = absurd arms
arms_fused (Some armed) None arms = absurd arms
arms_fused (Some armed) (Some more) arms = refl

-- the pair of a member that is armed
pub armed_fused : {D : Type 0} (armings : D → Option ℕ) (pair now : Pair D) → Arms (armings pair.a) (armings now.a)
    → Arms (armings pair.b) (armings now.b) → are_fused armings now ≡ are_fused armings pair
armed_fused armings pair now arms_a arms_b =
    ap₂ (λ (one other : Bool). one && other) (arms_fused (armings pair.a) (armings now.a) arms_a)
    (arms_fused (armings pair.b) (armings now.b) arms_b)

module _ {K D : Type 0} (keep : Keep K) (disk : Disk D) where
  -- a member that is up has a keeper that is ready
  pub up_ready : (member : Member) (stable : Stable K) (pair : Pair D) → member.state ≡ Up
      → HoldsFor keep disk stable pair member.replica.saved member.state
      → IsReady keep.kept keep.fits disk.seen disk.may_leave stable pair member.replica.saved
  up_ready member stable pair up holds =
      subst (λ state. HoldsFor keep disk stable pair member.replica.saved state) up holds

  -- the pair of a member after a save of it
  pair_saved : {T E : Type 0} (next : Saved) (result : Result T E) (was now : Member) (stable now_stable : Stable K)
      (pair now_pair : Pair D) → PairSame disk.armings pair now_pair
      → (disk.tells → OnOk result (IsReady keep.kept keep.fits disk.seen disk.may_leave now_stable now_pair next))
      → (disk.tells → (saved : Saved) → Holds (found_in keep.kept disk.seen pair) saved
      → HoldsOneOf keep.kept disk.may_leave now_pair (Some saved) (Some next))
      → was.state ≡ Up → IsAfterSave next was result now
      → IsPairOf keep disk was stable pair
      → IsPairOf keep disk now now_stable now_pair
  pair_saved next (Ok done) was now stable now_stable pair now_pair same ready crash up after of = record {
    fused = after.2 ∙ of.fused ∙ sym (fused_same disk.armings same);
    holds = λ told. subst (λ saved. HoldsFor keep disk now_stable now_pair saved now.state)
        (sym after.0) (subst (λ state. HoldsFor keep disk now_stable now_pair next state) (sym after.1)
        (ready told));
  }
  pair_saved next (Err failed) was now stable now_stable pair now_pair same ready crash up after of = record {
    fused = after.1 ∙ of.fused ∙ sym (fused_same disk.armings same);
    holds = λ told.
        let was_ready : IsReady keep.kept keep.fits disk.seen disk.may_leave stable pair was.replica.saved
        = subst (λ state. HoldsFor keep disk stable pair was.replica.saved state) up
        (of.holds told) in
        let left = crash told was.replica.saved was_ready.holds in
        subst (λ saved. HoldsFor keep disk now_stable now_pair saved now.state) (sym after.0)
        (subst (λ state. HoldsFor keep disk now_stable now_pair was.replica.saved state) (sym after.3)
        (subst (λ saved. HoldsOneOf keep.kept disk.may_leave now_pair (Some was.replica.saved) (Some saved)) (sym after.4) left));
  }

  -- the disks of all, where one member has saved, or failed to
  pub disks_saved : {T E : Type 0} (by : ℕ) (next : Saved) (result : Result T E) {stables : List (Stable K)}
      {disks : List (Pair D)} (stable now_stable : Stable K) (pair now_pair : Pair D) → IsNumbered stables by stable
      → IsNumbered disks by pair → PairSame disk.armings pair now_pair
      → (disk.tells → OnOk result (IsReady keep.kept keep.fits disk.seen disk.may_leave now_stable now_pair next))
      → (disk.tells → (saved : Saved) → Holds (found_in keep.kept disk.seen pair) saved
      → HoldsOneOf keep.kept disk.may_leave now_pair (Some saved) (Some next))
      → DisksPass keep disk (SavesAt by next result) stables (slice_set stables (by - 1) now_stable) disks
      (slice_set disks (by - 1) now_pair)
  disks_saved by next result {stables} {disks} stable now_stable pair now_pair is_stable is_pair same ready crash =
      let one = is_pair.member.at_least in
      disks_set by (λ old new saves. others_as saves.now one saves.set) now_stable now_pair one
      (λ old new saves own member is.
      subst (λ z. IsPairOf keep disk z now_stable now_pair) (sym (set_as old saves.now member one saves.set is))
      (pair_saved next result saves.was saves.now stable now_stable pair now_pair same ready crash saves.up
      saves.after (own saves.was stable pair saves.is is_stable is_pair)))

  -- what is ready stays so where a read gives the same
  ready_seen : (stable : Stable K) (pair now_pair : Pair D) (saved : Saved) → PairSame disk.seen pair now_pair
      → PairWithin disk.may_leave pair now_pair → IsReady keep.kept keep.fits disk.seen disk.may_leave stable pair saved
      → IsReady keep.kept keep.fits disk.seen disk.may_leave stable now_pair saved
  ready_seen stable pair now_pair saved same within ready =
      still_ready keep.kept keep.fits disk.seen disk.may_leave stable pair now_pair saved same within ready

  -- and where the pair is opened again
  ready_again : (stable : Stable K) (pair now_pair : Pair D) (saved : Saved) → PairLeft disk.seen disk.may_leave pair now_pair
      → PairWithin disk.may_leave pair now_pair → IsReady keep.kept keep.fits disk.seen disk.may_leave stable pair saved
      → IsReady keep.kept keep.fits disk.seen disk.may_leave stable now_pair saved
  ready_again stable pair now_pair saved left within ready =
      let same : PairSame disk.seen pair now_pair = record {
        a = ready.settled.synced_a (disk.seen now_pair.a) left.a;
        b = ready.settled.synced_b (disk.seen now_pair.b) left.b;
      } in
      ready_seen stable pair now_pair saved same within ready

  -- the pair of a member whose disks were opened again, where something was read
  pair_read : (read : Saved) (was now : Member) (stable now_stable : Stable K) (pair now_pair : Pair D)
      → PairSame disk.armings pair now_pair → PairWithin disk.may_leave pair now_pair
      → (disk.tells → IsReady keep.kept keep.fits disk.seen disk.may_leave now_stable now_pair read) → IsAfterOpening was (Ok read) now
      → IsPairOf keep disk was stable pair
      → IsPairOf keep disk now now_stable now_pair
  pair_read read was now stable now_stable pair now_pair same within ready (inl risen) of =
      subst (λ z. IsPairOf keep disk z now_stable now_pair) (sym risen)
      (record { fused = of.fused ∙ sym (fused_same disk.armings same); holds = ready })
  pair_read read was now stable now_stable pair now_pair same within ready (inr down) of =
      subst (λ z. IsPairOf keep disk z now_stable now_pair) (sym down) (record {
        fused = of.fused ∙ sym (fused_same disk.armings same);
        holds = λ told. holds_down keep disk was.state was.replica.saved stable now_stable pair now_pair
            within (of.holds told);
      })

  -- the same where nothing was read
  pair_not_read : (fault : StoreFault) (was now : Member) (stable : Stable K) (pair now_pair : Pair D)
      → PairSame disk.armings pair now_pair → PairWithin disk.may_leave pair now_pair
      → (disk.tells → PairLeft disk.seen disk.may_leave pair now_pair) → IsAfterOpening was (Err fault) now
      → IsPairOf keep disk was stable pair
      → IsPairOf keep disk now stable now_pair
  pair_not_read fault was now stable pair now_pair same within left (inl as_was) of =
      subst (λ z. IsPairOf keep disk z stable now_pair) (sym as_was) (record {
        fused = of.fused ∙ sym (fused_same disk.armings same);
        holds = λ told. holds_still keep disk was.state was.replica.saved stable stable pair now_pair
            within (ready_again stable pair now_pair was.replica.saved (left told) within) (of.holds told);
      })
  pair_not_read fault was now stable pair now_pair same within left (inr down) of =
      subst (λ z. IsPairOf keep disk z stable now_pair) (sym down) (record {
        fused = of.fused ∙ sym (fused_same disk.armings same);
        holds = λ told. holds_down keep disk was.state was.replica.saved stable stable pair now_pair
            within (of.holds told);
      })

  -- the disks of all, where those of one member were opened again, and something was read
  pub disks_read : (by : ℕ) (read : Saved) {stables : List (Stable K)} {disks : List (Pair D)}
      (stable now_stable : Stable K) (pair now_pair : Pair D) → IsNumbered stables by stable
      → IsNumbered disks by pair → PairSame disk.armings pair now_pair → PairWithin disk.may_leave pair now_pair
      → (disk.tells → IsReady keep.kept keep.fits disk.seen disk.may_leave now_stable now_pair read)
      → DisksPass keep disk (ReopensAt by (Ok read)) stables (slice_set stables (by - 1) now_stable) disks
      (slice_set disks (by - 1) now_pair)
  disks_read by read {stables} {disks} stable now_stable pair now_pair is_stable is_pair same within ready =
      let one = is_pair.member.at_least in
      disks_set by (λ old new reopens. others_as reopens.now one reopens.set) now_stable now_pair one
      (λ old new reopens own member is.
      subst (λ z. IsPairOf keep disk z now_stable now_pair) (sym (set_as old reopens.now member one reopens.set is))
      (pair_read read reopens.was reopens.now stable now_stable pair now_pair same within ready reopens.after
      (own reopens.was stable pair reopens.is is_stable is_pair)))

  -- the same where nothing was read
  pub disks_not_read : (by : ℕ) (fault : StoreFault) {stables : List (Stable K)} {disks : List (Pair D)}
      (pair now_pair : Pair D) → IsNumbered disks by pair → PairSame disk.armings pair now_pair
      → PairWithin disk.may_leave pair now_pair → (disk.tells → PairLeft disk.seen disk.may_leave pair now_pair)
      → DisksPass keep disk (ReopensAt by (Err fault)) stables stables disks (slice_set disks (by - 1) now_pair)
  disks_not_read by fault {stables} {disks} pair now_pair is_pair same within left =
      let one = is_pair.member.at_least in
      disks_set_pair by (λ old new reopens. others_as reopens.now one reopens.set) now_pair one
      (λ old new reopens own member stable is is_stable.
      subst (λ z. IsPairOf keep disk z stable now_pair) (sym (set_as old reopens.now member one reopens.set is))
      (pair_not_read fault reopens.was reopens.now stable pair now_pair same within left reopens.after
      (own reopens.was stable pair reopens.is is_stable is_pair)))

  -- what is held of a member once its disks are opened again: what it had, or what is pending
  held_again : (state : MemberState) (saved : Saved) (stable : Stable K) (pair now_pair : Pair D)
      → PairLeft disk.seen disk.may_leave pair now_pair → HoldsFor keep disk stable pair saved state
      → Holds (found_in keep.kept disk.seen now_pair) saved
      ⊎ ((pending : Pending) × (state ≡ Down (Some pending)) × Holds (found_in keep.kept disk.seen now_pair) pending.replica.saved)
  held_again Up saved stable pair now_pair left holds =
      let same_a = holds.settled.synced_a (disk.seen now_pair.a) left.a in
      let same_b = holds.settled.synced_b (disk.seen now_pair.b) left.b in
      inl (held_at _ _ saved (ap₂ keep.kept same_a same_b) holds.holds)
  held_again (Down None) saved stable pair now_pair left holds =
      elim (holds.each (disk.seen now_pair.a) (disk.seen now_pair.b) left.a left.b) [ inl one ↦ inl one | inr one ↦ inl one ]
  held_again (Down (Some pending)) saved stable pair now_pair left holds =
      elim (holds.each (disk.seen now_pair.a) (disk.seen now_pair.b) left.a left.b) [
        | inl one ↦ inl one
        | inr other ↦ inr (pending, refl, other)
      ]

  -- what is pending at a sound member fits an image
  pending_fits : (count events r : ℕ) (member : Member) (pending : Pending) → member.state ≡ Down (Some pending) → IsSoundMember count events r member →
      FitsImage pending.replica.saved
  pending_fits count events r member pending down sound =
      let pending_sound = subst (λ z. IsPendingSound count events r member.replica z) down sound.pending in
      pending_sound.0.fits

  module _ (held_once : OneHeld) (count events by : ℕ) (was : Member) (sound : IsSoundMember count events by was) (stable : Stable K)
      (pair now_pair : Pair D) (left : PairLeft disk.seen disk.may_leave pair now_pair)
      (holds : HoldsFor keep disk stable pair was.replica.saved was.state) where
    -- what is read of a sound member is what it had, or what is pending
    pub read_is : (read : Saved) → Holds (found_in keep.kept disk.seen now_pair) read → IsReadAt was (Ok read)
    read_is read found =
        elim (held_again was.state was.replica.saved stable pair now_pair left holds) [
          | inl held ↦ inl (held_once (found_in keep.kept disk.seen now_pair) read was.replica.saved found held)
          | inr held ↦ inr (
            held.0,
            held.1,
            held_once (found_in keep.kept disk.seen now_pair) read held.0.replica.saved found held.2,
          )
        ]

    -- and there is an image
    pub some_image : (fault : StoreFault)
        → (fault ≡ NoImage → (saved : Saved) → FitsImage saved → Holds (found_in keep.kept disk.seen now_pair) saved → ⊥)
        → IsReadAt was (Err fault)
    some_image NoImage none =
        elim (held_again was.state was.replica.saved stable pair now_pair left holds) [
          | inl held ↦ none refl was.replica.saved sound.replica.fits held
          | inr held ↦ none refl held.0.replica.saved
              (pending_fits count events by was held.0 held.1 sound) held.2
        ]
    some_image Failed none = tt
    some_image Memory none = tt

  -- the disks of all, where those of one member were armed, and what a read of them gives stays
  pub disks_armed : (by : ℕ) {stables : List (Stable K)} {disks : List (Pair D)} (pair now_pair : Pair D)
      → IsNumbered disks by pair → Arms (disk.armings pair.a) (disk.armings now_pair.a)
      → Arms (disk.armings pair.b) (disk.armings now_pair.b) → (disk.tells → PairSame disk.seen pair now_pair)
      → PairWithin disk.may_leave pair now_pair
      → DisksStay keep disk stables stables disks (slice_set disks (by - 1) now_pair)
  disks_armed by {stables} {disks} pair now_pair is_pair arms_a arms_b same within =
      disks_set_pair by (λ old new stay r x differs is. same_numbered r x stay is) now_pair is_pair.member.at_least
      (λ old new stay own member stable is is_stable.
      let of = own member stable pair (same_numbered by member stay is) is_stable is_pair in
      record {
        fused = of.fused ∙ sym (armed_fused disk.armings pair now_pair arms_a arms_b);
        holds = λ told. holds_still keep disk member.state member.replica.saved stable stable pair now_pair
            within (ready_seen stable pair now_pair member.replica.saved (same told) within) (of.holds told);
      })
