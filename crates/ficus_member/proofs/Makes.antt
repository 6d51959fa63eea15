-- A member is made, one thing after the other.
use Rattle.std.proofs.Common.{◌≡◌, ◌≢◌, ◌⊎◌, ◌↔◌, ℕ, List, [], Bool, Result, Ok, Err, inl, inr, refl, sym, subst, ◌∙◌}
use Rattle.std.proofs.lemmas.Result.{on_ok_weaker}
use Rattle.std.specs.Prelude.{IfErr, IsErrOf, IsTrue, None, OnOk}
use Rattle.ficus_disk.specs.Pair.{PairRose}
use Rattle.ficus_disk.specs.declared.disk.Disk.{Ghosts as Disk}
use Rattle.ficus_disk.specs.declared.pair.Pair.{Pair}
use Rattle.ficus_faults.specs.Faults.{Rose}
use Rattle.ficus_ids.specs.Members.{IsMember}
use Rattle.ficus_keeper.specs.Kept.{found_in}
use Rattle.ficus_keeper.specs.Pairs.{PairSame}
use Rattle.ficus_note.specs.Noted.{HoldsNote}
use Rattle.ficus_opening.specs.Calls.{LooksAt, MakesVolume}
use Rattle.ficus_opening.specs.Check.Judged.{IsEmptyPair}
use Rattle.ficus_opening.specs.Opening.{AreSynced, DisksLooked, IsStoreFault, IsSynced, IsUnfailed, SeenSame}
use Rattle.ficus_opening.specs.Rests.{AllRest, PairRests}
use Rattle.ficus_opening.specs.declared.fault.WorldFault.{WorldFault}
use Rattle.ficus_opening.specs.declared.fault.WorldFault.TheVariants.{Image, Memory, Occupied, Store}
use Rattle.ficus_opening.proofs.Asking.{err_as, on_ok}
use Rattle.ficus_opening.proofs.Faults.{same_err, same_occupied}
use Rattle.ficus_opening.proofs.Rests.{rests_none}
use Rattle.ficus_opening.proofs.Steadies.{fault_behind, rose_from, steady_trans}
use Rattle.ficus_replica.specs.SavedOf.{fresh_saved}
use Rattle.ficus_runs.specs.Numbered.{IsNumbered}
use Rattle.ficus_runs.proofs.Numbers.{number_exists}
use Rattle.ficus_stable_storage.specs.Leads.Holds.{Holds}
use Rattle.ficus_top.specs.Making.{volume_of}
use Rattle.ficus_top.specs.Summary.Keeper.{keeper, kept_in}
use Rattle.ficus_two_slots.specs.Slots.{kept_in as note_in}
use Rattle.ficus_words.specs.declared.mode.Size.{Size}
use Rattle.ficus_member.specs.Making.{BesideFailed, BesideRests, BesideSteady, HoldsTag, IsEmptyAt, IsEmptyBeside, IsFree, LeavesFresh, LeavesNote, LooksBeside, LooksForMember, MakesBeside, MakesMember}
use Rattle.ficus_member.specs.TagFile.{FileAsked, FileRests, WritesTag}
use Rattle.ficus_member.specs.declared.beside.Beside.{Beside}

-- a fault that is told as one of these isn't another's
store_not_occupied : (me q : ℕ) (fault : WorldFault) → fault ≡ Store me → fault ≡ Occupied q → ⊥
store_not_occupied me q fault is other = absurd (cc (sym is ∙ other))

not_occupied : (q : ℕ) (fault : WorldFault) → IsStoreFault fault → fault ≡ Occupied q → ⊥
not_occupied q fault store is = subst IsStoreFault is store

not_image : (q : ℕ) (fault : WorldFault) → IsStoreFault fault → fault ≡ Image q → ⊥
not_image q fault store is = subst IsStoreFault is store

-- a pair of which one disk holds something isn't empty
filled : {D : Type 0} (seen : D → List ℕ) (pair : Pair D) → (seen pair.a ≢ []) ⊎ (seen pair.b ≢ [])
    → IsEmptyPair seen pair → ⊥
filled seen pair (inl some) empty = some empty.0
filled seen pair (inr some) empty = some empty.1

-- what the disks of a member hold stays
empty_still : {D : Type 0} (seen : D → List ℕ) (old new : List (Pair D)) (q : ℕ) (pair : Pair D)
    → SeenSame seen old new → IsEmptyAt seen old q → IsNumbered new q pair → IsEmptyPair seen pair
empty_still seen old new q pair steady empty at =
    let was = number_exists old q (subst (λ n. IsMember n q) steady.count at.member) in
    let same = steady.each q was.0 pair was.1 at in
    let nothing = empty was.0 was.1 in
    (same.a ∙ nothing.0, same.b ∙ nothing.1)

same_none : {D : Type 0} (faults : D → ℕ) (pair : Pair D) → PairSame faults pair pair
same_none faults pair = record { a = refl; b = refl }

same_then : {D : Type 0} (faults : D → ℕ) {one two three : Pair D} → PairSame faults one two
    → PairSame faults two three → PairSame faults one three
same_then faults first second = record { a = second.a ∙ first.a; b = second.b ∙ first.b }

-- on a pair of which a crash leaves no more than before, nothing is unsynced
synced_still : {D : Type 0} (disk : Disk D) {old new : Pair D} → PairSame disk.seen old new → PairRests disk old new
    → IsSynced disk.seen disk.may_leave old → IsSynced disk.seen disk.may_leave new
synced_still disk same rests synced = record {
  a = λ bytes left. synced.a bytes (rests.within.a bytes left) ∙ sym same.a;
  b = λ bytes left. synced.b bytes (rests.within.b bytes left) ∙ sym same.b;
}

-- nor on any of the members up to one
are_synced_still : {D : Type 0} (disk : Disk D) {old new : List (Pair D)} {count : ℕ} → SeenSame disk.seen old new
    → AllRest disk old new → AreSynced disk.seen disk.may_leave old count
    → AreSynced disk.seen disk.may_leave new count
are_synced_still disk {old} {new} same rests synced = record {
  each = λ r pair at within.
      let was = number_exists old r (subst (λ n. IsMember n r) same.count at.member) in
      synced_still disk (same.each r was.0 pair was.1 at) (rests.each r was.0 pair was.1 at)
      (synced.each r was.0 was.1 within);
}

-- what is held and synced, a crash leaves
fresh_left : {D : Type 0} (disk : Disk D) (size : Size) (me : ℕ) {own : Pair D}
    → Holds (found_in kept_in disk.seen own) (fresh_saved (volume_of size) me)
    → IsSynced disk.seen disk.may_leave own → LeavesFresh disk size me own
fresh_left disk size me {own} holds synced = record {
  each = λ a b left_a left_b.
      let fresh = fresh_saved (volume_of size) me in
      subst (λ (one : List ℕ). Holds (kept_in one b) fresh) (sym (synced.a a left_a))
      (subst (λ (two : List ℕ). Holds (kept_in (disk.seen own.a) two) fresh) (sym (synced.b b left_b)) holds);
}

-- both hold where it was done
both_ok : {A E : Type 0} (P Q : Type 0) (result : Result A E) → OnOk result P → OnOk result Q → OnOk result (P × Q)
both_ok P Q (Ok done) one two = (one, two)
both_ok P Q (Err fault) one two = tt

module _ {N : Type 0} {slot : Disk N} where
  pub steady_then : {one two three : Beside N} → BesideSteady slot one two → BesideSteady slot two three
      → BesideSteady slot one three
  steady_then first second =
      record { slots = same_then slot.faults first.slots second.slots; volume = second.volume ∙ first.volume }

  pub failed_behind : {one two three : Beside N} → BesideSteady slot one two → BesideFailed slot two three
      → BesideFailed slot one three
  failed_behind {one} {two} {three} first (inl rose) =
      inl (rose_from slot.faults 1 one.slots two.slots three.slots first.slots rose)
  failed_behind {one} {two} {three} first (inr rose) =
      inr (subst (λ (n : ℕ). Rose n (slot.faults three.volume)) first.volume rose)

  module _ {me : ℕ} {tag : List ℕ} {old : Beside N} where
    -- the tag wasn't written
    pub tag_failed : (fault : WorldFault) {file : N}
        → WritesTag {A = Unit {0}} slot tag me (Err fault) old.volume file
        → MakesBeside slot {A = Unit {0}} me tag (Err fault) old (record { slots = old.slots; volume = file })
    tag_failed fault wrote = record {
      tagged = λ tells. tt;
      noted = λ tells. tt;
      durable = λ tells synced. tt;
      order = λ tells. inl refl;
      kinds = wrote.kinds;
      asked = record {
        failed = λ r is. let rose = wrote.asked.failed r is in (rose.0, inr rose.1);
        spared = λ other unfailed is.
            record { slots = same_none slot.faults old.slots; volume = wrote.asked.spared other unfailed is };
        steady = tt;
      };
    }

    -- it was, and then the note was made, or not
    pub note_tried : (result : Result (Unit {0}) WorldFault) {file : N} {slots : Pair N}
        → (slot.tells → HoldsTag slot tag file) → slot.faults file ≡ slot.faults old.volume
        → (slot.tells → OnOk result (HoldsNote (found_in note_in slot.seen slots) None))
        → (slot.tells → IsSynced slot.seen slot.may_leave old.slots → OnOk result (LeavesNote slot None slots))
        → IfErr result IsStoreFault
        → ((r : ℕ) → IsErrOf result (Store r) → (r ≡ me) × PairRose slot.faults 1 old.slots slots)
        → (IsErrOf result Memory → PairSame slot.faults old.slots slots)
        → OnOk result (PairSame slot.faults old.slots slots)
        → MakesBeside slot me tag result old (record { slots = slots; volume = file })
    note_tried result {file} {slots} held same noted durable kinds failed spared steady = record {
      tagged = λ tells. on_ok result (held tells);
      noted = noted;
      durable = durable;
      order = λ tells. inr (held tells);
      kinds = kinds;
      asked = record {
        failed = λ r is. let rose = failed r is in (rose.0, inl rose.1);
        spared = go;
        steady = on_ok_weaker result (λ stay. record { slots = stay; volume = same }) steady;
      };
    } where
      store_kind : (fault : WorldFault) → IsErrOf result fault → IsStoreFault fault
      store_kind fault is = subst (λ (r : Result (Unit {0}) WorldFault). IfErr r IsStoreFault) is kinds

      go : (fault : WorldFault) → IsUnfailed fault → IsErrOf result fault
          → BesideSteady slot old (record { slots = slots; volume = file })
      go (Store r) unfailed is = absurd unfailed
      go (Occupied r) unfailed is = absurd (store_kind (Occupied r) is)
      go (Image r) unfailed is = absurd (store_kind (Image r) is)
      go Memory unfailed is = record { slots = spared is; volume = same }

-- nothing was there
free : {D N : Type 0} {disk : Disk D} {slot : Disk N} {me : ℕ} {old mid : List (Pair D)} {beside beside_mid : Beside N}
    {done : Unit {0}} → LooksForMember disk slot me (Ok done) old mid beside beside_mid → disk.tells → slot.tells
    → IsFree disk slot me old beside
free looks disk_tells slot_tells = record { own = looks.own disk_tells; lies = (looks.lies slot_tells).0 }

-- in which order what lies beside is made
ordered : {N : Type 0} (slot : Disk N) (tag : List ℕ) (one two three : Beside N)
    → PairRests slot one.slots two.slots → (three.slots ≡ two.slots) ⊎ HoldsTag slot tag three.volume
    → PairRests slot one.slots three.slots ⊎ HoldsTag slot tag three.volume
ordered slot tag one two three rests (inl same) =
    inl (subst (λ (slots : Pair _). PairRests slot one.slots slots) (sym same) rests)
ordered slot tag one two three rests (inr held) = inr held

module _ {D N : Type 0} {disk : Disk D} {slot : Disk N} {size : Size} {me : ℕ} {tag : List ℕ} {old mid : List (Pair D)}
    {beside beside_mid : Beside N} where
  -- something is there of the member, or a disk failed
  pub looked_in_vain : (fault : WorldFault)
      → LooksForMember disk slot me (Err fault) old mid beside beside_mid
      → MakesMember disk slot size me tag (Err fault) old mid beside beside_mid
  looked_in_vain fault looks = record {
    made = λ tells. tt;
    noted = λ tells. tt;
    tagged = λ tells. tt;
    durable = λ tells synced. tt;
    durable_note = λ tells synced. tt;
    first = λ tells. inl looks.rests.slots;
    then = λ tells. inl looks.disks;
    then_durable = λ tells synced. inl looks.disks;
    occupied = looks.occupied;
    occupied_comes = λ disk_tells slot_tells some. turned looks.kinds;
    rests = λ disk_tells slot_tells some. (looks.disks, looks.rests);
    others = λ tells q other is. absurd (other_than looks.kinds q other (same_err fault (Occupied q) is));
    failed = looks.failed;
    spared = λ one unfailed is. looks.spared one unfailed is;
    steady = tt;
    never = λ r is. no_image looks.kinds r (same_err fault (Image r) is);
  } where
    turned : (fault ≡ Store me) ⊎ (fault ≡ Occupied me) → (fault ≡ Occupied me) ⊎ (fault ≡ Store me)
    turned (inl is) = inr is
    turned (inr is) = inl is

    other_than : (fault ≡ Store me) ⊎ (fault ≡ Occupied me) → (q : ℕ) → q ≢ me → fault ≡ Occupied q → ⊥
    other_than (inl is) q other same = store_not_occupied me q fault is same
    other_than (inr is) q other same = other (same_occupied q me (sym same ∙ is))

    no_image : (fault ≡ Store me) ⊎ (fault ≡ Occupied me) → (r : ℕ) → fault ≡ Image r → ⊥
    no_image (inl is) r same = absurd (cc (sym is ∙ same))
    no_image (inr is) r same = absurd (cc (sym is ∙ same))

  module _ {done : Unit {0}} (looks : LooksForMember disk slot me (Ok done) old mid beside beside_mid) where
    -- what lies beside isn't made
    pub beside_failed : (fault : WorldFault) {beside_new : Beside N}
        → MakesBeside slot {A = Unit {0}} me tag (Err fault) beside_mid beside_new
        → MakesMember disk slot size me tag (Err fault) old mid beside beside_new
    beside_failed fault {beside_new} makes = record {
      made = λ tells. tt;
      noted = λ tells. tt;
      tagged = λ tells. tt;
      durable = λ tells synced. tt;
      durable_note = λ tells synced. tt;
      first = λ tells. ordered slot tag beside beside_mid beside_new looks.rests.slots (makes.order tells);
      then = λ tells. inl looks.disks;
      then_durable = λ tells synced. inl looks.disks;
      occupied = λ disk_tells slot_tells is some. not_occupied me fault makes.kinds (same_err fault (Occupied me) is);
      occupied_comes = λ disk_tells slot_tells some. absurd (some (free looks disk_tells slot_tells));
      rests = λ disk_tells slot_tells some. absurd (some (free looks disk_tells slot_tells));
      others = λ tells q other is empty. not_occupied q fault makes.kinds (same_err fault (Occupied q) is);
      failed = λ r is. let rose = makes.asked.failed r is in inr (rose.0, failed_behind looks.steady.1 rose.1);
      spared = λ one unfailed is.
          (looks.steady.0, steady_then looks.steady.1 (makes.asked.spared one unfailed is));
      steady = tt;
      never = λ r is. not_image r fault makes.kinds (same_err fault (Image r) is);
    }

    -- it is, and then what the member saves was made, or not
    pub image_tried : (result : Result (Unit {0}) WorldFault) {new : List (Pair D)} {beside_new : Beside N}
        {given : Unit {0}} → MakesBeside slot {A = Unit {0}} me tag (Ok given) beside_mid beside_new
        → IsMember size.members me
        → MakesVolume keeper disk size.members size.ids size.bytes result mid new
        → MakesMember disk slot size me tag result old new beside beside_new
    image_tried result {new} {beside_new} lies is_member makes = record {
      made = λ tells.
          on_ok_weaker result (λ made own at. made.each me own at is_member) (makes.made tells);
      noted = λ tells. on_ok result (lies.noted tells);
      tagged = λ tells. on_ok result (lies.tagged tells);
      durable = λ tells synced.
          let still = are_synced_still disk (looks.same tells) looks.disks synced in
          on_ok_weaker result
          (λ both own at.
          fresh_left disk size me (both.0.each me own at is_member) (both.1.each me own at is_member.at_most))
          (both_ok _ _ result (makes.made tells) (makes.synced tells still));
      durable_note = λ tells synced. on_ok result (lies.durable tells (slots_synced tells synced));
      first = λ tells. ordered slot tag beside beside_mid beside_new looks.rests.slots (lies.order tells);
      then = λ tells. inr (lies.noted tells, lies.tagged tells);
      then_durable = λ tells synced. inr (lies.durable tells (slots_synced tells synced));
      occupied = λ disk_tells slot_tells is nothing. occupied_at me disk_tells (looks.own disk_tells) is;
      occupied_comes = λ disk_tells slot_tells some. absurd (some (free looks disk_tells slot_tells));
      rests = λ disk_tells slot_tells some. absurd (some (free looks disk_tells slot_tells));
      others = λ tells q other is empty. occupied_at q tells empty is;
      failed = λ r is. inl (fault_behind disk.faults old mid new r looks.steady.0 (makes.failed r is));
      spared = λ one unfailed is. (
        steady_trans disk.faults old mid new looks.steady.0 (makes.spared one unfailed is),
        steady_then looks.steady.1 lies.asked.steady,
      );
      steady =
          on_ok_weaker result (λ stay. (
            steady_trans disk.faults old mid new looks.steady.0 stay,
            steady_then looks.steady.1 lies.asked.steady,
          )) makes.steady;
      never = makes.never;
    } where
      slots_synced : slot.tells → IsSynced slot.seen slot.may_leave beside.slots
          → IsSynced slot.seen slot.may_leave beside_mid.slots
      slots_synced tells synced =
          let nothing = looks.lies tells in
          let same : PairSame slot.seen beside.slots beside_mid.slots =
          record { a = nothing.1.slots.0 ∙ sym nothing.0.slots.0; b = nothing.1.slots.1 ∙ sym nothing.0.slots.1 } in
          synced_still slot same looks.rests.slots synced

      occupied_at : (q : ℕ) → disk.tells → IsEmptyAt disk.seen old q → IsErrOf result (Occupied q) → ⊥
      occupied_at q tells empty is =
          let first = (makes.occupied tells q is).0 in
          filled disk.seen first.pair first.some
          (empty_still disk.seen old mid q first.pair (looks.same tells) empty first.is)

-- nothing was asked of what lies beside
module _ {N : Type 0} (slot : Disk N) (beside : Beside N) where
  rests_beside : BesideRests slot beside beside
  rests_beside = record {
    slots = rests_none slot beside.slots;
    volume = record { same = λ tells. refl; within = λ bytes left. left };
  }

  steady_beside : BesideSteady slot beside beside
  steady_beside = record { slots = same_none slot.faults beside.slots; volume = refl }

module _ {D N : Type 0} {disk : Disk D} {slot : Disk N} {me : ℕ} {old new : List (Pair D)} {beside : Beside N} where
  -- the member's own disks couldn't be looked at
  pub own_failed : (fault : WorldFault) → fault ≡ Store me → DisksLooked {A = Bool} disk (Err fault) old new
      → LooksForMember disk slot me (Err fault) old new beside beside
  own_failed fault store looked = record {
    own = λ tells. tt;
    lies = λ tells. tt;
    occupied = λ disk_tells slot_tells is free. store_not_occupied me me fault store (same_err fault (Occupied me) is);
    kinds = inl store;
    same = looked.same;
    disks = looked.rests;
    rests = rests_beside slot beside;
    failed = λ r is. inl (looked.asked.failed r (err_as fault (Store r) is));
    spared = λ one unfailed is. (looked.asked.spared one unfailed (err_as fault one is), steady_beside slot beside);
    steady = tt;
  }

module _ {D N : Type 0} {disk : Disk D} {slot : Disk N} {me : ℕ} {old new : List (Pair D)} {beside beside_new : Beside N}
  where
    -- what lies beside couldn't be
    pub lies_failed : (is_empty : Bool) (fault : WorldFault) → DisksLooked {A = Bool} disk (Ok is_empty) old new
        → LooksBeside slot me (Err fault) beside beside_new
        → LooksForMember disk slot me (Err fault) old new beside beside_new
    lies_failed is_empty fault looked looks = record {
      own = λ tells. tt;
      lies = λ tells. tt;
      occupied = λ disk_tells slot_tells is free.
          store_not_occupied me me fault looks.kinds (same_err fault (Occupied me) is);
      kinds = inl looks.kinds;
      same = looked.same;
      disks = looked.rests;
      rests = looks.rests;
      failed = λ r is. inr (looks.asked.failed r (err_as fault (Store r) is));
      spared = λ one unfailed is. (looked.asked.steady, looks.asked.spared one unfailed (err_as fault one is));
      steady = tt;
    }

    -- both were
    pub looked_at_both : (own lies both : Bool) (result : Result (Unit {0}) WorldFault)
        → DisksLooked {A = Bool} disk (Ok own) old new → LooksBeside slot me (Ok lies) beside beside_new
        → (disk.tells → IsTrue own ↔ IsEmptyAt disk.seen old me) → (IsTrue both ↔ (IsTrue own × IsTrue lies))
        → OnOk result (IsTrue both) → IfErr result (λ fault. (fault ≡ Occupied me) × (IsTrue both → ⊥))
        → LooksForMember disk slot me result old new beside beside_new
    looked_at_both own lies both (Ok done) looked looks empty is so not_so = record {
      own = λ tells. (empty tells).0 (is.0 so).0;
      lies = λ tells.
          let nothing = (looks.empty tells).0 (is.0 so).1 in
          (nothing, looks.still tells nothing);
      occupied = λ disk_tells slot_tells fault free. absurd (cc fault);
      kinds = tt;
      same = looked.same;
      disks = looked.rests;
      rests = looks.rests;
      failed = λ r fault. absurd (cc fault);
      spared = λ one unfailed fault. absurd (cc fault);
      steady = (looked.asked.steady, looks.asked.steady);
    }
    looked_at_both own lies both (Err fault) looked looks empty is so not_so = record {
      own = λ tells. tt;
      lies = λ tells. tt;
      occupied = λ disk_tells slot_tells same free.
          not_so.1 (is.1 ((empty disk_tells).1 free.own, (looks.empty slot_tells).1 free.lies));
      kinds = inr not_so.0;
      same = looked.same;
      disks = looked.rests;
      rests = looks.rests;
      failed = λ r same. absurd (store_not_occupied r me fault (same_err fault (Store r) same) not_so.0);
      spared = λ one unfailed same. (looked.asked.steady, looks.asked.steady);
      steady = tt;
    }

module _ {N : Type 0} {slot : Disk N} {me : ℕ} {old : Beside N} where
  -- the note couldn't be looked at
  pub slots_failed : (fault : WorldFault) {slots : Pair N} → LooksAt slot me (Err fault) old.slots slots
      → LooksBeside slot me (Err fault) old (record { slots = slots; volume = old.volume })
  slots_failed fault looks = record {
    empty = λ tells. tt;
    still = λ tells empty.
        let same = looks.looked.same tells in
        record { slots = (same.a ∙ empty.slots.0, same.b ∙ empty.slots.1); volume = empty.volume };
    kinds = looks.failed;
    rests = record {
      slots = looks.looked.rests;
      volume = record { same = λ tells. refl; within = λ bytes left. left };
    };
    asked = record {
      failed = λ r is. let rose = looks.looked.asked.failed r is in (rose.0, inl rose.1);
      spared = λ one unfailed is. record { slots = looks.looked.asked.spared one unfailed is; volume = refl };
      steady = tt;
    };
  }

  module _ {slots : Pair N} {file : N} (is_empty : Bool) (looks : LooksAt slot me (Ok is_empty) old.slots slots)
      (rests : FileRests slot old.volume file) where
    still : slot.tells → IsEmptyBeside slot old → IsEmptyBeside slot (record { slots = slots; volume = file })
    still tells empty =
        let same = looks.looked.same tells in
        record {
          slots = (same.a ∙ empty.slots.0, same.b ∙ empty.slots.1);
          volume = rests.same tells ∙ empty.volume;
        }

    -- the file couldn't be
    pub file_failed : (fault : WorldFault) → fault ≡ Store me → FileAsked {A = Bool} slot me (Err fault) old.volume file
        → LooksBeside slot me (Err fault) old (record { slots = slots; volume = file })
    file_failed fault store asked = record {
      empty = λ tells. tt;
      still = still;
      kinds = store;
      rests = record { slots = looks.looked.rests; volume = rests };
      asked = record {
        failed = λ r is. let rose = asked.failed r is in (rose.0, inr rose.1);
        spared = λ one unfailed is.
            record { slots = looks.looked.asked.steady; volume = asked.spared one unfailed is };
        steady = tt;
      };
    }

    -- both were
    pub both_looked : (is_file_empty both : Bool) → FileAsked {A = Bool} slot me (Ok is_file_empty) old.volume file
        → (slot.tells → IsTrue is_file_empty ↔ (slot.seen old.volume ≡ []))
        → (IsTrue both ↔ (IsTrue is_empty × IsTrue is_file_empty))
        → LooksBeside slot me (Ok both) old (record { slots = slots; volume = file })
    both_looked is_file_empty both asked empty is = record {
      empty = λ tells. (
        λ so. record { slots = (looks.empty tells).0 (is.0 so).0; volume = (empty tells).0 (is.0 so).1 },
        λ nothing. is.1 ((looks.empty tells).1 nothing.slots, (empty tells).1 nothing.volume),
      );
      still = still;
      kinds = tt;
      rests = record { slots = looks.looked.rests; volume = rests };
      asked = record {
        failed = λ r fault. absurd (cc fault);
        spared = λ one unfailed fault. absurd (cc fault);
        steady = record { slots = looks.looked.asked.steady; volume = asked.steady };
      };
    }
