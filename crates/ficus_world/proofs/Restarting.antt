-- What becomes of a member whose disks are opened again.
use Rattle.std.proofs.Common.{◌≡◌, ℕ, ◌+◌, ◌-◌, ◌≤◌, List, [], ◌∷◌, ◌++◌, length, Result, Ok, Err, Some, refl, sym, ap, subst, ◌∙◌, inl, inr, append_assoc, arith}
use Rattle.std.specs.Prelude.{slice_set, All, IfOk, IsErrOf}
use Rattle.std.proofs.lemmas.List.{append-nil, length-append, length-set, set-get_or}
use Rattle.std.proofs.lemmas.List.Elements.{All-append, All-cons, All-nil}
use Rattle.std.proofs.lemmas.Option.{get_or_from_slice_get}
use Rattle.ficus_disk.specs.declared.disk.Disk.{Ghosts as Disk}
use Rattle.ficus_disk.specs.declared.pair.Pair.{Pair}
use Rattle.ficus_ids.specs.Members.{IsMember}
use Rattle.ficus_ids.specs.declared.refusal.Refusal.{Refusal}
use Rattle.ficus_ids.specs.declared.refusal.Refusal.TheVariants as refusal
use Rattle.ficus_keeper.specs.declared.fault.StoreFault.{StoreFault}
use Rattle.ficus_keeper.specs.declared.fault.StoreFault.TheVariants.{Failed, Memory, NoImage}
use Rattle.ficus_keeper.specs.declared.keep.Keep.{Ghosts as Keep}
use Rattle.ficus_model.specs.declared.event.Event.{Event}
use Rattle.ficus_model.specs.declared.event.Event.TheVariants as event
use Rattle.ficus_model.specs.Events.{actor}
use Rattle.ficus_durable_state.specs.Saved.{FitsImage}
use Rattle.ficus_durable_state.specs.declared.saved.Saved.{Saved}
use Rattle.ficus_script.specs.declared.answer.Answer.{Answer}
use Rattle.ficus_script.specs.declared.answer.Answer.TheVariants.{Done}
use Rattle.ficus_script.specs.declared.command.Command.TheVariants.{Restart as Restarts}
use Rattle.ficus_runs.specs.Numbered.{IsNumbered}
use Rattle.ficus_runs.specs.Outcome.{IsFound, IsOpened, OpeningFails}
use Rattle.ficus_runs.specs.Sequence.First.{Goes}
use Rattle.ficus_opening.specs.declared.member.Member.{Member}
use Rattle.ficus_opening.specs.declared.member.MemberState.TheVariants.{Down}
use Rattle.ficus_opening.specs.declared.member.Pending.{Pending}
use Rattle.ficus_world.specs.declared.member.Rising.TheVariants.{AsPending, AsWas, Neither}
use Rattle.ficus_world.specs.Disks.{CarriedOn, ComesBack, DisksFollow, IsAfterOpening, IsReadAt, IsRisen}
use Rattle.ficus_world.specs.Disks.ComesBack.{BackAsPending, BackAsWas, NoMemory, NotOpened, NothingRead, OfAnother}
use Rattle.ficus_runs.specs.Fuses.{FuseState, with_fuses}
use Rattle.ficus_world.specs.Fuses.{FusesStand, IsReadBy, at_rest}
use Rattle.ficus_world.specs.Moves.{CarriesOut, IsLike, restarted, still_pending}
use Rattle.ficus_world.specs.Moves.FindsMember.{Finds}
use Rattle.ficus_world.specs.Moves.Reopens.{NoImageFound, NotReopened, ReopenedAsPending, ReopenedAsWas}
use Rattle.ficus_world.specs.World.{IsPendingSound, IsSoundMember, IsWorld, Whole, whole_of}
use Rattle.ficus_runs.proofs.Numbers.{number_exists}
use Rattle.ficus_world.proofs.Disks.{follows_alike}
use Rattle.ficus_world.proofs.Fuses.{fuses_found, fuses_never, fuses_opened}
use Rattle.ficus_world.proofs.SoundWorlds.{keep_down_sound, member_more, one_of_eight, restarted_sound, world_after}

-- a member in its own place changes nothing
pub set_own : {A : Type 0} (list : List A) (r : ℕ) (x : A) → IsNumbered list r x → slice_set list (r - 1) x ≡ list
set_own list r x is =
    subst (λ y. slice_set list (r - 1) y ≡ list) (get_or_from_slice_get list (r - 1) x x is.is)
    (set-get_or list (r - 1) x)

like_itself : (saved : Saved) → IsLike saved saved
like_itself saved = record { me = refl; members = refl; ids = refl; bytes = refl; generation = refl }

-- what is pending has a generation of its own
pending_above : {count events r : ℕ} {was : Member} (pending : Pending) → IsSoundMember count events r was
    → was.state ≡ Down (Some pending)
    → pending.replica.saved.generation ≡ was.replica.saved.generation + 1
pending_above {count} {events} {r} {was} pending sound down =
    (subst (IsPendingSound count events r was.replica) down sound.pending).1

module _ {count events r : ℕ} {was : Member} (sound : IsSoundMember count events r was) (read : Saved)
    (found : IsReadAt was (Ok read)) where
  -- of what was read where it is like what the member had
  pub read_as_was : IsLike was.replica.saved read → read ≡ was.replica.saved
  read_as_was like =
      elim found [
        | inl same ↦ same
        | inr (pending, down, same) ↦
            let above = pending_above pending sound down in
            let read_is = ap (λ (s : Saved). s.generation) same in
            absurd (omega (arith, above, read_is, like.generation))
      ]

  -- and where it is like what was pending
  pub read_as_pending : (pending : Pending) → was.state ≡ Down (Some pending) → IsLike pending.replica.saved read
      → read ≡ pending.replica.saved
  read_as_pending pending down like =
      elim found [
        | inl same ↦
            let above = pending_above pending sound down in
            let read_is = ap (λ (s : Saved). s.generation) same in
            absurd (omega (arith, above, read_is, like.generation))
        | inr (other, down_too, same) ↦
            let states : Down (Some other) ≡ Down (Some pending) = sym down_too ∙ down in
            let one : other ≡ pending = cc in
            same ∙ ap (λ (p : Pending). p.replica.saved) one
      ]

  -- it is one of the two
  pub read_is_one : (IsLike was.replica.saved read → ⊥)
      → ((pending : Pending) → was.state ≡ Down (Some pending) → IsLike pending.replica.saved read → ⊥) → ⊥
  read_is_one not_was not_pending =
      elim found [
        | inl same ↦ not_was (subst (λ (s : Saved). IsLike was.replica.saved s) (sym same) (like_itself was.replica.saved))
        | inr (pending, down, same) ↦
            not_pending pending down
            (subst (λ (s : Saved). IsLike pending.replica.saved s) (sym same) (like_itself pending.replica.saved))
      ]

pub back_stores : (by : ℕ) (was : Member) (read : Result Saved StoreFault) (result : Result Answer Refusal)
    (now : Member) (stored : List Event) → ComesBack by was read result now stored → length stored ≤ 2
back_stores by was read result now stored (BackAsWas like) = omega arith
back_stores by was read result now stored (BackAsPending down like) = omega arith
back_stores by was read result now stored (OfAnother not_was not_pending) = omega arith
back_stores by was read result now stored NothingRead = omega arith
back_stores by was read result now stored NotOpened = omega arith
back_stores by was read result now stored NoMemory = omega arith

pub back_after : (by : ℕ) (was : Member) (read : Result Saved StoreFault) (result : Result Answer Refusal)
    (now : Member) (stored : List Event) → ComesBack by was read result now stored → IsAfterOpening was read now
back_after by was read result now stored (BackAsWas like) = inl refl
back_after by was read result now stored (BackAsPending down like) = inl refl
back_after by was read result now stored (OfAnother not_was not_pending) = inr refl
back_after by was read result now stored NothingRead = inr refl
back_after by was read result now stored NotOpened = inr refl
back_after by was read result now stored NoMemory = inl refl

-- it is sound
pub back_sound : (count events by : ℕ) (was : Member) (read : Result Saved StoreFault) (result : Result Answer Refusal)
    (now : Member) (stored : List Event) → IsSoundMember count events by was → IfOk read (λ saved. FitsImage saved)
    → ComesBack by was read result now stored → IsSoundMember count (events + length stored) by now
back_sound count events by was read result now stored sound fits (BackAsWas like) =
    member_more (restarted_sound was sound.replica like fits) (omega arith)
back_sound count events by was read result now stored sound fits (BackAsPending down like) =
    let known = (subst (IsPendingSound count events by was.replica) down sound.pending).0 in
    member_more (restarted_sound was known like fits) (omega arith)
back_sound count events by was read result now stored sound fits (OfAnother not_was not_pending) =
    member_more (keep_down_sound sound) (omega arith)
back_sound count events by was read result now stored sound fits NothingRead =
    member_more (keep_down_sound sound) (omega arith)
back_sound count events by was read result now stored sound fits NotOpened =
    member_more (keep_down_sound sound) (omega arith)
back_sound count events by was read result now stored sound fits NoMemory = member_more sound (omega arith)

-- what it stores is of one of eight, as it is
abbrev IsOfEight : Event → Type 0
IsOfEight event = IsMember 8 (actor event)

back_plain : (count events by : ℕ) (was : Member) (read : Result Saved StoreFault) (result : Result Answer Refusal)
    (now : Member) (stored : List Event) → IsMember 8 by → IsSoundMember count events by was
    → ComesBack by was read result now stored → All IsOfEight stored
back_plain count events by was read result now stored member sound (BackAsWas like) =
    All-cons IsOfEight (event.Restart by) [] member (All-nil IsOfEight)
back_plain count events by was read result now stored member sound (BackAsPending {pending = pending} down like) =
    let own = (subst (IsPendingSound count events by was.replica) down sound.pending).2 in
    All-cons IsOfEight pending.event (event.Restart by ∷ []) (subst (IsMember 8) (sym own) member)
    (All-cons IsOfEight (event.Restart by) [] member (All-nil IsOfEight))
back_plain count events by was read result now stored member sound (OfAnother not_was not_pending) = All-nil IsOfEight
back_plain count events by was read result now stored member sound NothingRead = All-nil IsOfEight
back_plain count events by was read result now stored member sound NotOpened = All-nil IsOfEight
back_plain count events by was read result now stored member sound NoMemory = All-nil IsOfEight

-- the member that was opened again is in its place, and the events are stored to which it comes
pub record HasComeBack (old : Whole) (by : ℕ) (read : Result Saved StoreFault) (result : Result Answer Refusal)
    (members : List Member) (events : List Event) : Type 0 where
  pub was : Member
  pub is : IsNumbered old.members by was
  pub now : Member
  pub stored : List Event
  pub comes : ComesBack by was read result now stored
  pub set : members ≡ slice_set old.members (by - 1) now
  pub happened : events ≡ old.events ++ stored

-- so it is where room was taken before
pub has_come_back : {old group : Whole} {by : ℕ} {read : Result Saved StoreFault} {result : Result Answer Refusal}
    {members : List Member} {reserved events : List Event} → old ≡ group → IsMember (length group.members) by
    → reserved ≡ old.events
    → ((was : Member) → IsNumbered old.members by was → (now : Member) × (stored : List Event)
    × ComesBack by was read result now stored × (members ≡ slice_set old.members (by - 1) now)
    × (events ≡ reserved ++ stored)) → HasComeBack old by read result members events
has_come_back {old} {group} {by} same member stores comes =
    let found = number_exists old.members by (subst (λ (w : Whole). IsMember (length w.members) by) (sym same) member) in
    let back = comes found.0 found.1 in
    record {
      was = found.0;
      is = found.1;
      now = back.0;
      stored = back.1;
      comes = back.2;
      set = back.3;
      happened = back.4 ∙ ap (λ (list : List Event). list ++ back.1) stores;
    }

module _ {old : Whole} {by : ℕ} {read : Result Saved StoreFault} {result : Result Answer Refusal} {members : List Member}
    {events : List Event} (back : HasComeBack old by read result members events) where
  -- there are as many members
  pub back_count : length members ≡ length old.members
  back_count = ap (λ (list : List Member). length list) back.set ∙ length-set old.members (by - 1) back.now

  -- the world is one still
  pub back_world : IfOk read (λ saved. FitsImage saved) → IsWorld old → IsWorld (whole_of members events old.post)
  back_world fits world =
      let before = world.sound by back.was back.is in
      let sound = back_sound (length old.members) (length old.events) by back.was read result back.now back.stored
      before fits back.comes in
      let plain = All-append IsOfEight old.events back.stored world.plain
      (back_plain (length old.members) (length old.events) by back.was read result back.now back.stored
      (one_of_eight world back.is.member) before back.comes) in
      let longer = length-append old.events back.stored in
      subst (λ (list : List Event). IsWorld (whole_of members list old.post)) (sym back.happened)
      (world_after old (old.events ++ back.stored) by back.was back.now back.is world
      (subst (λ n. IsSoundMember (length old.members) n by back.now) (sym longer) sound) (omega (arith, longer)) plain
      members back.set)

-- where memory was refused, it is as it was
pub back_same : (by : ℕ) (was : Member) (read : Result Saved StoreFault) (result : Result Answer Refusal)
    (now : Member) (stored : List Event) → ComesBack by was read result now stored → IsErrOf result refusal.Memory
    → (now ≡ was) × (stored ≡ [])
back_same by was read result now stored (BackAsWas like) none = absurd (cc)
back_same by was read result now stored (BackAsPending down like) none = absurd (cc)
back_same by was read result now stored (OfAnother not_was not_pending) none = absurd (cc)
back_same by was read result now stored NothingRead none = absurd (cc)
back_same by was read result now stored NotOpened none = absurd (cc)
back_same by was read result now stored NoMemory is = (refl, refl)

-- a command that restarts it
module _ {K D : Type 0} (tells : Type 0) (keep : Keep K) (disk : Disk D) (old : Whole) (by : ℕ) (was : Member)
    (is : IsNumbered old.members by was)
    (sound : IsSoundMember (length old.members) (length old.events) by was) (x y : List (Pair D))
    (within : IsMember (length x) by) (opened : DisksFollow disk.faults disk.armings (IsOpened by ∷ []) x y) where
  abbrev back : Member → List Event → Whole
  back now stored = whole_of (slice_set old.members (by - 1) now) (old.events ++ stored) old.post

  pub restart_carried : (read : Result Saved StoreFault) (result : Result Answer Refusal) (now : Member)
      (stored : List Event) → IfOk read (λ saved. FitsImage saved) → (disk.tells → IsReadAt was read)
      → (disk.tells_fuse → disk.tells → (F : ℕ → FuseState) → FusesStand keep disk F old.members x
      → IfOk read (λ saved. IsReadBy (F by).will_find was saved × FusesStand keep disk
      (with_fuses F by (at_rest saved.generation)) (slice_set old.members (by - 1) (restarted was saved)) y))
      → (disk.tells_fuse → IsErrOf read Failed → ⊥)
      → (IsErrOf read Failed → DisksFollow disk.faults disk.armings (OpeningFails by ∷ []) x y)
      → ComesBack by was read result now stored
      → CarriedOn keep disk (CarriesOut tells disk.tells (Restarts by)) result old (back now stored) x y
  restart_carried read result now stored fits found fuses never failed (BackAsWas {read = saved} like) = record {
    outcomes = IsOpened by ∷ [];
    does = Goes (Finds is) (ReopenedAsWas (record {
      fits = fits;
      like = like;
      told = λ told. read_as_was sound saved (found told) like;
    }));
    disks = opened;
    fuses =
        fuses_opened keep disk (length old.members) (length old.events) by old.members x y was saved is within sound
        fuses like.generation;
  }
  restart_carried read result now stored fits found fuses never failed
      (BackAsPending {read = saved} {pending = pending} down like) =
      record {
        outcomes = IsFound by ∷ [];
        does = subst (λ (events : List Event). CarriesOut tells disk.tells (Restarts by) old (Ok Done) (record {
          outcomes = IsFound by ∷ [];
          after = whole_of (slice_set old.members (by - 1) (restarted was saved)) events old.post;
        })) (append_assoc old.events (pending.event ∷ []) (event.Restart by ∷ []))
            (Goes (Finds is) (ReopenedAsPending down (record {
              fits = fits;
              like = like;
              told = λ told. read_as_pending sound saved (found told) pending down like;
            })));
        disks = follows_alike (λ r. refl) (λ r. refl) opened;
        fuses =
            fuses_found keep disk (length old.members) (length old.events) by old.members x y was saved is within sound
            fuses (like.generation ∙ pending_above pending sound down);
      }
  restart_carried read result now stored fits found fuses never failed
      (OfAnother {read = saved} not_was not_pending) = record {
        outcomes = IsOpened by ∷ [];
        does = subst (λ (events : List Event). CarriesOut tells disk.tells (Restarts by) old (Err refusal.Image) (record {
          outcomes = IsOpened by ∷ [];
          after = whole_of (slice_set old.members (by - 1) (record was { state = Down (still_pending was.state) })) events
              old.post;
        })) (sym (append-nil old.events))
            (Goes (Finds is) (NoImageFound (λ told. read_is_one sound saved (found told) not_was not_pending)));
        disks = opened;
        fuses = fuses_never keep disk (λ fused told. read_is_one sound saved (found told) not_was not_pending);
      }
  restart_carried read result now stored fits found fuses never failed NothingRead = record {
    outcomes = IsOpened by ∷ [];
    does = subst (λ (events : List Event). CarriesOut tells disk.tells (Restarts by) old (Err refusal.Image) (record {
      outcomes = IsOpened by ∷ [];
      after = whole_of (slice_set old.members (by - 1) (record was { state = Down (still_pending was.state) })) events
          old.post;
    })) (sym (append-nil old.events)) (Goes (Finds is) (NoImageFound (λ told. found told)));
    disks = opened;
    fuses = fuses_never keep disk (λ fused told. found told);
  }
  restart_carried read result now stored fits found fuses never failed NotOpened = record {
    outcomes = OpeningFails by ∷ [];
    does = subst (λ (events : List Event). CarriesOut tells disk.tells (Restarts by) old (Err refusal.Store) (record {
      outcomes = OpeningFails by ∷ [];
      after = whole_of (slice_set old.members (by - 1) (record was { state = Down (still_pending was.state) })) events
          old.post;
    })) (sym (append-nil old.events)) (Goes (Finds is) NotReopened);
    disks = failed refl;
    fuses = fuses_never keep disk (λ fused told. never fused refl);
  }
  restart_carried read result now stored fits found fuses never failed NoMemory = record {
    outcomes = [];
    does = tt;
    disks = follows_alike (λ r. refl) (λ r. refl) opened;
    fuses = tt;
  }

-- what was read, and what the member comes to with it
module _ (by : ℕ) (was now : Member) (given : Result Saved StoreFault) where
  pub back_as_was : (read : Saved) → given ≡ Ok read → IsRisen was read AsWas now
      → ComesBack by was given (Ok Done) now (event.Restart by ∷ [])
  back_as_was read is risen =
      rw is
      (subst (λ (m : Member). ComesBack by was (Ok read) (Ok Done) m (event.Restart by ∷ [])) (sym risen.1)
      (BackAsWas risen.0))

  pub back_as_pending : (read : Saved) (happened : Event) → given ≡ Ok read → IsRisen was read (AsPending happened) now
      → ComesBack by was given (Ok Done) now (happened ∷ event.Restart by ∷ [])
  back_as_pending read happened is (pending, down, same, like, risen) =
      rw (is, same)
      (subst (λ (m : Member). ComesBack by was (Ok read) (Ok Done) m (pending.event ∷ event.Restart by ∷ [])) (sym risen)
      (BackAsPending down like))

  pub back_of_another : (read : Saved) → given ≡ Ok read → IsRisen was read Neither now
      → ComesBack by was given (Err refusal.Image) now []
  back_of_another read is risen =
      rw is
      (subst (λ (m : Member). ComesBack by was (Ok read) (Err refusal.Image) m []) (sym risen.0)
      (OfAnother risen.1 risen.2))

-- or where nothing was read
module _ (by : ℕ) (was : Member) (given : Result Saved StoreFault) (fault : StoreFault) (is : given ≡ Err fault) where
  pub back_not_read : fault ≡ NoImage
      → ComesBack by was given (Err refusal.Image) (record was { state = Down (still_pending was.state) }) []
  back_not_read of = rw (is, of) NothingRead

  pub back_not_opened : fault ≡ Failed
      → ComesBack by was given (Err refusal.Store) (record was { state = Down (still_pending was.state) }) []
  back_not_opened of = rw (is, of) NotOpened

  pub back_no_memory : fault ≡ Memory → ComesBack by was given (Err refusal.Memory) was []
  back_no_memory of = rw (is, of) NoMemory
