-- What a command does to the disks of a world, it does to what the world stands for.
use Rattle.std.proofs.Common.{◌≡◌, ◌≢◌, ℕ, ◌+◌, ◌-◌, Bool, true, false, cond, List, [], ◌∷◌, ◌++◌, length, Option, Some, None, refl, sym, ap, subst, ◌∙◌, inl, inr, ◌⊎◌, ⊎_elim, arith, append-nil, length-append}
use Rattle.std.specs.Prelude.{slice_set}
use Rattle.std.proofs.lemmas.Bool.{cases_eq}
use Rattle.std.proofs.lemmas.List.{length-set, length_push}
use Rattle.std.proofs.lemmas.List.Sums.{sum_by-append, sum_by-cons}
use Rattle.ficus_disk.specs.declared.disk.Disk.{Ghosts as Disk}
use Rattle.ficus_disk.specs.declared.pair.Pair.{Pair}
use Rattle.ficus_ids.specs.Members.{IsMember}
use Rattle.ficus_keeper.specs.Kept.{Kept}
use Rattle.ficus_keeper.specs.declared.keep.Keep.{Ghosts as Keep}
use Rattle.ficus_model.specs.declared.event.Event.{Event}
use Rattle.ficus_model.specs.Events.{actor, generation_of, is_saved, traits}
use Rattle.ficus_laws.proofs.Updates.{is_own}
use Rattle.ficus_model.specs.Lawful.{Volume}
use Rattle.ficus_durable_state.specs.declared.saved.Saved.{Saved}
use Rattle.ficus_stable_storage.specs.Leads.Holds.{Holds}
use Rattle.ficus_runs.specs.ModelWorld.{IsUp, ModelWorld, Standing}
use Rattle.ficus_runs.specs.ModelWorld as model
use Rattle.ficus_runs.specs.Numbered.{IsNumbered}
use Rattle.ficus_runs.proofs.Extending.{Extends, as_it_was, further, step_extends}
use Rattle.ficus_runs.proofs.Numbers.{number_exists, number_once}
use Rattle.ficus_runs.proofs.Replaced.{replaced}
use Rattle.ficus_opening.specs.declared.member.Member.{Member}
use Rattle.ficus_opening.specs.declared.member.MemberState.{MemberState}
use Rattle.ficus_opening.specs.declared.member.MemberState.TheVariants as state
use Rattle.ficus_opening.specs.declared.member.Pending.{Pending}
use Rattle.ficus_world.specs.Follows.{StoresAsMany}
use Rattle.ficus_world.specs.Kills.{IsSettled, Passes, Touches, WritesAt, latest}
use Rattle.ficus_opening.specs.Rests.{PairRests}
use Rattle.ficus_world.specs.Kills.Passes.{Idles, Joins, Links}
use Rattle.ficus_world.specs.Kills.Touches.{TouchesNone, TouchesOne, WritesOne}
use Rattle.ficus_world.specs.Stand.{KeepsFor}
use Rattle.ficus_opening.specs.Stand.{KeepsOf}
use Rattle.ficus_world.specs.World.{IsPendingSound, IsWorld, StateStandsFor, Whole, WorldStandsFor}
use Rattle.ficus_world.specs.Moves.{Moves}
use Rattle.ficus_world.proofs.Refusing.{no_opening, refused_members}
use Rattle.ficus_script.specs.declared.answer.Answer.{Answer}
use Rattle.ficus_script.specs.declared.command.Command.{Command}
use Rattle.ficus_world.proofs.Lifting.Following.{follow}
use Rattle.ficus_world.proofs.Lifting.LastPart.{length_part}
use Rattle.ficus_world.proofs.Kills.{left_old}
use Rattle.ficus_opening.proofs.Rests.{rests_none}
use Rattle.ficus_world.proofs.Lifting.Sets.{number_set}
use Rattle.ficus_world.proofs.Lifting.Standing.{member_from, member_stands, raise, replica_stands, standing_of, up_in}
use Rattle.ficus_world.proofs.Lifting.OneWorld.{same_list}
use Rattle.ficus_loop.proofs.OneModel.{standing_once}
use Rattle.ficus_loop.specs.Trail.{BeginsSave, EachLink, Neighbours, PairBetween, Trail}
use Rattle.ficus_loop.specs.Trail.Trail.{Joined, Link, Still}

-- what holds what a member has saved, or what is pending, keeps what its world says of it
module _ (volume : Volume) (W : ModelWorld) (world : Whole) (stands : WorldStandsFor volume W world)
    (sound : IsWorld world) (r : ℕ) (member : Member) (is : IsNumbered world.members r member) where
  keeps_here : (found : Option Kept) → Holds found member.replica.saved → KeepsOf volume W.events r found
  keeps_here found holds = record {
    saved = member.replica.saved;
    is = (replica_stands volume W world stands r member is).saved;
    fits = (sound.sound r member is).replica.fits;
    holds = holds;
  }

  keeps_so : (found : Option Kept) (state : MemberState) (standing : Standing)
      → StateStandsFor volume W.events (raise volume W world stands) r state standing
      → IsPendingSound (length world.members) (length world.events) r member.replica state
      → Holds found member.replica.saved ⊎ Holds found (latest member.replica.saved state)
      → KeepsFor volume W.events r found standing
  keeps_so found state.Up model.Up so pends (inl holds) = keeps_here found holds
  keeps_so found state.Up model.Up so pends (inr holds) = keeps_here found holds
  keeps_so found (state.Down None) (model.Down None) so pends (inl holds) = keeps_here found holds
  keeps_so found (state.Down None) (model.Down None) so pends (inr holds) = keeps_here found holds
  keeps_so found (state.Down (Some pending)) (model.Down (Some event)) so pends (inl holds) =
      inl (keeps_here found holds)
  keeps_so found (state.Down (Some pending)) (model.Down (Some event)) so pends (inr holds) = inr (record {
    saved = pending.replica.saved;
    fits = pends.0.fits;
    holds = holds;
    own = so.own;
    follows = λ later others along. let after = so.follows later others along in (after.lawful, after.stands.saved);
  })
  keeps_so found state standing so pends holds = absurd so

  pub keeps_for : (found : Option Kept) (standing : Standing) → IsNumbered W.standings r standing
      → Holds found member.replica.saved ⊎ Holds found (latest member.replica.saved member.state)
      → KeepsFor volume W.events r found standing
  keeps_for found standing at holds =
      keeps_so found member.state standing (member_stands volume W world stands r member is standing at)
      (sound.sound r member is).pending holds

-- a member that is down with something pending in the code is so in the model
pending_standing : (volume : Volume) (H : List Event) (n r : ℕ) (stood : MemberState) (standing : Standing)
    (pending : Pending) → stood ≡ state.Down (Some pending) → StateStandsFor volume H n r stood standing
    → (event : Event) × (standing ≡ model.Down (Some event)) × (actor event ≡ r)
pending_standing volume H n r (state.Down (Some found)) (model.Down (Some event)) pending is so = (event, refl, so.own)
pending_standing volume H n r state.Up standing pending is so = absurd (cc)
pending_standing volume H n r (state.Down None) standing pending is so = absurd (cc)
pending_standing volume H n r (state.Down (Some found)) model.Up pending is so = absurd so
pending_standing volume H n r (state.Down (Some found)) (model.Down None) pending is so = absurd so

bool_cases : (b : Bool) → (b ≡ true) ⊎ (b ≡ false)
bool_cases true = inl refl
bool_cases false = inr refl

-- a list of one, and of none
one_of : (list : List Event) → length list ≡ 1 → (event : Event) × (list ≡ event ∷ [])
one_of [] is = absurd (omega (arith, is))
one_of (event ∷ []) is = (event, refl)
one_of (event ∷ other ∷ list) is = absurd (omega (arith, is))

none_of : (list : List Event) → length list ≡ 0 → list ≡ []
none_of [] is = refl
none_of (event ∷ list) is = absurd (omega (arith, is))

-- an event after which a member saves is its own
saved_own : (r : ℕ) (event : Event) → is_saved r event ≡ true → actor event ≡ r
saved_own r event is = is_own (traits event).saves (actor event) r is

is_saved_one : (r : ℕ) (H : List Event) (event : Event)
    → generation_of r (H ++ event ∷ []) ≡ generation_of r H + 1 → is_saved r event ≡ true
is_saved_one r H event rises =
    elim (bool_cases (is_saved r event)) [
      | inl holds ↦ holds
      | inr fails ↦
          let same = sum_by-append (λ e. cond (is_saved r e) 1 0) H (event ∷ []) in
          let one : ◌≡◌ {A = ℕ} (cond (is_saved r event) 1 0) 0 = ap (λ (b : Bool). cond b 1 0) fails in
          absurd (omega (arith, rises, same, one, sum_by-cons (λ e. cond (is_saved r e) 1 0) event []))
    ]

module _ {K D : Type 0} (keep : Keep K) (disk : Disk D)
    (only_now : (d : D) (c : List ℕ) → disk.left_since d (disk.moment d) c → disk.may_leave d c)
    (volume : Volume) where
  module _ (V U : ModelWorld) (old new : Whole) (x y : List (Pair D)) (stands : WorldStandsFor volume V old)
      (stands_too : WorldStandsFor volume U new) (settled : IsSettled keep disk old x) (sound : IsWorld new)
      (stored : StoresAsMany V old U new) (extends : Extends V.events U.events) where
    -- what a crash may leave at first keeps what the world before says
    keeps_before : disk.tells → (r : ℕ) (pair : Pair D) → IsNumbered x r pair → (standing : Standing)
        → IsNumbered V.standings r standing → (a b : List ℕ) → disk.may_leave pair.a a → disk.may_leave pair.b b
        → KeepsFor volume V.events r (keep.kept a b) standing
    keeps_before told r pair is standing at a b left_a left_b =
        let here = member_from volume V old stands r (subst (λ n. IsMember n r) stands.standings at.member) in
        let member = number_exists old.members r here in
        keeps_for volume V old stands settled.sound r member.0 member.1 (keep.kept a b) standing at
        ((settled.holds told r member.0 pair member.1 is).each a b left_a left_b)

    -- a pair on which nothing is written
    between_rests : (r : ℕ) (was now : Pair D) → IsNumbered x r was → PairRests disk was now
        → PairBetween keep.kept disk volume V U r was now
    between_rests r was now is rests = record {
      keeps = λ told moments standing after at at_too a b left_a left_b.
          inl (keeps_before told r was is standing at a b
          (left_old disk only_now was.a now.a rests.leaves.a a left_a)
          (left_old disk only_now was.b now.b rests.leaves.b b left_b));
      unwritten = λ none. rests;
      spans = rests.spans;
    }

    -- the pair of a member that saves
    module _ (by : ℕ) (writes : WritesAt keep disk by old new x y) where
      is_now : IsNumbered new.members by writes.now
      is_now = subst (λ (list : List Member). IsNumbered list by writes.now) (sym writes.set)
          (number_set old.members by writes.was writes.now writes.is)

      holds_after : (found : Option Kept) → Holds found writes.next
          → Holds found writes.now.replica.saved ⊎ Holds found (latest writes.now.replica.saved writes.now.state)
      holds_after found holds =
          ⊎_elim (λ done. inl (subst (λ (s : Saved). Holds found s) (sym done.0) holds))
          (λ failed. inr (subst (λ (s : MemberState). Holds found (latest writes.now.replica.saved s)) (sym failed.2)
          (subst (λ (s : Saved). Holds found s) (sym failed.3) holds))) writes.after

      -- where stored events are raised by as many
      raises_same : raise volume V old stands ≡ raise volume U new stands_too
      raises_same = omega (
        arith,
        stored,
        length_part old.events V.events stands.stored,
        length_part new.events U.events stands_too.stored,
      )

      -- who doesn't save stands as before
      others_stand : (s : ℕ) (a b : Standing) → by ≢ s → IsNumbered V.standings s a → IsNumbered U.standings s b
          → b ≡ a
      others_stand s a b differs at at_too =
          let here = member_from volume V old stands s (subst (λ n. IsMember n s) stands.standings at.member) in
          let there = member_from volume U new stands_too s
          (subst (λ n. IsMember n s) stands_too.standings at_too.member) in
          let member = number_exists old.members s here in
          let after = number_exists new.members s there in
          let same : member.0 ≡ after.0 =
          ⊎_elim (λ set. absurd (differs (sym set.0))) (λ other. number_once member.1 other.1)
          (replaced old.members by s writes.now after.0 writes.is.member.at_least
          (subst (λ (list : List Member). IsNumbered list s after.0) writes.set after.1)) in
          standing_once volume U.events V.events (raise volume V old stands) s member.0.state b a
          (subst (λ n. StateStandsFor volume U.events n s member.0.state b) (sym raises_same)
          (subst (λ (m : Member). StateStandsFor volume U.events (raise volume U new stands_too) s m.state b) (sym same)
          (member_stands volume U new stands_too s after.0 after.1 b at_too)))
          (member_stands volume V old stands s member.0 member.1 a at)

      up_before : IsUp by V
      up_before = up_in volume V old stands by writes.was writes.is writes.up

      same_standings : writes.now.state ≡ state.Up → U.standings ≡ V.standings
      same_standings up =
          same_list U.standings V.standings (stands_too.standings ∙ sym stands.standings) (λ s b a at_too at.
          ⊎_elim
          (λ here.
          let before : a ≡ model.Up = number_once (subst (λ n. IsNumbered V.standings n a) here at) up_before in
          let after : b ≡ model.Up = number_once (subst (λ n. IsNumbered U.standings n b) here at_too)
          (up_in volume U new stands_too by writes.now is_now up) in
          after ∙ sym before)
          (λ other. others_stand s a b (λ same. other (sym same)) at at_too) (cases_eq s by))

      set_standings : (event : Event) → IsNumbered U.standings by (model.Down (Some event))
          → U.standings ≡ slice_set V.standings (by - 1) (model.Down (Some event))
      set_standings event down =
          same_list U.standings (slice_set V.standings (by - 1) (model.Down (Some event)))
          (stands_too.standings ∙ sym stands.standings
          ∙ sym (length-set V.standings (by - 1) (model.Down (Some event)))) (λ s b a at_too at.
          ⊎_elim
          (λ here. number_once (subst (λ n. IsNumbered U.standings n b) here.0 at_too) down ∙ sym here.1)
          (λ other. others_stand s a b other.0 other.1 at_too)
          (replaced V.standings by s (model.Down (Some event)) a up_before.member.at_least at))

      begins : BeginsSave V U by
      begins =
          ⊎_elim
          (λ done.
          let grown = ap (λ (l : List Event). length l) done.3 ∙ length_push old.events done.2 in
          let parts = ap (λ (l : List Event). length l) extends.is ∙ length-append V.events extends.later in
          let one = one_of extends.later (omega (arith, stored, grown, parts)) in
          let events : U.events ≡ V.events ++ one.0 ∷ [] =
          extends.is ∙ ap (λ (l : List Event). V.events ++ l) one.1 in
          let before = (replica_stands volume V old stands by writes.was writes.is).saved.generation in
          let after = (replica_stands volume U new stands_too by writes.now is_now).saved.generation in
          let rises : generation_of by (V.events ++ one.0 ∷ []) ≡ generation_of by V.events + 1 =
          ap (generation_of by) (sym events) ∙ sym after ∙ ap (λ (s : Saved). s.generation) done.0 ∙ writes.above
          ∙ ap (λ n. n + 1) before in
          let saves : is_saved by one.0 ≡ true = is_saved_one by V.events one.0 rises in
          record {
            up = up_before;
            event = one.0;
            own = saved_own by one.0 saves;
            so = inl (events, same_standings done.1, saves);
          })
          (λ failed.
          let standing = standing_of volume U new stands_too by is_now.member in
          let stood = member_stands volume U new stands_too by writes.now is_now standing.0 standing.1 in
          let down = pending_standing volume U.events (raise volume U new stands_too) by writes.now.state standing.0
          failed.1 failed.2 stood in
          let parts = ap (λ (l : List Event). length l) extends.is ∙ length-append V.events extends.later in
          let same = ap (λ (l : List Event). length l) failed.4 in
          let nothing = none_of extends.later (omega (arith, stored, same, parts)) in
          record {
            up = up_before;
            event = down.0;
            own = down.2;
            so = inr (
              extends.is ∙ ap (λ (l : List Event). V.events ++ l) nothing ∙ append-nil V.events,
              set_standings down.0 (subst (λ (s : Standing). IsNumbered U.standings by s) down.1 standing.1),
            );
          }) writes.after

      between_writes : PairBetween keep.kept disk volume V U by writes.pair writes.now_pair
      between_writes = record {
        keeps = λ told moments standing after at at_too a b left_a left_b.
            ⊎_elim
            (λ holds. inl (keeps_for volume V old stands settled.sound by writes.was writes.is (keep.kept a b) standing
            at (inl holds)))
            (λ holds. inr (
              begins,
              keeps_for volume U new stands_too sound by writes.now is_now (keep.kept a b) after
                  at_too (holds_after (keep.kept a b) holds),
            ))
            ((writes.between told moments).each a b left_a left_b);
        unwritten = λ none. absurd (none begins);
        spans = writes.spans;
      }

    -- of all pairs
    set_between : (by : ℕ) (before after : Pair D) → IsNumbered x by before → y ≡ slice_set x (by - 1) after
        → PairBetween keep.kept disk volume V U by before after
        → Neighbours keep.kept disk volume V U x y
    set_between by before after is set between = record {
      count = ap (λ (list : List (Pair D)). length list) set ∙ length-set x (by - 1) after;
      each = λ r was now is_was is_now.
          ⊎_elim
          (λ here.
          let found : IsNumbered x by was = subst (λ n. IsNumbered x n was) here.0 is_was in
          let first : before ≡ was = number_once is found in
          subst (λ n. PairBetween keep.kept disk volume V U n was now) (sym here.0)
          (subst (λ (p : Pair D). PairBetween keep.kept disk volume V U by p now) first
          (subst (λ (p : Pair D). PairBetween keep.kept disk volume V U by before p) (sym here.1) between)))
          (λ other.
          let same : was ≡ now = number_once is_was other.1 in
          subst (λ (p : Pair D). PairBetween keep.kept disk volume V U r was p) same
          (between_rests r was was is_was (rests_none disk was)))
          (replaced x by r after now is.member.at_least
          (subst (λ (list : List (Pair D)). IsNumbered list r now) set is_now));
    }

  -- what is touched leaves neighbours
  pub neighbours : (V U : ModelWorld) (old new : Whole) (x y : List (Pair D)) → WorldStandsFor volume V old
      → WorldStandsFor volume U new → IsSettled keep disk old x → IsWorld new → StoresAsMany V old U new
      → Extends V.events U.events → Touches keep disk old new x y → Neighbours keep.kept disk volume V U x y
  neighbours V U old new x y stands stands_too settled sound stored extends TouchesNone = record {
    count = refl;
    each = λ r was now is_was is_now.
        let same : was ≡ now = number_once is_was is_now in
        subst (λ (p : Pair D). PairBetween keep.kept disk volume V U r was p) same
        (between_rests V U old new x x stands stands_too settled sound stored extends r was was is_was (rests_none disk was));
  }
  neighbours V U old new x y stands stands_too settled sound stored extends (TouchesOne {by = by} member rests) =
      set_between V U old new x y stands stands_too settled sound stored extends by rests.was rests.now rests.is rests.set
      (between_rests V U old new x y stands stands_too settled sound stored extends by rests.was rests.now rests.is rests.rests)
  neighbours V U old new x y stands stands_too settled sound stored extends (WritesOne {by = by} writes) =
      set_between V U old new x y stands stands_too settled sound stored extends by writes.pair writes.now_pair writes.is_pair
      writes.set_pair (between_writes V U old new x y stands stands_too settled sound stored extends by writes)

  -- where a world passes on, what it stands for does
  pub record Lifted (IsLink : Command → Type 0) (W : ModelWorld) (old new : Whole) (x y : List (Pair D)) : Type 0 where
    pub after : ModelWorld
    pub stands : WorldStandsFor volume after new
    pub trail : Trail keep.kept disk volume W after x y
    pub own : EachLink IsLink trail
    pub stored : StoresAsMany W old after new
    pub extends : Extends W.events after.events

  module _ {IsLink : Command → Type 0} (tells : Type 0) (told : tells) (disks_told : disk.tells) where
    pub lift : (W : ModelWorld) (old new : Whole) (x y : List (Pair D)) → WorldStandsFor volume W old
        → Passes tells keep disk IsLink old new x y → Lifted IsLink W old new x y
    lift W old new x y stands (Idles settled touches) = record {
      after = W;
      stands = stands;
      trail = Still (neighbours W W old old x y stands stands settled settled.sound refl (as_it_was W.events)
          touches);
      own = tt;
      stored = refl;
      extends = as_it_was W.events;
    }
    lift W old new x y stands (Links {command = command} {outcomes = outcomes} {answer = answer} of settled after moves touches spared) =
        let follows = follow tells disk.tells told volume W old stands command (λ opens. disks_told) outcomes answer new
        moves in
        record {
          after = follows.after;
          stands = follows.stands;
          trail = Link follows.step (neighbours W follows.after old new x y stands follows.stands settled after.sound
              follows.stored (step_extends follows.step) touches) (λ r refused spares.
              spared (no_opening old command r spares)
              (refused_members tells disk.tells old new command outcomes r
              (subst (λ (given : Answer). Moves tells disk.tells old command outcomes given new) refused moves) spares));
          own = of;
          stored = follows.stored;
          extends = step_extends follows.step;
        }
    lift W old new x y stands (Joins {middle = middle} {mid = mid} one two) =
        let first = lift W old middle x mid stands one in
        let second = lift first.after middle new mid y first.stands two in
        record {
          after = second.after;
          stands = second.stands;
          trail = Joined first.trail second.trail;
          own = (first.own, second.own);
          stored = omega (arith, first.stored, second.stored);
          extends = further first.extends second.extends;
        }
