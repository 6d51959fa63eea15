-- What actions on a world do to it and to its disks, whatever they are.
use Rattle.std.proofs.Common.{◌≡◌, ◌≢◌, ℕ, ◌+◌, ◌≤◌, List, Result, Ok, Err, length, refl, sym, ap, subst, ◌∙◌, arith}
use Rattle.std.specs.Prelude.{IsErrOf}
use Rattle.ficus_disk.specs.declared.disk.Disk.{Ghosts as Disk}
use Rattle.ficus_disk.specs.declared.pair.Pair.{Pair}
use Rattle.ficus_ids.specs.Members.{IsMember}
use Rattle.ficus_ids.specs.declared.refusal.Refusal.{Refusal}
use Rattle.ficus_ids.specs.declared.refusal.Refusal.TheVariants.{Memory}
use Rattle.ficus_keeper.specs.declared.keep.Keep.{Ghosts as Keep}
use Rattle.ficus_runs.specs.Numbered.{IsNumbered}
use Rattle.ficus_stable_storage.specs.declared.stable.Stable.{Stable}
use Rattle.ficus_world.specs.Acts.{Acts, ActsOn, StaysAt}
use Rattle.ficus_world.specs.Calls.{CommitsNext}
use Rattle.ficus_world.specs.Post.{Outbox}
use Rattle.ficus_model.specs.declared.event.Event.{Event}
use Rattle.ficus_opening.specs.declared.member.Pending.{Pending}
use Rattle.ficus_opening.specs.Disks.{AreDisksOf, ArePairsOf}
use Rattle.ficus_world.specs.Disks.{IsBacked}
use Rattle.ficus_world.specs.Kills.{IsSettled, Passes, WritesAt}
use Rattle.ficus_opening.specs.Rests.{OthersStay, RestsAt}
use Rattle.ficus_world.specs.Kills.Passes.{Idles, Joins}
use Rattle.ficus_world.specs.Kills.Touches.{TouchesNone, TouchesOne, WritesOne}
use Rattle.ficus_opening.specs.declared.member.Member.{Member}
use Rattle.ficus_world.specs.World.{Backed, Whole, backed_by, whole_of}
use Rattle.ficus_world.proofs.Disks.{disks_same, follows_none}
use Rattle.ficus_world.proofs.Fuses.{fuses_none}
use Rattle.ficus_opening.proofs.Openings.{pairs_of}
use Rattle.ficus_opening.proofs.Rests.{rests_count}
use Rattle.ficus_world.proofs.Keeps.{kept_count, kept_grows}
use Rattle.ficus_world.proofs.Kills.{rests_same, touches_others, writes_count}
use Rattle.ficus_world.proofs.Moved.{same_refusal}
use Rattle.ficus_opening.proofs.Others.{others_none, others_then}
use Rattle.ficus_script.specs.declared.command.Command.{Command}
use Rattle.ficus_world.proofs.Passing.{passes_of}
use Rattle.ficus_world.proofs.Pulling.{stays}
use Rattle.ficus_world.proofs.Sparing.{spared_none, writes_change}

module _ {K D : Type 0} {keep : Keep K} {disk : Disk D} where
  -- disks stand under a world of the same members
  still_backed : {old new : Whole} {stables : List (Stable K)} {x : List (Pair D)} → new.members ≡ old.members
      → IsBacked keep disk (backed_by old stables) x → IsBacked keep disk (backed_by new stables) x
  still_backed {old} {new} {stables} {x} same backed =
      subst (λ (list : List Member). IsBacked keep disk (backed_by (record new { members = list }) stables) x) (sym same)
      (record { pairs = backed.pairs; disks = backed.disks })

  -- nothing is done
  pub acts_none : {A : Type 0} {most : ℕ} {result : Result A Refusal} {world : Backed K} {x : List (Pair D)}
      → IsBacked keep disk world x → Acts keep disk most result world world x x
  acts_none {x = x} backed = record {
    grows = omega arith;
    members = refl;
    stables = refl;
    memory = λ is. stays x refl;
    touches = TouchesNone;
    spared = λ same. spared_none disk x;
    backed = backed;
  }

  -- whatever is given
  pub acts_done : {A B : Type 0} {most : ℕ} {a : A} {b : B} {old new : Backed K} {x y : List (Pair D)}
      → Acts keep disk most (Ok a) old new x y → Acts keep disk most (Ok b) old new x y
  acts_done acts = record {
    grows = acts.grows;
    members = acts.members;
    stables = acts.stables;
    memory = λ is. absurd (cc);
    touches = acts.touches;
    spared = acts.spared;
    backed = acts.backed;
  }

  -- and whatever would have been given
  pub acts_refused : {A B : Type 0} {most : ℕ} (r : Refusal) {old new : Backed K} {x y : List (Pair D)}
      → Acts {A = A} keep disk most (Err r) old new x y → Acts {A = B} keep disk most (Err r) old new x y
  acts_refused r acts = record {
    grows = acts.grows;
    members = acts.members;
    stables = acts.stables;
    memory = λ is. acts.memory (same_refusal r Memory is);
    touches = acts.touches;
    spared = acts.spared;
    backed = acts.backed;
  }

  -- nothing is asked of the disks, and the members stay
  pub quiet_acts : {A : Type 0} {most : ℕ} {result : Result A Refusal} {old new : Whole} {stables : List (Stable K)}
      {x : List (Pair D)} → length new.events ≤ length old.events + most → new.members ≡ old.members
      → (IsErrOf result Memory → new ≡ old) → IsBacked keep disk (backed_by old stables) x
      → Acts keep disk most result (backed_by old stables) (backed_by new stables) x x
  quiet_acts {x = x} grows members memory backed = record {
    grows = grows;
    members = ap (λ (list : List Member). length list) members;
    stables = refl;
    memory = λ is. stays x (memory is);
    touches = TouchesNone;
    spared = λ same. spared_none disk x;
    backed = still_backed members backed;
  }

  -- room is taken, and no more
  pub ready_acts : {A : Type 0} {most by : ℕ} {result : Result A Refusal} {world : Whole}
      {stables now_stables : List (Stable K)} {x y : List (Pair D)} → IsMember (length world.members) by
      → StaysAt keep disk by stables now_stables x y → IsBacked keep disk (backed_by world stables) x
      → Acts keep disk most result (backed_by world stables) (backed_by world now_stables) x y
  ready_acts {world = world} member ready backed =
      let pairs = rests_count ready.rests in
      record {
        grows = omega arith;
        members = refl;
        stables = ready.count;
        memory = λ is. record { same = refl; disks = (ready.follows world.members).disks };
        touches = TouchesOne member ready.rests;
        spared = λ same. ready.spared;
        backed = record {
          pairs = omega (arith, backed.pairs, pairs);
          disks = ready.disks world.members world.members refl backed.disks;
        };
      }

  -- a member saves, or fails to
  pub saved_acts : {A : Type 0} {by : ℕ} {result : Result A Refusal} (old new : Whole)
      {stables now_stables : List (Stable K)} {x y : List (Pair D)} → length new.events ≤ length old.events + 1
      → length new.members ≡ length old.members → length now_stables ≡ length stables → result ≢ Err Memory
      → WritesAt keep disk by old new x y → AreDisksOf keep disk new.members now_stables y
      → IsBacked keep disk (backed_by old stables) x
      → Acts keep disk 1 result (backed_by old stables) (backed_by new now_stables) x y
  saved_acts {by = by} old new {x = x} grows members counted no_memory writes are backed =
      let pairs = writes_count writes in
      record {
        grows = grows;
        members = members;
        stables = counted;
        memory = λ is. absurd (no_memory is);
        touches = WritesOne writes;
        spared = λ same. absurd (writes_change writes same);
        backed = record {
          pairs = omega (arith, members, backed.pairs, pairs);
          disks = are;
        };
      }

  -- room is taken, and then it does, or fails to
  pub kept_acts : {A B : Type 0} {by : ℕ} {next : Pending} {result : Result A Refusal} {kept : Result B Refusal}
      {old now : Whole} {members : List Member} {reserved events : List Event}
      {stables mid_stables new_stables : List (Stable K)} {x y z : List (Pair D)} (after : Outbox) → old ≡ now
      → reserved ≡ old.events → (was : Member) → IsNumbered now.members by was → length stables ≡ length now.members
      → IsBacked keep disk (backed_by now stables) x → StaysAt keep disk by stables mid_stables x y
      → CommitsNext keep disk by next kept old.members members reserved events mid_stables new_stables y z
      → (ArePairsOf keep disk old.members x → RestsAt disk by x y
      → WritesAt keep disk by old (whole_of members events after) y z
      → WritesAt keep disk by old (whole_of members events after) x z) → result ≢ Err Memory
      → Acts keep disk 1 result (backed_by now stables) (backed_by (whole_of members events after) new_stables) x z
  kept_acts {A} {B} {by} {next} {result} {kept} {old} {now} {members} {reserved} {events} {stables} {mid_stables}
      {new_stables} {x} {y} {z} after same stores was is counted backed stays keeps joins no_memory =
      subst (λ (w : Whole). IsNumbered w.members by was → length stables ≡ length w.members
      → IsBacked keep disk (backed_by w stables) x
      → Acts keep disk 1 result (backed_by w stables) (backed_by (whole_of members events after) new_stables) x z) same
      (λ is counted backed.
      let kept_next = subst (λ (list : List Event). CommitsNext keep disk by next kept old.members members list events
      mid_stables new_stables y z) stores keeps in
      saved_acts old (whole_of members events after)
      (kept_grows old by next members events kept kept_next.stored kept_next.kept)
      (kept_count old by next members events kept was is kept_next.held kept_next.pending)
      (kept_next.count ∙ stays.count) no_memory
      (joins (pairs_of keep disk old.members stables x counted backed.disks) stays.rests (kept_next.writes old.post after))
      kept_next.disks backed) is counted backed

  module _ {tells : Type 0} {IsLink : Command → Type 0} where
    -- none
    pub acts_idle : {world : Backed K} {x : List (Pair D)} → IsBacked keep disk world x
        → ActsOn tells keep disk IsLink world world x x
    acts_idle {world} {x} backed = record {
      members = refl;
      passes = λ before after. Idles before TouchesNone;
      others = others_none (length world.whole.members) x;
      backed = backed;
    }

    -- one
    pub acts_once : {A : Type 0} {most : ℕ} {result : Result A Refusal} {old new : Backed K} {x y : List (Pair D)}
        → Acts keep disk most result old new x y
        → (IsSettled keep disk old.whole x → IsSettled keep disk new.whole y
        → Passes tells keep disk IsLink old.whole new.whole x y)
        → ActsOn tells keep disk IsLink old new x y
    acts_once acts passes = record {
      members = acts.members;
      passes = passes;
      others = touches_others acts.touches;
      backed = acts.backed;
    }

    -- some, and then others
    pub acts_then : {old middle new : Backed K} {x y z : List (Pair D)} → ActsOn tells keep disk IsLink old middle x y
        → IsSettled keep disk middle.whole y → ActsOn tells keep disk IsLink middle new y z
        → ActsOn tells keep disk IsLink old new x z
    acts_then {old} {x = x} {y = y} {z = z} first settled second = record {
      members = second.members ∙ first.members;
      passes = λ before after. Joins (first.passes before settled) (second.passes settled after);
      others = others_then (length old.whole.members) x y z first.others
          (subst (λ n. OthersStay n y z) first.members second.others);
      backed = second.backed;
    }

    -- so they do, of whatever other kind their links are too
    pub acts_of : {More : Command → Type 0} {old new : Backed K} {x y : List (Pair D)}
        → ((link : Command) → IsLink link → More link) → ActsOn tells keep disk IsLink old new x y
        → ActsOn tells keep disk More old new x y
    acts_of more acts = record {
      members = acts.members;
      passes = λ before after. passes_of more (acts.passes before after);
      others = acts.others;
      backed = acts.backed;
    }

  -- no room is taken
  pub stays_same : (by : ℕ) {stables : List (Stable K)} {x : List (Pair D)} (pair : Pair D) → IsNumbered x by pair
      → StaysAt keep disk by stables stables x x
  stays_same by {x = x} pair is = record {
    disks = disks_same;
    follows = λ members. record { disks = follows_none; fuses = fuses_none };
    rests = rests_same disk by x pair is;
    spared = spared_none disk x;
    count = refl;
  }
