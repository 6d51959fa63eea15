-- A full link alone stops a sweep, where all members are up and nothing fails.
use Rattle.std.proofs.Common.{◌≡◌, ◌≢◌, ℕ, zero, suc, ◌+◌, ◌-◌, ◌<◌, ◌≤◌, true, List, [], ◌∷◌, ◌++◌, Result, Ok, Err, refl, sym, ap, subst, inl, inr, arith}
use Rattle.ficus_ids.specs.Members.{IsMember}
use Rattle.ficus_ids.specs.declared.refusal.Refusal.{Refusal}
use Rattle.ficus_ids.specs.declared.refusal.Refusal.TheVariants as refusal
use Rattle.ficus_model.specs.declared.event.Event.{Event}
use Rattle.ficus_model.specs.declared.event.Event.TheVariants as event
use Rattle.ficus_model.specs.Lawful.{Volume, IsLawful, MayCome}
use Rattle.ficus_laws.proofs.Lawful.{lawful_more}
use Rattle.ficus_rules.specs.Rule.{Gives, Tells}
use Rattle.ficus_script.specs.declared.answer.Answer.{Answer}
use Rattle.ficus_script.specs.declared.answer.Answer.TheVariants.{Refused}
use Rattle.ficus_script.specs.declared.command.Command.TheVariants as command
use Rattle.ficus_script.specs.declared.order.Order.{Order}
use Rattle.ficus_script.specs.declared.order.Order.TheVariants.{Star, Ring}
use Rattle.ficus_runs.specs.Actions.{ModelAction, AtPeers, Wants, Adds, Saves, Posts, Fetches, with_event}
use Rattle.ficus_runs.specs.Actions.Adds.{Added}
use Rattle.ficus_runs.specs.Actions.Saves.{Saved, NotSaved}
use Rattle.ficus_runs.specs.Actions.Posts.{IsPosted, NotPosted}
use Rattle.ficus_runs.specs.Actions.Fetches.{Fetched, NotFetched}
use Rattle.ficus_runs.specs.Answers.{answer_as}
use Rattle.ficus_runs.specs.Exchange.{Asks, Behind, AnAsk, APiece, ComesToTaking, GivesEach, GivesMail, Handles, LiesBehind, PostsEach, Serves, Taken, Taking, Again, OneMore, TakesPiece, TheLast, mails_of, receiver}
use Rattle.ficus_runs.specs.Exchange.ComesToTaking.{IsMissing, Completes}
use Rattle.ficus_runs.specs.Exchange.LiesBehind.{IsAsk, IsPiece}
use Rattle.ficus_runs.specs.ModelWorld.{ModelWorld, Posted, IsUp}
use Rattle.ficus_runs.specs.Outcomes.{NothingFails}
use Rattle.ficus_runs.specs.Peers.{ArePeers}
use Rattle.ficus_runs.specs.Run.{Does}
use Rattle.ficus_runs.specs.Sequence.{ByRule, First, Effect, joined, unchanged}
use Rattle.ficus_runs.specs.Sequence.First.{Ends, Goes}
use Rattle.ficus_runs.specs.Sequence.ByRule.{Says}
use Rattle.ficus_runs.specs.Sweep.{Collecting, CollectsAt, DoesSweepStep, Leg, Collects, Gathers, HandsOn, Pulling, PullsFrom, Spreads, SweepStep, Swept, Sweeps, leg_step, leg_steps, none_swept, ring_round, star_round, sweep_steps, with_answer}
use Rattle.ficus_runs.specs.Sweeps.Laws.{GoesThrough, StopsAtPull, SweepsGoThrough}
use Rattle.ficus_runs.specs.Sweeps.Laws.GoesThrough.{IsCounted, IsFull}
use Rattle.ficus_runs.proofs.Never.{of_asking}
use Rattle.ficus_runs.proofs.Outcomes.{nothing_fails_both}
use Rattle.ficus_runs.proofs.Pulls.{pull_refused}
use Rattle.ficus_runs.proofs.sweeps.Stopping.{pull_full}
use Rattle.ficus_runs.proofs.Up.{link_failed, save_failed}

module _ (volume : Volume) where
  -- what has happened is lawful, and all members are up
  record IsReady (W : ModelWorld) : Type 0 where
    lawful : IsLawful volume W.events
    up : (r : ℕ) → IsMember volume.members r → IsUp r W

  -- refused so at most; of refusals apart from asking, serving and saving nothing is said
  abbrev MayStop : Refusal → Type 0
  MayStop refusal.Member = ⊥
  MayStop refusal.Down = ⊥
  MayStop refusal.Link = ⊥
  MayStop refusal.Store = ⊥
  MayStop other = Unit {0}

  -- what comes of an action: the world is ready still, or it is refused so
  abbrev ComesOf : {A : Type 0} → Result A Refusal → ModelWorld → Type 0
  ComesOf (Ok a) V = IsReady V
  ComesOf (Err r) V = MayStop r

  -- so it is where the action begins in a ready world, and nothing fails
  abbrev Passes : (A : Type 0) → ModelWorld → ModelAction A → Type 0
  Passes A W does =
      (result : Result A Refusal) (left : Effect ModelWorld) → IsReady W → NothingFails left.outcomes
      → does W result left → ComesOf result left.after

  passes_behind : {A B : Type 0} (first : ModelAction A) (rest : A → ModelAction B) (W : ModelWorld)
      → Passes A W first
      → ((a : A) (left : Effect ModelWorld) → first W (Ok a) left → Passes B left.after (rest a))
      → Passes B W (First first rest)
  passes_behind first rest W passes behind result left ready none (Ends {refusal = r} is) =
      passes (Err r) left ready none is
  passes_behind first rest W passes behind result left ready none (Goes {a = a} {middle = m} {left = l} is next) =
      let parts = nothing_fails_both m.outcomes l.outcomes none in
      behind a m is result l (passes (Ok a) m ready parts.0 is) parts.1 next

  -- where this is so, or else may stop it
  wants_pass : (good : ModelWorld → Type 0) (r : Refusal) (W : ModelWorld)
      → (IsReady W → (good W → ⊥) → MayStop r) → Passes (Unit {0}) W (Wants good r)
  wants_pass good r W stops (Ok a) left ready none (Says is) = ready
  wants_pass good r W stops (Err s) left ready none (Says (inl refused)) =
      subst MayStop (sym refused.1) (stops ready refused.0)
  wants_pass good r W stops (Err s) left ready none (Says (inr nothing)) = absurd nothing.1

  wanted : {B : Type 0} (good : ModelWorld → Type 0) (r : Refusal) (rest : Unit {0} → ModelAction B) (W : ModelWorld)
      → (IsReady W → (good W → ⊥) → MayStop r) → ((a : Unit {0}) → good W → Passes B W (rest a))
      → Passes B W (First (Wants good r) rest)
  wanted {B} good r rest W stops behind =
      passes_behind (Wants good r) rest W (wants_pass good r W stops) (λ a left is. go a left is)
    where
      go : (a : Unit {0}) (left : Effect ModelWorld) → Wants good r W (Ok a) left → Passes B left.after (rest a)
      go a left (Says is) = behind a is.0

  tells_pass : {A B : Type 0} (told_as : A → B) (is_so : ModelWorld → A → Type 0) (W : ModelWorld)
      → Passes B W (ByRule (λ V. Tells told_as (is_so V)))
  tells_pass told_as is_so W (Ok b) left ready none (Says is) = ready
  tells_pass told_as is_so W (Err s) left ready none (Says nothing) = absurd nothing

  told : {A B : Type 0} (is_so : ModelWorld → A → Type 0) (rest : A → ModelAction B) (W : ModelWorld)
      → ((a : A) → is_so W a → Passes B W (rest a))
      → Passes B W (First (ByRule (λ V. Tells (λ (a : A). a) (is_so V))) rest)
  told {A} {B} is_so rest W behind =
      passes_behind (ByRule (λ V. Tells (λ (a : A). a) (is_so V))) rest W (tells_pass (λ (a : A). a) is_so W)
      (λ a left is. go a left is)
    where
      go : (a : A) (left : Effect ModelWorld) → ByRule (λ V. Tells (λ (a : A). a) (is_so V)) W (Ok a) left
          → Passes B left.after (rest a)
      go a left (Says is) = behind a (subst (is_so W) (sym is.2) is.1)

  gives_pass : {A : Type 0} (given : ModelWorld → A) (W : ModelWorld)
      → Passes A W (ByRule (λ V. Gives (given V)))
  gives_pass given W (Ok b) left ready none (Says is) = ready
  gives_pass given W (Err s) left ready none (Says nothing) = absurd nothing

  happened : (W : ModelWorld) (next : Event) → MayCome volume W.events next → IsReady W → IsReady (with_event W next)
  happened W next may ready = record { lawful = lawful_more volume W.events next ready.lawful may; up = ready.up }

  adds_pass : {A : Type 0} (given : ModelWorld → A) (next : Event) (W : ModelWorld) → MayCome volume W.events next
      → Passes A W (Adds given next)
  adds_pass given next W may result left ready none Added = happened W next may ready

  saves_pass : {A : Type 0} (given : ModelWorld → A) (by : ℕ) (next : Event) (W : ModelWorld)
      → MayCome volume W.events next → Passes A W (Saves given by next)
  saves_pass given by next W may result left ready none Saved = happened W next may ready
  saves_pass given by next W may result left ready none NotSaved = absurd (save_failed by none)

  posts_pass : (behind : Posted) (size : ℕ) (W : ModelWorld) → Passes ℕ W (Posts behind size)
  posts_pass behind size W result left ready none IsPosted = record { lawful = ready.lawful; up = ready.up }
  posts_pass behind size W result left ready none NotPosted = absurd (link_failed none)

  fetches_pass : (W : ModelWorld) → Passes (Unit {0}) W Fetches
  fetches_pass W result left ready none Fetched = ready
  fetches_pass W result left ready none NotFetched = absurd (link_failed none)

  module _ (by to : ℕ) (peers : ArePeers volume.members by to) where
    at_peers_pass : (W : ModelWorld) → Passes (Unit {0}) W (AtPeers volume by to)
    at_peers_pass W =
        wanted _ _ _ W (λ ready not_so. not_so peers)
        (λ a is. wants_pass _ _ W (λ ready not_so. not_so (ready.up by peers.first, ready.up to peers.second)))

    asks_pass : (W : ModelWorld) → Passes ℕ W (Asks volume by to)
    asks_pass W =
        wanted _ _ _ W
        (λ ready not_so. not_so (record { member = peers.first; other = peers.second; differ = peers.differ }))
        (λ a may. wanted _ _ _ W (λ ready not_so. not_so (ready.up by peers.first))
        (λ b up. told _ _ W
        (λ message composed. wanted _ _ _ W (λ ready not_so. tt)
        (λ c room. passes_behind _ _ W (saves_pass _ by (event.Ask by to) W may)
        (λ position left saved. posts_pass _ _ left.after)))))

  posts_each_pass : (position index : ℕ) (sizes : List ℕ) (W : ModelWorld)
      → Passes (Unit {0}) W (PostsEach position index sizes)
  posts_each_pass position index [] W = gives_pass _ W
  posts_each_pass position index (size ∷ sizes) W =
      passes_behind _ _ W (posts_pass _ _ W)
      (λ number left posted. posts_each_pass position (index + 1) sizes left.after)

  serves_pass : (server ask : ℕ) (W : ModelWorld) → Passes Answer W (Serves volume server ask)
  serves_pass server ask W =
      told _ _ W
      (λ served now. wanted _ _ _ W (λ ready not_so. tt)
      (λ a room. passes_behind _ _ W (adds_pass _ _ W now.may)
      (λ position left added. passes_behind _ _ left.after (gives_pass _ left.after)
      (λ first then given. passes_behind _ _ then.after (posts_each_pass position 0 _ then.after)
      (λ posted last sent. gives_pass _ last.after)))))

  taken_pass : (asker serve index pieces : ℕ) (taking : Taking) (W : ModelWorld)
      → ComesToTaking volume W.events asker serve index pieces taking
      → Passes Answer W (Taken asker serve index pieces taking)
  taken_pass asker serve index pieces (Again have) W comes = gives_pass _ W
  taken_pass asker serve index pieces (OneMore have) W (IsMissing may counts) = adds_pass _ _ W may
  taken_pass asker serve index pieces TheLast W (Completes may) = saves_pass _ _ _ W may

  takes_pass : (serve asker index pieces : ℕ) (W : ModelWorld)
      → Passes Answer W (TakesPiece volume serve asker index pieces)
  takes_pass serve asker index pieces W =
      wanted _ _ _ W (λ ready not_so. tt)
      (λ a answers. wanted _ _ _ W (λ ready not_so. tt)
      (λ b one. told _ _ W (λ taking comes. taken_pass asker serve index pieces taking W comes)))

  handles_pass : (behind : Behind) (W : ModelWorld) → Passes Answer W (Handles volume behind)
  handles_pass (AnAsk position server) W = serves_pass server position W
  handles_pass (APiece position asker index pieces) W = takes_pass position asker index pieces W

  -- a message goes to a member
  receiver_member : (W : ModelWorld) (number : ℕ) (found : Behind) → IsLawful volume W.events
      → LiesBehind W number found → IsMember volume.members (receiver found)
  receiver_member W number (AnAsk position server) lawful (IsAsk {asker = asker} is at) =
      (lawful.each position (event.Ask asker server) at).other
  receiver_member W number (APiece position asker index pieces) lawful
      (IsPiece {ask = ask} {server = server} is at asked) =
      (lawful.each ask (event.Ask asker server) asked).member

  gives_mail_pass : (number : ℕ) (W : ModelWorld) → Passes Answer W (GivesMail volume number)
  gives_mail_pass number W =
      wanted _ _ _ W (λ ready not_so. tt)
      (λ a some. passes_behind _ _ W (fetches_pass W)
      (λ fetched left fetches. told _ _ left.after
      (λ found lies. wanted _ _ _ left.after
      (λ ready not_so. not_so (ready.up (receiver found) (receiver_member left.after number found ready.lawful lies)))
      (λ b up. handles_pass found left.after))))

  gives_each_pass : (numbers : List ℕ) (W : ModelWorld) → Passes Answer W (GivesEach volume numbers)
  gives_each_pass [] W = gives_pass _ W
  gives_each_pass (number ∷ numbers) W =
      passes_behind _ _ W (gives_mail_pass number W) (λ given left gives. gives_each_pass numbers left.after)

  pulls_pass : (by to : ℕ) → ArePeers volume.members by to → (W : ModelWorld) → Passes Answer W (PullsFrom volume by to)
  pulls_pass by to peers W =
      passes_behind _ _ W (at_peers_pass by to peers W)
      (λ a found finds. passes_behind _ _ found.after (asks_pass by to peers found.after)
      (λ number asked asks. passes_behind _ _ asked.after (gives_mail_pass number asked.after)
      (λ given left gives. gives_each_pass (mails_of given) left.after)))

  collects_pass : (by : ℕ) → IsMember volume.members by → (W : ModelWorld) → Passes Answer W (CollectsAt volume by)
  collects_pass by member W =
      passes_behind _ _ W
      (wanted _ _ _ W (λ ready not_so. not_so member) (λ a is. wants_pass _ _ W (λ ready not_so. not_so (ready.up by member))))
      (λ a found finds. passes_behind _ _ found.after (tells_pass _ _ found.after)
      (λ counted left counts. saves_pass _ by (event.Collect by) left.after member))

  -- the link is full, where it may stop so, and is refused as asking, serving and saving are
  stopped : (r : Refusal) → of_asking r ≡ true → MayStop r → r ≡ refusal.LinkFull
  stopped refusal.Member asking may = absurd may
  stopped refusal.Down asking may = absurd may
  stopped refusal.LinkFull asking may = refl
  stopped refusal.Link asking may = absurd may
  stopped refusal.Store asking may = absurd may
  stopped other asking may = absurd (cc)

  -- it is, and the steps in front of a pull are done for which it lacks room
  record IsStopped (steps : List SweepStep) (before : Swept) (W : ModelWorld) (r : Refusal) (V : ModelWorld) :
      Type 0 where
    full : r ≡ refusal.LinkFull
    at : StopsAtPull volume steps before W V

  -- the members of a step are of the volume
  abbrev IsStep : SweepStep → Type 0
  IsStep (Pulling by to) = ArePeers volume.members by to
  IsStep (Collecting by) = IsMember volume.members by

  abbrev AreSteps : List SweepStep → Type 0
  AreSteps [] = Unit {0}
  AreSteps (step ∷ steps) = IsStep step × AreSteps steps

  step_passes : (step : SweepStep) → IsStep step → (W : ModelWorld) → Passes Answer W (DoesSweepStep volume step)
  step_passes (Pulling by to) peers W = pulls_pass by to peers W
  step_passes (Collecting by) member W = collects_pass by member W

  -- a collection isn't refused
  collect_stopped : (by : ℕ) (W : ModelWorld) (r : Refusal) (left : Effect ModelWorld) → NothingFails left.outcomes
      → IsMember volume.members by → IsReady W → CollectsAt volume by W (Err r) left → ⊥
  collect_stopped by W r left none member ready (Ends (Ends (Says (inl not_so)))) = not_so.0 member
  collect_stopped by W r left none member ready (Ends (Ends (Says (inr nothing)))) = nothing.1
  collect_stopped by W r left none member ready (Ends (Goes (Says is) (Says (inl not_so)))) = not_so.0 (ready.up by member)
  collect_stopped by W r left none member ready (Ends (Goes (Says is) (Says (inr nothing)))) = nothing.1
  collect_stopped by W r left none member ready (Goes (Goes (Says is) (Says up)) (Ends (Says nothing))) = nothing
  collect_stopped by W r left none member ready (Goes (Goes (Says is) (Says up)) (Goes (Says counts) NotSaved)) =
      save_failed by none

  step_stopped : (step : SweepStep) (more : List SweepStep) (before : Swept) (W : ModelWorld) (r : Refusal)
      (left : Effect ModelWorld) → NothingFails left.outcomes → IsStep step → IsReady W
      → DoesSweepStep volume step W (Err r) left → IsStopped (step ∷ more) before W r left.after
  step_stopped (Pulling by to) more before W r left none peers ready does =
      let full = stopped r (pull_refused volume W by to r left does)
      (pulls_pass by to peers W (Err r) left ready none does) in
      record {
        full = full;
        at = record {
          done = [];
          by = by;
          to = to;
          more = more;
          is = refl;
          swept = before;
          left = unchanged W;
          sweeps = Says refl;
          lacks = pull_full volume W by to r full left does;
        };
      }
  step_stopped (Collecting by) more before W r left none member ready does =
      absurd (collect_stopped by W r left none member ready does)

  -- steps, one after the other
  sweep_stopped : (steps : List SweepStep) → AreSteps steps → (before : Swept) (W : ModelWorld) (r : Refusal)
      (left : Effect ModelWorld) → NothingFails left.outcomes → IsReady W → Sweeps volume steps before W (Err r) left
      → IsStopped steps before W r left.after
  sweep_stopped [] are before W r left none ready (Says nothing) = absurd nothing
  sweep_stopped (step ∷ steps) are before W r left none ready (Ends does) =
      step_stopped step steps before W r left none are.0 ready does
  sweep_stopped (step ∷ steps) are before W r left none ready (Goes {a = answer} {middle = m} {left = l} does rest) =
      let parts = nothing_fails_both m.outcomes l.outcomes none in
      let later = sweep_stopped steps are.1 (with_answer before answer) m.after r l parts.1
      (step_passes step are.0 W (Ok answer) m ready parts.0 does) rest in
      let at = later.at in
      record {
        full = later.full;
        at = record {
          done = step ∷ at.done;
          by = at.by;
          to = at.to;
          more = at.more;
          is = ap (λ (those : List SweepStep). step ∷ those) at.is;
          swept = at.swept;
          left = joined m at.left;
          sweeps = Goes does at.sweeps;
          lacks = at.lacks;
        };
      }

  are_both : (steps more : List SweepStep) → AreSteps steps → AreSteps more → AreSteps (steps ++ more)
  are_both [] more are are_more = are_more
  are_both (step ∷ steps) more are are_more = (are.0, are_both steps more are.1 are_more)

  -- the steps of a leg
  leg_are : (leg : Leg) (first count : ℕ) → ((member : ℕ) → first ≤ member → member < first + count → IsStep (leg_step leg member))
      → AreSteps (leg_steps leg first count)
  leg_are leg first zero each = tt
  leg_are leg first (suc count) each = (
    each first (omega arith) (omega arith),
    leg_are leg (first + 1) count (λ member from below. each member (omega (arith, from)) (omega (arith, below))),
  )

  module _ (two : 2 ≤ volume.members) where
    peers_of : (by to : ℕ) → 1 ≤ by → by ≤ volume.members → 1 ≤ to → to ≤ volume.members → by ≢ to
        → ArePeers volume.members by to
    peers_of by to some most some_too most_too differ = record {
      first = record { at_least = some; at_most = most };
      second = record { at_least = some_too; at_most = most_too };
      differ = differ;
    }

    star_are : AreSteps (star_round volume.members)
    star_are =
        are_both (leg_steps Gathers 2 (volume.members - 1)) (leg_steps Spreads 2 (volume.members - 1))
        (leg_are Gathers 2 (volume.members - 1) (λ member from below.
        peers_of 1 member (omega arith) (omega (arith, two)) (omega (arith, from)) (omega (arith, two, below))
        (λ same. omega (arith, same, from))))
        (leg_are Spreads 2 (volume.members - 1) (λ member from below.
        peers_of member 1 (omega (arith, from)) (omega (arith, two, below)) (omega arith) (omega (arith, two))
        (λ same. omega (arith, same, from))))

    ring_are : AreSteps (ring_round volume.members)
    ring_are =
        are_both (leg_steps HandsOn 2 (volume.members - 1)) (Pulling 1 volume.members ∷ [])
        (leg_are HandsOn 2 (volume.members - 1) (λ member from below.
        peers_of member (member - 1) (omega (arith, from)) (omega (arith, two, below)) (omega (arith, from))
        (omega (arith, two, below)) (λ same. omega (arith, same, from)))) (
          peers_of 1 volume.members (omega arith) (omega (arith, two)) (omega (arith, two)) (omega arith)
              (λ same. omega (arith, same, two)),
          tt,
        )

    collecting : AreSteps (leg_steps Collects 1 volume.members)
    collecting =
        leg_are Collects 1 volume.members
        (λ member from below. record { at_least = from; at_most = omega (arith, below) })

    sweep_are : (order : Order) → AreSteps (sweep_steps order volume.members)
    sweep_are Star =
        let round = star_round volume.members in
        let last = leg_steps Collects 1 volume.members in
        are_both round (round ++ (round ++ last)) star_are
        (are_both round (round ++ last) star_are (are_both round last star_are collecting))
    sweep_are Ring =
        let round = ring_round volume.members in
        let last = leg_steps Collects 1 volume.members in
        are_both round (round ++ (round ++ (round ++ last))) ring_are
        (are_both round (round ++ (round ++ last)) ring_are
        (are_both round (round ++ last) ring_are (are_both round last ring_are collecting)))

    result_through : (order : Order) (W : ModelWorld) (result : Result Answer Refusal) (left : Effect ModelWorld)
        → NothingFails left.outcomes → IsReady W → Does volume (command.Sweep order) W result left
        → GoesThrough volume order W left.after (answer_as result)
    result_through order W (Ok given) left none ready (Goes {a = swept} sweeps (Says is)) =
        subst (GoesThrough volume order W left.after) (sym is) (IsCounted {swept = swept})
    result_through order W (Err r) left none ready (Goes sweeps (Says nothing)) = absurd nothing
    result_through order W (Err r) left none ready (Ends sweeps) =
        let stop = sweep_stopped (sweep_steps order volume.members) (sweep_are order) none_swept W r left none ready sweeps in
        subst (λ (by : Refusal). GoesThrough volume order W left.after (Refused by)) (sym stop.full) (IsFull stop.at)

pub all_through : SweepsGoThrough
all_through volume order W after outcomes answer two lawful up none step =
    subst (GoesThrough volume order W after) (sym step.answer_is)
    (result_through volume two order W step.result (record { outcomes = outcomes; after = after }) none
    (record { lawful = lawful; up = up }) step.does)
