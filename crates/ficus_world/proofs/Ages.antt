-- Along a chain of links the generation of a member never falls, and where it stays what is saved stays.
use Rattle.std.proofs.Common.{◌≡◌, ◌≢◌, ℕ, ◌+◌, ◌-◌, ◌≤◌, List, [], ◌∷◌, length, Result, Ok, Err, Some, None, refl, sym, ap, subst, ◌∙◌, inl, inr, ◌⊎◌, arith}
use Rattle.std.proofs.lemmas.List.{length-set}
use Rattle.ficus_disk.specs.declared.disk.Disk.{Ghosts as Disk}
use Rattle.ficus_disk.specs.declared.pair.Pair.{Pair}
use Rattle.ficus_durable_state.specs.declared.saved.Saved.{Saved}
use Rattle.ficus_ids.specs.Members.{IsMember}
use Rattle.ficus_ids.specs.declared.refusal.Refusal.{Refusal}
use Rattle.ficus_keeper.specs.declared.keep.Keep.{Ghosts as Keep}
use Rattle.ficus_replica.specs.declared.replica.Replica.{Replica}
use Rattle.ficus_script.specs.declared.answer.Answer.{Answer}
use Rattle.ficus_script.specs.declared.answer.Answer.TheVariants.{Done, Mail}
use Rattle.ficus_script.specs.declared.command.Command.{Command}
use Rattle.ficus_script.specs.declared.command.Command.TheVariants as command
use Rattle.ficus_runs.specs.Actions.{Each, EachPart}
use Rattle.ficus_runs.specs.Answers.{answer_as}
use Rattle.ficus_runs.specs.Exchange.{mails_of}
use Rattle.ficus_runs.specs.Numbered.{IsNumbered}
use Rattle.ficus_runs.specs.Outcome.{Outcome}
use Rattle.ficus_runs.specs.Sequence.{Effect, NothingDone}
use Rattle.ficus_runs.specs.Sequence.ByRule.{Says}
use Rattle.ficus_runs.specs.Sequence.CutFirst.{InFirst, InRest}
use Rattle.ficus_runs.specs.Sequence.First.{Ends, Goes}
use Rattle.ficus_runs.proofs.Numbers.{number_exists, number_once}
use Rattle.ficus_runs.proofs.Replaced.{replaced}
use Rattle.ficus_opening.specs.declared.member.Member.{Member}
use Rattle.ficus_opening.specs.declared.member.MemberState.{MemberState}
use Rattle.ficus_opening.specs.declared.member.MemberState.TheVariants as state
use Rattle.ficus_world.specs.Generations.{Chain, HasSaved, SomeLink}
use Rattle.ficus_world.specs.Generations.Chain.{NoLink, OneLink}
use Rattle.ficus_world.specs.Kills.{IsPull, Passes}
use Rattle.ficus_world.specs.Kills.Passes.{Idles, Joins, Links}
use Rattle.ficus_world.specs.Moves.{CarriesOut, CutShort, GivesMessage, KeepsAsk, Moves, still_pending}
use Rattle.ficus_world.specs.Moves.FindsPeers.{FindsBoth, FindsNoPeers, FindsOneDown}
use Rattle.ficus_world.specs.World.{IsPendingSound, IsWorld, Whole}
use Rattle.ficus_world.proofs.Links.{Linked, Turned, Turns, link_does}
use Rattle.ficus_world.proofs.Links.Turned.{NoneTurned, OneTurned}
use Rattle.ficus_world.proofs.Links.Turns.{HasGathered, HasPending, HasRestarted, HasSaved as HasSavedNext, IsDown}

-- what is pending has saved once more
abbrev pub IsPendingNext : Replica → MemberState → Type 0
IsPendingNext replica state.Up = Unit {0}
IsPendingNext replica (state.Down None) = Unit {0}
IsPendingNext replica (state.Down (Some pending)) =
    pending.replica.saved.generation ≡ replica.saved.generation + 1

abbrev pub PendsNext : Member → Type 0
PendsNext member = IsPendingNext member.replica member.state

-- saved as often and the same, or more often
pub record IsLater (was now : Saved) : Type 0 where
  pub risen : was.generation ≤ now.generation
  pub same : was.generation ≡ now.generation → was ≡ now

later_same : (saved : Saved) → IsLater saved saved
later_same saved = record { risen = omega arith; same = λ one. refl }

later_equal : {was now : Saved} → now ≡ was → IsLater was now
later_equal {was} {now} equal = subst (λ s. IsLater was s) (sym equal) (later_same was)

later_more : {was now : Saved} → now.generation ≡ was.generation + 1 → IsLater was now
later_more {was} {now} above = record {
  risen = omega (arith, above);
  same = λ one. absurd (omega (arith, above, one));
}

later_then : {was mid now : Saved} → IsLater was mid → IsLater mid now → IsLater was now
later_then {was} {mid} {now} first second = record {
  risen = omega (arith, first.risen, second.risen);
  same = λ one.
      first.same (omega (arith, one, first.risen, second.risen))
      ∙ second.same (omega (arith, one, first.risen, second.risen));
}

abbrev IsAging : Member → Member → Type 0
IsAging was now = PendsNext now × IsLater was.replica.saved now.replica.saved

still_next : (replica : Replica) (s : MemberState) → IsPendingNext replica s
    → IsPendingNext replica (state.Down (still_pending s))
still_next replica state.Up next = tt
still_next replica (state.Down None) next = tt
still_next replica (state.Down (Some pending)) next = next

turn_ages : {tells disks_tell : Type 0} → disks_tell → {old : Whole} {r : ℕ} {was now : Member}
    → Turns tells disks_tell old r was now → PendsNext was → IsAging was now
turn_ages told (HasSavedNext {replica = replica} up above keeps) next =
    (subst (λ s. IsPendingNext replica s) (sym up) tt, later_more above)
turn_ages told {was = was} (HasPending above) next = (above, later_same was.replica.saved)
turn_ages told {was = was} (HasGathered come) next = (next, later_same was.replica.saved)
turn_ages told (HasRestarted (inl reads)) next = (tt, later_equal (reads told))
turn_ages told {was = was} (HasRestarted (inr (pending, down, reads))) next = (
  tt,
  later_more (ap (λ (s : Saved). s.generation) (reads told)
      ∙ subst (λ s. IsPendingNext was.replica s) down next),
)
turn_ages told {was = was} IsDown next = (still_next was.replica was.state next, later_same was.replica.saved)

-- from some members to later ones
pub record Aged (old new : List Member) : Type 0 where
  pub count : length new ≡ length old
  pub each : (r : ℕ) (was now : Member) → IsNumbered old r was → IsNumbered new r now → PendsNext was
      → PendsNext now × IsLater was.replica.saved now.replica.saved

pub aged_same : (members : List Member) → Aged members members
aged_same members = record {
  count = refl;
  each = λ r was now is too next.
      subst (λ m. IsAging was m) (number_once is too) (next, later_same was.replica.saved);
}

-- there is a member of each number in both
pub member_in : (old new : List Member) {r : ℕ} → length new ≡ length old → IsMember (length old) r
    → (member : Member) × IsNumbered new r member
member_in old new {r} count member = number_exists new r (subst (λ n. IsMember n r) (sym count) member)

pub aged_then : {old middle new : List Member} → Aged old middle → Aged middle new → Aged old new
aged_then {old} {middle} {new} first second = record {
  count = second.count ∙ first.count;
  each = λ r was now is too next.
      let between = member_in old middle first.count is.member in
      let one = first.each r was between.0 is between.1 next in
      let two = second.each r between.0 now between.1 too one.0 in
      (two.0, later_then one.1 two.1);
}

pub turned_ages : {tells disks_tell : Type 0} → disks_tell → {old : Whole} {members : List Member}
    → Turned tells disks_tell old members → Aged old.members members
turned_ages told {old} NoneTurned = aged_same old.members
turned_ages told {old} (OneTurned {r = r} {was = was} {now = now} is turns) = record {
  count = length-set old.members (r - 1) now;
  each = λ q before after at at_too next.
      go q before after at next (replaced old.members r q now after is.member.at_least at_too);
}
  where
    go : (q : ℕ) (before after : Member) → IsNumbered old.members q before → PendsNext before
        → ((q ≡ r) × (after ≡ now)) ⊎ ((r ≢ q) × IsNumbered old.members q after) → IsAging before after
    go q before after at next (inl (here, found)) =
        let same : before ≡ was =
        number_once at (subst (λ n. IsNumbered old.members n was) (sym here) is) in
        let ages = turn_ages told turns (subst (λ (m : Member). PendsNext m) same next) in
        subst (λ m. IsAging before m) (sym found) (subst (λ m. IsAging m now) (sym same) ages)
    go q before after at next (inr (differs, at_too)) =
        subst (λ m. IsAging before m) (number_once at at_too) (next, later_same before.replica.saved)

-- what a link of a chain does
pub link_of : {tells disks_tell : Type 0} {old middle : Whole} {command : Command} {outcomes : List Outcome}
    {answer : Answer} → (IsPull command → ⊥) → Moves tells disks_tell old command outcomes answer middle
    → Linked tells disks_tell old middle
link_of {tells} {disks_tell} {old} {middle} {command} {outcomes} single moves =
    link_does tells disks_tell command single old moves.result (record { outcomes = outcomes; after = middle }) moves.does

pub chain_ages : {tells disks_tell : Type 0} → disks_tell → {old new : Whole} → Chain tells disks_tell old new
    → Aged old.members new.members
chain_ages told {old} NoLink = aged_same old.members
chain_ages told (OneLink single moves more) =
    aged_then (turned_ages told (link_of single moves).members) (chain_ages told more)

-- what is pending in a world has saved once more than the member
abbrev pub AllPend : Whole → Type 0
AllPend world = (r : ℕ) (member : Member) → IsNumbered world.members r member → PendsNext member

pending_next : (count events r : ℕ) (replica : Replica) (s : MemberState)
    → IsPendingSound count events r replica s → IsPendingNext replica s
pending_next count events r replica state.Up sound = tt
pending_next count events r replica (state.Down None) sound = tt
pending_next count events r replica (state.Down (Some pending)) sound = sound.1

pub all_pend : (world : Whole) → IsWorld world → AllPend world
all_pend world sound r member is =
    pending_next (length world.members) (length world.events) r member.replica member.state
    (sound.sound r member is).pending

pub all_pend_later : (old new : Whole) → Aged old.members new.members → AllPend old → AllPend new
all_pend_later old new aged pends r member is =
    let before = member_in new.members old.members (sym aged.count) is.member in
    (aged.each r before.0 member before.1 is (pends r before.0 before.1)).0

pub later_between : {old new : Whole} {r : ℕ} {was now : Saved} → Aged old.members new.members → AllPend old
    → HasSaved old r was → HasSaved new r now → IsLater was now
later_between {r = r} aged pends had has =
    let ages = aged.each r had.member has.member had.is has.is (pends r had.member had.is) in
    subst (λ s. IsLater s _) (sym had.saves) (subst (λ s. IsLater _ s) (sym has.saves) ages.1)

pub saves_later : {tells disks_tell : Type 0} → disks_tell → {start one other : Whole} {r : ℕ} {was now : Saved}
    → IsWorld start → Chain tells disks_tell start one → Chain tells disks_tell one other → HasSaved one r was
    → HasSaved other r now → IsLater was now
saves_later told {start} {one} sound first second had has =
    later_between (chain_ages told second) (all_pend_later start one (chain_ages told first) (all_pend start sound)) had
    has

-- two moments of a chain
pub record Moment (P : Whole → Whole → Type 0) (old new : Whole) : Type 0 where
  pub before : Whole
  pub after : Whole
  pub holds : P before after
  pub since : Aged old.members before.members
  pub until : Aged before.members new.members

module _ {tells disks_tell : Type 0} (told : disks_tell) where
  pub moment_of : (P : Whole → Whole → Type 0) {old new : Whole} (chain : Chain tells disks_tell old new)
      → SomeLink P chain → Moment P old new
  moment_of P NoLink none = absurd none
  moment_of P {old} (OneLink {middle = middle} single moves more) (inl now) = record {
    before = old;
    after = middle;
    holds = now;
    since = aged_same old.members;
    until = aged_then (turned_ages told (link_of single moves).members) (chain_ages told more);
  }
  moment_of P (OneLink single moves more) (inr later) =
      let rest = moment_of P more later in
      record {
        before = rest.before;
        after = rest.after;
        holds = rest.holds;
        since = aged_then (turned_ages told (link_of single moves).members) rest.since;
        until = rest.until;
      }

  -- what the member has saved at both is the same, where it has saved it as often
  pub same_at_both : (P Q : Whole → Whole → Type 0) (r : ℕ) (a b : Saved)
      → ((old new : Whole) → P old new → HasSaved old r a) → ((old new : Whole) → Q old new → HasSaved old r b)
      → a.generation ≡ b.generation → {old new : Whole} (chain : Chain tells disks_tell old new) → AllPend old
      → SomeLink P chain → SomeLink Q chain → a ≡ b
  same_at_both P Q r a b saves saves_too as_often NoLink pends none also = absurd none
  same_at_both P Q r a b saves saves_too as_often {old} (OneLink {middle = middle} single moves more) pends
      (inl one) (inl two) =
      (later_between (aged_same old.members) pends (saves old middle one) (saves_too old middle two)).same as_often
  same_at_both P Q r a b saves saves_too as_often {old} (OneLink {middle = middle} single moves more) pends
      (inl one) (inr two) =
      let found = moment_of Q more two in
      (later_between (aged_then (turned_ages told (link_of single moves).members) found.since) pends
      (saves old middle one) (saves_too found.before found.after found.holds)).same as_often
  same_at_both P Q r a b saves saves_too as_often {old} (OneLink {middle = middle} single moves more) pends
      (inr one) (inl two) =
      let found = moment_of P more one in
      sym ((later_between (aged_then (turned_ages told (link_of single moves).members) found.since) pends
      (saves_too old middle two) (saves found.before found.after found.holds)).same (sym as_often))
  same_at_both P Q r a b saves saves_too as_often {old} (OneLink {middle = middle} single moves more) pends
      (inr one) (inr two) =
      same_at_both P Q r a b saves saves_too as_often more
      (all_pend_later old middle (turned_ages told (link_of single moves).members) pends) one two

-- chains one behind the other
pub chains_join : {tells disks_tell : Type 0} {old middle new : Whole} → Chain tells disks_tell old middle
    → Chain tells disks_tell middle new → Chain tells disks_tell old new
chains_join NoLink last = last
chains_join (OneLink single moves more) last = OneLink single moves (chains_join more last)

-- what a command does is a chain
module _ (tells disks_tell : Type 0) where
  one_link : (c : Command) → (IsPull c → ⊥) → (old : Whole) (result : Result Answer Refusal) (left : Effect Whole)
      → CarriesOut tells disks_tell c old result left → Chain tells disks_tell old left.after
  one_link c single old result left does =
      OneLink {command = c} {outcomes = left.outcomes} {answer = answer_as result} single
      (record { result = result; does = does; answer_is = refl }) NoLink

  ask_chain : (by to : ℕ) (old : Whole) (result : Result ℕ Refusal) (left : Effect Whole)
      → KeepsAsk tells by to old result left → Chain tells disks_tell old left.after
  ask_chain by to old (Ok number) left asks =
      one_link (command.Ask by to) (λ none. none) old (Ok (Mail number)) _ (Goes asks (Says refl))
  ask_chain by to old (Err r) left asks =
      one_link (command.Ask by to) (λ none. none) old (Err r) left (Ends asks)

  give_chain : (number : ℕ) (old : Whole) (result : Result Answer Refusal) (left : Effect Whole)
      → GivesMessage tells number old result left → Chain tells disks_tell old left.after
  give_chain number old result left gives = one_link (command.Give number) (λ none. none) old result left gives

  each_chain : (mails : List ℕ) (old : Whole) (result : Result Answer Refusal) (left : Effect Whole)
      → Each (GivesMessage tells) Done mails old result left → Chain tells disks_tell old left.after
  each_chain [] old result left (Says is) = NoLink
  each_chain (mail ∷ mails) old result left (Ends {refusal = r} gives) = give_chain mail old (Err r) left gives
  each_chain (mail ∷ mails) old result left (Goes {a = a} {middle = middle} {left = last} gives more) =
      chains_join (give_chain mail old (Ok a) middle gives) (each_chain mails middle.after result last more)

  pull_chain : (by to : ℕ) (old : Whole) (result : Result Answer Refusal) (left : Effect Whole)
      → CarriesOut tells disks_tell (command.Pull by to) old result left → Chain tells disks_tell old left.after
  pull_chain by to old result left (Ends (FindsNoPeers none)) = NoLink
  pull_chain by to old result left (Ends (FindsOneDown peers is is_too down)) = NoLink
  pull_chain by to old result left
      (Goes {left = behind} (FindsBoth peers is is_too up up_too) (Ends {refusal = r} asks)) =
      ask_chain by to old (Err r) behind asks
  pull_chain by to old result left
      (Goes (FindsBoth peers is is_too up up_too)
      (Goes {a = number} {middle = asked} {left = behind} asks (Ends {refusal = r} gives))) =
      chains_join (ask_chain by to old (Ok number) asked asks) (give_chain number asked.after (Err r) behind gives)
  pull_chain by to old result left
      (Goes (FindsBoth peers is is_too up up_too)
      (Goes {a = number} {middle = asked} asks
      (Goes {a = given} {middle = served} {left = behind} gives more))) =
      chains_join (ask_chain by to old (Ok number) asked asks)
      (chains_join (give_chain number asked.after (Ok given) served gives)
      (each_chain (mails_of given) served.after result behind more))

  pub command_chain : (c : Command) (old : Whole) (result : Result Answer Refusal) (left : Effect Whole)
      → CarriesOut tells disks_tell c old result left → Chain tells disks_tell old left.after
  command_chain (command.Pull by to) = pull_chain by to
  command_chain (command.Change by change) = one_link (command.Change by change) (λ none. none)
  command_chain (command.Look by look) = one_link (command.Look by look) (λ none. none)
  command_chain (command.Collect by) = one_link (command.Collect by) (λ none. none)
  command_chain (command.Ask by to) = one_link (command.Ask by to) (λ none. none)
  command_chain (command.Give number) = one_link (command.Give number) (λ none. none)
  command_chain (command.Alike by other) = one_link (command.Alike by other) (λ none. none)
  command_chain (command.Restart by) = one_link (command.Restart by) (λ none. none)
  command_chain (command.Stop by calls pick) = one_link (command.Stop by calls pick) (λ none. none)
  command_chain (command.Sweep order) = one_link (command.Sweep order) (λ none. none)
  command_chain (command.Why by) = one_link (command.Why by) (λ none. none)

  nothing_chain : (old : Whole) (left : Effect Whole) → NothingDone old left → Chain tells disks_tell old left.after
  nothing_chain old left same =
      subst (λ (w : Whole). Chain tells disks_tell old w) (sym (ap (λ (e : Effect Whole). e.after) same)) NoLink

  part_chain : (mails : List ℕ) (old : Whole) (left : Effect Whole)
      → EachPart (GivesMessage tells) mails old left → Chain tells disks_tell old left.after
  part_chain [] old left same = nothing_chain old left same
  part_chain (mail ∷ mails) old left (InFirst same) = nothing_chain old left same
  part_chain (mail ∷ mails) old left (InRest {a = a} {middle = middle} {left = last} gives more) =
      chains_join (give_chain mail old (Ok a) middle gives) (part_chain mails middle.after last more)

  pull_part : (by to : ℕ) (old : Whole) (left : Effect Whole) → CutShort tells (command.Pull by to) old left
      → Chain tells disks_tell old left.after
  pull_part by to old left (InFirst same) = nothing_chain old left same
  pull_part by to old left (InRest {left = behind} (FindsBoth peers is is_too up up_too) (InFirst same)) =
      nothing_chain old behind same
  pull_part by to old left
      (InRest (FindsBoth peers is is_too up up_too)
      (InRest {a = number} {middle = asked} {left = behind} asks (InFirst same))) =
      chains_join (ask_chain by to old (Ok number) asked asks) (nothing_chain asked.after behind same)
  pull_part by to old left
      (InRest (FindsBoth peers is is_too up up_too)
      (InRest {a = number} {middle = asked} asks
      (InRest {a = given} {middle = served} {left = behind} gives more))) =
      chains_join (ask_chain by to old (Ok number) asked asks)
      (chains_join (give_chain number asked.after (Ok given) served gives)
      (part_chain (mails_of given) served.after behind more))

  pub cut_chain : (c : Command) (old : Whole) (left : Effect Whole) → CutShort tells c old left
      → Chain tells disks_tell old left.after
  cut_chain (command.Pull by to) = pull_part by to
  cut_chain (command.Change by change) = nothing_chain
  cut_chain (command.Look by look) = nothing_chain
  cut_chain (command.Collect by) = nothing_chain
  cut_chain (command.Ask by to) = nothing_chain
  cut_chain (command.Give number) = nothing_chain
  cut_chain (command.Alike by other) = nothing_chain
  cut_chain (command.Restart by) = nothing_chain
  cut_chain (command.Stop by calls pick) = nothing_chain
  cut_chain (command.Sweep order) = λ old left none. absurd none
  cut_chain (command.Why by) = λ old left none. absurd none

-- and so is what passes with the disks
pub passes_chain : {K D tells : Type 0} {keep : Keep K} {disk : Disk D} {IsLink : Command → Type 0} {old new : Whole}
    {x y : List (Pair D)} → Passes tells keep disk IsLink old new x y → Chain tells disk.tells old new
passes_chain (Idles settled touches) = NoLink
passes_chain {tells = tells} {disk = disk}
    (Links {before = before} {after = after} {command = c} {outcomes = outcomes} one settled settled_too moves touches
    spares) =
    command_chain tells disk.tells c before moves.result (record { outcomes = outcomes; after = after }) moves.does
passes_chain (Joins first last) = chains_join (passes_chain first) (passes_chain last)
