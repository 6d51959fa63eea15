-- The actions of which commands consist, and what each does to a world of the model.
use Rattle.std.specs.Prelude.{ℕ, ◌+◌, ◌-◌, List, [], ◌∷◌, ◌++◌, length, slice_set, Result, Ok, Err, Option, Some, None}
use Rattle.ficus_ids.specs.Members.{IsMember}
use Rattle.ficus_ids.specs.declared.refusal.Refusal.{Refusal}
use Rattle.ficus_ids.specs.declared.refusal.Refusal.TheVariants as refusal
use Rattle.ficus_model.specs.declared.event.Event.{Event}
use Rattle.ficus_model.specs.declared.event.Event.TheVariants.{Update, Collect, Restart}
use Rattle.ficus_model.specs.declared.event.Op.{Op}
use Rattle.ficus_model.specs.Lawful.{Volume, MayCome}
use Rattle.ficus_laws.specs.Updates.{next_number}
use Rattle.ficus_commands.specs.declared.change.Change.{Change}
use Rattle.ficus_rules.specs.Change.{ChangeRule}
use Rattle.ficus_commands.specs.declared.look.Look.{Look}
use Rattle.ficus_rules.specs.Rule.{Where, Gives, Tells}
use Rattle.ficus_rules.specs.View.{history_view}
use Rattle.ficus_replica.specs.Collect.{Garbage, IsGarbage}
use Rattle.ficus_script.specs.declared.answer.Answer.{Answer}
use Rattle.ficus_script.specs.declared.answer.Answer.TheVariants.{Collected, Done, Why}
use Rattle.ficus_why_runs.specs.Row.{Explains, run_of}
use Rattle.ficus_runs.specs.Answers.{answer_to, AlikeAnswer, LookAnswer}
use Rattle.ficus_runs.specs.ModelWorld.{ModelWorld, Posted, Standing, Up, Down, IsUp}
use Rattle.ficus_runs.specs.Numbered.{IsNumbered}
use Rattle.ficus_runs.specs.Outcome.{IsDone, LinkFails, IsSaved, SaveFails, IsOpened, IsFound, OpeningFails, IsArmed}
use Rattle.ficus_runs.specs.Peers.{ArePeers}
use Rattle.ficus_runs.specs.Sequence.{Action, First, ByRule, Cut, CutFirst, Effect, NothingDone}

-- an action on a world of the model
abbrev pub ModelAction : Type 0 → Type 1
ModelAction A = Action ModelWorld A

-- the world once this has happened too
abbrev pub with_event : ModelWorld → Event → ModelWorld
with_event old event = record old { events = old.events ++ event ∷ [] }

-- the member stands so now
abbrev pub with_standing : ModelWorld → ℕ → Standing → ModelWorld
with_standing old by standing = record old { standings = slice_set old.standings (by - 1) standing }

-- the event happens, and this of the world before it is given
pub data Adds {A : Type 0} (given : ModelWorld → A) (event : Event) (old : ModelWorld) :
    Result A Refusal → Effect ModelWorld → Type 0 where
  Added : Adds given event old (Ok (given old)) (record { outcomes = []; after = with_event old event })

-- A member saves, with this event of its own. Where that is done, it happens, and this of the world before it is given.
-- Where its disks fail, the member is down, and the event is pending.
pub data Saves {A : Type 0} (given : ModelWorld → A) (by : ℕ) (event : Event) (old : ModelWorld) :
    Result A Refusal → Effect ModelWorld → Type 0 where
  Saved : Saves given by event old (Ok (given old))
      (record { outcomes = IsSaved by ∷ []; after = with_event old event })
  NotSaved : Saves given by event old (Err refusal.Store)
      (record { outcomes = SaveFails by ∷ []; after = with_standing old by (Down (Some event)) })

-- gives this, and no refusal
abbrev pub GivesOnly : {World A : Type 0} → A → Action World A
GivesOnly a = ByRule (λ W. Gives a)

-- goes on where this is so, and is refused where it isn't
abbrev pub Wants : {World : Type 0} → (World → Type 0) → Refusal → Action World (Unit {0})
Wants good refusal = ByRule (λ W. Where (good W) refusal (Gives tt))

-- does this with each of a list in order, up to the first refusal, and then gives this
abbrev pub Each : {World X A B : Type 0} → (X → Action World A) → B → List X → Action World B
Each does given [] = GivesOnly given
Each does given (x ∷ more) = First (does x) (λ a. Each does given more)

-- what was done where memory is refused on the way: all that stands before
abbrev pub EachPart : {World X A : Type 0} → (X → Action World A) → List X → Cut World
EachPart does [] = NothingDone
EachPart does (x ∷ more) = CutFirst (does x) NothingDone (λ a. EachPart does more)

-- the number is a member's, which takes commands
abbrev pub AtMember : Volume → ℕ → ModelAction (Unit {0})
AtMember volume by =
    First (Wants (λ W. IsMember volume.members by) refusal.Member) (λ member. Wants (IsUp by) refusal.Down)

-- the change is the operation that its rule gives, by what the member has heard of
abbrev pub Decides : Volume → ℕ → Change → ModelAction Op
Decides volume by change = ByRule (λ W. ChangeRule (history_view volume W.events by) change)

-- the operation is the member's next update
abbrev pub Updates : ℕ → Op → ModelAction Answer
Updates by op = Saves (λ W. answer_to (next_number by W.events) op) by (Update by op)

-- the look is answered as its rule says, by what the member has heard of
abbrev pub Sees : Volume → ℕ → Look → ModelAction Answer
Sees volume by look = ByRule (λ W. LookAnswer (history_view volume W.events by) look)

-- a collection that gives so much up is answered with the numbers
abbrev pub collected : Garbage → Answer
collected garbage = Collected garbage.entries garbage.objects

-- what the member gives up, by the history, if it collects now
abbrev pub Counts : Volume → ℕ → ModelAction Answer
Counts volume by = ByRule (λ W. Tells collected (IsGarbage volume.members W.events by))

-- the member collects
abbrev pub Collects : ℕ → Answer → ModelAction Answer
Collects by answer = Saves (λ W. answer) by (Collect by)

-- the numbers are those of two different members, which both take commands
abbrev pub AtPeers : Volume → ℕ → ℕ → ModelAction (Unit {0})
AtPeers volume by other =
    First (Wants (λ W. ArePeers volume.members by other) refusal.Member)
    (λ peers. Wants (λ W. IsUp by W × IsUp other W) refusal.Down)

-- the two members are compared by what both have heard of
abbrev pub Compares : Volume → ℕ → ℕ → ModelAction Answer
Compares volume by other =
    ByRule (λ W. AlikeAnswer (history_view volume W.events by) (history_view volume W.events other))

-- the lines of the clashes at the member, over the events of the run alone
abbrev pub Explaining : ℕ → ModelAction Answer
Explaining by = ByRule (λ W. Tells Why (Explains (run_of W.earlier W.events) by))

-- where the next event will stand
abbrev pub next_position : ModelWorld → ℕ
next_position W = length W.events

-- which number the next message will have
abbrev pub next_mail : ModelWorld → ℕ
next_mail W = length W.posted + 1

-- the world once a message of so many bytes is posted, with this behind it
abbrev pub with_post : ModelWorld → Posted → ℕ → ModelWorld
with_post old behind size = record old { posted = old.posted ++ behind ∷ []; total = old.total + size }

-- a message of so many bytes is posted, with this behind it; gives its number. Or the link fails.
pub data Posts (behind : Posted) (size : ℕ) (old : ModelWorld) : Result ℕ Refusal → Effect ModelWorld → Type 0 where
  IsPosted : Posts behind size old (Ok (next_mail old))
      (record { outcomes = IsDone ∷ []; after = with_post old behind size })
  NotPosted : Posts behind size old (Err refusal.Link) (record { outcomes = LinkFails ∷ []; after = old })

-- a message is fetched, or the link fails
pub data Fetches (old : ModelWorld) : Result (Unit {0}) Refusal → Effect ModelWorld → Type 0 where
  Fetched : Fetches old (Ok tt) (record { outcomes = IsDone ∷ []; after = old })
  NotFetched : Fetches old (Err refusal.Link) (record { outcomes = LinkFails ∷ []; after = old })

-- a member whose disks failed is down, with what was pending
abbrev pub down_from : Standing → Standing
down_from Up = Down None
down_from (Down pending) = Down pending

-- the world once the member has restarted, where the event that was pending on its disks, if any, has happened first
abbrev pub restarted : ModelWorld → ℕ → Option Event → ModelWorld
restarted old by None = with_standing (with_event old (Restart by)) by Up
restarted old by (Some event) = with_standing (with_event (with_event old event) (Restart by)) by Up

-- The disks of a member are opened again. They decide whether what was pending has happened, which it has only where it
-- may. The member is up then, and has restarted. Or its disks fail, and it is down, with what was pending.
pub data Opens (volume : Volume) (by : ℕ) (old : ModelWorld) : Result Answer Refusal → Effect ModelWorld → Type 0 where
  Opened : {standing : Standing} → IsNumbered old.standings by standing
      → Opens volume by old (Ok Done) (record { outcomes = IsOpened by ∷ []; after = restarted old by None })
  Found : {event : Event} → IsNumbered old.standings by (Down (Some event)) → MayCome volume old.events event
      → Opens volume by old (Ok Done) (record { outcomes = IsFound by ∷ []; after = restarted old by (Some event) })
  NotOpened : {standing : Standing} → IsNumbered old.standings by standing
      → Opens volume by old (Err refusal.Store)
      (record { outcomes = OpeningFails by ∷ []; after = with_standing old by (down_from standing) })

-- the disks of a member are armed: they stop after so many calls, and the pick says what is found then
pub data Arms (by calls pick : ℕ) (old : ModelWorld) : Result Answer Refusal → Effect ModelWorld → Type 0 where
  Armed : Arms by calls pick old (Ok Done) (record { outcomes = IsArmed by calls pick ∷ []; after = old })
