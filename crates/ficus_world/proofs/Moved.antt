-- What the code of a change or a look does moves the world as the command does.
use Rattle.std.proofs.Common.{◌≡◌, ◌≢◌, ◌↔◌, ℕ, Bool, List, [], length, Result, Ok, Err, refl, sym, ap, subst, inl}
use Rattle.std.specs.Prelude.{IsTrue, IfOk, OnErr, IsErrOf}
use Rattle.std.proofs.lemmas.Result.{IfOk-weaker}
use Rattle.ficus_disk.specs.declared.disk.Disk.{Ghosts as Disk}
use Rattle.ficus_disk.specs.declared.pair.Pair.{Pair}
use Rattle.ficus_ids.specs.declared.memory.Memory.{Memory as OutOfMemory}
use Rattle.ficus_ids.specs.declared.refusal.Refusal.{Refusal}
use Rattle.ficus_ids.specs.declared.refusal.Refusal.TheVariants.{Memory, Store}
use Rattle.ficus_model.specs.declared.event.Event.TheVariants.{Update, Collect}
use Rattle.ficus_keeper.specs.declared.keep.Keep.{Ghosts as Keep}
use Rattle.ficus_replica.specs.declared.replica.Next.{Next}
use Rattle.ficus_commands.specs.declared.change.Change.{Change}
use Rattle.ficus_rules.specs.Change.{ChangeRule}
use Rattle.ficus_commands.specs.declared.look.Look.{Look}
use Rattle.ficus_rules.specs.Look.{LookRule}
use Rattle.ficus_rules.specs.Alike.{AreAlike}
use Rattle.ficus_rules.specs.Rule.{UnlessMemoryWhere}
use Rattle.ficus_rules.proofs.Rules.{refusal_along}
use Rattle.ficus_deciding.specs.View.{tables_view}
use Rattle.ficus_commands.specs.declared.told.Told.{Told}
use Rattle.ficus_script.specs.declared.answer.Answer.{Answer}
use Rattle.ficus_script.specs.declared.answer.Answer.TheVariants.{Alike, Told as Tells, Collected as Counted}
use Rattle.ficus_script.specs.declared.command.Command.{Command}
use Rattle.ficus_script.specs.declared.command.Command.TheVariants.{Change as Changes, Look as Looks, Collect as Collects, Alike as Compares}
use Rattle.ficus_replica.specs.Change.{ChangeGives}
use Rattle.ficus_replica.specs.Collect.{CollectGives}
use Rattle.ficus_replica.specs.declared.collect.Collected.{Collected}
use Rattle.ficus_replica.specs.Look.{LookGives}
use Rattle.ficus_replica.specs.Effect.{next_id}
use Rattle.ficus_runs.specs.Answers.{OrMemory, answer_to, answer_as}
use Rattle.ficus_runs.specs.Numbered.{IsNumbered}
use Rattle.ficus_runs.specs.Peers.{ArePeers}
use Rattle.ficus_runs.specs.Sequence.{Effect, First, unchanged}
use Rattle.ficus_runs.specs.Sequence.ByRule.{Says}
use Rattle.ficus_runs.specs.Sequence.First.{Ends, Goes}
use Rattle.ficus_opening.specs.declared.member.Member.{Member}
use Rattle.ficus_opening.specs.declared.member.MemberState.TheVariants.{Up}
use Rattle.ficus_world.specs.Moves.{CarriesOut, Compared, FindsPeers, FindsUp, TablesMayWantMemory, WholeAction, advanced, not_saved, pending_of, saved}
use Rattle.ficus_world.specs.Moves.FindsPeers.{FindsBoth, FindsNoPeers, FindsOneDown}
use Rattle.ficus_world.specs.Moves.FindsUp.{FindsAt, FindsNoneAt, FindsDown}
use Rattle.ficus_world.specs.Moves.KeepsCollection.{Collects as Gathers, CollectsNot as GathersNot}
use Rattle.ficus_world.specs.Moves.KeepsUpdate.{Keeps, KeepsNot}
use Rattle.ficus_world.specs.Stepped.{ComesTo, Stepped}
use Rattle.ficus_world.specs.World.{Whole}
use Rattle.ficus_world.specs.Fuses.{FusesFollow}
use Rattle.ficus_world.proofs.Carrying.{or_memory}
use Rattle.ficus_world.proofs.Disks.{follows_none}
use Rattle.ficus_world.proofs.Fuses.{fuses_none}

-- who isn't found, or is down, ends what begins with finding it
pub up_ends : {A : Type 0} (may : Type 0) (rest : Member → WholeAction A) (by : ℕ) (old : Whole) (r : Refusal)
    (left : Effect Whole) → FindsUp by old (Err r) left
    → UnlessMemoryWhere may (λ given. First (FindsUp by) rest old given left) (Err r)
up_ends may rest by old r left (FindsNoneAt none) = Ends (FindsNoneAt none)
up_ends may rest by old r left (FindsDown is down) = Ends (FindsDown is down)

pub peers_end : {A : Type 0} (may : Type 0) (rest : Compared → WholeAction A) (by other : ℕ) (old : Whole) (r : Refusal)
    (left : Effect Whole) → FindsPeers by other old (Err r) left
    → UnlessMemoryWhere may (λ given. First (FindsPeers by other) rest old given left) (Err r)
peers_end may rest by other old r left (FindsNoPeers none) = Ends (FindsNoPeers none)
peers_end may rest by other old r left (FindsOneDown peers is is_too down) =
    Ends (FindsOneDown peers is is_too down)

-- it isn't for want of memory that they are refused
pub peers_known : (by other : ℕ) (old : Whole) (r : Refusal) (left : Effect Whole) → FindsPeers by other old (Err r) left
    → r ≡ Memory → ⊥
peers_known by other old r left (FindsNoPeers none) same = absurd (cc)
peers_known by other old r left (FindsOneDown peers is is_too down) same = absurd (cc)

module _ {K D : Type 0} (tells : Type 0) (keep : Keep K) (disk : Disk D) (old : Whole) where
  -- what asks nothing of the outside, and changes nothing
  pub comes_to_none : (command : Command) (result : Result Answer Refusal) (x : List (Pair D))
      → UnlessMemoryWhere (TablesMayWantMemory old command)
      (λ answer. CarriesOut tells disk.tells command old answer (unchanged old)) result
      → ComesTo tells keep disk old command result old x x
  comes_to_none command result x does = record {
    outcomes = [];
    does = does;
    disks = follows_none;
    fuses = or_memory (λ given. FusesFollow keep disk [] old.members old.members x x) result fuses_none;
  }

module _ (tells disks_tell : Type 0) (old : Whole) (by : ℕ) (member : Member) (is : IsNumbered old.members by member)
    (up : member.state ≡ Up) where
  pub change_moves : (change : Change) (next : Next) → ChangeGives member.replica change (Ok next) →
      CarriesOut tells disks_tell (Changes by change) old (Ok (answer_to (next_id member.replica.saved) next.op))
      (saved by (advanced old by member next.replica (Update by next.op)))
  change_moves change next gives = Goes (FindsAt is up) (Goes (Says gives.answer) (Keeps gives.applied gives.ask))

  pub change_pends : (change : Change) (next : Next) → ChangeGives member.replica change (Ok next) →
      CarriesOut tells disks_tell (Changes by change) old (Err Store)
      (not_saved old by member (pending_of next.replica (Update by next.op)))
  change_pends change next gives = Goes (FindsAt is up) (Goes (Says gives.answer) (KeepsNot gives.applied gives.ask))

  pub change_refused : (change : Change) (r : Refusal) → ChangeGives member.replica change (Err r) →
      UnlessMemoryWhere (TablesMayWantMemory old (Changes by change))
      (λ answer. CarriesOut tells disks_tell (Changes by change) old answer (unchanged old)) (Err r)
  change_refused change r gives =
      refusal_along (ChangeRule (tables_view member.replica.saved) change)
      (λ answer. CarriesOut tells disks_tell (Changes by change) old answer (unchanged old)) r
      (λ may. record { member = member; is = is; up = up; so = may })
      (λ refused. Goes (FindsAt is up) (Ends (Says refused))) gives

  pub look_moves : (look : Look) (told : Told) → LookGives member.replica look (Ok told) →
      CarriesOut tells disks_tell (Looks by look) old (Ok (Tells told)) (unchanged old)
  look_moves look told gives = Goes (FindsAt is up) (Says (told, gives, refl))

  pub look_refused : (look : Look) (r : Refusal) → LookGives member.replica look (Err r) →
      UnlessMemoryWhere (TablesMayWantMemory old (Looks by look))
      (λ answer. CarriesOut tells disks_tell (Looks by look) old answer (unchanged old)) (Err r)
  look_refused look r gives =
      refusal_along (LookRule (tables_view member.replica.saved) look)
      (λ answer. CarriesOut tells disks_tell (Looks by look) old answer (unchanged old)) r
      (λ none. record { member = member; is = is; up = up; so = none })
      (λ refused. Goes (FindsAt is up) (Says (inl refused))) gives

  pub collect_moves : (given : Collected) → CollectGives member.replica given →
      CarriesOut tells disks_tell (Collects by) old (Ok (Counted given.entries given.files))
      (saved by (advanced old by member given.replica (Collect by)))
  collect_moves given gives = Goes (FindsAt is up) (Gathers gives)

  pub collect_pends : (given : Collected) → CollectGives member.replica given →
      CarriesOut tells disks_tell (Collects by) old (Err Store)
      (not_saved old by member (pending_of given.replica (Collect by)))
  collect_pends given gives = Goes (FindsAt is up) (GathersNot gives)

pub alike_moves : (tells disks_tell : Type 0) (old : Whole) (by other : ℕ) (one two : Member)
    → ArePeers (length old.members) by other → IsNumbered old.members by one → IsNumbered old.members other two
    → one.state ≡ Up → two.state ≡ Up → (alike : Bool)
    → IsTrue alike ↔ AreAlike (tables_view one.replica.saved) (tables_view two.replica.saved)
    → CarriesOut tells disks_tell (Compares by other) old (Ok (Alike alike)) (unchanged old)
alike_moves tells disks_tell old by other one two peers is is_too up up_too alike means =
    Goes (FindsBoth peers is is_too up up_too) (Says (alike, means, refl))

-- what isn't want of memory is as the rule says
unless_memory : {A : Type 0} (may : Type 0) (rule : Result A Refusal → Type 0) (answer : Result A Refusal)
    → answer ≢ Err Memory → UnlessMemoryWhere may rule answer → rule answer
unless_memory may rule (Ok a) no_memory is = is
unless_memory may rule (Err Memory) no_memory is = absurd (no_memory refl)
unless_memory may rule (Err refusal) no_memory is = is

-- and so are the fuses
not_memory : {A P : Type 0} (answer : Result A Refusal) → answer ≢ Err Memory → OrMemory (λ given. P) answer → P
not_memory (Ok a) no_memory is = is
not_memory (Err Memory) no_memory is = absurd (no_memory refl)
not_memory (Err refusal) no_memory is = is

module _ {K D : Type 0} (tells : Type 0) (keep : Keep K) (disk : Disk D) (old new : Whole) (command : Command)
    (came_to : Result Answer Refusal) (result : Result Answer OutOfMemory) (x y : List (Pair D)) where
  -- so an answer moves the world as the command does
  pub answered_moves : ComesTo tells keep disk old command came_to new x y
      → IfOk result (λ answer. (answer ≡ answer_as came_to) × (came_to ≢ Err Memory))
      → IfOk result (λ answer. Stepped tells keep disk old command answer new x y)
  answered_moves moves answered =
      IfOk-weaker result (λ answer. (answer ≡ answer_as came_to) × (came_to ≢ Err Memory))
      (λ answer. Stepped tells keep disk old command answer new x y)
      (λ answer is. record {
        outcomes = moves.outcomes;
        moves = record {
          result = came_to;
          does = unless_memory (TablesMayWantMemory old command)
              (λ answer. CarriesOut tells disk.tells command old answer (record { outcomes = moves.outcomes; after = new }))
              came_to is.1 moves.does;
          answer_is = is.0;
        };
        disks = moves.disks;
        fuses = not_memory came_to is.1 moves.fuses;
      }) answered

  -- and where none is given for want of memory, the command may want it
  pub answered_wants : (P : Type 0) → (TablesMayWantMemory old command → P)
      → ComesTo tells keep disk old command came_to new x y → OnErr result (came_to ≡ Err Memory)
      → OnErr result P
  answered_wants P wants moves answered = go came_to result moves answered
    where
      go : (came_to : Result Answer Refusal) (result : Result Answer OutOfMemory)
          → ComesTo tells keep disk old command came_to new x y
          → OnErr result (came_to ≡ Err Memory) → OnErr result P
      go came_to (Ok answer) moves answered = tt
      go came_to (Err memory) moves answered =
          wants (subst (λ came_to. ComesTo tells keep disk old command came_to new x y) answered
          moves).does

-- and where memory is refused the command is cut short
pub answered_cut : (P : Type 0) (came_to : Result Answer Refusal) (result : Result Answer OutOfMemory)
    → (IsErrOf came_to Memory → P) → OnErr result (came_to ≡ Err Memory) → OnErr result P
answered_cut P came_to (Ok answer) cut memory = tt
answered_cut P came_to (Err fault) cut memory =
    cut (subst (λ (r : Result Answer Refusal). IsErrOf r Memory) (sym memory) refl)

-- a refusal is the same, whatever would have been given
pub same_refusal : {A B : Type 0} (r s : Refusal) → IsErrOf {T = A} (Err r) s → IsErrOf {T = B} (Err r) s
same_refusal r s is = ap Err (let same : r ≡ s = cc in same)
