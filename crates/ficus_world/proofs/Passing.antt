-- What a command does is a link, and a pull is a link for each of its messages.
use Rattle.std.proofs.Common.{◌≡◌, ℕ, List, Result, Ok, Err, refl, sym, subst}
use Rattle.std.specs.Prelude.{IsErrOf}
use Rattle.ficus_disk.specs.declared.disk.Disk.{Ghosts as Disk}
use Rattle.ficus_disk.specs.declared.pair.Pair.{Pair}
use Rattle.ficus_ids.specs.declared.refusal.Refusal.{Refusal}
use Rattle.ficus_ids.specs.declared.refusal.Refusal.TheVariants.{Memory}
use Rattle.ficus_keeper.specs.declared.keep.Keep.{Ghosts as Keep}
use Rattle.ficus_script.specs.declared.answer.Answer.{Answer}
use Rattle.ficus_script.specs.declared.answer.Answer.TheVariants.{Mail}
use Rattle.ficus_script.specs.declared.command.Command.{Command}
use Rattle.ficus_script.specs.declared.command.Command.TheVariants.{Ask as Asks, Give as Gives}
use Rattle.ficus_runs.specs.Outcome.{Outcome}
use Rattle.ficus_world.specs.Disks.{AreSpared, CarriedOn, StaysOn}
use Rattle.ficus_world.specs.Kills.{IsSettled, Passes, Spares, Touches}
use Rattle.ficus_world.specs.Kills.Passes.{Idles, Joins, Links}
use Rattle.ficus_world.specs.Moves.{CarriesOut, GivesMessage, KeepsAsk, TablesMayWantMemory}
use Rattle.ficus_world.specs.Stepped.{ComesTo}
use Rattle.ficus_world.specs.World.{Whole}
use Rattle.ficus_rules.specs.Rule.{UnlessMemoryWhere}
use Rattle.ficus_world.proofs.Carrying.{wanted_where}
use Rattle.ficus_world.proofs.Pulling.{ask_carried, ask_uncarried}

-- what passes by links of a kind, passes by links of whatever other kind these are too
pub passes_of : {K D : Type 0} {tells : Type 0} {keep : Keep K} {disk : Disk D} {IsLink More : Command → Type 0}
    {old new : Whole} {x y : List (Pair D)} → ((link : Command) → IsLink link → More link)
    → Passes tells keep disk IsLink old new x y → Passes tells keep disk More old new x y
passes_of more (Idles settled touches) = Idles settled touches
passes_of more (Links {command = command} {outcomes = outcomes} {answer = answer} of settled after moves touches spared) =
    Links {command = command} {outcomes = outcomes} {answer = answer} (more command of) settled after moves touches spared
passes_of more (Joins one two) = Joins (passes_of more one) (passes_of more two)

module _ {K D : Type 0} {tells : Type 0} {keep : Keep K} {disk : Disk D} {IsLink : Command → Type 0} {old new : Whole}
    {x y : List (Pair D)} (settled : IsSettled keep disk old x) (after : IsSettled keep disk new y)
    (touches : Touches keep disk old new x y) where
  -- the world stays
  pub idle : new ≡ old → Passes tells keep disk IsLink old new x y
  idle same =
      subst (λ (w : Whole). Passes tells keep disk IsLink old w x y) (sym same)
      (Idles settled (subst (λ (w : Whole). Touches keep disk old w x y) same touches))

  -- what a command comes to, unless memory was refused
  linked : (may : Type 0) (command : Command) → IsLink command → (outcomes : List Outcome)
      (result : Result Answer Refusal) → Spares disk old command new x y
      → UnlessMemoryWhere may (λ answer. CarriesOut tells disk.tells command old answer
      (record { outcomes = outcomes; after = new })) result
      → (IsErrOf result Memory → new ≡ old) → Passes tells keep disk IsLink old new x y
  linked may command of outcomes (Ok a) spared does memory =
      Links {command = command} {outcomes = outcomes} of settled after
      (record { result = Ok a; does = does; answer_is = refl }) touches spared
  linked may command of outcomes (Err Memory) spared does memory = idle (memory refl)
  linked may command of outcomes (Err r) spared does memory =
      Links {command = command} {outcomes = outcomes} of settled after
      (record { result = Err r; does = does; answer_is = refl }) touches spared

  pub comes : (command : Command) → IsLink command → (result : Result Answer Refusal)
      → Spares disk old command new x y → ComesTo tells keep disk old command result new x y
      → (IsErrOf result Memory → StaysOn disk.faults disk.armings old new x y) → Passes tells keep disk IsLink old new x y
  comes command of result spared is memory =
      linked (TablesMayWantMemory old command) command of is.outcomes result spared is.does (λ e. (memory e).same)

  module _ (spared : new.members ≡ old.members → AreSpared disk x y) where
    carried : (command : Command) → IsLink command → (result : Result Answer Refusal)
        → CarriedOn keep disk (CarriesOut tells disk.tells command) result old new x y
        → (IsErrOf result Memory → StaysOn disk.faults disk.armings old new x y) → Passes tells keep disk IsLink old new x y
    carried command of result is memory =
        linked (Unit {0}) command of is.outcomes result (λ unopened same. spared same)
        (wanted_where (Unit {0}) (λ answer. CarriesOut tells disk.tells command old answer
        (record { outcomes = is.outcomes; after = new })) result is.does (λ e. tt)) (λ e. (memory e).same)

    -- an ask
    pub asked : (by to number : ℕ) → IsLink (Asks by to)
        → CarriedOn keep disk (KeepsAsk tells by to) (Ok number) old new x y
        → Passes tells keep disk IsLink old new x y
    asked by to number of asks =
        carried (Asks by to) of (Ok (Mail number)) (ask_carried tells keep disk by to number old new x y asks)
        (λ e. absurd (cc))

    pub unasked : (by to : ℕ) (r : Refusal) → IsLink (Asks by to)
        → CarriedOn keep disk (KeepsAsk tells by to) (Err r) old new x y
        → (r ≡ Memory → StaysOn disk.faults disk.armings old new x y) → Passes tells keep disk IsLink old new x y
    unasked by to r of asks memory =
        carried (Asks by to) of (Err r) (ask_uncarried tells keep disk by to r old new x y asks) (λ e. memory (cc))

    -- a message that is given
    pub given : (number : ℕ) (result : Result Answer Refusal) → IsLink (Gives number)
        → CarriedOn keep disk (GivesMessage tells number) result old new x y
        → (IsErrOf result Memory → StaysOn disk.faults disk.armings old new x y) → Passes tells keep disk IsLink old new x y
    given number result of gives memory = carried (Gives number) of result gives memory
