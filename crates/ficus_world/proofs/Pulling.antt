-- A pull is its parts, one after the other; and what is left where memory is refused.
use Rattle.std.proofs.Common.{◌≡◌, ℕ, ◌+◌, ◌-◌, ◌<◌, List, [], ◌++◌, suc, Result, Ok, Err, Option, refl, ap, subst, ◌∙◌, arith}
use Rattle.std.specs.List.{range_with_len}
use Rattle.ficus_disk.specs.declared.disk.Disk.{Ghosts as Disk}
use Rattle.ficus_disk.specs.declared.pair.Pair.{Pair}
use Rattle.ficus_ids.specs.declared.refusal.Refusal.{Refusal}
use Rattle.ficus_keeper.specs.declared.keep.Keep.{Ghosts as Keep}
use Rattle.ficus_script.specs.declared.answer.Answer.{Answer}
use Rattle.ficus_script.specs.declared.answer.Answer.TheVariants.{Done, Mail}
use Rattle.ficus_script.specs.declared.command.Command.{Command}
use Rattle.ficus_script.specs.declared.command.Command.TheVariants.{Ask as Asks, Pull as Pulls}
use Rattle.ficus_runs.specs.Actions.{GivesOnly}
use Rattle.ficus_runs.specs.Exchange.{mails_of}
use Rattle.ficus_runs.specs.Sequence.{Effect, First, NothingDone, unchanged}
use Rattle.ficus_runs.specs.Sequence.ByRule.{Says}
use Rattle.ficus_runs.specs.Sequence.CutFirst.{InFirst, InRest}
use Rattle.ficus_world.specs.Disks.{CarriedOn, StaysOn}
use Rattle.ficus_world.specs.Moves.{ArePeersUp, CarriesOut, Compared, CutShort, FindsPeers, GivesMessage, GivesMessages, GivesSomeMessages, KeepsAsk, WholeAction}
use Rattle.ficus_world.specs.Moves.FindsPeers.{FindsBoth}
use Rattle.ficus_world.specs.Stepped.{CutOn, CutPart}
use Rattle.ficus_world.specs.World.{Whole}
use Rattle.ficus_world.proofs.Carrying.{carried_first, carried_none, carried_then}
use Rattle.ficus_world.proofs.Disks.{follows_none, follows_then}
use Rattle.ficus_world.proofs.Fuses.{permit_none, permit_then}

module _ {D : Type 0} {faults : D → ℕ} {armings : D → Option ℕ} where
  -- a world that is as it was stays so
  pub stays : {old new : Whole} (x : List (Pair D)) → new ≡ old → StaysOn faults armings old new x x
  stays x same = record { same = same; disks = follows_none }

  -- the same from where it was before
  pub stays_from : {old middle new : Whole} {x y : List (Pair D)} → middle ≡ old
      → StaysOn faults armings middle new x y → StaysOn faults armings old new x y
  stays_from before is = record { same = is.same ∙ before; disks = is.disks }

pub nothing_done : {old new : Whole} → new ≡ old → NothingDone old (record { outcomes = []; after = new })
nothing_done same = ap (λ (w : Whole). record { outcomes = []; after = w }) same

-- the two members of a pull
abbrev both_of : {by to : ℕ} {old : Whole} → ArePeersUp old by to → Compared
both_of peers = record { one = peers.one.member; other = peers.two.member }

finds_both : {by to : ℕ} {old : Whole} (peers : ArePeersUp old by to)
    → FindsPeers by to old (Ok (both_of peers)) (unchanged old)
finds_both peers = FindsBoth peers.peers peers.one.is peers.two.is peers.one.up peers.two.up

-- what a pull does behind the give of its ask, behind its ask, and behind the two members
abbrev behind_give : Type 0 → Answer → WholeAction Answer
behind_give tells given = GivesMessages tells (mails_of given)

abbrev behind_ask : Type 0 → ℕ → WholeAction Answer
behind_ask tells number = First (GivesMessage tells number) (behind_give tells)

abbrev behind_peers : Type 0 → ℕ → ℕ → Compared → WholeAction Answer
behind_peers tells by to peers = First (KeepsAsk tells by to) (behind_ask tells)

module _ {K D : Type 0} (tells : Type 0) (keep : Keep K) (disk : Disk D) where
  -- a command that leaves the world as it was where memory is refused is cut short so
  pub cut_none : (command : Command) (old new : Whole) {x y : List (Pair D)}
      → ((left : Effect Whole) → NothingDone old left → CutShort tells command old left)
      → StaysOn disk.faults disk.armings old new x y → CutOn tells keep disk command old new x y
  cut_none command old new cut is = record {
    outcomes = [];
    cut = cut (record { outcomes = []; after = new }) (nothing_done is.same);
    disks = is.disks;
    fuses = permit_none;
  }

  -- an ask is a command
  pub ask_carried : (by to number : ℕ) (old new : Whole) (x y : List (Pair D))
      → CarriedOn keep disk (KeepsAsk tells by to) (Ok number) old new x y
      → CarriedOn keep disk (CarriesOut tells disk.tells (Asks by to)) (Ok (Mail number)) old new x y
  ask_carried by to number old new x y asks =
      carried_then (KeepsAsk tells by to) (λ number. GivesOnly (Mail number)) old new new x y y (Ok (Mail number)) asks
      (carried_none (GivesOnly (Mail number)) (Ok (Mail number)) new y (Says refl))

  pub ask_uncarried : (by to : ℕ) (r : Refusal) (old new : Whole) (x y : List (Pair D))
      → CarriedOn keep disk (KeepsAsk tells by to) (Err r) old new x y
      → CarriedOn keep disk (CarriesOut tells disk.tells (Asks by to)) (Err r) old new x y
  ask_uncarried by to r old new x y asks =
      carried_first (KeepsAsk tells by to) (λ number. GivesOnly (Mail number)) old r new x y asks

  module _ (by to : ℕ) (old : Whole) (peers : ArePeersUp old by to) (x : List (Pair D)) where
    found : (result : Result Answer Refusal) (new : Whole) (y : List (Pair D))
        → CarriedOn keep disk (First (KeepsAsk tells by to) (behind_ask tells)) result old new x y
        → CarriedOn keep disk (CarriesOut tells disk.tells (Pulls by to)) result old new x y
    found result new y is =
        carried_then (FindsPeers by to) (behind_peers tells by to) old old new x x y result
        (carried_none (FindsPeers by to) (Ok (both_of peers)) old x (finds_both peers)) is

    -- a pull that ends at its ask
    pub pull_unasked : (r : Refusal) (new : Whole) (y : List (Pair D))
        → CarriedOn keep disk (KeepsAsk tells by to) (Err r) old new x y
        → CarriedOn keep disk (CarriesOut tells disk.tells (Pulls by to)) (Err r) old new x y
    pull_unasked r new y asks =
        found (Err r) new y (carried_first (KeepsAsk tells by to) (behind_ask tells) old r new x y asks)

    pub cut_unasked : (new : Whole) (y : List (Pair D)) → StaysOn disk.faults disk.armings old new x y
        → CutOn tells keep disk (Pulls by to) old new x y
    cut_unasked new y is = record {
      outcomes = [];
      cut = InRest (finds_both peers) (InFirst (nothing_done is.same));
      disks = is.disks;
      fuses = permit_none;
    }

    module _ (number : ℕ) (asked : Whole) (y : List (Pair D))
        (asks : CarriedOn keep disk (KeepsAsk tells by to) (Ok number) old asked x y) where
      asked_then : (result : Result Answer Refusal) (new : Whole) (z : List (Pair D))
          → CarriedOn keep disk (behind_ask tells number) result asked new y z
          → CarriedOn keep disk (CarriesOut tells disk.tells (Pulls by to)) result old new x z
      asked_then result new z is =
          found result new z
          (carried_then (KeepsAsk tells by to) (behind_ask tells) old asked new x y z result asks is)

      -- a pull that ends at its first give
      pub pull_ungiven : (r : Refusal) (new : Whole) (z : List (Pair D))
          → CarriedOn keep disk (GivesMessage tells number) (Err r) asked new y z
          → CarriedOn keep disk (CarriesOut tells disk.tells (Pulls by to)) (Err r) old new x z
      pull_ungiven r new z gives =
          asked_then (Err r) new z
          (carried_first (GivesMessage tells number) (behind_give tells) asked r new y z gives)

      pub cut_ungiven : (new : Whole) (z : List (Pair D)) → StaysOn disk.faults disk.armings asked new y z
          → CutOn tells keep disk (Pulls by to) old new x z
      cut_ungiven new z is = record {
        outcomes = asks.outcomes ++ [];
        cut = InRest (finds_both peers) (InRest asks.does (InFirst (nothing_done is.same)));
        disks = follows_then asks.disks is.disks;
        fuses = permit_then asks.fuses permit_none;
      }

      -- and one that doesn't
      module _ (given : Answer) (gave : Whole) (z : List (Pair D))
          (gives : CarriedOn keep disk (GivesMessage tells number) (Ok given) asked gave y z) where
        pub pull_given : (result : Result Answer Refusal) (new : Whole) (last : List (Pair D))
            → CarriedOn keep disk (behind_give tells given) result gave new z last
            → CarriedOn keep disk (CarriesOut tells disk.tells (Pulls by to)) result old new x last
        pull_given result new last next =
            asked_then result new last
            (carried_then (GivesMessage tells number) (behind_give tells) asked gave new y z last result gives next)

        pub cut_given : (new : Whole) (last : List (Pair D))
            → CutPart keep disk (GivesSomeMessages tells (mails_of given)) gave new z last
            → CutOn tells keep disk (Pulls by to) old new x last
        cut_given new last is = record {
          outcomes = asks.outcomes ++ (gives.outcomes ++ is.outcomes);
          cut = InRest (finds_both peers) (InRest asks.does (InRest gives.does is.cut));
          disks = follows_then asks.disks (follows_then gives.disks is.disks);
          fuses = permit_then asks.fuses (permit_then gives.fuses is.fuses);
        }

-- So many of the messages are given: what the gives of the rest come to, those of all come to.
pub record HasGiven {K D : Type 0} (tells : Type 0) (keep : Keep K) (disk : Disk D) (first count index : ℕ)
    (old now : Whole) (x y : List (Pair D)) : Type 0 where
  pub rest : (left : ℕ) → index + left ≡ count → (result : Result Answer Refusal) (new : Whole) (z : List (Pair D))
      → CarriedOn keep disk (GivesMessages tells (range_with_len (first + index) left)) result now new y z
      → CarriedOn keep disk (GivesMessages tells (range_with_len first count)) result old new x z
  pub cut : (left : ℕ) → index + left ≡ count → (new : Whole) (z : List (Pair D))
      → CutPart keep disk (GivesSomeMessages tells (range_with_len (first + index) left)) now new y z
      → CutPart keep disk (GivesSomeMessages tells (range_with_len first count)) old new x z

module _ {K D : Type 0} (tells : Type 0) (keep : Keep K) (disk : Disk D) (first count : ℕ) (old : Whole)
    (x : List (Pair D)) where
  -- none is yet
  pub given_none : HasGiven tells keep disk first count 0 old old x x
  given_none = record {
    rest = λ left is result new z gives.
        let all : left ≡ count = omega (arith, is) in
        let begins : first + 0 ≡ first = omega arith in
        subst (λ n. CarriedOn keep disk (GivesMessages tells (range_with_len first n)) result old new x z) all
        (subst (λ n. CarriedOn keep disk (GivesMessages tells (range_with_len n left)) result old new x z) begins gives);
    cut = λ left is new z gives.
        let all : left ≡ count = omega (arith, is) in
        let begins : first + 0 ≡ first = omega arith in
        subst (λ n. CutPart keep disk (GivesSomeMessages tells (range_with_len first n)) old new x z) all
        (subst (λ n. CutPart keep disk (GivesSomeMessages tells (range_with_len n left)) old new x z) begins gives);
  }

  module _ (index : ℕ) (now : Whole) (y : List (Pair D))
      (has : HasGiven tells keep disk first count index old now x y) where
    -- all are
    pub given_all : index ≡ count
        → CarriedOn keep disk (GivesMessages tells (range_with_len first count)) (Ok Done) old now x y
    given_all all =
        has.rest 0 (omega (arith, all)) (Ok Done) now y
        (carried_none (GivesOnly Done) (Ok Done) now y (Says refl))

    -- what is left behind the next one
    abbrev more : ℕ → WholeAction Answer
    more left = GivesMessages tells (range_with_len (first + index + 1) left)

    -- the next is
    pub given_next : (given : Answer) (next : Whole) (z : List (Pair D))
        → CarriedOn keep disk (GivesMessage tells (first + index)) (Ok given) now next y z
        → HasGiven tells keep disk first count (index + 1) old next x z
    given_next given next z gives = record {
      rest = λ left is result new last later.
          let behind : first + (index + 1) ≡ first + index + 1 = omega arith in
          has.rest (suc left) (omega (arith, is)) result new last
          (carried_then (GivesMessage tells (first + index)) (λ given. more left) now next new y z last result gives
          (subst (λ n. CarriedOn keep disk (GivesMessages tells (range_with_len n left)) result next new z last) behind
          later));
      cut = λ left is new last later.
          let behind : first + (index + 1) ≡ first + index + 1 = omega arith in
          let part = subst (λ n. CutPart keep disk (GivesSomeMessages tells (range_with_len n left)) next new z last)
          behind later in
          has.cut (suc left) (omega (arith, is)) new last (record {
            outcomes = gives.outcomes ++ part.outcomes;
            cut = InRest gives.does part.cut;
            disks = follows_then gives.disks part.disks;
            fuses = permit_then gives.fuses part.fuses;
          });
    }

    -- the next is refused
    pub given_refused : index < count → (r : Refusal) (new : Whole) (z : List (Pair D))
        → CarriedOn keep disk (GivesMessage tells (first + index)) (Err r) now new y z
        → CarriedOn keep disk (GivesMessages tells (range_with_len first count)) (Err r) old new x z
    given_refused within r new z gives =
        let left = count - (index + 1) in
        has.rest (suc left) (omega (arith, within)) (Err r) new z
        (carried_first (GivesMessage tells (first + index)) (λ given. more left) now r new y z gives)

    -- memory is refused
    pub given_cut : index < count → (new : Whole) (z : List (Pair D)) → StaysOn disk.faults disk.armings now new y z
        → CutPart keep disk (GivesSomeMessages tells (range_with_len first count)) old new x z
    given_cut within new z is =
        has.cut (suc (count - (index + 1))) (omega (arith, within)) new z (record {
          outcomes = [];
          cut = InFirst (nothing_done is.same);
          disks = is.disks;
          fuses = permit_none;
        })
