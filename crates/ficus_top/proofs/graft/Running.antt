-- What each volume runs of what is sent.
use Rattle.std.proofs.Common.{◌≡◌, ◌≢◌, ◌⊎◌, ℕ, ◌-◌, ◌≤◌, List, [], ◌∷◌, ◌++◌, length, map, refl, sym, ap, ◌∙◌, subst, inl, inr, arith}
use Rattle.std.specs.Prelude.{Vec, vec_items}
use Rattle.std.specs.declared.alloc.Global.{Global}
use Rattle.std.proofs.lemmas.Bool.{cases_eq}
use Rattle.std.proofs.lemmas.List.{length-set}
use Rattle.ficus_disk.specs.declared.disk.Disk.{Ghosts as Disk}
use Rattle.ficus_disk.specs.declared.pair.Pair.{Pair}
use Rattle.ficus_ids.specs.Members.{IsMember}
use Rattle.ficus_keeper.specs.declared.keep.Keep.{Ghosts as Keep}
use Rattle.ficus_model.specs.Lawful.{Volume}
use Rattle.ficus_script.specs.declared.command.Command.{Command}
use Rattle.ficus_script.specs.declared.answer.Answer.{Answer}
use Rattle.ficus_runs.specs.Outcomes.{all_outcomes}
use Rattle.ficus_runs.proofs.Numbers.{number_exists, number_once}
use Rattle.ficus_runs.proofs.Replaced.{replaced}
use Rattle.ficus_runs.specs.ModelWorld.{ModelWorld}
use Rattle.ficus_runs.specs.Numbered.{IsNumbered}
use Rattle.ficus_runs.specs.Outcome.{Outcome, link_failures}
use Rattle.ficus_runs.specs.Run.Run.{End, Then}
use Rattle.ficus_loop.proofs.Serves.{both_asked, one_asked, run_append}
use Rattle.ficus_world.specs.Causes.{AreCaused}
use Rattle.ficus_world.specs.Disks.{DisksFollow}
use Rattle.ficus_world.specs.Follows.{FollowsOn}
use Rattle.ficus_world.specs.Fuses.{FusesFollow}
use Rattle.ficus_world.specs.World.{Backed, Whole, WorldStandsFor}
use Rattle.ficus_world.proofs.Disks.{follows_none, follows_then}
use Rattle.ficus_world.proofs.Fuses.{fuses_none, fuses_then}
use Rattle.ficus_world.proofs.Lifting.Outcomes.{both_caused, steady_caused}
use Rattle.ficus_top.specs.Graft.Answered.{Sent, answers_to, commands_to}
use Rattle.ficus_top.specs.Graft.Runs.{Disks, EachRuns, EachSteps, RunsOn, Sends}
use Rattle.ficus_top.specs.Graft.Runs.EachSteps.{NoneSteps, OneSteps}
use Rattle.ficus_top.proofs.graft.Sending.{answers_append, commands_append, to_it, to_other}

module _ {K D : Type 0} {keep : Keep K} {disk : Disk D} {volume : Volume} where
  -- no command
  pub runs_nothing : (W : ModelWorld) (world : Whole) (disks : List (Pair D)) → WorldStandsFor volume W world
      → RunsOn keep disk volume W world [] [] world disks disks
  runs_nothing W world disks stands = record {
    after = W;
    outcomes = [];
    run = End;
    caused = steady_caused world.post.faults;
    stored = refl;
    stands = stands;
    disks = follows_none;
    fuses = fuses_none;
  }

  -- one command
  pub runs_one : (W : ModelWorld) (before : Whole) (command : Command) (answer : Answer) (world : Whole)
      (old_disks new_disks : List (Pair D)) → FollowsOn keep disk volume W before command answer world old_disks new_disks
      → RunsOn keep disk volume W before (command ∷ []) (answer ∷ []) world old_disks new_disks
  runs_one W before command answer world old_disks new_disks on = record {
    after = on.follows.after;
    outcomes = on.outcomes ∷ [];
    run = Then on.follows.step End;
    caused = subst (λ (asked : List Outcome). AreCaused before.post.faults world.post.faults (link_failures asked))
        (one_asked on.outcomes) on.follows.caused;
    stored = on.follows.stored;
    stands = on.follows.stands;
    disks = subst (λ (asked : List Outcome). DisksFollow disk.faults disk.armings asked old_disks new_disks)
        (one_asked on.outcomes) on.disks;
    fuses = subst (λ (asked : List Outcome). FusesFollow keep disk asked before.members world.members old_disks
        new_disks) (one_asked on.outcomes) on.fuses;
  }

  -- commands, and then others
  pub runs_then : {W : ModelWorld} {before world next : Whole} {commands others : List Command}
      {answers more : List Answer} {old_disks mid_disks new_disks : List (Pair D)}
      → RunsOn keep disk volume W before commands answers world old_disks mid_disks
      → ((M : ModelWorld) → WorldStandsFor volume M world
      → RunsOn keep disk volume M world others more next mid_disks new_disks)
      → RunsOn keep disk volume W before (commands ++ others) (answers ++ more) next old_disks new_disks
  runs_then {before} {next} {old_disks} {new_disks} first run =
      let behind = run first.after first.stands in
      let asked = both_asked first.outcomes behind.outcomes in
      record {
        after = behind.after;
        outcomes = first.outcomes ++ behind.outcomes;
        run = run_append first.run behind.run;
        caused = subst (λ (asked : List Outcome). AreCaused before.post.faults next.post.faults (link_failures asked))
            asked (both_caused (all_outcomes first.outcomes) (all_outcomes behind.outcomes) first.caused behind.caused);
        stored = omega (arith, first.stored, behind.stored);
        stands = behind.stands;
        disks = subst (λ (asked : List Outcome). DisksFollow disk.faults disk.armings asked old_disks new_disks) asked
            (follows_then first.disks behind.disks);
        fuses = subst (λ (asked : List Outcome). FusesFollow keep disk asked before.members next.members old_disks
            new_disks) asked (fuses_then first.fuses behind.fuses);
      }

  -- the same of equal lists
  runs_as : {W : ModelWorld} {before world : Whole} {commands others : List Command} {answers more : List Answer}
      {old_disks new_disks : List (Pair D)} → commands ≡ others → answers ≡ more
      → RunsOn keep disk volume W before commands answers world old_disks new_disks
      → RunsOn keep disk volume W before others more world old_disks new_disks
  runs_as {W} {before} {world} {commands} {more} {old_disks} {new_disks} same alike runs =
      subst (λ (c : List Command). RunsOn keep disk volume W before c more world old_disks new_disks) same
      (subst (λ (a : List Answer). RunsOn keep disk volume W before commands a world old_disks new_disks) alike runs)

abbrev map_commands : List Sent → List Command
map_commands sent = map (λ one. one.what.command) sent

abbrev map_answers : List Sent → List Answer
map_answers sent = map (λ one. one.answer) sent

module _ {K D : Type 0} {link : Type 0} {keep : Keep K} {disk : Disk D} where
  -- steps, and then others
  steps_then : {sent more : List Sent} {old mid new : List (Backed K)} {old_disks mid_disks new_disks : Disks D}
      → EachSteps link keep disk sent old mid old_disks mid_disks
      → EachSteps link keep disk more mid new mid_disks new_disks
      → EachSteps link keep disk (sent ++ more) old new old_disks new_disks
  steps_then NoneSteps behind = behind
  steps_then (OneSteps first rest) behind = OneSteps first (steps_then rest behind)

module _ {K D : Type 0} {link told : Type 0} {keep : Keep K} {disk : Disk D} where
  -- nothing was sent
  pub each_none : (worlds : List (Backed K)) (disks : Disks D) → EachRuns link told keep disk [] worlds worlds disks disks
  each_none worlds disks = record {
    count = refl;
    lists = refl;
    steps = NoneSteps;
    each = λ told v volume W world next pairs later is now of becomes stands.
        let same : world ≡ next = number_once is now in
        let alike : pairs ≡ later = number_once of becomes in
        subst (λ (it : Backed K). RunsOn keep disk volume W world.whole [] [] it.whole (vec_items pairs)
        (vec_items later)) same
        (subst (λ (it : Vec (Pair D) Global). RunsOn keep disk volume W world.whole [] [] world.whole (vec_items pairs)
        (vec_items it)) alike (runs_nothing W world.whole (vec_items pairs) stands));
  }

  -- what was sent, and then more
  pub each_then : {sent more : List Sent} {old mid new : List (Backed K)} {old_disks mid_disks new_disks : Disks D}
      → EachRuns link told keep disk sent old mid old_disks mid_disks → EachRuns link told keep disk more mid new mid_disks new_disks
      → EachRuns link told keep disk (sent ++ more) old new old_disks new_disks
  each_then {sent} {more} {old} {mid} {new} {old_disks} {mid_disks} {new_disks} first behind = record {
    count = behind.count ∙ first.count;
    lists = behind.lists ∙ first.lists;
    steps = steps_then first.steps behind.steps;
    each = λ is_told v volume W world next pairs later is now of becomes stands.
        let between = number_exists mid v (subst (λ n. IsMember n v) (sym first.count) is.member) in
        let disks = number_exists mid_disks v (subst (λ n. IsMember n v) (sym first.lists) of.member) in
        runs_as (sym (commands_append v sent more)) (sym (answers_append v sent more))
        (runs_then (first.each is_told v volume W world between.0 pairs disks.0 is between.1 of disks.1 stands)
        (λ M standing. behind.each is_told v volume M between.0 next disks.0 later between.1 now disks.1 becomes standing));
  }

  -- the same where less has to be told
  pub each_where : {more : Type 0} {sent : List Sent} {old new : List (Backed K)} {old_disks new_disks : Disks D}
      → (more → told) → EachRuns link told keep disk sent old new old_disks new_disks
      → EachRuns link more keep disk sent old new old_disks new_disks
  each_where further runs = record {
    count = runs.count;
    lists = runs.lists;
    steps = runs.steps;
    each = λ is_told. runs.each (further is_told);
  }

  module _ (one : Sent) (old new : List (Backed K)) (old_disks new_disks : Disks D)
      (sends : Sends link told keep disk one old new old_disks new_disks) where
    from_one : 1 ≤ one.what.volume
    from_one = sends.member.at_least

    module _ (v : ℕ) (next : Backed K) (later : Vec (Pair D) Global) (now : IsNumbered new v next)
        (becomes : IsNumbered new_disks v later) where
      -- it is the volume to which it was sent, or another, which is as before
      world_is : ((v ≡ one.what.volume) × (next ≡ sends.next))
          ⊎ ((one.what.volume ≢ v) × IsNumbered old v next)
      world_is = replaced old one.what.volume v sends.next next from_one
          (subst (λ (list : List (Backed K)). IsNumbered list v next) sends.set now)

      disks_are : ((v ≡ one.what.volume) × (later ≡ sends.later))
          ⊎ ((one.what.volume ≢ v) × IsNumbered old_disks v later)
      disks_are = replaced old_disks one.what.volume v sends.later later from_one
          (subst (λ (list : Disks D). IsNumbered list v later) sends.set_disks becomes)

    -- one command was sent
    pub each_one : EachRuns link told keep disk (one ∷ []) old new old_disks new_disks
    each_one = record {
      count = ap length sends.set ∙ length-set old (one.what.volume - 1) sends.next;
      lists = ap length sends.set_disks ∙ length-set old_disks (one.what.volume - 1) sends.later;
      steps = OneSteps sends.steps NoneSteps;
      each = each;
    }
      where
        each : told → (v : ℕ) (volume : Volume) (W : ModelWorld) (world next : Backed K) (pairs later : Vec (Pair D) Global)
            → IsNumbered old v world → IsNumbered new v next → IsNumbered old_disks v pairs
            → IsNumbered new_disks v later → WorldStandsFor volume W world.whole
            → RunsOn keep disk volume W world.whole (commands_to v (one ∷ [])) (answers_to v (one ∷ [])) next.whole
            (vec_items pairs) (vec_items later)
        each is_told v volume W world next pairs later is now of becomes stands =
            elim (cases_eq v one.what.volume) [ inl same ↦ it same | inr other ↦ another other ]
          where
            it : v ≡ one.what.volume → RunsOn keep disk volume W world.whole (commands_to v (one ∷ []))
                (answers_to v (one ∷ [])) next.whole (vec_items pairs) (vec_items later)
            it same =
                let sent = to_it one v (sym same) in
                let at : IsNumbered old one.what.volume world = subst (λ u. IsNumbered old u world) same is in
                let on : IsNumbered old_disks one.what.volume pairs = subst (λ u. IsNumbered old_disks u pairs) same of in
                let is_next : sends.next ≡ next = elim (world_is v next later now becomes) [
                  | inl here ↦ sym here.1
                  | inr there ↦ absurd (there.0 (sym same))
                ] in
                let is_later : sends.later ≡ later = elim (disks_are v next later now becomes) [
                  | inl here ↦ sym here.1
                  | inr there ↦ absurd (there.0 (sym same))
                ] in
                runs_as (sym (ap (λ (l : List Sent). map_commands l) sent)) (sym (ap (λ (l : List Sent). map_answers l) sent))
                (subst (λ (w : Backed K). RunsOn keep disk volume W world.whole (one.what.command ∷ []) (one.answer ∷ [])
                w.whole (vec_items pairs) (vec_items later)) is_next
                (subst (λ (d : Vec (Pair D) Global). RunsOn keep disk volume W world.whole (one.what.command ∷ [])
                (one.answer ∷ []) sends.next.whole (vec_items pairs) (vec_items d)) is_later
                (runs_one W world.whole one.what.command one.answer sends.next.whole (vec_items pairs)
                (vec_items sends.later) (sends.follows is_told volume W world pairs at on stands))))

            another : v ≢ one.what.volume → RunsOn keep disk volume W world.whole (commands_to v (one ∷ []))
                (answers_to v (one ∷ [])) next.whole (vec_items pairs) (vec_items later)
            another other =
                let sent = to_other one v (λ same. other (sym same)) in
                let is_next : world ≡ next = elim (world_is v next later now becomes) [
                  | inl here ↦ absurd (other here.0)
                  | inr there ↦ number_once is there.1
                ] in
                let is_later : pairs ≡ later = elim (disks_are v next later now becomes) [
                  | inl here ↦ absurd (other here.0)
                  | inr there ↦ number_once of there.1
                ] in
                runs_as (sym (ap (λ (l : List Sent). map_commands l) sent)) (sym (ap (λ (l : List Sent). map_answers l) sent))
                (subst (λ (w : Backed K). RunsOn keep disk volume W world.whole [] [] w.whole (vec_items pairs)
                (vec_items later)) is_next
                (subst (λ (d : Vec (Pair D) Global). RunsOn keep disk volume W world.whole [] [] world.whole
                (vec_items pairs) (vec_items d)) is_later
                (runs_nothing W world.whole (vec_items pairs) stands)))
