-- What holds of each action, and of one after the other, holds of what a command does, and of what it has done where
-- memory is refused on the way.
use Rattle.std.proofs.Common.{◌≡◌, ℕ, ◌+◌, List, [], ◌∷◌, length, Result, Ok, refl, sym, subst}
use Rattle.ficus_ids.specs.Members.{IsMember}
use Rattle.ficus_ids.specs.declared.refusal.Refusal.{Refusal}
use Rattle.ficus_model.specs.declared.event.Event.{Event}
use Rattle.ficus_model.specs.declared.event.Event.TheVariants as event
use Rattle.ficus_model.specs.Lawful.{Volume, IsLawful, MayCome}
use Rattle.ficus_replica.proofs.Changing.{change_may}
use Rattle.ficus_rules.specs.Rule.{Once}
use Rattle.ficus_rules.specs.View.{history_view}
use Rattle.ficus_rules.proofs.Changes.{change_once}
use Rattle.ficus_rules.proofs.Rules.{gives_once, tells_once}
use Rattle.ficus_rules.proofs.Sound.{history_sound}
use Rattle.ficus_script.specs.declared.answer.Answer.{Answer}
use Rattle.ficus_script.specs.declared.command.Command.{Command}
use Rattle.ficus_script.specs.declared.command.Command.TheVariants as command
use Rattle.ficus_script.specs.declared.command.Command.TheVariants.{Stop}
use Rattle.ficus_why_runs.specs.Row.{run_of}
use Rattle.ficus_runs.specs.Actions.{ModelAction, Adds, Saves, Posts, Fetches, Opens, Arms, Wants, GivesOnly, AtMember, AtPeers, next_position}
use Rattle.ficus_runs.specs.Exchange.{Asks, Behind, AnAsk, APiece, ComesToTaking, Handles, GivesEach, GivesMail, GivesSome, IsServedNow, PostsEach, Served, Serves, Taken, Taking, Again, OneMore, TakesPiece, TheLast, mails_of, receiver}
use Rattle.ficus_runs.specs.Exchange.ComesToTaking.{IsMissing, Completes}
use Rattle.ficus_runs.specs.ModelWorld.{ModelWorld, Posted, IsUp}
use Rattle.ficus_runs.specs.Plan.{Plan, plan}
use Rattle.ficus_runs.specs.Run.{Does, DoesPart, of_model}
use Rattle.ficus_runs.specs.RunWorld.{IsNoServe}
use Rattle.ficus_runs.specs.Sequence.{First, ByRule, Cut, CutFirst, Effect, NothingDone}
use Rattle.ficus_runs.specs.Sequence.First.{Goes}
use Rattle.ficus_runs.specs.Sequence.ByRule.{Says}
use Rattle.ficus_runs.specs.Sweep.{CollectsAt, Collecting, DoesSweepPart, DoesSweepStep, Pulling, PullsFrom, PullsPart, SweepStep, Swept, Sweeps, SweepsPart, none_swept, sweep_steps, with_answer}
use Rattle.ficus_runs.proofs.Rules.{look_answer_once, alike_answer_once, wants_once, composes_once, counts_once, cuts_once, behind_once, why_lines_once}
use Rattle.ficus_runs.proofs.Taking.{taking_once}

-- It holds of one action after the other in a world where it holds of the first there, and of the other wherever that
-- leads; of each rule that gives one thing; and of each other action but that of a stop, where what it adds may come.
pub record HoldsOfActions (volume : Volume) (P : (A : Type 0) → ModelWorld → ModelAction A → Type 0) : Type 1 where
  pub behind : {A B : Type 0} (first : ModelAction A) (rest : A → ModelAction B) (W : ModelWorld) → P A W first
      → ((a : A) (left : Effect ModelWorld) → first W (Ok a) left → P B left.after (rest a))
      → P B W (First first rest)
  pub by_rule : {A : Type 0} (rule : ModelWorld → Result A Refusal → Type 0) → ((W : ModelWorld) → Once (rule W))
      → (W : ModelWorld) → P A W (ByRule rule)
  pub adds : {A : Type 0} (given : ModelWorld → A) (event : Event) (W : ModelWorld) → IsNoServe event
      → MayCome volume W.events event → P A W (Adds given event)
  pub serves : (server ask : ℕ) (served : Served) (W : ModelWorld) → IsServedNow volume W.events server ask served
      → P ℕ W (Adds next_position (event.Serve server ask served.state (length served.messages)))
  pub saves : {A : Type 0} (given : ModelWorld → A) (by : ℕ) (event : Event) (W : ModelWorld) → IsUp by W
      → IsNoServe event → (IsLawful volume W.events → MayCome volume W.events event) → P A W (Saves given by event)
  pub posts : (behind : Posted) (size : ℕ) (W : ModelWorld) → P ℕ W (Posts behind size)
  pub fetches : (W : ModelWorld) → P (Unit {0}) W Fetches
  pub opens : (by : ℕ) (W : ModelWorld) → IsMember volume.members by → P Answer W (Opens volume by)

-- It holds of what is cut short where it holds of nothing, and of memory that is refused in one action, or in what comes
-- behind it.
pub record HoldsOfParts (P : (A : Type 0) → ModelWorld → ModelAction A → Type 0)
    (C : ModelWorld → Cut ModelWorld → Type 0) : Type 1 where
  pub nothing : (W : ModelWorld) → C W NothingDone
  pub behind : {A : Type 0} (first : ModelAction A) (cut : Cut ModelWorld) (rest : A → Cut ModelWorld)
      (W : ModelWorld) → P A W first → C W cut
      → ((a : A) (left : Effect ModelWorld) → first W (Ok a) left → C left.after (rest a))
      → C W (CutFirst first cut rest)

-- it holds of what a plan does, where it does of arming, if the command is a stop; and of what is cut short of it
record HoldsOfPlan (P : (A : Type 0) → ModelWorld → ModelAction A → Type 0)
    (C : ModelWorld → Cut ModelWorld → Type 0) (command : Command) (W : ModelWorld) (its : Plan ModelWorld) :
    Type 0 where
  does : ((by calls pick : ℕ) → command ≡ Stop by calls pick → (V : ModelWorld) → P Answer V (Arms by calls pick))
      → P Answer W its.does
  part : C W its.part

module _ (volume : Volume) (P : (A : Type 0) → ModelWorld → ModelAction A → Type 0)
    (holds : HoldsOfActions volume P) where
  -- what comes behind a rule may build on what the rule says
  rule_behind : {A B : Type 0} (rule : ModelWorld → Result A Refusal → Type 0) (rest : A → ModelAction B)
      (W : ModelWorld) → ((V : ModelWorld) → Once (rule V)) → ((a : A) → rule W (Ok a) → P B W (rest a))
      → P B W (First (ByRule rule) rest)
  rule_behind {A} {B} rule rest W once behind =
      holds.behind (ByRule rule) rest W (holds.by_rule rule once W) (λ a left says. go a left says)
    where
      go : (a : A) (left : Effect ModelWorld) → ByRule rule W (Ok a) left → P B left.after (rest a)
      go a left (Says is) = behind a is

  wanted : {B : Type 0} (good : ModelWorld → Type 0) (refusal : Refusal) (rest : Unit {0} → ModelAction B)
      (W : ModelWorld) → ((a : Unit {0}) → good W → P B W (rest a)) → P B W (First (Wants good refusal) rest)
  wanted good refusal rest W behind =
      rule_behind _ rest W (λ V. wants_once (good V) refusal) (λ a is. behind a is.0)

  gives_only_holds : {A : Type 0} (a : A) (W : ModelWorld) → P A W (GivesOnly a)
  gives_only_holds a = holds.by_rule _ (λ V. gives_once a)

  wants_holds : (good : ModelWorld → Type 0) (refusal : Refusal) (W : ModelWorld) → P (Unit {0}) W (Wants good refusal)
  wants_holds good refusal = holds.by_rule _ (λ V. wants_once (good V) refusal)

  at_member : {B : Type 0} (by : ℕ) (rest : Unit {0} → ModelAction B) (W : ModelWorld)
      → ((a : Unit {0}) → IsMember volume.members by → IsUp by W → P B W (rest a))
      → P B W (First (AtMember volume by) rest)
  at_member {B} by rest W behind =
      holds.behind (AtMember volume by) rest W (wanted _ _ _ W (λ member is. wants_holds _ _ W))
      (λ a left found. go a left found)
    where
      go : (a : Unit {0}) (left : Effect ModelWorld) → AtMember volume by W (Ok a) left → P B left.after (rest a)
      go a left (Goes (Says member) (Says up)) = behind a member.0 up.0

  at_peers_holds : (by other : ℕ) (W : ModelWorld) → P (Unit {0}) W (AtPeers volume by other)
  at_peers_holds by other W = wanted _ _ _ W (λ peers is. wants_holds _ _ W)

  asks_hold : (by to : ℕ) (W : ModelWorld) → P ℕ W (Asks volume by to)
  asks_hold by to W =
      wanted _ _ _ W
      (λ wants may. wanted _ _ _ W
      (λ up is_up. rule_behind _ _ W (composes_once volume (event.Ask by to))
      (λ message composed. wanted _ _ _ W
      (λ room has_room. holds.behind _ _ W (holds.saves _ by (event.Ask by to) W is_up refl (λ lawful. may))
      (λ position left saved. holds.posts _ _ left.after)))))

  posts_each_hold : (position index : ℕ) (sizes : List ℕ) (W : ModelWorld)
      → P (Unit {0}) W (PostsEach position index sizes)
  posts_each_hold position index [] W = gives_only_holds tt W
  posts_each_hold position index (size ∷ sizes) W =
      holds.behind _ _ W (holds.posts _ _ W)
      (λ number left posted. posts_each_hold position (index + 1) sizes left.after)

  serves_hold : (server ask : ℕ) (W : ModelWorld) → P Answer W (Serves volume server ask)
  serves_hold server ask W =
      rule_behind _ _ W (cuts_once volume server ask)
      (λ served cut. wanted _ _ _ W
      (λ room has_room. holds.behind _ _ W
      (holds.serves server ask served W (subst (IsServedNow volume W.events server ask) (sym cut.2) cut.1))
      (λ position left added. rule_behind _ _ left.after (λ V. gives_once _)
      (λ first is. holds.behind _ _ left.after (posts_each_hold position 0 _ left.after)
      (λ sent then posted. gives_only_holds _ then.after)))))

  taken_holds : (asker serve index pieces : ℕ) (taking : Taking) (W : ModelWorld) → IsUp asker W
      → ComesToTaking volume W.events asker serve index pieces taking
      → P Answer W (Taken asker serve index pieces taking)
  taken_holds asker serve index pieces (Again have) W up comes = gives_only_holds _ W
  taken_holds asker serve index pieces (OneMore have) W up (IsMissing may counts) = holds.adds _ _ W refl may
  taken_holds asker serve index pieces TheLast W up (Completes may) = holds.saves _ _ _ W up refl (λ lawful. may)

  takes_hold : (serve asker index pieces : ℕ) (W : ModelWorld) → IsUp asker W
      → P Answer W (TakesPiece volume serve asker index pieces)
  takes_hold serve asker index pieces W up =
      wanted _ _ _ W
      (λ wants answers. wanted _ _ _ W
      (λ alike one. rule_behind _ _ W
      (λ V. tells_once (λ taking. taking) (taking_once volume V.events asker serve index pieces))
      (λ taking comes. taken_holds asker serve index pieces taking W up
      (subst (ComesToTaking volume W.events asker serve index pieces) (sym comes.2) comes.1))))

  handles_holds : (behind : Behind) (W : ModelWorld) → IsUp (receiver behind) W → P Answer W (Handles volume behind)
  handles_holds (AnAsk position server) W up = serves_hold server position W
  handles_holds (APiece position asker index pieces) W up = takes_hold position asker index pieces W up

  gives_mail_holds : (number : ℕ) (W : ModelWorld) → P Answer W (GivesMail volume number)
  gives_mail_holds number W =
      wanted _ _ _ W
      (λ wants some. holds.behind _ _ W (holds.fetches W)
      (λ fetched left fetches. rule_behind _ _ left.after
      (λ V. tells_once (λ behind. behind) (behind_once V number))
      (λ found is. wanted _ _ _ left.after (λ up is_up. handles_holds found left.after is_up))))

  gives_each_hold : (numbers : List ℕ) (W : ModelWorld) → P Answer W (GivesEach volume numbers)
  gives_each_hold [] W = gives_only_holds _ W
  gives_each_hold (number ∷ numbers) W =
      holds.behind _ _ W (gives_mail_holds number W) (λ given left gives. gives_each_hold numbers left.after)

  pulls_hold : (by to : ℕ) (W : ModelWorld) → P Answer W (PullsFrom volume by to)
  pulls_hold by to W =
      holds.behind _ _ W (at_peers_holds by to W)
      (λ peers found finds. holds.behind _ _ found.after (asks_hold by to found.after)
      (λ number asked asks. holds.behind _ _ asked.after (gives_mail_holds number asked.after)
      (λ given left gives. gives_each_hold (mails_of given) left.after)))

  collects_hold : (by : ℕ) (W : ModelWorld) → P Answer W (CollectsAt volume by)
  collects_hold by W =
      at_member by _ W
      (λ here member up. rule_behind _ _ W (λ V. counts_once volume.members V.events by)
      (λ counted is. holds.saves _ by (event.Collect by) W up refl (λ lawful. member)))

  sweep_step_holds : (step : SweepStep) (W : ModelWorld) → P Answer W (DoesSweepStep volume step)
  sweep_step_holds (Pulling by to) W = pulls_hold by to W
  sweep_step_holds (Collecting by) W = collects_hold by W

  sweeps_hold : (steps : List SweepStep) (swept : Swept) (W : ModelWorld) → P Swept W (Sweeps volume steps swept)
  sweeps_hold [] swept W = gives_only_holds swept W
  sweeps_hold (step ∷ steps) swept W =
      holds.behind _ _ W (sweep_step_holds step W)
      (λ given left does. sweeps_hold steps (with_answer swept given) left.after)

  module _ (C : ModelWorld → Cut ModelWorld → Type 0) (parts : HoldsOfParts P C) where
    gives_some_hold : (numbers : List ℕ) (W : ModelWorld) → C W (GivesSome volume numbers)
    gives_some_hold [] W = parts.nothing W
    gives_some_hold (number ∷ numbers) W =
        parts.behind _ _ _ W (gives_mail_holds number W) (parts.nothing W)
        (λ given left gives. gives_some_hold numbers left.after)

    pulls_part_holds : (by to : ℕ) (W : ModelWorld) → C W (PullsPart volume by to)
    pulls_part_holds by to W =
        parts.behind _ _ _ W (at_peers_holds by to W) (parts.nothing W)
        (λ peers found finds. parts.behind _ _ _ found.after (asks_hold by to found.after) (parts.nothing found.after)
        (λ number asked asks. parts.behind _ _ _ asked.after (gives_mail_holds number asked.after)
        (parts.nothing asked.after) (λ given left gives. gives_some_hold (mails_of given) left.after)))

    sweep_step_part_holds : (step : SweepStep) (W : ModelWorld) → C W (DoesSweepPart volume step)
    sweep_step_part_holds (Pulling by to) W = pulls_part_holds by to W
    sweep_step_part_holds (Collecting by) W = parts.nothing W

    sweeps_part_hold : (steps : List SweepStep) (W : ModelWorld) → C W (SweepsPart volume steps)
    sweeps_part_hold [] W = parts.nothing W
    sweeps_part_hold (step ∷ steps) W =
        parts.behind _ _ _ W (sweep_step_holds step W) (sweep_step_part_holds step W)
        (λ given left does. sweeps_part_hold steps left.after)

    -- so it holds of each plan
    plan_holds : (command : Command) (W : ModelWorld) → HoldsOfPlan P C command W (plan (of_model volume) command)
    plan_holds (command.Change by change) W = record {
      does = λ arms. at_member by _ W
          (λ here member up. rule_behind _ _ W
          (λ V. change_once (history_view volume V.events by) (history_sound volume V.events by) change)
          (λ op decided. holds.saves _ by (event.Update by op) W up refl (λ lawful.
          let may = change_may volume W.events by lawful change op decided in
          record { member = member; left = may.left; bytes = may.bytes; allowed = may.allowed })));
      part = parts.nothing W;
    }
    plan_holds (command.Look by look) W = record {
      does = λ arms. at_member by _ W
          (λ here member up. holds.by_rule _ (λ V. look_answer_once volume V.events by look) W);
      part = parts.nothing W;
    }
    plan_holds (command.Collect by) W = record { does = λ arms. collects_hold by W; part = parts.nothing W }
    plan_holds (command.Ask by to) W = record {
      does = λ arms. holds.behind _ _ W (asks_hold by to W) (λ number left asks. gives_only_holds _ left.after);
      part = parts.nothing W;
    }
    plan_holds (command.Give number) W = record { does = λ arms. gives_mail_holds number W; part = parts.nothing W }
    plan_holds (command.Pull by to) W = record { does = λ arms. pulls_hold by to W; part = pulls_part_holds by to W }
    plan_holds (command.Alike by other) W = record {
      does = λ arms. holds.behind _ _ W (at_peers_holds by other W)
          (λ peers left finds. holds.by_rule _ (λ V.
          alike_answer_once (history_view volume V.events by) (history_view volume V.events other)) left.after);
      part = parts.nothing W;
    }
    plan_holds (command.Restart by) W = record {
      does = λ arms. wanted _ _ _ W (λ wants member. holds.opens by W member);
      part = parts.nothing W;
    }
    plan_holds (Stop by calls pick) W = record {
      does = λ arms. at_member by _ W
          (λ here member up. wanted _ _ _ W (λ wants fused. arms by calls pick refl W));
      part = parts.nothing W;
    }
    plan_holds (command.Sweep order) W = record {
      does = λ arms. holds.behind _ _ W (sweeps_hold (sweep_steps order volume.members) none_swept W)
          (λ swept left sweeps. gives_only_holds _ left.after);
      part = sweeps_part_hold (sweep_steps order volume.members) W;
    }
    plan_holds (command.Why by) W = record {
      does = λ arms. at_member by _ W
          (λ here member up. holds.by_rule _ (λ V. why_lines_once (run_of V.earlier V.events) by) W);
      part = parts.nothing W;
    }

    -- and of what is cut short of it
    pub part_holds : (command : Command) (W : ModelWorld) → C W (DoesPart volume command)
    part_holds command W = (plan_holds command W).part

  -- and of what a command does, where it holds of arming, if the command is a stop
  pub does_holds : (command : Command)
      → ((by calls pick : ℕ) → command ≡ Stop by calls pick → (W : ModelWorld) → P Answer W (Arms by calls pick))
      → (W : ModelWorld) → P Answer W (Does volume command)
  does_holds command arms W =
      (plan_holds (λ V cut. Unit {0}) (record {
        nothing = λ V. tt;
        behind = λ first cut rest V one short more. tt;
      }) command W).does arms
