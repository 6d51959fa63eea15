-- What only looks changes nothing, and what was known stays as it was or is removed.
use Rattle.std.proofs.Common.{◌≡◌, ℕ, List, [], Result, Ok, Err, refl, ap, ◌∙◌}
use Rattle.ficus_ids.specs.declared.refusal.Refusal.{Refusal}
use Rattle.ficus_model.specs.Known.{Knows}
use Rattle.ficus_model.specs.Lawful.{Volume}
use Rattle.ficus_model.specs.Live.{ModelEntry, IsEntered, IsLive}
use Rattle.ficus_script.specs.declared.answer.Answer.{Answer}
use Rattle.ficus_script.specs.declared.command.Command.{Command}
use Rattle.ficus_script.specs.declared.command.Command.TheVariants as command
use Rattle.ficus_runs.specs.Actions.{ModelAction, AtMember, AtPeers, Compares, Explaining, Sees}
use Rattle.ficus_runs.specs.ModelWorld.{ModelWorld}
use Rattle.ficus_runs.specs.Outcome.{Outcome}
use Rattle.ficus_runs.specs.Run.{Does, OnlyLooks, Run, Step}
use Rattle.ficus_runs.specs.Sequence.{ByRule, Effect, First, joined, unchanged}
use Rattle.ficus_runs.specs.Sequence.First.{Ends, Goes}
use Rattle.ficus_runs.specs.Sequence.ByRule.{Says}
use Rattle.ficus_runs.proofs.Extending.{run_never_returns}

-- the action changes nothing, and asks nothing of the outside
abbrev pub IsIdle : {A : Type 0} → ModelAction A → Type 0
IsIdle {A} does = (W : ModelWorld) (result : Result A Refusal) (left : Effect ModelWorld) → does W result left →
    left ≡ unchanged W

by_rule_idle : {A : Type 0} (rule : ModelWorld → Result A Refusal → Type 0) → IsIdle (ByRule rule)
by_rule_idle rule W result left (Says is) = refl

behind_idle : {A B : Type 0} (first : ModelAction A) (rest : A → ModelAction B) → IsIdle first →
    ((a : A) → IsIdle (rest a)) → IsIdle (First first rest)
behind_idle first rest idle behind W result left (Ends {refusal = r} is) = idle W (Err r) left is
behind_idle first rest idle behind W result left (Goes {a = a} {middle = m} {left = l} is next) =
    let one : m ≡ unchanged W = idle W (Ok a) m is in
    let two : l ≡ unchanged W = behind a m.after result l next ∙ ap (λ (e : Effect ModelWorld). unchanged e.after) one in
    λ i. joined (one i) (two i)

pub at_member_idle : (volume : Volume) (by : ℕ) → IsIdle (AtMember volume by)
at_member_idle volume by = behind_idle _ _ (by_rule_idle _) (λ member. by_rule_idle _)

at_peers_idle : (volume : Volume) (by other : ℕ) → IsIdle (AtPeers volume by other)
at_peers_idle volume by other = behind_idle _ _ (by_rule_idle _) (λ member. by_rule_idle _)

looks_idle : (volume : Volume) (asked : Command) → OnlyLooks asked → IsIdle (Does volume asked)
looks_idle volume (command.Look by look) is =
    behind_idle (AtMember volume by) (λ member. Sees volume by look) (at_member_idle volume by)
    (λ member. by_rule_idle _)
looks_idle volume (command.Alike by other) is =
    behind_idle (AtPeers volume by other) (λ peers. Compares volume by other) (at_peers_idle volume by other)
    (λ peers. by_rule_idle _)
looks_idle volume (command.Why by) is =
    behind_idle (AtMember volume by) (λ member. Explaining by) (at_member_idle volume by) (λ member. by_rule_idle _)
looks_idle volume (command.Change by asked) is = absurd is
looks_idle volume (command.Collect by) is = absurd is
looks_idle volume (command.Sweep order) is = absurd is
looks_idle volume (command.Ask by to) is = absurd is
looks_idle volume (command.Give mail) is = absurd is
looks_idle volume (command.Pull by to) is = absurd is
looks_idle volume (command.Restart by) is = absurd is
looks_idle volume (command.Stop by calls pick) is = absurd is

pub looks_change_nothing : (volume : Volume) (W after : ModelWorld) (asked : Command) (outcomes : List Outcome)
    (answer : Answer) → OnlyLooks asked → Step volume W asked outcomes answer after → (after ≡ W) × (outcomes ≡ [])
looks_change_nothing volume W after asked outcomes answer looks step =
    let same : record { outcomes = outcomes; after = after } ≡ unchanged W =
    looks_idle volume asked looks W step.result (record { outcomes = outcomes; after = after }) step.does in
    (ap (λ (e : Effect ModelWorld). e.after) same, ap (λ (e : Effect ModelWorld). e.outcomes) same)

pub was_alive : (volume : Volume) (W after : ModelWorld) (commands : List Command) (outcomes : List (List Outcome))
    (answers : List Answer) (replica : ℕ) (entry : ModelEntry) → Run volume W commands outcomes answers after →
    IsEntered W.events (Knows W.events replica) entry → IsLive after.events (Knows after.events replica) entry →
    IsLive W.events (Knows W.events replica) entry
was_alive volume W after commands outcomes answers replica entry run entered live = record {
  entered = entered;
  not_removed = λ removed. run_never_returns run replica entry removed live;
}
