-- A seed, so many steps and so many members have one summary.
use Rattle.std.proofs.Common.{◌≡◌, ℕ, ◌+◌, List, length, sym, ap, ap₂, subst, ◌∙◌, arith}
use Rattle.std.specs.Prelude.{count_by}
use Rattle.std.proofs.lemmas.List.{same_lists}
use Rattle.ficus_generator.specs.Script.{script_lines, text_of}
use Rattle.ficus_model.specs.Lawful.{Volume}
use Rattle.ficus_model.specs.declared.event.Event.{Event}
use Rattle.ficus_replica.proofs.Saves.{saved_once}
use Rattle.ficus_runs.proofs.OneRun.{done_run_once}
use Rattle.ficus_runs.specs.ModelWorld.{ModelWorld}
use Rattle.ficus_runs.specs.Start.{default_volume}
use Rattle.ficus_durable_state.specs.declared.saved.Saved.{Saved}
use Rattle.ficus_script.specs.declared.command.Command.{Command}
use Rattle.ficus_script.proofs.ScriptLaws.{one_script}
use Rattle.ficus_loop.proofs.Places.{at_index}
use Rattle.ficus_loop.specs.Tally.{is_no_refusal, is_refusal}
use Rattle.ficus_top.specs.Summary.Summary.{AreHoldings, ComesTo, Summarizes}
use Rattle.ficus_opening.specs.Check.Holding.{holding_of}
use Rattle.ficus_top.specs.Summary.Text.{summary_text}
use Rattle.ficus_top.specs.declared.summary.counts.Counts.{Counts}
use Rattle.ficus_opening.specs.declared.check.holding.Holding.{Holding}

-- the members hold so much after a history, and no other
holdings_once : {volume : Volume} {H : List Event} {one other : List Holding} → AreHoldings volume H one
    → AreHoldings volume H other → one ≡ other
holdings_once {volume} {H} {one} {other} held also =
    same_lists one other (held.counted ∙ sym also.counted) (λ index none within.
    let first = at_index one index within in
    let second = at_index other index (omega (arith, within, held.counted, also.counted)) in
    let saved = held.each (index + 1) first.0 first.1 in
    let again = also.each (index + 1) second.0 second.1 in
    let same = saved_once saved.1 again.1 in
    first.2 none ∙ saved.2 ∙ ap (λ (s : Saved). holding_of s.entries s.files) same ∙ sym again.2
    ∙ sym (second.2 none))

-- commands come to one thing
once : {members : ℕ} {commands : List Command} {counts more : Counts} {holdings others : List Holding}
    → ComesTo members commands counts holdings → ComesTo members commands more others
    → summary_text counts holdings ≡ summary_text more others
once {members} {commands} {counts} {more} {holdings} {others} one other =
    let same = done_run_once one.done other.done one.run other.run in
    let lines : counts.lines ≡ more.lines = one.lines ∙ sym other.lines in
    let ok : counts.ok ≡ more.ok =
    one.ok ∙ ap (count_by is_no_refusal) same.1 ∙ sym other.ok in
    let no : counts.no ≡ more.no = one.no ∙ ap (count_by is_refusal) same.1 ∙ sym other.no in
    let events : counts.events ≡ more.events =
    omega (arith, one.events, other.events, ap (λ (W : ModelWorld). length W.events) same.2) in
    let held = holdings_once one.held (subst (λ (W : ModelWorld). AreHoldings (default_volume members) W.events others)
    (sym same.2) other.held) in
    let counted : counts ≡ more =
    λ i. record { lines = lines i; ok = ok i; no = no i; events = events i } in
    ap₂ summary_text counted held

pub one_summary : (members seed steps : ℕ) (text other : List ℕ) → Summarizes members seed steps text
    → Summarizes members seed steps other → text ≡ other
one_summary members seed steps text other one also =
    let commands = one_script (text_of (script_lines seed steps members)) also.commands one.commands also.script
    one.script in
    one.told
    ∙ once one.comes_to
    (subst (λ (given : List Command). ComesTo members given also.counts also.holdings) commands also.comes_to)
    ∙ sym also.told
