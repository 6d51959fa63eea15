use Rattle.std.proofs.Common.{Bool, List, [], ap, arith, subst, ◌∙◌}
use Rattle.std.proofs.lemmas.Result.{IfOk-weaker}
use Rattle.ficus_runs.specs.Start.{default_volume, start}
use Rattle.ficus_script.specs.declared.command.Command.{Command}
use Rattle.ficus_world.specs.World.{WorldStandsFor}
use Rattle.ficus_top.specs.Summary.Running.{CountedAs}
use Rattle.ficus_top.specs.Summary.Text.{summary_text}
use Rattle.ficus_top.proofs.summary.Holdings.{all_up}
use Rattle.ficus_top.proofs.summary.Summarizing.{all_fused, comes_to}
use Rattle.ficus_top.proofs.summary.summary.summarize.Goals as goal

pub run-requires-clause-stands : goal.run-requires-clause-stands
run-requires-clause-stands c =
    subst (λ (fused : List Bool). WorldStandsFor (default_volume c.args.members) (start [] c.args.members 0 fused)
    c.in_ok-world.world.whole)
    (all_fused c.args.members c.in_ok-disks.disks.items
    (omega (arith, c.in_ok-disks.ensures.count, c.requires.members.at_most)))
    c.in_ok-world.ensures.stands

pub holdings_of-requires : goal.holdings_of-requires
holdings_of-requires c =
    let counted = c.in_ok-counts.ensures.counted in
    record { up = all_up (default_volume c.args.members) counted.after c.run.new.world.whole counted.stands counted.up }

pub returns : goal.returns
returns c =
    let counted = subst (λ (commands : List Command). CountedAs c.args.members commands c.in_ok-counts.counts
    c.run.new.world.whole) c.deref.ensures.value c.in_ok-counts.ensures.counted in
    IfOk-weaker c.summary_text.result _ _ (λ text told. record {
      commands = c.in_ok-commands.commands.items;
      script = c.in_ok-commands.ensures.script;
      counts = c.in_ok-counts.counts;
      holdings = c.in_ok-holdings.holdings.items;
      comes_to = comes_to c.args.members c.in_ok-commands.commands.items c.in_ok-counts.counts c.run.new.world.whole
          c.in_ok-holdings.holdings.items counted c.in_ok-holdings.ensures;
      told = told ∙ ap (summary_text c.in_ok-counts.counts) c.deref-2.ensures.value;
    }) c.summary_text.ensures
