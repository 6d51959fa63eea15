use Rattle.std.proofs.Common.{subst, sym, arith}
use Rattle.std.proofs.lemmas.Result.{IfOk-weaker, on_err_weaker}
use Rattle.ficus_script.specs.declared.command.Command.{Command}
use Rattle.ficus_world.specs.Kills.Passes.{Idles}
use Rattle.ficus_world.specs.Kills.Touches.{TouchesNone}
use Rattle.ficus_loop.specs.Calls.{AnswersCommand}
use Rattle.ficus_loop.specs.Performing.Performs.{AsStep, AsWhy}
use Rattle.ficus_loop.specs.Performing.PerformsPart.{PartOfStep, PartOfWhy}
use Rattle.ficus_loop.specs.SweepFollows.{most_swept}
use Rattle.ficus_loop.proofs.Backing.{backed_none, backed_within, step_backed}
use Rattle.ficus_loop.proofs.Certificates.{why_follows, why_stops}
use Rattle.ficus_loop.proofs.command.carry_out.Goals as goal

pub returns-in-Sweep-clause-answers : goal.returns-in-Sweep-clause-answers
returns-in-Sweep-clause-answers g c = rw c.in-Sweep.is c.answer_sweep.ensures.answers

pub returns-in-Why-clause-answers : goal.returns-in-Why-clause-answers
returns-in-Why-clause-answers g c =
    let world = c.args.world.now.whole in
    let disks = c.args.disks.now.items in
    subst (λ (command : Command). AnswersCommand g.L.Link.tells g.P.Keep g.D.Disk command c.answer_why.result world
    world disks disks) (sym c.in-Why.is) (record {
      stands = λ tells told volume W stands.
          IfOk-weaker c.answer_why.result _ _
          (λ given step. why_follows g.P.Keep g.D.Disk volume W world stands c.in-Why.by disks given step)
          (c.answer_why.ensures.answers volume W stands);
      stays = λ tells volume W stands.
          on_err_weaker c.answer_why.result
          (λ wanted. why_stops g.P.Keep g.D.Disk volume W world stands c.in-Why.by disks)
          (c.answer_why.ensures.wants volume W stands);
      performs = IfOk-weaker c.answer_why.result _ _ (λ given explains. AsWhy explains) c.answer_why.ensures.explains;
      part = on_err_weaker c.answer_why.result (λ up. PartOfWhy up) c.answer_why.ensures.up;
      passes = Idles c.settled.ensures TouchesNone;
    })

pub returns-in-Why-clause-disks : goal.returns-in-Why-clause-disks
returns-in-Why-clause-disks g c = backed_none most_swept c.args.world.now c.args.disks.now.items c.requires.backed

pub returns-in_default-clause-answers : goal.returns-in_default-clause-answers
returns-in_default-clause-answers g c = record {
  stands = c.step.ensures.stands;
  stays = c.step.ensures.stays;
  performs = IfOk-weaker c.step.result _ _ (λ given stepped. AsStep stepped) c.step.ensures.moves;
  part = on_err_weaker c.step.result (λ cut. PartOfStep cut) c.step.ensures.memory;
  passes = c.step.ensures.passes;
}

pub returns-in_default-clause-disks : goal.returns-in_default-clause-disks
returns-in_default-clause-disks g c = backed_within most_swept (omega arith) (step_backed c.step.ensures)

pub settled-requires : goal.settled-requires
settled-requires g c = c.requires.backed.disks
