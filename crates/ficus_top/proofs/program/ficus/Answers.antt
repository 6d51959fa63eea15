use Rattle.std.proofs.Common.{List, Err, ap, refl, sym, subst}
use Rattle.std.specs.Prelude.{String}
use Rattle.std.specs.declared.alloc.Global.{Global}
use Rattle.ficus_words.specs.Mode.{AreNoWords, AreWords}
use Rattle.ficus_words.specs.declared.mode.Mode.{Mode}
use Rattle.ficus_words.proofs.OneMode.{one_mode}
use Rattle.ficus_top.specs.Program.{Does, RunsProgram}
use Rattle.ficus_top.specs.Seen.{seen_of}
use Rattle.ficus_top.specs.Words.{texts}
use Rattle.ficus_top.specs.declared.status.Status.{Status}
use Rattle.ficus_top.proofs.Doing.{refused}
use Rattle.ficus_top.proofs.program.ficus.Goals as goal

pub returns-in-Ok : goal.returns-in-Ok
returns-in-Ok g c =
    let words = texts c.args.words.now.items in
    let seen = seen_of g.S.Source c.args.input.now c.carry_out.new.input g.K.Sink c.args.output.now
    c.carry_out.new.output g.D.Disk c.args.disks.now c.carry_out.new.disks in
    let read : AreWords words c.in-Ok.mode =
    subst (λ (given : List (String Global)). AreWords (texts given) c.in-Ok.mode) c.as_slice.ensures.value
    c.in-Ok.ensures.read in
    let done = c.carry_out.ensures in
    record {
      usage = λ code. absurd (done.used code);
      usage_comes = λ none. absurd (none c.in-Ok.mode read);
      unasked = λ none. absurd (none c.in-Ok.mode read);
      does = λ mode are.
          subst (λ (m : Mode). Does m seen c.carry_out.result) (one_mode words c.in-Ok.mode mode read are) done.does;
      ends = done.ends;
    }

pub returns-in-Err : goal.returns-in-Err
returns-in-Err g c =
    let words = texts c.args.words.now.items in
    let seen = seen_of g.S.Source c.args.input.now c.args.input.now g.K.Sink c.args.output.now c.args.output.now
    g.D.Disk c.args.disks.now c.args.disks.now in
    subst (λ (status : Status). RunsProgram words seen status) (sym c.of.ensures)
    (refused seen refl refl refl words c.in-Err.fault (λ is.
    subst (λ (given : List (String Global)). AreNoWords (texts given)) c.as_slice.ensures.value
    (c.in-Err.ensures.usage (ap Err is))))
