use Rattle.std.proofs.Common.{◌≡◌, refl, sym, subst}
use Rattle.ficus_words.specs.declared.mode.Mode.{Mode}
use Rattle.ficus_top.specs.Program.{DoesIn}
use Rattle.ficus_top.specs.Seen.{Seen, seen_of}
use Rattle.ficus_top.specs.declared.status.Status.{Status}
use Rattle.ficus_top.proofs.Doing.{EndedAsAny, any_of, armed_nothing, init_ends, init_of, joined_ends, joined_used, making_used, put_nothing, replay_of, run_of, status_of, summary_ends, summary_used, used_code, volumes_of}
use Rattle.ficus_top.proofs.Judging.{check_ends, check_of, check_used}
use Rattle.ficus_top.proofs.program.carry_out.Goals as goal

-- what is done in this mode is told by the status
in_mode : {S K D : Type 0} (seen : Seen S K D) (ended : Status) {mode is : Mode} {status : Status} → mode ≡ is
    → status ≡ ended → DoesIn is seen ended → DoesIn mode seen status
in_mode seen ended {is = is} {status = status} same told does =
    subst (λ (m : Mode). DoesIn m seen status) (sym same) (subst (λ (s : Status). DoesIn is seen s) (sym told) does)

pub returns-in-Init : goal.returns-in-Init
returns-in-Init g c =
    let seen = seen_of g.S.Source c.args.input.now c.args.input.now g.K.Sink c.args.output.now c.args.output.now
    g.D.Disk
    c.args.disks.now c.init.new.disks in
    in_mode seen (status_of c.init.result) c.in-Init.is c.of.ensures (record {
      does = init_of seen c.init.result c.in-Init.size c.init.ensures.kinds refl refl c.init.ensures.unarmed
          c.init.ensures.failed c.init.ensures.makes c.init.ensures.made c.init.ensures.member
          c.init.ensures.steady c.init.ensures.spared c.init.ensures.synced c.init.ensures.partly
          c.init.ensures.others;
      used = used_code seen c.init.result (making_used c.init.result c.init.ensures.kinds);
      ends = init_ends seen c.init.result c.init.ensures.kinds refl refl c.init.ensures.unarmed c.init.ensures.failed;
    })

pub returns-in-Run : goal.returns-in-Run
returns-in-Run g c =
    let seen = seen_of g.S.Source c.args.input.now c.run.new.input g.K.Sink c.args.output.now c.run.new.output g.D.Disk
    c.args.disks.now c.run.new.disks in
    let any : EndedAsAny seen c.run.result = record {
      streams = c.run.ensures.streams;
      store_fault = c.run.ensures.opens.failed;
      idle = put_nothing _ _ _ _ _ _ c.run.result c.run.ensures.idle;
      unarmed = armed_nothing _ _ _ _ _ _ c.run.result c.run.ensures.idle;
      untouched = c.run.ensures.untouched;
      pairs = c.run.ensures.opens.pairs;
    } in
    in_mode seen (status_of c.run.result) c.in-Run.is c.of-in-Run.ensures (record {
      does = run_of seen c.run.result c.run.ensures.usage any c.run.ensures.opens c.run.ensures.takes
          c.run.ensures.answers c.run.ensures.prefix c.run.ensures.idle c.run.ensures.never_occupied
          c.run.ensures.killed c.run.ensures.front_killed;
      used = used_code seen c.run.result c.run.ensures.usage;
      ends = any_of seen c.run.result any;
    })

pub returns-in-Check : goal.returns-in-Check
returns-in-Check g c =
    let seen = seen_of g.S.Source c.args.input.now c.args.input.now g.K.Sink c.args.output.now c.check.new.output
    g.D.Disk c.args.disks.now c.check.new.disks in
    let ended = c.check.ensures in
    in_mode seen c.check.result c.in-Check.is refl (record {
      does = check_of seen c.check.result ended.codes refl ended.unwritten ended.silent ended.write_fault
          ended.store_fault ended.unfailed ended.told ended.prefix;
      used = check_used seen c.check.result ended.codes refl ended.unwritten ended.silent ended.write_fault
          ended.store_fault;
      ends = check_ends seen c.check.result ended.codes refl ended.unwritten ended.silent ended.write_fault
          ended.store_fault ended.write_fault_comes ended.line ended.replica ended.counted;
    })

pub returns-in-Replay : goal.returns-in-Replay
returns-in-Replay g c =
    let seen = seen_of g.S.Source c.args.input.now c.replay.new.input g.K.Sink c.args.output.now c.replay.new.output
    g.D.Disk
    c.args.disks.now c.replay.new.disks in
    let any : EndedAsAny seen c.replay.result = record {
      streams = c.replay.ensures.streams;
      store_fault = c.replay.ensures.failed;
      idle = put_nothing _ _ _ _ _ _ c.replay.result c.replay.ensures.idle;
      unarmed = armed_nothing _ _ _ _ _ _ c.replay.result c.replay.ensures.idle;
      untouched = c.replay.ensures.untouched;
      pairs = c.replay.ensures.pairs;
    } in
    in_mode seen (status_of c.replay.result) c.in-Replay.is c.of-in-Replay.ensures (record {
      does = replay_of seen c.replay.result c.in-Replay.size c.replay.ensures.usage any c.replay.ensures.makes
          c.replay.ensures.takes c.replay.ensures.answers c.replay.ensures.prefix c.replay.ensures.idle
          c.replay.ensures.unfailing c.replay.ensures.never_image c.replay.ensures.spared c.replay.ensures.partly
          c.replay.ensures.member c.replay.ensures.others;
      used = used_code seen c.replay.result c.replay.ensures.usage;
      ends = any_of seen c.replay.result any;
    })

pub returns-in-Volumes : goal.returns-in-Volumes
returns-in-Volumes g c =
    let seen = seen_of g.S.Source c.args.input.now c.join.new.input g.K.Sink c.args.output.now c.join.new.output
    g.D.Disk
    c.args.disks.now c.args.disks.now in
    let ended = c.join.ensures in
    in_mode seen (status_of c.join.result) c.in-Volumes.is c.of-in-Volumes.ensures (record {
      does = volumes_of seen c.join.result ended.kinds refl ended.streams ended.idle c.in-Volumes.size
          c.in-Volumes.count ended.takes ended.answers ended.prefix;
      used = used_code seen c.join.result (joined_used seen c.join.result ended.kinds refl ended.streams ended.idle);
      ends = joined_ends seen c.join.result ended.kinds refl ended.streams ended.idle;
    })

pub returns-in-Gen : goal.returns-in-Gen
returns-in-Gen g c =
    let seen = seen_of g.S.Source c.args.input.now c.args.input.now g.K.Sink c.args.output.now c.tell.new.output
    g.D.Disk c.args.disks.now c.args.disks.now in
    let ended = c.tell.ensures in
    in_mode seen c.tell.result c.in-Gen.is refl (record {
      does = record {
        codes = ended.codes;
        unread = refl;
        untouched = refl;
        told = ended.told;
        prefix = ended.prefix;
        silent = ended.silent;
      };
      used = summary_used seen c.tell.result ended.codes;
      ends = summary_ends seen c.tell.result ended.codes refl refl ended.write_fault ended.write_fault_comes
          ended.numbers ended.counted;
    })
