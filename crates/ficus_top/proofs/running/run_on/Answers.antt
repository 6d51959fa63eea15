use Rattle.std.proofs.Common.{Ok, Err, length, ap, ◌∙◌, arith}
use Rattle.std.specs.List.{range_with_len}
use Rattle.std.proofs.lemmas.List.{length-map}
use Rattle.std.proofs.lemmas.List.FromFn.{length-range_with_len}
use Rattle.std.proofs.lemmas.Result.{err_from_is_err_and}
use Rattle.ficus_model.specs.declared.event.Event.TheVariants.{Restart}
use Rattle.ficus_runs.proofs.Up.{up_first}
use Rattle.ficus_loop.specs.declared.fault.AnsweringFault.{AnsweringFault}
use Rattle.ficus_top.specs.declared.fault.Fault.TheVariants.{Answering}
use Rattle.ficus_top.proofs.Ends.{ends_behind, front_ends_behind, front_ends_where, opened_stands}
use Rattle.ficus_top.proofs.Resting.{rests_open}
use Rattle.ficus_top.proofs.Storing.{opening_answered, opening_handed}
use Rattle.ficus_loop.proofs.Opening.{opened_neighbours}
use Rattle.ficus_top.specs.Summary.Keeper.{kept_in}
use Rattle.ficus_top.specs.Headline.{fuses_of}
use Rattle.ficus_top.proofs.Kills.{front_killed_from, killed_from}
use Rattle.ficus_top.proofs.running.run_on.Goals as goal

pub answer_on-requires-clause-room : goal.answer_on-requires-clause-room
answer_on-requires-clause-room g c =
    let members = length c.in_ok-world.world.whole.members in
    omega (
      arith,
      ap length c.in_ok-world.ensures.events,
      length-map (range_with_len 1 members) (λ r. Restart r),
      length-range_with_len 1 members,
      c.in_ok-world.ensures.members.at_most,
    )

pub returns-in_err-answer_on-clause-prefix : goal.returns-in_err-answer_on-clause-prefix
returns-in_err-answer_on-clause-prefix g c = λ told.
    let p = err_from_is_err_and c.from_residual-in_err-answer_on.result c.from_residual-in_err-answer_on.ensures.1 in
    rw p.1 (λ answering volume H on.
    let stands = opened_stands H _ c.new.ensures.total (c.in_ok-world.ensures.stands told volume H on) in
    let rests = rests_open _ g.D.Disk H stands c.args.disks.now.items c.open.new.disks.items
    (λ fused. c.in_ok-world.ensures.fuses fused told) in
    front_ends_where (λ memory. p.2 ∙ ap (λ (fault : AnsweringFault). Answering fault) memory)
    (front_ends_behind g.D.Disk {mid_disks = c.open.new.disks.items} c.in_ok-world.ensures.steady
    c.open.ensures.armings rests
    (c.in_err-answer_on.ensures.prefix told volume _ stands (up_first volume.members).each)))

pub returns-clause-answers : goal.returns-clause-answers
returns-clause-answers g c = λ told volume H on.
    let stands = opened_stands H _ c.new.ensures.total (c.in_ok-world.ensures.stands told volume H on) in
    let rests = rests_open _ g.D.Disk H stands c.args.disks.now.items c.open.new.disks.items
    (λ fused. c.in_ok-world.ensures.fuses fused told) in
    ends_behind g.D.Disk {mid_disks = c.open.new.disks.items} c.in_ok-world.ensures.steady c.open.ensures.armings rests
    (c.in_ok-answer_on.ensures.answers told volume _ stands (up_first volume.members).each)

pub returns-clause-killed : goal.returns-clause-killed
returns-clause-killed g c = λ told volume H on crashes.
    let stands = opened_stands H _ c.new.ensures.total (c.in_ok-world.ensures.stands told volume H on) in
    let rests = rests_open _ g.D.Disk H stands c.args.disks.now.items c.open.new.disks.items
    (λ fused. c.in_ok-world.ensures.fuses fused told) in
    let ran = c.in_ok-answer_on.ensures.runs told volume _ stands (up_first volume.members).each in
    record {
      ends = ends_behind g.D.Disk {mid_disks = c.open.new.disks.items} c.in_ok-world.ensures.steady
          c.open.ensures.armings rests ran.ends;
      killed = killed_from kept_in g.D.Disk volume g.met.D.Disk.left_earlier
          (opened_neighbours kept_in g.D.Disk g.met.D.Disk.only_now volume H 0
          (fuses_of g.D.Disk.armings volume.members c.args.disks.now.items) c.args.disks.now.items
          c.open.new.disks.items crashes c.open.ensures.rests) ran.runs;
    }

pub returns-in_err-answer_on-clause-front_killed : goal.returns-in_err-answer_on-clause-front_killed
returns-in_err-answer_on-clause-front_killed g c = λ told.
    let p = err_from_is_err_and c.from_residual-in_err-answer_on.result c.from_residual-in_err-answer_on.ensures.1 in
    rw p.1 (λ answering volume H on crashes.
    let stands = opened_stands H _ c.new.ensures.total (c.in_ok-world.ensures.stands told volume H on) in
    let rests = rests_open _ g.D.Disk H stands c.args.disks.now.items c.open.new.disks.items
    (λ fused. c.in_ok-world.ensures.fuses fused told) in
    let ran = c.in_err-answer_on.ensures.front_runs told volume _ stands (up_first volume.members).each in
    record {
      ends = front_ends_where (λ memory. p.2 ∙ ap (λ (fault : AnsweringFault). Answering fault) memory)
          (front_ends_behind g.D.Disk {mid_disks = c.open.new.disks.items} c.in_ok-world.ensures.steady
          c.open.ensures.armings rests ran.ends);
      killed = front_killed_from kept_in g.D.Disk volume g.met.D.Disk.left_earlier
          (opened_neighbours kept_in g.D.Disk g.met.D.Disk.only_now volume H 0
          (fuses_of g.D.Disk.armings volume.members c.args.disks.now.items) c.args.disks.now.items
          c.open.new.disks.items crashes c.open.ensures.rests) ran.runs;
    })

pub returns-in_err-world-clause-opens : goal.returns-in_err-world-clause-opens
returns-in_err-world-clause-opens g c =
    let given = err_from_is_err_and c.from_residual.result c.from_residual.ensures.1 in
    opening_handed g.D.Disk c.open.result c.from_residual.result _ _ c.in_err-world.was given.1 given.2 c.open.ensures

pub returns-in_err-answer_on-clause-opens : goal.returns-in_err-answer_on-clause-opens
returns-in_err-answer_on-clause-opens g c =
    let given = err_from_is_err_and c.from_residual-in_err-answer_on.result
    c.from_residual-in_err-answer_on.ensures.1 in
    rw (given.1, given.2)
    (opening_answered g.D.Disk (Err (Answering c.in_err-answer_on.field-0.0)) tt c.in_ok-world.ensures
    c.answer_on.ensures.others c.answer_on.ensures.pairs)

pub returns-clause-opens : goal.returns-clause-opens
returns-clause-opens g c =
    opening_answered g.D.Disk (Ok tt) tt c.in_ok-world.ensures c.answer_on.ensures.others c.answer_on.ensures.pairs
