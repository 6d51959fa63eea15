use Rattle.std.proofs.lemmas.List.{take_more}
use Rattle.ficus_entry.proofs.KilledAll.{killed_more, not_earlier, live_yet}
use Rattle.std.proofs.Common.{take}
use Rattle.std.proofs.lemmas.List.Elements.{Contains-get_or}
use Rattle.ficus_ids.specs.declared.id.Id.{Id}
use Rattle.ficus_entry.proofs.entries.Entries.kill_all.Goals as goal

pub kill-requires-clause-live : goal.kill-requires-clause-live
kill-requires-clause-live c =
    let ids = c.args.ids.now in
    let index = c.loop-id.id-index in
    live_yet c.args.by c.args.self.now c.loop-id.self (take index ids) _ c.loop-id.invariant.killed
    (not_earlier ids index _ c.requires.rising c.loop-id-test.true)
    (c.requires.live _ (Contains-get_or ids index _ c.loop-id-test.true))

pub loop-id-preserved : goal.loop-id-preserved
loop-id-preserved c =
    let ids = c.args.ids.now in
    let index = c.loop-id.id-index in
    let d : Id = record { replica = 0; number = 0 } in
    rw (take_more ids index d c.loop-id-test.true) (record {
      killed = killed_more c.args.by c.args.self.now c.loop-id.self c.kill.new.self (take index ids) _
          c.loop-id.invariant.rising c.loop-id.invariant.killed c.kill.ensures.killed;
      rising = c.kill.ensures.rising;
    })
