use Rattle.std.proofs.Common.{inl, sym, ◌∙◌, ap, ◌^◌, ◌<◌, List, ℕ, length, arith, rules}
use Rattle.std.proofs.lemmas.Result.{err_from_is_err_and}
use Rattle.ficus_disk.specs.Fuse.{pick_of}
use Rattle.ficus_keeper.specs.Fuses.{is_found}
use Rattle.ficus_keeper.proofs.Moments.{joined, weaker}
use Rattle.ficus_keeper.proofs.Results.{in_err, in_ok}
use Rattle.ficus_keeper.specs.Framed.{body_in}
use Rattle.ficus_slot.specs.Slot.{SlotContent}
use Rattle.ficus_slot.specs.Stays.{Stays}
use Rattle.ficus_slot.proofs.Burning.{calls_cut, calls_on, lasts_short}
use Rattle.ficus_slot.proofs.Written.{length-range_of}
use Rattle.ficus_slot.proofs.Steps.{early, first_done, first_step, late, second_done, second_step, third_done, third_pick, third_step}
use Rattle.ficus_slot.proofs.saving.save_slot.Goals as goal

abbrev saved_as : ℕ → List ℕ → SlotContent
saved_as generation body = record { generation = generation; body = body }

pub save_range-requires-2-clause-within : goal.save_range-requires-2-clause-within
save_range-requires-2-clause-within g c =
    omega (
      arith,
      c.requires.room,
      c.save_range.ensures.made.room,
      ap length (c.deref.ensures.value ∙ c.fill_range.ensures.range),
      length-range_of c.args.generation (body_in c.args.framed.now.items),
    )

pub returns-in_err-save_range : goal.returns-in_err-save_range
returns-in_err-save_range g c =
    let f = g.D.Disk.fuse c.args.disk.now in
    let saved = saved_as c.args.generation (body_in c.args.framed.now.items) in
    rw (err_from_is_err_and c.from_residual.result c.from_residual.ensures.1).1 (record {
      saved = λ told. tt;
      durable = λ told. tt;
      crash = λ told held d left.
          inl (first_step c.args.shut _ _ _ c.first_place-first.ensures held (c.requires.gate told) d
          (c.save_range.ensures.crash d left));
      moments = λ told held. weaker (Stays (g.D.Disk.seen c.args.disk.now) saved) c.save_range.ensures.moments
          (λ d left. inl (first_step c.args.shut _ _ _ c.first_place-first.ensures held (c.requires.gate told) d left));
      made = calls_cut g.D.Disk 2 4 c.in_err-save_range.ensures.made;
      buffer = search rules;
      found = λ fused told held.
          let few = lasts_short 2 2 f (sym (c.in_err-save_range.ensures.made.by_fuse fused)) in
          let old = first_step c.args.shut _ _ _ c.first_place-first.ensures held (c.requires.gate told) _
          (c.save_range.ensures.crash _ (g.met.D.Disk.image_may_be_left fused c.save_range.new.disk (pick_of f))) in
          early _ (is_found (pick_of f)) _ saved _ few old;
    })

pub returns-in_err-save_range-2 : goal.returns-in_err-save_range-2
returns-in_err-save_range-2 g c =
    let f = g.D.Disk.fuse c.args.disk.now in
    let saved = saved_as c.args.generation (body_in c.args.framed.now.items) in
    let shut = λ (told : g.D.Disk.tells). first_done c.args.shut _ _ _ c.first_place-first.ensures
    (c.in_ok-save_range.ensures.saved told) (c.requires.gate told) in
    let made = calls_on g.D.Disk 2 2 (g.met.D.Disk.left_earlier c.save_range-2.new.disk) c.in_ok-save_range.ensures.made
    c.in_err-save_range-2.ensures.made in
    let from = c.from_residual-in_err-save_range-2 in
    rw (err_from_is_err_and from.result from.ensures.1).1 (record {
      saved = λ told. tt;
      durable = λ told. tt;
      crash = λ told held d left. inl (second_step _ _ _ _ (c.in_ok-save_range.ensures.durable told) (shut told) d
          (c.save_range-2.ensures.crash d left));
      moments = λ told held.
          joined (Stays (g.D.Disk.seen c.args.disk.now) saved) c.save_range.ensures.moments
          c.save_range-2.ensures.moments
          (λ d left. inl (first_step c.args.shut _ _ _ c.first_place-first.ensures held (c.requires.gate told) d left))
          (λ d left. inl (second_step _ _ _ _ (c.in_ok-save_range.ensures.durable told) (shut told) d left));
      made = calls_cut g.D.Disk 4 2 made;
      buffer = search rules;
      found = λ fused told held.
          let old = second_step _ (g.D.Disk.seen c.args.disk.now) _ _ (c.in_ok-save_range.ensures.durable told)
          (shut told) _
          (c.save_range-2.ensures.crash _ (g.met.D.Disk.image_may_be_left fused c.save_range-2.new.disk (pick_of f))) in
          early _ (is_found (pick_of f)) _ saved _ (sym (made.by_fuse fused)) old;
    })

pub returns : goal.returns
returns g c =
    let f = g.D.Disk.fuse c.args.disk.now in
    let saved = saved_as c.args.generation (body_in c.args.framed.now.items) in
    let shut = λ (told : g.D.Disk.tells). first_done c.args.shut _ _ _ c.first_place-first.ensures
    (c.in_ok-save_range.ensures.saved told) (c.requires.gate told) in
    let range = c.deref.ensures.value ∙ c.fill_range.ensures.range in
    let ready = λ (told : g.D.Disk.tells). second_done saved _ _ _ (shut told) (c.in_ok-save_range-2.ensures.saved told)
    range in
    let fits : length (body_in c.args.framed.now.items) < 2 ^ 64 =
    omega (arith, ap length range, length-range_of c.args.generation (body_in c.args.framed.now.items), c.deref.type_inv.0) in
    let small : c.args.generation < 2 ^ 64 = omega arith in
    let made = calls_on g.D.Disk 2 2 (g.met.D.Disk.left_earlier c.save_range-2.new.disk) c.in_ok-save_range.ensures.made
    c.in_ok-save_range-2.ensures.made in
    record {
      saved = λ told.
          in_ok c.save_range-3.result (third_done saved small fits _ _ (ready told))
          (c.save_range-3.ensures.saved told);
      durable = search rules;
      crash = λ told held d left.
          third_step saved small fits _ _ _ (c.in_ok-save_range-2.ensures.durable told) (ready told) d
          (c.save_range-3.ensures.crash d left);
      moments = λ told held.
          let R = Stays (g.D.Disk.seen c.args.disk.now) saved in
          let until = joined R c.save_range.ensures.moments c.save_range-2.ensures.moments
          (λ d left. inl (first_step c.args.shut _ _ _ c.first_place-first.ensures held (c.requires.gate told) d left))
          (λ d left. inl (second_step _ _ _ _ (c.in_ok-save_range.ensures.durable told) (shut told) d left)) in
          joined R until c.save_range-3.ensures.moments (λ d is. is)
          (third_step saved small fits _ _ _ (c.in_ok-save_range-2.ensures.durable told) (ready told));
      made = calls_on g.D.Disk 4 2 (g.met.D.Disk.left_earlier c.save_range-3.new.disk) made c.save_range-3.ensures.made;
      buffer = search rules;
      found = λ fused told held.
          let p = pick_of f in
          in_err c.save_range-3.result
          (λ images. late _ (is_found p) _ saved _ (sym (made.by_fuse fused))
          (third_pick saved small fits _ p _ _ _ _ (ready told) (c.in_ok-save_range-2.ensures.durable told)
          (g.met.D.Disk.image_may_be_left fused c.save_range-2.new.disk p) (images p)))
          (c.save_range-3.ensures.images fused);
    }
