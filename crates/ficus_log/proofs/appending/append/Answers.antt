use Rattle.std.proofs.Common.{ℕ, List, inl, sym, ◌∙◌, ap, drop, length, arith, rules}
use Rattle.std.proofs.lemmas.Result.{err_from_is_err_and}
use Rattle.ficus_disk.specs.Fuse.{pick_of}
use Rattle.ficus_keeper.specs.Framed.{body_in}
use Rattle.ficus_keeper.specs.Fuses.{is_found, lasts}
use Rattle.ficus_keeper.proofs.Moments.{joined, weaker}
use Rattle.ficus_keeper.proofs.Results.{in_err, in_ok}
use Rattle.ficus_slot.proofs.Burning.{calls_cut, calls_on}
use Rattle.ficus_log.specs.Appending.{Appends}
use Rattle.ficus_log.proofs.Behind.{early, first_done, first_step, late, reaches, second_done, second_pick, second_step, waits_at}
use Rattle.ficus_log.proofs.Walks.{length-record_range}
use Rattle.ficus_log.proofs.appending.append.Goals as goal

pub save_range-requires-clause-place : goal.save_range-requires-clause-place
save_range-requires-clause-place g c told = reaches c.args.end _ (c.requires.gate told)

pub save_range-requires-clause-within : goal.save_range-requires-clause-within
save_range-requires-clause-within g c =
    omega (
      arith,
      c.requires.room,
      ap length (c.range_in.ensures ∙ ap (λ (l : List ℕ). drop 4 l) c.deref.ensures.value ∙ c.fill_record.ensures.range),
      length-record_range c.args.generation (body_in c.args.framed.now.items),
    )

pub save_range-requires-2-clause-place : goal.save_range-requires-2-clause-place
save_range-requires-2-clause-place g c told =
    let waits = first_done c.args.end _ (c.requires.gate told) _ _ (c.in_ok-save_range.ensures.saved told) in
    waits_at c.args.end _ _ _ (c.requires.gate told) waits

pub returns-in_err-save_range : goal.returns-in_err-save_range
returns-in_err-save_range g c =
    let f = g.D.Disk.fuse c.args.disk.now in
    rw (err_from_is_err_and c.from_residual.result c.from_residual.ensures.1).1 (record {
      saved = λ told. tt;
      durable = λ told. tt;
      crash = λ told held d left.
          inl (first_step c.args.end _ (c.requires.gate told) _ _ held d (c.save_range.ensures.crash d left));
      moments = λ told held.
          weaker (Appends c.args.end c.args.generation (body_in c.args.framed.now.items) (g.D.Disk.seen c.args.disk.now))
          c.save_range.ensures.moments
          (λ d left. inl (first_step c.args.end _ (c.requires.gate told) _ _ held d left));
      made = calls_cut g.D.Disk 2 2 c.in_err-save_range.ensures.made;
      buffer = search rules;
      found = λ fused told held.
          let old = first_step c.args.end _ (c.requires.gate told) _ _ held _
          (c.save_range.ensures.crash _ (g.met.D.Disk.image_may_be_left fused c.save_range.new.disk (pick_of f))) in
          early (lasts 2 f) (is_found (pick_of f)) c.args.end c.args.generation (body_in c.args.framed.now.items) _ _
          (sym (c.in_err-save_range.ensures.made.by_fuse fused)) old;
    })

pub returns : goal.returns
returns g c =
    let f = g.D.Disk.fuse c.args.disk.now in
    let range = c.range_in.ensures ∙ ap (λ (l : List ℕ). drop 4 l) c.deref.ensures.value ∙ c.fill_record.ensures.range in
    let waits = λ (told : g.D.Disk.tells). first_done c.args.end _ (c.requires.gate told) _ _
    (rw range at (c.in_ok-save_range.ensures.saved told)) in
    record {
      saved = λ told.
          in_ok c.save_range-2.result
          (second_done c.args.end _ (c.requires.gate told) c.args.generation (body_in c.args.framed.now.items) _ _ (waits told))
          (c.save_range-2.ensures.saved told);
      durable = c.save_range-2.ensures.durable;
      crash = λ told held d left.
          second_step c.args.end _ (c.requires.gate told) c.args.generation (body_in c.args.framed.now.items) _ _
          (c.in_ok-save_range.ensures.durable told) (waits told) d (c.save_range-2.ensures.crash d left);
      moments = λ told held.
          joined (Appends c.args.end c.args.generation (body_in c.args.framed.now.items) (g.D.Disk.seen c.args.disk.now))
          c.save_range.ensures.moments c.save_range-2.ensures.moments
          (λ d left. inl (first_step c.args.end _ (c.requires.gate told) _ _ held d left))
          (second_step c.args.end _ (c.requires.gate told) c.args.generation (body_in c.args.framed.now.items) _ _
          (c.in_ok-save_range.ensures.durable told) (waits told));
      made = calls_on g.D.Disk 2 2 (g.met.D.Disk.left_earlier c.save_range-2.new.disk) c.in_ok-save_range.ensures.made
          c.save_range-2.ensures.made;
      buffer = search rules;
      found = λ fused told held.
          let p = pick_of f in
          in_err c.save_range-2.result
          (λ images. late (lasts 2 f) (is_found p) c.args.end c.args.generation (body_in c.args.framed.now.items) _ _
          (sym (c.in_ok-save_range.ensures.made.by_fuse fused))
          (second_pick c.args.end _ (c.requires.gate told) c.args.generation (body_in c.args.framed.now.items) p _ _ _ _ (waits told)
          (c.in_ok-save_range.ensures.durable told)
          (g.met.D.Disk.image_may_be_left fused c.save_range.new.disk p) (images p)))
          (c.save_range-2.ensures.images fused);
    }
