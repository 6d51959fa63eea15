use Rattle.std.proofs.Common.{Err, Ok, length, subst, sym, ◌∙◌}
use Rattle.std.proofs.lemmas.Result.{err_from_is_err_and}
use Rattle.ficus_ids.specs.Members.{IsMember}
use Rattle.ficus_model.specs.declared.event.Event.TheVariants.{Take}
use Rattle.ficus_runs.specs.Sequence.{unchanged}
use Rattle.ficus_script.specs.declared.answer.Answer.TheVariants.{Part}
use Rattle.ficus_wire.specs.Parts.{with_part}
use Rattle.ficus_world.specs.Disks.{CarriedOn}
use Rattle.ficus_world.specs.Moves.{FindsTaker, TakesPiece, parts_held}
use Rattle.ficus_world.specs.World.{Backed, IsUpIn, Whole, backed_by}
use Rattle.ficus_world.specs.declared.taking.Fitting.{Fitting}
use Rattle.ficus_world.specs.declared.taking.Fitting.TheVariants.{OneMore, TheLast}
use Rattle.ficus_world.proofs.Carrying.{carried_memory, whole_is}
use Rattle.ficus_world.proofs.Gathered.{FitsAt, gathered_members, fits_index, fits_placed, holds_more, piece_acts, piece_again, piece_last, piece_more, piece_refused, taker_is, taker_up}
use Rattle.ficus_world.proofs.Disks.{follows_none}
use Rattle.ficus_world.specs.Acts.{Acts}
use Rattle.ficus_world.proofs.Acting.{acts_none}
use Rattle.ficus_world.proofs.world.World.take_piece.Goals as goal

pub returns-in_err-have-clause-takes : goal.returns-in_err-have-clause-takes
returns-in_err-have-clause-takes g c =
    let refused = err_from_is_err_and c.from_residual.result c.from_residual.ensures.1 in
    let r = c.in_err-have.field-0.0 in
    let finds = subst (λ (w : Whole). FindsTaker c.args.came c.args.head w (Err r) (unchanged w)) (whole_is c.self.view_is)
    c.in_err-have.ensures.refused.1 in
    rw (refused.1, refused.2)
    (piece_refused g.K.Keep g.D.Disk c.args.came c.args.head c.args.bytes.now c.args.self.now.whole
    c.args.disks.now.items r finds)

pub returns-in-Again-clause-takes : goal.returns-in-Again-clause-takes
returns-in-Again-clause-takes g c =
    let came = c.args.came in
    let head = c.args.head in
    let old = c.args.self.now.whole in
    let fits = subst (λ (f : Fitting). FitsAt came head old f) c.in-Again.is
    (subst (λ (w : Whole). FitsAt came head w c.in_ok-have.field-0) (whole_is c.self.view_is) c.in_ok-have.ensures.fits) in
    piece_again g.K.Keep g.D.Disk came head c.args.bytes.now old c.args.disks.now.items fits.0 fits.1 c.in-Again.have fits.2

pub gather-requires-clause-missing : goal.gather-requires-clause-missing
gather-requires-clause-missing g c = λ was is.
    let came = c.args.came in
    let head = c.args.head in
    let fits = subst (λ (f : Fitting). FitsAt came head c.self.inside.group f) c.in-OneMore.is c.in_ok-have.ensures.fits in
    let placed = fits_placed came head c.self.inside.group (OneMore c.in-OneMore.have) fits was is in
    placed.0

pub gather-requires-clause-index : goal.gather-requires-clause-index
gather-requires-clause-index g c = λ was is.
    fits_index c.args.came c.args.head c.self.inside.group c.in_ok-have.field-0 c.in_ok-have.ensures.fits was is
    c.requires.fits.head.index

pub returns-in_err-gather-in-OneMore-clause-takes : goal.returns-in_err-gather-in-OneMore-clause-takes
returns-in_err-gather-in-OneMore-clause-takes g c =
    let residual = c.from_residual-in_err-gather-in-OneMore in
    let wanted = err_from_is_err_and residual.result residual.ensures.1 in
    let x = c.args.disks.now.items in
    rw (wanted.1, wanted.2)
    (carried_memory (TakesPiece c.args.came c.args.head c.args.bytes.now) c.args.self.now.whole _ x x follows_none)

pub invariant_of-self-in-OneMore : goal.invariant_of-self-in-OneMore
invariant_of-self-in-OneMore g c =
    let came = c.args.came in
    let head = c.args.head in
    let inside = c.self.inside.group in
    let mail = subst (λ (w : Whole). IsMember (length w.post.behind) came.mail) (sym (whole_is c.self.view_is))
    c.requires.mail in
    let more = holds_more came head c.args.bytes.now c.in-OneMore.have inside c.gather.new.self c.in_ok-have.field-0
    c.in_ok-have.ensures.fits c.in-OneMore.is mail c.in_ok-gather-in-OneMore.ensures.gathers in
    c.self.invariant
    ∙ sym (gathered_members inside c.gather.new.self came.to more.was
    (with_part (parts_held more.was.parts head) head.index c.args.bytes.now)
    (Take came.to more.place.position head.index) more.same)

pub returns-in_ok-gather-in-OneMore-clause-takes : goal.returns-in_ok-gather-in-OneMore-clause-takes
returns-in_ok-gather-in-OneMore-clause-takes g c =
    let came = c.args.came in
    let head = c.args.head in
    let bytes = c.args.bytes.now in
    let have = c.in-OneMore.have in
    let inside = c.self.inside.group in
    let new = c.gather.new.self in
    let x = c.args.disks.now.items in
    let mail = subst (λ (w : Whole). IsMember (length w.post.behind) came.mail) (sym (whole_is c.self.view_is))
    c.requires.mail in
    let more = holds_more came head bytes have inside new c.in_ok-have.field-0 c.in_ok-have.ensures.fits c.in-OneMore.is
    mail c.in_ok-gather-in-OneMore.ensures.gathers in
    subst (λ (w : Whole). CarriedOn g.K.Keep g.D.Disk (TakesPiece came head bytes) (Ok (Part have head.pieces)) w new x x)
    (whole_is c.self.view_is)
    (piece_more g.K.Keep g.D.Disk came head bytes inside x more.was more.finds have new more.place more.placed more.lies
    more.same)

pub take_last-requires-clause-up : goal.take_last-requires-clause-up
take_last-requires-clause-up g c =
    let fits = c.in_ok-have.ensures.fits in
    subst (λ (w : Whole). IsUpIn w c.args.came.to) (whole_is c.self.view_is)
    (taker_up c.args.came c.args.head c.self.inside.group fits.0 fits.1)

pub take_last-requires-clause-last : goal.take_last-requires-clause-last
take_last-requires-clause-last g c = λ was is.
    let came = c.args.came in
    let head = c.args.head in
    let old = c.args.self.now.whole in
    let fits = subst (λ (f : Fitting). FitsAt came head old f) c.in-TheLast.is
    (subst (λ (w : Whole). FitsAt came head w c.in_ok-have.field-0) (whole_is c.self.view_is) c.in_ok-have.ensures.fits) in
    fits_placed came head old TheLast fits was is

pub returns-in-TheLast-clause-takes : goal.returns-in-TheLast-clause-takes
returns-in-TheLast-clause-takes g c =
    let came = c.args.came in
    let head = c.args.head in
    let old = c.args.self.now.whole in
    let fits = subst (λ (f : Fitting). FitsAt came head old f) c.in-TheLast.is
    (subst (λ (w : Whole). FitsAt came head w c.in_ok-have.field-0) (whole_is c.self.view_is) c.in_ok-have.ensures.fits) in
    piece_last g.K.Keep g.D.Disk came head c.args.bytes.now old c.args.disks.now.items fits.0 fits.1 c.take_last.result
    c.take_last.new.self.whole c.take_last.new.disks.items fits.2
    (c.take_last.ensures.takes fits.0 (taker_is came head old fits.0 fits.1))

pub returns-in_err-have-clause-acts : goal.returns-in_err-have-clause-acts
returns-in_err-have-clause-acts g c = acts_none c.requires.backed

pub returns-in-Again-clause-acts : goal.returns-in-Again-clause-acts
returns-in-Again-clause-acts g c = acts_none c.requires.backed

pub returns-in_err-gather-in-OneMore-clause-acts : goal.returns-in_err-gather-in-OneMore-clause-acts
returns-in_err-gather-in-OneMore-clause-acts g c =
    let residual = c.from_residual-in_err-gather-in-OneMore in
    let wanted = err_from_is_err_and residual.result residual.ensures.1 in
    rw (wanted.1, wanted.2, c.in_err-gather-in-OneMore.ensures.memory, c.self.view_is) (acts_none c.requires.backed)

pub returns-in_ok-gather-in-OneMore-clause-acts : goal.returns-in_ok-gather-in-OneMore-clause-acts
returns-in_ok-gather-in-OneMore-clause-acts g c =
    let came = c.args.came in
    let head = c.args.head in
    let inside = c.self.inside.group in
    let stables = c.self.inside.stables.items in
    let new = c.gather.new.self in
    let mail = subst (λ (w : Whole). IsMember (length w.post.behind) came.mail) (sym (whole_is c.self.view_is))
    c.requires.mail in
    let more = holds_more came head c.args.bytes.now c.in-OneMore.have inside new c.in_ok-have.field-0
    c.in_ok-have.ensures.fits c.in-OneMore.is mail c.in_ok-gather-in-OneMore.ensures.gathers in
    subst (λ (b : Backed _). Acts g.K.Keep g.D.Disk 1 (Ok (Part c.in-OneMore.have head.pieces)) b (backed_by new stables)
    c.args.disks.now.items c.args.disks.now.items) c.self.view_is
    (piece_acts came.to (with_part (parts_held more.was.parts head) head.index c.args.bytes.now)
    (Take came.to more.place.position head.index) (taker_is came head inside more.was more.finds) more.same
    (rw (← c.self.view_is) at c.requires.backed))
