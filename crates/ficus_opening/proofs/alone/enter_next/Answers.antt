use Rattle.std.proofs.Common.{◌+◌, ◌<◌, None, refl, subst, sym, ap, ◌∙◌, arith, length}
use Rattle.std.proofs.lemmas.List.{get_or-set_same}
use Rattle.std.proofs.lemmas.Result.{err_from_is_err_and}
use Rattle.ficus_disk.specs.declared.pair.Pair.{Pair}
use Rattle.ficus_durable_state.specs.declared.saved.Saved.{Saved}
use Rattle.ficus_model.specs.Lawful.{Volume}
use Rattle.ficus_replica.specs.SavedOf.{fresh_saved}
use Rattle.ficus_runs.specs.Numbered.{IsNumbered}
use Rattle.ficus_opening.specs.Disks.{HoldsFor, are_fused}
use Rattle.ficus_opening.specs.declared.fault.WorldFault.TheVariants.{Image, Occupied}
use Rattle.ficus_opening.specs.declared.member.Member.{Member as MemberValue}
use Rattle.ficus_opening.specs.declared.member.MemberState.TheVariants.{Down}
use Rattle.ficus_opening.proofs.Absent.{absent_more, enters_next, holds_away}
use Rattle.ficus_opening.proofs.Asking.{asked_err, asked_ok, asked_spared, err_as}
use Rattle.ficus_opening.proofs.Entering.{kept_next}
use Rattle.ficus_opening.proofs.Steadies.{number_at}
use Rattle.ficus_opening.proofs.alone.enter_next.Goals as goal

pub returns-in_err-stable : goal.returns-in_err-stable
returns-in_err-stable g c =
    let given = err_from_is_err_and c.from_residual.result c.from_residual.ensures.1 in
    let fault = c.in_err-stable.field-0.0 in
    let made = c.in_err-stable.ensures in
    let disks = c.args.disks.now.items in
    let pair = c.index_mut.result.now in
    let volume : Volume =
    record { members = c.args.members; ids = c.args.ids; bytes = c.args.bytes } in
    let at : IsNumbered disks (c.args.before + 1) pair =
    subst (λ k. IsNumbered disks (k + 1) pair) c.from-index.ensures
    (number_at disks c.from-index.result pair
    (omega (arith, c.from-index.ensures, c.requires.pairs, c.requires.member.at_most, c.requires.count.at_most))
    c.index_mut.ensures.value) in
    rw (given.1, given.2, c.from-index.ensures)
    (enters_next g.K.Keep g.D.Disk volume c.args.before c.args.opened.now c.args.opened.now disks pair
    c.make_absent.new.pair at tt tt (λ told. tt) (λ told q is. made.occupied told q (err_as fault (Occupied q) is))
    (λ told q is. made.never told q (err_as fault (Image q) is)) (asked_err fault made.asked))

pub returns-in_err-enter_member : goal.returns-in_err-enter_member
returns-in_err-enter_member g c =
    let given =
    err_from_is_err_and c.from_residual-in_err-enter_member.result c.from_residual-in_err-enter_member.ensures.1 in
    let made = c.in_ok-stable.ensures in
    let disks = c.args.disks.now.items in
    let pair = c.index_mut.result.now in
    let volume : Volume =
    record { members = c.args.members; ids = c.args.ids; bytes = c.args.bytes } in
    let at : IsNumbered disks (c.args.before + 1) pair =
    subst (λ k. IsNumbered disks (k + 1) pair) c.from-index.ensures
    (number_at disks c.from-index.result pair
    (omega (arith, c.from-index.ensures, c.requires.pairs, c.requires.member.at_most, c.requires.count.at_most))
    c.index_mut.ensures.value) in
    rw (given.1, given.2, c.from-index.ensures)
    (enters_next g.K.Keep g.D.Disk volume c.args.before c.args.opened.now c.enter_member.new.opened disks pair
    c.make_absent.new.pair at tt tt (λ told. tt) (λ told q is. absurd (cc)) (λ told q is. absurd (cc))
    (asked_spared tt made.asked.steady made.asked.armings (λ fused. (made.asked.unfailing fused).unarmed)))

pub returns : goal.returns
returns g c =
    let made = c.in_ok-stable.ensures in
    let stable = c.in_ok-stable.stable in
    let entered = c.in_ok-enter_member.ensures in
    let was = c.args.opened.now in
    let now = c.enter_member.new.opened in
    let disks = c.args.disks.now.items in
    let pair = c.index_mut.result.now in
    let after = c.make_absent.new.pair in
    let index = c.from-index.result in
    let volume : Volume =
    record { members = c.args.members; ids = c.args.ids; bytes = c.args.bytes } in
    let within : index < length disks =
    omega (arith, c.from-index.ensures, c.requires.pairs, c.requires.member.at_most, c.requires.count.at_most) in
    let at : IsNumbered disks (c.args.before + 1) pair =
    subst (λ k. IsNumbered disks (k + 1) pair) c.from-index.ensures
    (number_at disks index pair within c.index_mut.ensures.value) in
    let member : MemberValue = record {
      replica = c.fresh-replica.result;
      parts = None;
      state = Down None;
      fused = c.is_fused-fused.result;
    } in
    let is_fused =
    c.is_fused-fused.ensures
    ∙ ap (λ (p : Pair g.row.D.Denot). are_fused g.D.Disk.armings p)
    (c.index.ensures ∙ get_or-set_same disks index after c.index.result.now within) in
    rw c.from-index.ensures
    (enters_next g.K.Keep g.D.Disk volume c.args.before was now disks pair after at
    (absent_more volume c.args.before was.members.items now.members.items member c.requires.before entered.members
    (record {
      saved = c.fresh-replica.ensures.saved;
      asks = c.fresh-replica.ensures.ask;
      parts = refl;
      down = refl;
    }))
    (kept_next g.K.Keep g.D.Disk was now disks c.args.before member stable after c.requires.before c.requires.kept
    entered.members entered.stables
    (record {
      fused = is_fused;
      holds = λ told.
          subst (λ (s : Saved). HoldsFor g.K.Keep g.D.Disk stable after s (Down None))
          (sym c.fresh-replica.ensures.saved)
          (holds_away g.K.Keep g.D.Disk stable after (fresh_saved volume (c.args.before + 1)) (made.ready told));
    }))
    made.empty (λ told q is. absurd (cc)) (λ told q is. absurd (cc))
    (asked_ok made.asked.steady made.asked.armings (λ fused. (made.asked.unfailing fused).unarmed)))
