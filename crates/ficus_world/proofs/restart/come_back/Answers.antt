use Rattle.std.proofs.Common.{◌∷◌, [], sym, subst, ◌∙◌, append_assoc}
use Rattle.std.proofs.lemmas.List.{append-nil}
use Rattle.ficus_model.specs.declared.event.Event.TheVariants.{Restart}
use Rattle.ficus_world.specs.declared.member.Rising.{Rising}
use Rattle.ficus_world.specs.Disks.{IsRisen}
use Rattle.ficus_world.proofs.Restarting.{back_as_pending, back_as_was, back_no_memory, back_not_opened, back_not_read, back_of_another, set_own}
use Rattle.ficus_world.proofs.restart.come_back.Goals as goal

pub returns-in-AsWas : goal.returns-in-AsWas
returns-in-AsWas c = λ was is.
    let rises = c.rise.ensures was is in
    let risen = subst (λ (r : Rising). IsRisen was c.in-Ok.read r rises.0) c.in-AsWas.is rises.2 in (
      rises.0,
      Restart c.args.by ∷ [],
      back_as_was c.args.by was rises.0 c.args.read c.in-Ok.read c.in-Ok.is risen,
      rises.1,
      c.push.ensures.events,
    )

pub returns-in-AsPending : goal.returns-in-AsPending
returns-in-AsPending c = λ was is.
    let rises = c.rise.ensures was is in
    let risen = subst (λ (r : Rising). IsRisen was c.in-Ok.read r rises.0) c.in-AsPending.is rises.2 in
    let happened = c.in-AsPending.event in
    let stored = rw c.push-in-AsPending.ensures.events at c.push-in-AsPending-2.ensures.events in (
      rises.0,
      happened ∷ Restart c.args.by ∷ [],
      back_as_pending c.args.by was rises.0 c.args.read c.in-Ok.read happened c.in-Ok.is risen,
      rises.1,
      stored ∙ append_assoc c.args.history.now.events (happened ∷ []) (Restart c.args.by ∷ []),
    )

pub returns-in-Neither : goal.returns-in-Neither
returns-in-Neither c = λ was is.
    let rises = c.rise.ensures was is in
    let risen = subst (λ (r : Rising). IsRisen was c.in-Ok.read r rises.0) c.in-Neither.is rises.2 in (
      rises.0,
      [],
      back_of_another c.args.by was rises.0 c.args.read c.in-Ok.read c.in-Ok.is risen,
      rises.1,
      sym (append-nil c.args.history.now.events),
    )

pub returns-in-Memory : goal.returns-in-Memory
returns-in-Memory c = λ was is. (
  was,
  [],
  back_no_memory c.args.by was c.args.read c.in-Err.fault c.in-Err.is
      c.in-Memory.is,
  sym (set_own c.args.members.now.items c.args.by was is),
  sym (append-nil c.args.history.now.events),
)

pub returns-in-NoImage : goal.returns-in-NoImage
returns-in-NoImage c = λ was is. (
  _,
  [],
  back_not_read c.args.by was c.args.read c.in-Err.fault c.in-Err.is
      c.in-NoImage.is,
  c.stay_down.ensures was is,
  sym (append-nil c.args.history.now.events),
)

pub returns-in-Failed : goal.returns-in-Failed
returns-in-Failed c = λ was is. (
  _,
  [],
  back_not_opened c.args.by was c.args.read c.in-Err.fault c.in-Err.is
      c.in-Failed.is,
  c.stay_down-in-Failed.ensures was is,
  sym (append-nil c.args.history.now.events),
)
