use Rattle.std.proofs.Common.{Err, [], ◌∷◌, subst}
use Rattle.std.proofs.lemmas.Result.{err_from_is_err_and}
use Rattle.ficus_ids.specs.declared.refusal.Refusal.TheVariants as refusal
use Rattle.ficus_runs.specs.Outcome.{IsDone}
use Rattle.ficus_runs.specs.Sequence.{unchanged}
use Rattle.ficus_world.specs.Disks.{Carried}
use Rattle.ficus_world.specs.Moves.{FetchesBytes, with_post}
use Rattle.ficus_world.specs.Moves.FetchesBytes.{Fetched, NoMail}
use Rattle.ficus_world.specs.World.{Whole, whole_of}
use Rattle.ficus_world.proofs.Tests.{untrue}
use Rattle.ficus_world.proofs.Sending.{fetch_failed}
use Rattle.ficus_world.proofs.group.Group.fetch.Goals as goal

pub returns-then-not-has-clause-fetches : goal.returns-then-not-has-clause-fetches
returns-then-not-has-clause-fetches g c = record {
  outcomes = [];
  does = subst (λ (w : Whole). FetchesBytes g.L.Link.tells c.args.mail w (Err refusal.NoMail) (unchanged w))
      c.self.view_is (NoMail (untrue c.has.result c.has.ensures c.if-not-has.true));
}

pub returns-in_err-fetch-clause-fetches : goal.returns-in_err-fetch-clause-fetches
returns-in_err-fetch-clause-fetches g c =
    let refused = err_from_is_err_and c.from_residual.result c.from_residual.ensures.1 in
    let old = whole_of c.self.inside.members.items c.self.inside.history.events c.self.inside.post.now in
    let r = c.in_err-fetch.field-0.0 in
    let fails = λ (w : Whole). Carried (FetchesBytes g.L.Link.tells c.args.mail w) (Err r)
    (with_post old c.fetch.new.self.now) in
    rw (refused.1, refused.2)
    (subst fails c.self.view_is (fetch_failed g.L.Link.tells old c.args.mail c.fetch.new.self.now
    (c.has.ensures.0 c.if-not-has.false) r
    (λ other. let f = c.in_err-fetch.ensures.failed (λ e. other (cc)) in (cc, f.1))))

pub returns-clause-fetches : goal.returns-clause-fetches
returns-clause-fetches g c =
    rw (c.of.ensures, c.in_ok-fetch.ensures.same, ← c.self.view_is)
    (record { outcomes = IsDone ∷ []; does = Fetched c.in_ok-fetch.ensures.fetched })
