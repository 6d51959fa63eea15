use Rattle.std.proofs.Common.{ap, refl, Err, inl, inr}
use Rattle.std.proofs.lemmas.Result.{err_from_is_err_and}
use Rattle.ficus_world.specs.World.{Whole}
use Rattle.ficus_machine.proofs.Giving.{ends_undone, ends_unheard, giving_count, giving_done, giving_halted, giving_kept, giving_refused, giving_undone, more_kept, whole_done, whole_refused, works_done, works_kept, works_refused, works_undone}
use Rattle.ficus_machine.proofs.Lived.{works_same}
use Rattle.ficus_machine.proofs.machine.Machine.give_piece.Goals as goal

pub returns-in-Err-clause-giving : goal.returns-in-Err-clause-giving
returns-in-Err-clause-giving g c =
    rw (← c.self.view_is) (giving_halted c.in-Err.ensures.refused c.hear.ensures.rest c.unheard.ensures)

pub returns-in-Err-clause-whole : goal.returns-in-Err-clause-whole
returns-in-Err-clause-whole g c = λ ends. ends_unheard c.in-Err.ensures.refused c.unheard.ensures ends

pub returns-in-Err-clause-works : goal.returns-in-Err-clause-works
returns-in-Err-clause-works g c =
    rw (← c.self.view_is)
    (λ noted opened ends.
    works_same g.K.Keep g.D.Disk c.self.inside.me noted c.self.inside.world.whole c.hear.new.self.whole
    c.args.disks.now.items c.args.disks.now.items (ap (λ (w : Whole). w.members) c.hear.ensures.rest) refl)

pub returns-in_err-refusal-clause-giving : goal.returns-in_err-refusal-clause-giving
returns-in_err-refusal-clause-giving g c =
    let given = err_from_is_err_and c.from_residual.result c.from_residual.ensures.1 in
    let acts = c.in_err-refusal.ensures.acts in
    rw (← c.self.view_is, given.1)
    (giving_undone c.in_err-refusal.field-0.0 given.2 (λ note. acts.no_note (ap Err note)) c.hear.ensures.rest
    acts.memory)

pub returns-in_err-refusal-clause-whole : goal.returns-in_err-refusal-clause-whole
returns-in_err-refusal-clause-whole g c =
    let given = err_from_is_err_and c.from_residual.result c.from_residual.ensures.1 in
    rw given.1 (λ ends. ends_undone c.in_err-refusal.field-0.0 given.2 ends)

pub returns-in_err-refusal-clause-works : goal.returns-in_err-refusal-clause-works
returns-in_err-refusal-clause-works g c =
    rw (← c.self.view_is)
    (λ noted opened ends.
    works_undone g.K.Keep g.D.Disk c.self.inside.me noted c.in-Ok.mail c.self.inside.world.whole c.hear.new.self.whole
    c.act.new.self.world.whole c.args.disks.now.items c.act.new.disks.items c.hear.ensures.rest
    c.in_err-refusal.ensures.acts.memory opened c.in_err-refusal.ensures.passes)

pub returns-in-Refused-clause-giving : goal.returns-in-Refused-clause-giving
returns-in-Refused-clause-giving g c =
    rw (← c.self.view_is)
    (giving_refused c.self.inside.world.whole (rw (← c.self.view_is) at c.requires.to)
    (rw (← c.self.view_is) at c.requires.piece) c.in-Ok.ensures.heard c.hear.ensures.rest
    c.in_ok-refusal.ensures.acts.moves c.in-Refused.refusal c.in-Refused.is)

pub returns-in-Refused-clause-whole : goal.returns-in-Refused-clause-whole
returns-in-Refused-clause-whole g c =
    rw (← c.self.view_is)
    (whole_refused c.self.inside.world.whole (rw (← c.self.view_is) at c.requires.to)
    (rw (← c.self.view_is) at c.requires.piece) c.in-Ok.ensures.heard c.hear.ensures.rest
    c.in_ok-refusal.ensures.acts.moves c.in-Refused.refusal c.in-Refused.is)

pub returns-in-Refused-clause-works : goal.returns-in-Refused-clause-works
returns-in-Refused-clause-works g c =
    rw (← c.self.view_is)
    (λ noted opened ends.
    works_refused c.self.inside.world.whole (rw (← c.self.view_is) at c.requires.to)
    (rw (← c.self.view_is) at c.requires.piece) c.in-Ok.ensures.heard c.hear.ensures.rest
    c.in_ok-refusal.ensures.acts.moves g.K.Keep g.D.Disk c.args.disks.now.items c.act.new.disks.items noted opened
    c.in_ok-refusal.ensures.passes c.in-Refused.refusal c.in-Refused.is ends)

pub returns-in-Done-clause-giving : goal.returns-in-Done-clause-giving
returns-in-Done-clause-giving g c =
    rw (← c.self.view_is)
    (giving_done c.self.inside.world.whole (rw (← c.self.view_is) at c.requires.to)
    (rw (← c.self.view_is) at c.requires.piece) c.in-Ok.ensures.heard c.hear.ensures.rest
    c.in_ok-refusal.ensures.acts.moves c.in-Done.is)

pub returns-in-Done-clause-whole : goal.returns-in-Done-clause-whole
returns-in-Done-clause-whole g c =
    rw (← c.self.view_is)
    (λ ends. whole_done c.self.inside.world.whole (rw (← c.self.view_is) at c.requires.to)
    (rw (← c.self.view_is) at c.requires.piece) c.in-Ok.ensures.heard c.hear.ensures.rest
    c.in_ok-refusal.ensures.acts.moves c.in-Done.is)

pub returns-in-Done-clause-works : goal.returns-in-Done-clause-works
returns-in-Done-clause-works g c =
    rw (← c.self.view_is)
    (λ noted opened ends.
    works_done c.self.inside.world.whole (rw (← c.self.view_is) at c.requires.to)
    (rw (← c.self.view_is) at c.requires.piece) c.in-Ok.ensures.heard c.hear.ensures.rest
    c.in_ok-refusal.ensures.acts.moves g.K.Keep g.D.Disk c.args.disks.now.items c.act.new.disks.items noted opened
    c.in_ok-refusal.ensures.passes c.in-Done.is ends)

pub returns : goal.returns
returns g c =
    let own = rw (← c.self.view_is) at c.requires.to in
    let spells = rw (← c.self.view_is) at c.requires.piece in
    let acts = c.in_ok-refusal.ensures.acts in
    record {
      giving =
          rw (← c.self.view_is)
          (giving_kept c.self.inside.world.whole own spells c.in-Ok.ensures.heard c.hear.ensures.rest acts.moves
          c.in_default.not-Done c.in_default.not-Refused);
      count =
          rw (← c.self.view_is)
          (giving_count c.self.inside.world.whole own spells c.in-Ok.ensures.heard c.hear.ensures.rest acts.moves);
      backed = acts.backed;
      rest = rw (← c.self.view_is) (record { me = acts.rest.me; tag = acts.rest.tag; note = acts.rest.note });
      whole = λ ends. elim ends [
        | inl taken ↦ absurd (cc)
        | inr stored ↦ absurd (cc)
      ];
      held =
          rw (← c.self.view_is)
          (λ is. more_kept c.self.inside.world.whole own spells c.in-Ok.ensures.heard c.hear.ensures.rest acts.moves
          c.in_default.not-Done c.in_default.not-Refused);
      works =
          rw (← c.self.view_is)
          (λ noted opened ends.
          works_kept c.self.inside.world.whole own spells c.in-Ok.ensures.heard c.hear.ensures.rest acts.moves
          g.K.Keep g.D.Disk c.args.disks.now.items c.act.new.disks.items noted opened
          c.in_ok-refusal.ensures.passes c.in_default.not-Done c.in_default.not-Refused);
    }
