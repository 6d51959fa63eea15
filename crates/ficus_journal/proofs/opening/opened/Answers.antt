use Rattle.std.proofs.Common.{◌≡◌, ◌∙◌, ◌-◌, refl, sym, ap, length}
use Rattle.std.specs.Prelude.{if◌then◌else◌}
use Rattle.ficus_journal.specs.declared.journal.Journal.{Journal}
use Rattle.ficus_journal.proofs.Still.{fits_opened}
use Rattle.ficus_journal.proofs.opening.opened.Goals.{then-choice, else-choice}
use Rattle.ficus_journal.proofs.opening.opened.Goals as goal

pub returns-clause-keeper : goal.returns-clause-keeper
returns-clause-keeper c stands =
    let a = c.args.a.now in
    let b = c.args.b.now in
    let force : c.if-choice.force.now ≡ (if c.args.choice.on_a then a else b) = elim c.if-choice.branch [
      | then-choice w ↦ ap (λ f. f.now) w.force-is ∙ sym (ap (λ v. if v then a else b) w.if-choice.true)
      | else-choice w ↦ ap (λ f. f.now) w.force-is ∙ sym (ap (λ v. if v then a else b) w.if-choice.false)
    ] in
    let keeper : Journal = record {
      generation = c.args.choice.slot.generation;
      on_a = c.args.choice.on_a;
      shut = c.args.choice.shut;
      end = length c.if-choice.force.now - length c.in_ok-found.found.rest.now;
      count = c.len.result;
      stuck = c.begins_open.result;
      buffer = c.new.result;
    } in
    fits_opened c.args.choice.on_a keeper c.args.choice.slot.body.now _ c.in_ok-found.found.rest.now a b
    c.if-choice.force.now force c.requires c.in_ok-found.ensures.log c.in_ok-found.ensures.within refl (c.len.ensures ∙ c.in_ok-found.found.bodies.ok.0)
    c.begins_open.ensures stands
