use Rattle.std.proofs.Common.{◌-◌, length, sym, ap, ◌∙◌}
use Rattle.std.proofs.lemmas.List.{length-set}
use Rattle.ficus_ids.specs.Members.{IsMember}
use Rattle.ficus_runs.proofs.Numbers.{number_exists}
use Rattle.ficus_world.specs.Hearing.{awaiting}
use Rattle.ficus_world.specs.World.{Whole}
use Rattle.ficus_world.proofs.world.World.await_answer.Goals as goal

pub invariant_of-self : goal.invariant_of-self
invariant_of-self g c =
    let members = c.self.inside.group.members in
    let number = c.args.number in
    let member : IsMember (length members) number = rw (← c.self.view_is) at c.requires.member in
    let was = number_exists members number member in
    c.self.invariant
    ∙ sym (ap (λ (w : Whole). length w.members) (c.await_answer.ensures.awaits was.0 was.1)
    ∙ length-set members (number - 1) (awaiting was.0 c.args.ask))
