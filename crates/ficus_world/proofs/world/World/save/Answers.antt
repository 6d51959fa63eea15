use Rattle.ficus_world.proofs.world.World.save.Goals as goal

pub save-requires-clause-next : goal.save-requires-clause-next
save-requires-clause-next g c = rw (← c.self.view_is) at c.requires.next

pub save-requires-clause-backed : goal.save-requires-clause-backed
save-requires-clause-backed g c = rw (← c.self.view_is) at c.requires.backed

pub returns : goal.returns
returns g c =
    record {
      saves = rw (← c.self.view_is) c.save.ensures.saves;
      acts = rw (← c.self.view_is) c.save.ensures.acts;
    }
