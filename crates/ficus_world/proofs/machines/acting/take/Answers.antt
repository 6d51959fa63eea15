use Rattle.ficus_world.proofs.machines.Selves.{takes_alone}
use Rattle.ficus_world.proofs.machines.acting.take.Goals as goal

pub returns-clause-takes : goal.returns-clause-takes
returns-clause-takes g c = λ tells r own. (
  c.in_ok-mail.mail,
  takes_alone g.L.Link.tells g.D.Disk.tells tells c.args.world.now.whole c.hear.new.self.whole c.act.new.world.whole
      c.args.bytes.items c.in_ok-mail.mail c.in_ok-mail.ensures.heard c.in_ok-mail.ensures.rest c.in_ok-answer.answer
      (c.in_ok-answer.ensures.acts tells) r own,
)
