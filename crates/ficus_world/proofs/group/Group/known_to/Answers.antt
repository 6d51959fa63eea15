use Rattle.std.proofs.Common.{length, ◌∙◌, ◌≡◌}
use Rattle.std.proofs.lemmas.Result.{IfOk-weaker}
use Rattle.ficus_world.proofs.group.Group.known_to.Goals as goal

pub of-requires : goal.of-requires
of-requires g c = let sound = c.member.ensures.sound.replica in sound.fits.tables

pub returns : goal.returns
returns g c =
    let saved = c.member.result.now.replica.saved in
    IfOk-weaker c.of.result (λ known. known ≡ saved.members) (λ known. known ≡ length c.args.self.now.members)
    (λ known is. is ∙ c.member.ensures.sound.replica.members) c.of.ensures
