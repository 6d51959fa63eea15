use Rattle.std.proofs.Common.{ap, arith, subst, ◌≡◌}
use Rattle.ficus_keeper.specs.Framed.{body_in}
use Rattle.ficus_record.specs.declared.record.Record.TheVariants.{Ask}
use Rattle.ficus_opening.specs.declared.member.Member.{Member}
use Rattle.ficus_opening.specs.declared.member.MemberState.TheVariants.{Up}
use Rattle.ficus_runs.proofs.Numbers.{number_once}
use Rattle.ficus_world.proofs.SoundWorlds.{noted_sound}
use Rattle.ficus_world.proofs.group.Group.asking.Goals as goal

pub returns-clause-asks : goal.returns-clause-asks
returns-clause-asks g c =
    let peers = c.requires.may.peers in
    let up = c.requires.may.up in (
      c.member.result.now,
      record {
        peers = peers;
        is = c.member.ensures.is;
        up = subst (λ (m : Member). m.state ≡ Up) (number_once up.is c.member.ensures.is) up.up;
        gives = c.in_ok-replica.ensures.gives;
        fits = record {
          from = peers.first;
          to = peers.second;
          differ = peers.differ;
          number = omega (arith, c.in_ok-replica.ensures.fits.generation);
        };
      },
      noted_sound {noted = body_in c.in_ok-noted.noted.items} c.member.ensures.sound.replica (record {
        noted = Ask;
        is = ap body_in c.in_ok-noted.ensures;
        step = c.in_ok-replica.ensures.noted;
      }),
    )
