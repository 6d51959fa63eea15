use Rattle.ficus_disk.specs.declared.pair.Pair.{Pair}
use Rattle.ficus_loop.specs.Trail.{LeftOn, whole}
use Rattle.ficus_loop.proofs.Covering.{covers}
use Rattle.ficus_loop.proofs.During.{during}
use Rattle.ficus_loop.proofs.laws.each_moment_is_of_one_command.Goals as goal

pub returns-clause-on_a : goal.returns-clause-on_a
returns-clause-on_a g c = λ kept volume W V U commands outcomes answers entry mid new first run r was now left_c moments is is_now left.
    during (LeftOn g.D.Disk (λ (p : Pair g.row.D.Denot). p.a) r left_c) first run
    ((covers kept g.D.Disk volume g.met.D.Disk.left_earlier moments (whole first run)).on_a r was now left_c is is_now
    left)

pub returns-clause-on_b : goal.returns-clause-on_b
returns-clause-on_b g c = λ kept volume W V U commands outcomes answers entry mid new first run r was now left_c moments is is_now left.
    during (LeftOn g.D.Disk (λ (p : Pair g.row.D.Denot). p.b) r left_c) first run
    ((covers kept g.D.Disk volume g.met.D.Disk.left_earlier moments (whole first run)).on_b r was now left_c is is_now
    left)
