use Rattle.std.proofs.Common.{◌≡◌, ℕ, [], Err, Bool, List, length, take, ap, subst, sym}
use Rattle.ficus_runs.specs.Start.{start}
use Rattle.ficus_top.specs.Summary.Sized.{sized}
use Rattle.ficus_top.specs.Summary.Keeper.{IsRegular, keeper}
use Rattle.ficus_opening.specs.Fuses.{AreRegular}
use Rattle.ficus_opening.specs.Opening.{fuses_in}
use Rattle.ficus_world.specs.World.{WorldStandsFor}
use Rattle.ficus_loop.proofs.Places.{fuses_same, not_occupied}
use Rattle.ficus_top.proofs.summary.Worlds.{fresh_at_rest, memory_alone}
use Rattle.ficus_top.proofs.summary.world.fresh_world.Goals as goal

pub want_of_memory-requires-in-Err : goal.want_of_memory-requires-in-Err
want_of_memory-requires-in-Err g c =
    let made = c.in-Err.ensures in
    memory_alone c.in-Err.fault
    (λ r is.
    let said = made.occupied c.requires.tells r (ap Err is) in
    not_occupied c.requires.empty said.0 said.1)
    (λ r is. (made.unfailing c.requires.tells_fuse).unfailing c.requires.unarmed r (ap Err is))
    (λ r is. made.never r (ap Err is))

pub want_of_memory-requires : goal.want_of_memory-requires
want_of_memory-requires g c =
    let volume = sized c.args.members c.args.ids c.args.bytes in
    let opened = c.in-Err-open.ensures in
    memory_alone c.in-Err-open.fault
    (λ r is. opened.never r (ap Err is))
    (λ r is.
    (opened.unfailing c.requires.tells_fuse).unfailing
    ((c.make.ensures.unfailing c.requires.tells_fuse).unarmed c.requires.unarmed) r (ap Err is))
    (λ r is. opened.never_image c.requires.tells volume []
    (c.what_is_made_stands.ensures volume c.make.new.disks.items c.requires.members c.requires.ids_at_least
    c.requires.ids_at_most c.requires.bytes (c.in-Ok.ensures.made c.requires.tells)) r (ap Err is))

pub returns-in-Ok-open-clause-stands : goal.returns-in-Ok-open-clause-stands
returns-in-Ok-open-clause-stands g c =
    let volume = sized c.args.members c.args.ids c.args.bytes in
    let stands =
    c.in-Ok-open.ensures.stands c.requires.tells volume []
    (c.what_is_made_stands.ensures volume c.make.new.disks.items c.requires.members c.requires.ids_at_least
    c.requires.ids_at_most c.requires.bytes (c.in-Ok.ensures.made c.requires.tells)) in
    subst (λ (fused : List Bool). WorldStandsFor volume
    (start [] c.args.members c.args.total (take c.args.members fused)) c.in-Ok-open.world.whole)
    (fuses_same g.D.Disk.armings c.make.ensures.armings)
    (subst (λ (total : ℕ). WorldStandsFor volume
    (start [] c.args.members total (take c.args.members (fuses_in g.D.Disk.armings c.make.new.disks.items)))
    c.in-Ok-open.world.whole) c.after.ensures.total stands)

pub returns-in-Ok-open-clause-fuses : goal.returns-in-Ok-open-clause-fuses
returns-in-Ok-open-clause-fuses g c =
    let volume = sized c.args.members c.args.ids c.args.bytes in
    let members = c.in-Ok-open.world.whole.members in
    let counted : length members ≡ c.args.members =
    (c.in-Ok-open.ensures.stands c.requires.tells volume []
    (c.what_is_made_stands.ensures volume c.make.new.disks.items c.requires.members c.requires.ids_at_least
    c.requires.ids_at_most c.requires.bytes (c.in-Ok.ensures.made c.requires.tells))).members in
    λ F zero.
    c.in-Ok-open.ensures.fuses c.requires.tells_fuse c.requires.tells
    ((c.make.ensures.unfailing c.requires.tells_fuse).unarmed c.requires.unarmed)
    (subst (λ (count : ℕ). AreRegular IsRegular g.D.Disk.seen c.make.new.disks.items count) (sym counted)
    (c.in-Ok.ensures.regular c.requires.tells)) F
    (fresh_at_rest keeper g.D.Disk volume c.make.new.disks.items members counted
    (c.in-Ok.ensures.made c.requires.tells) (c.in-Ok-open.ensures.opened c.requires.tells) F zero)
