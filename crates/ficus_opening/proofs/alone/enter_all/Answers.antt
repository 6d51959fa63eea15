use Rattle.std.proofs.Common.{◌≡◌, ◌+◌, ◌-◌, ◌<◌, ◌≤◌, Ok, Err, length, subst, inr, arith}
use Rattle.std.proofs.lemmas.Result.{err_from_is_err_and}
use Rattle.ficus_ids.specs.Members.{IsMember}
use Rattle.ficus_runs.specs.Numbered.{IsNumbered}
use Rattle.ficus_opening.specs.Alone.{EntersAbsent, volume_of}
use Rattle.ficus_opening.specs.declared.fault.WorldFault.TheVariants.{Image, Memory, Occupied}
use Rattle.ficus_opening.proofs.Asking.{disks_err, disks_steady, err_as, never_store}
use Rattle.ficus_opening.proofs.Lone.{alone_with, asked_all, empty_all, kept_with, occupied_then, own_still, unentered}
use Rattle.ficus_opening.proofs.Steadies.{number_at}
use Rattle.ficus_opening.proofs.alone.enter_all.Goals as goal

pub returns-in_err-enter_absent : goal.returns-in_err-enter_absent
returns-in_err-enter_absent g c =
    let given =
    err_from_is_err_and c.from_residual-in_err-enter_absent.result c.from_residual-in_err-enter_absent.ensures.1 in
    let fault = c.in_err-enter_absent.field-0.0 in
    let first = c.in_err-enter_absent.ensures in
    let me = c.args.me in
    let saved = c.args.own.saved in
    let some : 1 ≤ me = omega (arith, c.requires.fits.me.at_least, c.requires.own.me) in
    let within : me ≤ saved.members = omega (arith, c.requires.fits.me.at_most, c.requires.own.me) in
    rw (given.1, given.2)
    (unentered
    (λ told q is.
    let found = first.occupied told q (err_as fault (Occupied q) is) in
    let member : IsMember saved.members q = record {
      at_least = omega (arith, found.0);
      at_most = omega (arith, found.1, within);
    } in
    (λ same. omega (arith, found.1, same, some), member, found.2))
    (λ told q is. first.never told q (err_as fault (Image q) is))
    (λ pair at. first.others me pair (inr (omega (arith, some))) at)
    (disks_err fault first.asked))

pub returns-in_err-enter : goal.returns-in_err-enter
returns-in_err-enter g c =
    let given = err_from_is_err_and c.from_residual-in_err-enter.result c.from_residual-in_err-enter.ensures.1 in
    let first = c.in_ok-enter_absent.ensures in
    let me = c.args.me in
    let some : 1 ≤ me = omega (arith, c.requires.fits.me.at_least, c.requires.own.me) in
    rw (given.1, given.2)
    (unentered (λ told q is. absurd (cc)) (λ told q is. absurd (cc))
    (λ pair at. first.others me pair (inr (omega (arith, some))) at)
    (disks_steady (Err Memory) c.args.disks.now.items c.enter_absent.new.disks.items first.asked.steady
    first.asked.armings (λ fused. (first.asked.unfailing fused).unarmed) (never_store Memory tt)))

pub enter_absent-requires-2-clause-kept : goal.enter_absent-requires-2-clause-kept
enter_absent-requires-2-clause-kept g c =
    let me = c.args.me in
    let saved = c.args.own.saved in
    let disks = c.args.disks.now.items in
    let pair = c.index.result.now in
    let some : 1 ≤ me = omega (arith, c.requires.fits.me.at_least, c.requires.own.me) in
    let within : me ≤ saved.members = omega (arith, c.requires.fits.me.at_most, c.requires.own.me) in
    let place : c.from.result - 1 + 1 ≡ me = omega (arith, c.from.ensures, some) in
    let inside : c.from.result - 1 < length disks =
    omega (arith, c.from.ensures, some, within, c.requires.fits.members.at_most, c.requires.pairs) in
    let at : IsNumbered disks me pair =
    subst (λ n. IsNumbered disks n pair) place (number_at disks (c.from.result - 1) pair inside c.index.ensures) in
    let entered = c.in_ok-enter.ensures in
    kept_with g.K.Keep g.D.Disk me saved c.is_fused-fused.result c.args.own.stable some within c.in_ok-opened.opened
    c.enter_absent.new.opened c.enter.new.opened disks c.enter_absent.new.disks.items c.in_ok-enter_absent.ensures
    entered.members entered.stables pair at c.is_fused-fused.ensures (λ told. c.requires.ready told pair at)

pub returns-in_err-enter_absent-2 : goal.returns-in_err-enter_absent-2
returns-in_err-enter_absent-2 g c =
    let given =
    err_from_is_err_and c.from_residual-in_err-enter_absent-2.result c.from_residual-in_err-enter_absent-2.ensures.1 in
    let fault = c.in_err-enter_absent-2.field-0.0 in
    let me = c.args.me in
    let saved = c.args.own.saved in
    let old = c.args.disks.now.items in
    let mid = c.enter_absent.new.disks.items in
    let new = c.enter_absent-2.new.disks.items in
    let some : 1 ≤ me = omega (arith, c.requires.fits.me.at_least, c.requires.own.me) in
    let within : me ≤ saved.members = omega (arith, c.requires.fits.me.at_most, c.requires.own.me) in
    let first = c.in_ok-enter_absent.ensures in
    let entered = c.in_ok-enter.ensures in
    let all = c.enter_absent-2.new.opened in
    let then : EntersAbsent g.K.Keep g.D.Disk (volume_of saved) me saved.members (Err fault) c.enter.new.opened all mid new =
    subst (λ n. EntersAbsent g.K.Keep g.D.Disk (volume_of saved) me n (Err fault) c.enter.new.opened all mid new)
    c.count.ensures.value c.in_err-enter_absent-2.ensures in
    rw (given.1, given.2)
    (unentered
    (λ told q is.
    occupied_then g.K.Keep g.D.Disk me saved c.is_fused-fused.result c.args.own.stable some within
    c.in_ok-opened.opened c.enter_absent.new.opened c.enter.new.opened old mid first entered.members entered.stables
    (Err fault) all new then told q (err_as fault (Occupied q) is))
    (λ told q is. then.never told q (err_as fault (Image q) is))
    (own_still g.K.Keep g.D.Disk me saved c.is_fused-fused.result c.args.own.stable some within c.in_ok-opened.opened
    c.enter_absent.new.opened c.enter.new.opened old mid first entered.members entered.stables (Err fault) all new then)
    (disks_err fault
    (asked_all g.K.Keep g.D.Disk me saved c.is_fused-fused.result c.args.own.stable some within c.in_ok-opened.opened
    c.enter_absent.new.opened c.enter.new.opened old mid first entered.members entered.stables (Err fault) all new then)))

pub returns : goal.returns
returns g c =
    let me = c.args.me in
    let saved = c.args.own.saved in
    let old = c.args.disks.now.items in
    let mid = c.enter_absent.new.disks.items in
    let new = c.enter_absent-2.new.disks.items in
    let some : 1 ≤ me = omega (arith, c.requires.fits.me.at_least, c.requires.own.me) in
    let within : me ≤ saved.members = omega (arith, c.requires.fits.me.at_most, c.requires.own.me) in
    let first = c.in_ok-enter_absent.ensures in
    let entered = c.in_ok-enter.ensures in
    let all = c.enter_absent-2.new.opened in
    let then : EntersAbsent {A = Unit {0}} g.K.Keep g.D.Disk (volume_of saved) me saved.members (Ok tt) c.enter.new.opened
    all mid new =
    subst (λ n. EntersAbsent {A = Unit {0}} g.K.Keep g.D.Disk (volume_of saved) me n (Ok tt) c.enter.new.opened all mid new)
    c.count.ensures.value c.in_ok-enter_absent-2.ensures in
    let asked =
    asked_all g.K.Keep g.D.Disk me saved c.is_fused-fused.result c.args.own.stable some within c.in_ok-opened.opened
    c.enter_absent.new.opened c.enter.new.opened old mid first entered.members entered.stables (Ok tt) all new then in
    record {
      alone = alone_with g.K.Keep g.D.Disk me saved c.is_fused-fused.result c.args.own.stable some within
          c.in_ok-opened.opened c.enter_absent.new.opened c.enter.new.opened old mid first entered.members
          entered.stables (Ok tt) all new then then.members;
      kept = then.kept;
      empty = empty_all g.K.Keep g.D.Disk me saved c.is_fused-fused.result c.args.own.stable some within
          c.in_ok-opened.opened c.enter_absent.new.opened c.enter.new.opened old mid first entered.members
          entered.stables (Ok tt) all new then;
      occupied = λ told q is. absurd (cc);
      never = λ told q is. absurd (cc);
      own = own_still g.K.Keep g.D.Disk me saved c.is_fused-fused.result c.args.own.stable some within
          c.in_ok-opened.opened c.enter_absent.new.opened c.enter.new.opened old mid first entered.members
          entered.stables (Ok tt) all new then;
      asked = disks_steady _ old new asked.steady asked.armings (λ fused. (asked.unfailing fused).unarmed)
          (λ r is. absurd (cc));
    }
