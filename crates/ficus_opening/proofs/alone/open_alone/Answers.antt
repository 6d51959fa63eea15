use Rattle.std.proofs.Common.{◌≡◌, ◌≢◌, ◌+◌, ◌-◌, ◌<◌, Err, length, subst, sym, ap, ◌∙◌, inl, inr, arith}
use Rattle.std.proofs.lemmas.Result.{err_from_is_err_and}
use Rattle.std.specs.Prelude.{slice_set}
use Rattle.ficus_disk.specs.declared.pair.Pair.{Pair}
use Rattle.ficus_runs.specs.Numbered.{IsNumbered}
use Rattle.ficus_runs.proofs.Numbers.{number_once}
use Rattle.ficus_stable_storage.specs.Stable.{IsReady}
use Rattle.ficus_opening.specs.Check.Judged.{HoldsNoneOf}
use Rattle.ficus_opening.specs.declared.fault.WorldFault.{WorldFault}
use Rattle.ficus_opening.specs.declared.fault.WorldFault.TheVariants.{Image, Occupied}
use Rattle.ficus_opening.proofs.Asking.{err_as, looked_err, looked_one}
use Rattle.ficus_opening.proofs.Entering.{set_other}
use Rattle.ficus_opening.proofs.Lone.{opens_alone, own_fault, unopened_alone}
use Rattle.ficus_opening.proofs.Steadies.{number_at, set_at}
use Rattle.ficus_opening.proofs.check.Owning.{holds_same}
use Rattle.ficus_opening.proofs.alone.open_alone.Goals as goal

pub returns-in_err-own : goal.returns-in_err-own
returns-in_err-own g c =
    let given = err_from_is_err_and c.from_residual.result c.from_residual.ensures.1 in
    let fault = c.in_err-own.field-0.0 in
    let opens = c.in_err-own.ensures in
    let me = c.args.me in
    let disks = c.args.disks.now.items in
    let pair = c.index_mut.result.now in
    let place : c.from.result - 1 + 1 ≡ me = omega (arith, c.from.ensures, c.requires.me.at_least) in
    let inside : c.from.result - 1 < length disks =
    omega (arith, c.from.ensures, c.requires.me.at_least, c.requires.me.at_most, c.requires.pairs) in
    let at : IsNumbered disks me pair =
    subst (λ n. IsNumbered disks n pair) place
    (number_at disks (c.from.result - 1) pair inside c.index_mut.ensures.value) in
    rw (given.1, given.2)
    (unopened_alone
    (λ told r is.
    let found = opens.image told r (err_as fault (Image r) is) in (
      found.0,
      λ other at_other.
          subst (λ (p : Pair g.row.D.Denot). HoldsNoneOf g.K.Keep.kept g.D.Disk.seen me p) (number_once at at_other)
          found.1,
    ))
    (λ told. own_fault fault me (λ q is. opens.never q (ap (λ (f : WorldFault). Err f) is))
    (λ r is. (opens.image told r (ap (λ (f : WorldFault). Err f) is)).0))
    (λ q is. opens.never q (err_as fault (Occupied q) is))
    (looked_one disks (c.from.result - 1) me pair c.open_one.new.pair place inside c.index_mut.ensures.value
    (looked_err fault opens.looked)))

pub enter_all-requires-clause-ready : goal.enter_all-requires-clause-ready
enter_all-requires-clause-ready g c = λ told other at_other.
    let me = c.args.me in
    let disks = c.args.disks.now.items in
    let after = c.open_one.new.pair in
    let own = c.in_ok-own.own in
    let place : c.from.result - 1 + 1 ≡ me = omega (arith, c.from.ensures, c.requires.me.at_least) in
    elim (set_at disks (c.from.result - 1) me after other at_other) [
      | inl here ↦
          subst (λ (p : Pair g.row.D.Denot). IsReady g.K.Keep.kept g.K.Keep.fits g.D.Disk.seen g.D.Disk.may_leave
          own.stable p own.saved) (sym here.1) (c.in_ok-own.ensures.ready told)
      | inr there ↦ absurd (there.0 place)
    ]

pub returns : goal.returns
returns g c =
    let me = c.args.me in
    let disks = c.args.disks.now.items in
    let pair = c.index_mut.result.now in
    let after = c.open_one.new.pair in
    let own = c.in_ok-own.own in
    let opens = c.in_ok-own.ensures in
    let place : c.from.result - 1 + 1 ≡ me = omega (arith, c.from.ensures, c.requires.me.at_least) in
    let inside : c.from.result - 1 < length disks =
    omega (arith, c.from.ensures, c.requires.me.at_least, c.requires.me.at_most, c.requires.pairs) in
    let at : IsNumbered disks me pair =
    subst (λ n. IsNumbered disks n pair) place
    (number_at disks (c.from.result - 1) pair inside c.index_mut.ensures.value) in
    opens_alone g.K.Keep g.D.Disk me own.saved opens.fits opens.own disks (slice_set disks (c.from.result - 1) after)
    c.enter_all.new.disks.items pair at
    (λ told. holds_same g.K.Keep.kept g.D.Disk.seen pair after own.saved (opens.looked.same told)
    (opens.ready told).holds)
    c.enter_all.result
    (looked_one disks (c.from.result - 1) me pair after place inside c.index_mut.ensures.value opens.looked)
    (λ r other differs at_other.
    let elsewhere : c.from.result - 1 + 1 ≢ r = λ same. differs (sym same ∙ place) in
    set_other disks (c.from.result - 1) r after other elsewhere at_other)
    c.enter_all.ensures
