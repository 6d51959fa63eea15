use Rattle.std.proofs.Common.{ℕ, Err, ap, ◌∙◌}
use Rattle.std.specs.Prelude.{IsErrOf, None, Some}
use Rattle.ficus_disk.specs.declared.disk.Disk.{Ghosts as Disk}
use Rattle.ficus_disk.specs.declared.pair.Pair.{Pair}
use Rattle.ficus_keeper.specs.Calls.{AreAsBefore}
use Rattle.ficus_keeper.specs.declared.keep.Keep.{Ghosts as Keep}
use Rattle.ficus_model.specs.Lawful.{Volume}
use Rattle.ficus_replica.specs.SavedOf.{fresh_saved}
use Rattle.ficus_stable_storage.specs.Holds.{HoldsOneOf}
use Rattle.ficus_opening.specs.Calls.{MakesMember}
use Rattle.ficus_opening.specs.Opening.{IsStoreFault, IsSynced, PairAsked}
use Rattle.ficus_opening.specs.declared.fault.WorldFault.{WorldFault}
use Rattle.ficus_opening.specs.declared.fault.WorldFault.TheVariants.{Memory}
use Rattle.ficus_opening.proofs.Asking.{asked_ok, asked_spared, asked_store}
use Rattle.ficus_opening.proofs.making.make_one.Goals as goal

-- a fault is told
unmade : {K D : Type 0} {keep : Keep K} {disk : Disk D} {volume : Volume} {me : ℕ} {fault : WorldFault} {old new : Pair D}
    → IsStoreFault fault
    → (disk.tells → IsSynced disk.seen disk.may_leave old
    → HoldsOneOf keep.kept disk.may_leave new None (Some (fresh_saved volume me)))
    → (IsErrOf {T = Unit {0}} (Err fault) Memory → AreAsBefore disk old new)
    → PairAsked {A = Unit {0}} disk me (Err fault) old new
    → MakesMember {A = Unit {0}} keep disk volume me (Err fault) old new
unmade refused partly wanted asked = record {
  made = λ told. tt;
  refused = refused;
  partly = partly;
  synced = λ told synced. tt;
  wanted = wanted;
  regular = λ told. tt;
  asked = asked;
}

pub returns-in-Ok : goal.returns-in-Ok
returns-in-Ok g c =
    let makes = c.make.ensures in
    let made = c.in-Ok.ensures in
    record {
      made = λ told. rw (← c.fresh-fresh.ensures.saved) (made.holds told);
      refused = tt;
      partly = λ told synced. rw (← c.fresh-fresh.ensures.saved) (makes.crash told synced.a synced.b);
      synced = λ told synced. record { a = made.durable told; b = rw makes.other synced.b };
      wanted = λ is. absurd (cc is);
      regular = made.regular;
      asked = asked_ok made.steady makes.armings makes.unarmed;
    }

pub returns-in-Err-Failed : goal.returns-in-Err-Failed
returns-in-Err-Failed g c =
    let makes = c.make.ensures in
    let was = c.in-Err-Failed.is ∙ ap (λ fault. Err fault) c.in-Err-Failed.field-0-is in
    unmade tt (λ told synced. rw (← c.fresh-fresh.ensures.saved) (makes.crash told synced.a synced.b))
    (λ is. absurd (cc is))
    (asked_store (makes.failed was) makes.armings makes.unarmed (λ fused none. makes.never fused none was))

pub returns : goal.returns
returns g c =
    let makes = c.make.ensures in
    let was = c.in-Err-Memory.is ∙ ap (λ fault. Err fault) c.in-Err-Memory.field-0-is in
    unmade tt (λ told synced. rw (← c.fresh-fresh.ensures.saved) (makes.crash told synced.a synced.b))
    (λ is. makes.refused was)
    (asked_spared tt (makes.refused was).spares.steady makes.armings makes.unarmed)
