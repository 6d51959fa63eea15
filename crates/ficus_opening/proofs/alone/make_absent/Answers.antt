use Rattle.std.proofs.Common.{◌≡◌, ℕ, Err, refl, subst, sym, ◌∙◌, arith}
use Rattle.std.specs.Prelude.{IsErrOf}
use Rattle.std.proofs.lemmas.Result.{err_from_is_err_and}
use Rattle.ficus_disk.specs.declared.disk.Disk.{Ghosts as Disk}
use Rattle.ficus_disk.specs.declared.pair.Pair.{Pair}
use Rattle.ficus_keeper.specs.Kept.{found_in}
use Rattle.ficus_keeper.specs.declared.keep.Keep.{Ghosts as Keep}
use Rattle.ficus_model.specs.Lawful.{Volume}
use Rattle.ficus_replica.specs.SavedOf.{fresh_saved}
use Rattle.ficus_durable_state.specs.declared.saved.Saved.{Saved}
use Rattle.ficus_stable_storage.specs.Stable.{IsReady}
use Rattle.ficus_stable_storage.specs.declared.stable.Stable.{Stable}
use Rattle.ficus_opening.specs.Alone.{MakesAbsent}
use Rattle.ficus_opening.specs.Check.Judged.{IsEmptyPair}
use Rattle.ficus_opening.specs.Opening.{IsStoreFault, PairAsked}
use Rattle.ficus_opening.specs.declared.fault.WorldFault.{WorldFault}
use Rattle.ficus_opening.specs.declared.fault.WorldFault.TheVariants.{Image, Occupied}
use Rattle.ficus_opening.proofs.Asking.{asked_after, asked_err, err_as, looked_then, never_store}
use Rattle.ficus_opening.proofs.Faults.{same_err, same_occupied}
use Rattle.ficus_opening.proofs.Stand.{fresh_fits}
use Rattle.ficus_opening.proofs.check.Owning.{holds_same, is_false}
use Rattle.ficus_opening.proofs.alone.make_absent.Goals as goal

-- a fault is told
unmade : {K D : Type 0} {keep : Keep K} {disk : Disk D} {volume : Volume} {r : ℕ} {fault : WorldFault} {old new : Pair D}
    → (disk.tells → (q : ℕ) → IsErrOf {T = Stable K} (Err fault) (Occupied q)
    → (q ≡ r) × (IsEmptyPair disk.seen old → ⊥))
    → (disk.tells → (q : ℕ) → IsErrOf {T = Stable K} (Err fault) (Image q) → ⊥)
    → PairAsked {A = Stable K} disk r (Err fault) old new → MakesAbsent keep disk volume r (Err fault) old new
unmade occupied never asked = record {
  ready = λ told. tt;
  empty = λ told. tt;
  occupied = occupied;
  never = never;
  asked = asked;
}

pub make_one-requires-clause-empty : goal.make_one-requires-clause-empty
make_one-requires-clause-empty g c = λ told.
    let looks = c.in_ok-is_empty.ensures in
    let empty = (looks.empty told).0 c.if-not-is_empty.false in
    let same = looks.looked.same told in
    (same.a ∙ empty.0, same.b ∙ empty.1)

pub returns-in_err-is_empty : goal.returns-in_err-is_empty
returns-in_err-is_empty g c =
    let given = err_from_is_err_and c.from_residual.result c.from_residual.ensures.1 in
    let fault = c.in_err-is_empty.field-0.0 in
    let looks = c.in_err-is_empty.ensures in
    rw (given.1, given.2)
    (unmade
    (λ told q is. let other = sym looks.failed ∙ same_err fault (Occupied q) is in absurd (cc))
    (λ told q is. let other = sym looks.failed ∙ same_err fault (Image q) is in absurd (cc))
    (asked_err fault looks.looked.asked))

pub returns-then-not-is_empty : goal.returns-then-not-is_empty
returns-then-not-is_empty g c =
    let looks = c.in_ok-is_empty.ensures in
    unmade
    (λ told q is. (
      sym (same_occupied c.args.number q (same_err {T = Stable g.row.K.Denot} _ _ is)),
      is_false c.in_ok-is_empty.is_empty (IsEmptyPair g.D.Disk.seen c.args.pair.now) c.if-not-is_empty.true
          (looks.empty told),
    ))
    (λ told q is. absurd (cc))
    (looked_then _ (never_store (Occupied c.args.number) tt) looks.looked).asked

pub returns-in_err-make_one : goal.returns-in_err-make_one
returns-in_err-make_one g c =
    let given = err_from_is_err_and c.from_residual-in_err-make_one.result c.from_residual-in_err-make_one.ensures.1 in
    let fault = c.in_err-make_one.field-0.0 in
    let looked = c.in_ok-is_empty.ensures.looked.asked in
    let makes = c.in_err-make_one.ensures in
    rw (given.1, given.2)
    (unmade
    (λ told q is. absurd (subst IsStoreFault (same_err fault (Occupied q) is) makes.refused))
    (λ told q is. absurd (subst IsStoreFault (same_err fault (Image q) is) makes.refused))
    (asked_after looked.steady looked.armings (λ fused. (looked.unfailing fused).unarmed)
    (asked_err fault makes.asked)))

pub returns-in_err-stable : goal.returns-in_err-stable
returns-in_err-stable g c =
    let given = err_from_is_err_and c.from_residual-in_err-stable.result c.from_residual-in_err-stable.ensures.1 in
    let fault = c.in_err-stable.field-0.0 in
    let looked = c.in_ok-is_empty.ensures.looked.asked in
    let made = c.in_ok-make_one.ensures in
    let opens = c.in_err-stable.ensures in
    let volume : Volume =
    record { members = c.args.members; ids = c.args.ids; bytes = c.args.bytes } in
    rw (given.1, given.2)
    (unmade
    (λ told q is. absurd (opens.never q (err_as fault (Occupied q) is)))
    (λ told q is.
    let none = (opens.image told q (err_as fault (Image q) is)).1 in
    none (fresh_saved volume c.args.number)
    (fresh_fits volume c.args.number c.requires.count c.requires.ids_at_least c.requires.ids_at_most c.requires.bytes
    c.requires.member) (made.made told)
    (record { me = refl; generation = omega arith }))
    (asked_after looked.steady looked.armings (λ fused. (looked.unfailing fused).unarmed)
    (asked_after made.asked.steady made.asked.armings (λ fused. (made.asked.unfailing fused).unarmed)
    (asked_err fault opens.looked.asked))))

pub returns : goal.returns
returns g c =
    let looks = c.in_ok-is_empty.ensures in
    let looked = looks.looked.asked in
    let made = c.in_ok-make_one.ensures in
    let opens = c.in_ok-stable.ensures in
    let stable = c.in_ok-stable.field-0.stable in
    let read = c.in_ok-stable.field-0.saved in
    let fresh = fresh_saved
    (record { members = c.args.members; ids = c.args.ids; bytes = c.args.bytes }) c.args.number in
    record {
      ready = λ told.
          let ready = opens.ready told in
          let held = holds_same g.K.Keep.kept g.D.Disk.seen c.make_one.new.pair c.open_one.new.pair read
          (opens.looked.same told) ready.holds in
          subst (λ (s : Saved). IsReady g.K.Keep.kept g.K.Keep.fits g.D.Disk.seen g.D.Disk.may_leave stable
          c.open_one.new.pair s)
          (c.one_saved.ensures (found_in g.K.Keep.kept g.D.Disk.seen c.make_one.new.pair) read fresh held
          (made.made told)) ready;
      empty = λ told. (looks.empty told).0 c.if-not-is_empty.false;
      occupied = λ told q is. absurd (cc);
      never = λ told q is. absurd (cc);
      asked = asked_after looked.steady looked.armings (λ fused. (looked.unfailing fused).unarmed)
          (asked_after made.asked.steady made.asked.armings (λ fused. (made.asked.unfailing fused).unarmed)
          (looked_then _ (λ r is. absurd (cc)) opens.looked).asked);
    }
