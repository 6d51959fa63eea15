use Rattle.std.proofs.Common.{◌≡◌, ℕ, ◌+◌, ◌-◌, ◌<◌, List, length, get_or, subst, sym, ap, ◌∙◌, arith}
use Rattle.std.specs.Prelude.{Err, slice_set, IsErrOf}
use Rattle.std.proofs.lemmas.List.{get_or-set_same}
use Rattle.std.proofs.lemmas.Result.{err_from_is_err_and}
use Rattle.ficus_opening.proofs.check.Owning.{holds_same}
use Rattle.ficus_disk.specs.declared.disk.Disk.{Ghosts as Disk}
use Rattle.ficus_disk.specs.declared.pair.Pair.{Pair}
use Rattle.ficus_ids.specs.Members.{IsMember}
use Rattle.ficus_keeper.specs.declared.keep.Keep.{Ghosts as Keep}
use Rattle.ficus_runs.specs.Numbered.{IsNumbered}
use Rattle.ficus_opening.specs.Disks.{are_fused}
use Rattle.ficus_opening.specs.Calls.{OpensNext}
use Rattle.ficus_opening.specs.Opening.{DisksLooked, IsBad}
use Rattle.ficus_opening.specs.Rests.{OthersStay}
use Rattle.ficus_opening.specs.declared.fault.WorldFault.TheVariants.{Image, Memory, Occupied, Store}
use Rattle.ficus_opening.specs.declared.fault.WorldFault.{WorldFault}
use Rattle.ficus_opening.specs.declared.opening.Opened.{Opened}
use Rattle.ficus_opening.specs.declared.member.Member.{Member as MemberValue}
use Rattle.ficus_opening.proofs.Faults.{same_err, same_image}
use Rattle.ficus_opening.proofs.Openings.{held_of, more_opened, none_held, none_may, one_more, opened_more}
use Rattle.ficus_opening.proofs.Steadies.{number_at}
use Rattle.ficus_opening.proofs.Others.{others_one}
use Rattle.ficus_opening.proofs.Asking.{err_as, looked_err, looked_one, looked_then, never_store}
use Rattle.ficus_opening.proofs.opening.open_next.Goals as goal

-- of all pairs that of the next member is opened
record IsNext {D : Type 0} (disks : List (Pair D)) (index number : ℕ) (before after : Pair D) : Type 0 where
  pub place : index + 1 ≡ number
  pub within : index < length disks
  pub at : IsNumbered disks number before
  pub others : OthersStay number disks (slice_set disks index after)

is_next : {D : Type 0} (disks : List (Pair D)) (from number : ℕ) (before after : Pair D) → from ≡ number
    → IsMember (length disks) number → before ≡ get_or disks (from - 1) before
    → IsNext disks (from - 1) number before after
is_next disks from number before after same member is =
    let place : from - 1 + 1 ≡ number = omega (arith, same, member.at_least) in
    let within : from - 1 < length disks = omega (arith, same, member.at_least, member.at_most) in
    record {
      place = place;
      within = within;
      at = subst (λ k. IsNumbered disks k before) place (number_at disks (from - 1) before within is);
      others = others_one number disks (from - 1) after (omega (arith, place));
    }

-- a fault is told
unopened : {K D : Type 0} {keep : Keep K} {disk : Disk D} {number : ℕ} {fault : WorldFault} {was now : Opened K}
    {old new : List (Pair D)}
    → (disk.tells → (r : ℕ) → IsErrOf {T = Unit {0}} (Err fault) (Image r)
    → (r ≡ number) × IsBad keep.kept disk.seen old r)
    → ((r : ℕ) → IsErrOf {T = Unit {0}} (Err fault) (Occupied r) → ⊥) → OthersStay number old new
    → ((r : ℕ) → IsErrOf {T = Unit {0}} (Err fault) (Store r) → r ≡ number)
    → DisksLooked {A = Unit {0}} disk (Err fault) old new
    → OpensNext {A = Unit {0}} keep disk number (Err fault) was now old new
unopened image never others named looked = record {
  opened = tt;
  members = tt;
  image = image;
  never = never;
  others = others;
  named = named;
  looked = looked;
}

pub returns-in_err-stable : goal.returns-in_err-stable
returns-in_err-stable g c =
    let given = err_from_is_err_and c.from_residual.result c.from_residual.ensures.1 in
    let fault = c.in_err-stable.field-0.0 in
    let opens = c.in_err-stable.ensures in
    let disks = c.args.disks.now.items in
    let pair = c.index_mut.result.now in
    let next = is_next disks c.from-index.result c.args.number pair c.open_one.new.pair c.from-index.ensures
    c.requires.pair c.index_mut.ensures.value in
    rw (given.1, given.2)
    (unopened
    (λ tells r is.
    let found = opens.image tells r (err_as fault (Image r) is) in (
      found.0,
      subst (IsBad g.K.Keep.kept g.D.Disk.seen disks) (sym found.0)
          (none_held g.K.Keep.kept g.D.Disk.seen disks c.args.number pair next.at found.1),
    ))
    (λ r is. opens.never r (err_as fault (Occupied r) is)) next.others
    (λ r is. (opens.looked.asked.failed r (err_as fault (Store r) is)).0)
    (looked_one disks (c.from-index.result - 1) c.args.number pair c.open_one.new.pair next.place next.within
    c.index_mut.ensures.value (looked_err fault opens.looked)))

pub returns-then-not-is_of_their_volume : goal.returns-then-not-is_of_their_volume
returns-then-not-is_of_their_volume g c =
    let disks = c.args.disks.now.items in
    let pair = c.index_mut.result.now in
    let opened = c.args.opened.now in
    let read = c.in_ok-stable.field-0.saved in
    let next = is_next disks c.from-index.result c.args.number pair c.open_one.new.pair c.from-index.ensures
    c.requires.pair c.index_mut.ensures.value in
    unopened
    (λ tells r is.
    let number = same_image c.args.number r (same_err {T = Unit {0}} _ _ is) in
    let held =
    held_of g.K.Keep g.D.Disk opened disks c.requires.before tells in
    let holds =
    holds_same g.K.Keep.kept g.D.Disk.seen pair c.open_one.new.pair read (c.open_one.ensures.looked.same tells)
    (c.in_ok-stable.ensures.ready tells).holds in
    let bad =
    none_may g.K.Keep.kept g.D.Disk.seen opened.members.items disks c.requires.before.opened held c.one_saved.ensures
    c.args.number pair read next.at holds c.requires.next c.is_of_their_volume.result
    c.if-not-is_of_their_volume.true (λ none. c.is_of_their_volume.ensures.first (c.deref.ensures.value ∙ none))
    (λ first one. c.is_of_their_volume.ensures.behind first
    (subst (λ (l : List MemberValue). IsNumbered l 1 first) (sym c.deref.ensures.value) one)) in
    (sym number, subst (IsBad g.K.Keep.kept g.D.Disk.seen disks) number bad))
    (λ r is. absurd (cc)) next.others (λ r is. absurd (cc))
    (looked_one disks (c.from-index.result - 1) c.args.number pair c.open_one.new.pair next.place next.within
    c.index_mut.ensures.value (looked_then _ (never_store (Image c.args.number) tt) c.in_ok-stable.ensures.looked))

pub returns-in_err-enter : goal.returns-in_err-enter
returns-in_err-enter g c =
    let given = err_from_is_err_and c.from_residual-in_err-enter.result c.from_residual-in_err-enter.ensures.1 in
    let disks = c.args.disks.now.items in
    let pair = c.index_mut.result.now in
    let next = is_next disks c.from-index.result c.args.number pair c.open_one.new.pair c.from-index.ensures
    c.requires.pair c.index_mut.ensures.value in
    rw (given.1, given.2)
    (unopened (λ tells r is. absurd (cc)) (λ r is. absurd (cc)) next.others (λ r is. absurd (cc))
    (looked_one disks (c.from-index.result - 1) c.args.number pair c.open_one.new.pair next.place next.within
    c.index_mut.ensures.value (looked_then _ (never_store Memory tt) c.in_ok-stable.ensures.looked)))

pub returns : goal.returns
returns g c =
    let disks = c.args.disks.now.items in
    let opened = c.args.opened.now in
    let read = c.in_ok-stable.field-0.saved in
    let entered = c.in_ok-enter.ensures in
    let after = c.open_one.new.pair in
    let next = is_next disks c.from-index.result c.args.number c.index_mut.result.now after c.from-index.ensures
    c.requires.pair c.index_mut.ensures.value in
    record {
      opened =
          more_opened g.K.Keep g.D.Disk opened c.enter.new.opened disks (c.from-index.result - 1) read
          c.is_fused-fused.result c.in_ok-stable.field-0.stable after c.requires.before
          (omega (arith, c.from-index.ensures, c.requires.next)) entered.members entered.stables
          (c.is_fused-fused.ensures
          ∙ ap (λ (p : Pair g.row.D.Denot). are_fused g.D.Disk.armings p)
          (c.index.ensures
          ∙ get_or-set_same disks (c.from-index.result - 1) after c.index.result.now
          (omega (arith, c.from-index.ensures, c.requires.pair.at_least, c.requires.pair.at_most))))
          c.in_ok-stable.ensures.ready
          (rw entered.members
          (opened_more opened.members.items read c.is_fused-fused.result c.args.number c.requires.next
          c.requires.before.opened c.in_ok-stable.ensures.fits c.in_ok-stable.ensures.own
          (λ first one. (c.is_of_their_volume.ensures.behind first
          (subst (λ (l : List MemberValue). IsNumbered l 1 first) (sym c.deref.ensures.value) one)).0
          c.if-not-is_of_their_volume.false)));
      members = rw entered.members (one_more opened.members.items _);
      image = λ tells r is. absurd (cc);
      never = λ r is. absurd (cc);
      others = next.others;
      named = λ r is. absurd (cc);
      looked = looked_one disks (c.from-index.result - 1) c.args.number c.index_mut.result.now after next.place next.within
          c.index_mut.ensures.value (looked_then _ (λ r is. absurd (cc)) c.in_ok-stable.ensures.looked);
    }
