use Rattle.std.proofs.Common.{ℕ, Result, Ok, Err, refl}
use Rattle.ficus_disk.specs.declared.disk.Disk.{Ghosts as Disk}
use Rattle.ficus_disk.specs.declared.pair.Pair.{Pair}
use Rattle.ficus_keeper.specs.declared.keep.Keep.{Ghosts as Keep}
use Rattle.ficus_stable_storage.specs.declared.stable.Recovered.{Recovered}
use Rattle.ficus_opening.specs.Calls.{JudgesPair, OpensMember}
use Rattle.ficus_opening.specs.Check.Judged.{IsEmptyPair, soundness_of}
use Rattle.ficus_opening.specs.Fault.{checked_of}
use Rattle.ficus_opening.specs.declared.fault.WorldFault.{WorldFault}
use Rattle.ficus_opening.specs.declared.fault.WorldFault.TheVariants.{Image, Memory, Occupied, Store}
use Rattle.ficus_opening.proofs.check.Owning.{holds_same}
use Rattle.ficus_opening.proofs.Asking.{asked_ok, looked_err, looked_then}
use Rattle.ficus_opening.proofs.checking.judge.Goals as goal

-- what a check tells of what was opened is so
told_so : {K D : Type 0} (keep : Keep K) (disk : Disk D) (number : ℕ) (old new : Pair D)
    (opened : Result (Recovered K) WorldFault) → OpensMember keep disk number opened old new
    → JudgesPair keep disk number (IsEmptyPair disk.seen old → ⊥) (checked_of opened) old new
told_so keep disk number old new (Ok found) opens = record {
  judged = λ told some. record {
    some = some;
    saved = found.saved;
    fits = opens.fits;
    holds = holds_same keep.kept disk.seen old new found.saved (opens.looked.same told) (opens.ready told).holds;
    own = opens.own;
    says = refl {a = soundness_of found.saved};
  };
  never_occupied = λ r is. absurd (cc);
  never_image = λ r is. absurd (cc);
  looked = looked_then _ (λ r is. absurd (cc)) opens.looked;
}
told_so keep disk number old new (Err (Image r)) opens =
    let looked = opens.looked in
    record {
      judged = λ told some. record { some = some; none = (opens.image told r refl).1 };
      never_occupied = λ q is. absurd (cc);
      never_image = λ q is. absurd (cc);
      looked = record {
        asked = asked_ok (looked.asked.spared (Image r) tt refl) looked.asked.armings
            (λ fused. (looked.asked.unfailing fused).unarmed);
        same = looked.same;
        rests = looked.rests;
      };
    }
told_so keep disk number old new (Err (Occupied r)) opens = absurd (opens.never r refl)
told_so keep disk number old new (Err (Store r)) opens = record {
  judged = λ told some. tt;
  never_occupied = λ q is. absurd (cc);
  never_image = λ q is. absurd (cc);
  looked = looked_err (Store r) opens.looked;
}
told_so keep disk number old new (Err Memory) opens = record {
  judged = λ told some. tt;
  never_occupied = λ q is. absurd (cc);
  never_image = λ q is. absurd (cc);
  looked = looked_err Memory opens.looked;
}

pub returns : goal.returns
returns g c =
    rw c.checked_of.ensures
    (told_so g.K.Keep g.D.Disk c.args.number c.args.pair.now c.open_one.new.pair c.open_one.result c.open_one.ensures)
