-- What a run tells of the disks, by what became of the volume that it was to open or to make.
use Rattle.std.proofs.Common.{◌≡◌, ℕ, List, length, Result, Ok, Err, refl, subst, ◌∙◌, inr}
use Rattle.std.specs.Prelude.{IfErr, IsErrOf}
use Rattle.ficus_disk.specs.declared.disk.Disk.{Ghosts as Disk}
use Rattle.ficus_disk.specs.declared.pair.Pair.{Pair}
use Rattle.ficus_loop.proofs.Places.{not_occupied}
use Rattle.ficus_opening.specs.Calls.{MakesVolume}
use Rattle.ficus_opening.specs.Rests.{AllRest, OthersStay}
use Rattle.ficus_opening.specs.declared.fault.WorldFault.{WorldFault}
use Rattle.ficus_opening.specs.declared.fault.WorldFault.TheVariants.{Image, Memory, Occupied, Store}
use Rattle.ficus_opening.proofs.Others.{all_others_rest, others_then, stay_rests}
use Rattle.ficus_opening.proofs.Rests.{all_rest_none}
use Rattle.ficus_opening.proofs.Steadies.{steady_none}
use Rattle.ficus_top.specs.Summary.Keeper.{Keeper, keeper}
use Rattle.ficus_world.specs.Calls.{OpensWorld}
use Rattle.ficus_world.specs.World.{Backed}
use Rattle.ficus_top.specs.Ending.{IsAnswering, IsIdle, IsInterruption, IsOfRunning}
use Rattle.ficus_top.specs.Storing.{TellsOfMaking, TellsOfOpening}
use Rattle.ficus_top.specs.declared.fault.Fault.{Fault}
use Rattle.ficus_top.specs.declared.fault.Fault.TheVariants.{Words, Reading, Storing, Answering}
use Rattle.ficus_top.specs.declared.fault.ReadingFault.{ReadingFault}
use Rattle.ficus_top.proofs.Stored.{handed_on, if_idle, said_of, told_on}

module _ {Done : Type 0} where
  -- a run that came to answering tells no fault of the disks
  no_storing : (ended : Result Done Fault) → IfErr ended IsAnswering → (fault : WorldFault)
      → IsErrOf ended (Storing fault) → ⊥
  no_storing (Ok done) answering fault is = cc
  no_storing (Err (Words other)) answering fault is = answering
  no_storing (Err (Reading other)) answering fault is = answering
  no_storing (Err (Storing other)) answering fault is = answering
  no_storing (Err (Answering other)) answering fault is = cc

  never_idle : (P : Type 0) (ended : Result Done Fault) → IfErr ended IsAnswering
      → IfErr ended (λ fault. IsIdle fault → P)
  never_idle P (Ok done) answering = tt
  never_idle P (Err (Words other)) answering = absurd answering
  never_idle P (Err (Reading other)) answering = absurd answering
  never_idle P (Err (Storing other)) answering = absurd answering
  never_idle P (Err (Answering other)) answering = λ idle. absurd idle

  -- and a run over a volume that was opened finds no disk occupied
  none_occupied : (ended : Result Done Fault) → IfErr ended IsOfRunning → (r : ℕ)
      → IsErrOf ended (Storing (Occupied r)) → ⊥
  none_occupied (Ok done) running r is = cc
  none_occupied (Err (Words fault)) running r is = running
  none_occupied (Err (Reading fault)) running r is = running
  none_occupied (Err (Storing (Occupied q))) running r is = running
  none_occupied (Err (Storing Memory)) running r is = cc
  none_occupied (Err (Storing (Store q))) running r is = cc
  none_occupied (Err (Storing (Image q))) running r is = cc
  none_occupied (Err (Answering fault)) running r is = cc

  -- nor does one that something interrupts
  interrupted : (fault : Fault) → IsInterruption fault → (r : ℕ)
      → IsErrOf {T = Done} (Err fault) (Storing (Occupied r)) → ⊥
  interrupted (Words fault) interrupts r is = interrupts
  interrupted (Reading fault) interrupts r is = cc
  interrupted (Storing (Occupied q)) interrupts r is = interrupts
  interrupted (Storing Memory) interrupts r is = cc
  interrupted (Storing (Store q)) interrupts r is = cc
  interrupted (Storing (Image q)) interrupts r is = interrupts
  interrupted (Answering fault) interrupts r is = interrupts

  module _ {D : Type 0} (disk : Disk D) where
    -- where the script wasn't read, or something else interrupts, nothing may be asked of the disks
    pub opening_unread : (fault : ReadingFault) (disks : List (Pair D))
        → TellsOfOpening {Done = Done} disk (Err (Reading fault)) disks disks
    opening_unread fault disks = record {
      rests = λ idle. all_rest_none disk disks;
      pairs = refl;
      failed = λ r is. absurd (cc is);
      image = λ tells r is. absurd (cc is);
      image_comes = λ tells r bad. inr tt;
      never_image = λ tells volume H stands r is. cc is;
      earlier = λ tells q r is bad. absurd (cc is);
      member = λ tells r is first opens. absurd (cc is);
      others = λ tells first opens. all_others_rest disk first.members disks disks (all_rest_none disk disks);
      spared = λ other unfailed is. absurd (cc is);
    }

    pub making_unasked : (members : ℕ) (fault : Fault) → IsInterruption fault → (disks : List (Pair D))
        → TellsOfMaking {Done = Done} disk members (Err fault) disks disks
    making_unasked members fault interrupts disks = record {
      occupied = λ tells r is. absurd (interrupted fault interrupts r is);
      occupied_comes = λ tells r within first. inr interrupts;
      held = λ tells r within first. steady_none disk.seen disks;
      rests = λ tells r within first. all_rest_none disk disks;
    }

    module _ {old mid new : List (Pair D)} (ended : Result Done Fault) where
      -- where the world was opened no fault of the disks is told
      pub opening_answered : {opened : Backed Keeper} {faults total : ℕ} → IfErr ended IsAnswering
          → OpensWorld keeper disk faults total (Ok opened) old mid
          → OthersStay (length opened.whole.members) mid new → length new ≡ length mid
          → TellsOfOpening disk ended old new
      opening_answered {opened} answering opens others pairs = record {
        rests = never_idle (AllRest disk old new) ended answering;
        pairs = pairs ∙ opens.pairs;
        failed = λ r is. absurd (no_storing ended answering (Store r) is);
        image = λ tells r is. absurd (no_storing ended answering (Image r) is);
        image_comes = λ tells r bad. absurd (opens.image_comes tells r bad);
        never_image = λ tells volume H stands r is. no_storing ended answering (Image r) is;
        earlier = λ tells q r is bad. absurd (no_storing ended answering (Store q) is);
        member = λ tells r is first at. absurd (no_storing ended answering (Store r) is);
        others = λ tells first at.
            stay_rests disk first.members old new
            (subst (λ (n : ℕ). OthersStay n old new) (opens.counted tells first at)
            (others_then (length opened.whole.members) old mid new opens.others others));
        spared = λ fault unfailed is. absurd (no_storing ended answering fault is);
      }

      -- where the volume was made no disk of a member held anything
      pub making_behind : {done : Unit {0}} {members ids bytes : ℕ} → IfErr ended IsOfRunning
          → MakesVolume keeper disk members ids bytes (Ok done) old mid → TellsOfMaking disk members ended old new
      making_behind running makes = record {
        occupied = λ tells r is. absurd (none_occupied ended running r is);
        occupied_comes = λ tells r within first. absurd (not_occupied (makes.empty tells) first within);
        held = λ tells r within first. absurd (not_occupied (makes.empty tells) first within);
        rests = λ tells r within first. absurd (not_occupied (makes.empty tells) first within);
      }

module _ {T D : Type 0} (disk : Disk D) {old new : List (Pair D)} where
  -- a volume that wasn't opened, or wasn't made, is told of by the run
  pub opening_handed : {faults total : ℕ} (opened : Result (Backed Keeper) WorldFault) (result : Result T Fault)
      (fault : WorldFault) (given : Fault) → opened ≡ Err fault → result ≡ Err given → given ≡ Storing fault
      → OpensWorld keeper disk faults total opened old new → TellsOfOpening disk result old new
  opening_handed opened result fault given was is from opens = record {
    rests = if_idle result opens.rests;
    pairs = opens.pairs;
    failed = λ r so. opens.failed r (handed (Store r) so);
    image = λ tells r so. opens.image tells r (handed (Image r) so);
    image_comes = λ tells r bad.
        told_on opened result fault given was is from (Image r) (opens.image_comes tells r bad);
    never_image = λ tells volume H stands r so. opens.never_image tells volume H stands r (handed (Image r) so);
    earlier = λ tells q r so bad. opens.earlier tells q r (handed (Store q) so) bad;
    member = λ tells r so first at. opens.member tells r (handed (Store r) so) first at;
    others = λ tells first at. all_others_rest disk first.members old new opens.rests;
    spared = λ other unfailed so. opens.spared other unfailed (handed other so);
  }
    where
      handed : (other : WorldFault) → result ≡ Err (Storing other) → opened ≡ Err other
      handed = handed_on opened result fault given was is from

  pub making_handed : {members ids bytes : ℕ} (made : Result (Unit {0}) WorldFault) (result : Result T Fault)
      (fault : WorldFault) (given : Fault) → made ≡ Err fault → result ≡ Err given → given ≡ Storing fault
      → MakesVolume keeper disk members ids bytes made old new → TellsOfMaking disk members result old new
  making_handed made result fault given was is from makes = record {
    occupied = λ tells r so. makes.occupied tells r (handed_on made result fault given was is from (Occupied r) so);
    occupied_comes = λ tells r within first.
        told_on made result fault given was is from (Occupied r)
        (said_of made (makes.empty tells) (makes.comes tells r first within) first within);
    held = makes.held;
    rests = makes.rests;
  }
