-- The mode `check`: what the disks of each replica hold is judged, and told.
use Rattle.std.specs.Prelude.{◌≡◌, ◌≢◌, ◌⊎◌, ℕ, List, ◌++◌, length, Result, Ok, Err}
use Rattle.ficus_opening.specs.Check.Judged.{IsJudged}
use Rattle.ficus_opening.specs.Check.Lines.{checked_text}
use Rattle.ficus_opening.specs.declared.check.checked.Checked.{Checked}
use Rattle.ficus_disk.specs.declared.disk.Disk.{Ghosts as Disk}
use Rattle.ficus_disk.specs.declared.pair.Pair.{Pair}
use Rattle.ficus_top.specs.Summary.Keeper.{kept_in}
use Rattle.ficus_runs.specs.Numbered.{IsNumbered}
use Rattle.ficus_loop.specs.Puts.{PutsFront}
use Rattle.ficus_opening.specs.Rests.{AllRest}
use Rattle.ficus_opening.specs.Opening.{IsAtFault, SeenSame, Steady}
use Rattle.ficus_opening.specs.declared.fault.WorldFault.{WorldFault}
use Rattle.ficus_opening.specs.declared.fault.WorldFault.TheVariants.{Image, Memory, Occupied, Store}
use Rattle.ficus_top.specs.Ends.{NoneFailed}
use Rattle.ficus_top.specs.Seen.{Seen, SinkFailed, disks_after, disks_before, put_after, put_before}
use Rattle.ficus_top.specs.declared.status.Status.{Status}

abbrev pub IsCheckCode : ℕ → Type 0
IsCheckCode code = (code ≡ 0) ⊎ (code ≡ 3) ⊎ (code ≡ 5) ⊎ (code ≡ 6)

module _ {D : Type 0} where
  -- each pair is judged to be this, as far as the disks tell what they hold
  pub record AreJudged (tells : Type 0) (seen : D → List ℕ) (disks : List (Pair D)) (judgements : List Checked) :
      Type 0 where
    pub counted : length judgements ≡ length disks
    pub each : tells → (r : ℕ) (pair : Pair D) (told : Checked) → IsNumbered disks r pair
        → IsNumbered judgements r told → IsJudged kept_in seen r pair told

  -- the lines of all pairs were put, or a front of them
  pub record PutsJudgements (tells : Type 0) (seen : D → List ℕ) (disks : List (Pair D)) (old new : List ℕ) :
      Type 0 where
    pub judgements : List Checked
    pub judged : AreJudged tells seen disks judgements
    pub put : new ≡ old ++ checked_text judgements

  pub record PutsJudgementsFront (tells : Type 0) (seen : D → List ℕ) (disks : List (Pair D)) (old new : List ℕ) :
      Type 0 where
    pub judgements : List Checked
    pub judged : AreJudged tells seen disks judgements
    pub put : PutsFront old (checked_text judgements) new

  -- nothing is written, what a read of each disk gives stays, over disks that tell that, and none is armed
  pub record StaysUnwritten (disk : Disk D) (old new : List (Pair D)) : Type 0 where
    pub rests : AllRest disk old new
    pub same : disk.tells → SeenSame disk.seen old new
    pub unarmed : Steady disk.armings old new

  -- of all disks those of the named replica have failed, or none has
  abbrev pub FailsAs : {T : Type 0} → (D → ℕ) → Result T WorldFault → List (Pair D) → List (Pair D) → Type 0
  FailsAs faults (Ok done) old new = Steady faults old new
  FailsAs faults (Err Memory) old new = Steady faults old new
  FailsAs faults (Err (Store r)) old new = IsAtFault faults old new r
  FailsAs faults (Err (Occupied r)) old new = ⊥
  FailsAs faults (Err (Image r)) old new = ⊥

-- Nothing is taken, and nothing written on a disk. With code 0 a line of each of the eight pairs was put, which says
-- what it is judged to be; with code 5 a front of these lines; and with codes 3 and 6 nothing, so that all pairs are
-- judged before the first line is put. No disk has failed, unless the code says so. Where no disk and not the sink has
-- failed, all is told, or memory was wanted.
pub record DoesCheck {S K D : Type 0} (seen : Seen S K D) (status : Status) : Type 0 where
  pub codes : IsCheckCode status.code
  pub unread : seen.input.new ≡ seen.input.old
  pub unwritten : StaysUnwritten seen.disk (disks_before seen) (disks_after seen)
  pub unfailed : status.code ≢ 6 → Steady seen.disk.faults (disks_before seen) (disks_after seen)
  pub told : seen.sink.tells → status.code ≡ 0
      → PutsJudgements seen.disk.tells seen.disk.seen (disks_before seen) (put_before seen) (put_after seen)
  pub prefix : seen.sink.tells → status.code ≡ 5
      → PutsJudgementsFront seen.disk.tells seen.disk.seen (disks_before seen) (put_before seen) (put_after seen)
  pub silent : (status.code ≡ 3) ⊎ (status.code ≡ 6) → seen.output.new ≡ seen.output.old
  pub complete : (SinkFailed seen → ⊥) → NoneFailed seen.disk.faults (disks_before seen) (disks_after seen)
      → (status.code ≡ 0) ⊎ (status.code ≡ 3)
