-- The mode `gen`: a script that follows from a number is run, and what it comes to is told.
use Rattle.std.specs.Prelude.{◌≡◌, ◌⊎◌, ℕ, List, ◌++◌}
use Rattle.ficus_top.specs.Summary.Summary.{Summarizes}
use Rattle.ficus_loop.specs.Puts.{PutsFront}
use Rattle.ficus_top.specs.Seen.{Seen, put_before, put_after}
use Rattle.ficus_top.specs.declared.status.Status.{Status}

abbrev pub IsGenCode : ℕ → Type 0
IsGenCode code = (code ≡ 0) ⊎ (code ≡ 3) ⊎ (code ≡ 5)

-- the summary of the script was put, or a front of it
pub record PutsSummary (members seed steps : ℕ) (old new : List ℕ) : Type 0 where
  pub text : List ℕ
  pub summarizes : Summarizes members seed steps text
  pub put : new ≡ old ++ text

pub record PutsSummaryFront (members seed steps : ℕ) (old new : List ℕ) : Type 0 where
  pub text : List ℕ
  pub summarizes : Summarizes members seed steps text
  pub put : PutsFront old text new

-- Nothing is taken, and the disks that were handed in stay as they were. With code 0 the summary of the script was put;
-- with code 5 a front of it; and with code 3 nothing.
pub record DoesGen {S K D : Type 0} (members seed steps : ℕ) (seen : Seen S K D) (status : Status) : Type 0 where
  pub codes : IsGenCode status.code
  pub unread : seen.input.new ≡ seen.input.old
  pub untouched : seen.disks.new ≡ seen.disks.old
  pub told : seen.sink.tells → status.code ≡ 0 → PutsSummary members seed steps (put_before seen) (put_after seen)
  pub prefix : seen.sink.tells → status.code ≡ 5
      → PutsSummaryFront members seed steps (put_before seen) (put_after seen)
  pub silent : status.code ≡ 3 → seen.output.new ≡ seen.output.old
