-- The program's keeper, which keeps what each replica saves on its pair of disks. This is the one place that says which
-- keeper it is; whatever stands above cites it from here.
use Rattle.std.specs.Prelude.{ℕ, List, Option}
use Rattle.ficus_keeper.specs.Kept.{Kept}
use Rattle.ficus_keeper.specs.declared.keep.Keep.{Ghosts as Keep}
use Rattle.ficus_journal.specs.Logs as logs
use Rattle.ficus_journal.specs.contracts.journal.JournalKeep
use Rattle.ficus_journal.specs.declared.journal.Journal.{Journal}
use Rattle.ficus_runs.specs.Fuses.{Keeping}

abbrev pub Keeper : Type 0
Keeper = Journal

-- what it promises
abbrev pub keeper : Keep Keeper
keeper = JournalKeep.TheImpl.ghosts

-- what is kept on the disks a and b
abbrev pub kept_in : List ℕ → List ℕ → Option Kept
kept_in = keeper.kept

-- the disks hold what the keeper takes them to hold
abbrev pub Fits : Keeper → List ℕ → List ℕ → Type 0
Fits = keeper.fits

-- what the disks hold this keeper alone wrote
abbrev pub IsRegular : List ℕ → List ℕ → Type 0
IsRegular = keeper.Regular

-- how many calls save a generation, and on which disk it lies
abbrev pub keeping : Keeping
keeping = record { calls = logs.calls_of_journal; is_on_a = logs.lies_on_a }
