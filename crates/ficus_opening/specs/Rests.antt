-- Disks on which nothing is written, and those that stay as they are.
use Rattle.std.specs.Prelude.{◌≡◌, ℕ, ◌-◌, ◌<◌, List, length, slice_set}
use Rattle.ficus_disk.specs.declared.disk.Disk.{Ghosts as Disk}
use Rattle.ficus_disk.specs.declared.pair.Pair.{Pair}
use Rattle.ficus_keeper.specs.Moments.{PairLeavesOld, PairSpans}
use Rattle.ficus_keeper.specs.Pairs.{PairLeft, PairWithin}
use Rattle.ficus_runs.specs.Numbered.{IsNumbered}

-- Nothing is written on a pair: at no moment between these two states a crash leaves more than at the first of them.
pub record PairRests {D : Type 0} (disk : Disk D) (old new : Pair D) : Type 0 where
  pub within : PairWithin disk.may_leave old new
  pub leaves : PairLeavesOld disk.moment disk.left_since disk.may_leave old new
  pub spans : disk.tells_moments → PairSpans disk.moment disk.left_since old new

-- of all pairs that of this number is touched alone, and nothing is written on it
pub record RestsAt {D : Type 0} (disk : Disk D) (by : ℕ) (old new : List (Pair D)) : Type 0 where
  pub was : Pair D
  pub is : IsNumbered old by was
  pub now : Pair D
  pub set : new ≡ slice_set old (by - 1) now
  pub rests : PairRests disk was now

-- nothing is written on any pair
pub record AllRest {D : Type 0} (disk : Disk D) (old new : List (Pair D)) : Type 0 where
  pub count : length new ≡ length old
  pub each : (r : ℕ) (was now : Pair D) → IsNumbered old r was → IsNumbered new r now → PairRests disk was now

-- the pairs of no member stay as they are
pub record OthersStay {D : Type 0} (count : ℕ) (old new : List (Pair D)) : Type 0 where
  pub pairs : length new ≡ length old
  pub each : (r : ℕ) (was now : Pair D) → count < r → IsNumbered old r was → IsNumbered new r now → now ≡ was

-- nothing is written on the pairs of no member
pub record OthersRest {D : Type 0} (disk : Disk D) (count : ℕ) (old new : List (Pair D)) : Type 0 where
  pub pairs : length new ≡ length old
  pub each : (r : ℕ) (was now : Pair D) → count < r → IsNumbered old r was → IsNumbered new r now
      → PairRests disk was now

-- what a read of each disk gives now, a crash might have left of it before
pub record AreLeft {D : Type 0} (seen : D → List ℕ) (may_leave : D → List ℕ → Type 0) (old new : List (Pair D)) :
    Type 0 where
  pub count : length new ≡ length old
  pub each : (r : ℕ) (was now : Pair D) → IsNumbered old r was → IsNumbered new r now
      → PairLeft seen may_leave was now
