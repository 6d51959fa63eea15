-- Where nothing is done, all is as before.
use Rattle.std.proofs.Common.{inl, ◌≤◌, ◌⊎◌, ℕ, List, refl, arith}
use Rattle.ficus_disk.specs.declared.disk.Disk.{Ghosts as Disk}
use Rattle.ficus_disk.specs.declared.pair.Pair.{Pair}
use Rattle.ficus_keeper.specs.Calls.{AreAsBefore}
use Rattle.ficus_keeper.specs.Moments.{LeavesOnly}
use Rattle.ficus_keeper.proofs.Moments.{spans_none}

leaves_none : (now : ℕ) (since : ℕ → List ℕ → Type 0) (may_leave : List ℕ → Type 0)
    → LeavesOnly now now since since may_leave
leaves_none now since may_leave = record { later = omega arith; nothing_else = λ t c le left. inl left }

pub as_before : {D : Type 0} (disk : Disk D) (pair : Pair D) → AreAsBefore disk pair pair
as_before disk pair = record {
  keeps = record {
    same = λ told. record { a = refl; b = refl };
    crash = record { a = λ c left. left; b = λ c left. left };
    moments = record { a = leaves_none _ _ _; b = leaves_none _ _ _ };
    spans = λ told. record { a = spans_none _ _; b = spans_none _ _ };
  };
  spares = record {
    steady = record { a = refl; b = refl };
    armings = record { a = refl; b = refl };
    fuses = λ told. record { fuses = refl; image_a = λ pick. refl; image_b = λ pick. refl };
  };
}
