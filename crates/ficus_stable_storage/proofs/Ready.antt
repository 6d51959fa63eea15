-- What is ready stays so where the disks are read, or armed.
use Rattle.std.proofs.Common.{◌≡◌, ℕ, List, Option, Result, Ok, Err, sym, ◌∙◌, ap₂, subst}
use Rattle.std.specs.Prelude.{IfOk}
use Rattle.ficus_disk.specs.declared.pair.Pair.{Pair}
use Rattle.ficus_keeper.specs.Kept.{Kept, Settled, found_in}
use Rattle.ficus_keeper.specs.Pairs.{PairSame, PairWithin}
use Rattle.ficus_stable_storage.specs.Leads.Holds.{Holds}
use Rattle.ficus_stable_storage.proofs.leads.Led.{held_at}
use Rattle.ficus_durable_state.specs.declared.saved.Saved.{Saved}
use Rattle.ficus_stable_storage.specs.Stable.{IsReady}
use Rattle.ficus_stable_storage.specs.declared.stable.Recovered.{Recovered}
use Rattle.ficus_stable_storage.specs.declared.stable.Stable.{Stable}

pub still_ready : {K D : Type 0} (kept : List ℕ → List ℕ → Option Kept) (fits : K → List ℕ → List ℕ → Type 0)
    (seen : D → List ℕ) (may_leave : D → List ℕ → Type 0) (stable : Stable K) (pair now : Pair D) (saved : Saved)
    → PairSame seen pair now → PairWithin may_leave pair now → IsReady kept fits seen may_leave stable pair saved
    → IsReady kept fits seen may_leave stable now saved
still_ready kept fits seen may_leave stable pair now saved same within ready = record {
  holds = held_at _ _ saved (ap₂ kept same.a same.b) ready.holds;
  settled = record {
    holds = subst (λ (bytes : List ℕ). fits stable.keeper bytes (seen now.b)) (sym same.a)
        (subst (λ (bytes : List ℕ). fits stable.keeper (seen pair.a) bytes) (sym same.b) ready.settled.holds);
    synced_a = λ bytes leaves. ready.settled.synced_a bytes (within.a bytes leaves) ∙ sym same.a;
    synced_b = λ bytes leaves. ready.settled.synced_b bytes (within.b bytes leaves) ∙ sym same.b;
  };
}

-- what was found is ready, with the keeper that found it
pub ready_found : {K D E : Type 0} (kept : List ℕ → List ℕ → Option Kept) (fits : K → List ℕ → List ℕ → Type 0)
    (seen : D → List ℕ) (may_leave : D → List ℕ → Type 0) (pair : Pair D) (keeper : K) (after : Option Kept)
    (result : Result (Recovered K) E) → found_in kept seen pair ≡ after → Settled fits seen may_leave keeper pair
    → IfOk result (λ found. found.stable.keeper ≡ keeper) → IfOk result (λ found. Holds after found.saved)
    → IfOk result (λ found. IsReady kept fits seen may_leave found.stable pair found.saved)
ready_found kept fits seen may_leave pair keeper after (Ok found) is settled same holds = record {
  holds = held_at _ after found.saved is holds;
  settled = subst (λ k. Settled fits seen may_leave k pair) (sym same) settled;
}
ready_found kept fits seen may_leave pair keeper after (Err e) is settled same holds = same
