-- What a pair holds of its replica's own.
use Rattle.std.proofs.Common.{◌≡◌, ℕ, Bool, false, List, Option, ap₂, subst, sym}
use Rattle.std.specs.Prelude.{◌↔◌, IsTrue}
use Rattle.ficus_disk.specs.declared.pair.Pair.{Pair}
use Rattle.ficus_keeper.specs.Kept.{Kept, found_in}
use Rattle.ficus_keeper.specs.Pairs.{PairSame}
use Rattle.ficus_stable_storage.proofs.leads.Led.{held_at}
use Rattle.ficus_stable_storage.specs.Leads.Holds.{Holds, OneHeld}
use Rattle.ficus_durable_state.specs.declared.saved.Saved.{Saved}
use Rattle.ficus_opening.specs.Check.Judged.{HoldsNoneOf, IsOwn}

pub is_false : (b : Bool) (P : Type 0) → b ≡ false → (IsTrue b ↔ P) → P → ⊥
is_false b P not tells p = let yes = tells.1 p in absurd (cc)

module _ {D : Type 0} (kept : List ℕ → List ℕ → Option Kept) (seen : D → List ℕ) where
  pub holds_same : (one two : Pair D) (saved : Saved) → PairSame seen one two → Holds (found_in kept seen two) saved
      → Holds (found_in kept seen one) saved
  holds_same one two saved same holds = held_at _ _ saved (ap₂ kept (sym same.a) (sym same.b)) holds

  -- what was read is not its own, so nothing that the pair held is
  pub none_own : OneHeld → (old new : Pair D) (r : ℕ) (read : Saved) (answer : Bool) → PairSame seen old new
      → Holds (found_in kept seen new) read → answer ≡ false → IsTrue answer ↔ IsOwn read r
      → HoldsNoneOf kept seen r old
  none_own held old new r read answer same holds refused tells saved fits held_old own =
      is_false answer (IsOwn read r) refused tells
      (subst (λ (s : Saved). IsOwn s r)
      (held (found_in kept seen old) saved read held_old (holds_same old new read same holds)) own)
