-- What is so of the rows before an index, and of the one at it, is so of those before the next.
use Rattle.std.specs.Prelude.{◌≡◌, ℕ, ◌+◌, List, take, slice_get, Some, All}
use Rattle.std.proofs.Common.{sym, subst}
use Rattle.std.proofs.lemmas.List.Elements.{All-push}
use Rattle.ficus_mentions.proofs.Kept.{take_next}

pub all_more : {X : Type 0} (P : X → Type 0) (xs : List X) (index : ℕ) (x : X) → slice_get xs index ≡ Some x →
    All P (take index xs) → P x → All P (take (index + 1) xs)
all_more P xs index x at before is =
    subst (All P) (sym (take_next xs index x at)) (All-push P (take index xs) x before is)
