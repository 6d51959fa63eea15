-- What stood in a buffer stays as more is written.
use Rattle.std.proofs.Common.{◌≡◌, ℕ, List, ◌++◌, Result, Ok, Err, ap, ◌∙◌, append_assoc}
use Rattle.std.specs.Prelude.{OnErr}
use Rattle.ficus_formats.specs.Format.{Keeps}

-- where something was written first, what stood before it stays too
keeps_behind : (before middle after written : List ℕ) → middle ≡ before ++ written → Keeps middle after →
    Keeps before after
keeps_behind before middle after written first kept = record {
  more = written ++ kept.more;
  is = kept.is ∙ ap (λ front. front ++ kept.more) first ∙ append_assoc before written kept.more;
}

-- so it does where the next call fails
pub kept_behind : {T E : Type 0} (result : Result T E) (before middle after written : List ℕ) →
    middle ≡ before ++ written → Keeps middle after → OnErr result (Keeps before after)
kept_behind (Ok done) before middle after written first kept = tt
kept_behind (Err fault) before middle after written first kept = keeps_behind before middle after written first kept
