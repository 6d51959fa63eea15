-- What a system has taken grows by what it takes of the next call.
use Rattle.std.proofs.Common.{◌≡◌, ℕ, List, [], ◌∷◌, ◌++◌, Option, Some, None, Result, Ok, Err, sym, ap, ◌∙◌, append_assoc, append-nil}
use Rattle.std.specs.Prelude.{option_map}
use Rattle.std.specs.Io.KnownBytes.{WriteAppends}
use Rattle.ficus_outside.specs.Told.{IsAsked, Told, Took, Refused, call_of, shown, taken}

shown_more : (calls : List Told) (call : Told) → shown (calls ++ call ∷ []) ≡ shown calls ++ taken call
shown_more [] call = append-nil (taken call)
shown_more (first ∷ calls) call =
    ap (λ (later : List ℕ). taken first ++ later) (shown_more calls call)
    ∙ sym (append_assoc (taken first) (shown calls) (taken call))

pub asked_appends : {E : Type 0} (old new : Option (List Told)) (bytes : List ℕ) (result : Result ℕ E)
    → IsAsked old new (call_of bytes result)
    → WriteAppends (option_map shown old) (option_map shown new) result bytes
asked_appends None new bytes (Ok count) asked = tt
asked_appends None new bytes (Err error) asked = tt
asked_appends (Some calls) None bytes result asked = absurd asked
asked_appends (Some calls) (Some more) bytes (Ok count) asked =
    ap shown asked ∙ shown_more calls (Took bytes count)
asked_appends (Some calls) (Some more) bytes (Err error) asked =
    ap shown asked ∙ shown_more calls (Refused bytes) ∙ append-nil (shown calls)
