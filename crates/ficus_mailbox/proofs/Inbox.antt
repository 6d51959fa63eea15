-- Files by their places.
use Rattle.std.proofs.Common.{◌≡◌, ℕ, ◌<◌, List, length, get_or, refl, sym, subst}
use Rattle.std.specs.Prelude.{IfSome, slice_get}
use Rattle.std.proofs.lemmas.Option.{slice_get_read}
use Rattle.ficus_mailbox.specs.declared.letter.Filed.{Filed}

-- what holds of the file in a place
pub at_place : (P : Filed → Type 0) (inbox : List Filed) (place : ℕ) (it : Filed) → place < length inbox →
    it ≡ get_or inbox place it → P it → IfSome (slice_get inbox place) P
at_place P inbox place it within is holds =
    subst (λ o. IfSome o P) (sym (slice_get_read inbox (length inbox) place it refl within is)) holds
