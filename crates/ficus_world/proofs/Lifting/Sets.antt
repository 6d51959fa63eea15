-- One of a list that is put in a place once more.
use Rattle.std.proofs.Common.{◌≡◌, ℕ, ◌-◌, List, [], ◌∷◌, Some, zero, suc, length, refl, sym, ap, subst, ◌<◌, arith}
use Rattle.std.specs.Prelude.{slice_get, slice_set}
use Rattle.std.proofs.lemmas.Option.{same_Some}
use Rattle.std.proofs.lemmas.List.{get_or-set_same, length-set}
use Rattle.ficus_ids.specs.Members.{IsMember}
use Rattle.ficus_runs.specs.Numbered.{IsNumbered}
use Rattle.ficus_runs.proofs.Numbers.{number_read}

-- it is the last one that stands there
pub set_again : {A : Type 0} (list : List A) (i : ℕ) (one other : A)
    → slice_set (slice_set list i one) i other ≡ slice_set list i other
set_again [] i one other = refl
set_again (first ∷ list) zero one other = refl
set_again (first ∷ list) (suc i) one other = ap (λ rest. first ∷ rest) (set_again list i one other)

set_found : {A : Type 0} (list : List A) (i : ℕ) (x : A) → slice_get list i ≡ Some x → slice_set list i x ≡ list
set_found [] i x is = refl
set_found (first ∷ list) zero x is = ap (λ y. y ∷ list) (sym (same_Some first x is))
set_found (first ∷ list) (suc i) x is = ap (λ rest. first ∷ rest) (set_found list i x is)

-- what stands there already changes nothing
pub set_same : {A : Type 0} (list : List A) (r : ℕ) (x : A) → IsNumbered list r x → slice_set list (r - 1) x ≡ list
set_same list r x is = set_found list (r - 1) x is.is

-- what is put there stands there
pub number_set : {A : Type 0} (list : List A) (r : ℕ) (x next : A) → IsNumbered list r x
    → IsNumbered (slice_set list (r - 1) next) r next
number_set list r x next is =
    let one = is.member.at_least in
    let most = is.member.at_most in
    let within : r - 1 < length list = omega arith in
    number_read (slice_set list (r - 1) next) r next next
    (subst (λ n. IsMember n r) (sym (length-set list (r - 1) next)) is.member)
    (get_or-set_same list (r - 1) next next within)
