-- Which fault was answered.
use Rattle.std.proofs.Common.{◌≡◌, ℕ, sym, ap, ◌∙◌}
use Rattle.std.specs.Prelude.{Result, Ok, Err, OnOk}
use Rattle.ficus_opening.specs.declared.fault.WorldFault.{WorldFault}
use Rattle.ficus_opening.specs.declared.fault.WorldFault.TheVariants.{Image, Memory, Occupied, Store}

abbrev err_or : {T E : Type 0} → Result T E → E → E
err_or (Ok x) e = e
err_or (Err x) e = x

pub same_err : {T E : Type 0} (one two : E) → ◌≡◌ {A = Result T E} (Err one) (Err two) → one ≡ two
same_err one two same = ap (λ r. err_or r one) same

-- an error that is handed on is the one that was answered
pub handed_on : {S T E : Type 0} (one : Result S E) (two : Result T E) (given fault e : E) → one ≡ Err fault
    → two ≡ Err given → given ≡ fault → two ≡ Err e → one ≡ Err e
handed_on one two given fault e was is same so =
    was ∙ ap (λ x. Err x) (sym same ∙ same_err given e (sym is ∙ so))

abbrev number_in : WorldFault → ℕ
number_in (Occupied r) = r
number_in (Store r) = r
number_in (Image r) = r
number_in Memory = 0

pub same_store : (r q : ℕ) → Store r ≡ Store q → r ≡ q
same_store r q same = ap number_in same

pub same_occupied : (r q : ℕ) → Occupied r ≡ Occupied q → r ≡ q
same_occupied r q same = ap number_in same

pub same_image : (r q : ℕ) → Image r ≡ Image q → r ≡ q
same_image r q same = ap number_in same

-- where one thing holds of what is answered, what follows from it does too
pub where_ok : {T E : Type 0} {P Q : Type 0} (r : Result T E) → OnOk r P → (P → Q) → OnOk r Q
where_ok (Ok x) p follows = follows p
where_ok (Err e) p follows = p
