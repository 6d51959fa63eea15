-- Facts of a result, by its variant.
use Rattle.std.proofs.Common.{◌≡◌, true, false, Result, Ok, Err, OnOk, OnErr, is_ok}

pub on_err : {T E P : Type 0} (r : Result T E) → P → OnErr r P
on_err (Ok x) p = tt
on_err (Err e) p = p

pub in_ok : {T E P Q : Type 0} (r : Result T E) → (P → Q) → OnOk r P → OnOk r Q
in_ok (Ok x) f p = f p
in_ok (Err e) f p = tt

pub in_err : {T E P Q : Type 0} (r : Result T E) → (P → Q) → OnErr r P → OnErr r Q
in_err (Ok x) f p = tt
in_err (Err e) f p = f p

pub both_ok : {T E P Q R : Type 0} (r : Result T E) → (P → Q → R) → OnOk r P → OnOk r Q → OnOk r R
both_ok (Ok x) f p q = f p q
both_ok (Err e) f p q = tt

pub of_ok : {T E P : Type 0} (r : Result T E) → OnOk r P → is_ok r ≡ true → P
of_ok (Ok x) p is = p
of_ok (Err e) p is = absurd (cc)

pub of_err : {T E P : Type 0} (r : Result T E) → OnErr r P → is_ok r ≡ false → P
of_err (Ok x) p is = absurd (cc)
of_err (Err e) p is = p
