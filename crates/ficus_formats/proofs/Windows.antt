-- What stands in front once an array was written over part of a window.
use Rattle.std.proofs.Common.{◌≡◌, ◌+◌, ◌≤◌, ◌++◌, ◌∙◌, ℕ, List, refl, ap, sym, arith, length, take}
use Rattle.std.proofs.Math.Seq.{take-append-add}
use Rattle.std.proofs.lemmas.List.{length-take, take-take}
use Rattle.std.proofs.lemmas.Slice.{take-put_mid}
use borrow.Rule.Slice.PartMut.{put_mid}

-- of what was written from a place on, the front stands behind what was there before
pub front_written : {X : Type 0} (at size count : ℕ) (was array : List X) → at ≤ length was →
    count ≤ length array → take (at + count) (put_mid at size was array) ≡ take at was ++ take count array
front_written at size count was array within front =
    let long : length (take at was) ≡ at = omega (arith, length-take at was) in
    sym (take-take (at + count) (at + length array) (put_mid at size was array) (omega arith))
    ∙ ap (take (at + count)) (take-put_mid at size was array (at + length array) refl within)
    ∙ ap (λ (n : ℕ). take (n + count) (take at was ++ array)) (sym long)
    ∙ take-append-add (take at was) array count
