-- The spelling of an identifier, and that no two identifiers share one.
use Rattle.std.proofs.Common.{◌≡◌, ◌≢◌, ℕ, ◌<◌, ◌^◌, ◌≤◌, All, List, ◌∷◌, ◌++◌, refl, sym, ◌∙◌, ap, arith}
use Rattle.std.proofs.lemmas.Fmt.{decimal_injective}
use Rattle.std.proofs.lemmas.List.Elements.{All-from_get_or, All-append, All-cons}
use Rattle.std.specs.Fmt.{decimal}
use Rattle.ficus_ids.specs.declared.id.Id.{Id}
use Rattle.ficus_ids.specs.Id.{id_text}
use Rattle.ficus_ids.proofs.NumberLaws.{decimal_at}
use Rattle.ficus_path.specs.Path.{IsIssued}
use Rattle.ficus_path.specs.Spelling.{IsEndOr}
use Rattle.ficus_path.proofs.CutLaws.{IsFreeOf, cut_same}

-- a byte that is no digit isn't in a number
pub IsFreeOf-decimal : (s n : ℕ) → n < 2 ^ 64 → s < 48 → IsFreeOf s (decimal n)
IsFreeOf-decimal s n fits low = All-from_get_or (λ byte. byte ≢ s) (decimal n) 0 (λ i h. λ e. omega (arith, decimal_at n fits i h))

-- no slash stands in the spelling of an identifier
pub IsFreeOf-id_text : (id : Id) → IsIssued id → IsFreeOf 47 (id_text id)
IsFreeOf-id_text id issued =
    let P = λ (byte : ℕ). byte ≢ 47 in
    let replica = IsFreeOf-decimal 47 id.replica (omega (arith, issued.to_last)) (omega arith) in
    let number = IsFreeOf-decimal 47 id.number (omega (arith, issued.fits)) (omega arith) in
    All-append P (decimal id.replica) (46 ∷ decimal id.number) replica
    (All-cons P 46 (decimal id.number) (λ e. omega arith) number)

-- an identifier is cut at its point
pub id_text_cut : (front rest : List ℕ) (id : Id) → IsIssued id → IsFreeOf 46 front → IsEndOr 46 rest →
    front ++ rest ≡ id_text id → (front ≡ decimal id.replica) × (rest ≡ 46 ∷ decimal id.number)
id_text_cut front rest id issued free end e =
    cut_same 46 front rest (decimal id.replica) (46 ∷ decimal id.number) free end
    (IsFreeOf-decimal 46 id.replica (omega (arith, issued.to_last)) (omega arith)) refl e

-- an identifier is its two numbers
id_same : (id other : Id) → id.replica ≡ other.replica → id.number ≡ other.number → id ≡ other
id_same id other e f =
    let with_replica = λ (replica : ℕ). let made : Id = record { replica = replica; number = id.number } in made in
    let with_number = λ (number : ℕ). let made : Id = record { replica = other.replica; number = number } in made in
    ap with_replica e ∙ ap with_number f

pub id_text_injective : (id other : Id) → IsIssued id → IsIssued other → id_text id ≡ id_text other → id ≡ other
id_text_injective id other issued also e =
    let parts = id_text_cut (decimal other.replica) (46 ∷ decimal other.number) id issued
    (IsFreeOf-decimal 46 other.replica (omega (arith, also.to_last)) (omega arith)) refl (sym e) in
    let numbers : decimal other.number ≡ decimal id.number = cc in
    id_same id other
    (sym (decimal_injective other.replica id.replica (omega (arith, also.to_last)) (omega (arith, issued.to_last))
    parts.0))
    (sym (decimal_injective other.number id.number (omega (arith, also.fits)) (omega (arith, issued.fits)) numbers))

-- no blank and no control byte stands in the spelling of an identifier
pub decimal_visible : (n : ℕ) → n < 2 ^ 64 → All (λ byte. 33 ≤ byte) (decimal n)
decimal_visible n fits = All-from_get_or (λ byte. 33 ≤ byte) (decimal n) 0 (λ i h. omega (arith, decimal_at n fits i h))

pub id_text_visible : (id : Id) → IsIssued id → All (λ byte. 33 ≤ byte) (id_text id)
id_text_visible id issued =
    let P = λ (byte : ℕ). 33 ≤ byte in
    All-append P (decimal id.replica) (46 ∷ decimal id.number)
    (decimal_visible id.replica (omega (arith, issued.to_last)))
    (All-cons P 46 (decimal id.number) (omega arith) (decimal_visible id.number (omega (arith, issued.fits))))
