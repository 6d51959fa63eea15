-- Words of letters alone.
use Rattle.std.proofs.Common.{◌≡◌, ◌≢◌, ℕ, Bool, true, false, if◌then◌else◌, List, [], ◌∷◌, inl, inr, arith}
use Rattle.std.specs.Prelude.{nat_le}
use Rattle.std.specs.List.{AllByRecursion}
use Rattle.std.proofs.lemmas.Bool.Decides.{leb_tells}
use Rattle.std.proofs.lemmas.List.Elements.{All-from_recursion}
use Rattle.ficus_path.proofs.CutLaws.{IsFreeOf}

-- no byte stands before the letters
abbrev pub are_letters : List ℕ → Bool
are_letters [] = true
are_letters (byte ∷ bytes) = if nat_le 97 byte then are_letters bytes else false

each_free : (bytes : List ℕ) → are_letters bytes ≡ true → AllByRecursion (λ byte. byte ≢ 32) bytes
each_free [] letters = tt
each_free (byte ∷ bytes) letters =
    elim (leb_tells 97 byte) [
      | inl letter ↦ (omega (arith, letter.1), each_free bytes (rw letter.0 at letters))
      | inr other ↦ let clash : false ≡ true = rw other.0 at letters in cc
    ]

-- no space (32) stands among letters
pub letters_free : (bytes : List ℕ) → are_letters bytes ≡ true → IsFreeOf 32 bytes
letters_free bytes letters = All-from_recursion (λ byte. byte ≢ 32) bytes (each_free bytes letters)
