-- A text spells one number.
use Rattle.std.proofs.Common.{◌≡◌, ◌∙◌, sym, ap, arith, ℕ, Option, Some, option_map, ◌<◌, ◌^◌, Bor}
use Rattle.std.specs.Fmt.{decimal}
use Rattle.std.proofs.lemmas.Fmt.{decimal_injective}
use Rattle.ficus_words.specs.Given.{IsNumber}
use Rattle.ficus_words.specs.Grammar.{Text}

pub one_number : (text : Option (Bor Text)) (word : Bor Text) (number other least most : ℕ) → number < 2 ^ 32 →
    most < 2 ^ 32 → text ≡ Some word → word.now ≡ decimal number →
    IsNumber least most (option_map (λ (t : Bor Text). t.now) text) other → number ≡ other
one_number text word number other least most fits fits_most is spells asked =
    let same : Some (decimal number) ≡ Some (decimal other) =
    ap (λ t. Some t) (sym spells) ∙ sym (ap (option_map (λ (t : Bor Text). t.now)) is) ∙ asked.spelled in
    decimal_injective number other (omega arith) (omega (arith, asked.at_most)) (cc same)
