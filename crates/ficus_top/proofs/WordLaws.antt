-- What words name.
use Rattle.std.proofs.Common.{◌≡◌, List, Option, Some, None, Result, Ok, Err, sym, ap, ◌∙◌}
use Rattle.std.specs.Prelude.{IfNone, IfOk, String, option_map, string_bytes}
use Rattle.std.specs.declared.alloc.Global.{Global}
use Rattle.ficus_words.specs.Grammar.{Text}
use Rattle.ficus_words.specs.Mode.{AreNoWords, AreWords}
use Rattle.ficus_words.specs.declared.mode.Mode.{Mode}
use Rattle.ficus_words.proofs.OneMode.{one_mode}
use Rattle.ficus_top.specs.Words.{NameRoot, root_in}

-- where the words are of a mode without a place, or of none, they name no place
pub none_in : {words : List Text} (mode : Mode) → AreWords words mode → root_in mode ≡ None → (place : Text)
    → NameRoot words place → ⊥
none_in {words} mode are none place named =
    absurd (cc (sym none ∙ ap root_in (one_mode words mode named.0 are named.1) ∙ named.2))

pub none_named : {words : List Text} → AreNoWords words → (place : Text) → NameRoot words place → ⊥
none_named none place named = none named.0 named.1

-- so where no place was found in the mode
pub none_found : {E : Type 0} {words : List Text} (mode : Mode) (result : Result (Option (String Global)) E)
    → AreWords words mode → IfOk result (λ root. option_map string_bytes root ≡ root_in mode)
    → IfOk result (λ root. IfNone root ((place : Text) → NameRoot words place → ⊥))
none_found mode (Ok None) are found = none_in mode are (sym found)
none_found mode (Ok (Some root)) are found = tt
none_found mode (Err fault) are found = tt
