-- What words spell, word by word.
use Rattle.std.proofs.Common.{◌≡◌, ◌&&◌, Bool, true, false, not, List, [], ◌∷◌, ◌++◌, Option, Some, None, refl}
use Rattle.std.specs.Prelude.{◌==◌, if◌then◌else◌, option_map}
use Rattle.std.specs.List.{list_any}
use Rattle.std.specs.Str.{bytes_eq}
use Rattle.clap.specs.Lexer.{long_of}
use Rattle.ficus_words.specs.Grammar.{Text, Use, option_names}

abbrev pub is_option : Text → Bool
is_option name = list_any (λ known. bytes_eq known name) option_names

abbrev pub is_value : Text → Bool
is_value [] = true
is_value (byte ∷ []) = true
is_value (byte ∷ next ∷ rest) = not (byte == 45)

abbrev pub also : Use → Option (List Use) → Option (List Use)
also first uses = option_map (λ more. first ∷ more) uses

-- the uses of words that all go to places
abbrev pub placed_uses : List Text → List Text → Option (List Use)
placed_uses places [] = Some []
placed_uses [] (word ∷ words) = None
placed_uses (place ∷ places) (word ∷ words) = also (place, word) (placed_uses places words)

-- a value goes to the first free place, and `next` gives the uses behind it
abbrev pub at_place : List Text → Text → (List Text → Option (List Use)) → Option (List Use)
at_place [] value next = None
at_place (place ∷ places) value next = also (place, value) (next places)

-- `--name`, which waits for its value, or `--name=value`; `next` gives the uses behind it
abbrev pub at_name : Text → Option Text → (Option Text → Option (List Use)) → Option (List Use)
at_name name None next = next (Some name)
at_name name (Some value) next = also (name, value) (next None)

abbrev pub at_option : Option (Text × Option Text) → (Option Text → Option (List Use)) → Option (List Use)
at_option None next = None
at_option (Some long) next = if is_option long.0 then at_name long.0 long.1 next else None

-- The uses that the words spell, where maybe an option waits for its value, and these places are free: nothing where
-- they spell none.
abbrev pub spelled_uses : Option Text → List Text → List Text → Option (List Use)
spelled_uses None places [] = Some []
spelled_uses (Some name) places [] = None
spelled_uses (Some name) places (word ∷ words) =
    if is_value word then also (name, word) (spelled_uses None places words) else None
spelled_uses None places (word ∷ words) =
    if is_value word then at_place places word (λ left. spelled_uses None left words)
    else if bytes_eq word (45 ∷ 45 ∷ []) then placed_uses places words
    else at_option (long_of word) (λ waiting. spelled_uses waiting places words)

abbrev pub has_use : Text → List Use → Bool
has_use name uses = list_any (λ one. bytes_eq one.0 name) uses

-- no name has two uses, nor one that it had before
abbrev pub are_distinct : List Use → List Use → Bool
are_distinct before [] = true
are_distinct before (one ∷ uses) = not (has_use one.0 before) && are_distinct (before ++ one ∷ []) uses

-- ---- the first word

pub spelled_value : (places : List Text) (word : Text) (words : List Text) → is_value word ≡ true →
    spelled_uses None places (word ∷ words) ≡ at_place places word (λ left. spelled_uses None left words)
spelled_value places word words is = rw is refl

pub spelled_end : (places : List Text) (word : Text) (words : List Text) → is_value word ≡ false →
    bytes_eq word (45 ∷ 45 ∷ []) ≡ true → spelled_uses None places (word ∷ words) ≡ placed_uses places words
spelled_end places word words other ends = rw (other, ends) refl

pub spelled_option : (places : List Text) (word : Text) (words : List Text) (long : Option (Text × Option Text)) →
    is_value word ≡ false → bytes_eq word (45 ∷ 45 ∷ []) ≡ false → long_of word ≡ long →
    spelled_uses None places (word ∷ words) ≡ at_option long (λ waiting. spelled_uses waiting places words)
spelled_option places word words long other no_end is = rw (other, no_end, is) refl

pub spelled_waiting : (name : Text) (places : List Text) (word : Text) (words : List Text) → is_value word ≡ true →
    spelled_uses (Some name) places (word ∷ words) ≡ also (name, word) (spelled_uses None places words)
spelled_waiting name places word words is = rw is refl
