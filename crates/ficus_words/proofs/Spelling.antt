-- Words give what they spell word by word, and nothing else.
use Rattle.std.proofs.Common.{◌≡◌, ◌∙◌, ℕ, zero, suc, ◌<◌, ◌≤◌, Bool, true, false, not, List, [], ◌∷◌, ◌++◌, codes, length, take, get_or, Option, Some, None, inl, inr, refl, sym, ap, ap₂, subst, arith, true≢false}
use Rattle.std.specs.Prelude.{◌==◌, Contains}
use Rattle.std.specs.List.{zip, before_first, after_first, position_or_len}
use Rattle.std.specs.Str.{bytes_eq}
use Rattle.std.proofs.Math.Seq.{take-length}
use Rattle.std.proofs.lemmas.Bool.{cases_Bool, eqb-true, ne_eqb}
use Rattle.std.proofs.lemmas.List.Folds.{Any-from_list_any, list_any_at}
use Rattle.std.proofs.lemmas.List.Sums.{split_at_first, passes_at_first}
use Rattle.std.proofs.lemmas.Slice.Eq.{bytes_eq-Decides}
use Rattle.clap.specs.Lexer.{has_byte, long_of, long_of_rest, name_and_value}
use Rattle.ficus_words.specs.Grammar.{Text, Use, IsValue, Spells, option_names}
use Rattle.ficus_words.specs.Grammar.Spells.{Nothing, Alone, Apart, Joined, Ended}
use Rattle.ficus_words.proofs.Uses.{is_option, is_value, also, placed_uses, at_place, at_name, at_option, spelled_uses, spelled_value, spelled_end, spelled_option, spelled_waiting}

-- what a first use and others are
also_some : (first : Use) (others : Option (List Use)) (uses : List Use) → also first others ≡ Some uses →
    (more : List Use) × (others ≡ Some more) × (uses ≡ first ∷ more)
also_some first None uses is = cc
also_some first (Some more) uses is = (more, refl, cc)

-- ---- values

is_value_of : (word : Text) → IsValue word → is_value word ≡ true
is_value_of [] fits = refl
is_value_of (byte ∷ []) fits = refl
is_value_of (byte ∷ next ∷ rest) (inl dash) = cc
is_value_of (byte ∷ next ∷ rest) (inr other) = ap not (ne_eqb byte 45 other)

of_is_value : (word : Text) → is_value word ≡ true → IsValue word
of_is_value [] is = inr (λ same. omega (arith, same))
of_is_value (byte ∷ []) is = elim (cases_Bool (byte == 45)) [
  | inl dash ↦ inl (ap (λ (b : ℕ). b ∷ []) (eqb-true byte 45 dash))
  | inr other ↦ inr (λ same. true≢false (sym (ap (λ b. b == 45) same) ∙ other))
]
of_is_value (byte ∷ next ∷ rest) is = inr (λ same. true≢false (sym is ∙ ap (λ b. not (b == 45)) same))

-- ---- names of options

is_option_of : (name : Text) → Contains option_names name → is_option name ≡ true
is_option_of name known =
    list_any_at (λ other. bytes_eq other name) option_names known.0 name known.1 ((bytes_eq-Decides _ name).1 known.2)

of_is_option : (name : Text) → is_option name ≡ true → Contains option_names name
of_is_option name is =
    let found = Any-from_list_any (λ (other : Text). bytes_eq other name) option_names is in
    let same : found.1 ≡ name = (bytes_eq-Decides found.1 name).0 found.4 in
    subst (Contains option_names) same (found.0, found.2, found.3)

-- a fact of each name of an option
each_option : (P : Text → Type 0) → P (codes "members") → P (codes "ids") → P (codes "bytes") → P (codes "seed") →
    P (codes "steps") → P (codes "volumes") → P (codes "replica") → P (codes "tag") → (name : Text) →
    Contains option_names name → P name
each_option P members ids bytes seed steps volumes replica tag name (at, within, is) = subst P is (go at within)
  where
    go : (k : ℕ) → k < 8 → P (get_or option_names k name)
    go zero lt = members
    go (suc zero) lt = ids
    go (suc (suc zero)) lt = bytes
    go (suc (suc (suc zero))) lt = seed
    go (suc (suc (suc (suc zero)))) lt = steps
    go (suc (suc (suc (suc (suc zero))))) lt = volumes
    go (suc (suc (suc (suc (suc (suc zero)))))) lt = replica
    go (suc (suc (suc (suc (suc (suc (suc zero))))))) lt = tag
    go (suc (suc (suc (suc (suc (suc (suc (suc k)))))))) lt = absurd (omega (arith, lt))

-- how the words of an option look to the lexer
record IsOptionWord (name : Text) : Type 0 where
  no_end : bytes_eq (codes "--" ++ name) (45 ∷ 45 ∷ []) ≡ false
  apart : long_of (codes "--" ++ name) ≡ Some (name, None)
  no_joined_end : (value : Text) → bytes_eq (codes "--" ++ name ++ 61 ∷ value) (45 ∷ 45 ∷ []) ≡ false
  joined : (value : Text) → long_of (codes "--" ++ name ++ 61 ∷ value) ≡ Some (name, Some value)

looks_so : (name : Text) → bytes_eq (codes "--" ++ name) (45 ∷ 45 ∷ []) ≡ false →
    long_of (codes "--" ++ name) ≡ Some (name, None) →
    ((value : Text) → bytes_eq (codes "--" ++ name ++ 61 ∷ value) (45 ∷ 45 ∷ []) ≡ false) →
    ((value : Text) → long_of (codes "--" ++ name ++ 61 ∷ value) ≡ Some (name, Some value)) → IsOptionWord name
looks_so name no_end apart no_joined_end joined =
    record { no_end = no_end; apart = apart; no_joined_end = no_joined_end; joined = joined }

option_word : (name : Text) → Contains option_names name → IsOptionWord name
option_word = each_option IsOptionWord
    (looks_so (codes "members") refl refl (λ v. refl) (λ v. refl))
    (looks_so (codes "ids") refl refl (λ v. refl) (λ v. refl))
    (looks_so (codes "bytes") refl refl (λ v. refl) (λ v. refl))
    (looks_so (codes "seed") refl refl (λ v. refl) (λ v. refl))
    (looks_so (codes "steps") refl refl (λ v. refl) (λ v. refl))
    (looks_so (codes "volumes") refl refl (λ v. refl) (λ v. refl))
    (looks_so (codes "replica") refl refl (λ v. refl) (λ v. refl))
    (looks_so (codes "tag") refl refl (λ v. refl) (λ v. refl))

-- ---- what the lexer takes for an option

abbrev is_equals : ℕ → Bool
is_equals byte = byte == 61

equals_within : (text : Text) → has_byte 61 text ≡ true → position_or_len is_equals text < length text
equals_within [] found = absurd (true≢false (sym found))
equals_within (byte ∷ text) found = elim (cases_Bool (byte == 61)) [
  | inl equals ↦ rw equals (omega arith)
  | inr other ↦ rw other (let more : position_or_len is_equals text < length text = equals_within text (rw other at found) in omega arith)
]

no_equals : (text : Text) → has_byte 61 text ≡ false → position_or_len is_equals text ≡ length text
no_equals [] none = refl
no_equals (byte ∷ text) none = elim (cases_Bool (byte == 61)) [
  | inl equals ↦ absurd (true≢false (rw equals at none))
  | inr other ↦ rw other (let more : position_or_len is_equals text ≡ length text = no_equals text (rw other at none) in omega arith)
]

-- a text is a name, or a name, `=` and a value
abbrev IsNamed : Text → Text → Option Text → Type 0
IsNamed text name None = text ≡ name
IsNamed text name (Some value) = text ≡ name ++ 61 ∷ value

named : (text : Text) → IsNamed text (name_and_value text).0 (name_and_value text).1
named text = elim (cases_Bool (has_byte 61 text)) [
  | inl found ↦
      let lt = equals_within text found in
      let equals : get_or text (position_or_len is_equals text) 0 ≡ 61 = eqb-true _ 61 (passes_at_first is_equals text 0 lt) in
      rw found (split_at_first is_equals text 0 lt
      ∙ ap (λ (b : ℕ). before_first is_equals text ++ b ∷ after_first is_equals text) equals)
  | inr none ↦ rw none (sym (ap (λ n. take n text) (no_equals text none) ∙ take-length text))
]

no_some : {X A : Type 0} (x : X) → None ≡ Some x → A
no_some x none = cc

-- what the lexer takes for the name and the value of an option stands behind `--`
dashed_rest : (name : Text) (value : Option Text) (rest : Text) → long_of_rest rest ≡ Some (name, value) →
    IsNamed rest name value
dashed_rest name value [] is = cc
dashed_rest name value (byte ∷ rest) is =
    let pair : name_and_value (byte ∷ rest) ≡ (name, value) = cc in
    subst (λ (p : Text × Option Text). IsNamed (byte ∷ rest) p.0 p.1) pair (named (byte ∷ rest))

dashed_behind : (name : Text) (value : Option Text) (word : Text) → long_of (45 ∷ word) ≡ Some (name, value) →
    (text : Text) × (word ≡ 45 ∷ text) × IsNamed text name value
dashed_behind name value [] is = cc
dashed_behind name value (byte ∷ rest) is = elim (cases_Bool (byte == 45)) [
  | inr other ↦ no_some (name, value) (rw other at is)
  | inl dash ↦ (rest, ap (λ (b : ℕ). b ∷ rest) (eqb-true byte 45 dash), dashed_rest name value rest (rw dash at is))
]

dashed : (word name : Text) (value : Option Text) → long_of word ≡ Some (name, value) →
    (text : Text) × (word ≡ 45 ∷ 45 ∷ text) × IsNamed text name value
dashed [] name value is = cc
dashed (byte ∷ word) name value is = elim (cases_Bool (byte == 45)) [
  | inr other ↦ no_some (name, value) (rw other at is)
  | inl dash ↦
      let first = eqb-true byte 45 dash in
      let behind = dashed_behind name value word (subst (λ (b : ℕ). long_of (b ∷ word) ≡ Some (name, value)) first is) in
      (behind.0, ap₂ (λ (b : ℕ) (w : Text). b ∷ w) first behind.1, behind.2)
]

apart_word : (word name : Text) → long_of word ≡ Some (name, None) → word ≡ codes "--" ++ name
apart_word word name is =
    let parts = dashed word name None is in
    parts.1 ∙ ap (λ (text : Text). 45 ∷ 45 ∷ text) parts.2

joined_word : (word name value : Text) → long_of word ≡ Some (name, Some value) →
    word ≡ codes "--" ++ name ++ 61 ∷ value
joined_word word name value is =
    let parts = dashed word name (Some value) is in
    parts.1 ∙ ap (λ (text : Text). 45 ∷ 45 ∷ text) parts.2

-- ---- words that all go to places

placed_are : (places words : List Text) (uses : List Use) → placed_uses places words ≡ Some uses →
    (length words ≤ length places) × (uses ≡ zip places words)
placed_are [] [] uses is = (omega arith, cc)
placed_are (place ∷ places) [] uses is = (omega arith, cc)
placed_are [] (word ∷ words) uses is = cc
placed_are (place ∷ places) (word ∷ words) uses is =
    let first = also_some (place, word) (placed_uses places words) uses is in
    let behind = placed_are places words first.0 first.1 in
    (omega (arith, behind.0), first.2 ∙ ap (λ (more : List Use). (place, word) ∷ more) behind.1)

placed_of : (places words : List Text) → length words ≤ length places →
    placed_uses places words ≡ Some (zip places words)
placed_of [] [] fit = refl
placed_of (place ∷ places) [] fit = refl
placed_of [] (word ∷ words) fit = absurd (omega (arith, fit))
placed_of (place ∷ places) (word ∷ words) fit = ap (also (place, word)) (placed_of places words (omega (arith, fit)))

-- ---- both ways

-- behind an option that waits stands its value
record IsApart (name : Text) (places words : List Text) (uses : List Use) : Type 0 where
  value : Text
  behind : List Text
  more : List Use
  split : words ≡ value ∷ behind
  fits : IsValue value
  is : uses ≡ (name, value) ∷ more
  spells : Spells places behind more

abbrev SpellsIdle : List Text → Type 0
SpellsIdle words = (places : List Text) (uses : List Use) → spelled_uses None places words ≡ Some uses →
    Spells places words uses

abbrev SpellsWaiting : List Text → Type 0
SpellsWaiting words = (name : Text) (places : List Text) (uses : List Use) →
    spelled_uses (Some name) places words ≡ Some uses → IsApart name places words uses

as_uses : {places words : List Text} {uses more : List Use} → uses ≡ more → Spells places words more →
    Spells places words uses
as_uses {places} {words} same spells = subst (Spells places words) (sym same) spells

waiting_cons : (word : Text) (words : List Text) → SpellsIdle words → SpellsWaiting (word ∷ words)
waiting_cons word words idle name places uses is = elim (cases_Bool (is_value word)) [
  | inl fits ↦
      let first = also_some (name, word) (spelled_uses None places words) uses (rw fits at is) in
      record {
        value = word;
        behind = words;
        more = first.0;
        split = refl;
        fits = of_is_value word fits;
        is = first.2;
        spells = idle places first.0 first.1;
      }
  | inr other ↦ let none : Some uses ≡ None = sym (rw other at is) in cc
]

alone_cons : (word : Text) (words : List Text) → IsValue word → SpellsIdle words →
    (places : List Text) (uses : List Use) →
    at_place places word (λ left. spelled_uses None left words) ≡ Some uses → Spells places (word ∷ words) uses
alone_cons word words fits idle [] uses is = cc
alone_cons word words fits idle (place ∷ places) uses is =
    let first = also_some (place, word) (spelled_uses None places words) uses is in
    as_uses first.2 (Alone fits (idle places first.0 first.1))

option_cons : (word : Text) (words places : List Text) (uses : List Use) (long : Option (Text × Option Text)) →
    SpellsIdle words → SpellsWaiting words → long_of word ≡ long →
    at_option long (λ waiting. spelled_uses waiting places words) ≡ Some uses → Spells places (word ∷ words) uses
option_cons word words places uses None idle waiting long is = cc
option_cons word words places uses (Some (name, value)) idle waiting long is = elim (cases_Bool (is_option name)) [
  | inr other ↦ let none : Some uses ≡ None = sym (rw other at is) in cc
  | inl known ↦ with_value value long (rw known at is) (of_is_option name known)
]
  where
    with_value : (given : Option Text) → long_of word ≡ Some (name, given) →
        at_name name given (λ waiting. spelled_uses waiting places words) ≡ Some uses → Contains option_names name →
        Spells places (word ∷ words) uses
    with_value None spelled is known =
        let apart = waiting name places uses is in
        subst (λ (behind : List Text). Spells places (word ∷ behind) uses) (sym apart.split)
        (as_uses apart.is (Apart known apart.fits (apart_word word name spelled) apart.spells))
    with_value (Some given) spelled is known =
        let first = also_some (name, given) (spelled_uses None places words) uses is in
        as_uses first.2 (Joined known (joined_word word name given spelled) (idle places first.0 first.1))

idle_cons : (word : Text) (words : List Text) → SpellsIdle words → SpellsWaiting words → SpellsIdle (word ∷ words)
idle_cons word words idle waiting places uses is = elim (cases_Bool (is_value word)) [
  | inl fits ↦ alone_cons word words (of_is_value word fits) idle places uses (sym (spelled_value places word words fits) ∙ is)
  | inr other ↦ elim (cases_Bool (bytes_eq word (45 ∷ 45 ∷ []))) [
    | inl ends ↦
        let placed = placed_are places words uses (sym (spelled_end places word words other ends) ∙ is) in
        Ended ((bytes_eq-Decides word (45 ∷ 45 ∷ [])).0 ends) placed.0 placed.1
    | inr no_end ↦ option_cons word words places uses (long_of word) idle waiting refl
        (sym (spelled_option places word words (long_of word) other no_end refl) ∙ is)
  ]
]

spells_each : (words : List Text) → SpellsIdle words × SpellsWaiting words
spells_each [] = (λ places uses is. let none : uses ≡ [] = cc in as_uses none Nothing, λ name places uses is. cc)
spells_each (word ∷ words) =
    let behind = spells_each words in
    (idle_cons word words behind.0 behind.1, waiting_cons word words behind.0)

-- what the words spell word by word they spell
pub spells_of : (places words : List Text) (uses : List Use) → spelled_uses None places words ≡ Some uses →
    Spells places words uses
spells_of places words uses is = (spells_each words).0 places uses is

-- and the other way round
pub spelled_of : {places words : List Text} {uses : List Use} → Spells places words uses →
    spelled_uses None places words ≡ Some uses
spelled_of Nothing = refl
spelled_of (Alone {place} {value} {places} {words} {uses} fits spells) =
    spelled_value (place ∷ places) value words (is_value_of value fits) ∙ ap (also (place, value)) (spelled_of spells)
spelled_of (Apart {name} {value} {word} {places} {words} {uses} known fits is spells) =
    let look = option_word name known in
    subst (λ (w : Text). spelled_uses None places (w ∷ value ∷ words) ≡ Some ((name, value) ∷ uses)) (sym is)
    (spelled_option places (codes "--" ++ name) (value ∷ words) (Some (name, None)) refl look.no_end look.apart
    ∙ rw (is_option_of name known)
    (spelled_waiting name places value words (is_value_of value fits) ∙ ap (also (name, value)) (spelled_of spells)))
spelled_of (Joined {name} {value} {word} {places} {words} {uses} known is spells) =
    let look = option_word name known in
    subst (λ (w : Text). spelled_uses None places (w ∷ words) ≡ Some ((name, value) ∷ uses)) (sym is)
    (spelled_option places (codes "--" ++ name ++ 61 ∷ value) words (Some (name, Some value)) refl (look.no_joined_end value)
    (look.joined value) ∙ rw (is_option_of name known) (ap (also (name, value)) (spelled_of spells)))
spelled_of (Ended {word} {places} {words} {uses} is fit zipped) =
    subst (λ (w : Text). spelled_uses None places (w ∷ words) ≡ Some uses) (sym is)
    (placed_of places words fit ∙ ap (λ (u : List Use). Some u) (sym zipped))
