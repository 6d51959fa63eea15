-- What a parse found is what the words give.
use Rattle.std.proofs.Common.{◌≡◌, ◌∙◌, ◌≢◌, ℕ, Bool, true, false, refl, sym, ap, subst, arith, List, [], ◌∷◌, ◌++◌, map, drop, Option, Some, None, inl, inr, true≢false, encode_utf8_all}
use Rattle.std.specs.Prelude.{slice_get, string_bytes, String}
use Rattle.std.specs.declared.alloc.Global.{Global}
use Rattle.std.specs.Str.{bytes_eq, chars, IsUtf8}
use Rattle.std.specs.Prelude.{encode_utf8}
use Rattle.std.specs.Str.{all_scalars}
use Rattle.std.proofs.lemmas.Bool.{and_parts, cases_Bool}
use Rattle.std.proofs.lemmas.Str.{IsUtf8-string_bytes, char_from_byte, chars-encodes, encode_ascii}
use Rattle.clap.specs.Walk.{first_of}
use Rattle.clap.specs.Kinds.{HasKind}
use Rattle.clap.specs.Words.{fault_of, found_of, kind_of, matches_of, rows_of, first_value}
use Rattle.clap.specs.declared.error.Error.{Error}
use Rattle.clap.specs.declared.error.kind.ErrorKind.TheVariants.{OutOfMemory}
use Rattle.clap.specs.declared.parser.matches.ArgMatches.{ArgMatches}
use Rattle.clap.proofs.WalkLemmas.{first_value-rows}
use Rattle.ficus_words.specs.Clap.{ficus_app}
use Rattle.ficus_words.specs.Grammar.{Text, Use, Gives, place_names}
use Rattle.ficus_words.proofs.Distinct.{distinct_are, distinct_of}
use Rattle.ficus_words.proofs.Spelling.{spells_of, spelled_of}
use Rattle.ficus_words.proofs.Uses.{are_distinct, spelled_uses}
use Rattle.ficus_words.specs.Given.{value_of}
use Rattle.ficus_words.proofs.Settling.{Ends, used_rows}
use Rattle.ficus_words.proofs.Turns.{IsReadable}
use Rattle.ficus_words.proofs.Walk.{AreReadable, clap_agrees}

-- ---- words are text

abbrev some : List ℕ → Bool
some [] = false
some (x ∷ xs) = true

-- the bytes of characters that spell something have a first one
first_char : (cs : List ℕ) (byte : ℕ) (rest : List ℕ) → all_scalars cs ≡ true → encode_utf8_all cs ≡ byte ∷ rest →
    (c : ℕ) × (slice_get (chars (byte ∷ rest)) 0 ≡ Some c)
first_char [] byte rest scalar spelled = absurd (true≢false (ap some (sym spelled)))
first_char (c ∷ cs) byte rest scalar spelled = (
  c,
  ap (λ (l : List ℕ). slice_get (chars l) 0) (sym spelled) ∙ ap (λ l. slice_get l 0)
      (chars-encodes (c ∷ cs) scalar),
)

readable : (word : Text) → IsUtf8 word → IsReadable word
readable word text next rest is = go text.0 text.1.0 (text.1.1 ∙ is)
  where
    go : (cs : List ℕ) → all_scalars cs ≡ true → encode_utf8_all cs ≡ 45 ∷ next ∷ rest →
        (c : ℕ) × (slice_get (chars (next ∷ rest)) 0 ≡ Some c)
    go [] scalar spelled = absurd (true≢false (ap some (sym spelled)))
    go (c ∷ cs) scalar spelled =
        let hyphen : c ≡ 45 = char_from_byte (45 ∷ next ∷ rest) (encode_utf8_all cs) c (sym spelled) (omega arith) (omega arith) in
        let one : encode_utf8 c ≡ 45 ∷ [] = ap encode_utf8 hyphen ∙ encode_ascii 45 (omega arith) in
        first_char cs next rest (and_parts _ (all_scalars cs) scalar).1
        (ap (drop 1) (sym (ap (λ l. l ++ encode_utf8_all cs) one) ∙ spelled))

all_readable : (words : List (String Global)) → AreReadable (map string_bytes words)
all_readable [] = tt
all_readable (word ∷ words) = (readable (string_bytes word) (IsUtf8-string_bytes word), all_readable words)

pub past_first : (words : List (String Global)) → AreReadable (drop 1 (map string_bytes words))
past_first [] = tt
past_first (word ∷ words) = all_readable words

-- ---- what was found

abbrev Finds : List Text → List Use → Type 0
Finds words uses = Gives words uses × (matches_of ficus_app words ≡ used_rows uses)

pub gives_of : (words : List Text) → AreReadable (drop 1 words) → fault_of ficus_app words ≡ [] →
    (uses : List Use) × Finds words uses
gives_of words text none = go (spelled_uses None place_names (drop 1 words)) refl (clap_agrees words text)
  where
    go : (u : Option (List Use)) → spelled_uses None place_names (drop 1 words) ≡ u →
        Ends [] u (fault_of ficus_app words) (matches_of ficus_app words) → (uses : List Use) × Finds words uses
    go None is ends = absurd (ends none)
    go (Some uses) is ends = elim (cases_Bool (are_distinct [] uses)) [
      | inl distinct ↦ (
        uses,
        (
          record { spelled = spells_of place_names (drop 1 words) uses is; distinct = distinct_are uses distinct },
          (ends.0 distinct).1,
        ),
      )
      | inr again ↦ absurd (ends.1 again none)
    ]

pub gives_nothing : (words : List Text) (e : Error) → AreReadable (drop 1 words) →
    HasKind (fault_of ficus_app words) e → kind_of e ≢ OutOfMemory → (uses : List Use) → Gives words uses → ⊥
gives_nothing words e text kinds other uses gives =
    let ends = subst (λ (u : Option (List Use)). Ends [] u (fault_of ficus_app words) (matches_of ficus_app words))
    (spelled_of gives.spelled) (clap_agrees words text) in
    let none : fault_of ficus_app words ≡ [] = (ends.0 (distinct_of uses gives.distinct)).0 in
    elim (subst (λ k. HasKind k e) none kinds) [
      | inl memory ↦ other memory
      | inr among ↦ among
    ]

first_use : (name : Text) (uses : List Use) → first_of name (used_rows uses) ≡ value_of name uses
first_use name [] = refl
first_use name (one ∷ uses) = elim (cases_Bool (bytes_eq one.0 name)) [
  | inl e ↦ rw e refl
  | inr e ↦ rw e (first_use name uses)
]

pub value_found : (m : ArgMatches) (words : List Text) (uses : List Use) (name : Text) →
    rows_of (found_of m) ≡ matches_of ficus_app words → matches_of ficus_app words ≡ used_rows uses →
    first_value (found_of m) name ≡ value_of name uses
value_found m words uses name rows same = first_value-rows (found_of m) name ∙ ap (first_of name) (rows ∙ same) ∙ first_use name uses
