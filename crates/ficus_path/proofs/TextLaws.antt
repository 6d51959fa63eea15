-- The spelling of a text, and that no two texts share one.
use Rattle.std.proofs.Common.{◌≡◌, ◌≢◌, ℕ, ◌<◌, Bool, true, false, cond, eqb, List, [], ◌∷◌, ◌++◌, length, refl, sym, subst, arith}
use Rattle.std.specs.List.{flat_map}
use Rattle.std.proofs.lemmas.Bool.{eqb-true, ne_eqb}
use Rattle.std.proofs.lemmas.List.{append_cancel_right}
use Rattle.ficus_path.specs.Spelling.{byte_text}
use Rattle.ficus_path.specs.Text.{quoted_byte_text, quoted_text}
use Rattle.ficus_path.proofs.ByteLaws.{first_byte, IsSpelling, IsSpelling-byte_text}
use Rattle.ficus_path.proofs.Lists.{tail_same}
use Rattle.ficus_path.proofs.SpelledLaws.{spelled_injective}

-- a byte and its spelling in a text
pub data Form : ℕ → List ℕ → Type 0 where
  quotation_mark : Form 34 (92 ∷ 34 ∷ [])
  space : Form 32 (32 ∷ [])
  as_in_names : {b : ℕ} → Form b (byte_text b)

chosen : (b : ℕ) (mark blank : Bool) → eqb b 34 ≡ mark → eqb b 32 ≡ blank →
    Form b (cond mark (92 ∷ 34 ∷ []) (cond blank (32 ∷ []) (byte_text b)))
chosen b true blank is_mark is_blank =
    subst (λ n. Form n (92 ∷ 34 ∷ [])) (sym (eqb-true b 34 is_mark)) quotation_mark
chosen b false true is_mark is_blank = subst (λ n. Form n (32 ∷ [])) (sym (eqb-true b 32 is_blank)) space
chosen b false false is_mark is_blank = as_in_names

quoted_byte_form : (b : ℕ) → Form b (quoted_byte_text b)
unfolding quoted_byte_text
quoted_byte_form b = chosen b _ _ refl refl

first_byte-form : {b : ℕ} {s : List ℕ} (rest : List ℕ) → Form b s → first_byte (s ++ rest) ≡ (b, rest)
first_byte-form rest quotation_mark = refl
first_byte-form rest space = refl
first_byte-form {b} rest as_in_names = IsSpelling-byte_text.first b rest

form_shorter : {b : ℕ} {s : List ℕ} (rest : List ℕ) → Form b s → length rest < length (s ++ rest)
form_shorter rest quotation_mark = omega arith
form_shorter rest space = omega arith
form_shorter {b} rest as_in_names = IsSpelling-byte_text.shorter b rest

pub IsSpelling-quoted_byte_text : IsSpelling quoted_byte_text
IsSpelling-quoted_byte_text = record {
  first = λ b rest. first_byte-form rest (quoted_byte_form b);
  shorter = λ b rest. form_shorter rest (quoted_byte_form b);
}

-- every byte but the quotation mark and the space is written as in names
pub quoted_as_in_names : (b : ℕ) → b ≢ 34 → b ≢ 32 → quoted_byte_text b ≡ byte_text b
unfolding quoted_byte_text
quoted_as_in_names b not_mark not_space = rw (ne_eqb b 34 not_mark, ne_eqb b 32 not_space) refl

pub quoted_text_injective : (text other : List ℕ) → quoted_text text ≡ quoted_text other → text ≡ other
quoted_text_injective text other e =
    spelled_injective quoted_byte_text IsSpelling-quoted_byte_text text other
    (append_cancel_right (flat_map quoted_byte_text text) (flat_map quoted_byte_text other) (34 ∷ []) (tail_same e))
