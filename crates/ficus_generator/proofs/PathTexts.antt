-- How the paths and the texts of generated lines are spelled: none of their bytes needs an escape.
use Rattle.std.proofs.Common.{◌≡◌, ◌∙◌, ◌<◌, ◌≤◌, ◌^◌, ◌+◌, ◌-◌, ℕ, zero, suc, List, [], ◌∷◌, ◌++◌, codes, refl, ap, ap₂, sym, subst, arith, append-nil, append_assoc}
use Rattle.std.specs.List.{flat_map, AllByRecursion}
use Rattle.std.specs.Fmt.{decimal}
use Rattle.std.proofs.lemmas.Fmt.{decimal_digit}
use Rattle.std.proofs.lemmas.List.Concat.{flat_map-append}
use Rattle.std.proofs.lemmas.List.Elements.{All-cons, All-nil, All-from_get_or, recursion_from_All}
use Rattle.ficus_ids.proofs.NumberLaws.{decimal_at}
use Rattle.ficus_ids.specs.Name.{IsName, IsNameByte}
use Rattle.ficus_path.specs.Path.{IsPart, IsPath, IsNew, IsEntry}
use Rattle.ficus_path.specs.Spelling.{byte_text, name_text, path_text}
use Rattle.ficus_path.specs.Text.{quoted_byte_text, quoted_text}
use Rattle.ficus_path.proofs.TextLaws.{quoted_as_in_names}
use Rattle.ficus_generator.specs.Commands.{dir_path, file_path, part_of, written}
use Rattle.ficus_generator.specs.Script.{dir_text, file_text}

-- ---- digits

digit_text : (digit : ℕ) → digit < 10 → byte_text (48 + digit) ≡ (48 + digit) ∷ []
unfolding byte_text
digit_text zero lt = refl
digit_text (suc zero) lt = refl
digit_text (suc (suc zero)) lt = refl
digit_text (suc (suc (suc zero))) lt = refl
digit_text (suc (suc (suc (suc zero)))) lt = refl
digit_text (suc (suc (suc (suc (suc zero))))) lt = refl
digit_text (suc (suc (suc (suc (suc (suc zero)))))) lt = refl
digit_text (suc (suc (suc (suc (suc (suc (suc zero))))))) lt = refl
digit_text (suc (suc (suc (suc (suc (suc (suc (suc zero)))))))) lt = refl
digit_text (suc (suc (suc (suc (suc (suc (suc (suc (suc zero))))))))) lt = refl
digit_text (suc (suc (suc (suc (suc (suc (suc (suc (suc (suc digit)))))))))) lt = absurd (omega (arith, lt))

abbrev IsDigit : ℕ → Type 0
IsDigit byte = (48 ≤ byte) × (byte ≤ 57)

digit_as_itself : (byte : ℕ) → IsDigit byte → byte_text byte ≡ byte ∷ []
digit_as_itself byte is =
    let same : 48 + (byte - 48) ≡ byte = omega (arith, is.0) in
    subst (λ b. byte_text b ≡ b ∷ []) same (digit_text (byte - 48) (omega (arith, is.0, is.1)))

quoted_digits : (text : List ℕ) → AllByRecursion IsDigit text → flat_map quoted_byte_text text ≡ text
quoted_digits [] each = refl
quoted_digits (byte ∷ text) each =
    let first : quoted_byte_text byte ≡ byte ∷ [] =
    quoted_as_in_names byte (λ e. omega (arith, each.0.0, e)) (λ e. omega (arith, each.0.0, e)) ∙ digit_as_itself byte each.0 in
    ap₂ (λ (x y : List ℕ). x ++ y) first (quoted_digits text each.1)

are_digits : (number : ℕ) → number < 2 ^ 64 → AllByRecursion IsDigit (decimal number)
are_digits number fits =
    recursion_from_All IsDigit (decimal number)
    (All-from_get_or IsDigit (decimal number) 0
    (λ i within. (omega (arith, decimal_at number fits i within), omega (arith, decimal_at number fits i within))))

-- ---- names

name_as_itself : (letter digit : ℕ) → digit < 10 → byte_text letter ≡ letter ∷ [] →
    name_text (letter ∷ decimal digit) ≡ letter ∷ decimal digit
name_as_itself letter digit lt is = rw (decimal_digit digit lt, is, digit_text digit lt) refl

pub is_name : (letter digit : ℕ) → digit < 10 → 97 ≤ letter → IsName (letter ∷ decimal digit)
is_name letter digit lt small = subst (λ (t : List ℕ). IsName (letter ∷ t)) (sym (decimal_digit digit lt)) (record {
  not_empty = omega arith;
  within_limit = omega arith;
  not_here = λ e. cc;
  not_above = λ e. let first : letter ≡ 46 = cc in omega (arith, small, first);
  each = All-cons IsNameByte letter ((48 + digit) ∷ [])
      (record {
        not_zero = λ e. omega (arith, small, e);
        not_slash = λ e. omega (arith, small, e);
        not_number_sign = λ e. omega
            (arith, small, e);
      })
      (All-cons IsNameByte (48 + digit) []
      (record { not_zero = λ e. omega (arith, e); not_slash = λ e. omega (arith, e); not_number_sign = λ e. omega (arith, e) })
      (All-nil IsNameByte));
})

-- ---- paths

d_as_itself : byte_text 100 ≡ 100 ∷ []
unfolding byte_text
d_as_itself = refl

f_as_itself : byte_text 102 ≡ 102 ∷ []
unfolding byte_text
f_as_itself = refl

pub dir_spelled : (dir : ℕ) → dir < 10 → dir_text dir ≡ path_text (dir_path dir)
dir_spelled dir lt =
    let name = name_as_itself 100 dir lt d_as_itself in
    sym (ap (λ (t : List ℕ). 47 ∷ ((t ++ []) ++ [])) name ∙ ap (λ (t : List ℕ). 47 ∷ t) (append-nil _ ∙ append-nil _))

pub file_spelled : (dir file : ℕ) → dir < 10 → file < 10 → file_text dir file ≡ path_text (file_path dir file)
file_spelled dir file lt also =
    let name = name_as_itself 100 dir lt d_as_itself in
    let other = name_as_itself 102 file also f_as_itself in
    sym (ap₂ (λ (s t : List ℕ). 47 ∷ ((s ++ []) ++ 47 ∷ ((t ++ []) ++ []))) name other
    ∙ ap₂ (λ (s t : List ℕ). 47 ∷ (s ++ 47 ∷ t)) (append-nil (100 ∷ decimal dir))
    (append-nil ((102 ∷ decimal file) ++ []) ∙ append-nil (102 ∷ decimal file))
    ∙ sym (ap (λ (t : List ℕ). 47 ∷ 100 ∷ t) (append_assoc (decimal dir) (47 ∷ 102 ∷ []) (decimal file))))

is_part : (letter digit : ℕ) → digit < 10 → 97 ≤ letter → IsPart (part_of letter digit)
is_part letter digit lt small = record { name = is_name letter digit lt small; target = tt }

pub is_dir_path : (dir : ℕ) → dir < 10 → IsPath (dir_path dir)
is_dir_path dir lt = record {
  base = tt;
  within_limit = omega arith;
  each = All-cons IsPart (part_of 100 dir) [] (is_part 100 dir lt (omega arith)) (All-nil IsPart);
}

pub is_file_path : (dir file : ℕ) → dir < 10 → file < 10 → IsPath (file_path dir file)
is_file_path dir file lt also = record {
  base = tt;
  within_limit = omega arith;
  each = All-cons IsPart (part_of 100 dir) (part_of 102 file ∷ []) (is_part 100 dir lt (omega arith))
      (All-cons IsPart (part_of 102 file) [] (is_part 102 file also (omega arith)) (All-nil IsPart));
}

pub dir_is_new : (dir : ℕ) → IsNew (dir_path dir)
dir_is_new dir = ([], part_of 100 dir, refl, refl)

pub file_is_new : (dir file : ℕ) → IsNew (file_path dir file)
file_is_new dir file = (part_of 100 dir ∷ [], part_of 102 file, refl, refl)

pub file_is_entry : (dir file : ℕ) → IsEntry (file_path dir file)
file_is_entry dir file = λ e. cc

-- ---- what is written

s_as_itself : quoted_byte_text 115 ≡ 115 ∷ []
unfolding quoted_byte_text byte_text
s_as_itself = refl

line_end_escaped : quoted_byte_text 10 ≡ 92 ∷ 110 ∷ []
unfolding quoted_byte_text byte_text
line_end_escaped = refl

pub written_spelled : (number : ℕ) → number < 2 ^ 64 →
    34 ∷ 115 ∷ (decimal number ++ codes "\\n\"") ≡ quoted_text (written number)
written_spelled number fits =
    let digits = quoted_digits (decimal number) (are_digits number fits) in
    let behind : flat_map quoted_byte_text (decimal number ++ 10 ∷ []) ≡ decimal number ++ 92 ∷ 110 ∷ [] =
    flat_map-append quoted_byte_text (decimal number) (10 ∷ [])
    ∙ ap₂ (λ (x y : List ℕ). x ++ (y ++ [])) digits line_end_escaped in
    sym (ap₂ (λ (x y : List ℕ). 34 ∷ ((x ++ y) ++ 34 ∷ [])) s_as_itself behind
    ∙ ap (λ (t : List ℕ). 34 ∷ 115 ∷ t) (append_assoc (decimal number) (92 ∷ 110 ∷ []) (34 ∷ [])))
