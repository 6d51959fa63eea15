-- A content has one list of lines, and it is what a cut at byte 10 gives.
use Rattle.std.specs.Prelude.{◌≡◌, ◌≢◌, ◌==◌, ◌<◌, ℕ, Bool, false, List, [], ◌∷◌, ◌++◌, length, take, All, Contains, ◌+◌, ◌↔◌, refl}
use Rattle.std.specs.List.{flat_map, slice_split, onto_first}
use Rattle.std.proofs.Common.{arith, get_or, ap, sym, ◌∙◌, subst, inl, inr}
use Rattle.std.proofs.lemmas.Bool.{cases_eq}
use Rattle.std.proofs.lemmas.Bool.Decides.{nat_tests}
use Rattle.std.proofs.lemmas.List.{append_assoc, append_cancel_right, take_more}
use Rattle.std.proofs.lemmas.List.Elements.{All-nil, All-cons, All-head, All-tail, All-weaker, Contains-append_left, Contains-append_right, Contains-append_cases, Contains-push, Contains-push_cases}
use Rattle.std.proofs.lemmas.List.Splits.{slice_split_at, slice_split-cons_yes, slice_split-cons_no}
use Rattle.ficus_resolve.specs.Lines.{line_text, AreLines, IsLineAmong}
use Rattle.ficus_resolve.specs.Texts.{ending}

-- the byte ends a line
abbrev pub is_end : ℕ → Bool
is_end byte = byte == 10

-- no byte of the text ends a line
abbrev IsUnbroken : List ℕ → Type 0
IsUnbroken text = All (λ byte. byte ≢ 10) text

is_no_end : (byte : ℕ) → byte ≢ 10 → is_end byte ≡ false
is_no_end byte other = grind (arith, nat_tests)

-- lines that are written are cut again into the same
cut_again : (lines : List (List ℕ)) → All IsUnbroken lines →
    slice_split is_end (flat_map line_text lines) ≡ lines ++ [] ∷ []
cut_again [] each = refl
cut_again (line ∷ lines) each =
    let unbroken = All-weaker (λ byte. byte ≢ 10) (λ byte. is_end byte ≡ false) is_no_end line (All-head IsUnbroken line lines each) in
    ap (slice_split is_end) (append_assoc line (10 ∷ []) (flat_map line_text lines))
    ∙ slice_split_at is_end line 10 (flat_map line_text lines) unbroken refl
    ∙ ap (λ rest. line ∷ rest) (cut_again lines (All-tail IsUnbroken line lines each))

one_cut : (content : List ℕ) (lines others : List (List ℕ)) → AreLines content lines → AreLines content others →
    lines ≡ others
one_cut content lines others cut also =
    append_cancel_right lines others ([] ∷ [])
    (sym (cut_again lines cut.each) ∙ ap (slice_split is_end) (cut.spelled ∙ sym also.spelled) ∙ cut_again others also.each)

-- the parts are unbroken, and written they are the whole
record AreParts (body : List ℕ) (parts : List (List ℕ)) : Type 0 where
  each : All IsUnbroken parts
  spelled : flat_map line_text parts ≡ body ++ 10 ∷ []
  some : 0 < length parts

parts_onto : (byte : ℕ) (body : List ℕ) (parts : List (List ℕ)) → byte ≢ 10 → AreParts body parts →
    AreParts (byte ∷ body) (onto_first byte parts)
parts_onto byte body [] other are = absurd (omega (arith, are.some))
parts_onto byte body (part ∷ parts) other are = record {
  each =
      All-cons IsUnbroken (byte ∷ part) parts
      (All-cons (λ b. b ≢ 10) byte part other (All-head IsUnbroken part parts are.each))
      (All-tail IsUnbroken part parts are.each);
  spelled = ap (λ rest. byte ∷ rest) are.spelled;
  some = omega arith;
}

parts_ended : (body : List ℕ) (parts : List (List ℕ)) → AreParts body parts → AreParts (10 ∷ body) ([] ∷ parts)
parts_ended body parts are = record {
  each = All-cons IsUnbroken [] parts (All-nil (λ b. b ≢ 10)) are.each;
  spelled = ap (λ rest. 10 ∷ rest) are.spelled;
  some = omega arith;
}

are_parts : (body : List ℕ) → AreParts body (slice_split is_end body)
are_parts [] = record { each = All-cons IsUnbroken [] [] (All-nil (λ b. b ≢ 10)) (All-nil IsUnbroken); spelled = refl; some = omega arith }
are_parts (byte ∷ body) =
    elim (cases_eq byte 10) [
      | inl end ↦
          subst (AreParts (byte ∷ body)) (sym (slice_split-cons_yes is_end byte body (ap is_end end)))
          (subst (λ b. AreParts (b ∷ body) ([] ∷ slice_split is_end body)) (sym end) (parts_ended body (slice_split is_end body) (are_parts body)))
      | inr other ↦
          subst (AreParts (byte ∷ body)) (sym (slice_split-cons_no is_end byte body (is_no_end byte other)))
          (parts_onto byte body (slice_split is_end body) other (are_parts body))
    ]

-- what a content is cut into, once it is ended, are its lines
pub are_lines : (content body : List ℕ) (parts : List (List ℕ)) → content ++ ending content ≡ body ++ 10 ∷ [] →
    parts ≡ slice_split is_end body → AreLines content parts
are_lines content body parts whole cut =
    subst (AreLines content) (sym cut) (record { each = (are_parts body).each; spelled = (are_parts body).spelled ∙ sym whole })

-- the lines of the contents so far, and those of one more
pub lines_more : (contents : List (List ℕ)) (index : ℕ) (content : List ℕ) (lines added : List (List ℕ)) →
    index < length contents → content ≡ get_or contents index content → AreLines content added →
    ((line : List ℕ) → Contains lines line ↔ IsLineAmong (take index contents) line) → (line : List ℕ) →
    Contains (lines ++ added) line ↔ IsLineAmong (take (index + 1) contents) line
lines_more contents index content lines added within at cut so_far line =
    let seen : take (index + 1) contents ≡ take index contents ++ content ∷ [] =
    take_more contents index content within ∙ ap (λ c. take index contents ++ c ∷ []) (sym at) in
    rw seen (
      λ inside. elim (Contains-append_cases lines added line inside) [
        | inl before ↦
            let among = (so_far line).0 before in
            record {
              content = among.content;
              inside = Contains-append_left (take index contents) (content ∷ []) among.content among.inside;
              lines = among.lines;
              cut = among.cut;
              has = among.has;
            }
        | inr new ↦ record { content = content; inside = Contains-push (take index contents) content; lines = added; cut = cut; has = new }
      ],
      λ among. elim (Contains-push_cases (take index contents) content among.content among.inside) [
        | inl before ↦
            let old : IsLineAmong (take index contents) line = record {
              content = among.content;
              inside = before;
              lines = among.lines;
              cut = among.cut;
              has = among.has;
            } in
            Contains-append_left lines added line ((so_far line).1 old)
        | inr new ↦
            let cut_here = subst (λ c. AreLines c added) new cut in
            Contains-append_right lines added line (subst (λ ls. Contains ls line) (one_cut among.content among.lines added among.cut cut_here) among.has)
      ],
    )
