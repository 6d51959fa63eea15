-- The line in which a tag is written.
use Rattle.std.proofs.Common.{◌≡◌, ℕ, ◌+◌, Option, Some, None, List, [], ◌∷◌, ◌++◌, length, get_or, take, drop, refl, sym, ap, subst, ◌∙◌, suc, arith, drop-cons, length-drop}
use Rattle.std.proofs.lemmas.List.{take-append-drop, take_at}
use Rattle.std.specs.Prelude.{IfNone, IfSome}
use Rattle.std.proofs.Math.Seq.{take-length}
use Rattle.ficus_tag.specs.Tag.{SpellsTag}
use Rattle.ficus_member.specs.TagFile.{SpellsLine, SpellsNoTag}

-- a list of which nothing stands there is empty
none : (list : List ℕ) → length list ≡ 0 → list ≡ []
none [] is = refl
none (x ∷ list) is = absurd (search (arith, is))

-- a list of n elements and this one behind them
pub last_at : (line : List ℕ) (n x : ℕ) → length line ≡ n + 1 → get_or line n 0 ≡ x → line ≡ take n line ++ x ∷ []
last_at line n x size is =
    let rest : drop (suc n) line ≡ [] = none (drop (suc n) line) (length-drop (suc n) line ∙ (omega (arith, size))) in
    let behind : drop n line ≡ x ∷ [] =
    drop-cons line n 0 (omega (arith, size)) ∙ ap (λ (list : List ℕ). get_or line n 0 ∷ list) rest
    ∙ ap (λ (y : ℕ). y ∷ []) is in
    sym (take-append-drop n line) ∙ ap (λ (list : List ℕ). take n line ++ list) behind

-- the line is the one of the tag that its first 32 bytes spell
pub spelled : (line tag : List ℕ) → length line ≡ 33 → get_or line 32 0 ≡ 10 → SpellsTag (take 32 line) tag
    → SpellsLine line tag
spelled line tag size is spells = record { text = take 32 line; is = last_at line 32 10 size is; spells = spells }

-- it is of no tag where they spell none
pub unspelled : (line : List ℕ) → ((tag : List ℕ) → SpellsTag (take 32 line) tag → ⊥) → SpellsNoTag line
unspelled line no_tag tag line_of =
    no_tag tag (subst (λ (text : List ℕ). SpellsTag text tag)
    (sym (ap (λ (list : List ℕ). take 32 list) line_of.is ∙ take_at line_of.text (10 ∷ []) 32 line_of.spells.size))
    line_of.spells)

-- what is read of a file of 33 bytes is all that it holds
pub whole : {read was now : List ℕ} → read ≡ take 33 now → now ≡ was → length was ≡ 33 → read ≡ was
whole {read} {was} {now} is same size =
    is ∙ ap (λ (list : List ℕ). take 33 list) same
    ∙ subst (λ (n : ℕ). take n was ≡ was) size (take-length was)

-- what holds of the value that there is, or where there is none, may be said weaker
pub some_weaker : {A : Type 0} (found : Option A) {P Q : A → Type 0} → ((x : A) → P x → Q x) → IfSome found P
    → IfSome found Q
some_weaker (Some x) weaker is = weaker x is
some_weaker None weaker is = tt

pub none_weaker : {A : Type 0} (found : Option A) {P Q : Type 0} → (P → Q) → IfNone found P → IfNone found Q
none_weaker (Some x) weaker is = tt
none_weaker None weaker is = weaker is
