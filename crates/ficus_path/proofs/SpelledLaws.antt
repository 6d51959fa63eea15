-- Bytes that are spelled one after the other, in a name or in a text.
use Rattle.std.proofs.Common.{◌≡◌, ℕ, ◌<◌, ◌≤◌, List, [], ◌∷◌, ◌++◌, length, refl, sym, ◌∙◌, ap, arith, length-append}
use Rattle.std.specs.List.{flat_map}
use Rattle.std.proofs.lemmas.List.{append_assoc, append-nil}
use Rattle.std.proofs.lemmas.List.Concat.{flat_map-append}
use Rattle.ficus_path.proofs.ByteLaws.{first_byte, IsSpelling}
use Rattle.ficus_path.proofs.Lists.{cons_same}

-- no spelling of a byte is the front of another
pub first_same : (spell : ℕ → List ℕ) → IsSpelling spell → (a b : ℕ) (x y : List ℕ) → spell a ++ x ≡ spell b ++ y →
    (a ≡ b) × (x ≡ y)
first_same spell is a b x y e =
    let same = sym (is.first a x) ∙ ap first_byte e ∙ is.first b y in
    (ap (λ p. p.0) same, ap (λ p. p.1) same)

pub first_not_empty : (spell : ℕ → List ℕ) → IsSpelling spell → (b : ℕ) (rest : List ℕ) → spell b ++ rest ≡ [] → ⊥
first_not_empty spell is b rest e = omega (arith, is.shorter b rest, ap length e)

-- bytes whose spelling begins as others' begins with them
spelled_front : (spell : ℕ → List ℕ) → IsSpelling spell → (front bytes rest : List ℕ) →
    flat_map spell front ++ rest ≡ flat_map spell bytes →
    (others : List ℕ) × (bytes ≡ front ++ others) × (rest ≡ flat_map spell others)
spelled_front spell is [] bytes rest e = (bytes, refl, e)
spelled_front spell is (b ∷ front) [] rest e =
    absurd (first_not_empty spell is b (flat_map spell front ++ rest) (sym (append_assoc (spell b) (flat_map spell front) rest) ∙ e))
spelled_front spell is (b ∷ front) (c ∷ bytes) rest e =
    let first = first_same spell is b c (flat_map spell front ++ rest) (flat_map spell bytes) (sym (append_assoc (spell b) (flat_map spell front) rest) ∙ e) in
    let others = spelled_front spell is front bytes rest first.1 in
    (others.0, cons_same (sym first.0) others.1, others.2)

pub spelled_injective : (spell : ℕ → List ℕ) → IsSpelling spell → (bytes others : List ℕ) →
    flat_map spell bytes ≡ flat_map spell others → bytes ≡ others
spelled_injective spell is [] [] e = refl
spelled_injective spell is [] (c ∷ others) e = absurd (first_not_empty spell is c (flat_map spell others) (sym e))
spelled_injective spell is (b ∷ bytes) [] e = absurd (first_not_empty spell is b (flat_map spell bytes) e)
spelled_injective spell is (b ∷ bytes) (c ∷ others) e =
    let first = first_same spell is b c (flat_map spell bytes) (flat_map spell others) e in
    cons_same first.0 (spelled_injective spell is bytes others first.1)

pub spelled_not_empty : (spell : ℕ → List ℕ) → IsSpelling spell → (bytes rest : List ℕ) → 1 ≤ length bytes →
    flat_map spell bytes ++ rest ≡ [] → ⊥
spelled_not_empty spell is [] rest more e = omega arith
spelled_not_empty spell is (b ∷ bytes) rest more e =
    first_not_empty spell is b (flat_map spell bytes ++ rest) (sym (append_assoc (spell b) (flat_map spell bytes) rest) ∙ e)

-- one more byte is read
pub spelled_more : (spell : ℕ → List ℕ) (text front : List ℕ) (byte : ℕ) (rest after : List ℕ) →
    text ≡ flat_map spell front ++ rest → rest ≡ spell byte ++ after →
    text ≡ flat_map spell (front ++ byte ∷ []) ++ after
spelled_more spell text front byte rest after whole first =
    rw (whole, first, flat_map-append spell front (byte ∷ []), append-nil (spell byte), append_assoc) refl

-- the bytes go on behind their front, and the rest of their spelling spells what follows
pub record GoesOn (spell : ℕ → List ℕ) (front bytes rest : List ℕ) : Type 0 where
  pub byte : ℕ
  pub others : List ℕ
  pub whole : bytes ≡ front ++ byte ∷ others
  pub spelled : rest ≡ spell byte ++ flat_map spell others

first_other : (spell : ℕ → List ℕ) (front bytes rest others : List ℕ) → bytes ≡ front ++ others →
    rest ≡ flat_map spell others → (length rest ≡ 0 → ⊥) → GoesOn spell front bytes rest
first_other spell front bytes rest [] whole same more = absurd (more (ap length same))
first_other spell front bytes rest (b ∷ others) whole same more =
    record { byte = b; others = others; whole = whole; spelled = same }

pub GoesOn-longer : {spell : ℕ → List ℕ} {front bytes rest : List ℕ} → GoesOn spell front bytes rest →
    length front < length bytes
GoesOn-longer {spell} {front} more =
    omega (arith, ap length more.whole, length-append front (more.byte ∷ more.others))

-- where a spelling goes on, it goes on with a byte's
pub spelled_goes_on : (spell : ℕ → List ℕ) → IsSpelling spell → (front bytes rest : List ℕ) →
    flat_map spell front ++ rest ≡ flat_map spell bytes → (length rest ≡ 0 → ⊥) → GoesOn spell front bytes rest
spelled_goes_on spell is front bytes rest e more =
    let others = spelled_front spell is front bytes rest e in
    first_other spell front bytes rest others.0 others.1 others.2 more
