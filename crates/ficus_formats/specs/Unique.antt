-- Each format has one spelling of each value, and none begins another.
use Rattle.std.proofs.Common.{◌≡◌, ℕ, List, [], ◌∷◌, ◌++◌, length, refl, sym, ap, ◌∙◌, append_assoc, arith}
use Rattle.std.specs.List.{flat_map, AllByRecursion}
use Rattle.std.specs.Int.{w16, w32, w64, to_be_bytes, from_be_bytes}
use Rattle.std.proofs.lemmas.Nat.{from_be_bytes-to_be_bytes_2, from_be_bytes-to_be_bytes_4, from_be_bytes-to_be_bytes_8}
use Rattle.ficus_formats.specs.Format.{Format, IsUnique, byte, number16, number32, number64, ◌then◌, shaped, meeting, checked, times, counted, string, id, rising}
use Rattle.ficus_ids.specs.declared.id.Id.{Id}
use Rattle.ficus_ids.specs.Rising.{IsRisingBy}

-- bytes are cut in one way into a front of this length and the rest
pub one_cut : (x y a b : List ℕ) → length x ≡ length y → x ++ a ≡ y ++ b → (x ≡ y) × (a ≡ b)
one_cut [] [] a b len same = (refl, same)
one_cut [] (m ∷ y) a b len same = absurd (omega arith)
one_cut (n ∷ x) [] a b len same = absurd (omega arith)
one_cut (n ∷ x) (m ∷ y) a b len same =
    let rest = one_cut x y a b (omega arith) (cc) in
    (cc (rest.0), rest.1)

pub unique-byte : IsUnique byte
unique-byte = record { one = λ x y a b fits also same. (cc, cc) }

pub unique-number16 : IsUnique number16
unique-number16 = record {
  one = λ x y a b fits also same.
      let cut = one_cut (to_be_bytes w16 x) (to_be_bytes w16 y) a b refl same in (
        sym (from_be_bytes-to_be_bytes_2 x fits) ∙ ap (from_be_bytes w16) cut.0 ∙
            from_be_bytes-to_be_bytes_2 y also,
        cut.1,
      );
}

pub unique-number32 : IsUnique number32
unique-number32 = record {
  one = λ x y a b fits also same.
      let cut = one_cut (to_be_bytes w32 x) (to_be_bytes w32 y) a b refl same in (
        sym (from_be_bytes-to_be_bytes_4 x fits) ∙ ap (from_be_bytes w32) cut.0 ∙
            from_be_bytes-to_be_bytes_4 y also,
        cut.1,
      );
}

pub unique-number64 : IsUnique number64
unique-number64 = record {
  one = λ x y a b fits also same.
      let cut = one_cut (to_be_bytes w64 x) (to_be_bytes w64 y) a b refl same in (
        sym (from_be_bytes-to_be_bytes_8 x fits) ∙ ap (from_be_bytes w64) cut.0 ∙
            from_be_bytes-to_be_bytes_8 y also,
        cut.1,
      );
}

same_pair : {X Y : Type 0} (p q : X × Y) → p.0 ≡ q.0 → p.1 ≡ q.1 → p ≡ q
same_pair (x, y) (v, w) first second = cc

pub unique-then : {X Y : Type 0} (f : Format X) (g : Format Y) → IsUnique f → IsUnique g → IsUnique (f then g)
unique-then f g one_f one_g = record {
  one = λ p q a b fits also same.
      let first = one_f.one p.0 q.0 (g.spell p.1 ++ a) (g.spell q.1 ++ b) fits.0 also.0
      (sym (append_assoc (f.spell p.0) (g.spell p.1) a) ∙ same ∙ append_assoc (f.spell q.0) (g.spell q.1) b) in
      let second = one_g.one p.1 q.1 a b fits.1 also.1 first.1 in
      (same_pair p q first.0 second.0, second.1);
}

-- where the condition says all that the format asks
pub unique-meeting : {X : Type 0} (Meets : X → Type 0) (f : Format X) → ((x : X) → Meets x → f.fits x) → IsUnique f →
    IsUnique (meeting Meets f)
unique-meeting Meets f narrows one_f = record {
  one = λ x y a b fits also same. one_f.one x y a b (narrows x fits) (narrows y also) same;
}

pub unique-checked : {X : Type 0} (Meets : X → Type 0) (f : Format X) → IsUnique f → IsUnique (checked Meets f)
unique-checked Meets f one_f = unique-meeting (λ x. f.fits x × Meets x) f (λ x fits. fits.0) one_f

-- where the parts of a value that meets the condition lead back to it
pub unique-shaped_where : {X Y : Type 0} (Meets : X → Type 0) (parts : X → Y) (f : Format Y) (whole : Y → X) →
    ((x : X) → Meets x → f.fits (parts x)) → ((x : X) → Meets x → whole (parts x) ≡ x) → IsUnique f →
    IsUnique (meeting Meets (shaped parts f))
unique-shaped_where Meets parts f whole narrows back one_f = record {
  one = λ x y a b fits also same.
      let inner = one_f.one (parts x) (parts y) a b (narrows x fits) (narrows y also) same in
      (sym (back x fits) ∙ ap whole inner.0 ∙ back y also, inner.1);
}

pub unique-shaped : {X Y : Type 0} (parts : X → Y) (f : Format Y) (whole : Y → X) →
    ((x : X) → whole (parts x) ≡ x) → IsUnique f → IsUnique (shaped parts f)
unique-shaped parts f whole back one_f =
    unique-shaped_where (λ x. f.fits (parts x)) parts f whole (λ x fits. fits) (λ x fits. back x) one_f

pub unique-string : (count : Format ℕ) → IsUnique count → IsUnique (string count)
unique-string count one_count = record {
  one = λ x y a b fits also same.
      let first = one_count.one (length x) (length y) (x ++ a) (y ++ b) fits also
      (sym (append_assoc (count.spell (length x)) x a) ∙ same ∙ append_assoc (count.spell (length y)) y b) in
      one_cut x y a b first.0 first.1;
}

-- as many values
pub one_run : {X : Type 0} (f : Format X) → IsUnique f → (xs ys : List X) (a b : List ℕ) → length xs ≡ length ys →
    AllByRecursion f.fits xs → AllByRecursion f.fits ys → flat_map f.spell xs ++ a ≡ flat_map f.spell ys ++ b →
    (xs ≡ ys) × (a ≡ b)
one_run f one_f [] [] a b len fits also same = (refl, same)
one_run f one_f [] (y ∷ ys) a b len fits also same = absurd (omega arith)
one_run f one_f (x ∷ xs) [] a b len fits also same = absurd (omega arith)
one_run f one_f (x ∷ xs) (y ∷ ys) a b len fits also same =
    let first = one_f.one x y (flat_map f.spell xs ++ a) (flat_map f.spell ys ++ b) fits.0 also.0
    (sym (append_assoc (f.spell x) (flat_map f.spell xs) a) ∙ same ∙
    append_assoc (f.spell y) (flat_map f.spell ys) b) in
    let rest = one_run f one_f xs ys a b (omega arith) fits.1 also.1 first.1 in
    (cc (first.0, rest.0), rest.1)

pub unique-times : {X : Type 0} (count : ℕ) (f : Format X) → IsUnique f → IsUnique (times count f)
unique-times count f one_f = record {
  one = λ xs ys a b fits also same. one_run f one_f xs ys a b (fits.0 ∙ sym also.0) fits.1 also.1 same;
}

pub unique-counted : {X : Type 0} (count : Format ℕ) (f : Format X) → IsUnique count → IsUnique f →
    IsUnique (counted count f)
unique-counted count f one_count one_f = record {
  one = λ xs ys a b fits also same.
      let first = one_count.one (length xs) (length ys) (flat_map f.spell xs ++ a)
      (flat_map f.spell ys ++ b) fits.0 also.0 (sym (append_assoc (count.spell (length xs)) (flat_map f.spell xs) a)
      ∙ same ∙ append_assoc (count.spell (length ys)) (flat_map f.spell ys) b) in
      one_run f one_f xs ys a b first.0 fits.1 also.1 first.1;
}

pub unique-id : IsUnique id
unique-id = unique-shaped (λ (x : Id). (x.replica, x.number)) (byte then number32)
    (λ p. record { replica = p.0; number = p.1 }) (λ x. refl) (unique-then byte number32 unique-byte unique-number32)

pub unique-rising : {X : Type 0} (id_of : X → Id) (f : Format X) → IsUnique f → IsUnique (rising id_of f)
unique-rising id_of f one_f = unique-checked (IsRisingBy id_of) (counted number32 f)
    (unique-counted number32 f unique-number32 one_f)
