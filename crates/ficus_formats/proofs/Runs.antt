-- Reading values of one format one after the other.
use Rattle.std.proofs.Common.{◌≡◌, ℕ, ◌+◌, ◌<◌, List, [], ◌∷◌, ◌++◌, length, refl, sym, ap, subst, ◌∙◌, append_assoc, arith, length-append}
use Rattle.std.specs.List.{flat_map, AllByRecursion}
use Rattle.ficus_formats.specs.declared.fault.ReadFault.{ReadFault}
use Rattle.ficus_formats.specs.Format.{Format, IsUnique, Begins, Fails, times, counted}

-- nothing is read yet
pub run_begins : {X : Type 0} (f : Format X) (bytes : List ℕ) → Begins (times 0 f) bytes [] bytes
run_begins f bytes = record { fits = (refl, tt); spelled = refl }

all_push : {X : Type 0} (f : Format X) (xs : List X) (x : X) → AllByRecursion f.fits xs → f.fits x → AllByRecursion f.fits (xs ++ x ∷ [])
all_push f [] x fits fit = (fit, tt)
all_push f (y ∷ ys) x fits fit = (fits.0, all_push f ys x fits.1 fit)

spell_push : {X : Type 0} (f : Format X) (xs : List X) (x : X) (rest : List ℕ) →
    flat_map f.spell (xs ++ x ∷ []) ++ rest ≡ flat_map f.spell xs ++ (f.spell x ++ rest)
spell_push f [] x rest = append_assoc (f.spell x) [] rest
spell_push f (y ∷ ys) x rest =
    append_assoc (f.spell y) (flat_map f.spell (ys ++ x ∷ [])) rest
    ∙ ap (λ (bytes : List ℕ). f.spell y ++ bytes) (spell_push f ys x rest)
    ∙ sym (append_assoc (f.spell y) (flat_map f.spell ys) (f.spell x ++ rest))

-- one more is read
pub run_goes_on : {X : Type 0} (f : Format X) (count : ℕ) (bytes mid rest : List ℕ) (xs : List X) (x : X) → Begins (times count f) bytes xs mid →
    Begins f mid x rest → Begins (times (count + 1) f) bytes (xs ++ x ∷ []) rest
run_goes_on f count bytes mid rest xs x first next = record {
  fits = (omega (arith, first.fits.0, length-append xs (x ∷ [])), all_push f xs x first.fits.1 next.fits);
  spelled = first.spelled ∙ ap (λ (more : List ℕ). flat_map f.spell xs ++ more) next.spelled ∙ sym (spell_push f xs x rest);
}

-- where fewer are read than there are, the next one begins there
next_of : {X : Type 0} (f : Format X) → IsUnique f → (xs ys : List X) (mid rest : List ℕ) → length xs < length ys → AllByRecursion f.fits xs →
    AllByRecursion f.fits ys → flat_map f.spell xs ++ mid ≡ flat_map f.spell ys ++ rest → (y : X) × (more : List ℕ) × Begins f mid y more
next_of f one_f xs [] mid rest less fits also same = absurd (omega arith)
next_of f one_f [] (y ∷ ys) mid rest less fits also same =
    (y, flat_map f.spell ys ++ rest, record { fits = also.0; spelled = same ∙ append_assoc (f.spell y) (flat_map f.spell ys) rest })
next_of f one_f (x ∷ xs) (y ∷ ys) mid rest less fits also same =
    let first = one_f.one x y (flat_map f.spell xs ++ mid) (flat_map f.spell ys ++ rest) fits.0 also.0
    (sym (append_assoc (f.spell x) (flat_map f.spell xs) mid) ∙ same ∙ append_assoc (f.spell y) (flat_map f.spell ys) rest) in
    next_of f one_f xs ys mid rest (omega arith) fits.1 also.1 first.1

-- the next one isn't there
pub run_fails : {X : Type 0} (f : Format X) (total count : ℕ) (bytes mid : List ℕ) (xs : List X) (fault : ReadFault) → IsUnique f → count < total →
    Begins (times count f) bytes xs mid → Fails f mid fault → Fails (times total f) bytes fault
run_fails f total count bytes mid xs fault one_f less first fails = record {
  none = λ is ys rest begins.
      let next = next_of f one_f xs ys mid rest (omega (arith, first.fits.0, begins.fits.0)) first.fits.1 begins.fits.1 (sym first.spelled ∙ begins.spelled) in
      fails.none is next.0 next.1 next.2;
}

-- a count, and as many
pub begins-counted : {X : Type 0} (number : Format ℕ) (f : Format X) (count : ℕ) (before mid after : List ℕ) (xs : List X) → Begins number before count mid →
    Begins (times count f) mid xs after → Begins (counted number f) before xs after
begins-counted number f count before mid after xs first run =
    let same : count ≡ length xs = sym run.fits.0 in
    record {
      fits = (subst number.fits same first.fits, run.fits.1);
      spelled = first.spelled ∙ ap (λ (bytes : List ℕ). number.spell count ++ bytes) run.spelled ∙
          ap (λ (n : ℕ). number.spell n ++ (flat_map f.spell xs ++ after)) same ∙ sym (append_assoc (number.spell (length xs)) (flat_map f.spell xs) after);
    }

pub fails-count : {X : Type 0} (number : Format ℕ) (f : Format X) (before : List ℕ) (fault : ReadFault) → Fails number before fault →
    Fails (counted number f) before fault
fails-count number f before fault fails = record {
  none = λ is xs rest begins. fails.none is (length xs) (flat_map f.spell xs ++ rest)
      (record { fits = begins.fits.0; spelled = begins.spelled ∙ append_assoc (number.spell (length xs)) (flat_map f.spell xs) rest });
}

pub fails-counted : {X : Type 0} (number : Format ℕ) (f : Format X) (count : ℕ) (before mid : List ℕ) (fault : ReadFault) → IsUnique number →
    Begins number before count mid → Fails (times count f) mid fault → Fails (counted number f) before fault
fails-counted number f count before mid fault one_number first fails = record {
  none = λ is xs rest begins.
      let cut = one_number.one count (length xs) mid (flat_map f.spell xs ++ rest) first.fits begins.fits.0
      (sym first.spelled ∙ begins.spelled ∙ append_assoc (number.spell (length xs)) (flat_map f.spell xs) rest) in
      fails.none is xs rest (record { fits = (sym cut.0, begins.fits.1); spelled = cut.1 });
}
