-- How what a reader gives follows from what it gave for the parts.
use Rattle.std.proofs.Common.{◌≡◌, ℕ, List, [], ◌∷◌, ◌++◌, length, sym, ap, subst, ◌∙◌, append_assoc, arith}
use Rattle.std.specs.Prelude.{Result, Ok, Err}
use Rattle.std.specs.Result.{IsErrAnd}
use Rattle.std.proofs.lemmas.List.{append-nil}
use Rattle.ficus_formats.specs.declared.fault.ReadFault.{ReadFault}
use Rattle.ficus_formats.specs.declared.fault.ReadFault.TheVariants.{Unspelled}
use Rattle.ficus_formats.specs.Format.{Format, IsUnique, Begins, Fails, Reads, Spells, ReadsAll, ◌then◌, shaped, meeting}

pub begins-then : {X Y : Type 0} (f : Format X) (g : Format Y) (x : X) (y : Y) (before mid after : List ℕ) → Begins f before x mid → Begins g mid y after →
    Begins (f then g) before (x, y) after
begins-then f g x y before mid after first second = record {
  fits = (first.fits, second.fits);
  spelled = first.spelled ∙ ap (λ (bytes : List ℕ). f.spell x ++ bytes) second.spelled ∙ sym (append_assoc (f.spell x) (g.spell y) after);
}

pub fails-first : {X Y : Type 0} (f : Format X) (g : Format Y) (before : List ℕ) (fault : ReadFault) → Fails f before fault → Fails (f then g) before fault
fails-first f g before fault first = record {
  none = λ is p rest begins. first.none is p.0 (g.spell p.1 ++ rest) (record
      { fits = begins.fits.0; spelled = begins.spelled ∙ append_assoc (f.spell p.0) (g.spell p.1) rest });
}

pub fails-second : {X Y : Type 0} (f : Format X) (g : Format Y) (x : X) (before mid : List ℕ) (fault : ReadFault) → IsUnique f → Begins f before x mid →
    Fails g mid fault → Fails (f then g) before fault
fails-second f g x before mid fault one_f first second = record {
  none = λ is p rest begins.
      let cut = one_f.one x p.0 mid (g.spell p.1 ++ rest) first.fits begins.fits.0
      (sym first.spelled ∙ begins.spelled ∙ append_assoc (f.spell p.0) (g.spell p.1) rest) in
      second.none is p.1 rest (record { fits = begins.fits.1; spelled = cut.1 });
}

pub fails-shaped : {X Y : Type 0} (parts : X → Y) (f : Format Y) (before : List ℕ) (fault : ReadFault) →
    Fails f before fault → Fails (shaped parts f) before fault
fails-shaped parts f before fault fails =
    record { none = λ is x rest begins. fails.none is (parts x) rest (record { fits = begins.fits; spelled = begins.spelled }) }

-- where the condition says all that the format asks
module _ {X : Type 0} (Meets : X → Type 0) (f : Format X) (narrows : (x : X) → Meets x → f.fits x) where
  pub fails-meeting : (before : List ℕ) (fault : ReadFault) → Fails f before fault → Fails (meeting Meets f) before fault
  fails-meeting before fault fails = record {
    none = λ is x rest begins. fails.none is x rest (record { fits = narrows x begins.fits; spelled = begins.spelled });
  }

  -- what was read doesn't meet the condition
  pub fails-unmet : (x : X) (before after : List ℕ) (fault : ReadFault) → IsUnique f → Begins f before x after →
      (Meets x → ⊥) → Fails (meeting Meets f) before fault
  fails-unmet x before after fault one_f first not = record {
    none = λ is y rest begins.
        let cut = one_f.one x y after rest first.fits (narrows y begins.fits) (sym first.spelled ∙ begins.spelled) in
        not (subst Meets (sym cut.0) begins.fits);
  }

-- of bytes that are to be read from the first to the last
module _ {X : Type 0} (f : Format X) (before : List ℕ) where
  pub all_read : (x : X) (after : List ℕ) → Begins f before x after → length after ≡ 0 → Spells f x before
  all_read x [] begins none = record { fits = begins.fits; is = begins.spelled ∙ append-nil (f.spell x) }
  all_read x (byte ∷ after) begins none = absurd (omega arith)

  begins_all : (x : X) → Spells f x before → Begins f before x []
  begins_all x spells = record { fits = spells.fits; spelled = spells.is ∙ sym (append-nil (f.spell x)) }

  pub none_spelled : (fault : ReadFault) → Fails f before fault → fault ≡ Unspelled → (x : X) → Spells f x before → ⊥
  none_spelled fault fails is x spells = fails.none is x [] (begins_all x spells)

  -- something is left behind what was read
  pub more_left : (y : X) (after : List ℕ) → IsUnique f → Begins f before y after → (length after ≡ 0 → ⊥) → (x : X) →
      Spells f x before → ⊥
  more_left y after one_f first some x spells =
      some (ap length (one_f.one y x after [] first.fits spells.fits (sym first.spelled ∙ (begins_all x spells).spelled)).1)

-- an error that is passed on
pub passed : {X : Type 0} (f : Format X) (before after : List ℕ) (result : Result X ReadFault) (fault : ReadFault) →
    IsErrAnd result (λ given. given ≡ fault) → Fails f before fault → Reads f before result after
passed f before after (Ok x) fault is fails = absurd is
passed f before after (Err given) fault is fails = rw is fails

pub passed_all : {X : Type 0} (f : Format X) (before : List ℕ) (result : Result X ReadFault) (fault : ReadFault) →
    IsErrAnd result (λ given. given ≡ fault) → (fault ≡ Unspelled → (x : X) → Spells f x before → ⊥) →
    ReadsAll f before result
passed_all f before (Ok x) fault is none = absurd is
passed_all f before (Err given) fault is none = rw is none
