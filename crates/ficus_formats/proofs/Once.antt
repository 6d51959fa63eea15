-- Bytes are read in one way.
use Rattle.std.proofs.Common.{◌≡◌, ℕ, ◌+◌, ◌<◌, ◌≤◌, List, length, drop, Some, None, refl, sym, ap, ◌∙◌, arith, length-append, length-drop}
use Rattle.std.specs.Prelude.{Result, Ok, Err, IsErrOf}
use Rattle.ficus_formats.specs.declared.fault.ReadFault.{ReadFault}
use Rattle.ficus_formats.specs.declared.fault.ReadFault.TheVariants.{Unspelled, Memory}
use Rattle.ficus_formats.specs.Format.{Format, IsUnique, Begins, IsReadOnce, IsTakenOnce, Reads}

module _ {X : Type 0} (f : Format X) (unique : IsUnique f) where
  once : (before after behind : List ℕ) (one other : X) → Begins f before one after → Begins f before other behind →
      (one ≡ other) × (after ≡ behind)
  once before after behind one other first second =
      unique.one one other after behind first.fits second.fits (sym first.spelled ∙ second.spelled)

  one_answer : (before after behind : List ℕ) (one other : Result X ReadFault) → Reads f before one after →
      Reads f before other behind → (IsErrOf one Memory → ⊥) → (IsErrOf other Memory → ⊥) → one ≡ other
  one_answer before after behind (Ok x) (Ok y) first second spared spared_too = ap Ok (once before after behind x y first second).0
  one_answer before after behind (Ok x) (Err Unspelled) first second spared spared_too =
      absurd (second.none refl x after first)
  one_answer before after behind (Err Unspelled) (Ok y) first second spared spared_too =
      absurd (first.none refl y behind second)
  one_answer before after behind (Err Unspelled) (Err Unspelled) first second spared spared_too = refl
  one_answer before after behind (Err Memory) other first second spared spared_too = absurd (spared refl)
  one_answer before after behind (Ok x) (Err Memory) first second spared spared_too = absurd (spared_too refl)
  one_answer before after behind (Err Unspelled) (Err Memory) first second spared spared_too = absurd (spared_too refl)

  pub read_once : IsReadOnce f
  read_once = record {
    answer = one_answer;
    rest = λ before after behind one other first second. (once before after behind one other first second).1;
  }

  module _ (size : ℕ) (some : 1 ≤ size) (sized : (x : X) → length (f.spell x) ≡ size) where
    not_short : (bytes : List ℕ) (at : ℕ) (x : X) → Begins f (drop at bytes) x (drop (at + size) bytes) →
        length bytes < at + size → ⊥
    not_short bytes at x begins short = omega (
      arith,
      ap length begins.spelled,
      length-append (f.spell x) (drop (at + size) bytes),
      sized x,
      length-drop at bytes,
      some,
    )

    pub taken_once : IsTakenOnce f size
    taken_once bytes at (Some x) (Some y) first second =
        ap Some (once (drop at bytes) (drop (at + size) bytes) (drop (at + size) bytes) x y first second).0
    taken_once bytes at (Some x) None first second = absurd (not_short bytes at x first second)
    taken_once bytes at None (Some y) first second = absurd (not_short bytes at y second first)
    taken_once bytes at None None first second = refl
