-- What was written is a front of the bytes.
use Rattle.std.proofs.Common.{◌≡◌, ℕ, ◌-◌, List, ◌++◌, length, take, drop, sym, ◌∙◌, ap, subst, arith, append_assoc, length-drop}
use Rattle.std.specs.Prelude.{Option}
use Rattle.std.specs.Io.KnownBytes.{Appends, Keeps}
use Rattle.std.proofs.KnownBytes.{Appends-trans, Appends-kept}
use Rattle.std.proofs.lemmas.List.{take_all, take-append-drop}
use Rattle.std.proofs.Math.Seq.{take-append_seam}
use Rattle.ficus_cli.specs.Ending.{AppendsFront}

-- this front was written, and the rest is left
pub record IsWritten (old new : Option (List ℕ)) (bytes rest : List ℕ) : Type 0 where
  pub front : List ℕ
  pub is : bytes ≡ front ++ rest
  pub appends : Appends old new front

-- the part of a slice from an index on
part_from : (count : ℕ) (rest : List ℕ) → take (length rest - count) (drop count rest) ≡ drop count rest
part_from count rest = take_all (length rest - count) (drop count rest) (omega (arith, length-drop count rest))

module _ {old new : Option (List ℕ)} {bytes rest : List ℕ} (written : IsWritten old new bytes rest) where
  -- some more is written
  pub more_written : (later : Option (List ℕ)) (count : ℕ) → Appends new later (take count rest)
      → IsWritten old later bytes (take (length rest - count) (drop count rest))
  more_written later count appends = record {
    front = written.front ++ take count rest;
    is = written.is
        ∙ ap (λ (l : List ℕ). written.front ++ l)
        (sym (ap (λ (l : List ℕ). take count rest ++ l) (part_from count rest) ∙ take-append-drop count rest))
        ∙ sym (append_assoc written.front (take count rest) (take (length rest - count) (drop count rest)));
    appends = Appends-trans old new later written.front (take count rest) written.appends appends;
  }

  -- and a write that fails leaves it so
  pub kept_written : (later : Option (List ℕ)) → Keeps new later → IsWritten old later bytes rest
  kept_written later keeps = record {
    front = written.front;
    is = written.is;
    appends = Appends-kept old new later written.front written.appends keeps;
  }

  pub front_written : AppendsFront old new bytes
  front_written = (
    length written.front,
    subst (λ (l : List ℕ). Appends old new l)
        (sym (ap (λ (l : List ℕ). take (length written.front) l) written.is ∙ take-append_seam written.front rest))
        written.appends,
  )
