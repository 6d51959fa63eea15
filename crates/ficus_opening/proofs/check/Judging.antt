-- The disks of a replica are judged to be one thing, by what is read of them.
use Rattle.std.proofs.Common.{◌≡◌, ℕ, List, Option, Result, Ok, Err, ap, ap₂, sym, ◌∙◌, refl}
use Rattle.std.specs.Prelude.{IfOk}
use Rattle.ficus_disk.specs.declared.pair.Pair.{Pair}
use Rattle.ficus_keeper.specs.Kept.{Kept, found_in}
use Rattle.ficus_keeper.specs.Pairs.{PairSame}
use Rattle.ficus_stable_storage.proofs.leads.Led.{held_at}
use Rattle.ficus_stable_storage.specs.Leads.Holds.{Holds, OneHeld}
use Rattle.ficus_durable_state.specs.declared.saved.Saved.{Saved}
use Rattle.ficus_opening.specs.Check.Judged.{IsDamaged, IsEmptyPair, IsJudged, IsSound, soundness_of}
use Rattle.ficus_opening.proofs.check.Owning.{holds_same}
use Rattle.ficus_opening.specs.declared.check.checked.Checked.{Checked}
use Rattle.ficus_opening.specs.declared.check.checked.Checked.TheVariants.{Empty, Damaged, Sound}

module _ {D : Type 0} (kept : List ℕ → List ℕ → Option Kept) (seen : D → List ℕ) (r : ℕ) (pair : Pair D) where
  damaged_unsound : (told : Checked) → IsDamaged kept seen r pair → IsSound kept seen r pair told → ⊥
  damaged_unsound told damaged sound = damaged.none sound.saved sound.fits sound.holds sound.own

  same_sound : OneHeld → (one other : Checked) → IsSound kept seen r pair one → IsSound kept seen r pair other
      → one ≡ other
  same_sound held one other is also =
      is.says
      ∙ ap soundness_of (held (found_in kept seen pair) is.saved also.saved is.holds also.holds)
      ∙ sym also.says

  pub judged_once : OneHeld → (one other : Checked) → IsJudged kept seen r pair one → IsJudged kept seen r pair other
      → one ≡ other
  judged_once held Empty Empty is also = refl
  judged_once held Empty Damaged is also = absurd (also.some is)
  judged_once held Empty (Sound members generation live dead objects) is also = absurd (also.some is)
  judged_once held Damaged Empty is also = absurd (is.some also)
  judged_once held Damaged Damaged is also = refl
  judged_once held Damaged (Sound members generation live dead objects) is also =
      absurd (damaged_unsound (Sound members generation live dead objects) is also)
  judged_once held (Sound members generation live dead objects) Empty is also = absurd (is.some also)
  judged_once held (Sound members generation live dead objects) Damaged is also =
      absurd (damaged_unsound (Sound members generation live dead objects) also is)
  judged_once held (Sound members generation live dead objects) (Sound count number alive gone held_by) is also =
      same_sound held (Sound members generation live dead objects) (Sound count number alive gone held_by) is also

module _ {D : Type 0} (kept : List ℕ → List ℕ → Option Kept) (seen : D → List ℕ) (r : ℕ) (one two : Pair D)
    (same : PairSame seen one two) where
  -- what is read of the first is read of the second
  held_too : (saved : Saved) → Holds (found_in kept seen one) saved → Holds (found_in kept seen two) saved
  held_too saved holds = held_at _ _ saved (ap₂ kept same.a same.b) holds

  empty_too : IsEmptyPair seen one → IsEmptyPair seen two
  empty_too empty = (same.a ∙ empty.0, same.b ∙ empty.1)

  -- so it is judged as the second is
  pub judged_same : (told : Checked) → IsJudged kept seen r two told → IsJudged kept seen r one told
  judged_same Empty is = (sym same.a ∙ is.0, sym same.b ∙ is.1)
  judged_same Damaged is = record {
    some = λ empty. is.some (empty_too empty);
    none = λ saved fits holds own. is.none saved fits (held_too saved holds) own;
  }
  judged_same (Sound members generation live dead objects) is = record {
    some = λ empty. is.some (empty_too empty);
    saved = is.saved;
    fits = is.fits;
    holds = holds_same kept seen one two is.saved same is.holds;
    own = is.own;
    says = is.says;
  }

  pub judged_so : {E : Type 0} (result : Result Checked E) → IfOk result (IsJudged kept seen r two)
      → IfOk result (IsJudged kept seen r one)
  judged_so (Ok told) is = judged_same told is
  judged_so (Err fault) is = tt
