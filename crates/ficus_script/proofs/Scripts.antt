-- How a script falls into its lines, and how far it is read.
use Rattle.std.proofs.Common.{◌≡◌, ◌≢◌, ℕ, ◌+◌, ◌<◌, ◌≤◌, List, [], ◌∷◌, ◌++◌, length, Option, None, Some, MatchOption, refl, sym, ◌∙◌, ap, inr, false, arith, length-append}
use Rattle.std.specs.Prelude.{unwrap_or, Result, Ok, Err, is_ok, OnOk}
use Rattle.std.specs.List.{All, AllByRecursion, AllZip, filter, onto_first}
use Rattle.std.specs.Borrow.{Bor}
use Rattle.std.proofs.lemmas.List.{append_assoc, append-nil}
use Rattle.std.proofs.lemmas.List.Elements.{recursion_from_All, All-nil, All-push, filter-append}
use Rattle.std.proofs.lemmas.Bool.{ne_eqb, true≢false}
use Rattle.ficus_path.proofs.CutLaws.{IsFreeOf}
use Rattle.ficus_script.specs.Line.{AddsLine}
use Rattle.ficus_script.specs.Script.{lines_of, is_kept, is_passed_over, AreLines, IsFirstBad, MayStand}

abbrev pub AreFree : List ℕ → Type 0
AreFree line = AllByRecursion (λ byte. byte ≢ 10) line

-- the first line goes up to the first byte 10
pub line_cut : (line rest : List ℕ) → AreFree line → lines_of (line ++ 10 ∷ rest) ≡ line ∷ lines_of rest
line_cut [] rest free = refl
line_cut (byte ∷ line) rest free =
    rw (ne_eqb byte 10 free.0) (ap (onto_first byte) (line_cut line rest free.1))

-- where there is none, all is one line
line_whole : (line : List ℕ) → 0 < length line → AreFree line → lines_of line ≡ line ∷ []
line_whole [] some free = absurd (omega arith)
line_whole (byte ∷ []) some free = rw (ne_eqb byte 10 free.0) refl
line_whole (byte ∷ next ∷ line) some free =
    rw (ne_eqb byte 10 free.0) (ap (onto_first byte) (line_whole (next ∷ line) (omega arith) free.1))

pub first_of_lines : (bytes line : List ℕ) (rest : Option (Bor (List ℕ))) (nothing : Bor (List ℕ)) → nothing.now ≡ [] →
    0 < length bytes → IsFreeOf 10 line → MatchOption rest (bytes ≡ line) (λ behind. bytes ≡ line ++ 10 ∷ behind.now) →
    lines_of bytes ≡ line ∷ lines_of (unwrap_or rest nothing).now
first_of_lines bytes line None nothing empty some free whole =
    let each = recursion_from_All (λ byte. byte ≢ 10) line free in
    ap lines_of whole ∙ line_whole line (omega (arith, ap length whole)) each ∙ sym (ap (λ (behind : List ℕ). line ∷ lines_of behind) empty)
first_of_lines bytes line (Some behind) nothing empty some free cut =
    ap lines_of cut ∙ line_cut line behind.now (recursion_from_All (λ byte. byte ≢ 10) line free)

module _ (may : List ℕ → Type 0) where
  -- The script is seen up to the rest: the lines before it may stand there.
  pub record IsSeenTo (bytes : List ℕ) (number : ℕ) (rest : List ℕ) : Type 0 where
    pub before : List (List ℕ)
    pub lines : lines_of bytes ≡ before ++ lines_of rest
    pub counted : number ≡ length before
    pub good : All may before
    pub within : number + length rest ≤ length bytes

  -- at first nothing is
  pub IsSeenTo-none : (bytes : List ℕ) → IsSeenTo bytes 0 bytes
  IsSeenTo-none bytes =
      record { before = []; lines = refl; counted = refl; good = All-nil may; within = omega arith }

  pub IsSeenTo-more : {bytes rest : List ℕ} {number : ℕ} (line others : List ℕ) → IsSeenTo bytes number rest →
      lines_of rest ≡ line ∷ lines_of others → length others < length rest → may line →
      IsSeenTo bytes (number + 1) others
  IsSeenTo-more line others so_far cut shorter good = record {
    before = so_far.before ++ line ∷ [];
    lines = so_far.lines ∙ ap (λ (lines : List (List ℕ)). so_far.before ++ lines) cut
        ∙ sym (append_assoc so_far.before (line ∷ []) (lines_of others));
    counted = omega (arith, so_far.counted, length-append so_far.before (line ∷ []));
    good = All-push may so_far.before line so_far.good good;
    within = omega (arith, so_far.within);
  }

  -- a line that may not stand there is the first such one
  pub first_bad : {bytes rest : List ℕ} {number : ℕ} (line others : List ℕ) → IsSeenTo bytes number rest →
      lines_of rest ≡ line ∷ lines_of others → (may line → ⊥) → IsFirstBad may bytes (number + 1)
  first_bad line others so_far cut bad = record {
    before = so_far.before;
    bad = line;
    behind = lines_of others;
    lines = so_far.lines ∙ ap (λ (lines : List (List ℕ)). so_far.before ++ lines) cut;
    counted = omega (arith, so_far.counted);
    each = so_far.good;
    no_line = bad;
  }

  -- where all is seen, all lines may
  pub all_seen : {bytes rest : List ℕ} {number : ℕ} → IsSeenTo bytes number rest → rest ≡ [] →
      All may (lines_of bytes)
  all_seen {rest} so_far end =
      let whole = so_far.lines ∙ ap (λ (rest : List ℕ). so_far.before ++ lines_of rest) end in
      rw (whole ∙ append-nil so_far.before) so_far.good

-- what is spelled, and then more
zip_append : {A B : Type 0} (R : A → B → Type 0) (xs more : List A) (ys others : List B) → AllZip R xs ys →
    AllZip R more others → AllZip R (xs ++ more) (ys ++ others)
zip_append R [] more [] others zip behind = behind
zip_append R [] more (y ∷ ys) others zip behind = absurd zip
zip_append R (x ∷ xs) more [] others zip behind = absurd zip
zip_append R (x ∷ xs) more (y ∷ ys) others zip behind = (zip.0, zip_append R xs more ys others zip.1 behind)

module _ {A : Type 0} (spells : A → List ℕ → Type 0) (is_spelled : List ℕ → Type 0) where
  -- It is read up to there: this is what the lines spell.
  pub record IsReadTo (bytes : List ℕ) (number : ℕ) (items : List A) (rest : List ℕ) : Type 0 where
    pub seen : IsSeenTo (MayStand is_spelled) bytes number rest
    pub spelled : AllZip spells items (filter is_kept seen.before)

  -- at first nothing is
  pub IsReadTo-none : (bytes : List ℕ) → IsReadTo bytes 0 [] bytes
  IsReadTo-none bytes = record {
    seen = record { before = []; lines = refl; counted = refl; good = All-nil (MayStand is_spelled); within = omega arith };
    spelled = tt;
  }

  pub IsReadTo-more : {bytes rest : List ℕ} {number : ℕ} {old new : List A} (line others : List ℕ) →
      IsReadTo bytes number old rest → lines_of rest ≡ line ∷ lines_of others → length others < length rest →
      AddsLine spells is_spelled line old new → IsReadTo bytes (number + 1) new others
  unfolding IsSeenTo-more
  IsReadTo-more {old} line others so_far cut shorter takes = record {
    seen = IsSeenTo-more (MayStand is_spelled) line others so_far.seen cut shorter takes.good;
    spelled = rw (filter-append, takes.added)
        (zip_append spells old takes.more (filter is_kept so_far.seen.before) (filter is_kept (line ∷ [])) so_far.spelled
        takes.spelled);
  }

  -- where all is read, these are the lines
  pub all_read : {bytes rest : List ℕ} {number : ℕ} {items : List A} → IsReadTo bytes number items rest → rest ≡ [] →
      AreLines spells bytes items
  all_read {rest} {items} so_far end =
      let whole = so_far.seen.lines ∙ ap (λ (rest : List ℕ). so_far.seen.before ++ lines_of rest) end in
      rw (whole ∙ append-nil so_far.seen.before) so_far.spelled

-- a line that isn't passed over comes behind the others
pub adds_line : {A : Type 0} (spells : A → List ℕ → Type 0) (is_spelled : List ℕ → Type 0) (line : List ℕ)
    (old new : List A) (one : A) → is_passed_over line ≡ false → new ≡ old ++ one ∷ [] → spells one line →
    is_spelled line → AddsLine spells is_spelled line old new
adds_line spells is_spelled line old new one kept added spelled may = record {
  more = one ∷ [];
  added = added;
  spelled = rw kept (spelled, tt);
  good = inr may;
}

-- what holds on `Ok` holds where the same call with its error changed is `Ok`
pub from_ok : {T E F P : Type 0} (result : Result T E) (changed : Result T F) (value : T) → changed ≡ Ok value →
    is_ok changed ≡ is_ok result → OnOk result P → P
from_ok (Ok x) changed value was same holds = holds
from_ok (Err e) changed value was same holds = absurd (true≢false (ap is_ok (sym was) ∙ same))
