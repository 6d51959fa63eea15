-- Two runs side by side.
use Rattle.std.proofs.Common.{◌≡◌, ℕ, zero, suc, ◌+◌, ◌<◌, ◌≤◌, Bool, true, false, List, [], ◌∷◌, ◌++◌, length, take, drop, slice_get, Option, Some, None, is_some, refl, sym, ◌∙◌, ap, subst, arith, length-drop}
use Rattle.std.specs.Prelude.{◌||◌}
use Rattle.std.specs.Int.{from_bool}
use Rattle.std.proofs.lemmas.List.{append-nil, length-take-le, take-append-drop}
use Rattle.ficus_entry.specs.Entry.{IsRising}
use Rattle.ficus_entry.specs.declared.entry.Entry.{Entry}
use Rattle.ficus_table.specs.SideBySide.{AreLowest, Passes, as_list}
use Rattle.ficus_table.specs.Walk.{IsWalked, sides_at}
use Rattle.ficus_table.proofs.Made.{IsMadeSoFar, made_end, made_more, made_start}
use Rattle.ficus_table.proofs.Walk.{passes_on, taken, walk_starts, walked_on}
use Rattle.ficus_table.specs.Made.{IsMadeBy}
use Rattle.ficus_merge_entries.specs.Merge.{MergesEntries}
use Rattle.ficus_entry.specs.Run.{Takes}
use Rattle.ficus_merge_entries.specs.Runs.{id_of, kept_if}
use Rattle.ficus_merge_entries.specs.Table.{MergesEntry}
use Rattle.ficus_merge_entries.proofs.Replacing.{after_has_id, nothing_merges}

slice_drop : (whole : List Entry) (i : ℕ) → slice_get whole i ≡ slice_get (drop i whole) 0
slice_drop [] zero = refl
slice_drop [] (suc i) = refl
slice_drop (x ∷ xs) zero = refl
slice_drop (x ∷ xs) (suc i) = slice_drop xs i

drop_next : (whole : List Entry) (i : ℕ) → drop 1 (drop i whole) ≡ drop (suc i) whole
drop_next [] zero = refl
drop_next [] (suc i) = refl
drop_next (x ∷ xs) zero = refl
drop_next (x ∷ xs) (suc i) = drop_next xs i

-- the entry in hand is the one at the place
pub at_slice : (whole : List Entry) (i : ℕ) (left : List Entry) (head : Option Entry) → Takes (drop i whole) left head
    → slice_get whole i ≡ head
at_slice whole i left None takes = slice_drop whole i ∙ ap (λ (l : List Entry). slice_get l 0) (takes.is ∙ takes.none refl)
at_slice whole i left (Some x) takes = slice_drop whole i ∙ ap (λ (l : List Entry). slice_get l 0) takes.is

pub left_is : (whole : List Entry) (i : ℕ) (left : List Entry) (head : Option Entry) → is_some head ≡ true
    → Takes (drop i whole) left head → left ≡ drop (i + 1) whole
left_is whole i left None some takes = absurd (cc)
left_is whole i left (Some x) some takes =
    sym (ap (λ (l : List Entry). drop 1 l) takes.is) ∙ drop_next whole i
    ∙ ap (λ (n : ℕ). drop n whole) (let e : suc i ≡ i + 1 = omega arith in e)

-- one more is taken, or none
pub takes_on : (whole : List Entry) (i : ℕ) (left after : List Entry) (head next : Option Entry)
    → Takes (drop i whole) left head → is_some head ≡ true → Takes left after next
    → Takes (drop (i + 1) whole) after next
takes_on whole i left after head next takes some first =
    subst (λ (l : List Entry). Takes l after next) (left_is whole i left head some takes) first

length_left : (whole : List Entry) (i : ℕ) → i ≤ length whole → length (drop i whole) + i ≡ length whole
length_left whole i le = omega (arith, length-drop i whole)

-- how far the merge has come
pub record IsMerging (me members : ℕ) (mine theirs : List Entry) (i j : ℕ) (my their : Option Entry)
    (left_mine left_theirs made : List Entry) : Type 0 where
  pub walked : IsWalked id_of mine theirs i j
  pub at_mine : Takes (drop i mine) left_mine my
  pub at_theirs : Takes (drop j theirs) left_theirs their
  pub so_far : IsMadeSoFar id_of (MergesEntry me members) (sides_at mine theirs i j) made

pub record IsPaired (me members : ℕ) (mine theirs : List Entry) (calls_mine calls_theirs : ℕ) (my their : Option Entry)
    (left_mine left_theirs made : List Entry) (now_mine now_theirs : ℕ) : Type 0 where
  pub i : ℕ
  pub j : ℕ
  pub merging : IsMerging me members mine theirs i j my their left_mine left_theirs made
  pub mine_calls : now_mine ≤ calls_mine + i
  pub their_calls : now_theirs ≤ calls_theirs + j

pub merge_starts : (me members : ℕ) (mine theirs : List Entry) (my their : Option Entry)
    (left_mine left_theirs : List Entry) → IsRising mine → IsRising theirs → Takes mine left_mine my
    → Takes theirs left_theirs their → IsMerging me members mine theirs 0 0 my their left_mine left_theirs []
merge_starts me members mine theirs my their left_mine left_theirs rising rising_too first second =
    let walked = walk_starts id_of mine theirs rising rising_too in
    record {
      walked = walked;
      at_mine = first;
      at_theirs = second;
      so_far = made_start id_of (MergesEntry me members) (sides_at mine theirs 0 0)
          (record { mine = rising; theirs = rising_too }) refl refl;
    }

taken_kept : (is_kept : Bool) (item : Option Entry) → is_some (kept_if is_kept item) ≡ is_kept
    → taken (kept_if is_kept item) ≡ from_bool is_kept
taken_kept is_kept item is = ap from_bool is

module _ (me members : ℕ) (mine theirs : List Entry) (i j : ℕ) (my their : Option Entry)
    (left_mine left_theirs made : List Entry)
    (merging : IsMerging me members mine theirs i j my their left_mine left_theirs made) (a b : Bool)
    (lowest : AreLowest id_of my their (kept_if a my) (kept_if b their)) (is_a : is_some (kept_if a my) ≡ a)
    (is_b : is_some (kept_if b their) ≡ b) (some : my ≡ None → their ≡ None → ⊥) where
  next_i : i + from_bool a ≡ i + taken (kept_if a my)
  next_i = ap (λ (n : ℕ). i + n) (sym (taken_kept a my is_a))

  next_j : j + from_bool b ≡ j + taken (kept_if b their)
  next_j = ap (λ (n : ℕ). j + n) (sym (taken_kept b their is_b))

  pub on : IsWalked id_of mine theirs (i + from_bool a) (j + from_bool b)
  on =
      walked_on id_of mine theirs i j (i + from_bool a) (j + from_bool b) my their (kept_if a my) (kept_if b their)
      merging.walked (at_slice mine i left_mine my merging.at_mine) (at_slice theirs j left_theirs their merging.at_theirs)
      lowest some next_i next_j

  pub passes : Passes id_of (sides_at mine theirs i j) (sides_at mine theirs (i + from_bool a) (j + from_bool b))
      (kept_if a my) (kept_if b their)
  passes =
      passes_on id_of mine theirs i j (i + from_bool a) (j + from_bool b) my their (kept_if a my) (kept_if b their)
      merging.walked (at_slice mine i left_mine my merging.at_mine) (at_slice theirs j left_theirs their merging.at_theirs)
      lowest some next_i next_j

  pub merge_more : (after my_next their_next : Option Entry) (rest_mine rest_theirs : List Entry)
      → MergesEntry me members (kept_if a my) (kept_if b their) after
      → Takes (drop (i + from_bool a) mine) rest_mine my_next → Takes (drop (j + from_bool b) theirs) rest_theirs their_next
      → IsMerging me members mine theirs (i + from_bool a) (j + from_bool b) my_next their_next rest_mine rest_theirs
      (made ++ as_list after)
  merge_more after my_next their_next rest_mine rest_theirs merges first second = record {
    walked = on;
    at_mine = first;
    at_theirs = second;
    so_far = made_more id_of (MergesEntry me members) (sides_at mine theirs i j)
        (sides_at mine theirs (i + from_bool a) (j + from_bool b)) (kept_if a my) (kept_if b their) after made passes
        merging.so_far merges
        (λ id mine_has theirs_has. after_has_id me members (kept_if a my) (kept_if b their) after id merges mine_has
        theirs_has);
  }

  pub fewer : length (drop (i + from_bool a) mine) + length (drop (j + from_bool b) theirs)
      < length (drop i mine) + length (drop j theirs)
  fewer =
      let less = passes.fewer in
      omega (
        arith,
        less,
        length-take-le i mine merging.walked.mine_within,
        length-take-le j theirs merging.walked.theirs_within,
        length-take-le (i + from_bool a) mine on.mine_within,
        length-take-le (j + from_bool b) theirs on.theirs_within,
        length_left mine i merging.walked.mine_within,
        length_left theirs j merging.walked.theirs_within,
        length_left mine (i + from_bool a) on.mine_within,
        length_left theirs (j + from_bool b) on.theirs_within,
      )

  pub smaller : (my_next their_next : Option Entry) (rest_mine rest_theirs : List Entry)
      → Takes (drop (i + from_bool a) mine) rest_mine my_next → Takes (drop (j + from_bool b) theirs) rest_theirs their_next
      → length (as_list my_next ++ rest_mine) + length (as_list their_next ++ rest_theirs)
      < length (as_list my ++ left_mine) + length (as_list their ++ left_theirs)
  smaller my_next their_next rest_mine rest_theirs first second =
      omega (
        arith,
        fewer,
        ap length first.is,
        ap length second.is,
        ap length merging.at_mine.is,
        ap length merging.at_theirs.is,
      )

pub some_left : (x y : Option Entry) → (is_some x || is_some y) ≡ true → x ≡ None → y ≡ None → ⊥
some_left None None is a b = cc
some_left (Some x) y is a b = cc
some_left None (Some y) is a b = cc

pub none_left : (x y : Option Entry) → (is_some x || is_some y) ≡ false → (x ≡ None) × (y ≡ None)
none_left None None is = (refl, refl)
none_left (Some x) y is = absurd (cc)
none_left None (Some y) is = absurd (cc)

passed_all : (whole : List Entry) (i : ℕ) (left : List Entry) → Takes (drop i whole) left None → take i whole ≡ whole
passed_all whole i left takes =
    sym (append-nil (take i whole)) ∙ ap (λ (l : List Entry). take i whole ++ l) (sym (takes.is ∙ takes.none refl))
    ∙ take-append-drop i whole

pub merge_ends : (me members : ℕ) (mine theirs : List Entry) (i j : ℕ) (my their : Option Entry)
    (left_mine left_theirs made : List Entry)
    → IsMerging me members mine theirs i j my their left_mine left_theirs made → my ≡ None → their ≡ None
    → IsMadeBy id_of (MergesEntry me members) mine theirs made
merge_ends me members mine theirs i j my their left_mine left_theirs made merging none none_too =
    made_end id_of (MergesEntry me members) (sides_at mine theirs i j) made merging.so_far
    (record {
      mine = passed_all mine i left_mine (subst (λ (h : Option Entry). Takes (drop i mine) left_mine h) none merging.at_mine);
      theirs = passed_all theirs j left_theirs
          (subst (λ (h : Option Entry). Takes (drop j theirs) left_theirs h) none_too merging.at_theirs);
    })
    (nothing_merges me members)

pub merges_where_made : (me members : ℕ) (mine theirs made built : List Entry)
    → IsMadeBy id_of (MergesEntry me members) mine theirs made → built ≡ made
    → MergesEntries me members mine theirs built
merges_where_made me members mine theirs made built is same =
    subst (λ (l : List Entry). MergesEntries me members mine theirs l) (sym same) (record { each = is.each })
