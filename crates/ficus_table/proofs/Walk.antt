-- A walk along two rising lists, the lower identifier first. `i` and `j` are how far it has come.
use Rattle.std.proofs.Common.{◌≡◌, ℕ, ◌+◌, ◌<◌, ◌≤◌, List, [], ◌∷◌, ◌++◌, length, take, get_or, slice_get, Option, Some, None, false, is_some, option_copied, Bor, Ordering, Less, Equal, Greater, Contains, sym, subst, ◌∙◌, ap, ap₂, inl, inr, refl, arith, add-zero, length-take, get_or-take}
use Rattle.std.proofs.lemmas.Bool.{cases_lt}
use Rattle.std.proofs.lemmas.List.{take_more, take_all, append-nil}
use Rattle.std.proofs.lemmas.Option.{get_or_from_slice_get, slice_get_cases, slice_get_within}
use Rattle.std.specs.Int.{from_bool}
use Rattle.std.specs.Ordering.{MatchOrdering}
use Rattle.ficus_ids.specs.declared.id.Id.{Id}
use Rattle.ficus_ids.specs.Id.{id_cmp}
use Rattle.ficus_ids.specs.IdLaws.{id_cmp_total, id_cmp-Equal, id_cmp-flip_back, not_below_itself}
use Rattle.ficus_ids.specs.Rising.{IsRisingBy, HoldsBy, HoldsUnderBy}
use Rattle.ficus_table.specs.SideBySide.{as_list, Passes, ArePassed, AreLowest}
use Rattle.ficus_table.specs.Walk.{IsBelow, IsWalked, sides_at}

-- how far the walk goes on in a list of which this is taken
abbrev pub taken : {S : Type 0} → Option S → ℕ
taken item = from_bool (is_some item)

pub taken-copied : {S : Type 0} (item : Option (Bor S)) → taken (option_copied item) ≡ from_bool (is_some item)
taken-copied None = refl
taken-copied (Some item) = refl

pub copied_none : {S : Type 0} (item : Option (Bor S)) → option_copied item ≡ None → is_some item ≡ false
copied_none None none = refl
copied_none (Some item) none = cc

module _ {S : Type 0} (id_of : S → Id) where
  -- what is known of the items that the walk takes next
  record Step (mine theirs : List S) (i j : ℕ) (at_mine at_theirs : Option S) : Type 0 where
    id : Id
    mine_holds : HoldsUnderBy id_of mine id at_mine
    theirs_holds : HoldsUnderBy id_of theirs id at_theirs
    mine_lower : (item : S) → Contains (take i mine) item → id_cmp (id_of item) id ≡ Less
    theirs_lower : (item : S) → Contains (take j theirs) item → id_cmp (id_of item) id ≡ Less
    mine_takes : take (i + taken at_mine) mine ≡ take i mine ++ as_list at_mine
    theirs_takes : take (j + taken at_theirs) theirs ≡ take j theirs ++ as_list at_theirs
    mine_below : IsBelow id_of mine (i + taken at_mine) theirs (j + taken at_theirs)
    theirs_below : IsBelow id_of theirs (j + taken at_theirs) mine (i + taken at_mine)
    mine_within : i + taken at_mine ≤ length mine
    theirs_within : j + taken at_theirs ≤ length theirs
    goes_on : 1 ≤ taken at_mine + taken at_theirs

  Step-flip : (mine theirs : List S) (i j : ℕ) (at_mine at_theirs : Option S) → Step mine theirs i j at_mine at_theirs →
      Step theirs mine j i at_theirs at_mine
  Step-flip mine theirs i j at_mine at_theirs step = record {
    id = step.id;
    mine_holds = step.theirs_holds;
    theirs_holds = step.mine_holds;
    mine_lower = step.theirs_lower;
    theirs_lower = step.mine_lower;
    mine_takes = step.theirs_takes;
    theirs_takes = step.mine_takes;
    mine_below = step.theirs_below;
    theirs_below = step.mine_below;
    mine_within = step.theirs_within;
    theirs_within = step.mine_within;
    goes_on = omega (arith, step.goes_on);
  }

  -- the items after the next one are above it
  next_below : (ys : List S) (j : ℕ) (y : S) → IsRisingBy id_of ys → slice_get ys j ≡ Some y → (l : ℕ) (d : S) →
      j + 1 ≤ l → l < length ys → id_cmp (id_of y) (id_of (get_or ys l d)) ≡ Less
  next_below ys j y rising is_next l d from within =
      subst (λ e. id_cmp (id_of e) (id_of (get_or ys l d)) ≡ Less) (get_or_from_slice_get ys j y d is_next)
      (rising.each j l d (omega arith) within)

  -- what is below the next item is below all that follow it
  below_rest : (id : Id) (ys : List S) (j : ℕ) (y : S) → IsRisingBy id_of ys → slice_get ys j ≡ Some y →
      id_cmp id (id_of y) ≡ Less → (l : ℕ) (d : S) → j ≤ l → l < length ys → id_cmp id (id_of (get_or ys l d)) ≡ Less
  below_rest id ys j y rising is_next below l d from within =
      elim (cases_lt j l) [
        | inl later ↦ id_cmp_total.trans id (id_of y) (id_of (get_or ys l d)) below
            (next_below ys j y rising is_next l d (omega arith) within)
        | inr not_later ↦
            let at : l ≡ j = omega arith in
            rw (at, get_or_from_slice_get ys j y d is_next) below
      ]

  -- an item that was taken is below one that is left
  lower_taken : (xs : List S) (i : ℕ) (x : S) (ys : List S) (j : ℕ) → IsBelow id_of ys j xs i →
      slice_get xs i ≡ Some x → (item : S) → Contains (take j ys) item → id_cmp (id_of item) (id_of x) ≡ Less
  lower_taken xs i x ys j below is_next item (k, within, is_item) =
      let before : k < j = omega (arith, length-take j ys, within) in
      let is : get_or ys k item ≡ item = sym (get_or-take j ys k item before) ∙ is_item in
      let less = below k i item before (omega arith) (slice_get_within xs i x is_next) in
      let at_item = subst (λ e. id_cmp (id_of e) (id_of (get_or xs i item)) ≡ Less) is less in
      subst (λ e. id_cmp (id_of item) (id_of e) ≡ Less) (get_or_from_slice_get xs i x item is_next) at_item

  below_itself : (xs : List S) (i : ℕ) → IsRisingBy id_of xs → IsBelow id_of xs i xs i
  below_itself xs i rising k l d to from within = rising.each k l d (omega arith) within

  takes_next : (xs : List S) (i : ℕ) (x : S) → slice_get xs i ≡ Some x → take (i + 1) xs ≡ take i xs ++ x ∷ []
  takes_next xs i x is_next =
      take_more xs i x (slice_get_within xs i x is_next) ∙ ap (λ e. take i xs ++ e ∷ [])
      (get_or_from_slice_get xs i x x is_next)

  below_more : (xs : List S) (i : ℕ) (x : S) (ys : List S) (j : ℕ) → IsBelow id_of xs i ys j →
      slice_get xs i ≡ Some x →
      ((l : ℕ) (d : S) → j ≤ l → l < length ys → id_cmp (id_of x) (id_of (get_or ys l d)) ≡ Less) →
      IsBelow id_of xs (i + 1) ys j
  below_more xs i x ys j below is_next lowest k l d to from within =
      elim (cases_lt k i) [
        | inl before ↦ below k l d before from within
        | inr not_before ↦
            let at : k ≡ i = omega arith in
            rw (at, get_or_from_slice_get xs i x d is_next) (lowest l d from within)
      ]

  below_later : (xs : List S) (i : ℕ) (ys : List S) (j later : ℕ) → j ≤ later → IsBelow id_of xs i ys j →
      IsBelow id_of xs i ys later
  below_later xs i ys j later after below k l d to from within = below k l d to (omega arith) within

  -- nothing is left where nothing comes next
  not_past : (xs : List S) (i l : ℕ) → slice_get xs i ≡ None → i ≤ l → l < length xs → ⊥
  not_past xs i l ended from within =
      elim (slice_get_cases xs i).1 [ inl some ↦ cc (some.2, ended) | inr past ↦ omega (arith, past.0) ]

  holds_next : (xs : List S) (i : ℕ) (x : S) → slice_get xs i ≡ Some x → HoldsUnderBy id_of xs (id_of x) (Some x)
  holds_next xs i x is_next = ((i, slice_get_within xs i x is_next, get_or_from_slice_get xs i x x is_next), refl)

  -- no item has an identifier that is above all that were taken and below all that are left
  holds_none : (id : Id) (ys : List S) (j : ℕ) →
      ((item : S) → Contains (take j ys) item → id_cmp (id_of item) id ≡ Less) →
      ((l : ℕ) (d : S) → j ≤ l → l < length ys → id_cmp id (id_of (get_or ys l d)) ≡ Less) → HoldsBy id_of ys id → ⊥
  holds_none id ys j lower below held =
      let k = held.inside.0 in
      elim (cases_lt k j) [
        | inl before ↦
            let inside : Contains (take j ys) held.item =
            (k, omega (arith, length-take j ys, held.inside.1), get_or-take j ys k held.item before ∙ held.inside.2) in
            not_below_itself id (subst (λ i. id_cmp i id ≡ Less) held.has_id (lower held.item inside))
        | inr later ↦ not_below_itself id
            (subst (λ i. id_cmp id i ≡ Less) (ap id_of held.inside.2 ∙ held.has_id)
            (below k held.item later held.inside.1))
      ]

  -- only mine comes next
  take_mine : (mine theirs : List S) (i j : ℕ) (x : S) → IsWalked id_of mine theirs i j → slice_get mine i ≡ Some x →
      ((l : ℕ) (d : S) → j ≤ l → l < length theirs → id_cmp (id_of x) (id_of (get_or theirs l d)) ≡ Less) →
      Step mine theirs i j (Some x) None
  take_mine mine theirs i j x walked is_next lowest = record {
    id = id_of x;
    mine_holds = holds_next mine i x is_next;
    theirs_holds = holds_none (id_of x) theirs j (lower_taken mine i x theirs j walked.theirs_below is_next) lowest;
    mine_lower = lower_taken mine i x mine i (below_itself mine i walked.mine_rises) is_next;
    theirs_lower = lower_taken mine i x theirs j walked.theirs_below is_next;
    mine_takes = takes_next mine i x is_next;
    theirs_takes = rw add-zero (sym (append-nil (take j theirs)));
    mine_below = below_later mine (i + 1) theirs j (j + 0) (omega arith)
        (below_more mine i x theirs j walked.mine_below is_next lowest);
    theirs_below = λ k l d to from within. walked.theirs_below k l d (omega arith) (omega arith) within;
    mine_within = omega (arith, slice_get_within mine i x is_next);
    theirs_within = omega (arith, walked.theirs_within);
    goes_on = omega arith;
  }

  IsWalked-flip : (mine theirs : List S) (i j : ℕ) → IsWalked id_of mine theirs i j → IsWalked id_of theirs mine j i
  IsWalked-flip mine theirs i j walked = record {
    mine_rises = walked.theirs_rises;
    theirs_rises = walked.mine_rises;
    mine_within = walked.theirs_within;
    theirs_within = walked.mine_within;
    mine_below = walked.theirs_below;
    theirs_below = walked.mine_below;
  }

  take_theirs : (mine theirs : List S) (i j : ℕ) (y : S) → IsWalked id_of mine theirs i j →
      slice_get theirs j ≡ Some y →
      ((l : ℕ) (d : S) → i ≤ l → l < length mine → id_cmp (id_of y) (id_of (get_or mine l d)) ≡ Less) →
      Step mine theirs i j None (Some y)
  take_theirs mine theirs i j y walked is_next lowest =
      Step-flip theirs mine j i (Some y) None
      (take_mine theirs mine j i y (IsWalked-flip mine theirs i j walked) is_next lowest)

  take_both : (mine theirs : List S) (i j : ℕ) (x y : S) → IsWalked id_of mine theirs i j →
      slice_get mine i ≡ Some x → slice_get theirs j ≡ Some y → id_of x ≡ id_of y →
      Step mine theirs i j (Some x) (Some y)
  take_both mine theirs i j x y walked mine_next theirs_next same = record {
    id = id_of x;
    mine_holds = holds_next mine i x mine_next;
    theirs_holds = ((holds_next theirs j y theirs_next).0, sym same);
    mine_lower = lower_taken mine i x mine i (below_itself mine i walked.mine_rises) mine_next;
    theirs_lower = lower_taken mine i x theirs j walked.theirs_below mine_next;
    mine_takes = takes_next mine i x mine_next;
    theirs_takes = takes_next theirs j y theirs_next;
    mine_below = below_more mine i x theirs (j + 1)
        (below_later mine i theirs j (j + 1) (omega arith) walked.mine_below) mine_next
        (λ l d from within. rw same (next_below theirs j y walked.theirs_rises theirs_next l d from within));
    theirs_below = below_more theirs j y mine (i + 1)
        (below_later theirs j mine i (i + 1) (omega arith) walked.theirs_below) theirs_next
        (λ l d from within. rw (← same) (next_below mine i x walked.mine_rises mine_next l d from within));
    mine_within = omega (arith, slice_get_within mine i x mine_next);
    theirs_within = omega (arith, slice_get_within theirs j y theirs_next);
    goes_on = omega arith;
  }

  -- both come next, one of them with the lower identifier
  take_lowest : (mine theirs : List S) (i j : ℕ) (x y : S) → IsWalked id_of mine theirs i j →
      slice_get mine i ≡ Some x → slice_get theirs j ≡ Some y → (order : Ordering) →
      id_cmp (id_of x) (id_of y) ≡ order → (at_mine at_theirs : Option S) →
      MatchOrdering order ((at_mine ≡ Some x) × (at_theirs ≡ None)) ((at_mine ≡ Some x) × (at_theirs ≡ Some y))
      ((at_mine ≡ None) × (at_theirs ≡ Some y)) → Step mine theirs i j at_mine at_theirs
  take_lowest mine theirs i j x y walked mine_next theirs_next Less order at_mine at_theirs lowest =
      rw (lowest.0, lowest.1) (take_mine mine theirs i j x walked mine_next
      (below_rest (id_of x) theirs j y walked.theirs_rises theirs_next order))
  take_lowest mine theirs i j x y walked mine_next theirs_next Equal order at_mine at_theirs lowest =
      rw (lowest.0, lowest.1) (take_both mine theirs i j x y walked mine_next theirs_next
      (id_cmp-Equal (id_of x) (id_of y) order))
  take_lowest mine theirs i j x y walked mine_next theirs_next Greater order at_mine at_theirs lowest =
      rw (lowest.0, lowest.1) (take_theirs mine theirs i j y walked theirs_next
      (below_rest (id_of y) mine i x walked.mine_rises mine_next (id_cmp-flip_back (id_of x) (id_of y) order)))

  -- one step of the walk
  step : (mine theirs : List S) (i j : ℕ) (next_mine next_theirs at_mine at_theirs : Option S) →
      IsWalked id_of mine theirs i j → slice_get mine i ≡ next_mine → slice_get theirs j ≡ next_theirs →
      AreLowest id_of next_mine next_theirs at_mine at_theirs → (next_mine ≡ None → next_theirs ≡ None → ⊥) →
      Step mine theirs i j at_mine at_theirs
  step mine theirs i j (Some x) (Some y) at_mine at_theirs walked mine_next theirs_next lowest some =
      take_lowest mine theirs i j x y walked mine_next theirs_next (id_cmp (id_of x) (id_of y)) refl at_mine at_theirs
      lowest
  step mine theirs i j (Some x) None at_mine at_theirs walked mine_next theirs_next lowest some =
      rw (lowest.0, lowest.1) (take_mine mine theirs i j x walked mine_next
      (λ l d from within. absurd (not_past theirs j l theirs_next from within)))
  step mine theirs i j None (Some y) at_mine at_theirs walked mine_next theirs_next lowest some =
      rw (lowest.0, lowest.1) (take_theirs mine theirs i j y walked theirs_next
      (λ l d from within. absurd (not_past mine i l mine_next from within)))
  step mine theirs i j None None at_mine at_theirs walked mine_next theirs_next lowest some = absurd (some refl refl)

  pub walk_starts : (mine theirs : List S) → IsRisingBy id_of mine → IsRisingBy id_of theirs →
      IsWalked id_of mine theirs 0 0
  walk_starts mine theirs mine_rises theirs_rises = record {
    mine_rises = mine_rises;
    theirs_rises = theirs_rises;
    mine_within = omega arith;
    theirs_within = omega arith;
    mine_below = λ k l d to from within. absurd (omega arith);
    theirs_below = λ k l d to from within. absurd (omega arith);
  }

  module _ (mine theirs : List S) (i j next_i next_j : ℕ) (next_mine next_theirs at_mine at_theirs : Option S)
      (walked : IsWalked id_of mine theirs i j) (mine_next : slice_get mine i ≡ next_mine)
      (theirs_next : slice_get theirs j ≡ next_theirs)
      (lowest : AreLowest id_of next_mine next_theirs at_mine at_theirs)
      (some : next_mine ≡ None → next_theirs ≡ None → ⊥) (to_i : next_i ≡ i + taken at_mine)
      (to_j : next_j ≡ j + taken at_theirs) where
    the_step : Step mine theirs i j at_mine at_theirs
    the_step =
        step mine theirs i j next_mine next_theirs at_mine at_theirs walked mine_next theirs_next lowest some

    -- the walk has come on
    pub walked_on : IsWalked id_of mine theirs next_i next_j
    walked_on = rw (to_i, to_j) (record {
      mine_rises = walked.mine_rises;
      theirs_rises = walked.theirs_rises;
      mine_within = the_step.mine_within;
      theirs_within = the_step.theirs_within;
      mine_below = the_step.mine_below;
      theirs_below = the_step.theirs_below;
    })

    pub passes_on : Passes id_of (sides_at mine theirs i j) (sides_at mine theirs next_i next_j) at_mine at_theirs
    passes_on =
        let s = the_step in
        rw (to_i, to_j) (record {
          id = s.id;
          mine_holds = s.mine_holds;
          theirs_holds = s.theirs_holds;
          above_mine = s.mine_lower;
          above_theirs = s.theirs_lower;
          is = ap₂ (λ front behind. record {
            mine = mine;
            theirs = theirs;
            mine_passed = front;
            theirs_passed = behind;
          }) s.mine_takes s.theirs_takes;
          fewer = omega (
            arith,
            s.goes_on,
            s.mine_within,
            s.theirs_within,
            length-take i mine,
            length-take j theirs,
            length-take (i + taken at_mine) mine,
            length-take (j + taken at_theirs) theirs,
          );
        })

  -- where nothing comes next, all were passed
  pub all_passed : (mine theirs : List S) (i j : ℕ) → slice_get mine i ≡ None → slice_get theirs j ≡ None →
      ArePassed (sides_at mine theirs i j)
  all_passed mine theirs i j mine_ended theirs_ended = record {
    mine = take_all i mine (ended mine i mine_ended);
    theirs = take_all j theirs (ended theirs j theirs_ended);
  }
    where
      ended : (xs : List S) (k : ℕ) → slice_get xs k ≡ None → length xs ≤ k
      ended xs k none = elim (cases_lt k (length xs)) [
        | inl some ↦ absurd (not_past xs k k none (omega arith) some)
        | inr past ↦ past
      ]
