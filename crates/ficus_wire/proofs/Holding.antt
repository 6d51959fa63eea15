-- Parts that are held: how many there are, one more, and the whole.
use Rattle.std.proofs.Common.{◌≡◌, ℕ, zero, suc, ◌+◌, ◌-◌, ◌<◌, ◌≤◌, List, [], ◌∷◌, ◌++◌, length, map, refl, sym, ap, subst, ◌∙◌, inl, inr, arith}
use Rattle.std.specs.Prelude.{◌≢◌, Option, Some, None, IsSome, slice_get}
use Rattle.std.specs.List.{concat, range_with_len}
use Rattle.std.specs.BTreeMap.{is_at}
use Rattle.std.specs.Option.{is_some, option_map, unwrap_or}
use Rattle.std.specs.Ordering.{nat_cmp}
use Rattle.std.proofs.lemmas.Bool.{cases_order}
use Rattle.std.proofs.lemmas.Map.Made.{lookup-map_values}
use Rattle.std.proofs.lemmas.List.FromFn.{length-map-range_with_len, map-range_with_len_more}
use Rattle.std.proofs.lemmas.List.Folds.{concat-append}
use Rattle.std.proofs.lemmas.List.{append-nil}
use Rattle.ficus_formats.specs.Pieces.{piece_at, piece_count}
use Rattle.ficus_formats.proofs.Joining.{joins}
use Rattle.ficus_wire.proofs.Rising.{at, few, full, enough, still_rises, here, elsewhere, one_more}
use Rattle.ficus_wire.specs.Parts.{HasAll, HasAllBut, HasPart, HeldParts, RisesFrom, joined, part_at, with_part}

none_at : {X : Type 0} (found : Option X) → (IsSome found → ⊥) → found ≡ None
none_at None lacks = refl
none_at (Some x) lacks = absurd (lacks refl)

-- the piece that was added is held, and all others as before
pub part_here : (p : HeldParts) (index : ℕ) (bytes : List ℕ) → part_at (with_part p index bytes) index ≡ Some bytes
part_here p index bytes = here index bytes p.have

pub part_elsewhere : (p : HeldParts) (index : ℕ) (bytes : List ℕ) (other : ℕ) → other ≢ index →
    part_at (with_part p index bytes) other ≡ part_at p other
part_elsewhere p index bytes other apart = elsewhere index bytes other p.have apart

-- it is one more
pub one_more_part : (p : HeldParts) (index : ℕ) (bytes : List ℕ) → (HasPart p index → ⊥) →
    length (with_part p index bytes).have ≡ length p.have + 1
one_more_part p index bytes lacks = one_more index bytes p.have (none_at (part_at p index) lacks)

module _ (p : HeldParts) (rises : RisesFrom 0 p.pieces p.have) where
  pub few_parts : length p.have ≤ p.pieces
  few_parts = omega (arith, few 0 p.pieces p.have (omega arith) rises)

  pub all_counted : p.pieces ≤ length p.have → HasAll p
  all_counted count index below =
      full 0 p.pieces p.have rises (omega (arith, count, few_parts)) index (omega arith) below

  pub counted_all : HasAll p → p.pieces ≤ length p.have
  counted_all all = omega (arith, enough 0 p.pieces p.have rises (λ index from below. all index below))

module _ (p : HeldParts) (index : ℕ) (rises : RisesFrom 0 p.pieces p.have) (below : index < p.pieces)
    (lacks : HasPart p index → ⊥) where
  abbrev more : HeldParts
  more = with_part p index []

  more_rises : RisesFrom 0 p.pieces more.have
  more_rises = still_rises index [] 0 p.pieces p.have (omega arith) below rises

  count : length more.have ≡ length p.have + 1
  count = one_more_part p index [] lacks

  -- one is missing exactly where one more would be all
  pub all_but_counted : length p.have ≡ p.pieces - 1 → HasAllBut p index
  all_but_counted is other within apart =
      subst IsSome (part_elsewhere p index [] other apart)
      (all_counted more more_rises (omega (arith, is, count, below)) other within)

  has_more : HasAllBut p index → HasAll more
  has_more all other within = elim (cases_order other index) [
    | inl is ↦ subst (λ (n : ℕ). IsSome (part_at more n)) (sym is) (subst IsSome (sym (part_here p index [])) refl)
    | inr (inl is) ↦
        let apart : other ≢ index = λ same. omega (arith, same, is) in
        subst IsSome (sym (part_elsewhere p index [] other apart)) (all other within apart)
    | inr (inr is) ↦
        let apart : other ≢ index = λ same. omega (arith, same, is) in
        subst IsSome (sym (part_elsewhere p index [] other apart)) (all other within apart)
  ]

  pub counted_all_but : HasAllBut p index → length p.have ≡ p.pieces - 1
  counted_all_but all =
      let enough = counted_all more more_rises (has_more all) in
      let most = few_parts more more_rises in
      omega (arith, enough, most, count)

-- what stands in a list that is made by indexes
made_at : {X : Type 0} (f : ℕ → X) (first count index : ℕ) (x : X) → slice_get (map f (range_with_len first count)) index ≡ Some x →
    (x ≡ f (first + index)) × (index < count)
made_at f first zero index x is = absurd cc
made_at f first (suc count) zero x is = (let e : first + 0 ≡ first = omega arith in rw e (cc is), omega arith)
made_at f first (suc count) (suc index) x is =
    let rest = made_at f (first + 1) count index x is in
    (rest.0 ∙ ap f (omega arith), omega (arith, rest.1))

-- the bytes of the first so many pieces, and of one more
abbrev pub front : HeldParts → ℕ → List ℕ
front p count = concat (map (λ index. unwrap_or (part_at p index) []) (range_with_len 0 count))

pub front_more : (p : HeldParts) (count : ℕ) → front p (count + 1) ≡ front p count ++ unwrap_or (part_at p count) []
front_more p count =
    ap concat (map-range_with_len_more (λ (index : ℕ). unwrap_or (part_at p index) []) 0 count count (omega arith))
    ∙ concat-append (map (λ (index : ℕ). unwrap_or (part_at p index) []) (range_with_len 0 count))
    (unwrap_or (part_at p count) [] ∷ [])
    ∙ ap (λ (last : List ℕ). front p count ++ last) (append-nil (unwrap_or (part_at p count) []))

-- all pieces of the same bytes are joined to them
pub joined_pieces : (bytes : List ℕ) (p : HeldParts) → p.pieces ≡ piece_count bytes → HasAll p →
    ((index : ℕ) (part : List ℕ) → part_at p index ≡ Some part → part ≡ piece_at bytes index) → joined p ≡ bytes
joined_pieces bytes p count all each =
    joins bytes (map (λ index. unwrap_or (part_at p index) []) (range_with_len 0 p.pieces)) (record {
      count = length-map-range_with_len (λ (index : ℕ). unwrap_or (part_at p index) []) 0 p.pieces ∙ count;
      each = λ index piece at.
          let found = made_at (λ (n : ℕ). unwrap_or (part_at p n) []) 0 p.pieces index piece at in
          found.0 ∙ ap (λ (n : ℕ). unwrap_or (part_at p n) []) (omega arith)
          ∙ held index (part_at p index) refl (all index found.1);
    }) where
      held : (index : ℕ) (found : Option (List ℕ)) → part_at p index ≡ found → IsSome found →
          unwrap_or found [] ≡ piece_at bytes index
      held index None is some = absurd cc
      held index (Some part) is some = each index part is

-- parts as the pairs that are kept, of which the bytes are made
module _ {X : Type 0} (bytes_of : X → List ℕ) (p : HeldParts) (pairs : List (ℕ × X))
    (is : map (λ pair. (pair.0, bytes_of pair.1)) pairs ≡ p.have) where
  pub part_kept : (index : ℕ) → part_at p index ≡ option_map bytes_of (at index pairs)
  part_kept index =
      ap (λ (have : List (ℕ × List ℕ)). at index have) (sym is) ∙ lookup-map_values bytes_of (is_at (nat_cmp index)) pairs

  pub has_kept : (index : ℕ) → is_some (part_at p index) ≡ is_some (at index pairs)
  has_kept index = ap is_some (part_kept index) ∙ some_made (at index pairs) where
    some_made : (found : Option X) → is_some (option_map bytes_of found) ≡ is_some found
    some_made None = refl
    some_made (Some x) = refl
