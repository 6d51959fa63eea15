-- What is held of an answer is one, and as many pieces as were taken.
use Rattle.std.proofs.Common.{◌≡◌, ◌≢◌, ℕ, suc, ◌+◌, ◌<◌, ◌≤◌, List, [], ◌∷◌, length, refl, sym, ap, subst, ◌∙◌, inl, inr, ◌⊎◌, arith}
use Rattle.std.specs.Prelude.{false, Option, Some, None, IsSome}
use Rattle.std.specs.Cmp.{nat_cmp_is}
use Rattle.std.specs.Ordering.{is_eq, nat_cmp}
use Rattle.std.specs.declared.cmp.Ordering.TheVariants.{Less, Equal, Greater}
use Rattle.std.proofs.lemmas.Bool.{cases_eq, cases_lt, cases_order}
use Rattle.ficus_codec.specs.Formats.{tables_bytes}
use Rattle.ficus_formats.specs.Pieces.{piece_at}
use Rattle.ficus_model.specs.declared.event.Event.{Event}
use Rattle.ficus_model.specs.declared.event.Event.TheVariants.{Take}
use Rattle.ficus_model.specs.Events.{IsAt, through}
use Rattle.ficus_model.specs.Lawful.{Volume, IsLawful, HasTaken}
use Rattle.ficus_model.specs.Vectors.{Counts}
use Rattle.ficus_model.specs.Vectors.Counts.{Nothing, OneMore, AsMany}
use Rattle.ficus_laws.proofs.Positions.{at_before, at_from_before, at_same}
use Rattle.ficus_replica.specs.SavedOf.{IsSavedOf}
use Rattle.ficus_replica.proofs.Saves.{saved_once}
use Rattle.ficus_runs.specs.Exchange.{Have}
use Rattle.ficus_durable_state.specs.declared.saved.Saved.{Saved}
use Rattle.ficus_version_laws.proofs.Counting.{counts_none, counts_same}
use Rattle.ficus_wire.specs.Parts.{HasPart, HeldParts, RisesFrom, part_at}
use Rattle.ficus_wire.proofs.Rising.{at}
use Rattle.ficus_world.specs.World.{ArePartsOf, IsPieceOfServe, PartsStandFor}

-- different numbers
unequal : (x y : ℕ) → x ≢ y → is_eq (nat_cmp x y) ≡ false
unequal x y apart = elim (cases_order x y) [
  | inl is ↦ absurd (apart is)
  | inr (inl is) ↦ let so : nat_cmp x y ≡ Less = sym (nat_cmp_is x y Less is) in rw so refl
  | inr (inr is) ↦ let so : nat_cmp x y ≡ Greater = sym (nat_cmp_is x y Greater is) in rw so refl
]

-- Pairs whose numbers rise.
module _ {X : Type 0} where
  first_at : (p : ℕ × X) (pairs : List (ℕ × X)) → at p.0 (p ∷ pairs) ≡ Some p.1
  first_at p pairs = let so : nat_cmp p.0 p.0 ≡ Equal = sym (nat_cmp_is p.0 p.0 Equal refl) in rw so refl

  passed : (number : ℕ) (p : ℕ × X) (pairs : List (ℕ × X)) → number ≢ p.0 → at number (p ∷ pairs) ≡ at number pairs
  passed number p pairs apart = let so = unequal number p.0 apart in rw so refl

  none_before : (least most number : ℕ) (pairs : List (ℕ × X)) → RisesFrom least most pairs → number < least
      → at number pairs ≡ None
  none_before least most number [] rises below = refl
  none_before least most number (p ∷ pairs) rises below =
      passed number p pairs (λ same. omega (arith, same, below, rises.0))
      ∙ none_before (p.0 + 1) most number pairs rises.2 (omega (arith, below, rises.0))

  -- those in which the same is found are one
  same_pairs : (least most : ℕ) (one other : List (ℕ × X)) → RisesFrom least most one → RisesFrom least most other
      → ((number : ℕ) → at number one ≡ at number other) → one ≡ other
  same_pairs least most [] [] rises rises_too same = refl
  same_pairs least most [] (q ∷ others) rises rises_too same =
      absurd (let e : None ≡ Some q.1 = same q.0 ∙ first_at q others in cc)
  same_pairs least most (p ∷ pairs) [] rises rises_too same =
      absurd (let e : Some p.1 ≡ None = sym (first_at p pairs) ∙ same p.0 in cc)
  same_pairs least most (p ∷ pairs) (q ∷ others) rises rises_too same =
      go (λ rising alike. same_pairs (p.0 + 1) most pairs others rises.2 rising alike) (cases_order p.0 q.0)
    where
      behind : p.0 ≡ q.0 → (number : ℕ) → (number < p.0 + 1) ⊎ (p.0 + 1 ≤ number) → at number pairs ≡ at number others
      behind alike number (inl within) =
          none_before (p.0 + 1) most number pairs rises.2 within
          ∙ sym (none_before (q.0 + 1) most number others rises_too.2 (omega (arith, within, alike)))
      behind alike number (inr after) =
          sym (passed number p pairs (λ is. omega (arith, is, after))) ∙ same number
          ∙ passed number q others (λ is. omega (arith, is, after, alike))

      go : (RisesFrom (p.0 + 1) most others → ((number : ℕ) → at number pairs ≡ at number others) → pairs ≡ others)
          → (p.0 ≡ q.0) ⊎ ((p.0 < q.0) ⊎ (q.0 < p.0)) → p ∷ pairs ≡ q ∷ others
      go again (inl alike) =
          let there : at p.0 (q ∷ others) ≡ Some q.1 =
          subst (λ n. at n (q ∷ others) ≡ Some q.1) (sym alike) (first_at q others) in
          let found : Some p.1 ≡ Some q.1 = sym (first_at p pairs) ∙ same p.0 ∙ there in
          let values : p.1 ≡ q.1 = cc in
          let rest : pairs ≡ others = again (subst (λ n. RisesFrom (n + 1) most others) (sym alike) rises_too.2)
          (λ number. behind alike number (cases_lt number (p.0 + 1))) in
          λ i. (alike i, values i) ∷ rest i
      go again (inr (inl less)) =
          absurd (let e : Some p.1 ≡ None = sym (first_at p pairs) ∙ same p.0
          ∙ none_before q.0 most p.0 (q ∷ others) (omega arith, rises_too.1, rises_too.2) less in cc)
      go again (inr (inr less)) =
          absurd (let e : None ≡ Some q.1 = sym (none_before p.0 most q.0 (p ∷ pairs) (omega arith, rises.1, rises.2) less)
          ∙ same q.0 ∙ first_at q others in cc)

  pub some_pair : (pairs : List (ℕ × X)) → 1 ≤ length pairs → (number : ℕ) × (x : X) × (at number pairs ≡ Some x)
  some_pair [] some = absurd (omega (arith, some))
  some_pair (p ∷ pairs) some = (p.0, p.1, first_at p pairs)

-- one number more has the property
counts_more : {P Q : ℕ → Type 0} (index : ℕ) {bound count : ℕ} → index < bound → P index → (Q index → ⊥)
    → ((number : ℕ) → number ≢ index → Q number → P number) → ((number : ℕ) → number ≢ index → P number → Q number)
    → Counts Q bound count → Counts P bound (suc count)
counts_more index below has lacks there back Nothing = absurd (omega (arith, below))
counts_more {P} {Q} index below has lacks there back (OneMore {bound = bound} {count = count} q rest) =
    go (λ within. counts_more index within has lacks there back rest) (cases_eq index bound)
  where
    go : (index < bound → Counts P bound (suc count)) → (index ≡ bound) ⊎ (index ≢ bound)
        → Counts P (suc bound) (suc (suc count))
    go again (inl same) = absurd (lacks (subst Q (sym same) q))
    go again (inr differs) =
        OneMore (there bound (λ same. differs (sym same)) q) (again (omega (arith, below, differs)))
counts_more {P} {Q} index below has lacks there back (AsMany {bound = bound} {count = count} none rest) =
    go (λ within. counts_more index within has lacks there back rest) (cases_eq index bound)
  where
    go : (index < bound → Counts P bound (suc count)) → (index ≡ bound) ⊎ (index ≢ bound)
        → Counts P (suc bound) (suc count)
    go again (inl same) =
        OneMore (subst P same has)
        (counts_same rest (λ number within q. there number (λ is. omega (arith, within, is, same)) q)
        (λ number within p. back number (λ is. omega (arith, within, is, same)) p))
    go again (inr differs) =
        AsMany (λ p. none (back bound (λ same. differs (sym same)) p)) (again (omega (arith, below, differs)))

-- there are as many pairs as numbers that are found
counts_pairs : {X : Type 0} (least most : ℕ) (pairs : List (ℕ × X)) → RisesFrom least most pairs
    → Counts (λ number. IsSome (at number pairs)) most (length pairs)
counts_pairs least most [] rises = counts_none most (λ number below some. cc)
counts_pairs least most (p ∷ pairs) rises =
    counts_more p.0 rises.1 (subst IsSome (sym (first_at p pairs)) refl)
    (λ some. let e = subst IsSome (none_before (p.0 + 1) most p.0 pairs rises.2 (omega arith)) some in cc)
    (λ number differs some. subst IsSome (sym (passed number p pairs differs)) some)
    (λ number differs some. subst IsSome (passed number p pairs differs) some)
    (counts_pairs (p.0 + 1) most pairs rises.2)

module _ {volume : Volume} {H : List Event} {r : ℕ} (parts : HeldParts) (are : ArePartsOf volume H r parts) where
  -- what is held was taken
  pub held_taken : (index : ℕ) → HasPart parts index → HasTaken H r index
  held_taken index has = go (part_at parts index) refl has
    where
      go : (found : Option (List ℕ)) → part_at parts index ≡ found → IsSome found → HasTaken H r index
      go None is some = absurd (cc)
      go (Some bytes) is some = (are.each index bytes is).0

  -- so as many pieces are held as were taken
  pub held_counted : Have H r parts.pieces (length parts.have)
  held_counted =
      counts_same (counts_pairs 0 parts.pieces parts.have are.rising) (λ index below has. held_taken index has)
      (λ index below taken. are.taken index taken)

  -- one at least
  pub some_held : (index : ℕ) × (bytes : List ℕ) × (part_at parts index ≡ Some bytes)
  some_held = some_pair parts.have are.some

-- a piece of what was served at a position is one
pub piece_once : {volume : Volume} {H : List Event} {serve index state pieces same count : ℕ} {bytes again : List ℕ}
    → IsPieceOfServe volume H serve index state pieces bytes → IsPieceOfServe volume H serve index same count again
    → (state ≡ same) × (pieces ≡ count) × (bytes ≡ again)
piece_once {volume} {H} {serve} {index} {state} {pieces} {same} {count} {bytes} {again} one other =
    let serves = at_same one.served other.served in
    let servers : one.server ≡ other.server = cc in
    let states : state ≡ same = cc in
    let counts : pieces ≡ count = cc in
    let saves = saved_once one.is
    (subst (λ r. IsSavedOf volume (through serve H) r other.saved) (sym servers) other.is) in (
      states,
      counts,
      one.piece ∙ ap (λ (s : Saved). piece_at (tables_bytes volume.members s.entries s.files) index) saves
          ∙ sym other.piece,
    )

module _ (volume : Volume) (H : List Event) (lawful : IsLawful volume H) (r : ℕ) where
  -- a piece that was taken since the ask isn't taken again
  taken_later : {index : ℕ} (one other : HasTaken H r index) → one.position < other.position → ⊥
  taken_later {index} one other less =
      (lawful.each other.position (Take r other.serve index) other.taken).wanted.untaken (record {
        position = one.position;
        serve = one.serve;
        taken = at_before less one.taken;
        latest = λ later event behind is closes.
            one.latest later event behind (at_from_before other.position is).1 closes;
      })

  pub taken_once : {index : ℕ} (one other : HasTaken H r index) → one.serve ≡ other.serve
  taken_once {index} one other = go (cases_order one.position other.position)
    where
      go : (one.position ≡ other.position) ⊎ ((one.position < other.position) ⊎ (other.position < one.position))
          → one.serve ≡ other.serve
      go (inl same) =
          let takes = at_same (subst (λ n. IsAt H n (Take r one.serve index)) same one.taken) other.taken in cc
      go (inr (inl less)) = absurd (taken_later one other less)
      go (inr (inr less)) = absurd (taken_later other one less)

  module _ (one other : HeldParts) (are : ArePartsOf volume H r one) (too : ArePartsOf volume H r other) where
    same_part : (index : ℕ) (bytes again : List ℕ) → part_at one index ≡ Some bytes → part_at other index ≡ Some again
        → (one.state ≡ other.state) × (one.pieces ≡ other.pieces) × (bytes ≡ again)
    same_part index bytes again is is_too =
        let found = are.each index bytes is in
        let found_too = too.each index again is_too in
        piece_once found.1
        (subst (λ serve. IsPieceOfServe volume H serve index other.state other.pieces again)
        (sym (taken_once found.0 found_too.0)) found_too.1)

    same_at : (index : ℕ) (found again : Option (List ℕ)) → part_at one index ≡ found → part_at other index ≡ again
        → found ≡ again
    same_at index None None is is_too = refl
    same_at index (Some bytes) (Some again) is is_too =
        ap (λ (b : List ℕ). Some b) (same_part index bytes again is is_too).2
    same_at index (Some bytes) None is is_too =
        absurd (let has = subst IsSome is_too (too.taken index (are.each index bytes is).0) in cc)
    same_at index None (Some again) is is_too =
        absurd (let has = subst IsSome is (are.taken index (too.each index again is_too).0) in cc)

    parts_once : one ≡ other
    parts_once =
        let first = some_held one are in
        let same : (index : ℕ) → part_at one index ≡ part_at other index =
        λ index. same_at index (part_at one index) (part_at other index) refl refl in
        let alike = same_part first.0 first.1 first.1 first.2 (sym (same first.0) ∙ first.2) in
        let have = same_pairs 0 one.pieces one.have other.have are.rising
        (subst (λ n. RisesFrom 0 n other.have) (sym alike.1) too.rising) same in
        λ i. record { state = alike.0 i; pieces = alike.1 i; have = have i }

  -- what a member holds of an answer follows from what its replica has taken
  pub held_once : (one other : Option HeldParts) → PartsStandFor volume H r one → PartsStandFor volume H r other
      → one ≡ other
  held_once None None none none_too = refl
  held_once (Some one) (Some other) are too = ap (λ (p : HeldParts). Some p) (parts_once one other are too)
  held_once (Some one) None are none =
      let first = some_held one are in absurd (none first.0 (are.each first.0 first.1 first.2).0)
  held_once None (Some other) none are =
      let first = some_held other are in absurd (none first.0 (are.each first.0 first.1 first.2).0)
