-- Pieces that are taken one after the other.
use Rattle.std.proofs.Common.{◌≡◌, ℕ, zero, suc, ◌+◌, ◌<◌, ◌≤◌, List, [], ◌∷◌, length, refl, subst, ◌∙◌, inl, inr, ◌⊎◌, arith}
use Rattle.std.proofs.lemmas.Bool.{cases_lt}
use Rattle.std.proofs.lemmas.List.{length_push}
use Rattle.ficus_ids.specs.declared.id.Id.{Id}
use Rattle.ficus_model.specs.declared.event.Event.{Event}
use Rattle.ficus_model.specs.declared.event.Event.TheVariants.{Update, Take}
use Rattle.ficus_model.specs.declared.event.Op.{Op}
use Rattle.ficus_model.specs.Events.{IsAt, IsOf, IsUpdate, count_of}
use Rattle.ficus_model.specs.Known.{HasSeen, Knows}
use Rattle.ficus_model.specs.Lawful.{ClosesAsk, IsOpenAsk, HasTaken}
use Rattle.ficus_laws.specs.Accepts.{taking}
use Rattle.ficus_laws.specs.Updates.{next_number}
use Rattle.ficus_laws.proofs.Positions.{AgreeBelow, agree_more, at_within, at_more, at_end, at_cases, of_more}
use Rattle.ficus_laws.proofs.Updates.{count_no_update, update_cases, update_more}
use Rattle.ficus_laws.proofs.Seen.{seen_more}
use Rattle.ficus_laws.proofs.Knowledge.{knows_more, knows_less}
use Rattle.ficus_laws.proofs.OpenAsk.{open_kept}

module _ (H : List Event) (replica serve : ℕ) where
  pub length_taking : (count : ℕ) → length (taking H replica serve count) ≡ length H + count
  length_taking zero = omega arith
  length_taking (suc count) =
      omega (arith, length_push (taking H replica serve count) (Take replica serve count), length_taking count)

  pub taking_agrees : (count : ℕ) → AgreeBelow (length H) H (taking H replica serve count)
  taking_agrees zero = record { same = λ position below. refl }
  taking_agrees (suc count) = record {
    same = λ position below.
        (taking_agrees count).same position below
        ∙ (agree_more (taking H replica serve count) (Take replica serve count ∷ [])).same position
        (omega (arith, below, length_taking count));
  }

  -- what stood before stands there still
  pub at_taking : {position : ℕ} {event : Event} (count : ℕ) → IsAt H position event →
      IsAt (taking H replica serve count) position event
  at_taking zero at = at
  at_taking (suc count) at = at_more (Take replica serve count ∷ []) (at_taking count at)

  pub of_taking : {position by : ℕ} (count : ℕ) → IsOf H position by → IsOf (taking H replica serve count) position by
  of_taking zero own = own
  of_taking (suc count) own = of_more (Take replica serve count ∷ []) (of_taking count own)

  pub seen_taking : {at position : ℕ} (count : ℕ) → HasSeen H at position →
      HasSeen (taking H replica serve count) at position
  seen_taking zero seen = seen
  seen_taking (suc count) seen = seen_more (Take replica serve count ∷ []) (seen_taking count seen)

  pub knows_taking : {by position : ℕ} (count : ℕ) → Knows H by position → Knows (taking H replica serve count) by position
  knows_taking zero known = known
  knows_taking (suc count) known = knows_more (Take replica serve count ∷ []) (knows_taking count known)

  pub update_taking : {position : ℕ} {number : Id} {op : Op} (count : ℕ) → IsUpdate H position number op →
      IsUpdate (taking H replica serve count) position number op
  update_taking zero update = update
  update_taking (suc count) update = update_more (Take replica serve count ∷ []) (update_taking count update)

  pub open_taking : {position by to : ℕ} (count : ℕ) → IsOpenAsk H position by to →
      IsOpenAsk (taking H replica serve count) position by to
  open_taking zero is_open = is_open
  open_taking (suc count) is_open = open_kept (Take replica serve count) (λ closes. closes) (open_taking count is_open)

  -- and of the earlier positions nothing else is known
  pub knows_before_taking : {by position : ℕ} (count : ℕ) → Knows (taking H replica serve count) by position →
      position < length H → Knows H by position
  knows_before_taking zero known below = known
  knows_before_taking (suc count) known below =
      knows_before_taking count
      (knows_less (Take replica serve count) (λ served takes. takes) known (omega (arith, below, length_taking count))) below

  pub update_before_taking : {position : ℕ} {number : Id} {op : Op} (count : ℕ) →
      IsUpdate (taking H replica serve count) position number op → IsUpdate H position number op
  update_before_taking zero update = update
  update_before_taking {position} {number} {op} (suc count) update =
      update_before_taking count (go (update_cases (Take replica serve count) update))
    where
      go : IsUpdate (taking H replica serve count) position number op ⊎
          ((position ≡ length (taking H replica serve count)) × (Take replica serve count ≡ Update number.replica op)
          × (number ≡ next_number number.replica (taking H replica serve count))) →
          IsUpdate (taking H replica serve count) position number op
      go (inl was) = was
      go (inr (end, is, next)) = cc

  pub count_taking : (by count : ℕ) → count_of by (taking H replica serve count) ≡ count_of by H
  count_taking by zero = refl
  count_taking by (suc count) =
      count_no_update by (taking H replica serve count) (Take replica serve count) refl ∙ count_taking by count

  -- behind what stood before stand the Takes
  pub record IsTakeAt (count position : ℕ) (event : Event) : Type 0 where
    pub piece : ℕ
    pub below : piece < count
    pub place : position ≡ length H + piece
    pub is : event ≡ Take replica serve piece

  pub at_taking_cases : {position : ℕ} {event : Event} (count : ℕ) → IsAt (taking H replica serve count) position event →
      IsAt H position event ⊎ IsTakeAt count position event
  at_taking_cases zero at = inl at
  at_taking_cases {position} {event} (suc count) at =
      go (λ was. at_taking_cases count was) (at_cases (Take replica serve count) at)
    where
      before_it : IsAt H position event ⊎ IsTakeAt count position event →
          IsAt H position event ⊎ IsTakeAt (suc count) position event
      before_it (inl was) = inl was
      before_it (inr t) = inr (record { piece = t.piece; below = omega (arith, t.below); place = t.place; is = t.is })

      go : (IsAt (taking H replica serve count) position event → IsAt H position event ⊎ IsTakeAt count position event) →
          IsAt (taking H replica serve count) position event ⊎
          ((position ≡ length (taking H replica serve count)) × (event ≡ Take replica serve count)) →
          IsAt H position event ⊎ IsTakeAt (suc count) position event
      go cases (inl was) = before_it (cases was)
      go cases (inr (end, is)) =
          inr (record { piece = count; below = omega arith; place = end ∙ length_taking count; is = is })

  pub take_stands : {piece : ℕ} (count : ℕ) → piece < count →
      IsAt (taking H replica serve count) (length H + piece) (Take replica serve piece)
  take_stands zero below = absurd (omega (arith, below))
  take_stands {piece} (suc count) below = go (λ earlier. take_stands count earlier) (cases_lt piece count)
    where
      go : (piece < count → IsAt (taking H replica serve count) (length H + piece) (Take replica serve piece)) →
          (piece < count) ⊎ (count ≤ piece) →
          IsAt (taking H replica serve (suc count)) (length H + piece) (Take replica serve piece)
      go stands (inl earlier) = at_more (Take replica serve count ∷ []) (stands earlier)
      go stands (inr from) =
          let same : piece ≡ count = omega (arith, from, below) in
          rw (same, ← length_taking count) (at_end (taking H replica serve count) (Take replica serve count))

  -- the pieces are taken
  pub has_taken : {piece : ℕ} (count : ℕ) → piece < count → HasTaken (taking H replica serve count) replica piece
  has_taken {piece} count below = record {
    position = length H + piece;
    serve = serve;
    taken = take_stands count below;
    latest = λ later event behind at closes. go later event behind (at_taking_cases count at) closes;
  }
    where
      go : (later : ℕ) (event : Event) → length H + piece < later → IsAt H later event ⊎ IsTakeAt count later event →
          ClosesAsk replica event → ⊥
      go later event behind (inl was) closes = omega (arith, at_within was, behind)
      go later event behind (inr t) closes = subst (ClosesAsk replica) t.is closes
