-- How many events pass a test, and how that grows.
use Rattle.std.proofs.Common.{◌≡◌, ℕ, ◌+◌, ◌<◌, ◌≤◌, Bool, true, false, cond, List, [], ◌∷◌, ◌++◌, sym, ap, subst, ◌∙◌, arith}
use Rattle.std.specs.Prelude.{count_by}
use Rattle.std.proofs.lemmas.List.{take-take}
use Rattle.std.proofs.lemmas.List.Sums.{sum_by_push, sum_by-take-le}
use Rattle.ficus_model.specs.declared.event.Event.{Event}
use Rattle.ficus_model.specs.Events.{IsAt, before, through}
use Rattle.ficus_laws.proofs.Positions.{through_is}

module _ (test : Event → Bool) where
  counted_push : (H : List Event) (event : Event) →
      count_by test (H ++ event ∷ []) ≡ count_by test H + cond (test event) 1 0
  counted_push H event = sum_by_push (λ x. cond (test x) 1 0) H event

  pub counted_one : (H : List Event) (event : Event) → test event ≡ true →
      count_by test (H ++ event ∷ []) ≡ count_by test H + 1
  counted_one H event passes = counted_push H event ∙ ap (λ b. count_by test H + cond b 1 0) passes

  pub counted_none : (H : List Event) (event : Event) → test event ≡ false →
      count_by test (H ++ event ∷ []) ≡ count_by test H
  counted_none H event fails =
      let p : count_by test (H ++ event ∷ []) ≡ count_by test H + 0 =
      counted_push H event ∙ ap (λ b. count_by test H + cond b 1 0) fails in
      omega arith

  -- among the first events no more pass than among more of them
  pub counted_before : (H : List Event) (m n : ℕ) → m ≤ n → count_by test (before m H) ≤ count_by test (before n H)
  counted_before H m n h = rw (← take-take m n H h) (sum_by-take-le (λ x. cond (test x) 1 0) (before n H) m)

  pub counted_through : {H : List Event} {position : ℕ} {event : Event} → IsAt H position event → test event ≡ true →
      count_by test (through position H) ≡ count_by test (before position H) + 1
  counted_through {H} {position} {event} a passes = rw (through_is a) (counted_one (before position H) event passes)

  -- through an event that passes there are more than through any earlier one
  pub counted_rises : {H : List Event} {position earlier : ℕ} {event : Event} → IsAt H position event →
      test event ≡ true → earlier < position → count_by test (through earlier H) < count_by test (through position H)
  counted_rises {H} {position} {earlier} a passes h =
      omega (arith, counted_before H (earlier + 1) position (omega arith), counted_through a passes)
