-- What is so of every event behind a position.
use Rattle.std.specs.Prelude.{◌≡◌, ℕ, ◌+◌, ◌-◌, ◌<◌, List, length, drop, All, ◌↔◌}
use Rattle.std.proofs.Common.{subst, sym, ◌∙◌, arith, length-drop}
use Rattle.std.proofs.lemmas.List.{get_or-drop}
use Rattle.std.proofs.lemmas.Option.{get_or_from_slice_get, slice_get-get_or, slice_get_within}
use Rattle.ficus_model.specs.declared.event.Event.{Event}
use Rattle.ficus_model.specs.Events.{IsAt}

-- of all events from the next position on it is so where it is so of each event at a later position
pub all_behind : (P : Event → Type 0) (events rest : List Event) (position : ℕ) → rest ≡ drop (position + 1) events →
    All P rest ↔ ((later : ℕ) (event : Event) → position < later → IsAt events later event → P event)
all_behind P events rest position is = (
  λ all later event behind at.
      let within : later < length events = slice_get_within events later event at.is in
      let left = length-drop (position + 1) events in
      let place : position + 1 + (later - position - 1) ≡ later = omega arith in
      subst P
      (get_or-drop (position + 1) events (later - position - 1) event
      ∙ get_or_from_slice_get events (position + 1 + (later - position - 1)) event event (rw place at.is))
      (subst (All P) is all (later - position - 1) event (omega arith)),
  λ each. subst (All P) (sym is) (λ k d within.
      let left = length-drop (position + 1) events in
      subst P (sym (get_or-drop (position + 1) events k d))
      (each (position + 1 + k) _ (omega arith)
      (record { is = slice_get-get_or events (position + 1 + k) d (omega arith) }))),
)
