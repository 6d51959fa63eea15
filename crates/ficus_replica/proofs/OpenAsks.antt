-- The ask that a replica waits for an answer to, as the history grows.
use Rattle.std.proofs.Common.{◌≡◌, ℕ, ◌<◌, List, [], ◌∷◌, ◌++◌, length, Option, Some, None, refl, sym, ap, ◌∙◌, arith}
use Rattle.std.proofs.lemmas.List.{take_at}
use Rattle.ficus_model.specs.declared.event.Event.{Event}
use Rattle.ficus_model.specs.declared.event.Event.TheVariants.{Ask}
use Rattle.ficus_model.specs.Events.{through, generation_of}
use Rattle.ficus_model.specs.Lawful.{ClosesAsk}
use Rattle.ficus_laws.proofs.Positions.{agree_more, agree_take, at_within, at_end, through_is}
use Rattle.ficus_laws.proofs.OpenAsk.{open_kept as still_open, open_before, open_last, open_once}
use Rattle.ficus_replica.specs.declared.replica.Asked.{Asked}
use Rattle.ficus_replica.specs.SavedOf.{IsOpenAskOf}

-- the events through a position of a history stay the same as it grows
pub through_more : (H : List Event) (event : Event) (position : ℕ) → position < length H →
    through position H ≡ through position (H ++ event ∷ [])
through_more H event position h = agree_take (agree_more H (event ∷ [])) (omega arith)

pub through_end : (H : List Event) (event : Event) → through (length H) (H ++ event ∷ []) ≡ H ++ event ∷ []
through_end H event = through_is (at_end H event) ∙ ap (λ earlier. earlier ++ event ∷ []) (take_at H (event ∷ []) (length H) refl)

-- an event that closes no ask leaves open what is open, and opens none
pub open_kept : (H : List Event) (r : ℕ) (asked : Option Asked) (event : Event) → (ClosesAsk r event → ⊥) →
    IsOpenAskOf H r asked → IsOpenAskOf (H ++ event ∷ []) r asked
open_kept H r None event stays none = λ position to open_ask. none position to (open_before event stays open_ask)
open_kept H r (Some asked) event stays waits =
    (waits.0, still_open event stays waits.1, waits.2 ∙ ap (generation_of r) (through_more H event waits.0 (at_within waits.1.ask)))

-- an event that closes asks and is none leaves none open
pub open_none : (H : List Event) (r : ℕ) (event : Event) → ClosesAsk r event → ((to : ℕ) → event ≡ Ask r to → ⊥) →
    IsOpenAskOf (H ++ event ∷ []) r None
open_none H r event closes no_ask position to open_ask = no_ask to (open_last H event closes open_ask).1

-- a history leaves one ask open, or none
pub ask_once : (H : List Event) (r : ℕ) (one other : Option Asked) → IsOpenAskOf H r one → IsOpenAskOf H r other →
    one ≡ other
ask_once H r None None none none_too = refl
ask_once H r None (Some asked) none (position, open_ask, numbered) = absurd (none position asked.to open_ask)
ask_once H r (Some asked) None (position, open_ask, numbered) none = absurd (none position asked.to open_ask)
ask_once H r (Some one) (Some other) (position, open_ask, numbered) (again, open_too, numbered_too) =
    let same = open_once open_ask open_too in
    let number : one.number ≡ other.number =
    numbered ∙ ap (λ place. generation_of r (through place H)) same.0 ∙ sym numbered_too in
    λ i. Some (record { to = same.1 i; number = number i })
