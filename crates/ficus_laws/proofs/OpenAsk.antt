-- Which ask of a replica is open.
use Rattle.std.proofs.Common.{◌≡◌, ℕ, ◌<◌, List, [], ◌∷◌, ◌++◌, length, refl, sym, subst, inl, inr, ◌⊎◌, arith}
use Rattle.std.proofs.lemmas.Bool.{cases_order}
use Rattle.std.proofs.lemmas.List.{length_push}
use Rattle.ficus_model.specs.declared.event.Event.{Event}
use Rattle.ficus_model.specs.declared.event.Event.TheVariants.{Ask}
use Rattle.ficus_model.specs.Events.{IsAt}
use Rattle.ficus_model.specs.Lawful.{ClosesAsk, IsOpenAsk}
use Rattle.ficus_laws.proofs.Positions.{at_within, at_same, at_more, at_end, at_cases}

-- at most one ask of a replica is open
pub open_once : {H : List Event} {position again replica to other : ℕ} → IsOpenAsk H position replica to →
    IsOpenAsk H again replica other → (position ≡ again) × (to ≡ other)
open_once {H} {position} {again} {replica} {to} {other} o p = go (cases_order position again)
  where
    same : position ≡ again → to ≡ other
    same h = let e : Ask replica to ≡ Ask replica other = at_same o.ask (rw h p.ask) in cc

    go : (position ≡ again) ⊎ ((position < again) ⊎ (again < position)) → (position ≡ again) × (to ≡ other)
    go (inl h) = (h, same h)
    go (inr (inl h)) = absurd (o.latest again (Ask replica other) h p.ask refl)
    go (inr (inr h)) = absurd (p.latest position (Ask replica to) h o.ask refl)

-- an event that closes no ask of the replica changes nothing
pub open_kept : {H : List Event} {position replica to : ℕ} (event : Event) → (ClosesAsk replica event → ⊥) →
    IsOpenAsk H position replica to → IsOpenAsk (H ++ event ∷ []) position replica to
open_kept {H} {position} {replica} {to} event none o = record { ask = at_more (event ∷ []) o.ask; latest = latest }
  where
    latest : (later : ℕ) (found : Event) → position < later → IsAt (H ++ event ∷ []) later found →
        ClosesAsk replica found → ⊥
    latest later found h a closes = go (at_cases event a)
      where
        go : IsAt H later found ⊎ ((later ≡ length H) × (found ≡ event)) → ⊥
        go (inl was) = o.latest later found h was closes
        go (inr (end, is)) = none (subst (ClosesAsk replica) is closes)

pub open_before : {H : List Event} {position replica to : ℕ} (event : Event) → (ClosesAsk replica event → ⊥) →
    IsOpenAsk (H ++ event ∷ []) position replica to → IsOpenAsk H position replica to
open_before {H} {position} {replica} {to} event none o = go (at_cases event o.ask)
  where
    go : IsAt H position (Ask replica to) ⊎ ((position ≡ length H) × (Ask replica to ≡ event)) →
        IsOpenAsk H position replica to
    go (inl was) =
        record { ask = was; latest = λ later found h a closes. o.latest later found h (at_more (event ∷ []) a) closes }
    go (inr (end, is)) = absurd (none (subst (ClosesAsk replica) is refl))

-- after an event that closes asks none is open but the event itself
pub open_end : (H : List Event) (replica to : ℕ) → IsOpenAsk (H ++ Ask replica to ∷ []) (length H) replica to
open_end H replica to = record {
  ask = at_end H (Ask replica to);
  latest = λ later found h a closes. omega (arith, at_within a, length_push H (Ask replica to));
}

pub open_last : {position replica to : ℕ} (H : List Event) (event : Event) → ClosesAsk replica event →
    IsOpenAsk (H ++ event ∷ []) position replica to → (position ≡ length H) × (event ≡ Ask replica to)
open_last {position} {replica} {to} H event closes o = go (at_cases event o.ask)
  where
    go : IsAt H position (Ask replica to) ⊎ ((position ≡ length H) × (Ask replica to ≡ event)) →
        (position ≡ length H) × (event ≡ Ask replica to)
    go (inl was) = absurd (o.latest (length H) event (at_within was) (at_end H event) closes)
    go (inr (end, is)) = (end, sym is)
