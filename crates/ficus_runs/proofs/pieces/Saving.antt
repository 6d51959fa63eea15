-- While a replica isn't saved, it hears of nothing but its own events, and what would be saved of it stays.
use Rattle.std.proofs.Common.{◌≡◌, ◌≢◌, ◌⊎◌, ◌↔◌, ℕ, zero, suc, ◌+◌, ◌<◌, ◌≤◌, Bool, true, false, cond, List, [], ◌∷◌, ◌++◌, length, take, drop, refl, sym, ap, ◌∙◌, subst, inl, inr, arith}
use Rattle.std.specs.Prelude.{◌&&◌, ◌==◌, is_some}
use Rattle.std.proofs.lemmas.Bool.{cases_lt}
use Rattle.std.proofs.lemmas.List.{append-nil, append_assoc, take-append-drop, length_push}
use Rattle.std.proofs.lemmas.List.Sums.{sum_by-append, sum_by-cons}
use Rattle.ficus_model.specs.declared.event.Event.{Event}
use Rattle.ficus_model.specs.declared.event.Event.TheVariants.{Serve, Take, Restart}
use Rattle.ficus_model.specs.Events.{IsOf, actor, traits, is_update_of, is_saved, generation_of, through}
use Rattle.ficus_model.specs.Known.{Knows}
use Rattle.ficus_model.specs.Lawful.{Volume}
use Rattle.ficus_durable_state.specs.declared.saved.Saved.{Saved}
use Rattle.ficus_held_laws.specs.Entries.{IsIdle}
use Rattle.ficus_laws.specs.Known.{Takes, IsKnownAfter}
use Rattle.ficus_held_laws.proofs.Standing.{idle_quiet}
use Rattle.ficus_laws.proofs.OneMore.{quiet_takes}
use Rattle.ficus_laws.proofs.Positions.{of_more, of_end}
use Rattle.ficus_laws.proofs.Updates.{is_update_of_other}
use Rattle.ficus_laws.proofs.Knowledge.{knows_more, knows_own, knows_cases}
use Rattle.ficus_replica.specs.SavedOf.{IsSavedOf}
use Rattle.ficus_runs.specs.Pieces.Laws.{IsOwnSince}
use Rattle.ficus_replica.proofs.Saves.{saved_kept, saved_once}

-- an event that is no own one that is saved is another's, or is never saved
not_own_saved : (saves : Bool) (by r : ℕ) → (saves && (by == r)) ≡ false → (by ≢ r) ⊎ (saves ≡ false)
not_own_saved true by r none = inl (λ same. grind arith)
not_own_saved false by r none = inr refl

-- one that is never saved does nothing to what its replica knows and holds
unsaved : (event : Event) → (traits event).saves ≡ false → IsIdle event × (is_some (traits event).update ≡ false)
unsaved (Serve by ask state pieces) none = (tt, refl)
unsaved (Take by serve piece) none = (tt, refl)
unsaved (Restart by) none = (tt, refl)
unsaved event none = absurd (cc)

-- so an event after which the replica isn't saved is another's, or does nothing
pub idle_or_other : (r : ℕ) (event : Event) → is_saved r event ≡ false → (actor event ≢ r) ⊎ IsIdle event
idle_or_other r event none = go (not_own_saved (traits event).saves (actor event) r none)
  where
    go : (actor event ≢ r) ⊎ ((traits event).saves ≡ false) → (actor event ≢ r) ⊎ IsIdle event
    go (inl other) = inl other
    go (inr never) = inr (unsaved event never).0

not_update : (r : ℕ) (event : Event) → is_saved r event ≡ false → is_update_of r event ≡ false
not_update r event none = go (not_own_saved (traits event).saves (actor event) r none)
  where
    go : (actor event ≢ r) ⊎ ((traits event).saves ≡ false) → is_update_of r event ≡ false
    go (inl other) = is_update_of_other r event other
    go (inr never) = ap (λ updates. updates && (actor event == r)) (unsaved event never).1

none_counted : (b : Bool) (n : ℕ) → cond b 1 0 + n ≡ 0 → (b ≡ false) × (n ≡ 0)
none_counted true n none = absurd (omega (arith, none))
none_counted false n none = (refl, omega (arith, none))

none_saved : (r : ℕ) (event : Event) (later : List Event) → generation_of r (event ∷ later) ≡ 0 →
    (is_saved r event ≡ false) × (generation_of r later ≡ 0)
none_saved r event later none = none_counted (is_saved r event) (generation_of r later)
    (sym (sum_by-cons (λ e. cond (is_saved r e) 1 0) event later) ∙ none)

pub none_since : (r : ℕ) (H later : List Event) → generation_of r (H ++ later) ≡ generation_of r H →
    generation_of r later ≡ 0
none_since r H later same = omega (arith, same, sum_by-append (λ event. cond (is_saved r event) 1 0) H later)

-- what is saved stays
pub saved_rest : {volume : Volume} {r : ℕ} {saved : Saved} (later H : List Event) → generation_of r later ≡ 0 →
    IsSavedOf volume H r saved → IsSavedOf volume (H ++ later) r saved
saved_rest {volume} {r} {saved} [] H none is = subst (λ K. IsSavedOf volume K r saved) (sym (append-nil H)) is
saved_rest {volume} {r} {saved} (event ∷ later) H none is =
    let (first, rest) = none_saved r event later none in
    subst (λ K. IsSavedOf volume K r saved) (append_assoc H (event ∷ []) later)
    (saved_rest later (H ++ event ∷ []) rest
    (saved_kept event (idle_or_other r event first) (not_update r event first) is first))

-- what the replica knows is what it knew or of its own since
knows_one : {H : List Event} {r position : ℕ} (event : Event) → is_saved r event ≡ false →
    Knows (H ++ event ∷ []) r position → Knows H r position ⊎ ((position ≡ length H) × (actor event ≡ r))
knows_one {H} {r} {position} event none k = go (knows_cases event k)
  where
    told : (actor event ≢ r) ⊎ IsIdle event → actor event ≡ r → (served : ℕ) → Takes event served → ⊥
    told (inl other) of served takes = other of
    told (inr idle) of served takes = quiet_takes event served (idle_quiet event idle) takes

    go : IsKnownAfter H event r position → Knows H r position ⊎ ((position ≡ length H) × (actor event ≡ r))
    go (inl was) = inl was
    go (inr (of, inl end)) = inr (end, of)
    go (inr (of, inr t)) = absurd (told (idle_or_other r event none) of t.served t.takes)

pub owns_rest : {r position : ℕ} (later H : List Event) → generation_of r later ≡ 0 →
    Knows (H ++ later) r position → Knows H r position ⊎ IsOwnSince (length H) (H ++ later) r position
owns_rest {r} {position} [] H none k = inl (subst (λ K. Knows K r position) (append-nil H) k)
owns_rest {r} {position} (event ∷ later) H none k = go (owns_rest later (H ++ event ∷ []) rest inner)
  where
    first : is_saved r event ≡ false
    first = (none_saved r event later none).0

    rest : generation_of r later ≡ 0
    rest = (none_saved r event later none).1

    same : (H ++ event ∷ []) ++ later ≡ H ++ (event ∷ later)
    same = append_assoc H (event ∷ []) later

    inner : Knows ((H ++ event ∷ []) ++ later) r position
    inner = subst (λ K. Knows K r position) (sym same) k

    last : Knows H r position ⊎ ((position ≡ length H) × (actor event ≡ r)) →
        Knows H r position ⊎ IsOwnSince (length H) (H ++ (event ∷ later)) r position
    last (inl was) = inl was
    last (inr (is, of)) = inr (record {
      since = omega (arith, is);
      own = subst (λ K. IsOf K position r) same
          (of_more later (rw is (subst (IsOf (H ++ event ∷ []) (length H)) of (of_end H event))));
    })

    go : Knows (H ++ event ∷ []) r position ⊎ IsOwnSince (length (H ++ event ∷ [])) ((H ++ event ∷ []) ++ later) r position →
        Knows H r position ⊎ IsOwnSince (length H) (H ++ (event ∷ later)) r position
    go (inl was) = last (knows_one event first was)
    go (inr own) = inr (record {
      since = omega (arith, own.since, length_push H event);
      own = subst (λ K. IsOf K position r) same own.own;
    })

-- The events through the earlier of two positions begin those through the later.
split_take : (n m : ℕ) (H : List Event) → n ≤ m → take m H ≡ take n H ++ drop n (take m H)
split_take n m H within = sym (take-append-drop n (take m H)) ∙ ap (λ front. front ++ drop n (take m H)) (front n m H within)
  where
    front : (n m : ℕ) (H : List Event) → n ≤ m → take n (take m H) ≡ take n H
    front zero m H within = refl
    front (suc n) zero H within = absurd (omega arith)
    front (suc n) (suc m) [] within = refl
    front (suc n) (suc m) (event ∷ H) within = ap (λ more. event ∷ more) (front n m H (omega arith))

saved_later : {volume : Volume} {r : ℕ} {saved again : Saved} (H : List Event) (n m : ℕ) → n ≤ m →
    generation_of r (take n H) ≡ generation_of r (take m H) →
    IsSavedOf volume (take n H) r saved → IsSavedOf volume (take m H) r again → saved ≡ again
saved_later {volume} {r} {saved} {again} H n m within same is is_too =
    let split = split_take n m H within in
    let later = drop n (take m H) in
    let none : generation_of r later ≡ 0 = none_since r (take n H) later (ap (generation_of r) (sym split) ∙ sym same) in
    saved_once (subst (λ K. IsSavedOf volume K r saved) (sym split) (saved_rest later (take n H) none is)) is_too

pub saved_same : {volume : Volume} {r : ℕ} {saved again : Saved} (H : List Event) (one other : ℕ) →
    generation_of r (through one H) ≡ generation_of r (through other H) →
    IsSavedOf volume (through one H) r saved → IsSavedOf volume (through other H) r again → saved ≡ again
saved_same {saved = saved} {again = again} H one other same is is_too = go (cases_lt one other)
  where
    go : (one < other) ⊎ (other ≤ one) → saved ≡ again
    go (inl first) = saved_later H (one + 1) (other + 1) (omega (arith, first)) same is is_too
    go (inr last) = sym (saved_later H (other + 1) (one + 1) (omega (arith, last)) (sym same) is_too is)

pub knows_since : (H later : List Event) (r position : ℕ) → generation_of r (H ++ later) ≡ generation_of r H →
    Knows (H ++ later) r position ↔ (Knows H r position ⊎ IsOwnSince (length H) (H ++ later) r position)
knows_since H later r position same = (there, back)
  where
    none : generation_of r later ≡ 0
    none = none_since r H later same

    there : Knows (H ++ later) r position → Knows H r position ⊎ IsOwnSince (length H) (H ++ later) r position
    there k = owns_rest later H none k

    back : Knows H r position ⊎ IsOwnSince (length H) (H ++ later) r position → Knows (H ++ later) r position
    back (inl was) = knows_more later was
    back (inr own) = knows_own own.own
