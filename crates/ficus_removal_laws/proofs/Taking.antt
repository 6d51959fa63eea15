-- What is alive for a replica after a removal of its own.
use Rattle.std.proofs.Common.{◌≡◌, ◌⊎◌, ℕ, List, [], ◌∷◌, ◌++◌, Some, refl, sym, subst, inl, inr, arith}
use Rattle.std.specs.Prelude.{Contains}
use Rattle.std.proofs.lemmas.Option.{same_Some}
use Rattle.ficus_ids.specs.ListLaws.{here, here_or_there, not_inside_none}
use Rattle.ficus_ids.specs.declared.id.Id.{Id}
use Rattle.ficus_model.specs.declared.event.Event.{Event}
use Rattle.ficus_model.specs.declared.event.Event.TheVariants.{Update}
use Rattle.ficus_model.specs.declared.event.Op.TheVariants.{Remove, Move, Discard}
use Rattle.ficus_model.specs.Known.{Knows}
use Rattle.ficus_model.specs.Live.{ModelEntry, entry_of, entered_by, IsLive}
use Rattle.ficus_model.specs.Lawful.{Volume, AreNames, IsLawful}
use Rattle.ficus_laws.specs.Updates.{next_number, IsIssued}
use Rattle.ficus_laws.proofs.Lawful.{lawful_less}
use Rattle.ficus_laws.proofs.Issued.{entered_issued, next_not_removed}
use Rattle.ficus_laws.proofs.AfterUpdate.{enters_none, entered_id, live_after, live_kept, live_new}

-- no live entry has the next number of a replica
live_not_next : {H : List Event} {U : ℕ → Type 0} {entry : ModelEntry} (replica : ℕ) → IsLive H U entry →
    entry.id ≡ next_number replica H → ⊥
live_not_next {H} replica live next =
    let issued = subst (IsIssued H) next (entered_issued live.entered) in
    omega (arith, issued.at_most)

module _ (H : List Event) (replica : ℕ) (entries : List Id) (target : Id) where
  abbrev removed : List Event
  removed = H ++ Update replica (Remove entries target) ∷ []

  pub remove_live : {entry : ModelEntry} → IsLive removed (Knows removed replica) entry →
      IsLive H (Knows H replica) entry × (Contains entries entry.id → ⊥)
  remove_live {entry} live = let found = live_after H replica (Remove entries target) live in (go found.0, found.1)
    where
      go : IsLive H (Knows H replica) entry ⊎
          (entered_by (next_number replica H) (Remove entries target) ≡ Some entry) →
          IsLive H (Knows H replica) entry
      go (inl was) = was
      go (inr new) = absurd (enters_none entry new)

  pub live_remove : {entry : ModelEntry} → IsLive H (Knows H replica) entry × (Contains entries entry.id → ⊥) →
      IsLive removed (Knows removed replica) entry
  live_remove (was, kept) = live_kept H replica (Remove entries target) was kept

module _ (volume : Volume) (H : List Event) (replica : ℕ) (entries : List Id) (dir : Id) (name : List ℕ) (target : Id)
    (lawful : IsLawful volume (H ++ Update replica (Move entries dir name target) ∷ [])) where
  abbrev moved : List Event
  moved = H ++ Update replica (Move entries dir name target) ∷ []

  abbrev moved_entry : ModelEntry
  moved_entry = entry_of (next_number replica H) dir name target

  pub move_live : {entry : ModelEntry} → IsLive moved (Knows moved replica) entry →
      (IsLive H (Knows H replica) entry × (Contains entries entry.id → ⊥)) ⊎ (entry ≡ moved_entry)
  move_live {entry} live = let found = live_after H replica (Move entries dir name target) live in go found.0 found.1
    where
      go : IsLive H (Knows H replica) entry ⊎
          (entered_by (next_number replica H) (Move entries dir name target) ≡ Some entry) →
          (Contains entries entry.id → ⊥) →
          (IsLive H (Knows H replica) entry × (Contains entries entry.id → ⊥)) ⊎ (entry ≡ moved_entry)
      go (inl was) kept = inl (was, kept)
      go (inr new) kept = inr (sym (same_Some moved_entry entry new))

  not_among : AreNames H (Knows H replica) entries target → Contains entries (next_number replica H) → ⊥
  not_among names inside =
      let named = (names.all (next_number replica H)).0 inside in
      live_not_next replica named.bound.live named.by

  pub live_move : {entry : ModelEntry} →
      (IsLive H (Knows H replica) entry × (Contains entries entry.id → ⊥)) ⊎ (entry ≡ moved_entry) →
      IsLive moved (Knows moved replica) entry
  live_move (inl (was, kept)) = live_kept H replica (Move entries dir name target) was kept
  live_move (inr is) =
      let (before, may) = lawful_less volume H (Update replica (Move entries dir name target)) lawful in
      let fresh = next_not_removed volume H replica before in
      rw is (live_new H replica (Move entries dir name target) moved_entry refl fresh (not_among may.allowed.names))

module _ (H : List Event) (replica : ℕ) (file : Id) where
  abbrev discarded : List Event
  discarded = H ++ Update replica (Discard file) ∷ []

  pub discard_live : {entry : ModelEntry} → IsLive discarded (Knows discarded replica) entry →
      IsLive H (Knows H replica) entry
  discard_live {entry} live = let found = live_after H replica (Discard file) live in go found.0 found.1
    where
      go : IsLive H (Knows H replica) entry ⊎ (entered_by (next_number replica H) (Discard file) ≡ Some entry) →
          (Contains (next_number replica H ∷ []) entry.id → ⊥) → IsLive H (Knows H replica) entry
      go (inl was) kept = was
      go (inr new) kept =
          let id = entered_id (next_number replica H) (Discard file) entry new in
          absurd (kept (subst (Contains (next_number replica H ∷ [])) (sym id) (here (next_number replica H) [])))

  pub live_discard : {entry : ModelEntry} → IsLive H (Knows H replica) entry →
      IsLive discarded (Knows discarded replica) entry
  live_discard {entry} live =
      live_kept H replica (Discard file) live
      (λ removes. kept (here_or_there (next_number replica H) entry.id [] removes))
    where
      kept : (entry.id ≡ next_number replica H) ⊎ Contains [] entry.id → ⊥
      kept (inl next) = live_not_next replica live next
      kept (inr none) = not_inside_none entry.id none
