-- Disks that stand for a world of the model stand for one history: what happened, and some of what was pending.
use Rattle.std.proofs.Common.{◌≡◌, ◌≢◌, ℕ, ◌+◌, ◌<◌, ◌≤◌, List, [], ◌∷◌, ◌++◌, length, Option, Some, None, zero, suc, refl, sym, subst, ◌∙◌, inl, inr, ⊎_elim, append_assoc, append-nil, arith}
use Rattle.std.proofs.lemmas.Bool.{cases_eq}
use Rattle.std.proofs.lemmas.List.{length-append}
use Rattle.ficus_ids.specs.Members.{IsMember}
use Rattle.ficus_keeper.specs.Kept.{Kept}
use Rattle.ficus_laws.proofs.Lawful.{lawful_more}
use Rattle.ficus_laws.proofs.Updates.{is_update_of_other}
use Rattle.ficus_model.specs.declared.event.Event.{Event}
use Rattle.ficus_model.specs.Events.{actor}
use Rattle.ficus_model.specs.Lawful.{IsLawful, Volume}
use Rattle.ficus_replica.specs.SavedOf.{IsSavedOf}
use Rattle.ficus_replica.proofs.Saves.{saved_kept, saved_of_other}
use Rattle.ficus_durable_state.specs.declared.saved.Saved.{Saved}
use Rattle.ficus_runs.specs.ModelWorld.{Standing, Up, Down}
use Rattle.ficus_loop.specs.Trail.{SomePending}
use Rattle.ficus_loop.specs.Trail.SomePending.{NonePending, With, Without}
use Rattle.ficus_world.specs.Stand.{KeepsFor, KeepsWith}
use Rattle.ficus_opening.specs.Stand.{KeepsOf}
use Rattle.ficus_world.specs.World.{AreOthers}

-- what others do leaves what a member saves
others_saved : (volume : Volume) (H : List Event) (r : ℕ) (saved : Saved) (event : Event) → actor event ≢ r
    → IsSavedOf volume H r saved → IsSavedOf volume (H ++ event ∷ []) r saved
others_saved volume H r saved event other is =
    saved_kept event (inl other) (is_update_of_other r event other) is (saved_of_other r event other)

all_saved : (volume : Volume) (H : List Event) (r : ℕ) (saved : Saved) (later : List Event) → AreOthers r later
    → IsSavedOf volume H r saved → IsSavedOf volume (H ++ later) r saved
all_saved volume H r saved [] others is = subst (λ (l : List Event). IsSavedOf volume l r saved) (sym (append-nil H)) is
all_saved volume H r saved (event ∷ later) others is =
    subst (λ (l : List Event). IsSavedOf volume l r saved) (append_assoc H (event ∷ []) later)
    (all_saved volume (H ++ event ∷ []) r saved later others.1 (others_saved volume H r saved event others.0 is))

others_more : (r : ℕ) (later : List Event) (event : Event) → AreOthers r later → actor event ≢ r
    → AreOthers r (later ++ event ∷ [])
others_more r [] event others other = (other, tt)
others_more r (first ∷ later) event others other = (others.0, others_more r later event others.1 other)

pub keeps_later : (volume : Volume) (H : List Event) (r : ℕ) (found : Option Kept) (later : List Event) → AreOthers r later
    → KeepsOf volume H r found → KeepsOf volume (H ++ later) r found
keeps_later volume H r found later others keeps = record {
  saved = keeps.saved;
  is = all_saved volume H r keeps.saved later others keeps.is;
  fits = keeps.fits;
  holds = keeps.holds;
}

module _ (volume : Volume) (H : List Event) (lawful : IsLawful volume H) (found : ℕ → Option Kept)
    (standing : ℕ → Standing)
    (keeps : (r : ℕ) → IsMember volume.members r → KeepsFor volume H r (found r) (standing r)) where
  -- of the members up to this one, what was pending and is found has happened too
  pub record GoesOn (count : ℕ) : Type 0 where
    pub more : List Event
    pub few : length more ≤ count
    pub pending : SomePending (λ r event. standing r ≡ Down (Some event)) count more
    pub lawful_on : IsLawful volume (H ++ more)
    pub others : (r : ℕ) → count < r → AreOthers r more
    pub each : (r : ℕ) → 1 ≤ r → r ≤ count → KeepsOf volume (H ++ more) r (found r)

  goes_none : GoesOn 0
  goes_none = record {
    more = [];
    few = omega arith;
    pending = NonePending;
    lawful_on = subst (IsLawful volume) (sym (append-nil H)) lawful;
    others = λ r above. tt;
    each = λ r one within. absurd (omega (arith, one, within));
  }

  -- nothing of the next member was pending, or it isn't found
  goes_plain : (count : ℕ) → GoesOn count → KeepsOf volume H (count + 1) (found (count + 1)) → GoesOn (count + 1)
  goes_plain count on kept = record {
    more = on.more;
    few = omega (arith, on.few);
    pending = Without on.pending;
    lawful_on = on.lawful_on;
    others = λ r above. on.others r (omega (arith, above));
    each = λ r one within. ⊎_elim
        (λ same. subst (λ n. KeepsOf volume (H ++ on.more) n (found n)) (sym same)
        (keeps_later volume H (count + 1) (found (count + 1)) on.more (on.others (count + 1) (omega arith)) kept))
        (λ differs. on.each r one (omega (arith, within, differs))) (cases_eq r (count + 1));
  }

  goes_with : (count : ℕ) (event : Event) → standing (count + 1) ≡ Down (Some event) → GoesOn count → KeepsWith volume H (count + 1) event (found (count + 1))
      → GoesOn (count + 1)
  goes_with count event waits on kept =
      let after = kept.follows on.more (on.others (count + 1) (omega arith)) on.lawful_on in
      let assoc : (H ++ on.more) ++ event ∷ [] ≡ H ++ (on.more ++ event ∷ []) =
      append_assoc H on.more (event ∷ []) in
      record {
        more = on.more ++ event ∷ [];
        few = omega (arith, on.few, length-append on.more (event ∷ []));
        pending = With on.pending waits;
        lawful_on = subst (IsLawful volume) assoc (lawful_more volume (H ++ on.more) event on.lawful_on after.0);
        others = λ r above.
            let other : actor event ≢ r = λ same. omega (arith, above, same, kept.own) in
            others_more r on.more event (on.others r (omega (arith, above))) other;
        each = λ r one within. ⊎_elim
            (λ same. subst (λ n. KeepsOf volume (H ++ (on.more ++ event ∷ [])) n (found n)) (sym same) (record {
              saved = kept.saved;
              is = subst (λ (l : List Event). IsSavedOf volume l (count + 1) kept.saved) assoc after.1;
              fits = kept.fits;
              holds = kept.holds;
            }))
            (λ differs.
            let before = on.each r one (omega (arith, within, differs)) in
            let other : actor event ≢ r = λ same. differs (sym same ∙ kept.own) in
            record {
              saved = before.saved;
              is = subst (λ (l : List Event). IsSavedOf volume l r before.saved) assoc
                  (others_saved volume (H ++ on.more) r before.saved event other before.is);
              fits = before.fits;
              holds = before.holds;
            }) (cases_eq r (count + 1));
      }

  goes_next : (count : ℕ) (how : Standing) → standing (count + 1) ≡ how → GoesOn count → KeepsFor volume H (count + 1) (found (count + 1)) how
      → GoesOn (count + 1)
  goes_next count Up is on kept = goes_plain count on kept
  goes_next count (Down None) is on kept = goes_plain count on kept
  goes_next count (Down (Some event)) is on (inl kept) = goes_plain count on kept
  goes_next count (Down (Some event)) is on (inr kept) = goes_with count event is on kept

  goes_up_to : (count : ℕ) → count ≤ volume.members → GoesOn count
  goes_up_to zero within = goes_none
  goes_up_to (suc count) within =
      let next : count + 1 ≡ suc count = omega arith in
      let on = goes_up_to count (omega (arith, within)) in
      subst GoesOn next
      (goes_next count (standing (count + 1)) refl on
      (keeps (count + 1) (record { at_least = omega arith; at_most = omega (arith, within) })))

  -- one history for all
  pub goes_on : GoesOn volume.members
  goes_on = goes_up_to volume.members (omega arith)
