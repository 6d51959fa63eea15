-- The openings of a run are a link of its trail, along which what had happened before stays.
use Rattle.std.proofs.Common.{◌≡◌, ℕ, ◌≤◌, List, [], ◌∷◌, ◌++◌, Bool, Option, refl, sym, ap, subst, ◌∙◌, inl, inr, append_assoc, append-nil, arith}
use Rattle.std.specs.Prelude.{map}
use Rattle.std.specs.List.{range_with_len}
use Rattle.std.proofs.lemmas.List.{length-replicate}
use Rattle.ficus_disk.specs.declared.disk.Disk.{Ghosts as Disk}
use Rattle.ficus_disk.specs.declared.pair.Pair.{Pair}
use Rattle.ficus_keeper.specs.Kept.{Kept}
use Rattle.ficus_model.specs.declared.event.Event.{Event}
use Rattle.ficus_model.specs.declared.event.Event.TheVariants.{Restart}
use Rattle.ficus_model.specs.Lawful.{Volume}
use Rattle.ficus_replica.specs.SavedOf.{IsSavedOf}
use Rattle.ficus_replica.proofs.Saves.{saved_kept}
use Rattle.ficus_durable_state.specs.declared.saved.Saved.{Saved}
use Rattle.ficus_runs.specs.ModelWorld.{ModelWorld, Standing, Up}
use Rattle.ficus_runs.specs.Start.{start}
use Rattle.ficus_runs.proofs.Up.{up_first}
use Rattle.ficus_opening.specs.Rests.{AllRest}
use Rattle.ficus_loop.specs.Crashes.{CrashesKeep}
use Rattle.ficus_world.specs.Stand.{KeepsFor}
use Rattle.ficus_opening.specs.Stand.{KeepsOf}
use Rattle.ficus_world.proofs.Kills.{left_old}
use Rattle.ficus_loop.specs.Trail.{Neighbours}

-- a restart saves nothing
restarts_saved : (volume : Volume) (H : List Event) (r : ℕ) (saved : Saved) (replicas : List ℕ)
    → IsSavedOf volume H r saved → IsSavedOf volume (H ++ map (λ by. Restart by) replicas) r saved
restarts_saved volume H r saved [] is =
    subst (λ (l : List Event). IsSavedOf volume l r saved) (sym (append-nil H)) is
restarts_saved volume H r saved (by ∷ replicas) is =
    subst (λ (l : List Event). IsSavedOf volume l r saved)
    (append_assoc H (Restart by ∷ []) (map (λ by. Restart by) replicas))
    (restarts_saved volume (H ++ Restart by ∷ []) r saved replicas (saved_kept (Restart by) (inr tt) refl is refl))

module _ {D : Type 0} (kept : List ℕ → List ℕ → Option Kept) (disk : Disk D)
    (only_now : (d : D) (c : List ℕ) → disk.left_since d (disk.moment d) c → disk.may_leave d c) (volume : Volume)
    (H : List Event) (total : ℕ) (fused : List Bool) where
  abbrev first : ModelWorld
  first = start H volume.members total fused

  pub opened_neighbours : (entry opened : List (Pair D)) → CrashesKeep kept disk.may_leave volume H entry
      → AllRest disk entry opened → Neighbours kept disk volume first first entry opened
  opened_neighbours entry opened crashes rest = record {
    count = rest.count;
    each = λ r was now is_was is_now.
        let rests = rest.each r was now is_was is_now in
        record {
          keeps = λ told moments standing after at at_too a b left_a left_b.
              let few : r ≤ volume.members =
              omega (arith, at.member.at_most, length-replicate volume.members Up) in
              let held =
              crashes.each r was is_was (record { at_least = at.member.at_least; at_most = few }) a b
              (left_old disk only_now was.a now.a rests.leaves.a a left_a)
              (left_old disk only_now was.b now.b rests.leaves.b b left_b) in
              let keeps : KeepsOf volume first.events r (kept a b) = record {
                saved = held.saved;
                is = restarts_saved volume H r held.saved (range_with_len 1 volume.members) held.is;
                fits = held.fits;
                holds = held.holds;
              } in
              let up : standing ≡ Up = (up_first volume.members).each r standing at in
              inl (subst (λ (s : Standing). KeepsFor volume first.events r (kept a b) s) (sym up) keeps);
          unwritten = λ none. rests;
          spans = rests.spans;
        };
  }
