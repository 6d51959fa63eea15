-- A server may serve the pieces of its tables again.
use Rattle.std.proofs.Common.{◌≡◌, ℕ, ◌+◌, ◌≤◌, List, length, refl, sym, ap, ◌∙◌, subst, arith}
use Rattle.std.proofs.lemmas.List.{take_all}
use Rattle.ficus_model.specs.declared.event.Event.{Event}
use Rattle.ficus_model.specs.declared.event.Event.TheVariants.{Ask, Serve}
use Rattle.ficus_model.specs.Events.{IsAt, through, generation_of}
use Rattle.ficus_model.specs.Lawful.{Volume, IsLawful, MayServe}
use Rattle.ficus_durable_state.specs.declared.saved.Saved.{Saved}
use Rattle.ficus_replica.specs.SavedOf.{IsSavedOf}
use Rattle.ficus_formats.specs.Pieces.{piece_count}
use Rattle.ficus_runs.specs.Pieces.Laws.{Spelling, spelling_of, HasServedAll}
use Rattle.ficus_runs.proofs.pieces.Saving.{saved_same}
use Rattle.ficus_runs.proofs.pieces.Taken.{served_generation}

-- the whole history is the events through its length
whole : (H : List Event) → through (length H) H ≡ H
whole H = take_all (length H + 1) H (omega arith)

module _ (spelling : Spelling) (volume : Volume) (H : List Event) (server asker ask : ℕ) (saved : Saved)
    (lawful : IsLawful volume H) (asked : IsAt H ask (Ask asker server)) (is : IsSavedOf volume H server saved)
    (some : 1 ≤ piece_count (spelling_of spelling saved))
    (all : (position state other : ℕ) → IsAt H position (Serve server ask state other) →
    HasServedAll spelling volume H position server other) where
  alike : (position other : ℕ) → IsAt H position (Serve server ask (generation_of server H) other) →
      other ≡ piece_count (spelling_of spelling saved)
  alike position other at =
      let served = all position (generation_of server H) other at in
      let now : IsSavedOf volume (through (length H) H) server saved =
      subst (λ K. IsSavedOf volume K server saved) (sym (whole H)) is in
      let generation : generation_of server (through position H) ≡ generation_of server (through (length H) H) =
      served_generation lawful at ∙ ap (generation_of server) (sym (whole H)) in
      let one : served.saved ≡ saved = saved_same H position (length H) generation served.is now in
      served.count ∙ ap (λ (s : Saved). piece_count (spelling_of spelling s)) one

  pub serve_may_come : MayServe volume H server ask (generation_of server H) (piece_count (spelling_of spelling saved))
  serve_may_come = record {
    member = is.member;
    asker = asker;
    asked = asked;
    generation = refl;
    some = some;
    alike = alike;
  }
