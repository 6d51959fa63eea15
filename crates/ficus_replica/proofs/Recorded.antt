-- What the record of an event makes of what is saved is saved after the history with the event.
use Rattle.std.proofs.Common.{ℕ, List, [], ◌∷◌, ◌++◌, refl, sym, subst, inr}
use Rattle.ficus_ids.specs.Members.{IsCount}
use Rattle.ficus_model.specs.declared.event.Event.{Event}
use Rattle.ficus_model.specs.declared.event.Event.TheVariants.{Update, Ask, Collect}
use Rattle.ficus_model.specs.Lawful.{Volume, IsLawful, MayCome}
use Rattle.ficus_laws.proofs.Lawful.{lawful_more}
use Rattle.ficus_record.specs.declared.record.Record.{Record}
use Rattle.ficus_durable_state.specs.Saved.{FitsImage}
use Rattle.ficus_durable_state.specs.declared.saved.Saved.{Saved}
use Rattle.ficus_replica.specs.Makes.{Makes}
use Rattle.ficus_replica.specs.Recording.{IsRecordOf}
use Rattle.ficus_replica.specs.Recording.IsRecordOf.{OfUpdate, OfAsk, OfAccept, OfCollect}
use Rattle.ficus_replica.specs.SavedOf.{IsSavedOf}
use Rattle.ficus_replica.proofs.Accepts.{merged_saved}
use Rattle.ficus_replica.proofs.Collects.{saved_collected}
use Rattle.ficus_replica.proofs.Effects.{applied_stands}
use Rattle.ficus_replica.proofs.Saves.{ask_is_saved, saved_again}

module _ (volume : Volume) (H : List Event) (r : ℕ) (old new : Saved) (fits : FitsImage old)
    (lawful : IsLawful volume H) (is : IsSavedOf volume H r old) where
  pub record_stands : {event : Event} {noted : Record} → MayCome volume H event → IsRecordOf volume H r event noted
      → Makes old noted new → IsSavedOf volume (H ++ event ∷ []) r new
  record_stands may (OfUpdate {op = op}) makes =
      let count = subst IsCount is.members fits.members in
      applied_stands op (lawful_more volume H (Update r op) lawful may) count.at_least is makes
  record_stands may (OfAsk {to = to}) makes =
      subst (IsSavedOf volume (H ++ Ask r to ∷ []) r) (sym makes)
      (saved_again (Ask r to) (inr tt) refl is (ask_is_saved r to))
  record_stands may (OfAccept {serve = serve} {piece = piece} {from = from} {number = number} {entries = entries} {files = files} served)
      makes =
      merged_saved volume H r from number entries files serve piece old lawful is served may new makes
  record_stands may OfCollect makes =
      subst (IsSavedOf volume (H ++ Collect r ∷ []) r) (sym makes.saved)
      (saved_collected volume H r lawful is makes.are makes.left)

-- so it is of every history for which the replica saves
pub records_hold : (volume : Volume) (H : List Event) (r : ℕ) (event : Event) (noted : Record) (old new : Saved)
    → FitsImage old → IsLawful volume H → IsSavedOf volume H r old → MayCome volume H event
    → IsRecordOf volume H r event noted → Makes old noted new → IsSavedOf volume (H ++ event ∷ []) r new
records_hold volume H r event noted old new fits lawful is may of makes =
    record_stands volume H r old new fits lawful is may of makes
