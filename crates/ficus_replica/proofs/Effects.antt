-- What an operation makes of a saved record stands for the history with the update.
use Rattle.std.proofs.Common.{◌≡◌, ℕ, ◌≤◌, List, [], ◌∷◌, ◌++◌, sym, subst, arith}
use Rattle.ficus_entry.specs.declared.entry.Entry.{Entry}
use Rattle.ficus_file.specs.declared.file.FileReplica.{FileReplica}
use Rattle.ficus_model.specs.declared.event.Event.{Event}
use Rattle.ficus_model.specs.declared.event.Event.TheVariants.{Update}
use Rattle.ficus_model.specs.declared.event.Op.{Op}
use Rattle.ficus_model.specs.Lawful.{Volume, IsLawful}
use Rattle.ficus_durable_state.specs.declared.saved.Saved.{Saved}
use Rattle.ficus_laws.specs.Updates.{next_number}
use Rattle.ficus_laws.proofs.Lawful.{lawful_less}
use Rattle.ficus_laws.proofs.Updates.{count_update}
use Rattle.ficus_held_laws.specs.Entries.{AreEntriesStepped}
use Rattle.ficus_held_laws.specs.Objects.{AreObjectsStepped}
use Rattle.ficus_held_laws.proofs.Growing.{objects_stepped}
use Rattle.ficus_held_laws.proofs.Listing.{list_stepped}
use Rattle.ficus_held_file_laws.specs.Tables.{objects_of}
use Rattle.ficus_merge_files.proofs.Current.{ordered_of}
use Rattle.ficus_replica.specs.Effect.{Applied, next_id}
use Rattle.ficus_replica.specs.SavedOf.{IsSavedOf}
use Rattle.ficus_replica.proofs.Saves.{saved_then, generation_saved, update_is_saved, written_more}

-- In each of these a replica that stands for a history does one more operation, which may come.
module _ {volume : Volume} {H : List Event} {r : ℕ} {old : Saved} (op : Op)
    (lawful : IsLawful volume (H ++ Update r op ∷ [])) (several : 2 ≤ volume.members)
    (is : IsSavedOf volume H r old) where
  abbrev after : List Event
  after = H ++ Update r op ∷ []

  number_is : next_id old ≡ next_number r H
  number_is = cc (is.me, is.next)

  entries_of : (entries : List Entry) → AreEntriesStepped old.me (next_id old) op old.entries entries →
      AreEntriesStepped r (next_number r H) op old.entries entries
  entries_of entries stepped =
      subst (λ by. AreEntriesStepped by (next_number r H) op old.entries entries) is.me
      (subst (λ number. AreEntriesStepped old.me number op old.entries entries) number_is stepped)

  objects_of_files : (files : List FileReplica) →
      AreObjectsStepped old.me (next_id old) op (objects_of old.files) (objects_of files) →
      AreObjectsStepped r (next_number r H) op (objects_of old.files) (objects_of files)
  objects_of_files files stepped =
      subst (λ by. AreObjectsStepped by (next_number r H) op (objects_of old.files) (objects_of files)) is.me
      (subst (λ number. AreObjectsStepped old.me number op (objects_of old.files) (objects_of files)) number_is stepped)

  -- once the operation is done, what is saved stands for the history with the update
  pub applied_stands : {new : Saved} → Applied old op new → IsSavedOf volume after r new
  applied_stands {new} applied =
      let stepped = applied.stepped in
      subst (IsSavedOf volume after r) (sym applied.saved) (saved_then is
      (omega (arith, is.next, count_update r H op))
      (omega (arith, is.used, written_more r H op))
      (omega (arith, is.generation, generation_saved r H (Update r op) (update_is_saved r op)))
      (record {
        rising = stepped.rising;
        kept = list_stepped volume H r op several lawful is.entries.kept (entries_of applied.entries stepped.stepped);
      })
      (record {
        rising = stepped.held.rising;
        ordered = λ file inside. ordered_of file (stepped.held.each file inside).well_formed;
        kept = objects_stepped volume H r op (objects_of old.files) (objects_of applied.files)
            (lawful_less volume H (Update r op) lawful).0 is.files.kept (objects_of_files applied.files stepped.stepped_files);
      }))
