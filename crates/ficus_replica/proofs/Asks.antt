-- `ask`: a replica that stands for a history asks, and stands for it with the ask.
use Rattle.std.proofs.Common.{◌≡◌, ◌≢◌, ℕ, ◌+◌, ◌-◌, ◌^◌, ◌<◌, arith, List, [], ◌∷◌, ◌++◌, length, refl, sym, ap, subst, ◌∙◌, inr}
use Rattle.ficus_ids.specs.Members.{IsMember}
use Rattle.ficus_model.specs.declared.event.Event.{Event}
use Rattle.ficus_model.specs.declared.event.Event.TheVariants.{Ask}
use Rattle.ficus_model.specs.Events.{through, generation_of}
use Rattle.ficus_model.specs.Lawful.{Volume}
use Rattle.ficus_record.specs.declared.record.Record.TheVariants as noted
use Rattle.ficus_durable_state.specs.Saved.{FitsImage}
use Rattle.ficus_durable_state.specs.declared.saved.Saved.{Saved}
use Rattle.ficus_laws.proofs.OpenAsk.{open_end}
use Rattle.ficus_replica.specs.declared.replica.Replica.{Replica}
use Rattle.ficus_replica.specs.Ask.{AskGives}
use Rattle.ficus_replica.specs.Makes.{IsNoted, once_more}
use Rattle.ficus_replica.specs.SavedOf.{StandsFor, StandsAfter}
use Rattle.ficus_replica.proofs.OpenAsks.{through_end}
use Rattle.ficus_replica.proofs.Saves.{ask_is_saved, generation_saved, saved_again}
use Rattle.ficus_replica.proofs.Tables.{image_then, tables_of}

-- once it has asked, a replica stands for the history with the ask
pub asks_stands : (volume : Volume) (H : List Event) (r to : ℕ) (old new : Replica) → StandsFor volume H r old →
    AskGives old to new → StandsFor volume (H ++ Ask r to ∷ []) r new
asks_stands volume H r to old new stands asks =
    subst (StandsFor volume (H ++ Ask r to ∷ []) r) (sym asks) (record {
      saved = saved_again (Ask r to) (inr tt) refl stands.saved (ask_is_saved r to);
      ask = (length H, open_end H r to, number);
    })
  where
    number : old.saved.generation + 1 ≡ generation_of r (through (length H) (H ++ Ask r to ∷ []))
    number =
        ap (λ generation. generation + 1) stands.saved.generation
        ∙ sym (generation_saved r H (Ask r to) (ask_is_saved r to))
        ∙ ap (generation_of r) (sym (through_end H (Ask r to)))

-- and the ask may come
pub ask_gives_stands : (volume : Volume) (to : ℕ) (old new : Replica) (H : List Event) → FitsImage old.saved →
    IsMember old.saved.members to → to ≢ old.saved.me → AskGives old to new → StandsFor volume H old.saved.me old →
    StandsAfter volume H old.saved.me (Ask old.saved.me to) new
ask_gives_stands volume to old new H fits peer differs gives stands = record {
  lawful = record { member = member_of old.saved.me fits.me; other = member_of to peer; differ = λ same. differs (sym same) };
  stands = asks_stands volume H old.saved.me to old new stands gives;
}
  where
    member_of : (r : ℕ) → IsMember old.saved.members r → IsMember volume.members r
    member_of r member = subst (λ members. IsMember members r) stands.saved.members member

-- what is saved once more is what the record of an ask makes
pub ask_noted : (old new : Saved) → FitsImage old → old.generation < 2 ^ 63 - 1 → new ≡ once_more old →
    IsNoted old noted.Ask new
ask_noted old new fits generation is = record {
  spelled = tt;
  fit = record { generation = generation; fits = tt };
  makes = is;
  fits = subst FitsImage (sym is)
      (image_then fits fits.next_at_least fits.next_at_most fits.used (omega arith) (tables_of fits));
}
