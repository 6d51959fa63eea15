-- What a save leaves noted.
use Rattle.std.proofs.Common.{◌≡◌, inl, inr, ⊎_elim, ℕ, List, Option, Some, Result, sym, ◌∙◌, ap}
use Rattle.std.specs.Prelude.{Bool, true, OnOk}
use Rattle.ficus_disk.specs.declared.disk.Disk.{Ghosts as Disk}
use Rattle.ficus_disk.specs.declared.pair.Pair.{Pair}
use Rattle.ficus_keeper.specs.Calls.{CommitsBytes}
use Rattle.ficus_keeper.specs.Kept.{Kept, found_in, image_alone}
use Rattle.ficus_keeper.proofs.Results.{both_ok}
use Rattle.ficus_note.specs.Calls.{Saves}
use Rattle.ficus_note.specs.Noted.{HoldsAt, note_bytes}
use Rattle.ficus_note.specs.declared.asked.Asked.{Asked}
use Rattle.ficus_note.specs.declared.note.Note.{Note}
use Rattle.ficus_two_slots.specs.Slots.{IsRegular, kept_in}
use Rattle.ficus_two_slots.specs.TwoSlot.{Fits}

module _ {D A E : Type 0} (disk : Disk D) (noted : Option Asked) (was now : Note) (bytes : List ℕ) (calls : ℕ → ℕ)
    (is_on_a : ℕ → Bool) (old new : Pair D) (result : Result A E) (spelled : bytes ≡ note_bytes noted)
    (asked : now.asked ≡ noted)
    (holds : disk.tells → HoldsAt (found_in kept_in disk.seen old) was.generation was.asked)
    (done : CommitsBytes kept_in Fits (λ _. true) calls is_on_a IsRegular disk now.generation bytes was.keeper now.keeper
    old new result) where
  held : (found : Option Kept) → found ≡ Some (image_alone now.generation bytes) → HoldsAt found now.generation noted
  held found is = is ∙ ap (λ (text : List ℕ). Some (image_alone now.generation text)) spelled

  pub saves : OnOk result (now.asked ≡ noted) → Saves disk noted was now old new result
  saves told_asked = record {
    ready = λ told. both_ok result
        (λ is settled. record {
          holds = held _ is ∙ ap (λ (note : Option Asked). Some (image_alone now.generation (note_bytes note))) (sym asked);
          settled = settled;
        })
        (done.told told).kept (done.told told).settled;
    asked = told_asked;
    crash = λ told. record {
      each = λ a b left_a left_b. ⊎_elim (λ is. inl (was.generation, is ∙ holds told))
          (λ is. inr (now.generation, held (kept_in a b) is)) ((done.told told).crash.each a b left_a left_b);
    };
    between = λ told. record {
      each = λ a b left_a left_b. ⊎_elim (λ is. inl (was.generation, is ∙ holds told))
          (λ is. inr (now.generation, held (kept_in a b) is)) ((done.told told).between.each a b left_a left_b);
    };
    spans = done.spans;
    other = done.other;
    counts = done.counts;
  }
