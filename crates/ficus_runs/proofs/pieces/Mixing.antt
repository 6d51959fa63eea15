-- Pieces of two servings of one generation are pieces of one spelling.
use Rattle.std.proofs.Common.{◌≡◌, ℕ, List, length, Some, ap, ◌∙◌}
use Rattle.std.specs.Prelude.{slice_get}
use Rattle.std.specs.List.{concat}
use Rattle.ficus_model.specs.declared.event.Event.{Event}
use Rattle.ficus_model.specs.Events.{through, generation_of}
use Rattle.ficus_model.specs.Lawful.{Volume}
use Rattle.ficus_durable_state.specs.declared.saved.Saved.{Saved}
use Rattle.ficus_replica.specs.SavedOf.{IsSavedOf}
use Rattle.ficus_formats.specs.Pieces.{piece_count, piece_at}
use Rattle.ficus_runs.specs.Pieces.Laws.{Spelling, spelling_of, IsServedPiece}
use Rattle.ficus_runs.proofs.pieces.Saving.{saved_same}
use Rattle.ficus_formats.proofs.Joining.{joins}

-- a piece that was served at the generation of these tables is a piece of their spelling
pub same_piece : (spelling : Spelling) (volume : Volume) (H : List Event) (server served : ℕ) (saved : Saved) →
    IsSavedOf volume (through served H) server saved → (index : ℕ) (piece : List ℕ) →
    IsServedPiece spelling volume H server (generation_of server (through served H)) index piece →
    piece ≡ piece_at (spelling_of spelling saved) index
same_piece spelling volume H server served saved is index piece p =
    p.piece_is
    ∙ ap (λ (s : Saved). piece_at (spelling_of spelling s) index) (saved_same H p.served served p.numbered p.is is)

pub mixed_join : (spelling : Spelling) (volume : Volume) (H : List Event) (server served : ℕ) (saved : Saved)
    (pieces : List (List ℕ)) → IsSavedOf volume (through served H) server saved →
    length pieces ≡ piece_count (spelling_of spelling saved) →
    ((index : ℕ) (piece : List ℕ) → slice_get pieces index ≡ Some piece →
    IsServedPiece spelling volume H server (generation_of server (through served H)) index piece) →
    concat pieces ≡ spelling_of spelling saved
mixed_join spelling volume H server served saved pieces is count each =
    joins (spelling_of spelling saved) pieces (record {
      count = count;
      each = λ index piece at. same_piece spelling volume H server served saved is index piece (each index piece at);
    })
