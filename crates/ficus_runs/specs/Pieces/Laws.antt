-- The laws, as the law functions state them.
use Rattle.std.specs.Prelude.{◌≡◌, ◌↔◌, ◌⊎◌, ℕ, ◌≤◌, List, ◌++◌, length, slice_get, Some}
use Rattle.std.specs.List.{concat}
use Rattle.ficus_formats.specs.Pieces.{piece_count, piece_at}
use Rattle.ficus_entry.specs.declared.entry.Entry.{Entry}
use Rattle.ficus_file.specs.declared.file.FileReplica.{FileReplica}
use Rattle.ficus_model.specs.declared.event.Event.{Event}
use Rattle.ficus_model.specs.declared.event.Event.TheVariants.{Ask, Serve}
use Rattle.ficus_model.specs.Events.{IsAt, IsOf, through, generation_of}
use Rattle.ficus_model.specs.Known.{Knows}
use Rattle.ficus_model.specs.Lawful.{Volume, IsLawful, AnswersOpenAsk, HasTaken, IsWantedPiece, MayServe}
use Rattle.ficus_durable_state.specs.declared.saved.Saved.{Saved}
use Rattle.ficus_replica.specs.SavedOf.{IsSavedOf}

-- an own event of the replica after the first so many
pub record IsOwnSince (start : ℕ) (H : List Event) (replica position : ℕ) : Type 0 where
  pub since : start ≤ position
  pub own : IsOf H position replica

-- where the generation is the same later, the replica knows then what it knew, and its own events since
abbrev pub GenerationKeepsKnown : Type 0
GenerationKeepsKnown = (H later : List Event) (replica position : ℕ) →
    generation_of replica (H ++ later) ≡ generation_of replica H →
    Knows (H ++ later) replica position ↔
    (Knows H replica position ⊎ IsOwnSince (length H) (H ++ later) replica position)

-- and the same is saved of it
abbrev pub GenerationKeepsSaved : Type 0
GenerationKeepsSaved = (volume : Volume) (H later : List Event) (replica : ℕ) (saved : Saved) →
    generation_of replica (H ++ later) ≡ generation_of replica H →
    IsSavedOf volume H replica saved → IsSavedOf volume (H ++ later) replica saved

-- so at two positions with the same generation
abbrev pub GenerationDeterminesSaved : Type 0
GenerationDeterminesSaved = (volume : Volume) (H : List Event) (replica one other : ℕ) (saved again : Saved) →
    generation_of replica (through one H) ≡ generation_of replica (through other H) →
    IsSavedOf volume (through one H) replica saved → IsSavedOf volume (through other H) replica again → saved ≡ again

-- the bytes that spell tables
abbrev pub Spelling : Type 0
Spelling = List Entry → List FileReplica → List ℕ

abbrev pub spelling_of : Spelling → Saved → List ℕ
spelling_of spelling saved = spelling saved.entries saved.files

-- the piece with this number of the tables that the server held at a position where it had this generation
pub record IsServedPiece (spelling : Spelling) (volume : Volume) (H : List Event)
    (server generation index : ℕ) (piece : List ℕ) : Type 0 where
  pub served : ℕ
  pub numbered : generation_of server (through served H) ≡ generation
  pub saved : Saved
  pub is : IsSavedOf volume (through served H) server saved
  pub piece_is : piece ≡ piece_at (spelling_of spelling saved) index

-- as many pieces as the tables that were served at a position have, each served there or elsewhere at the same
-- generation, are joined to the spelling of these tables
abbrev pub MixedPiecesJoin : Type 0
MixedPiecesJoin = (spelling : Spelling) (volume : Volume) (H : List Event) (server served : ℕ) (saved : Saved)
    (pieces : List (List ℕ)) → IsSavedOf volume (through served H) server saved →
    length pieces ≡ piece_count (spelling_of spelling saved) →
    ((index : ℕ) (piece : List ℕ) → slice_get pieces index ≡ Some piece →
    IsServedPiece spelling volume H server (generation_of server (through served H)) index piece) →
    concat pieces ≡ spelling_of spelling saved

-- what a replica has taken since its open ask answers that ask
abbrev pub TakenAnswer : Type 0
TakenAnswer = (volume : Volume) (H : List Event) (r serve index : ℕ) → IsLawful volume H →
    AnswersOpenAsk H serve r → (taken : HasTaken H r index) → AnswersOpenAsk H taken.serve r

-- where a piece is wanted, each that is taken is of the same server's answer to the same ask, of the same state and
-- number of pieces
abbrev pub TakenAreAlike : Type 0
TakenAreAlike = (volume : Volume) (H : List Event) (r serve piece index : ℕ) → IsLawful volume H →
    (wanted : IsWantedPiece H r serve piece) (taken : HasTaken H r index) →
    let answer = wanted.answer in
    IsAt H taken.serve (Serve answer.server answer.ask answer.state answer.pieces)

-- and the server saved the same there
abbrev pub TakenTablesAreOne : Type 0
TakenTablesAreOne = (volume : Volume) (H : List Event) (r serve piece index : ℕ) (saved again : Saved) →
    IsLawful volume H → (wanted : IsWantedPiece H r serve piece) (taken : HasTaken H r index) →
    IsSavedOf volume (through serve H) wanted.answer.server saved →
    IsSavedOf volume (through taken.serve H) wanted.answer.server again → again ≡ saved

-- servings of one ask with one state have one number of pieces
abbrev pub ServesAgree : Type 0
ServesAgree = (volume : Volume) (H : List Event) (one other server ask state pieces again : ℕ) → IsLawful volume H →
    IsAt H one (Serve server ask state pieces) → IsAt H other (Serve server ask state again) → again ≡ pieces

-- at this position so many pieces were served as the tables of the server there have
pub record HasServedAll (spelling : Spelling) (volume : Volume) (H : List Event) (position server pieces : ℕ) :
    Type 0 where
  pub saved : Saved
  pub is : IsSavedOf volume (through position H) server saved
  pub count : pieces ≡ piece_count (spelling_of spelling saved)

-- where each earlier Serve of the ask had as many pieces as its tables, so may the next one
abbrev pub ServesMayCome : Type 0
ServesMayCome = (spelling : Spelling) (volume : Volume) (H : List Event) (server asker ask : ℕ) (saved : Saved) →
    IsLawful volume H → IsAt H ask (Ask asker server) → IsSavedOf volume H server saved →
    1 ≤ piece_count (spelling_of spelling saved) →
    ((position state other : ℕ) → IsAt H position (Serve server ask state other) →
    HasServedAll spelling volume H position server other) →
    MayServe volume H server ask (generation_of server H) (piece_count (spelling_of spelling saved))
