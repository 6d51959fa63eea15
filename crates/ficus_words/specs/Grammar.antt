-- The words of a command line, the program's name first: values that stand alone, and options, each with one value.
use Rattle.std.specs.Prelude.{◌≡◌, ◌≢◌, ◌⊎◌, ◌≤◌, ℕ, List, [], ◌∷◌, ◌++◌, drop, length, slice_index, codes, AllPairs, Contains}
use Rattle.std.specs.List.{zip}

abbrev pub Text : Type 0
Text = List ℕ

-- a name, and the value that the words give it
abbrev pub Use : Type 0
Use = Text × Text

-- the names of the options
abbrev pub option_names : List Text
option_names =
    codes "members" ∷ codes "ids" ∷ codes "bytes" ∷ codes "seed" ∷ codes "steps" ∷ codes "volumes" ∷ codes "replica"
    ∷ codes "tag" ∷ []

-- the names of the places for values that stand alone, in order
abbrev pub place_names : List Text
place_names = codes "mode" ∷ codes "root" ∷ []

-- a word may be a value where it is `-` (45), or doesn't begin with it
abbrev pub IsValue : Text → Type 0
IsValue word = (word ≡ codes "-") ⊎ (slice_index word 0 ≢ 45)

-- The words spell these uses, in order, where these places are free.
pub data Spells : List Text → List Text → List Use → Type 0 where
  -- no word spells no use
  Nothing : {places : List Text} → Spells places [] []
  -- a value that stands alone goes to the first free place
  Alone : {place value : Text} {places words : List Text} {uses : List Use} → IsValue value → Spells places words uses →
      Spells (place ∷ places) (value ∷ words) ((place, value) ∷ uses)
  -- `--name value`
  Apart : {name value word : Text} {places words : List Text} {uses : List Use} → Contains option_names name →
      IsValue value → word ≡ codes "--" ++ name → Spells places words uses →
      Spells places (word ∷ value ∷ words) ((name, value) ∷ uses)
  -- `--name=value`, with any value behind the `=` (61)
  Joined : {name value word : Text} {places words : List Text} {uses : List Use} → Contains option_names name →
      word ≡ codes "--" ++ name ++ 61 ∷ value → Spells places words uses →
      Spells places (word ∷ words) ((name, value) ∷ uses)
  -- behind `--` all words go to places, whatever they are
  Ended : {word : Text} {places words : List Text} {uses : List Use} → word ≡ codes "--" →
      length words ≤ length places → uses ≡ zip places words → Spells places (word ∷ words) uses

-- the words, of which the first is the program's name, give these uses and no others, and no name two
pub record Gives (words : List Text) (uses : List Use) : Type 0 where
  pub spelled : Spells place_names (drop 1 words) uses
  pub distinct : AllPairs (λ one other. one.0 ≢ other.0) uses
