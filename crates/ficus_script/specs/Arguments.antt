-- What stands behind the verb of a command.
use Rattle.std.specs.Prelude.{◌≡◌, ◌⊎◌, ℕ, ◌^◌, ◌<◌, ◌≤◌, List, [], ◌∷◌, slice_index, Option, Some, None}
use Rattle.std.specs.Borrow.{Bor}
use Rattle.std.specs.List.{join_with_byte}
use Rattle.std.specs.Fmt.{decimal}
use Rattle.ficus_ids.specs.Kind.{kind_word, sort_of}
use Rattle.ficus_ids.specs.declared.kind.Kind.{Kind}
use Rattle.ficus_ids.specs.declared.kind.Sort.TheVariants.{Versioned}
use Rattle.ficus_path.specs.declared.path.Path.{Path}
use Rattle.ficus_path.specs.Path.{IsPath}
use Rattle.ficus_path.specs.Spelling.{path_text}
use Rattle.ficus_path.specs.Text.{SpellsText}
use Rattle.ficus_script.specs.declared.arguments.Shape.{Shape}
use Rattle.ficus_script.specs.declared.arguments.Shape.TheVariants as shape
use Rattle.ficus_script.specs.declared.line_paths.LinePaths.{LinePaths}
use Rattle.ficus_script.specs.declared.order.Order.{Order}
use Rattle.ficus_script.specs.Order.{order_word}

-- what stands behind a verb; a text as it is spelled
pub data Arguments : Type 0 where
  Nothing : Arguments
  OnePath : (path : Path) → Arguments
  PathAndKind : (path : Path) → (kind : Kind) → Arguments
  PathAndText : (path : Path) → (text : List ℕ) → Arguments
  TwoPaths : (first : Path) → (second : Path) → Arguments
  OneNumber : (number : ℕ) → Arguments
  OneOrder : (order : Order) → Arguments
  TwoReplicas : (first : ℕ) → (second : ℕ) → Arguments
  Arming : (by : ℕ) → (calls : ℕ) → (pick : ℕ) → Arguments

-- of this shape, with these paths
abbrev pub arguments_of : LinePaths → Shape → Arguments
arguments_of paths shape.Nothing = Nothing
arguments_of paths shape.OnePath = OnePath paths.first
arguments_of paths (shape.PathAndKind kind) = PathAndKind paths.first kind
arguments_of paths (shape.PathAndText text) = PathAndText paths.first text
arguments_of paths shape.TwoPaths = TwoPaths paths.first paths.second
arguments_of paths (shape.OneNumber number) = OneNumber number
arguments_of paths (shape.OneOrder order) = OneOrder order
arguments_of paths (shape.TwoReplicas first second) = TwoReplicas first second
arguments_of paths (shape.Arming by calls pick) = Arming by calls pick

-- what a script may give as the number of a replica
pub record IsReplicaNumber (replica : ℕ) : Type 0 where
  pub at_least : 1 ≤ replica
  pub at_most : replica ≤ 255

-- paths are paths, kinds are those of files, texts are spelled, numbers have 32 bits, those of replicas are such, and
-- there are four picks
abbrev pub AreArguments : Arguments → Type 0
AreArguments Nothing = Unit {0}
AreArguments (OnePath path) = IsPath path
AreArguments (PathAndKind path kind) = IsPath path × (sort_of kind ≡ Versioned)
AreArguments (PathAndText path text) = IsPath path × SpellsText text
AreArguments (TwoPaths first second) = IsPath first × IsPath second
AreArguments (OneNumber number) = number < 2 ^ 32
AreArguments (OneOrder order) = Unit {0}
AreArguments (TwoReplicas first second) = IsReplicaNumber first × IsReplicaNumber second
AreArguments (Arming by calls pick) = IsReplicaNumber by × (calls < 2 ^ 32) × (pick < 4)

-- the words that spell them, in order; a text is the last one, as it is spelled, and spaces may stand in it
abbrev pub argument_words : Arguments → List (List ℕ)
argument_words Nothing = []
argument_words (OnePath path) = path_text path ∷ []
argument_words (PathAndKind path kind) = path_text path ∷ kind_word kind ∷ []
argument_words (PathAndText path text) = path_text path ∷ text ∷ []
argument_words (TwoPaths first second) = path_text first ∷ path_text second ∷ []
argument_words (OneNumber number) = decimal number ∷ []
argument_words (OneOrder order) = order_word order ∷ []
argument_words (TwoReplicas first second) = decimal first ∷ decimal second ∷ []
argument_words (Arming by calls pick) = decimal by ∷ decimal calls ∷ decimal pick ∷ []

-- what stands behind a word and a space, where these words follow it, or nothing
abbrev pub left_of : List (List ℕ) → Option (List ℕ)
left_of [] = None
left_of (word ∷ words) = Some (join_with_byte 32 (word ∷ words))

-- the bytes behind a reference, if there is one
abbrev pub bytes_of : Option (Bor (List ℕ)) → Option (List ℕ)
bytes_of None = None
bytes_of (Some bytes) = Some bytes.now

-- the arguments that the bytes behind a verb spell, or none where they spell none
abbrev pub IsReadingBehind : Option (List ℕ) → Option Arguments → Type 0
IsReadingBehind left (Some arguments) = AreArguments arguments × (left ≡ left_of (argument_words arguments))
IsReadingBehind left None =
    (arguments : Arguments) → AreArguments arguments → left ≡ left_of (argument_words arguments) → ⊥

-- the words are the first one, and what is left behind it
abbrev pub Begins : List ℕ → Option (List ℕ) → List (List ℕ) → Type 0
Begins first rest [] = ⊥
Begins first rest (word ∷ words) = (first ≡ word) × (rest ≡ left_of words)

-- the same of the first word behind the verb, and of what is left behind it
abbrev pub IsReadingWords : List ℕ → Option (List ℕ) → Option Arguments → Type 0
IsReadingWords first rest (Some arguments) = AreArguments arguments × Begins first rest (argument_words arguments)
IsReadingWords first rest None =
    (arguments : Arguments) → AreArguments arguments → Begins first rest (argument_words arguments) → ⊥

-- the word begins as the spelling of a path does, with a slash (47) or a tilde (126)
abbrev pub BeginsPath : List ℕ → Type 0
BeginsPath word = (slice_index word 0 ≡ 47) ⊎ (slice_index word 0 ≡ 126)

-- the word begins as the spelling of a text does, with a quotation mark (34)
abbrev pub BeginsText : List ℕ → Type 0
BeginsText word = slice_index word 0 ≡ 34
