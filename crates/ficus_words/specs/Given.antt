-- What the words give each name.
use Rattle.std.specs.Prelude.{◌≡◌, ◌≢◌, ◌⊎◌, ◌≤◌, ℕ, List, [], Option, Some, None, codes, option_map, replicate}
use Rattle.std.specs.List.{find}
use Rattle.std.specs.Str.{bytes_eq}
use Rattle.std.specs.Fmt.{decimal}
use Rattle.ficus_tag.specs.Tag.{SpellsTag}
use Rattle.ficus_words.specs.Grammar.{Text, Use}
use Rattle.ficus_words.specs.declared.given.Given.{Given}

-- the value that the name gets
abbrev pub value_of : Text → List Use → Option Text
value_of name uses = option_map (λ one. one.1) (find (λ one. bytes_eq one.0 name) uses)

-- the text at each name, where there is one
pub record Texts : Type 0 where
  pub mode : Option Text
  pub root : Option Text
  pub members : Option Text
  pub ids : Option Text
  pub bytes : Option Text
  pub seed : Option Text
  pub steps : Option Text
  pub volumes : Option Text
  pub replica : Option Text
  pub tag : Option Text

abbrev pub texts_of : List Use → Texts
texts_of uses = record {
  mode = value_of (codes "mode") uses;
  root = value_of (codes "root") uses;
  members = value_of (codes "members") uses;
  ids = value_of (codes "ids") uses;
  bytes = value_of (codes "bytes") uses;
  seed = value_of (codes "seed") uses;
  steps = value_of (codes "steps") uses;
  volumes = value_of (codes "volumes") uses;
  replica = value_of (codes "replica") uses;
  tag = value_of (codes "tag") uses;
}

abbrev pub given_texts : Given → Texts
given_texts given = record {
  mode = option_map (λ text. text.now) given.mode;
  root = option_map (λ text. text.now) given.root;
  members = option_map (λ text. text.now) given.members;
  ids = option_map (λ text. text.now) given.ids;
  bytes = option_map (λ text. text.now) given.bytes;
  seed = option_map (λ text. text.now) given.seed;
  steps = option_map (λ text. text.now) given.steps;
  volumes = option_map (λ text. text.now) given.volumes;
  replica = option_map (λ text. text.now) given.replica;
  tag = option_map (λ text. text.now) given.tag;
}

-- there is this text, and it isn't empty
pub record IsSomeText (text : Option Text) (bytes : Text) : Type 0 where
  pub is : text ≡ Some bytes
  pub some : bytes ≢ []

-- the text is a number in these bounds, in decimal without sign and leading zeros
pub record IsNumber (least most : ℕ) (text : Option Text) (number : ℕ) : Type 0 where
  pub spelled : text ≡ Some (decimal number)
  pub at_least : least ≤ number
  pub at_most : number ≤ most

-- such a number, or the greatest one where there is no text
abbrev pub IsNumberOrMost : ℕ → ℕ → Option Text → ℕ → Type 0
IsNumberOrMost least most text number = ((text ≡ None) × (number ≡ most)) ⊎ IsNumber least most text number

-- the tag that the text spells, or sixteen zeros where there is no text
abbrev pub IsTagOrNone : Option Text → List ℕ → Type 0
IsTagOrNone (Some text) tag = SpellsTag text tag
IsTagOrNone None tag = tag ≡ replicate 16 0
