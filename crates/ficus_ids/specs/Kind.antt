-- The kinds of objects: their words, what an object of each is for, and with what text it may be made.
use Rattle.std.specs.Prelude.{◌≡◌, ℕ, ◌≤◌, List, [], length, codes}
use Rattle.ficus_ids.specs.declared.kind.Kind.{Kind}
use Rattle.ficus_ids.specs.declared.kind.Kind.TheVariants.{Dir, Plain, Lines, Max, Keep, Symlink}
use Rattle.ficus_ids.specs.declared.kind.Sort.{Sort}
use Rattle.ficus_ids.specs.declared.kind.Sort.TheVariants.{Directory, Versioned, Fixed}

abbrev pub kind_word : Kind → List ℕ
kind_word Dir = codes "dir"
kind_word Plain = codes "plain"
kind_word Lines = codes "lines"
kind_word Max = codes "max"
kind_word Keep = codes "keep"
kind_word Symlink = codes "symlink"

-- what an object of the kind is for
abbrev pub sort_of : Kind → Sort
sort_of Dir = Directory
sort_of Plain = Versioned
sort_of Lines = Versioned
sort_of Max = Versioned
sort_of Keep = Versioned
sort_of Symlink = Fixed

-- the most bytes of a text that stays
abbrev pub most_fixed_bytes : ℕ
most_fixed_bytes = 1024

-- the text may be that of an object whose text stays
pub record IsFixedText (text : List ℕ) : Type 0 where
  pub some : 1 ≤ length text
  pub within : length text ≤ most_fixed_bytes

-- an object for this may be made with this text: only one whose text stays has any
abbrev pub FitsSort : Sort → List ℕ → Type 0
FitsSort Directory text = text ≡ []
FitsSort Versioned text = text ≡ []
FitsSort Fixed text = IsFixedText text

-- an object of the kind may be made with this text
abbrev pub FitsKind : Kind → List ℕ → Type 0
FitsKind kind text = FitsSort (sort_of kind) text
