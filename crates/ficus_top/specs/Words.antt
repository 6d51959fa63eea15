-- The words of the command line.
use Rattle.std.specs.Prelude.{◌≡◌, List, Option, Some, None, map, string_bytes, String}
use Rattle.std.specs.declared.alloc.Global.{Global}
use Rattle.ficus_words.specs.Grammar.{Text}
use Rattle.ficus_words.specs.Mode.{AreWords}
use Rattle.ficus_words.specs.declared.mode.Mode.{Mode}
use Rattle.ficus_words.specs.declared.mode.Mode.TheVariants.{Init, Run, Check, Replay, Volumes, Gen}

-- the words as bytes
abbrev pub texts : List (String Global) → List Text
texts words = map string_bytes words

-- where the volume of a mode lies, or is to lie
abbrev pub root_in : Mode → Option Text
root_in (Init size root) = Some root
root_in (Run root) = Some root
root_in (Check root) = Some root
root_in (Replay size) = None
root_in (Volumes size count) = None
root_in (Gen members seed steps) = None

-- the words are those of a mode whose volume lies here, or is to lie here
abbrev pub NameRoot : List Text → Text → Type 0
NameRoot words root = (mode : Mode) × AreWords words mode × (root_in mode ≡ Some root)
