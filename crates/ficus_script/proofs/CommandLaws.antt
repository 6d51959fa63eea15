-- Each command is read off the table of verbs from its spelling, and no two commands share one.
use Rattle.std.proofs.Common.{◌≡◌, ◌≢◌, ℕ, ◌<◌, ◌≤◌, ◌^◌, length, true, false, if◌then◌else◌, List, [], ◌∷◌, ◌++◌, get_or, Option, None, Some, Result, Err, IfNone, IfSome, refl, sym, ◌∙◌, ap, subst, inl, inr, arith}
use Rattle.std.specs.Prelude.{codes, Ok}
use Rattle.std.specs.Fmt.{decimal}
use Rattle.std.specs.List.{join_with_byte}
use Rattle.std.specs.Str.{bytes_eq}
use Rattle.std.proofs.lemmas.Bool.Decides.{leb_tells}
use Rattle.std.proofs.lemmas.Fmt.{decimal_nonempty}
use Rattle.std.proofs.lemmas.List.{get_or_append_left}
use Rattle.ficus_ids.specs.declared.id.Id.{Id}
use Rattle.ficus_ids.specs.declared.id.TheConstants.{ROOT}
use Rattle.ficus_path.specs.declared.path.Base.{Base}
use Rattle.ficus_path.specs.declared.path.Base.TheVariants.{Root, Orphan}
use Rattle.ficus_path.specs.declared.path.Path.{Path}
use Rattle.ficus_path.proofs.CutLaws.{IsFreeOf}
use Rattle.ficus_commands.specs.declared.change.Change.TheVariants.{MkDir, Create, Symlink, Write, Settle, Resolve, Rm, Ln, Mv, Adopt, Discard}
use Rattle.ficus_commands.specs.declared.look.Look.TheVariants.{Ls, Read, Versions, ReadLink, Tree, Conflicts, Orphans, Detached, Marks}
use Rattle.ficus_script.specs.Arguments.{Arguments}
use Rattle.ficus_script.specs.Arguments.{Nothing, OnePath, PathAndKind, PathAndText, TwoPaths, OneNumber, OneOrder, TwoReplicas, Arming}
use Rattle.ficus_script.specs.declared.command.Command.{Command}
use Rattle.ficus_script.specs.declared.command.Command.TheVariants as command
use Rattle.ficus_script.specs.declared.line.LineFault.{LineFault}
use Rattle.ficus_script.specs.declared.line.LineFault.TheVariants.{NotCommand, Memory as OutOfMemory}
use Rattle.ficus_script.specs.Arguments.{IsReplicaNumber, IsReadingBehind, argument_words, left_of}
use Rattle.ficus_path.specs.Path.{at_orphan, IsNew, IsPath}
use Rattle.ficus_path.specs.Text.{quoted_text}
use Rattle.ficus_path.proofs.TextLaws.{quoted_text_injective}
use Rattle.ficus_script.specs.Script.{IsCommandLine, IsStepLine}
use Rattle.ficus_script.specs.Command.{IsCommand, IsCommandOf, IsSpelled, IsSpelledStep, IsStep, Spelling, of_replica, spelling_of, replica_words, spelling_text, command_text}
use Rattle.ficus_script.specs.Line.{IsCut, IsReadingAt, IsReadingOf, led_by, spaced}
use Rattle.ficus_script.proofs.ArgumentLaws.{one_arguments}
use Rattle.ficus_script.proofs.Cuts.{join_first, one_cut, one_first_word}
use Rattle.ficus_script.proofs.Letters.{are_letters, letters_free}
use Rattle.ficus_script.proofs.Numbers.{IsFreeOf-replica, first_digit_of_replica}

-- the orphan at which a path begins, and any number at the root
abbrev orphan_of : Base → Id
orphan_of Root = ROOT
orphan_of (Orphan id) = id

-- the text of the command, and nothing where it has none
abbrev text_of : Command → List ℕ
text_of (command.Change by (Symlink path text)) = text
text_of (command.Change by (Write path text)) = text
text_of (command.Change by (Settle path text)) = text
text_of command = []

-- how the text behind a verb is spelled, and how nothing is where there is none
abbrev word_of : Arguments → List ℕ
word_of (PathAndText path text) = text
word_of arguments = quoted_text []

-- the commands with these before and behind their verbs, and with this text where they have one
abbrev commands_with : List ℕ → Option ℕ → Arguments → List Command
commands_with text (Some by) Nothing =
    command.Look by Tree ∷ command.Look by Conflicts ∷ command.Look by Orphans ∷ command.Look by Detached
    ∷ command.Look by Marks ∷ command.Collect by ∷ command.Why by ∷ []
commands_with text (Some by) (OnePath path) =
    command.Change by (MkDir path) ∷ command.Change by (Rm path) ∷ command.Change by (Resolve path)
    ∷ command.Change by (Discard (orphan_of path.base)) ∷ command.Look by (Ls path) ∷ command.Look by (Read path) ∷ command.Look by (Versions path)
    ∷ command.Look by (ReadLink path) ∷ []
commands_with text (Some by) (PathAndKind path kind) = command.Change by (Create path kind) ∷ []
commands_with text (Some by) (PathAndText path word) =
    command.Change by (Symlink path text) ∷ command.Change by (Write path text) ∷ command.Change by (Settle path text)
    ∷ []
commands_with text (Some by) (TwoPaths from path) =
    command.Change by (Ln from path) ∷ command.Change by (Mv from path)
    ∷ command.Change by (Adopt (orphan_of from.base) path) ∷ []
commands_with text None (OneNumber number) = command.Give number ∷ command.Restart number ∷ []
commands_with text None (TwoReplicas by to) = command.Ask by to ∷ command.Pull by to ∷ command.Alike by to ∷ []
commands_with text None (Arming by calls pick) = command.Stop by calls pick ∷ []
commands_with text None (OneOrder order) = command.Sweep order ∷ []
commands_with text (Some by) (OneNumber number) = []
commands_with text (Some by) (OneOrder order) = []
commands_with text (Some by) (TwoReplicas first second) = []
commands_with text (Some by) (Arming replica calls pick) = []
commands_with text None Nothing = []
commands_with text None (OnePath path) = []
commands_with text None (PathAndKind path kind) = []
commands_with text None (PathAndText path word) = []
commands_with text None (TwoPaths from path) = []

-- the verb of the command
abbrev verb_of : Command → List ℕ
verb_of command = (spelling_of command).verb

-- the first of the commands that has the verb
abbrev with_verb : List ℕ → List Command → Option Command
with_verb verb [] = None
with_verb verb (command ∷ commands) = if bytes_eq (verb_of command) verb then Some command else with_verb verb commands

-- the command that the table has for the spelling, with this text where it has one
abbrev at_spelling : List ℕ → Spelling → Option Command
at_spelling text spelling = with_verb spelling.verb (commands_with text spelling.by spelling.behind)

-- The command's verb is of letters, its text is spelled behind it, and its spelling leads back to the command.
record IsListed (command : Command) : Type 0 where
  letters : are_letters (verb_of command) ≡ true
  text : word_of (spelling_of command).behind ≡ quoted_text (text_of command)
  found : at_spelling (text_of command) (spelling_of command) ≡ Some command

-- the rows of the table, one for each verb
listed : (command : Command) → IsListed command
listed (command.Change by (MkDir path)) = record { letters = refl; text = refl; found = refl }
listed (command.Change by (Create path kind)) = record { letters = refl; text = refl; found = refl }
listed (command.Change by (Symlink path text)) = record { letters = refl; text = refl; found = refl }
listed (command.Change by (Write path text)) = record { letters = refl; text = refl; found = refl }
listed (command.Change by (Settle path text)) = record { letters = refl; text = refl; found = refl }
listed (command.Change by (Resolve path)) = record { letters = refl; text = refl; found = refl }
listed (command.Change by (Rm path)) = record { letters = refl; text = refl; found = refl }
listed (command.Change by (Ln from path)) = record { letters = refl; text = refl; found = refl }
listed (command.Change by (Mv from path)) = record { letters = refl; text = refl; found = refl }
listed (command.Change by (Adopt orphan path)) = record { letters = refl; text = refl; found = refl }
listed (command.Change by (Discard orphan)) = record { letters = refl; text = refl; found = refl }
listed (command.Look by (Ls path)) = record { letters = refl; text = refl; found = refl }
listed (command.Look by (Read path)) = record { letters = refl; text = refl; found = refl }
listed (command.Look by (Versions path)) = record { letters = refl; text = refl; found = refl }
listed (command.Look by (ReadLink path)) = record { letters = refl; text = refl; found = refl }
listed (command.Look by Tree) = record { letters = refl; text = refl; found = refl }
listed (command.Look by Conflicts) = record { letters = refl; text = refl; found = refl }
listed (command.Look by Orphans) = record { letters = refl; text = refl; found = refl }
listed (command.Look by Detached) = record { letters = refl; text = refl; found = refl }
listed (command.Look by Marks) = record { letters = refl; text = refl; found = refl }
listed (command.Collect by) = record { letters = refl; text = refl; found = refl }
listed (command.Ask by to) = record { letters = refl; text = refl; found = refl }
listed (command.Give mail) = record { letters = refl; text = refl; found = refl }
listed (command.Pull by to) = record { letters = refl; text = refl; found = refl }
listed (command.Alike by other) = record { letters = refl; text = refl; found = refl }
listed (command.Restart by) = record { letters = refl; text = refl; found = refl }
listed (command.Stop by calls pick) = record { letters = refl; text = refl; found = refl }
listed (command.Sweep order) = record { letters = refl; text = refl; found = refl }
listed (command.Why by) = record { letters = refl; text = refl; found = refl }

-- the table has one command for a spelling
one_command : (command other : Command) → spelling_of command ≡ spelling_of other → command ≡ other
one_command command other same =
    let words = ap (λ (spelling : Spelling). word_of spelling.behind) same in
    let texts = quoted_text_injective (text_of command) (text_of other)
    (sym (listed command).text ∙ words ∙ (listed other).text) in
    let found : Some command ≡ Some other =
    sym (listed command).found ∙ ap (λ (text : List ℕ). at_spelling text (spelling_of command)) texts
    ∙ ap (at_spelling (text_of other)) same ∙ (listed other).found in
    cc

-- with nothing behind its verb, or an order, a command may be more than one step
abbrev pub MayBeNoStep : Option ℕ → Arguments → Type 0
MayBeNoStep (Some by) Nothing = Unit {0}
MayBeNoStep None (OneOrder order) = Unit {0}
MayBeNoStep by behind = ⊥

-- with anything else it is one
is_step : (it : Command) → (MayBeNoStep (spelling_of it).by (spelling_of it).behind → ⊥) → IsStep it
is_step (command.Sweep order) none = absurd (none tt)
is_step (command.Why by) none = absurd (none tt)
is_step it none = tt

pub spelled_step : (spelling : Spelling) → (MayBeNoStep spelling.by spelling.behind → ⊥) → IsSpelled spelling →
    IsSpelledStep spelling
spelled_step spelling none spelled =
    let same = spelled.2 in
    (spelled.0, spelled.1, same, is_step spelled.0 (rw same none))

-- where a spelling's command was found, it is a step exactly where that one is
pub found_step : (spelling : Spelling) (it : Command) → IsCommand it → spelling_of it ≡ spelling →
    (IsStep it → IsSpelledStep spelling) × (IsSpelledStep spelling → IsStep it)
found_step spelling it valid same = (
  λ step. (it, valid, same, step),
  λ spelled. subst IsStep (one_command spelled.0 it (spelled.2 ∙ sym same)) spelled.3,
)

-- where the table's command has another spelling, none has this one
no_other : (spelling : Spelling) (candidate : Command) →
    ((text : List ℕ) → at_spelling text spelling ≡ Some candidate) → (spelling_of candidate ≡ spelling → ⊥) →
    IsCommandOf spelling None
no_other spelling candidate found other = λ command valid same.
    let both : Some candidate ≡ Some command =
    sym (found (text_of command)) ∙ sym (ap (at_spelling (text_of command)) same) ∙ (listed command).found in
    let is : candidate ≡ command = cc in
    other (ap spelling_of is ∙ same)

-- what is to be given up or adopted is an orphan alone
pub no_discard : (by : ℕ) (path : Path) → ((orphan : Id) → path ≡ at_orphan orphan → ⊥) →
    IsCommandOf (of_replica by (codes "discard") (OnePath path)) None
no_discard by path none =
    no_other (of_replica by (codes "discard") (OnePath path))
    (command.Change by (Discard (orphan_of path.base))) (λ _. refl)
    (λ same.
    let behind : OnePath (at_orphan (orphan_of path.base)) ≡ OnePath path = ap (λ (s : Spelling). s.behind) same in
    let is : at_orphan (orphan_of path.base) ≡ path = cc in
    none (orphan_of path.base) (sym is))

-- a symbolic link has some text
pub no_symlink : (by : ℕ) (path : Path) (text : List ℕ) → text ≡ [] →
    IsCommandOf (of_replica by (codes "symlink") (PathAndText path (quoted_text text))) None
no_symlink by path text none = λ it valid same.
    let is : it ≡ command.Change by (Symlink path text) = one_command it (command.Change by (Symlink path text)) same in
    let takes = (subst IsCommand is valid).takes.some in
    omega (arith, takes, ap (λ (bytes : List ℕ). length bytes) none)

some_bytes : (text : List ℕ) → (text ≡ [] → ⊥) → 1 ≤ length text
some_bytes [] some = absurd (some refl)
some_bytes (byte ∷ bytes) some = omega arith

pub is_symlink : (by : ℕ) (path : Path) (text : List ℕ) → IsReplicaNumber by → IsPath path → IsNew path →
    (text ≡ [] → ⊥) →
    IsCommandOf (of_replica by (codes "symlink") (PathAndText path (quoted_text text)))
    (Some (command.Change by (Symlink path text)))
is_symlink by path text number is new some = (
  record { number = number; behind = (is, (text, refl)); takes = record { new = new; some = some_bytes text some } },
  refl,
)

pub no_adopt : (by : ℕ) (from path : Path) → ((orphan : Id) → from ≡ at_orphan orphan → ⊥) →
    IsCommandOf (of_replica by (codes "adopt") (TwoPaths from path)) None
no_adopt by from path none =
    no_other (of_replica by (codes "adopt") (TwoPaths from path))
    (command.Change by (Adopt (orphan_of from.base) path)) (λ _. refl)
    (λ same.
    let behind : TwoPaths (at_orphan (orphan_of from.base)) path ≡ TwoPaths from path =
    ap (λ (s : Spelling). s.behind) same in
    let is : at_orphan (orphan_of from.base) ≡ from = cc in
    none (orphan_of from.base) (sym is))

-- letters spell no number of a replica
no_number : (verb : List ℕ) (replica : ℕ) → are_letters verb ≡ true → IsReplicaNumber replica → verb ≡ decimal replica →
    ⊥
no_number [] replica letters number same =
    omega (arith, first_digit_of_replica replica number, ap (λ (bytes : List ℕ). get_or bytes 0 0) same)
no_number (byte ∷ bytes) replica letters number same =
    elim (leb_tells 97 byte) [
      | inl letter ↦ omega (arith, letter.1, first_digit_of_replica replica number, ap (λ (bytes : List ℕ). get_or bytes 0 0) same)
      | inr other ↦ let clash : false ≡ true = rw other.0 at letters in cc
    ]

-- a line is its words joined, cut behind its verb
led_words : (by : Option ℕ) (verb : List ℕ) (words : List (List ℕ)) →
    join_with_byte 32 (replica_words by ++ verb ∷ words) ≡ led_by by (verb ++ spaced (left_of words))
led_words None verb words = join_first verb words
led_words (Some by) verb words = ap (λ (text : List ℕ). decimal by ++ 32 ∷ text) (join_first verb words)

-- no number leads a line that a verb leads
no_leading_number : (by : Option ℕ) (verb : List ℕ) (left : Option (List ℕ)) → are_letters verb ≡ true →
    IsFreeOf 32 verb → IfNone by ((replica : ℕ) (rest : List ℕ) → IsReplicaNumber replica →
    led_by by (verb ++ spaced left) ≡ led_by (Some replica) rest → ⊥)
no_leading_number None verb left letters free = λ replica rest number same.
    no_number verb replica letters number (one_first_word verb (decimal replica) left (Some rest) free (IsFreeOf-replica replica number) same).0
no_leading_number (Some by) verb left letters free = tt

-- how the text of a command is cut
IsCut-command : (command : Command) → IsCommand command →
    IsCut (command_text command) (spelling_of command).by (verb_of command)
    (left_of (argument_words (spelling_of command).behind))
IsCut-command command valid =
    let spelling : Spelling = spelling_of command in
    let letters = (listed command).letters in
    let free : IsFreeOf 32 spelling.verb = letters_free spelling.verb letters in
    let words : List (List ℕ) = argument_words spelling.behind in
    let whole = led_words spelling.by spelling.verb words in
    record {
      number = valid.number;
      free = free;
      whole = whole;
      none = rw whole (no_leading_number spelling.by spelling.verb (left_of words) letters free);
    }

-- a command's text doesn't begin with `@` (64)
begins_so : (by : Option ℕ) (verb : List ℕ) (left : Option (List ℕ)) → IfSome by IsReplicaNumber →
    are_letters verb ≡ true → get_or (led_by by (verb ++ spaced left)) 0 0 ≢ 64
begins_so (Some by) verb left number letters is =
    let fits : by < 2 ^ 64 = omega (arith, number.at_most) in
    let first = first_digit_of_replica by number in
    let same = get_or_append_left (decimal by) (32 ∷ verb ++ spaced left) 0 0 (decimal_nonempty by fits) in
    omega (arith, first.0, first.1, same, is)
begins_so None [] None number letters is = omega (arith, is)
begins_so None [] (Some left) number letters is = omega (arith, is)
begins_so None (byte ∷ verb) left number letters is =
    elim (leb_tells 97 byte) [
      | inl letter ↦ omega (arith, letter.1, is)
      | inr other ↦ let clash : false ≡ true = rw other.0 at letters in cc
    ]

pub no_at : (it : Command) → IsCommand it → get_or (command_text it) 0 0 ≢ 64
no_at it valid is =
    let cut = IsCut-command it valid in
    begins_so (spelling_of it).by (verb_of it) (left_of (argument_words (spelling_of it).behind)) cut.number (listed it).letters
    (sym (ap (λ (l : List ℕ). get_or l 0 0) cut.whole) ∙ is)

-- a spelling is its three parts
same_spelling : (spelling other : Spelling) → spelling.by ≡ other.by → spelling.verb ≡ other.verb →
    spelling.behind ≡ other.behind → spelling ≡ other
same_spelling spelling other e f g =
    let with_by = λ (by : Option ℕ). let made : Spelling = record { by = by; verb = spelling.verb; behind = spelling.behind } in made in
    let with_verb = λ (verb : List ℕ). let made : Spelling = record { by = other.by; verb = verb; behind = spelling.behind } in made in
    let with_behind = λ (behind : Arguments). let made : Spelling = record { by = other.by; verb = other.verb; behind = behind } in made in
    ap with_by e ∙ ap with_verb f ∙ ap with_behind g

-- no two commands have one spelling
pub command_text_injective : (command other : Command) → IsCommand command → IsCommand other →
    command_text command ≡ command_text other → command ≡ other
command_text_injective command other valid also same =
    let first : Spelling = spelling_of command in
    let second : Spelling = spelling_of other in
    let cut = one_cut (command_text command) first.verb second.verb first.by second.by _ _ (IsCut-command command valid)
    (rw same (IsCut-command other also)) in
    let behind = one_arguments first.behind second.behind valid.behind also.behind cut.2 in
    one_command command other (same_spelling first second cut.0 cut.1 behind)

module _ (line verb : List ℕ) (by : Option ℕ) (left : Option (List ℕ)) (cut : IsCut line by verb left) where
  -- where what is read off the line spells a command, the line does
  pub spelled_line : (behind : Arguments) → IsReadingBehind left (Some behind) →
      IsSpelled (record { by = by; verb = verb; behind = behind }) → IsCommandLine line
  spelled_line behind read spelled = (
    spelled.0,
    spelled.1,
    cut.whole ∙ ap (λ (rest : Option (List ℕ)). led_by by (verb ++ spaced rest)) read.1
        ∙ sym (led_words by verb (argument_words behind)) ∙ sym (ap spelling_text spelled.2),
  )

  -- a command that the line spells has these parts
  same_parts : (command : Command) → IsCommand command → line ≡ command_text command →
      ((spelling_of command).by ≡ by) × (verb_of command ≡ verb)
      × (left_of (argument_words (spelling_of command).behind) ≡ left)
  same_parts command valid same =
      one_cut line (verb_of command) verb (spelling_of command).by by _ left (rw same (IsCut-command command valid)) cut

  -- where the line spells a command, so does what is read off it
  pub line_spelled : (behind : Arguments) → IsReadingBehind left (Some behind) → IsCommandLine line →
      IsSpelled (record { by = by; verb = verb; behind = behind })
  line_spelled behind read spelled =
      let command : Command = spelled.0 in
      let spelling : Spelling = spelling_of command in
      let parts = same_parts command spelled.1 spelled.2 in
      let arguments = one_arguments spelling.behind behind spelled.1.behind read.0 (parts.2 ∙ read.1) in
      (command, spelled.1, same_spelling spelling _ parts.0 parts.1 arguments)

  -- where it spells a step, so does the line, and the other way round
  pub step_line : (behind : Arguments) → IsReadingBehind left (Some behind) →
      IsSpelledStep (record { by = by; verb = verb; behind = behind }) → IsStepLine line
  unfolding spelled_line
  step_line behind read spelled =
      let is = spelled_line behind read (spelled.0, spelled.1, spelled.2) in
      (spelled.0, spelled.1, is.2, spelled.3)

  pub line_step : (behind : Arguments) → IsReadingBehind left (Some behind) → IsStepLine line →
      IsSpelledStep (record { by = by; verb = verb; behind = behind })
  unfolding line_spelled
  line_step behind read spelled =
      let is = line_spelled behind read (spelled.0, spelled.1, spelled.2) in
      (spelled.0, spelled.1, is.2, spelled.3)

  -- the line has the spelling of the command that is read off it, or no command's
  pub reading_of : (behind : Arguments) (found : Result Command LineFault) → IsReadingBehind left (Some behind) →
      IsReadingAt (record { by = by; verb = verb; behind = behind }) found → IsReadingOf line found
  unfolding spelled_line
  reading_of behind (Ok command) read is =
      let spelled = spelled_line behind read (command, is.0, is.1) in
      (is.0, spelled.2)
  reading_of behind (Err NotCommand) read none = λ spelled. none (line_spelled behind read spelled)
  reading_of behind (Err OutOfMemory) read spelled = step_line behind read spelled

  -- where what stands behind the verb are no arguments, the line is no command's
  pub no_arguments : IsReadingBehind left None → IsCommandLine line → ⊥
  no_arguments none spelled =
      none (spelling_of spelled.0).behind spelled.1.behind (sym (same_parts spelled.0 spelled.1 spelled.2).2)

-- a command that a line spells is a step exactly where the line spells one
pub line_is_step : (line : List ℕ) (it : Command) → IsCommand it → line ≡ command_text it → IsStepLine line → IsStep it
line_is_step line it valid same spelled =
    subst IsStep (command_text_injective spelled.0 it spelled.1 valid (sym spelled.2 ∙ same)) spelled.3
