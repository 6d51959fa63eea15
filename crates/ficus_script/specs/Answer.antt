-- How answers are written.
use Rattle.std.specs.Prelude.{ℕ, ◌+◌, Bool, if◌then◌else◌, List, [], ◌∷◌, ◌++◌, length, take, map, codes}
use Rattle.std.specs.List.{flat_map, join_with_byte, range_with_len}
use Rattle.std.specs.Fmt.{decimal}
use Rattle.ficus_entry.specs.declared.entry.Entry.{Entry}
use Rattle.ficus_entry.specs.declared.entry.State.{State}
use Rattle.ficus_entry.specs.declared.entry.State.TheVariants.{Live, Dead}
use Rattle.ficus_file.specs.declared.version.Version.{Version}
use Rattle.ficus_ids.specs.Id.{id_text}
use Rattle.ficus_ids.specs.declared.id.Id.{Id}
use Rattle.ficus_ids.specs.Kind.{kind_word}
use Rattle.ficus_ids.specs.Marks.{has}
use Rattle.ficus_ids.specs.Refusal.{refusal_word}
use Rattle.ficus_names.specs.declared.clash.Clashes.{Clashes}
use Rattle.ficus_names.specs.declared.clash.NameClash.{NameClash}
use Rattle.ficus_names.specs.declared.listing.Line.{Line}
use Rattle.ficus_names.specs.Text.{shown_text_of}
use Rattle.ficus_file.specs.declared.orphan.Orphan.{Orphan}
use Rattle.ficus_path.specs.Spelling.{name_text}
use Rattle.ficus_path.specs.Text.{quoted_text}
use Rattle.ficus_vectors.specs.Vector.{Counts, in_order}
use Rattle.ficus_commands.specs.declared.told.Told.{Told}
use Rattle.ficus_commands.specs.declared.told.Told.TheVariants.{Text, Names, Tree, Versions, Conflicts, Orphans, Detached, Marks}
use Rattle.ficus_script.specs.declared.answer.Answer.{Answer}
use Rattle.ficus_script.specs.declared.answer.Answer.TheVariants as answer

-- ` conflict` for a file in conflict
abbrev pub conflict_text : Bool → List ℕ
conflict_text conflict = if conflict then codes " conflict" else []

-- the shown name, its target and the kind, ` conflict` for a file in conflict, and byte 10
abbrev pub name_line : Line → List ℕ
name_line line =
    shown_text_of line.shown ++ 32 ∷ id_text line.shown.target ++ 32 ∷ kind_word line.kind
    ++ conflict_text line.conflict ++ 10 ∷ []

-- the directory, and what `name_line` has
abbrev pub tree_line : Line → List ℕ
tree_line line = id_text line.dir ++ 32 ∷ name_line line

-- `ok`, how many lines follow, and byte 10
abbrev pub count_line : ℕ → List ℕ
count_line count = codes "ok " ++ decimal count ++ 10 ∷ []

-- the counts of the members from 1 upwards, with a comma (44) between each two, between brackets
abbrev pub vector_text : ℕ → Counts → List ℕ
vector_text members vector =
    codes "[" ++ join_with_byte 44 (map decimal (take members (in_order vector))) ++ codes "]"

-- the vector, the text and byte 10
abbrev pub version_line : ℕ → Version → List ℕ
version_line members version = vector_text members version.vector ++ 32 ∷ quoted_text version.bytes ++ 10 ∷ []

-- the digit of the replica, where it is in the set
abbrev pub digit_in : ℕ → ℕ → List ℕ
digit_in set replica = if has set replica then decimal replica else []

-- the text, or `-` in place of none
abbrev pub or_dash : List ℕ → List ℕ
or_dash [] = codes "-"
or_dash (byte ∷ bytes) = byte ∷ bytes

-- the digits of the replicas from 1 to 8 that are in the set, rising, or `-` for nobody
abbrev pub set_text : ℕ → List ℕ
set_text set = or_dash (flat_map (digit_in set) (range_with_len 1 8))

-- who is known to know of the removal, and who is known to know that all know of it; nothing of a live entry
abbrev pub known_text : State → List ℕ
known_text Live = []
known_text (Dead knowing knowing_all_know) =
    codes " one=" ++ set_text knowing ++ codes " two=" ++ set_text knowing_all_know

-- the identifier, the directory, the plain name and the target
abbrev pub place_text : Entry → List ℕ
place_text entry =
    id_text entry.id ++ 32 ∷ id_text entry.dir ++ 32 ∷ name_text entry.name ++ 32 ∷ id_text entry.target

-- these, what is known of the removal, and byte 10
abbrev pub mark_line : Entry → List ℕ
mark_line entry = place_text entry ++ known_text entry.state ++ 10 ∷ []

-- `name`, the directory and the plain name
abbrev pub clash_line : NameClash → List ℕ
clash_line clash = codes "name " ++ id_text clash.dir ++ 32 ∷ name_text clash.name ++ 10 ∷ []

-- `file` and the file
abbrev pub file_line : Id → List ℕ
file_line file = codes "file " ++ id_text file ++ 10 ∷ []

-- the orphan as the base of a path, and the kind, ` conflict` for a file in conflict, and byte 10
abbrev pub orphan_line : Orphan → List ℕ
orphan_line orphan =
    codes "~" ++ id_text orphan.id ++ 32 ∷ kind_word orphan.kind ++ conflict_text orphan.conflict ++ 10 ∷ []

-- the identifier and byte 10
abbrev pub id_line : Id → List ℕ
id_line id = id_text id ++ 10 ∷ []

-- how many lines there are, and each of them
abbrev pub counted_lines : {Item : Type 0} → (Item → List ℕ) → List Item → List ℕ
counted_lines line_text items = count_line (length items) ++ flat_map line_text items

-- how many lines there are, those of the names and those of the files
abbrev pub clashes_text_of : Clashes → List ℕ
clashes_text_of clashes =
    count_line (length clashes.names + length clashes.files) ++ flat_map clash_line clashes.names
    ++ flat_map file_line clashes.files

-- the text of what a look told
abbrev pub told_text_of : Told → List ℕ
told_text_of (Text text) = codes "ok " ++ quoted_text text ++ 10 ∷ []
told_text_of (Names lines) = counted_lines name_line lines
told_text_of (Tree lines) = counted_lines tree_line lines
told_text_of (Versions members list) = counted_lines (version_line members) list
told_text_of (Conflicts clashes) = clashes_text_of clashes
told_text_of (Orphans orphans) = counted_lines orphan_line orphans
told_text_of (Detached dirs) = counted_lines id_line dirs
told_text_of (Marks entries) = counted_lines mark_line entries

-- whether the two are alike
abbrev pub alike_text_of : Bool → List ℕ
alike_text_of alike = codes "ok " ++ (if alike then codes "alike" else codes "apart") ++ 10 ∷ []

-- the numbers of the first message and of the last
abbrev pub mails_text_of : ℕ → ℕ → List ℕ
mails_text_of first last = codes "ok " ++ decimal first ++ codes " to " ++ decimal last ++ 10 ∷ []

-- how many pieces are taken, of how many
abbrev pub part_text_of : ℕ → ℕ → List ℕ
part_text_of have all = codes "ok " ++ decimal have ++ codes " of " ++ decimal all ++ 10 ∷ []

-- how many removed entries were given up, and how many files and directories
abbrev pub collected_text_of : ℕ → ℕ → List ℕ
collected_text_of entries files = codes "collected " ++ decimal entries ++ 32 ∷ decimal files ++ 10 ∷ []

-- how many pulls there were, and how many removed entries and how many files and directories were given up in all
abbrev pub swept_text_of : ℕ → ℕ → ℕ → List ℕ
swept_text_of pulls entries files =
    codes "swept " ++ decimal pulls ++ 32 ∷ decimal entries ++ 32 ∷ decimal files ++ 10 ∷ []

-- how many lines there are, and each of them as it is
abbrev pub why_text_of : List (List ℕ) → List ℕ
why_text_of lines = counted_lines (λ line. line) lines

-- the text of each answer
abbrev pub answer_text_of : Answer → List ℕ
answer_text_of answer.Done = codes "ok" ++ 10 ∷ []
answer_text_of (answer.Made id) = codes "ok " ++ id_text id ++ 10 ∷ []
answer_text_of (answer.Mail number) = codes "ok " ++ decimal number ++ 10 ∷ []
answer_text_of (answer.Mails first last) = mails_text_of first last
answer_text_of (answer.Part have all) = part_text_of have all
answer_text_of (answer.Collected entries files) = collected_text_of entries files
answer_text_of (answer.Told told) = told_text_of told
answer_text_of (answer.Alike alike) = alike_text_of alike
answer_text_of (answer.Swept pulls entries files) = swept_text_of pulls entries files
answer_text_of (answer.Why lines) = why_text_of lines
answer_text_of (answer.Refused refusal) = codes "no " ++ refusal_word refusal ++ 10 ∷ []
