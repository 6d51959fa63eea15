-- Each line of a generated script spells its command.
use Rattle.std.proofs.Common.{◌≡◌, ◌≢◌, ◌∙◌, ◌<◌, ◌^◌, ◌+◌, ◌%◌, ◌≤◌, ℕ, true, false, List, [], ◌∷◌, ◌++◌, codes, get_or, refl, ap, sym, arith, append_assoc}
use Rattle.std.specs.Prelude.{◌==◌}
use Rattle.std.specs.List.{list_any, AllByRecursion}
use Rattle.std.specs.Fmt.{decimal}
use Rattle.std.proofs.lemmas.Bool.{ne_eqb, or_parts, true≢false, false≢true}
use Rattle.std.proofs.lemmas.List.Elements.{All-append, All-from_recursion}
use Rattle.ficus_ids.specs.Members.{IsCount, IsMember}
use Rattle.ficus_ids.specs.declared.kind.Kind.TheVariants.{Lines}
use Rattle.ficus_path.specs.Spelling.{path_text}
use Rattle.ficus_path.proofs.CutLaws.{IsFreeOf}
use Rattle.ficus_path.proofs.IdLaws.{IsFreeOf-decimal}
use Rattle.ficus_commands.specs.declared.change.Change.{Change}
use Rattle.ficus_commands.specs.declared.change.Change.TheVariants as change
use Rattle.ficus_script.specs.Arguments.{IsReplicaNumber}
use Rattle.ficus_script.specs.Command.{IsCommand, command_text}
use Rattle.ficus_script.specs.Script.{SpellsCommand, is_kept}
use Rattle.ficus_script.proofs.Numbers.{first_digit_of_replica}
use Rattle.ficus_script.specs.declared.command.Command.{Command}
use Rattle.ficus_script.specs.declared.command.Command.TheVariants as command
use Rattle.ficus_generator.specs.declared.step.Action.{Action}
use Rattle.ficus_generator.specs.declared.step.Action.TheVariants.{MkDir, Create, Write, Rm, Mv, Resolve, Collect, Pull}
use Rattle.ficus_generator.specs.Commands.{action_command, dir_path, file_path, mkdir_command, written}
use Rattle.ficus_generator.specs.Lines.{StopsNothing}
use Rattle.ficus_generator.specs.Script.{action_line, dir_text, file_text, mkdir_line, pull_line, peer_of}
use Rattle.ficus_generator.proofs.PathTexts.{dir_spelled, file_spelled, is_dir_path, is_file_path, dir_is_new, file_is_new, file_is_entry, written_spelled}

-- ---- lines without byte 10

free_by_test : (text : List ℕ) → list_any (λ byte. byte == 10) text ≡ false → AllByRecursion (λ byte. byte ≢ 10) text
free_by_test [] none = tt
free_by_test (byte ∷ text) none =
    let parts = or_parts (byte == 10) (list_any (λ other. other == 10) text) none in
    (λ same. true≢false (sym (ap (λ b. b == 10) same) ∙ parts.0), free_by_test text parts.1)

free_text : (text : List ℕ) → list_any (λ byte. byte == 10) text ≡ false → IsFreeOf 10 text
free_text text none = All-from_recursion (λ byte. byte ≢ 10) text (free_by_test text none)

free_number : (number : ℕ) → number < 2 ^ 64 → IsFreeOf 10 (decimal number)
free_number number fits = IsFreeOf-decimal 10 number fits (omega arith)

free_both : (text more : List ℕ) → IsFreeOf 10 text → IsFreeOf 10 more → IsFreeOf 10 (text ++ more)
free_both text more free also = All-append (λ byte. byte ≢ 10) text more free also

free_dir : (dir : ℕ) → dir < 2 ^ 64 → IsFreeOf 10 (dir_text dir)
free_dir dir fits = free_both (codes "/d") (decimal dir) (free_text (codes "/d") refl) (free_number dir fits)

free_file : (dir file : ℕ) → dir < 2 ^ 64 → file < 2 ^ 64 → IsFreeOf 10 (file_text dir file)
free_file dir file fits also =
    free_both (dir_text dir ++ codes "/f") (decimal file)
    (free_both (dir_text dir) (codes "/f") (free_dir dir fits) (free_text (codes "/f") refl)) (free_number file also)

-- the number of a replica, and a verb
free_verb : (by : ℕ) (verb : List ℕ) → by < 2 ^ 64 → list_any (λ byte. byte == 10) verb ≡ false →
    IsFreeOf 10 (decimal by ++ verb)
free_verb by verb fits none = free_both (decimal by) verb (free_number by fits) (free_text verb none)

-- ---- lines that aren't passed over

kept_first : (word : List ℕ) → 48 ≤ get_or word 0 0 → is_kept word ≡ true
kept_first [] digit = absurd (omega (arith, digit))
kept_first (byte ∷ word) digit = rw (ne_eqb byte 35 (λ same. omega (arith, digit, same))) refl

kept_more : (text more : List ℕ) → is_kept text ≡ true → is_kept (text ++ more) ≡ true
kept_more [] more kept = absurd (false≢true kept)
kept_more (byte ∷ text) more kept = kept

kept_number : (by : ℕ) → IsReplicaNumber by → is_kept (decimal by) ≡ true
kept_number by number = kept_first (decimal by) (first_digit_of_replica by number).0

kept_verb : (by : ℕ) (verb : List ℕ) → IsReplicaNumber by → is_kept (decimal by ++ verb) ≡ true
kept_verb by verb number = kept_more (decimal by) verb (kept_number by number)

kept_path : (by : ℕ) (verb path : List ℕ) → IsReplicaNumber by → is_kept (decimal by ++ verb ++ path) ≡ true
kept_path by verb path number = kept_more (decimal by ++ verb) path (kept_verb by verb number)

-- ---- lines that spell a command

-- a line of a script: the spelling of a command that stops nothing, in one line, which isn't passed over
abbrev pub IsLineOf : Command → List ℕ → Type 0
IsLineOf command line = SpellsCommand command line × IsFreeOf 10 line × (is_kept line ≡ true) × StopsNothing command

change_line : (by : ℕ) (asked : Change) (line : List ℕ) → IsCommand (command.Change by asked) →
    line ≡ command_text (command.Change by asked) → SpellsCommand (command.Change by asked) line
change_line by asked line is spelled = (is, spelled)

-- a verb with one path
one_path : (by : ℕ) (verb text path : List ℕ) → text ≡ path → decimal by ++ verb ++ text ≡ decimal by ++ (verb ++ path)
one_path by verb text path same =
    append_assoc (decimal by) verb text ∙ ap (λ (t : List ℕ). decimal by ++ (verb ++ t)) same

-- a verb with one path, and what stands behind it
one_path_and : (by : ℕ) (verb text path behind : List ℕ) → text ≡ path →
    decimal by ++ verb ++ text ++ behind ≡ decimal by ++ (verb ++ (path ++ behind))
one_path_and by verb text path behind same =
    ap (λ (t : List ℕ). t ++ behind) (one_path by verb text path same)
    ∙ append_assoc (decimal by) (verb ++ path) behind
    ∙ ap (λ (t : List ℕ). decimal by ++ t) (append_assoc verb path behind)

pub mkdir_is : (by dir : ℕ) → IsReplicaNumber by → dir < 10 → IsLineOf (mkdir_command by dir) (mkdir_line by dir)
mkdir_is by dir number lt = (
  change_line by (change.MkDir (dir_path dir)) (mkdir_line by dir)
      (record { number = number; behind = is_dir_path dir lt; takes = dir_is_new dir })
      (one_path by (codes " mkdir ") (dir_text dir) _ (dir_spelled dir lt)),
  free_both (decimal by ++ codes " mkdir ") (dir_text dir) (free_verb by (codes " mkdir ") (omega (arith, number.at_most)) refl)
      (free_dir dir (omega arith)),
  kept_path by (codes " mkdir ") (dir_text dir) number,
  λ by calls pick e. cc,
)

pub pull_is : (by peer : ℕ) → IsReplicaNumber by → IsReplicaNumber peer →
    IsLineOf (command.Pull by peer) (pull_line by peer)
pull_is by peer number other = (
  (
    record { number = tt; behind = (number, other); takes = tt },
    ap (λ (t : List ℕ). codes "pull " ++ t) (append_assoc (decimal by) (32 ∷ []) (decimal peer)),
  ),
  free_both (codes "pull " ++ decimal by ++ codes " ") (decimal peer)
      (free_both (codes "pull " ++ decimal by) (codes " ")
      (free_both (codes "pull ") (decimal by) (free_text (codes "pull ") refl) (free_number by (omega (arith, number.at_most))))
      (free_text (codes " ") refl))
      (free_number peer (omega (arith, other.at_most))),
  refl,
  λ by calls pick e. cc,
)

-- a verb with the path of a file
free_verb_file : (by : ℕ) (verb : List ℕ) (dir file : ℕ) → IsReplicaNumber by → dir < 10 → file < 10 →
    list_any (λ byte. byte == 10) verb ≡ false → IsFreeOf 10 (decimal by ++ verb ++ file_text dir file)
free_verb_file by verb dir file number lt also none =
    free_both (decimal by ++ verb) (file_text dir file) (free_verb by verb (omega (arith, number.at_most)) none)
    (free_file dir file (omega arith) (omega arith))

module _ (by dir file : ℕ) (number : IsReplicaNumber by) (lt : dir < 10) (also : file < 10) where
  create_is : IsLineOf (command.Change by (change.Create (file_path dir file) Lines))
      (decimal by ++ codes " create " ++ file_text dir file ++ codes " lines")
  create_is = (
    change_line by (change.Create (file_path dir file) Lines) _
        (record {
          number = number;
          behind = (is_file_path dir file lt also, refl);
          takes = record { new = file_is_new dir file; without = refl };
        })
        (one_path_and by (codes " create ") (file_text dir file) _ (codes " lines") (file_spelled dir file lt also)),
    free_both (decimal by ++ codes " create " ++ file_text dir file) (codes " lines")
        (free_verb_file by (codes " create ") dir file number lt also refl) (free_text (codes " lines") refl),
    kept_more (decimal by ++ codes " create " ++ file_text dir file) (codes " lines")
        (kept_path by (codes " create ") (file_text dir file) number),
    λ by calls pick e. cc,
  )

  write_is : (step : ℕ) → step < 2 ^ 64 →
      IsLineOf (command.Change by (change.Write (file_path dir file) (written step)))
      (decimal by ++ codes " write " ++ file_text dir file ++ codes " \"s" ++ decimal step ++ codes "\\n\"")
  write_is step fits =
      let start = decimal by ++ codes " write " ++ file_text dir file in
      let text = decimal step ++ codes "\\n\"" in
      let behind : start ++ codes " \"s" ++ decimal step ++ codes "\\n\"" ≡ start ++ (codes " \"s" ++ text) =
      append_assoc (start ++ codes " \"s") (decimal step) (codes "\\n\"") ∙ append_assoc start (codes " \"s") text in (
        change_line by (change.Write (file_path dir file) (written step)) _
            (record {
              number = number;
              behind = (is_file_path dir file lt also, (written step, refl));
              takes = tt;
            })
            (behind ∙ one_path_and by (codes " write ") (file_text dir file) _ (codes " \"s" ++ text) (file_spelled dir file lt also)
            ∙ ap (λ (t : List ℕ). decimal by ++ (codes " write " ++ (path_text (file_path dir file) ++ 32 ∷ t)))
            (written_spelled step fits)),
        free_both (start ++ codes " \"s" ++ decimal step) (codes "\\n\"")
            (free_both (start ++ codes " \"s") (decimal step)
            (free_both start (codes " \"s") (free_verb_file by (codes " write ") dir file number lt also refl)
            (free_text (codes " \"s") refl))
            (free_number step fits))
            (free_text (codes "\\n\"") refl),
        kept_more (start ++ codes " \"s" ++ decimal step) (codes "\\n\"")
            (kept_more (start ++ codes " \"s") (decimal step)
            (kept_more start (codes " \"s") (kept_path by (codes " write ") (file_text dir file) number))),
        λ by calls pick e. cc,
      )

  rm_is : IsLineOf (command.Change by (change.Rm (file_path dir file))) (decimal by ++ codes " rm " ++ file_text dir file)
  rm_is = (
    change_line by (change.Rm (file_path dir file)) _
        (record { number = number; behind = is_file_path dir file lt also; takes = file_is_entry dir file })
        (one_path by (codes " rm ") (file_text dir file) _ (file_spelled dir file lt also)),
    free_verb_file by (codes " rm ") dir file number lt also refl,
    kept_path by (codes " rm ") (file_text dir file) number,
    λ by calls pick e. cc,
  )

  resolve_is : IsLineOf (command.Change by (change.Resolve (file_path dir file)))
      (decimal by ++ codes " resolve " ++ file_text dir file)
  resolve_is = (
    change_line by (change.Resolve (file_path dir file)) _
        (record { number = number; behind = is_file_path dir file lt also; takes = tt })
        (one_path by (codes " resolve ") (file_text dir file) _ (file_spelled dir file lt also)),
    free_verb_file by (codes " resolve ") dir file number lt also refl,
    kept_path by (codes " resolve ") (file_text dir file) number,
    λ by calls pick e. cc,
  )

  mv_is : (next : ℕ) → next < 10 →
      IsLineOf (command.Change by (change.Mv (file_path dir file) (file_path next file)))
      (decimal by ++ codes " mv " ++ file_text dir file ++ codes " " ++ file_text next file)
  mv_is next within =
      let start = decimal by ++ codes " mv " ++ file_text dir file in (
        change_line by (change.Mv (file_path dir file) (file_path next file)) _
            (record {
              number = number;
              behind = (is_file_path dir file lt also, is_file_path next file within also);
              takes = (file_is_entry dir file, file_is_new next file);
            })
            (append_assoc start (codes " ") (file_text next file)
            ∙ ap (λ (t : List ℕ). start ++ 32 ∷ t) (file_spelled next file within also)
            ∙ one_path_and by (codes " mv ") (file_text dir file) _ (32 ∷ path_text (file_path next file)) (file_spelled dir file lt also)),
        free_both (start ++ codes " ") (file_text next file)
            (free_both start (codes " ") (free_verb_file by (codes " mv ") dir file number lt also refl) (free_text (codes " ") refl))
            (free_file next file (omega arith) (omega arith)),
        kept_more (start ++ codes " ") (file_text next file)
            (kept_more start (codes " ") (kept_path by (codes " mv ") (file_text dir file) number)),
        λ by calls pick e. cc,
      )

pub collect_is : (by : ℕ) → IsReplicaNumber by →
    IsLineOf (command.Collect by) (decimal by ++ codes " collect")
collect_is by number = (
  (record { number = number; behind = tt; takes = tt }, refl),
  free_verb by (codes " collect") (omega (arith, number.at_most)) refl,
  kept_verb by (codes " collect") number,
  λ by calls pick e. cc,
)

-- ---- the line of a step

pub action_is : (members number by place : ℕ) → IsCount members → IsMember members by → place < 8 → number < 2 ^ 64 →
    (action : Action) → IsLineOf (action_command members number by place action) (action_line members number by place action)
action_is members number by place count member within fits = each
  where
    replica : IsReplicaNumber by
    replica = record { at_least = member.at_least; at_most = omega (arith, member.at_most, count.at_most) }

    dir : place % 4 < 10
    dir = omega arith

    file : place < 10
    file = omega (arith, within)

    next : (place + 1) % 4 < 10
    next = omega arith

    peer : IsReplicaNumber (peer_of members by place)
    peer = record { at_least = omega arith; at_most = omega (arith, count.at_least, count.at_most) }

    each : (action : Action) → IsLineOf (action_command members number by place action) (action_line members number by place action)
    each MkDir = mkdir_is by (place % 4) replica dir
    each Create = create_is by (place % 4) place replica dir file
    each Write = write_is by (place % 4) place replica dir file number fits
    each Rm = rm_is by (place % 4) place replica dir file
    each Mv = mv_is by (place % 4) place replica dir file ((place + 1) % 4) next
    each Resolve = resolve_is by (place % 4) place replica dir file
    each Collect = collect_is by replica
    each Pull = pull_is by (peer_of members by place) replica peer
