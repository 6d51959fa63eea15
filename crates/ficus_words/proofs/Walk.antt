-- What `clap` makes of the words is what they spell word by word.
use Rattle.std.proofs.Common.{◌≡◌, ◌∙◌, ℕ, Bool, cond, codes, true, false, refl, sym, ap, ap₂, subst, List, [], ◌∷◌, ◌++◌, drop, Option, Some, None, IfSome, inl, inr, true≢false, append-nil}
use Rattle.std.specs.List.{flat_map, fold}
use Rattle.std.specs.Str.{bytes_eq}
use Rattle.std.proofs.lemmas.Bool.{cases_Bool}
use Rattle.std.proofs.lemmas.Slice.Eq.{bytes_eq-Decides}
use Rattle.clap.specs.Lexer.{long_of}
use Rattle.clap.specs.Walk.{Row, Rule, Waiting, idle, option as waits_for, settled, used, is_empty, walk_from, walked, nothing_held, has_row}
use Rattle.clap.specs.Walk.{with_default, default_rows, reading_by, subcommand_met}
use Rattle.clap.specs.Simple.{built}
use Rattle.clap.specs.Kinds.{Kinds, or_else}
use Rattle.std.specs.Prelude.{is_some}
use Rattle.std.proofs.lemmas.Bool.{or_right}
use Rattle.clap.specs.Simple.{entered}
use Rattle.clap.specs.Faults.{settle_fault, other_fault, flag_word_fault, entered_fault, given_default_fault, turn_fault, walk_fault, use_fault, fault_of, defaults_fault, level_fault}
use Rattle.clap.specs.Words.{matches_of}
use Rattle.std.specs.Prelude.{⊤}
use Rattle.ficus_words.specs.Clap.{ficus_app}
use Rattle.ficus_words.specs.Grammar.{Text, Use, place_names}
use Rattle.ficus_words.proofs.Uses.{at_option, at_name, at_place, also, is_option, is_value, placed_uses, spelled_uses, spelled_value, spelled_end, spelled_option}
use Rattle.ficus_words.proofs.Failing.{cons≢nil, Fails, or_else_nil, fails_as}
use Rattle.ficus_words.proofs.Built.{the_option, the_rules, the_shape, IsKnown, names_option, mode_known, root_known}
use Rattle.ficus_words.proofs.Settling.{state, end_of, faults, rows, faults_step, used_rows, Ends, ends_as, pend, after, refused_after, held_at, settling_fault, settling_rows, settle_waiting, settling, advance}
use Rattle.ficus_words.proofs.Turns.{IsFree, idle_state, IsPlainShape, plain_shape, short_shape, plain_turn, plain_walk, trailing_turn, trailing_walk, positional_is, place_step, fails_turn, IsReadable, other_short, other_unknown, other_in_vain, word_fails_idle, word_fails_waiting, joined_turn, joined_walk, opened_turn, opened_walk, joined_goes}
use Rattle.ficus_words.proofs.Turns.IsFree.{both, one, none}

-- ---- the three states

-- all words behind go to places
abbrev pub AgreesTrailing : List Text → Type 0
AgreesTrailing words = (before : List Use) (p : Option Use) (places : List Text) (position : ℕ) → IsFree places position →
    IfSome p (λ one. IsKnown one.0) →
    Ends before (after p (placed_uses places words)) (faults (idle_state (used_rows before) (pend p) position true) words)
    (rows (idle_state (used_rows before) (pend p) position true) words)

-- no option waits for its value
abbrev pub AgreesIdle : List Text → Type 0
AgreesIdle words = (before : List Use) (p : Option Use) (places : List Text) (position : ℕ) → IsFree places position →
    IfSome p (λ one. IsKnown one.0) →
    Ends before (after p (spelled_uses None places words)) (faults (idle_state (used_rows before) (pend p) position false) words)
    (rows (idle_state (used_rows before) (pend p) position false) words)

-- an option waits for its value
abbrev pub AgreesWaiting : List Text → Type 0
AgreesWaiting words = (before : List Use) (name : Text) (places : List Text) (position : ℕ) → IsFree places position → IsKnown name →
    Ends before (spelled_uses (Some name) places words)
    (faults (state (used_rows before) (Some (name, [])) (waits_for name) position false) words)
    (rows (state (used_rows before) (Some (name, [])) (waits_for name) position false) words)

pub end_idle : (before : List Use) (p : Option Use) (position : ℕ) (trailing : Bool) → IfSome p (λ one. IsKnown one.0) →
    Ends before (after p (Some [])) (faults (idle_state (used_rows before) (pend p) position trailing) [])
    (rows (idle_state (used_rows before) (pend p) position trailing) [])
unfolding walk_fault
end_idle before p position trailing known =
    settling before p (Some []) (settling_fault (used_rows before) (pend p)) (settling_rows (used_rows before) (pend p)) known (λ f. f)
    (λ now none is. (λ d. (none, is ∙ ap used_rows (sym (append-nil now))), λ d. absurd (true≢false d)))

pub end_waiting : (before : List Use) (name : Text) (position : ℕ) (trailing : Bool) → IsKnown name →
    Fails (faults (state (used_rows before) (Some (name, [])) (waits_for name) position trailing) [])
unfolding walk_fault
end_waiting before name position trailing known = settle_waiting name (used_rows before) known

pub trailing : (words : List Text) → AgreesTrailing words
trailing [] before p places position free known = end_idle before p position true known
trailing (word ∷ words) before p (_) (_) both known =
    place_step before p (placed_uses (codes "root" ∷ []) words) (codes "mode") word words 1 2 true known
    (trailing_turn word (used_rows before) (pend p) 1) (trailing_walk word (used_rows before) (pend p) 1)
    (λ now. trailing words now (Some (codes "mode", word)) (codes "root" ∷ []) 2 one mode_known)
trailing (word ∷ words) before p (_) (_) one known =
    place_step before p (placed_uses [] words) (codes "root") word words 2 3 true known
    (trailing_turn word (used_rows before) (pend p) 2) (trailing_walk word (used_rows before) (pend p) 2)
    (λ now. trailing words now (Some (codes "root", word)) [] 3 none root_known)
trailing (word ∷ words) before p (_) (_) none known =
    refused_after before p _ _ (fails_turn (idle_state (used_rows before) (pend p) 3 true) word words (cons≢nil _ _))

-- ---- the three states agree

pub ends_of : (before : List Use) {u v : Option (List Use)} (kinds : Kinds) (held : List Row) → u ≡ v →
    Ends before v kinds held → Ends before u kinds held
ends_of before kinds held same ends = subst (λ (o : Option (List Use)). Ends before o kinds held) (sym same) ends

pub value_idle : (word : Text) (words : List Text) → is_value word ≡ true → AgreesIdle words →
    (before : List Use) (p : Option Use) (places : List Text) (position : ℕ) → IsFree places position →
    IfSome p (λ one. IsKnown one.0) →
    Ends before (after p (at_place places word (λ left. spelled_uses None left words)))
    (faults (idle_state (used_rows before) (pend p) position false) (word ∷ words))
    (rows (idle_state (used_rows before) (pend p) position false) (word ∷ words))
value_idle word words is calm before p (_) (_) both known =
    place_step before p (spelled_uses None (codes "root" ∷ []) words) (codes "mode") word words 1 2 false known
    (plain_turn word (used_rows before) (pend p) 1 (plain_shape word is))
    (plain_walk word (used_rows before) (pend p) 1 (plain_shape word is))
    (λ now. calm now (Some (codes "mode", word)) (codes "root" ∷ []) 2 one mode_known)
value_idle word words is calm before p (_) (_) one known =
    place_step before p (spelled_uses None [] words) (codes "root") word words 2 3 false known
    (plain_turn word (used_rows before) (pend p) 2 (plain_shape word is))
    (plain_walk word (used_rows before) (pend p) 2 (plain_shape word is))
    (λ now. calm now (Some (codes "root", word)) [] 3 none root_known)
value_idle word words is calm before p (_) (_) none known =
    refused_after before p _ _ (fails_turn (idle_state (used_rows before) (pend p) 3 false) word words
    (fails_as (plain_turn word (used_rows before) (pend p) 3 (plain_shape word is)) (cons≢nil _ _)))

-- `--`
pub end_turn : (word : Text) (words : List Text) (held : List Row) (pending : Option (Text × List Text))
    (eager : Waiting) (position : ℕ) → bytes_eq word (45 ∷ 45 ∷ []) ≡ true →
    other_fault the_shape None word (held_at held pending) ≡ []
end_turn word words held pending eager position ends = ap
    (λ b. cond b [] (flag_word_fault the_rules false (long_of word) word (held_at held pending))) ends

pub end_walk : (word : Text) (held : List Row) (pending : Option (Text × List Text)) (eager : Waiting) (position : ℕ) →
    bytes_eq word (45 ∷ 45 ∷ []) ≡ true → (subcommand_met [] eager word ≡ None) →
    walked the_rules [] (state held pending eager position false) word ≡ state held pending eager position true
unfolding walked
end_walk word held pending eager position ends alone = rw (alone, ends) refl

pub end_faults : (word : Text) (words : List Text) (held : List Row) (pending : Option (Text × List Text))
    (position : ℕ) → bytes_eq word (45 ∷ 45 ∷ []) ≡ true →
    (faults (idle_state held pending position false) (word ∷ words) ≡ faults (idle_state held pending position true)
    words)
    × (rows (idle_state held pending position false) (word ∷ words) ≡ rows (idle_state held pending position true) words)
end_faults word words held pending position ends =
    let turn : turn_fault the_shape [] (idle_state held pending position false) word ≡ [] = rw ends refl in
    let walks = end_walk word held pending idle position ends refl in (
      faults_step (idle_state held pending position false) word words ∙ ap₂ (λ a w. or_else a (faults w words)) turn walks,
      ap
          (λ w. rows w words) walks,
    )

pub option_idle : (word : Text) (words : List Text) (long : Option (Text × Option Text)) → is_value word ≡ false →
    bytes_eq word (45 ∷ 45 ∷ []) ≡ false → long_of word ≡ long → IsReadable word → AgreesIdle words →
    AgreesWaiting words → (before : List Use) (p : Option Use) (places : List Text) (position : ℕ) →
    IsFree places position → IfSome p (λ one. IsKnown one.0) →
    Ends before (after p (at_option long (λ eager. spelled_uses eager places words)))
    (faults (idle_state (used_rows before) (pend p) position false) (word ∷ words))
    (rows (idle_state (used_rows before) (pend p) position false) (word ∷ words))
option_idle word words None other no_end is readable calm eager before p places position free known =
    refused_after before p _ _ (word_fails_idle word words (used_rows before) (pend p) position
    (other_short word (used_rows before) (pend p) readable no_end is (short_shape word other no_end is)))
option_idle word words (Some long) other no_end is readable calm eager before p places position free known =
    elim (cases_Bool (is_option long.0)) [
      | inr unknown ↦ ends_of before _ _
          (ap (λ b. after p (cond b (at_name long.0 long.1 (λ w. spelled_uses w places words)) None)) unknown)
          (refused_after before p _ _ (word_fails_idle word words (used_rows before) (pend p) position
          (other_unknown word long.0 long.1 (used_rows before) (pend p) no_end is unknown)))
      | inl found ↦ ends_of before _ _ (ap (λ b. after p (cond b (at_name long.0 long.1 (λ w. spelled_uses w places words)) None)) found)
          (known_option long.0 long.1 is found)
    ]
  where
    known_option : (name : Text) (v : Option Text) → long_of word ≡ Some (name, v) → is_option name ≡ true →
        Ends before (after p (at_name name v (λ w. spelled_uses w places words)))
        (faults (idle_state (used_rows before) (pend p) position false) (word ∷ words))
        (rows (idle_state (used_rows before) (pend p) position false) (word ∷ words))
    known_option name None is found =
        advance before p (spelled_uses (Some name) places words)
        (idle_state (used_rows before) (pend p) position false) word words (λ r. [])
        (λ r. state r (Some (name, [])) (waits_for name) position false) known
        (opened_turn word name (used_rows before) (pend p) position no_end is (names_option name found).0)
        (opened_walk word name (used_rows before) (pend p) position no_end is (names_option name found).0)
        (λ now. eager now name places position free (names_option name found).1)
    known_option name (Some t) is found =
        advance before p (also (name, t) (spelled_uses None places words))
        (idle_state (used_rows before) (pend p) position false) word words
        (use_fault false (the_option name) (t ∷ [])) (λ r. idle_state (used (the_option name) (t ∷ []) r) None position false) known
        (joined_turn word name t (used_rows before) (pend p) position no_end is (names_option name found).0)
        (joined_walk word name t (used_rows before) (pend p) position no_end is (names_option name found).0)
        (λ now. joined_goes now name t (spelled_uses None places words) words position (names_option name found).1
        (calm (now ++ (name, t) ∷ []) None places position free tt))

pub cons_idle : (word : Text) (words : List Text) → IsReadable word → AgreesIdle words → AgreesWaiting words →
    AgreesIdle (word ∷ words)
cons_idle word words readable calm eager before p places position free known =
    elim (cases_Bool (is_value word)) [
      | inl is ↦ ends_of before _ _ (ap (after p) (spelled_value places word words is))
          (value_idle word words is calm before p places position free known)
      | inr other ↦ elim (cases_Bool (bytes_eq word (45 ∷ 45 ∷ []))) [
        | inl ends ↦ let goes = end_faults word words (used_rows before) (pend p) position ends in
            ends_of before _ _ (ap (after p) (spelled_end places word words other ends))
            (ends_as before (after p (placed_uses places words)) goes.0 goes.1 (trailing words before p places position free known))
        | inr no_end ↦ ends_of before _ _ (ap (after p) (spelled_option places word words (long_of word) other no_end refl))
            (option_idle word words (long_of word) other no_end refl readable calm eager before p places position free known)
      ]
    ]

-- an option that waits in front of `--` gets no value
pub doomed : (words : List Text) (before : List Use) (name : Text) (places : List Text) (position : ℕ) →
    IsFree places position → IsKnown name →
    Fails (faults (state (used_rows before) (Some (name, [])) (waits_for name) position true) words)
doomed [] before name places position free known = end_waiting before name position true known
doomed (word ∷ words) before name (_) (_) both known =
    fails_turn (state (used_rows before) (Some (name, [])) (waits_for name) 1 true) word words
    (fails_as (positional_is (codes "mode") 1 (used_rows before) (Some (name, []))) (settle_waiting name (used_rows before) known))
doomed (word ∷ words) before name (_) (_) one known =
    fails_turn (state (used_rows before) (Some (name, [])) (waits_for name) 2 true) word words
    (fails_as (positional_is (codes "root") 2 (used_rows before) (Some (name, []))) (settle_waiting name (used_rows before) known))
doomed (word ∷ words) before name (_) (_) none known =
    fails_turn (state (used_rows before) (Some (name, [])) (waits_for name) 3 true) word words (cons≢nil _ _)

pub same_bytes : (name : Text) → bytes_eq name name ≡ true
same_bytes name = (bytes_eq-Decides name name).1 refl

pub waiting_turn : (word name : Text) (held : List Row) (position : ℕ) → IsPlainShape word →
    turn_fault the_shape [] (state held (Some (name, [])) (waits_for name) position false) word ≡ []
waiting_turn word name held position plain = rw (plain.no_end, plain.no_long, plain.no_short) refl

pub waiting_walk : (word name : Text) (held : List Row) (position : ℕ) → IsPlainShape word → IsKnown name →
    walked the_rules [] (state held (Some (name, [])) (waits_for name) position false) word
    ≡ idle_state held (Some (name, word ∷ [])) position false
unfolding walked
waiting_walk word name held position plain known = rw (plain.no_end, plain.no_long, plain.no_short, known.found, same_bytes name) refl

pub cons_waiting : (word : Text) (words : List Text) → IsReadable word → AgreesIdle words → AgreesWaiting (word ∷ words)
cons_waiting word words readable calm before name places position free known =
    let W = state (used_rows before) (Some (name, [])) (waits_for name) position false in
    elim (cases_Bool (is_value word)) [
      | inl is ↦
          let turn = waiting_turn word name (used_rows before) position (plain_shape word is) in
          let walks = waiting_walk word name (used_rows before) position (plain_shape word is) known in
          ends_of before _ _ (ap (λ b. cond b (also (name, word) (spelled_uses None places words)) None) is)
          (ends_as before (also (name, word) (spelled_uses None places words))
          (faults_step W word words ∙ ap₂ (λ a w. or_else a (faults w words)) turn walks) (ap (λ w. rows w words) walks)
          (calm before (Some (name, word)) places position free known))
      | inr other ↦ ends_of before _ _ (ap (λ b. cond b (also (name, word) (spelled_uses None places words)) None) other) (refused other)
    ]
  where
    refused : is_value word ≡ false →
        Fails (faults (state (used_rows before) (Some (name, [])) (waits_for name) position false) (word ∷ words))
    refused other = elim (cases_Bool (bytes_eq word (45 ∷ 45 ∷ []))) [
      | inl ends ↦
          let turn : turn_fault the_shape [] (state (used_rows before) (Some (name, [])) (waits_for name) position false) word
          ≡ [] = rw ends refl in
          fails_as (faults_step (state (used_rows before) (Some (name, [])) (waits_for name) position false) word words
          ∙ ap₂ (λ a w. or_else a (faults w words)) turn
          (end_walk word (used_rows before) (Some (name, [])) (waits_for name) position ends refl))
          (doomed words before name places position free known)
      | inr no_end ↦ word_fails_waiting word words (used_rows before) name position (by_long no_end (long_of word) refl)
    ]
      where
        by_long : bytes_eq word (45 ∷ 45 ∷ []) ≡ false → (long : Option (Text × Option Text)) → long_of word ≡ long →
            Fails (other_fault the_shape None word (held_at (used_rows before) (Some (name, []))))
        by_long no_end None is = other_short word (used_rows before) (Some (name, [])) readable no_end is (short_shape word other no_end is)
        by_long no_end (Some long) is = elim (cases_Bool (is_option long.0)) [
          | inl found ↦ other_in_vain word long.0 name long.1 (used_rows before) known no_end is found
          | inr unknown ↦ other_unknown word long.0 long.1 (used_rows before) (Some (name, [])) no_end is unknown
        ]

abbrev pub AreReadable : List Text → Type 0
AreReadable [] = ⊤
AreReadable (word ∷ words) = IsReadable word × AreReadable words

pub agrees : (words : List Text) → AreReadable words → AgreesIdle words × AgreesWaiting words
agrees [] readable = (
  λ before p places position free known. end_idle before p position false known,
  λ before name places position free known. end_waiting before name position false known,
)
agrees (word ∷ words) readable =
    let more = agrees words readable.1 in
    (cons_idle word words readable.0 more.0 more.1, cons_waiting word words readable.0 more.0)

-- ---- the whole parse

-- no rule gives a value by itself
abbrev pub HaveNoDefaults : List Rule → Type 0
HaveNoDefaults rules = flat_map (λ a. a.defaults) rules ≡ []

pub none_by_default : HaveNoDefaults the_rules
none_by_default = refl

-- so neither the first nor one of the others does
first_none : (a : Rule) (rules : List Rule) → HaveNoDefaults (a ∷ rules) → a.defaults ≡ []
first_none a rules = front a.defaults
  where
    front : (d : List Text) → d ++ flat_map (λ b. b.defaults) rules ≡ [] → d ≡ []
    front [] empty = refl
    front (text ∷ d) empty = absurd (cons≢nil text _ empty)

others_none : (a : Rule) (rules : List Rule) → HaveNoDefaults (a ∷ rules) → HaveNoDefaults rules
others_none a rules empty =
    ap (λ (d : List Text). d ++ flat_map (λ b. b.defaults) rules) (sym (first_none a rules empty)) ∙ empty

pub kept_without : (held : List Row) (a : Rule) → a.defaults ≡ [] → with_default held a ≡ held
kept_without held a empty = ap (λ (d : List Text). cond (has_row a.id held) held (default_rows a.id (reading_by a) d held)) empty
    ∙ either (has_row a.id held)
  where
    either : (b : Bool) → cond b held held ≡ held
    either true = refl
    either false = refl

pub no_default_faults : (rules : List Rule) (held : List Row) → HaveNoDefaults rules → defaults_fault held rules ≡ []
unfolding defaults_fault
no_default_faults [] held empty = refl
no_default_faults (a ∷ rules) held empty =
    ap₂ or_else (ap (λ b. cond b [] (given_default_fault a a.defaults))
    (or_right (has_row a.id held) (is_empty a.defaults) (ap is_empty (first_none a rules empty))))
    (ap (λ r. defaults_fault r rules) (kept_without held a (first_none a rules empty))
    ∙ no_default_faults rules held (others_none a rules empty))

pub no_default_rows : (rules : List Rule) (held : List Row) → HaveNoDefaults rules → fold with_default held rules ≡ held
no_default_rows [] held empty = refl
no_default_rows (a ∷ rules) held empty = ap (λ r. fold with_default r rules) (kept_without held a (first_none a rules empty))
    ∙ no_default_rows rules held (others_none a rules empty)

-- the command has no subcommand that the words could enter
pub enters_none : (stop : Option (Text × List Text)) →
    (entered (built ficus_app) stop ≡ None) × (entered_fault (built ficus_app) stop ≡ [])
enters_none None = (refl, refl)
enters_none (Some s) = (refl, refl)

pub fault_is : (words : List Text) → fault_of ficus_app words ≡ faults (walk_from nothing_held) (drop 1 words)
fault_is words =
    let w = end_of (walk_from nothing_held) (drop 1 words) in
    let enters = enters_none (fold (walked the_rules []) (walk_from nothing_held) (drop 1 words)).stopped in
    ap₂ (λ (e : Option (Text × List Row)) b. level_fault the_shape [] nothing_held (drop 1 words) (is_some e) b)
    enters.0 enters.1
    ∙ ap (λ d. or_else (walk_fault the_shape [] (walk_from nothing_held) (drop 1 words))
    (or_else (settle_fault the_rules false w) (or_else d [])))
    (no_default_faults the_rules (settled the_rules w).rows none_by_default)
    ∙ ap (or_else (walk_fault the_shape [] (walk_from nothing_held) (drop 1 words))) (or_else_nil (settle_fault the_rules false w))

pub matches_are : (words : List Text) → matches_of ficus_app words ≡ rows (walk_from nothing_held) (drop 1 words)
matches_are words = no_default_rows the_rules (rows (walk_from nothing_held) (drop 1 words)) none_by_default

-- What the words spell is what a parse finds, and it fails where they spell nothing or name something twice.
pub clap_agrees : (words : List Text) → AreReadable (drop 1 words) →
    Ends [] (spelled_uses None place_names (drop 1 words)) (fault_of ficus_app words) (matches_of ficus_app words)
clap_agrees words readable =
    ends_as [] (spelled_uses None place_names (drop 1 words)) (fault_is words) (matches_are words)
    ((agrees (drop 1 words) readable).0 [] None place_names 1 both tt)
