-- What one word does to the walk.
use Rattle.std.proofs.Common.{◌≡◌, ◌∙◌, ◌&&◌, ℕ, Bool, cond, codes, true, false, not, refl, sym, ap, ap₂, List, [], ◌∷◌, ◌++◌, length, Option, Some, None, IfSome, inl, inr, true≢false}
use Rattle.std.specs.Prelude.{slice_get}
use Rattle.std.specs.Str.{bytes_eq, chars}
use Rattle.std.proofs.lemmas.Bool.{cases_Bool}
use Rattle.clap.specs.Lexer.{long_of, short_of}
use Rattle.clap.specs.Walk.{Held, Row, Walk, arg_by_index, arg_by_long, idle, option as waits_for, settled, used, pushed, value as as_value, positional_held, takes_several, is_pending, to_positional, walked}
use Rattle.clap.specs.Kinds.{Kinds, or_else}
use Rattle.std.specs.Option.{option_map_or}
use Rattle.std.specs.Prelude.{is_some}
use Rattle.std.proofs.lemmas.Bool.{and_right, eqb-true}
use Rattle.clap.specs.Faults.{step_fault, other_fault, long_fault, bundle_step_fault, bundle_fault, flags_fault, flag_word_fault, positional_fault, turn_fault, use_fault, repeat_fault}
use Rattle.std.specs.Prelude.{◌==◌}
use Rattle.ficus_words.specs.Grammar.{Text, Use}
use Rattle.ficus_words.proofs.Uses.{also, has_use, is_option, is_value}
use Rattle.ficus_words.proofs.Failing.{cons≢nil, Fails, or_else_nil, fails_left, fails_as}
use Rattle.ficus_words.proofs.Built.{the_option, the_place, the_rules, the_shape, IsKnown, names_option, names_nothing}
use Rattle.ficus_words.proofs.Settling.{state, faults, rows, faults_step, used_rows, used_is, Ends, ends_as, repeated, fresh, pend, after, held_at, settling_fault, settling_rows, settle_waiting, repeat_some, repeat_none, advance}

-- the places that are free, and the position of the first
pub data IsFree : List Text → ℕ → Type 0 where
  both : IsFree (codes "mode" ∷ codes "root" ∷ []) 1
  one : IsFree (codes "root" ∷ []) 2
  none : IsFree [] 3

abbrev pub idle_state : List Row → Option (Text × List Text) → ℕ → Bool → Walk
idle_state held pending position trailing = state held pending idle position trailing

pub record IsPlainShape (word : Text) : Type 0 where
  pub no_end : bytes_eq word (45 ∷ 45 ∷ []) ≡ false
  pub no_long : long_of word ≡ None
  pub no_short : short_of word ≡ None

pub plain_shape : (word : Text) → is_value word ≡ true → IsPlainShape word
plain_shape [] is = record { no_end = refl; no_long = refl; no_short = refl }
plain_shape (b ∷ []) is = elim (cases_Bool (b == 45)) [
  | inl e ↦ record { no_end = and_right _ _ refl; no_long = rw e refl; no_short = rw e refl }
  | inr e ↦ record { no_end = and_right _ _ refl; no_long = rw e refl; no_short = rw e refl }
]
plain_shape (b ∷ n ∷ rest) is = elim (cases_Bool (b == 45)) [
  | inl e ↦ absurd (true≢false (sym is ∙ ap not e))
  | inr e ↦ record { no_end = rw e refl; no_long = rw e refl; no_short = rw e refl }
]

-- a word of one hyphen and more
pub record IsShortShape (word : Text) : Type 0 where
  pub next : ℕ
  pub rest : List ℕ
  pub hyphen : word ≡ 45 ∷ next ∷ rest
  pub short : short_of word ≡ Some (next ∷ rest)

pub short_shape : (word : Text) → is_value word ≡ false → bytes_eq word (45 ∷ 45 ∷ []) ≡ false → long_of word ≡ None →
    IsShortShape word
short_shape [] is no_end no_long = absurd (true≢false is)
short_shape (b ∷ []) is no_end no_long = absurd (true≢false is)
short_shape (b ∷ n ∷ rest) is no_end no_long = elim (cases_Bool (b == 45)) [
  | inr e ↦ absurd (true≢false (sym (ap not e) ∙ is))
  | inl e ↦ elim (cases_Bool (n == 45)) [
    | inr f ↦ record { next = n; rest = rest; hyphen = ap (λ x. x ∷ n ∷ rest) (eqb-true b 45 e); short = rw (e, f) refl }
    | inl f ↦ absurd (two_hyphens b n rest e f no_end no_long)
  ]
]
  where
    two_hyphens : (b n : ℕ) (rest : List ℕ) → (b == 45) ≡ true → (n == 45) ≡ true →
        bytes_eq (b ∷ n ∷ rest) (45 ∷ 45 ∷ []) ≡ false → long_of (b ∷ n ∷ rest) ≡ None → ⊥
    two_hyphens b n [] e f no_end no_long = let ends : bytes_eq (b ∷ n ∷ []) (45 ∷ 45 ∷ [])
        ≡ true = rw (e, f) refl in true≢false (sym ends ∙ no_end)
    two_hyphens b n (x ∷ xs) e f no_end no_long =
        let long : is_some (long_of (b ∷ n ∷ x ∷ xs)) ≡ true = rw (e, f) refl in
        true≢false (sym long ∙ ap is_some no_long)

abbrev pub place_fault : List Row → Option (Text × List Text) → ℕ → Kinds
place_fault held pending position = step_fault the_shape position (held_at held pending) as_value

pub plain_turn : (word : Text) (held : List Row) (pending : Option (Text × List Text)) (position : ℕ) →
    IsPlainShape word →
    turn_fault the_shape [] (idle_state held pending position false) word ≡ place_fault held pending position
plain_turn word held pending position plain = rw (plain.no_end, plain.no_long, plain.no_short) refl

pub plain_walk : (word : Text) (held : List Row) (pending : Option (Text × List Text)) (position : ℕ) →
    IsPlainShape word → walked the_rules [] (idle_state held pending position false) word
    ≡ to_positional the_rules (arg_by_index the_rules position) word (idle_state held pending position false) (held_at held pending)
unfolding walked
plain_walk word held pending position plain = rw (plain.no_end, plain.no_long, plain.no_short) refl

pub trailing_turn : (word : Text) (held : List Row) (pending : Option (Text × List Text)) (position : ℕ) →
    turn_fault the_shape [] (idle_state held pending position true) word ≡ place_fault held pending position
trailing_turn word held pending position = refl

pub trailing_walk : (word : Text) (held : List Row) (pending : Option (Text × List Text)) (position : ℕ) →
    walked the_rules [] (idle_state held pending position true) word
    ≡ to_positional the_rules (arg_by_index the_rules position) word (idle_state held pending position true) (held_at held pending)
unfolding walked
trailing_walk word held pending position = refl

pub is_not_more : (name : Text) (index : ℕ) (pending : Option (Text × List Text)) →
    (is_pending (the_place name index) pending && takes_several (the_place name index)) ≡ false
is_not_more name index pending = and_right (is_pending (the_place name index) pending) false refl

pub positional_is : (name : Text) (index : ℕ) (held : List Row) (pending : Option (Text × List Text)) →
    positional_fault the_rules false (the_place name index) (held_at held pending) ≡ settling_fault held pending
positional_is name index held pending = ap (λ b. cond b [] (settling_fault held pending)) (is_not_more name index pending)

pub placed_is : (name word : Text) (index : ℕ) (held : List Row) (pending : Option (Text × List Text)) →
    positional_held the_rules (the_place name index) word (held_at held pending)
    ≡ held_at (settling_rows held pending) (Some (name, word ∷ []))
placed_is name word index held pending =
    ap (λ b. pushed name word (cond b (held_at held pending) (settled the_rules (held_at held pending)))) (is_not_more name index pending)

-- the word goes to a place that is free
pub place_step : (before : List Use) (p : Option Use) (u : Option (List Use)) (place word : Text) (words : List Text)
    (position next : ℕ) (trailing : Bool) → IfSome p (λ one. IsKnown one.0) →
    turn_fault the_shape [] (idle_state (used_rows before) (pend p) position trailing) word
    ≡ positional_fault the_rules false (the_place place position) (held_at (used_rows before) (pend p)) →
    walked the_rules [] (idle_state (used_rows before) (pend p) position trailing) word
    ≡ record {
      held = positional_held the_rules (the_place place position) word (held_at (used_rows before) (pend p));
      waiting = idle;
      position = next;
      is_trailing = trailing;
      stopped = None;
    } → ((now : List Use) →
    Ends now (also (place, word) u) (faults (idle_state (used_rows now) (Some (place, word ∷ [])) next trailing) words)
    (rows (idle_state (used_rows now) (Some (place, word ∷ [])) next trailing) words)) →
    Ends before (after p (also (place, word) u)) (faults (idle_state (used_rows before) (pend p) position trailing) (word ∷ words))
    (rows (idle_state (used_rows before) (pend p) position trailing) (word ∷ words))
place_step before p u place word words position next trailing known turn walks goes =
    advance before p (also (place, word) u) (idle_state (used_rows before) (pend p) position trailing) word words (λ r. [])
    (λ r. idle_state r (Some (place, word ∷ [])) next trailing) known
    (turn ∙ positional_is place position (used_rows before) (pend p) ∙ sym (or_else_nil (settling_fault (used_rows before) (pend p))))
    (walks ∙ ap (λ (h : Held). record { held = h; waiting = idle; position = next; is_trailing = trailing; stopped = None })
    (placed_is place word position (used_rows before) (pend p)))
    goes

-- a turn that fails, and all behind it
pub fails_turn : (w : Walk) (word : Text) (words : List Text) → Fails (turn_fault the_shape [] w word) →
    Fails (faults w (word ∷ words))
fails_turn w word words fails = fails_as (faults_step w word words) (fails_left _ _ fails)

-- ---- words that are no values

-- behind a hyphen stands a character
abbrev pub IsReadable : Text → Type 0
IsReadable word = (next : ℕ) (rest : List ℕ) → word ≡ 45 ∷ next ∷ rest → (c : ℕ) × (slice_get (chars (next ∷ rest)) 0 ≡ Some c)

pub other_is : (word : Text) (held : List Row) (pending : Option (Text × List Text)) →
    bytes_eq word (45 ∷ 45 ∷ []) ≡ false →
    other_fault the_shape None word (held_at held pending)
    ≡ flag_word_fault the_rules false (long_of word) word (held_at held pending)
other_is word held pending no_end = ap (λ b. cond b [] (flag_word_fault the_rules false (long_of word) word (held_at held pending))) no_end

pub bundle_fails : (next : ℕ) (rest : List ℕ) (h : Held) (c : ℕ) → slice_get (chars (next ∷ rest)) 0 ≡ Some c →
    h.skip ≡ 0 → Fails (bundle_fault the_rules false (next ∷ rest) h)
unfolding flags_fault
bundle_fails next rest h c first no_skip =
    fails_as (ap₂
    (λ o k. bundle_step_fault the_rules false o (next ∷ rest) k (record h { skip = 0 }) (flags_fault the_rules false (length rest)))
    first no_skip)
    (cons≢nil _ _)

pub other_short : (word : Text) (held : List Row) (pending : Option (Text × List Text)) → IsReadable word →
    bytes_eq word (45 ∷ 45 ∷ []) ≡ false → long_of word ≡ None → IsShortShape word →
    Fails (other_fault the_shape None word (held_at held pending))
other_short word held pending readable no_end no_long shape =
    let first = readable shape.next shape.rest shape.hyphen in
    fails_as (other_is word held pending no_end
    ∙ ap (λ l. flag_word_fault the_rules false l word (held_at held pending)) no_long
    ∙ ap (λ o. option_map_or (λ flags. bundle_fault the_rules false flags (held_at held pending)) o []) shape.short)
    (bundle_fails shape.next shape.rest (held_at held pending) first.0 first.1 refl)

pub other_long : (word name : Text) (v : Option Text) (held : List Row) (pending : Option (Text × List Text)) →
    bytes_eq word (45 ∷ 45 ∷ []) ≡ false → long_of word ≡ Some (name, v) →
    other_fault the_shape None word (held_at held pending)
    ≡ long_fault the_rules false (arg_by_long the_rules name) v (held_at held pending)
other_long word name v held pending no_end is =
    other_is word held pending no_end ∙ ap (λ l. flag_word_fault the_rules false l word (held_at held pending)) is

pub other_unknown : (word name : Text) (v : Option Text) (held : List Row) (pending : Option (Text × List Text)) →
    bytes_eq word (45 ∷ 45 ∷ []) ≡ false → long_of word ≡ Some (name, v) → is_option name ≡ false →
    Fails (other_fault the_shape None word (held_at held pending))
other_unknown word name v held pending no_end is unknown =
    fails_as (other_long word name v held pending no_end is ∙ ap (λ a. long_fault the_rules false a v (held_at held pending))
    (names_nothing name unknown))
    (cons≢nil _ _)

-- an option in the place of a value
pub other_in_vain : (word name waiting : Text) (v : Option Text) (held : List Row) → IsKnown waiting →
    bytes_eq word (45 ∷ 45 ∷ []) ≡ false → long_of word ≡ Some (name, v) → is_option name ≡ true →
    Fails (other_fault the_shape None word (held_at held (Some (waiting, []))))
other_in_vain word name waiting v held known no_end is option =
    fails_as (other_long word name v held (Some (waiting, [])) no_end is
    ∙ ap (λ a. long_fault the_rules false a v (held_at held (Some (waiting, [])))) (names_option name option).0)
    (go v)
  where
    go : (v : Option Text) →
        Fails (long_fault the_rules false (Some (the_option name)) v (held_at held (Some (waiting, []))))
    go None = settle_waiting waiting held known
    go (Some t) = fails_left _ _ (settle_waiting waiting held known)

-- a turn fails where its word does
pub word_fails_idle : (word : Text) (words : List Text) (held : List Row) (pending : Option (Text × List Text))
    (position : ℕ) → Fails (other_fault the_shape None word (held_at held pending)) →
    Fails (faults (idle_state held pending position false) (word ∷ words))
word_fails_idle word words held pending position fails =
    fails_turn (idle_state held pending position false) word words (fails_left _ _ fails)

pub word_fails_waiting : (word : Text) (words : List Text) (held : List Row) (name : Text) (position : ℕ) →
    Fails (other_fault the_shape None word (held_at held (Some (name, [])))) →
    Fails (faults (state held (Some (name, [])) (waits_for name) position false) (word ∷ words))
word_fails_waiting word words held name position fails =
    fails_turn (state held (Some (name, [])) (waits_for name) position false) word words (fails_left _ _ fails)

-- ---- an option, with its value or without it

pub joined_turn : (word name t : Text) (held : List Row) (pending : Option (Text × List Text)) (position : ℕ) →
    bytes_eq word (45 ∷ 45 ∷ []) ≡ false → long_of word ≡ Some (name, Some t) →
    arg_by_long the_rules name ≡ Some (the_option name) →
    turn_fault the_shape [] (idle_state held pending position false) word
    ≡ or_else (settling_fault held pending) (use_fault false (the_option name) (t ∷ []) (settling_rows held pending))
joined_turn word name t held pending position no_end is found = rw (no_end, is, found) (or_else_nil _)

pub joined_walk : (word name t : Text) (held : List Row) (pending : Option (Text × List Text)) (position : ℕ) →
    bytes_eq word (45 ∷ 45 ∷ []) ≡ false → long_of word ≡ Some (name, Some t) →
    arg_by_long the_rules name ≡ Some (the_option name) →
    walked the_rules [] (idle_state held pending position false) word
    ≡ idle_state (used (the_option name) (t ∷ []) (settling_rows held pending)) None position false
unfolding walked
joined_walk word name t held pending position no_end is found = rw (no_end, is, found) refl

pub opened_turn : (word name : Text) (held : List Row) (pending : Option (Text × List Text)) (position : ℕ) →
    bytes_eq word (45 ∷ 45 ∷ []) ≡ false → long_of word ≡ Some (name, None) →
    arg_by_long the_rules name ≡ Some (the_option name) →
    turn_fault the_shape [] (idle_state held pending position false) word
    ≡ or_else (settling_fault held pending) []
opened_turn word name held pending position no_end is found = rw (no_end, is, found) refl

pub opened_walk : (word name : Text) (held : List Row) (pending : Option (Text × List Text)) (position : ℕ) →
    bytes_eq word (45 ∷ 45 ∷ []) ≡ false → long_of word ≡ Some (name, None) →
    arg_by_long the_rules name ≡ Some (the_option name) →
    walked the_rules [] (idle_state held pending position false) word
    ≡ state (settling_rows held pending) (Some (name, [])) (waits_for name) position false
unfolding walked
opened_walk word name held pending position no_end is found = rw (no_end, is, found) refl

-- the use of an option with its value, after all that waited
pub joined_goes : (now : List Use) (name t : Text) (u : Option (List Use)) (words : List Text) (position : ℕ) →
    IsKnown name →
    Ends (now ++ (name, t) ∷ []) u
    (faults (idle_state (used_rows (now ++ (name, t) ∷ [])) None position false) words)
    (rows (idle_state (used_rows (now ++ (name, t) ∷ [])) None position false) words) → Ends now (also (name, t) u)
    (or_else (use_fault false (the_option name) (t ∷ []) (used_rows now))
    (faults (idle_state (used (the_option name) (t ∷ []) (used_rows now)) None position false) words))
    (rows (idle_state (used (the_option name) (t ∷ []) (used_rows now)) None position false) words)
joined_goes now name t u words position known goes =
    let U = use_fault false (the_option name) (t ∷ []) (used_rows now) in
    let W = λ (r : List Row). idle_state r None position false in
    let U_is : U ≡ repeat_fault false name (used_rows now) = or_else_nil (repeat_fault false name (used_rows now)) in
    elim (cases_Bool (has_use name now)) [
      | inl again ↦ repeated now (name, t) u _ _ again (fails_left U _ (fails_as U_is (repeat_some name now again)))
      | inr new ↦ let same = used_is name t (Some name) None now new in
          fresh now (name, t) u _ _ new (ends_as (now ++ (name, t) ∷ []) u
          (ap (λ k. or_else k (faults (W (used (the_option name) (t ∷ []) (used_rows now))) words)) (U_is ∙ repeat_none name now new) ∙ ap
          (λ r. faults (W r) words) same)
          (ap (λ r. rows (W r) words) same) goes)
    ]
