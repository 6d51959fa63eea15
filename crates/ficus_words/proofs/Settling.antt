-- What a walk along the words holds, and what waits to be noted.
use Rattle.std.proofs.Common.{◌≡◌, ◌∙◌, ◌&&◌, ◌||◌, ℕ, Bool, true, false, not, refl, sym, ap, ap₂, List, [], ◌∷◌, ◌++◌, map, Option, Some, None, IfSome, inl, inr, true≢false, append_assoc, append-nil}
use Rattle.std.specs.List.{fold}
use Rattle.std.specs.Str.{bytes_eq}
use Rattle.std.proofs.lemmas.Bool.{cases_Bool}
use Rattle.clap.specs.Walk.{Held, Row, Waiting, Walk, settled, used, more_values, with_values, used_by_id, walked, has_row}
use Rattle.clap.specs.Walk.{at_row}
use Rattle.clap.specs.Kinds.{Kinds, or_else}
use Rattle.std.specs.Option.{option_map_or}
use Rattle.std.proofs.lemmas.Bool.{or_parts}
use Rattle.std.proofs.lemmas.List.{map-append}
use Rattle.clap.specs.Faults.{settle_fault, turn_fault, walk_fault, use_fault, repeat_fault}
use Rattle.clap.specs.declared.builder.value_parser.Reading.TheVariants as reading
use Rattle.clap.specs.declared.parser.matches.ValueSource.TheVariants.{CommandLine}
use Rattle.ficus_words.specs.Grammar.{Text, Use}
use Rattle.ficus_words.proofs.Uses.{also, are_distinct, has_use}
use Rattle.ficus_words.proofs.Failing.{cons≢nil, Fails, or_else_nil, or_else_assoc, fails_left, fails_as}
use Rattle.ficus_words.proofs.Built.{shaped, the_rules, the_shape, waits_in_vain, IsKnown}

abbrev pub state : List Row → Option (Text × List Text) → Waiting → ℕ → Bool → Walk
state rows pending waiting position trailing = record {
  held = record { rows = rows; pending = pending; skip = 0 };
  waiting = waiting;
  position = position;
  is_trailing = trailing;
  stopped = None;
}

abbrev pub end_of : Walk → List Text → Held
end_of w words = (fold (walked the_rules []) w words).held

abbrev pub faults : Walk → List Text → Kinds
faults w words = or_else (walk_fault the_shape [] w words) (settle_fault the_rules false (end_of w words))

abbrev pub rows : Walk → List Text → List Row
rows w words = (settled the_rules (end_of w words)).rows

pub faults_step : (w : Walk) (word : Text) (words : List Text) →
    faults w (word ∷ words) ≡ or_else (turn_fault the_shape [] w word) (faults (walked the_rules [] w word) words)
unfolding walk_fault
faults_step w word words = or_else_assoc (turn_fault the_shape [] w word) (walk_fault the_shape [] (walked the_rules [] w word) words)
    (settle_fault the_rules false (end_of (walked the_rules [] w word) words))

pub rows_step : (w : Walk) (word : Text) (words : List Text) →
    rows w (word ∷ words) ≡ rows (walked the_rules [] w word) words
rows_step w word words = refl

abbrev pub row_of_use : Use → Row
row_of_use one = record { id = one.0; values = one.1 ∷ []; count = None; source = Some CommandLine; reading = reading.AsWritten }

abbrev pub used_rows : List Use → List Row
used_rows uses = map row_of_use uses

pub has_row_is : (name : Text) (uses : List Use) → has_row name (used_rows uses) ≡ has_use name uses
has_row_is name [] = refl
has_row_is name (one ∷ uses) = ap (λ b. bytes_eq one.0 name || b) (has_row_is name uses)

pub at_fresh : (name : Text) (change : Row → List Row) (missing : List Row) (uses : List Use) →
    has_use name uses ≡ false → at_row name change missing (used_rows uses) ≡ used_rows uses ++ missing
at_fresh name change missing [] new = refl
at_fresh name change missing (one ∷ uses) new =
    let parts = or_parts (bytes_eq one.0 name) (has_use name uses) new in
    rw parts.0 (ap (λ rs. row_of_use one ∷ rs) (at_fresh name change missing uses parts.1))

pub used_is : (name value : Text) (long : Option Text) (index : Option ℕ) (uses : List Use) →
    has_use name uses ≡ false →
    used (shaped name long index) (value ∷ []) (used_rows uses) ≡ used_rows (uses ++ (name, value) ∷ [])
used_is name value long index uses new =
    ap (with_values name reading.AsWritten CommandLine (value ∷ [])) (at_fresh name (λ r. []) [] uses new ∙ append-nil (used_rows uses))
    ∙ at_fresh name (more_values CommandLine (value ∷ [])) (row_of_use (name, value) ∷ []) uses new
    ∙ sym (map-append row_of_use uses ((name, value) ∷ []))

abbrev pub Ends : List Use → Option (List Use) → Kinds → List Row → Type 0
Ends before None kinds held = Fails kinds
Ends before (Some uses) kinds held = (are_distinct before uses ≡ true → (kinds ≡ []) × (held ≡ used_rows (before ++ uses)))
    × (are_distinct before uses ≡ false → Fails kinds)

pub ends_as : (before : List Use) (u : Option (List Use)) {k l : Kinds} {r s : List Row} → k ≡ l → r ≡ s →
    Ends before u l s → Ends before u k r
ends_as before None kinds held ends = fails_as kinds ends
ends_as before (Some uses) kinds held ends = (λ d. (kinds ∙ (ends.0 d).0, held ∙ (ends.0 d).1), λ d. fails_as kinds (ends.1 d))

pub repeated : (before : List Use) (one : Use) (u : Option (List Use)) (kinds : Kinds) (held : List Row) →
    has_use one.0 before ≡ true → Fails kinds → Ends before (also one u) kinds held
repeated before one None kinds held again fails = fails
repeated before one (Some uses) kinds held again fails =
    let no : are_distinct before (one ∷ uses) ≡ false = ap (λ b. not b && are_distinct (before ++ one ∷ []) uses) again in
    (λ d. absurd (true≢false (sym d ∙ no)), λ d. fails)

pub fresh : (before : List Use) (one : Use) (u : Option (List Use)) (kinds : Kinds) (held : List Row) →
    has_use one.0 before ≡ false → Ends (before ++ one ∷ []) u kinds held → Ends before (also one u) kinds held
fresh before one None kinds held new ends = ends
fresh before one (Some uses) kinds held new ends =
    let same : are_distinct before (one ∷ uses)
    ≡ are_distinct (before ++ one ∷ []) uses = ap (λ b. not b && are_distinct (before ++ one ∷ []) uses) new in (
      λ d. ((ends.0 (sym same ∙ d)).0, (ends.0 (sym same ∙ d)).1 ∙ ap used_rows (append_assoc before (one ∷ []) uses)),
      λ d. ends.1
          (sym same ∙ d),
    )

abbrev pub pend : Option Use → Option (Text × List Text)
pend None = None
pend (Some one) = Some (one.0, one.1 ∷ [])

abbrev pub after : Option Use → Option (List Use) → Option (List Use)
after None u = u
after (Some one) u = also one u

pub refused_after : (before : List Use) (p : Option Use) (kinds : Kinds) (held : List Row) → Fails kinds →
    Ends before (after p None) kinds held
refused_after before None kinds held fails = fails
refused_after before (Some one) kinds held fails = fails

abbrev pub held_at : List Row → Option (Text × List Text) → Held
held_at held pending = record { rows = held; pending = pending; skip = 0 }

abbrev pub settling_fault : List Row → Option (Text × List Text) → Kinds
settling_fault held pending = settle_fault the_rules false (held_at held pending)

abbrev pub settling_rows : List Row → Option (Text × List Text) → List Row
settling_rows held pending = (settled the_rules (held_at held pending)).rows

pub settle_known : (name value : Text) (held : List Row) → IsKnown name →
    settling_fault held (Some (name, value ∷ [])) ≡ repeat_fault false name held
settle_known name value held known =
    ap (λ o. option_map_or (λ a. use_fault false a (value ∷ []) held) o []) known.found ∙ or_else_nil (repeat_fault false name held)

pub settle_waiting : (name : Text) (held : List Row) → IsKnown name → Fails (settling_fault held (Some (name, [])))
settle_waiting name held known = fails_as (ap (λ o. option_map_or (λ a. use_fault false a [] held) o []) known.found)
    (waits_in_vain name known.long known.index held)

pub settled_known : (name value : Text) (uses : List Use) → IsKnown name → has_use name uses ≡ false →
    settling_rows (used_rows uses) (Some (name, value ∷ [])) ≡ used_rows (uses ++ (name, value) ∷ [])
settled_known name value uses known new =
    ap (λ o. used_by_id o (value ∷ []) (used_rows uses)) known.found ∙ used_is name value known.long known.index uses new

pub repeat_some : (name : Text) (uses : List Use) → has_use name uses ≡ true →
    Fails (repeat_fault false name (used_rows uses))
repeat_some name uses again = let is : has_row name (used_rows uses) ≡ true = has_row_is name uses ∙ again in rw is (cons≢nil _ _)

pub repeat_none : (name : Text) (uses : List Use) → has_use name uses ≡ false →
    repeat_fault false name (used_rows uses) ≡ []
repeat_none name uses new = let is : has_row name (used_rows uses) ≡ false = has_row_is name uses ∙ new in rw is refl

pub settling : (before : List Use) (p : Option Use) (u : Option (List Use)) (kinds : Kinds) (held : List Row) →
    IfSome p (λ one. IsKnown one.0) → (Fails (settling_fault (used_rows before) (pend p)) → Fails kinds) →
    ((now : List Use) → settling_fault (used_rows before) (pend p) ≡ [] →
    settling_rows (used_rows before) (pend p) ≡ used_rows now → Ends now u kinds held) →
    Ends before (after p u) kinds held
settling before None u kinds held known fails goes = goes before refl refl
settling before (Some one) u kinds held known fails goes =
    elim (cases_Bool (has_use one.0 before)) [
      | inl again ↦ repeated before one u kinds held again
          (fails (fails_as (settle_known one.0 one.1 (used_rows before) known) (repeat_some one.0 before again)))
      | inr new ↦ fresh before one u kinds held new (goes (before ++ one ∷ [])
          (settle_known one.0 one.1 (used_rows before) known ∙ repeat_none one.0 before new) (settled_known one.0 one.1 before known new))
    ]

-- a word that settles what waits, and then does something that may fail
pub advance : (before : List Use) (p : Option Use) (u : Option (List Use)) (w : Walk) (word : Text) (words : List Text)
    (more : List Row → Kinds)
    (next : List Row → Walk) → IfSome p (λ one. IsKnown one.0) →
    turn_fault the_shape [] w word
    ≡ or_else (settling_fault (used_rows before) (pend p)) (more (settling_rows (used_rows before) (pend p))) →
    walked the_rules [] w word ≡ next (settling_rows (used_rows before) (pend p)) →
    ((now : List Use) →
    Ends now u (or_else (more (used_rows now)) (faults (next (used_rows now)) words))
    (rows (next (used_rows now)) words)) →
    Ends before (after p u) (faults w (word ∷ words)) (rows w (word ∷ words))
advance before p u w word words more next known turn walks goes =
    let S = settling_fault (used_rows before) (pend p) in
    let R = settling_rows (used_rows before) (pend p) in
    let is : faults w (word ∷ words) ≡ or_else S (or_else (more R) (faults (next R) words)) =
    faults_step w word words ∙ ap₂ (λ a v. or_else a (faults v words)) turn walks ∙ or_else_assoc S (more R) (faults (next R) words) in
    let held : rows w (word ∷ words) ≡ rows (next R) words = ap (λ v. rows v words) walks in
    settling before p u (faults w (word ∷ words)) (rows w (word ∷ words)) known
    (λ some. fails_as is (fails_left S _ some))
    (λ now none same. ends_as now u (is ∙ ap (λ s. or_else s (or_else (more R) (faults (next R) words))) none
    ∙ ap (λ r. or_else (more r) (faults (next r) words)) same) (held ∙ ap (λ r. rows (next r) words) same) (goes now))
