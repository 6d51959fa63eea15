-- How the lines of such a script begin.
use Rattle.std.proofs.Common.{◌≡◌, ◌⊎◌, ℕ, ◌≤◌, List, ◌∷◌, ◌++◌, length, get_or, drop, Some, IfSome, refl, sym, ◌∙◌, ap, inl, inr, arith}
use Rattle.std.specs.Prelude.{codes}
use Rattle.std.specs.Fmt.{decimal}
use Rattle.std.proofs.lemmas.Fmt.{decimal_nonempty}
use Rattle.std.proofs.lemmas.List.{get_or_append_left}
use Rattle.ficus_commands.specs.declared.change.Change.{Change}
use Rattle.ficus_commands.specs.declared.change.Change.TheVariants.{MkDir}
use Rattle.ficus_commands.specs.declared.look.Look.{Look}
use Rattle.ficus_commands.specs.declared.look.Look.TheVariants.{Tree}
use Rattle.ficus_script.specs.declared.command.Command.{Command}
use Rattle.ficus_script.specs.declared.command.Command.TheVariants as command
use Rattle.ficus_script.specs.Arguments.{IsReplicaNumber, argument_words, left_of}
use Rattle.ficus_script.specs.Line.{spaced}
use Rattle.ficus_script.specs.Command.{Spelling, command_text, spelling_of, spelling_text}
use Rattle.ficus_script.proofs.CommandLaws.{command_text_injective}
use Rattle.ficus_script.proofs.Cuts.{join_first}
use Rattle.ficus_script.proofs.Numbers.{first_digit_of_replica}
use Rattle.ficus_member_script.specs.declared.member_line.MemberLine.{MemberLine}
use Rattle.ficus_member_script.specs.declared.member_line.MemberLine.TheVariants.{Does, Take}
use Rattle.ficus_member_script.specs.MemberLine.{AsksOneMember, IsMemberLine, IsOwnCommand, SpellsMemberLine, SpellsNone}
use Rattle.ficus_member_script.specs.Reading.{Begins, BeginsElsewhere}

-- the text begins with a digit, which is 57 at most; or with `as`; or with `r`
abbrev BeginsOwn : List ℕ → Type 0
BeginsOwn text =
    (get_or text 0 0 ≤ 57) ⊎ ((get_or text 0 0 ≡ 97) × (get_or text 1 0 ≡ 115)) ⊎ (get_or text 0 0 ≡ 114)

-- the number of a replica leads each change and each look
by_of_change : (by : ℕ) (change : Change) → (spelling_of (command.Change by change)).by ≡ Some by
by_of_change by (MkDir path) = refl
by_of_change by other = refl

by_of_look : (by : ℕ) (look : Look) → (spelling_of (command.Look by look)).by ≡ Some by
by_of_look by Tree = refl
by_of_look by other = refl

-- such a text begins with a digit
led : (spelling : Spelling) (by : ℕ) → spelling.by ≡ Some by → IfSome spelling.by IsReplicaNumber →
    get_or (spelling_text spelling) 0 0 ≤ 57
led spelling by same number =
    let is : IsReplicaNumber by = rw same at number in
    let first = first_digit_of_replica by is in
    let words = spelling.verb ∷ argument_words spelling.behind in
    rw (same, join_first (decimal by) words) (
    let front = get_or_append_left (decimal by) (spaced (left_of words)) 0 0 (decimal_nonempty by (omega (arith, is.at_most))) in
    omega (arith, first.1, front))

begins_own : (it : Command) → IsOwnCommand it → BeginsOwn (command_text it)
begins_own (command.Change by change) own =
    inl (led (spelling_of (command.Change by change)) by (by_of_change by change) own.command.number)
begins_own (command.Look by look) own =
    inl (led (spelling_of (command.Look by look)) by (by_of_look by look) own.command.number)
begins_own (command.Collect by) own = inl (led (spelling_of (command.Collect by)) by refl own.command.number)
begins_own (command.Ask by to) own = inr (inl (refl, refl))
begins_own (command.Restart by) own = inr (inr refl)
begins_own (command.Why by) own = absurd own.step
begins_own (command.Sweep order) own = absurd own.step
begins_own it own = absurd own.alone

-- bytes that are the same have the same byte there
same_byte : (place : ℕ) (text other : List ℕ) → text ≡ other → get_or text place 0 ≡ get_or other place 0
same_byte place text other same = ap (λ (bytes : List ℕ). get_or bytes place 0) same

-- where a line begins elsewhere: with `@`, `g`, `p`, `al` or `st`
elsewhere_bytes : (line : List ℕ) → BeginsElsewhere line →
    (get_or line 0 0 ≡ 64) ⊎ (get_or line 0 0 ≡ 103) ⊎ (get_or line 0 0 ≡ 112)
    ⊎ ((get_or line 0 0 ≡ 97) × (get_or line 1 0 ≡ 108)) ⊎ (get_or line 0 0 ≡ 115)
elsewhere_bytes line (inl is) = inl (same_byte 0 line _ is.1)
elsewhere_bytes line (inr (inl is)) = inr (inl (same_byte 0 line _ is.1))
elsewhere_bytes line (inr (inr (inl is))) = inr (inr (inl (same_byte 0 line _ is.1)))
elsewhere_bytes line (inr (inr (inr (inl is)))) =
    inr (inr (inr (inl (same_byte 0 line _ is.1, same_byte 1 line _ is.1))))
elsewhere_bytes line (inr (inr (inr (inr is)))) = inr (inr (inr (inr (same_byte 0 line _ is.1))))

-- a command that asks one member doesn't begin so, and a line that takes a message neither
own_not_elsewhere : (line : List ℕ) → BeginsOwn line → BeginsElsewhere line → ⊥
own_not_elsewhere line own is = omega (arith, own, elsewhere_bytes line is)

take_not_elsewhere : (line : List ℕ) → Begins (codes "take ") line → BeginsElsewhere line → ⊥
take_not_elsewhere line take is = omega (arith, same_byte 0 line _ take.1, elsewhere_bytes line is)

own_not_take : (line : List ℕ) → BeginsOwn line → Begins (codes "take ") line → ⊥
own_not_take line own take = omega (arith, own, same_byte 0 line _ take.1)

-- a line spells nothing, where it begins as no line of such a script does
pub elsewhere_spells_none : (line : List ℕ) → BeginsElsewhere line → SpellsNone line
elsewhere_spells_none line is (Does it) spells =
    own_not_elsewhere line (rw spells.spelled (begins_own it spells.own)) is
elsewhere_spells_none line is (Take name) spells = take_not_elsewhere line (name, spells.spelled) is

-- `take` without a name spells nothing
pub nameless_spells_none : (name : List ℕ) → length name ≡ 0 → SpellsNone (codes "take " ++ name)
nameless_spells_none name none (Does it) spells =
    own_not_take (command_text it) (begins_own it spells.own) (name, sym spells.spelled)
nameless_spells_none name none (Take other) spells =
    let some : 1 ≤ length other = spells.own in
    let same : name ≡ other = ap (drop 5) spells.spelled in
    omega (arith, some, none, ap (λ (bytes : List ℕ). length bytes) same)

-- `take` with a name spells something
pub take_spells : (name : List ℕ) → 1 ≤ length name → IsMemberLine (codes "take " ++ name)
take_spells name some = λ none. none (Take name) (record { own = some; spelled = refl })

-- a command that the line spells asks one member, where the line doesn't begin elsewhere
pub asks_one : (it : Command) → (BeginsElsewhere (command_text it) → ⊥) → AsksOneMember it
asks_one (command.Give mail) none = none (inr (inl (_, refl)))
asks_one (command.Pull by to) none = none (inr (inr (inl (_, refl))))
asks_one (command.Alike by other) none = none (inr (inr (inr (inl (_, refl)))))
asks_one (command.Stop by calls pick) none = none (inr (inr (inr (inr (_, refl)))))
asks_one it none = tt

-- no bytes spell two lines
pub one_line : (one other : MemberLine) (line : List ℕ) → SpellsMemberLine one line → SpellsMemberLine other line →
    one ≡ other
one_line (Does it) (Does other) line is also =
    ap (λ (it : Command). Does it)
    (command_text_injective it other is.own.command also.own.command (sym is.spelled ∙ also.spelled))
one_line (Does it) (Take name) line is also =
    absurd (own_not_take line (rw is.spelled (begins_own it is.own)) (name, also.spelled))
one_line (Take name) (Does it) line is also =
    absurd (own_not_take line (rw also.spelled (begins_own it also.own)) (name, is.spelled))
one_line (Take name) (Take other) line is also =
    ap (λ (bytes : List ℕ). Take (drop 5 bytes)) (sym is.spelled ∙ also.spelled)
