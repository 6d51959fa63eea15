-- No two arguments are spelled by the same words.
use Rattle.std.proofs.Common.{◌≡◌, ◌⊎◌, ℕ, ◌<◌, ◌≤◌, ◌^◌, List, [], ◌∷◌, ◌++◌, get_or, true, Option, None, Some, refl, inl, inr, sym, ◌∙◌, ap, subst, arith, if◌then◌else◌, ◌==◌}
use Rattle.std.specs.Fmt.{decimal}
use Rattle.std.specs.List.{join_with_byte}
use Rattle.std.proofs.lemmas.Bool.{ne_eqb}
use Rattle.std.proofs.lemmas.List.{append-nil}
use Rattle.ficus_ids.specs.Kind.{kind_word, sort_of}
use Rattle.ficus_ids.specs.declared.kind.Kind.{Kind}
use Rattle.ficus_ids.specs.declared.kind.Kind.TheVariants.{Dir, Plain, Lines, Max, Keep, Symlink}
use Rattle.ficus_ids.specs.declared.kind.Sort.TheVariants.{Versioned}
use Rattle.ficus_path.proofs.CutLaws.{IsFreeOf}
use Rattle.ficus_path.proofs.PathLaws.{path_text_injective, path_text_visible, text_from}
use Rattle.ficus_path.specs.declared.path.Base.{Base}
use Rattle.ficus_path.specs.declared.path.Base.TheVariants.{Root, Orphan}
use Rattle.ficus_path.specs.declared.path.Part.{Part}
use Rattle.ficus_path.specs.declared.path.Path.{Path}
use Rattle.ficus_path.specs.Path.{IsPath}
use Rattle.ficus_path.specs.Spelling.{path_text}
use Rattle.ficus_path.specs.Text.{SpellsText, quoted_text}
use Rattle.ficus_script.specs.Arguments.{Arguments}
use Rattle.ficus_script.specs.Order.{order_word}
use Rattle.ficus_script.specs.declared.order.Order.{Order}
use Rattle.ficus_script.specs.declared.order.Order.TheVariants.{Star, Ring}
use Rattle.ficus_script.specs.Arguments.{Nothing, OnePath, PathAndKind, PathAndText, TwoPaths, OneNumber, OneOrder, TwoReplicas, Arming}
use Rattle.ficus_script.specs.Arguments.{AreArguments, IsReplicaNumber, Begins, IsReadingBehind, IsReadingWords, BeginsPath, BeginsText, argument_words, left_of}
use Rattle.ficus_script.specs.Line.{spaced}
use Rattle.ficus_script.proofs.Cuts.{join_first, one_first_word}
use Rattle.ficus_script.proofs.Letters.{are_letters, letters_free}
use Rattle.ficus_script.proofs.Numbers.{IsFreeOf-number, IsFreeOf-replica, same_number, same_replica, first_digit}

-- The shapes have numbers, and the first word and what is left behind it tell the shape. The two with a number behind
-- that of a replica share theirs: they differ in a space that stands further behind. So do a number and the order of a
-- sweep: they differ in the first byte.
abbrev shape_of : Arguments → ℕ
shape_of Nothing = 0
shape_of (OnePath path) = 1
shape_of (TwoReplicas first second) = 2
shape_of (Arming by calls pick) = 2
shape_of (PathAndText path text) = 3
shape_of (PathAndKind path kind) = 4
shape_of (TwoPaths one two) = 5
shape_of (OneNumber number) = 6
shape_of (OneOrder order) = 6

abbrev last_shape_at : ℕ → ℕ
last_shape_at byte = if byte == 34 then 3 else if byte == 47 then 5 else if byte == 126 then 5 else 4

abbrev behind_path : Option (List ℕ) → ℕ
behind_path None = 1
behind_path (Some last) = last_shape_at (get_or last 0 0)

abbrev behind_number : Option (List ℕ) → ℕ
behind_number None = 6
behind_number (Some last) = 2

abbrev first_shape_at : ℕ → Option (List ℕ) → ℕ
first_shape_at byte rest =
    if byte == 47 then behind_path rest else if byte == 126 then behind_path rest else behind_number rest

abbrev shape_at : List ℕ → Option (List ℕ) → ℕ
shape_at first rest = first_shape_at (get_or first 0 0) rest

-- a path begins with a slash at the root, and with a tilde at an orphan
text_begins : (base : Base) (parts : List Part) → BeginsPath (text_from base parts)
text_begins Root [] = inl refl
text_begins Root (part ∷ parts) = inl refl
text_begins (Orphan id) parts = inr refl

path_begins : (path : Path) → BeginsPath (path_text path)
path_begins path = text_begins path.base path.parts

-- and no number does
no_path_begins : (first : List ℕ) (number : ℕ) → number < 2 ^ 32 → first ≡ decimal number → BeginsPath first → ⊥
no_path_begins first number fits same (inl slash) =
    omega (arith, slash, ap (λ (word : List ℕ). get_or word 0 0) same, first_digit number fits)
no_path_begins first number fits same (inr tilde) =
    omega (arith, tilde, ap (λ (word : List ℕ). get_or word 0 0) same, first_digit number fits)

no_replica_begins : (first : List ℕ) (replica : ℕ) → IsReplicaNumber replica → first ≡ decimal replica →
    BeginsPath first → ⊥
no_replica_begins first replica number same =
    no_path_begins first replica (omega (arith, number.at_most)) same

-- the order of a sweep begins with a letter
order_letter : (order : Order) → (114 ≤ get_or (order_word order) 0 0) × (get_or (order_word order) 0 0 ≤ 115)
order_letter Star = (omega arith, omega arith)
order_letter Ring = (omega arith, omega arith)

no_order_begins : (first : List ℕ) (order : Order) → first ≡ order_word order → BeginsPath first → ⊥
no_order_begins first order same (inl slash) =
    omega (arith, slash, ap (λ (word : List ℕ). get_or word 0 0) same, order_letter order)
no_order_begins first order same (inr tilde) =
    omega (arith, tilde, ap (λ (word : List ℕ). get_or word 0 0) same, order_letter order)

path_shape : (first : List ℕ) (rest : Option (List ℕ)) → BeginsPath first → shape_at first rest ≡ behind_path rest
path_shape first rest (inl slash) = ap (λ (byte : ℕ). first_shape_at byte rest) slash
path_shape first rest (inr tilde) = ap (λ (byte : ℕ). first_shape_at byte rest) tilde

path_words_shape : (path : Path) (first : List ℕ) (rest : Option (List ℕ)) → first ≡ path_text path →
    shape_at first rest ≡ behind_path rest
path_words_shape path first rest same =
    path_shape first rest (subst BeginsPath (sym same) (path_begins path))

number_shape : (first : List ℕ) (rest : Option (List ℕ)) → (BeginsPath first → ⊥) → shape_at first rest ≡ behind_number rest
number_shape first rest other =
    rw (
      ne_eqb (get_or first 0 0) 47 (λ slash. other (inl slash)),
      ne_eqb (get_or first 0 0) 126 (λ tilde. other (inr tilde)),
    ) refl

-- a text begins with a quotation mark, a second path as the first one, and the word of a kind with neither
text_shape : (last : List ℕ) → BeginsText last → behind_path (Some last) ≡ 3
text_shape last begins = ap last_shape_at begins

spelled_text_shape : (last : List ℕ) → SpellsText last → behind_path (Some last) ≡ 3
spelled_text_shape last spelled = text_shape last (ap (λ (word : List ℕ). get_or word 0 0) spelled.1)

second_path_shape : (last : List ℕ) → BeginsPath last → behind_path (Some last) ≡ 5
second_path_shape last (inl slash) = ap last_shape_at slash
second_path_shape last (inr tilde) = ap last_shape_at tilde

kind_shape : (last : List ℕ) → (BeginsText last → ⊥) → (BeginsPath last → ⊥) → behind_path (Some last) ≡ 4
kind_shape last no_text no_path =
    rw (
      ne_eqb (get_or last 0 0) 34 no_text,
      ne_eqb (get_or last 0 0) 47 (λ slash. no_path (inl slash)),
      ne_eqb (get_or last 0 0) 126 (λ tilde. no_path (inr tilde)),
    ) refl

kind_word_shape : (kind : Kind) → behind_path (Some (kind_word kind)) ≡ 4
kind_word_shape Keep = refl
kind_word_shape kind = refl

shape_is : (arguments : Arguments) (first : List ℕ) (rest : Option (List ℕ)) → AreArguments arguments →
    Begins first rest (argument_words arguments) → shape_at first rest ≡ shape_of arguments
shape_is Nothing first rest are words = absurd words
shape_is (OnePath path) first rest are words = path_words_shape path first rest words.0 ∙ ap behind_path words.1
shape_is (PathAndText path text) first rest are words =
    path_words_shape path first rest words.0 ∙ ap behind_path words.1 ∙ spelled_text_shape text are.1
shape_is (PathAndKind path kind) first rest are words =
    path_words_shape path first rest words.0 ∙ ap behind_path words.1 ∙ kind_word_shape kind
shape_is (TwoPaths one other) first rest are words =
    path_words_shape one first rest words.0 ∙ ap behind_path words.1
    ∙ second_path_shape (path_text other) (path_begins other)
shape_is (OneNumber number) first rest are words =
    number_shape first rest (no_path_begins first number are words.0) ∙ ap behind_number words.1
shape_is (OneOrder order) first rest are words =
    number_shape first rest (no_order_begins first order words.0) ∙ ap behind_number words.1
shape_is (TwoReplicas one other) first rest are words =
    number_shape first rest (no_replica_begins first one are.0 words.0) ∙ ap behind_number words.1
shape_is (Arming by calls pick) first rest are words =
    number_shape first rest (no_replica_begins first by are.0 words.0) ∙ ap behind_number words.1

-- the word of a kind tells the kind, by its first letter
abbrev kind_at : List ℕ → Kind
kind_at word =
    if get_or word 0 0 == 100 then Dir else if get_or word 0 0 == 112 then Plain else
    if get_or word 0 0 == 108 then Lines else if get_or word 0 0 == 109 then Max else
    if get_or word 0 0 == 115 then Symlink else Keep

kind_found : (kind : Kind) → kind_at (kind_word kind) ≡ kind
kind_found Keep = refl
kind_found kind = refl

kind_word_injective : (kind other : Kind) → kind_word kind ≡ kind_word other → kind ≡ other
kind_word_injective kind other same = sym (kind_found kind) ∙ ap kind_at same ∙ kind_found other

-- the first letter of its word tells the order
abbrev order_at : List ℕ → Order
order_at word = if get_or word 0 0 == 115 then Star else Ring

order_found : (order : Order) → order_at (order_word order) ≡ order
order_found Star = refl
order_found Ring = refl

order_word_injective : (order other : Order) → order_word order ≡ order_word other → order ≡ other
order_word_injective order other same = sym (order_found order) ∙ ap order_at same ∙ order_found other

-- the order of a sweep is no number
no_number : (word : List ℕ) (order : Order) (number : ℕ) → number < 2 ^ 32 → word ≡ order_word order →
    word ≡ decimal number → ⊥
no_number word order number fits is also =
    omega (
      arith,
      ap (λ (word : List ℕ). get_or word 0 0) (sym is ∙ also),
      order_letter order,
      first_digit number fits,
    )

-- the number of a replica is no number with a word behind it
not_alone : (replica number : ℕ) (word : List ℕ) → IsReplicaNumber replica → number < 2 ^ 32 →
    decimal replica ≡ decimal number ++ spaced (Some word) → ⊥
not_alone replica number word is fits same =
    let cut = one_first_word (decimal replica) (decimal number) None (Some word) (IsFreeOf-replica replica is)
    (IsFreeOf-number number fits) (append-nil (decimal replica) ∙ same) in
    let nothing : None ≡ Some word = cut.1 in
    cc

-- the words of one shape spell one list of arguments
one_of_words : (arguments others : Arguments) (first : List ℕ) (rest : Option (List ℕ)) → AreArguments arguments →
    AreArguments others → Begins first rest (argument_words arguments) → Begins first rest (argument_words others) →
    arguments ≡ others
one_of_words Nothing Nothing first rest are also words same = refl
one_of_words (OnePath path) (OnePath other) first rest are also words same =
    ap (λ (path : Path). OnePath path) (path_text_injective path other are also (sym words.0 ∙ same.0))
one_of_words (PathAndText path text) (PathAndText other another) first rest are also words same =
    let spelled : Some text ≡ Some another = sym words.1 ∙ same.1 in
    ap (λ (path : Path). PathAndText path text) (path_text_injective path other are.0 also.0 (sym words.0 ∙ same.0))
    ∙ ap (λ (text : List ℕ). PathAndText other text) (cc)
one_of_words (PathAndKind path kind) (PathAndKind other another) first rest are also words same =
    let spelled : Some (kind_word kind) ≡ Some (kind_word another) = sym words.1 ∙ same.1 in
    ap (λ (path : Path). PathAndKind path kind) (path_text_injective path other are.0 also.0 (sym words.0 ∙ same.0))
    ∙ ap (λ (kind : Kind). PathAndKind other kind) (kind_word_injective kind another (cc))
one_of_words (TwoPaths one two) (TwoPaths other another) first rest are also words same =
    let seconds : Some (path_text two) ≡ Some (path_text another) = sym words.1 ∙ same.1 in
    ap (λ (path : Path). TwoPaths path two) (path_text_injective one other are.0 also.0 (sym words.0 ∙ same.0))
    ∙ ap (λ (path : Path). TwoPaths other path) (path_text_injective two another are.1 also.1 (cc))
one_of_words (OneNumber number) (OneNumber other) first rest are also words same =
    ap (λ (n : ℕ). OneNumber n) (same_number number other are also (sym words.0 ∙ same.0))
one_of_words (OneOrder order) (OneOrder other) first rest are also words same =
    ap (λ (o : Order). OneOrder o) (order_word_injective order other (sym words.0 ∙ same.0))
one_of_words (OneNumber number) (OneOrder order) first rest are also words same =
    absurd (no_number first order number are same.0 words.0)
one_of_words (OneOrder order) (OneNumber number) first rest are also words same =
    absurd (no_number first order number also words.0 same.0)
one_of_words (TwoReplicas one two) (TwoReplicas other another) first rest are also words same =
    let seconds : Some (decimal two) ≡ Some (decimal another) = sym words.1 ∙ same.1 in
    ap (λ (n : ℕ). TwoReplicas n two) (same_replica one other are.0 also.0 (sym words.0 ∙ same.0))
    ∙ ap (λ (n : ℕ). TwoReplicas other n) (same_replica two another are.1 also.1 (cc))
one_of_words (Arming one calls pick) (Arming other others choice) first rest are also words same =
    let spelled : Some (decimal calls ++ 32 ∷ decimal pick) ≡ Some (decimal others ++ 32 ∷ decimal choice) =
    sym words.1 ∙ same.1 in
    let cut = one_first_word (decimal calls) (decimal others) (Some (decimal pick)) (Some (decimal choice))
    (IsFreeOf-number calls are.1) (IsFreeOf-number others also.1) (cc) in
    let picks : Some (decimal pick) ≡ Some (decimal choice) = cut.1 in
    ap (λ (n : ℕ). Arming n calls pick) (same_replica one other are.0 also.0 (sym words.0 ∙ same.0))
    ∙ ap (λ (n : ℕ). Arming other n pick) (same_number calls others are.1 also.1 cut.0)
    ∙ ap (λ (n : ℕ). Arming other others n)
    (same_number pick choice (omega (arith, are.2)) (omega (arith, also.2)) (cc))
one_of_words (TwoReplicas one two) (Arming other calls pick) first rest are also words same =
    let spelled : Some (decimal two) ≡ Some (decimal calls ++ spaced (Some (decimal pick))) = sym words.1 ∙ same.1 in
    absurd (not_alone two calls (decimal pick) are.1 also.1 (cc))
one_of_words (Arming one calls pick) (TwoReplicas other two) first rest are also words same =
    let spelled : Some (decimal two) ≡ Some (decimal calls ++ spaced (Some (decimal pick))) = sym same.1 ∙ words.1 in
    absurd (not_alone two calls (decimal pick) also.1 are.1 (cc))
one_of_words arguments others first rest are also words same =
    let shapes : shape_of arguments ≡ shape_of others = sym (shape_is arguments first rest are words) ∙ shape_is others first rest also same in
    cc

-- no space stands in the spelling of a path
IsFreeOf-path : (path : Path) → IsPath path → IsFreeOf 32 (path_text path)
IsFreeOf-path path is_path =
    let visible = path_text_visible path is_path in
    λ k d within same. omega (arith, visible k d within, same)

order_letters : (order : Order) → are_letters (order_word order) ≡ true
order_letters Star = refl
order_letters Ring = refl

-- no space stands in the first word
first_free : (arguments : Arguments) (first : List ℕ) (rest : Option (List ℕ)) → AreArguments arguments →
    Begins first rest (argument_words arguments) → IsFreeOf 32 first
first_free Nothing first rest are words = absurd words
first_free (OnePath path) first rest are words = rw words.0 (IsFreeOf-path path are)
first_free (PathAndText path text) first rest are words = rw words.0 (IsFreeOf-path path are.0)
first_free (PathAndKind path kind) first rest are words = rw words.0 (IsFreeOf-path path are.0)
first_free (TwoPaths one two) first rest are words = rw words.0 (IsFreeOf-path one are.0)
first_free (OneNumber number) first rest are words = rw words.0 (IsFreeOf-number number are)
first_free (OneOrder order) first rest are words = rw words.0 (letters_free (order_word order) (order_letters order))
first_free (TwoReplicas one two) first rest are words = rw words.0 (IsFreeOf-replica one are.0)
first_free (Arming by calls pick) first rest are words = rw words.0 (IsFreeOf-replica by are.0)

-- words that are joined again are the first one and what is left
joined : (first : List ℕ) (rest : Option (List ℕ)) (words : List (List ℕ)) → Begins first rest words →
    left_of words ≡ Some (first ++ spaced rest)
joined first rest [] begins = absurd begins
joined first rest (word ∷ words) begins =
    ap (λ (text : List ℕ). Some text) (join_first word words) ∙ rw (begins.0, begins.1) refl

-- what is left where something is left, cut at its first space
cut_again : (words : List (List ℕ)) (first : List ℕ) (rest : Option (List ℕ)) →
    ((front : List ℕ) (left : Option (List ℕ)) → Begins front left words → IsFreeOf 32 front) → IsFreeOf 32 first →
    Some (first ++ spaced rest) ≡ left_of words → Begins first rest words
cut_again [] first rest fronts free same = cc
cut_again (word ∷ words) first rest fronts free same =
    let text : first ++ spaced rest ≡ join_with_byte 32 (word ∷ words) = cc in
    one_first_word first word rest (left_of words) free (fronts word (left_of words) (refl, refl)) (text ∙ join_first word words)

begins_again : (arguments : Arguments) (first : List ℕ) (rest : Option (List ℕ)) → AreArguments arguments →
    IsFreeOf 32 first → Some (first ++ spaced rest) ≡ left_of (argument_words arguments) →
    Begins first rest (argument_words arguments)
begins_again arguments first rest are free same =
    cut_again (argument_words arguments) first rest (λ front left words. first_free arguments front left are words) free same

something : (words : List (List ℕ)) →
    (words ≡ []) ⊎ ((first : List ℕ) × (rest : Option (List ℕ)) × Begins first rest words)
something [] = inl refl
something (word ∷ words) = inr (word, left_of words, (refl, refl))

nothing_left : (arguments others : Arguments) → argument_words arguments ≡ [] →
    left_of (argument_words arguments) ≡ left_of (argument_words others) → arguments ≡ others
nothing_left Nothing Nothing none same = refl
nothing_left arguments others none same = cc

pub one_arguments : (arguments others : Arguments) → AreArguments arguments → AreArguments others →
    left_of (argument_words arguments) ≡ left_of (argument_words others) → arguments ≡ others
one_arguments arguments others are also same =
    elim (something (argument_words arguments)) [
      | inl none ↦ nothing_left arguments others none same
      | inr cut ↦
          let again = begins_again others cut.0 cut.1 also (first_free arguments cut.0 cut.1 are cut.2)
          (sym (joined cut.0 cut.1 (argument_words arguments) cut.2) ∙ same) in
          one_of_words arguments others cut.0 cut.1 are also cut.2 again
    ]

-- what is read of the first word and the rest is read of them joined
pub reading_words : (words first : List ℕ) (rest : Option (List ℕ)) (result : Option Arguments) →
    words ≡ first ++ spaced rest → IsFreeOf 32 first → IsReadingWords first rest result →
    IsReadingBehind (Some words) result
reading_words words first rest (Some arguments) whole free read =
    (read.0, ap (λ (text : List ℕ). Some text) whole ∙ sym (joined first rest (argument_words arguments) read.1))
reading_words words first rest None whole free none = λ arguments are same.
    none arguments are (begins_again arguments first rest are free (ap (λ (text : List ℕ). Some text) (sym whole) ∙ same))

-- what begins as a path and is none begins no arguments
pub no_path : (first : List ℕ) (rest : Option (List ℕ)) → BeginsPath first →
    ((path : Path) → IsPath path → first ≡ path_text path → ⊥) → IsReadingWords first rest None
no_path first rest begins none = go
  where
    go : (arguments : Arguments) → AreArguments arguments → Begins first rest (argument_words arguments) → ⊥
    go Nothing are words = absurd words
    go (OnePath path) are words = none path are words.0
    go (PathAndText path text) are words = none path are.0 words.0
    go (PathAndKind path kind) are words = none path are.0 words.0
    go (TwoPaths one two) are words = none one are.0 words.0
    go (OneNumber number) are words = no_path_begins first number are words.0 begins
    go (OneOrder order) are words = no_order_begins first order words.0 begins
    go (TwoReplicas one two) are words = no_replica_begins first one are.0 words.0 begins
    go (Arming by calls pick) are words = no_replica_begins first by are.0 words.0 begins

-- a word that no path begins, and behind which stands neither the number of a replica, alone, nor a number and a pick,
-- begins no arguments
pub no_numbers : (first words second : List ℕ) (last : Option (List ℕ)) → (BeginsPath first → ⊥) →
    words ≡ second ++ spaced last → IsFreeOf 32 second →
    ((replica : ℕ) → IsReplicaNumber replica → second ≡ decimal replica → last ≡ None → ⊥) →
    ((calls pick : ℕ) → calls < 2 ^ 32 → pick < 4 → second ≡ decimal calls → last ≡ Some (decimal pick) → ⊥) →
    (arguments : Arguments) → AreArguments arguments → Begins first (Some words) (argument_words arguments) → ⊥
no_numbers first words second last no_path whole free no_replica no_pick = go
  where
    led : (path : Path) → first ≡ path_text path → ⊥
    led path same = no_path (subst BeginsPath (sym same) (path_begins path))

    go : (arguments : Arguments) → AreArguments arguments → Begins first (Some words) (argument_words arguments) → ⊥
    go Nothing are begins = absurd begins
    go (OnePath path) are begins = led path begins.0
    go (PathAndText path text) are begins = led path begins.0
    go (PathAndKind path kind) are begins = led path begins.0
    go (TwoPaths one two) are begins = led one begins.0
    go (OneNumber number) are begins = let something : Some words ≡ None = begins.1 in cc
    go (OneOrder order) are begins = let something : Some words ≡ None = begins.1 in cc
    go (TwoReplicas one two) are begins =
        let spelled : Some words ≡ Some (decimal two) = begins.1 in
        let cut = one_first_word second (decimal two) last None free (IsFreeOf-replica two are.1)
        (sym whole ∙ (cc) ∙ sym (append-nil (decimal two))) in
        no_replica two are.1 cut.0 cut.1
    go (Arming by calls pick) are begins =
        let spelled : Some words ≡ Some (decimal calls ++ spaced (Some (decimal pick))) = begins.1 in
        let cut = one_first_word second (decimal calls) last (Some (decimal pick)) free (IsFreeOf-number calls are.1)
        (sym whole ∙ (cc)) in
        no_pick calls pick are.1 are.2 cut.0 cut.1

-- what stands behind a path tells the shape
last_shape : (path : Path) (last : List ℕ) (arguments : Arguments) → AreArguments arguments →
    Begins (path_text path) (Some last) (argument_words arguments) → shape_of arguments ≡ behind_path (Some last)
last_shape path last arguments are words =
    sym (shape_is arguments (path_text path) (Some last) are words)
    ∙ path_words_shape path (path_text path) (Some last) refl

-- what begins as a text and is none ends no arguments
pub no_text : (path : Path) (last : List ℕ) → BeginsText last → ((text : List ℕ) → last ≡ quoted_text text → ⊥) →
    IsReadingWords (path_text path) (Some last) None
no_text path last begins none = go
  where
    go : (arguments : Arguments) → AreArguments arguments →
        Begins (path_text path) (Some last) (argument_words arguments) → ⊥
    go (PathAndText other text) are words =
        let spelled : Some last ≡ Some text = words.1 in
        let same : last ≡ text = cc in
        none are.1.0 (same ∙ are.1.1)
    go arguments are words = omega (arith, last_shape path last arguments are words, text_shape last begins)

-- what begins as a path and is none ends no arguments
pub no_second_path : (path : Path) (last : List ℕ) → BeginsPath last →
    ((second : Path) → IsPath second → last ≡ path_text second → ⊥) →
    IsReadingWords (path_text path) (Some last) None
no_second_path path last begins none = go
  where
    go : (arguments : Arguments) → AreArguments arguments →
        Begins (path_text path) (Some last) (argument_words arguments) → ⊥
    go (TwoPaths one two) are words =
        none two are.1 (let spelled : Some last ≡ Some (path_text two) = words.1 in cc)
    go arguments are words = omega (arith, last_shape path last arguments are words, second_path_shape last begins)

-- what is no word of a kind, and begins neither as a text nor as a path, ends no arguments
pub no_kind : (path : Path) (last : List ℕ) → (BeginsText last → ⊥) → (BeginsPath last → ⊥) →
    ((kind : Kind) → sort_of kind ≡ Versioned → last ≡ kind_word kind → ⊥) → (arguments : Arguments) → AreArguments arguments →
    Begins (path_text path) (Some last) (argument_words arguments) → ⊥
no_kind path last no_text no_path none (PathAndKind another kind) are words =
    none kind are.1 (let spelled : Some last ≡ Some (kind_word kind) = words.1 in cc)
no_kind path last no_text no_path none arguments are words =
    omega (arith, last_shape path last arguments are words, kind_shape last no_text no_path)
