-- The words ask for one mode.
use Rattle.std.proofs.Common.{◌≡◌, ◌∙◌, ◌<◌, ◌^◌, ℕ, List, Option, Some, None, inl, inr, sym, ap, subst, arith, codes}
use Rattle.std.specs.Fmt.{decimal}
use Rattle.std.proofs.lemmas.Fmt.{decimal_injective}
use Rattle.std.specs.Prelude.{Result, Ok, Err, IsErrOf}
use Rattle.ficus_words.specs.Grammar.{Text, Use, Gives}
use Rattle.ficus_words.specs.declared.fault.WordsFault.{WordsFault}
use Rattle.ficus_words.specs.declared.fault.WordsFault.TheVariants.{Usage, Memory}
use Rattle.ficus_words.specs.Given.{Texts, texts_of, IsNumber, IsNumberOrMost}
use Rattle.ficus_words.specs.Mode.{IsSize, AsksFor, AreWords, AreNoWords, IsReadingOf}
use Rattle.ficus_words.proofs.Spelling.{spelled_of}
use Rattle.ficus_words.specs.declared.mode.Mode.{Mode}
use Rattle.ficus_words.specs.declared.mode.Mode.TheVariants.{Init, Run, Check, Replay, Volumes, Gen}
use Rattle.ficus_words.specs.declared.mode.Size.{Size}

pub same_text : {text : Option Text} (one other : Text) → text ≡ Some one → text ≡ Some other → one ≡ other
same_text one other is also = let same : Some one ≡ Some other = sym is ∙ also in cc

pub same_number : {text : Option Text} {least most one other : ℕ} → most < 2 ^ 64 → IsNumber least most text one →
    IsNumber least most text other → one ≡ other
same_number {one} {other} fits is also =
    decimal_injective one other (omega (arith, is.at_most)) (omega (arith, also.at_most))
    (same_text (decimal one) (decimal other) is.spelled also.spelled)

same_or_most : (text : Option Text) (least most one other : ℕ) → most < 2 ^ 64 → IsNumberOrMost least most text one →
    IsNumberOrMost least most text other → one ≡ other
same_or_most text least most one other fits (inl is) (inl also) = is.1 ∙ sym also.1
same_or_most text least most one other fits (inl is) (inr also) =
    let clash : None ≡ Some (decimal other) = sym is.0 ∙ also.spelled in cc
same_or_most text least most one other fits (inr is) (inl also) =
    let clash : Some (decimal one) ≡ None = sym is.spelled ∙ also.0 in cc
same_or_most text least most one other fits (inr is) (inr also) = same_number fits is also

pub same_size : (texts : Texts) (one other : Size) → IsSize texts one → IsSize texts other → one ≡ other
same_size texts one other is also = λ i. record {
  members = same_number (omega arith) is.members also.members i;
  ids = same_or_most texts.ids 1 100000 one.ids other.ids (omega arith) is.ids also.ids i;
  bytes = same_or_most texts.bytes 0 4194304 one.bytes other.bytes (omega arith) is.bytes also.bytes i;
}

abbrev word_of : Mode → Text
word_of (Init size root) = codes "init"
word_of (Run root) = codes "run"
word_of (Check root) = codes "check"
word_of (Replay size) = codes "replay"
word_of (Volumes size count) = codes "volumes"
word_of (Gen members seed steps) = codes "gen"

asks_by_word : (texts : Texts) (mode : Mode) → AsksFor texts mode → texts.mode ≡ Some (word_of mode)
asks_by_word texts (Init size root) is = is.mode
asks_by_word texts (Run root) is = is.mode
asks_by_word texts (Check root) is = is.mode
asks_by_word texts (Replay size) is = is.mode
asks_by_word texts (Volumes size count) is = is.mode
asks_by_word texts (Gen members seed steps) is = is.mode

one_asked : (texts : Texts) (mode other : Mode) → AsksFor texts mode → AsksFor texts other → mode ≡ other
one_asked texts (Init size root) (Init same folder) is also = λ i. Init (same_size texts size same is.sized also.sized i)
    (same_text root folder is.folder.is also.folder.is i)
one_asked texts (Run root) (Run folder) is also = ap (λ (t : Text). Run t) (same_text root folder is.folder.is also.folder.is)
one_asked texts (Check root) (Check folder) is also =
    ap (λ (t : Text). Check t) (same_text root folder is.alone.folder.is also.alone.folder.is)
one_asked texts (Replay size) (Replay same) is also = ap (λ (s : Size). Replay s) (same_size texts size same is.sized also.sized)
one_asked texts (Volumes size count) (Volumes same number) is also = λ i. Volumes
    (same_size texts size same is.sized also.sized i)
    (same_number (omega arith) is.counted also.counted i)
one_asked texts (Gen members seed steps) (Gen count from over) is also = λ i. Gen
    (same_number (omega arith) is.count also.count i)
    (same_number (omega arith) is.from_seed also.from_seed i)
    (same_number (omega arith) is.over_steps also.over_steps i)
one_asked texts mode other is also =
    let clash : word_of mode ≡ word_of other =
    same_text (word_of mode) (word_of other) (asks_by_word texts mode is) (asks_by_word texts other also) in
    cc

-- words give one list of uses
pub one_uses : {words : List Text} {uses others : List Use} → Gives words uses → Gives words others → uses ≡ others
one_uses {words} {uses} {others} is also =
    let same : Some uses ≡ Some others = sym (spelled_of is.spelled) ∙ spelled_of also.spelled in cc

-- the same words are those of one mode
pub one_mode : (words : List Text) (mode other : Mode) → AreWords words mode → AreWords words other → mode ≡ other
one_mode words mode other is also =
    one_asked (texts_of also.uses) mode other
    (subst (λ (u : List Use). AsksFor (texts_of u) mode) (one_uses is.gives also.gives) is.asks) also.asks

-- words whose texts ask for no mode are those of none
pub no_words : (words : List Text) (texts : Texts) (read : Result Mode WordsFault) →
    (uses : List Use) × Gives words uses × (texts ≡ texts_of uses) → IsReadingOf texts read →
    IsErrOf read Usage → AreNoWords words
no_words words texts (Ok mode) given reads usage = cc
no_words words texts (Err Memory) given reads usage = cc
no_words words texts (Err Usage) given none usage = λ mode are.
    none mode (subst (λ t. AsksFor t mode) (ap texts_of (one_uses are.gives given.1) ∙ sym given.2) are.asks)
