-- The call, by the words.
use Rattle.std.proofs.Common.{◌≡◌, ℕ, ◌≤◌, List, Option, Result, Ok, Err, inl, inr, refl, subst, arith}
use Rattle.std.specs.Prelude.{IsErrOf, IfErr}
use Rattle.ficus_opening.specs.declared.fault.WorldFault.{WorldFault}
use Rattle.ficus_top.specs.declared.fault.Fault.{Fault}
use Rattle.ficus_top.specs.declared.fault.Fault.TheVariants.{Words}
use Rattle.ficus_top.specs.declared.status.Status.{Status}
use Rattle.ficus_words.specs.Given.{IsNumberOrMost}
use Rattle.ficus_words.specs.Grammar.{Text}
use Rattle.ficus_words.specs.MemberMode.{AreMemberWords, AreNoMemberWords}
use Rattle.ficus_words.specs.declared.fault.WordsFault.{WordsFault}
use Rattle.ficus_words.specs.declared.fault.WordsFault.TheVariants.{Memory, Usage}
use Rattle.ficus_words.specs.declared.member_mode.MemberMode.{MemberMode}
use Rattle.ficus_words.specs.declared.member_mode.MemberMode.TheVariants.{Init, Run}
use Rattle.ficus_words.proofs.OneMember.{one_member_mode}
use Rattle.ficus_member.specs.Program.{Does, FitsMember, IsOfWords, RunsMember, as_ended, status_of}
use Rattle.ficus_member.specs.Running.{EndsEarly, RunsScript}
use Rattle.ficus_member.specs.Seen.{IsUnasked, Seen}

-- a number that is given, or the greatest one, is at most that
number_within : (least most : ℕ) (text : Option Text) (number : ℕ) → IsNumberOrMost least most text number
    → number ≤ most
number_within least most text number (inl none) = omega (arith, none.1)
number_within least most text number (inr is) = is.at_most

number_from : (least most : ℕ) (text : Option Text) (number : ℕ) → least ≤ most → IsNumberOrMost least most text number
    → least ≤ number
number_from least most text number some (inl none) = omega (arith, none.1, some)
number_from least most text number some (inr is) = is.at_least

-- the numbers of a mode are within their bounds
pub fits_member : {words : List Text} (mode : MemberMode) → AreMemberWords words mode → FitsMember mode
fits_member (Init size me tag root) are = (
  record {
    members = record { at_least = are.asks.sized.members.at_least; at_most = are.asks.sized.members.at_most };
    ids_at_least = number_from 1 100000 _ size.ids (omega arith) are.asks.sized.ids;
    ids_at_most = number_within 1 100000 _ size.ids are.asks.sized.ids;
    bytes = number_within 0 4194304 _ size.bytes are.asks.sized.bytes;
  },
  record { at_least = are.asks.numbered.at_least; at_most = are.asks.numbered.at_most },
)
fits_member (Run me root) are =
    record { at_least = are.asks.numbered.at_least; at_most = are.asks.numbered.at_most }

-- what was to be made never ends with a fault of the words
pub made_of_words : (made : Result (Unit {0}) WorldFault) (fault : WordsFault) → IsErrOf (as_ended made) (Words fault) → ⊥
made_of_words (Ok done) fault is = absurd (cc is)
made_of_words (Err why) fault is = absurd (cc is)

module _ {S K D N M : Type 0} {seen : Seen S K D N M} where
  -- nor does a script that is run
  pub run_of_words : {me : ℕ} (ended : Result (Unit {0}) Fault) → RunsScript me seen ended → (fault : WordsFault)
      → IsErrOf ended (Words fault) → ⊥
  run_of_words {me} ended runs fault is =
      subst (λ (r : Result (Unit {0}) Fault). IfErr r (EndsEarly me seen)) is runs.early

  -- the words were read, and all is as their mode does
  pub as_mode : {words : List Text} (mode : MemberMode) (ended : Result (Unit {0}) Fault) {status : Status}
      → AreMemberWords words mode → status ≡ status_of ended
      → ((fault : WordsFault) → IsErrOf ended (Words fault) → ⊥) → Does mode seen ended
      → RunsMember words seen status
  as_mode {words} mode ended are numbers never does = record {
    ended = ended;
    numbers = numbers;
    usage = λ is. absurd (never Usage is);
    usage_comes = λ none. absurd (none mode are);
    unasked = λ of_words. absurd (neither of_words);
    does = λ other also.
        inr (subst (λ (m : MemberMode). Does m seen ended) (one_member_mode words mode other are also) does);
  } where
    neither : IsOfWords ended → ⊥
    neither (inl is) = never Usage is
    neither (inr is) = never Memory is

  -- they weren't
  pub refused : (words : List Text) (fault : WordsFault) {status : Status}
      → status ≡ status_of (Err (Words fault)) → (fault ≡ Usage → AreNoMemberWords words) → IsUnasked seen
      → RunsMember words seen status
  refused words Usage numbers none unasked = record {
    ended = Err (Words Usage);
    numbers = numbers;
    usage = λ is. none refl;
    usage_comes = λ no_words. inl refl;
    unasked = λ of_words. unasked;
    does = λ mode are. absurd (none refl mode are);
  }
  refused words Memory numbers none unasked = record {
    ended = Err (Words Memory);
    numbers = numbers;
    usage = λ is. absurd (cc is);
    usage_comes = λ no_words. inr refl;
    unasked = λ of_words. unasked;
    does = λ mode are. inl refl;
  }
