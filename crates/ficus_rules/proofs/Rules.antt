-- A rule has one answer, and says the same over views that show the same: each way to put rules together keeps both.
use Rattle.std.proofs.Common.{◌≡◌, ◌↔◌, ◌⊎◌, Result, Ok, Err, sym, ap, subst, ◌∙◌, inl, inr}
use Rattle.ficus_ids.specs.declared.refusal.Refusal.{Refusal}
use Rattle.ficus_ids.specs.declared.refusal.Refusal.TheVariants.{Memory}
use Rattle.ficus_rules.specs.Rule.{Then, RefusedOr, Unless, Where, Gives, GivesWhere, Tells, RefusesNothing, UnlessMemoryWhere, UnlessMemory, Once, Along}

module _ {A B : Type 0} {first : Result A Refusal → Type 0} {rest : A → Result B Refusal → Type 0}
    (first_once : Once first) (rest_once : (a : A) → Once (rest a)) where
  goes_once : (a b : A) (one other : Result B Refusal) → first (Ok a) → first (Ok b) → rest a one → rest b other →
      one ≡ other
  goes_once a b one other first_a first_b rest_a rest_b =
      let e = first_once (Ok a) (Ok b) first_a first_b in
      let same : b ≡ a = cc in
      rest_once a one other rest_a (subst (λ x. rest x other) same rest_b)

  stops_or_goes : (a : A) (refusal : Refusal) → first (Err refusal) → first (Ok a) → ⊥
  stops_or_goes a refusal stops goes = let e = first_once (Err refusal) (Ok a) stops goes in cc

  pub then_once : Once (Then first rest)
  then_once (Ok b) (Ok c) (a, fa, ra) (d, fd, rd) = goes_once a d (Ok b) (Ok c) fa fd ra rd
  then_once (Ok b) (Err r) (a, fa, ra) (inl stops) = absurd (stops_or_goes a r stops fa)
  then_once (Ok b) (Err r) (a, fa, ra) (inr (d, fd, rd)) = goes_once a d (Ok b) (Err r) fa fd ra rd
  then_once (Err r) (Ok b) (inl stops) (a, fa, ra) = absurd (stops_or_goes a r stops fa)
  then_once (Err r) (Ok b) (inr (d, fd, rd)) (a, fa, ra) = goes_once d a (Err r) (Ok b) fd fa rd ra
  then_once (Err r) (Err s) (inl stops) (inl too) = ap Err (let e = first_once (Err r) (Err s) stops too in let same : r ≡ s = cc in same)
  then_once (Err r) (Err s) (inl stops) (inr (a, fa, ra)) = absurd (stops_or_goes a r stops fa)
  then_once (Err r) (Err s) (inr (a, fa, ra)) (inl stops) = absurd (stops_or_goes a s stops fa)
  then_once (Err r) (Err s) (inr (a, fa, ra)) (inr (d, fd, rd)) = goes_once a d (Err r) (Err s) fa fd ra rd

pub then_goes : {A B : Type 0} (first : Result A Refusal → Type 0) (rest : A → Result B Refusal → Type 0) (a : A)
    (answer : Result B Refusal) →
    first (Ok a) → rest a answer → Then first rest answer
then_goes first rest a (Ok b) fa ra = (a, fa, ra)
then_goes first rest a (Err refusal) fa ra = inr (a, fa, ra)

module _ {B : Type 0} {bad good : Type 0} (refusal : Refusal) {rest : Result B Refusal → Type 0}
    (not_both : bad → good → ⊥) (rest_once : Once rest) where
  pub refused_once : Once (RefusedOr bad good refusal rest)
  refused_once (Ok b) (Ok c) (is, rb) (is_too, rc) = rest_once (Ok b) (Ok c) rb rc
  refused_once (Ok b) (Err r) (is, rb) (inl (isnt, e)) = absurd (not_both isnt is)
  refused_once (Ok b) (Err r) (is, rb) (inr (is_too, rr)) = rest_once (Ok b) (Err r) rb rr
  refused_once (Err r) (Ok b) (inl (isnt, e)) (is, rb) = absurd (not_both isnt is)
  refused_once (Err r) (Ok b) (inr (is_too, rr)) (is, rb) = rest_once (Err r) (Ok b) rr rb
  refused_once (Err r) (Err s) (inl (isnt, e)) (inl (isnt_too, f)) = ap Err (e ∙ sym f)
  refused_once (Err r) (Err s) (inl (isnt, e)) (inr (is, rr)) = absurd (not_both isnt is)
  refused_once (Err r) (Err s) (inr (is, rr)) (inl (isnt, e)) = absurd (not_both isnt is)
  refused_once (Err r) (Err s) (inr (is, rr)) (inr (is_too, rs)) = rest_once (Err r) (Err s) rr rs

module _ {B : Type 0} (condition : Type 0) (refusal : Refusal) {rest : Result B Refusal → Type 0}
    (rest_once : Once rest) where
  pub unless_once : Once (Unless condition refusal rest)
  unless_once = refused_once refusal (λ is isnt. isnt is) rest_once

  pub where_once : Once (Where condition refusal rest)
  where_once = refused_once refusal (λ isnt is. isnt is) rest_once

pub gives_once : {B : Type 0} (b : B) → Once (Gives b)
gives_once b (Ok c) (Ok d) e f = ap Ok (e ∙ sym f)
gives_once b (Ok c) (Err r) e none = absurd none
gives_once b (Err r) other none f = absurd none

pub gives_where_once : {B : Type 0} (so : Type 0) (b : B) → Once (GivesWhere so b)
gives_where_once so b (Ok c) (Ok d) e f = ap Ok (e.1 ∙ sym f.1)
gives_where_once so b (Ok c) (Err r) e none = absurd none
gives_where_once so b (Err r) other none f = absurd none

-- where one thing is so
pub tells_once : {A B : Type 0} (told_as : A → B) {IsSo : A → Type 0} → ((a b : A) → IsSo a → IsSo b → a ≡ b) →
    Once (Tells told_as IsSo)
tells_once told_as one (Ok b) (Ok c) (a, so, e) (d, so_too, f) = ap Ok (e ∙ ap told_as (one a d so so_too) ∙ sym f)
tells_once told_as one (Ok b) (Err r) is none = absurd none
tells_once told_as one (Err r) other none is = absurd none

module _ {A B : Type 0} {first other : Result A Refusal → Type 0} {rest more : A → Result B Refusal → Type 0} where
  pub then_along : Along first other → ((a : A) → first (Ok a) → Along (rest a) (more a)) →
      Along (Then first rest) (Then other more)
  then_along there next (Ok b) (a, fa, ra) = (a, there (Ok a) fa, next a fa (Ok b) ra)
  then_along there next (Err r) (inl stops) = inl (there (Err r) stops)
  then_along there next (Err r) (inr (a, fa, ra)) = inr (a, there (Ok a) fa, next a fa (Err r) ra)

module _ {B : Type 0} {bad good bad_too good_too : Type 0} (refusal : Refusal) {rest more : Result B Refusal → Type 0} where
  pub refused_along : (bad → bad_too) → (good → good_too) → Along rest more →
      Along (RefusedOr bad good refusal rest) (RefusedOr bad_too good_too refusal more)
  refused_along refused goes next (Ok b) (is, rb) = (goes is, next (Ok b) rb)
  refused_along refused goes next (Err r) (inl (isnt, e)) = inl (refused isnt, e)
  refused_along refused goes next (Err r) (inr (is, rr)) = inr (goes is, next (Err r) rr)

module _ {B : Type 0} {condition same : Type 0} (refusal : Refusal) {rest more : Result B Refusal → Type 0} where
  pub unless_along : condition ↔ same → Along rest more →
      Along (Unless condition refusal rest) (Unless same refusal more)
  unless_along either next = refused_along refusal either.0 (λ isnt is. isnt (either.1 is)) next

  pub where_along : condition ↔ same → Along rest more →
      Along (Where condition refusal rest) (Where same refusal more)
  where_along either next = refused_along refusal (λ isnt is. isnt (either.1 is)) either.0 next

pub gives_along : {B : Type 0} (b : B) → Along (Gives b) (Gives b)
gives_along b answer is = is

pub gives_where_along : {B : Type 0} (so : Type 0) (b : B) → Along (GivesWhere so b) (GivesWhere so b)
gives_where_along so b answer is = is

pub tells_along : {A B : Type 0} (told_as : A → B) {IsSo IsSoToo : A → Type 0} → ((a : A) → IsSo a → IsSoToo a) →
    Along (Tells told_as IsSo) (Tells told_as IsSoToo)
tells_along told_as there (Ok b) (a, so, e) = (a, there a so, e)
tells_along told_as there (Err r) none = absurd none

-- Whether a rule refuses: a refusal is taken apart, step by step, from the outside.
-- a rule that gives something refuses nothing
pub given_none : {A : Type 0} {rule : Result A Refusal → Type 0} → Once rule → (a : A) → rule (Ok a) →
    RefusesNothing rule
given_none once a gives refusal refuses = let e = once (Ok a) (Err refusal) gives refuses in cc

-- where the first gives this, what is refused is refused behind it
pub behind : {A : Type 0} {first : Result A Refusal → Type 0} → Once first → (a : A) → first (Ok a) →
    {refusal : Refusal} {Rest : A → Type 0} → first (Err refusal) ⊎ ((b : A) × first (Ok b) × Rest b) → Rest a
behind once a goes {refusal} (inl stops) = absurd (given_none once a goes refusal stops)
behind once a goes {refusal} {Rest} (inr (b, goes_too, rest)) =
    let e = once (Ok a) (Ok b) goes goes_too in
    let same : b ≡ a = cc in
    subst Rest same rest

-- where a refusal doesn't apply, too
pub passed : {bad good same Rest : Type 0} → (bad → ⊥) → (bad × same) ⊎ (good × Rest) → Rest
passed isnt (inl (is, e)) = absurd (isnt is)
passed isnt (inr (is, rest)) = rest

-- Want of memory beside a rule.
module _ {A B : Type 0} {may may_too : Type 0} (rule : Result A Refusal → Type 0)
    (other : Result B Refusal → Type 0) where
  -- a refusal of the one rule is one of the other too, and so is want of memory
  pub refusal_along : (refusal : Refusal) → (may → may_too) → (rule (Err refusal) → other (Err refusal)) →
      UnlessMemoryWhere may rule (Err refusal) → UnlessMemoryWhere may_too other (Err refusal)
  refusal_along Memory also there is = also is
  refusal_along refusal also there is = there is

module _ {A : Type 0} {may may_too : Type 0} {rule other : Result A Refusal → Type 0} where
  pub memory_where_along : (may → may_too) → Along rule other →
      Along (UnlessMemoryWhere may rule) (UnlessMemoryWhere may_too other)
  memory_where_along also there (Ok a) is = there (Ok a) is
  memory_where_along also there (Err refusal) is = refusal_along rule other refusal also (there (Err refusal)) is

module _ {A : Type 0} {rule other : Result A Refusal → Type 0} where
  -- rules with the same answers, with want of memory
  pub memory_along : Along rule other → Along other rule → Along (UnlessMemory rule) (UnlessMemory other)
  memory_along there back =
      memory_where_along (λ none refusal refuses. none refusal (back (Err refusal) refuses)) there

-- an answer of the rule, whichever it is
module _ {A : Type 0} (may : Type 0) (rule : Result A Refusal → Type 0) (never : rule (Err Memory) → ⊥) where
  pub or_memory : (answer : Result A Refusal) → rule answer → UnlessMemoryWhere may rule answer
  or_memory (Ok a) is = is
  or_memory (Err Memory) is = absurd (never is)
  or_memory (Err refusal) is = is

-- a refusal of the one rule, where it is one of the other too
pub or_refused : {A B : Type 0} (may : Type 0) (rule : Result A Refusal → Type 0) (other : Result B Refusal → Type 0)
    (refusal : Refusal) → (rule (Err Memory) → ⊥) → (rule (Err refusal) → other (Err refusal)) → rule (Err refusal) →
    UnlessMemoryWhere may other (Err refusal)
or_refused may rule other refusal never there refused =
    refusal_along rule other refusal (λ (is : may). is) there (or_memory may rule never (Err refusal) refused)
