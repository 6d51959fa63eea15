-- What became of all that was asked of the outside, one thing after the other.
use Rattle.std.proofs.Common.{◌≡◌, ◌+◌, Bool, List, [], ◌∷◌, ◌++◌, cond, refl, sym, ap, ◌∙◌, arith}
use Rattle.std.specs.Prelude.{count_by, sum_by}
use Rattle.std.proofs.lemmas.List.Sums.{sum_by-append, sum_by-cons}
use Rattle.ficus_runs.specs.Outcome.{Outcome, AllDone, is_link_failure, is_store_failure}
use Rattle.ficus_runs.specs.Run.{EachDone}
use Rattle.ficus_runs.specs.Outcomes.{all_outcomes, NothingFails}

-- how often something became of one and the other
pub count_append : (test : Outcome → Bool) (one other : List Outcome)
    → count_by test (one ++ other) ≡ count_by test one + count_by test other
count_append test one other = sum_by-append (λ outcome. cond (test outcome) 1 0) one other

-- and in all commands of a run
pub count_all : (test : Outcome → Bool) (outcomes : List (List Outcome))
    → count_by test (all_outcomes outcomes) ≡ sum_by (count_by test) outcomes
count_all test [] = refl
count_all test (first ∷ rest) =
    count_append test first (all_outcomes rest)
    ∙ ap (λ n. count_by test first + n) (count_all test rest)
    ∙ sym (sum_by-cons (count_by test) first rest)

-- all was done in both exactly where it was in one and the other
pub done_append : (one other : List Outcome) → AllDone one → AllDone other → AllDone (one ++ other)
done_append [] other done done_too = done_too
done_append (outcome ∷ one) other done done_too = (done.0, done_append one other done.1 done_too)

pub done_both : (one other : List Outcome) → AllDone (one ++ other) → AllDone one × AllDone other
done_both [] other done = (tt, done)
done_both (outcome ∷ one) other done =
    let rest = done_both one other done.1 in
    ((done.0, rest.0), rest.1)

pub all_done : (outcomes : List (List Outcome)) → EachDone outcomes → AllDone (all_outcomes outcomes)
all_done [] each = tt
all_done (first ∷ rest) each = done_append first (all_outcomes rest) each.0 (all_done rest each.1)

-- where nothing fails in both, nothing does in one or the other
pub nothing_fails_both : (one other : List Outcome) → NothingFails (one ++ other)
    → NothingFails one × NothingFails other
nothing_fails_both one other none = (
  record {
    link = omega (arith, none.link, count_append is_link_failure one other);
    stores = λ r. omega (arith, none.stores r, count_append (is_store_failure r) one other);
  },
  record {
    link = omega (arith, none.link, count_append is_link_failure one other);
    stores = λ r. omega (arith, none.stores r, count_append (is_store_failure r) one other);
  },
)
