use Rattle.std.proofs.Common.{◌∙◌, ◌≡◌, ap, ap₂, refl, subst, true, List, Result, codes, Ok, Err}
use Rattle.clap.specs.Words.{App, FailsBy, app_of, fault_of, is_simple, is_simple_and_free, matches_of, new_app, new_rule, with_rule}
use Rattle.clap.specs.Simple.{app_of_fields}
use Rattle.clap.proofs.OnLiterals.{clap_on_literals}
use Rattle.ficus_words.specs.Clap.{ficus_app, without_help}
use Rattle.std.specs.Prelude.{IfOk}
use Rattle.clap.specs.Words.{HasMatchesOf, Text, found_of, rows_of}
use Rattle.clap.specs.declared.parser.matches.ArgMatches.{ArgMatches}
use Rattle.clap.specs.declared.error.Error.{Error}
use Rattle.ficus_words.proofs.matches.matches_in.Goals as goal

app_is_simple : is_simple ficus_app ≡ true
unfolding clap_on_literals
app_is_simple = refl

app_is_free : is_simple_and_free ficus_app ≡ true
unfolding clap_on_literals
app_is_free = refl

-- what a simple command finds
found_by : (a : App) (words : List Text) (parsed : Result ArgMatches Error) → is_simple a ≡ true →
    IfOk parsed (HasMatchesOf a words) → IfOk parsed (λ found. rows_of (found_of found) ≡ matches_of a words)
found_by a words (Ok found) simple has = (has simple).0
found_by a words (Err e) simple has = tt

-- the clauses of a parse, of a command that is known
known_fails : (a : App) (words : List Text) (parsed : Result ArgMatches Error) → a ≡ ficus_app →
    (is_simple_and_free a ≡ true → FailsBy (fault_of a words) parsed) → FailsBy (fault_of ficus_app words) parsed
known_fails a words parsed is fails =
    subst (λ (b : App). FailsBy (fault_of b words) parsed) is (fails (ap is_simple_and_free is ∙ app_is_free))

known_rows : (a : App) (words : List Text) (parsed : Result ArgMatches Error) → a ≡ ficus_app →
    IfOk parsed (HasMatchesOf a words) → IfOk parsed (λ found. rows_of (found_of found) ≡ matches_of ficus_app words)
known_rows a words parsed is has =
    subst (λ (b : App). IfOk parsed (λ found. rows_of (found_of found) ≡ matches_of b words)) is
    (found_by a words parsed (ap is_simple is ∙ app_is_simple) has)

pub returns : goal.returns
returns c =
    let mode_is : app_of c.in_ok-arg.field-0 ≡ with_rule (without_help (new_app (codes "ficus"))) (new_rule (codes "mode")) =
    c.in_ok-arg.ensures.shape c.new-2.ensures.optional.1
    ∙ ap₂ with_rule (ap app_of_fields c.disable_help_flag.ensures ∙ ap without_help c.new.ensures.app) c.new-2.ensures.rule in
    let root_is = c.in_ok-places.ensures.shape c.new-3.ensures.optional.1 ∙ ap₂ with_rule mode_is c.new-3.ensures.rule in
    let members_is = c.in_ok-arg-2.ensures.shape c.option.ensures.local ∙ ap₂ with_rule root_is c.option.ensures.rule in
    let ids_is = c.in_ok-arg-3.ensures.shape c.option-2.ensures.local ∙ ap₂ with_rule members_is c.option-2.ensures.rule in
    let bytes_is = c.in_ok-arg-4.ensures.shape c.option-3.ensures.local ∙ ap₂ with_rule ids_is c.option-3.ensures.rule in
    let seed_is = c.in_ok-arg-5.ensures.shape c.option-4.ensures.local ∙ ap₂ with_rule bytes_is c.option-4.ensures.rule in
    let steps_is = c.in_ok-arg-6.ensures.shape c.option-5.ensures.local ∙ ap₂ with_rule seed_is c.option-5.ensures.rule in
    let volumes_is = c.in_ok-arg-7.ensures.shape c.option-6.ensures.local ∙ ap₂ with_rule steps_is c.option-6.ensures.rule in
    let replica_is = c.in_ok-arg-8.ensures.shape c.option-7.ensures.local ∙ ap₂ with_rule volumes_is c.option-7.ensures.rule in
    let app_is : app_of c.in_ok-command.command ≡ ficus_app =
    c.in_ok-command.ensures.shape c.option-8.ensures.local ∙ ap₂ with_rule replica_is c.option-8.ensures.rule in
    let parse = c.try_get_matches_from in
    record {
      fails = known_fails _ _ parse.result app_is parse.ensures.kinds;
      rows = known_rows _ _ parse.result app_is parse.ensures.matches;
    }
