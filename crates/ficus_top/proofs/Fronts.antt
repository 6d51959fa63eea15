-- What a front of the answers' texts holds.
use Rattle.std.proofs.Common.{◌≡◌, ℕ, ◌-◌, ◌≤◌, List, [], ◌++◌, length, take, drop, refl, sym, ◌∙◌, ap, subst, arith, length-append, append_assoc}
use Rattle.std.specs.Prelude.{⊤}
use Rattle.std.proofs.lemmas.List.{take-append-le, take-append-drop, length-take-le}
use Rattle.std.proofs.lemmas.List.Concat.{flat_map-append}
use Rattle.ficus_model.specs.Lawful.{Volume}
use Rattle.ficus_script.specs.declared.command.Command.{Command}
use Rattle.ficus_script.specs.declared.answer.Answer.{Answer}
use Rattle.ficus_script.specs.Answer.{answer_text_of}
use Rattle.ficus_runs.specs.ModelWorld.{ModelWorld}
use Rattle.ficus_runs.specs.Outcome.{Outcome}
use Rattle.ficus_runs.specs.Run.{Run}
use Rattle.ficus_runs.specs.Run.Run.{End, Then}
use Rattle.ficus_loop.specs.Puts.{PutsFront}
use Rattle.ficus_loop.specs.Serving.{texts_of, IsCut, ServesFront, PutsAllButLast}
use Rattle.ficus_loop.specs.Serving.IsCut.{Uncut, CutIn}
use Rattle.ficus_loop.proofs.Serves.{texts_append}

pub front_stays : (old bytes new : List ℕ) → PutsFront old bytes new → length old ≤ length new
front_stays old bytes new puts = omega (arith, ap length puts.put, length-append old puts.front)

pub front_goes_on : (old bytes new : List ℕ) (puts : PutsFront old bytes new) → new ++ puts.rest ≡ old ++ bytes
front_goes_on old bytes new puts =
    ap (λ (l : List ℕ). l ++ puts.rest) puts.put ∙ append_assoc old puts.front puts.rest
    ∙ ap (λ (l : List ℕ). old ++ l) (sym puts.is)

-- each command has one answer
one_each : {volume : Volume} {W after : ModelWorld} {commands : List Command} {outcomes : List (List Outcome)}
    {answers : List Answer} → Run volume W commands outcomes answers after → length answers ≡ length commands
one_each End = refl
one_each (Then first rest) = omega (arith, one_each rest)

-- the texts of some answers are those of the first k of them, and then those of the others
texts_cut : (k : ℕ) (answers : List Answer) → texts_of answers ≡ texts_of (take k answers) ++ texts_of (drop k answers)
texts_cut k answers =
    ap texts_of (sym (take-append-drop k answers))
    ∙ flat_map-append answer_text_of (take k answers) (drop k answers)

-- what is cut may be cut behind the last answer
cut_behind : {may : Type 0} {volume : Volume} {W after : ModelWorld} {last : List Answer} {commands : List Command}
    {outcomes : List Outcome} → IsCut may volume W last commands outcomes after
    → IsCut may volume W [] commands outcomes after
cut_behind Uncut = Uncut
cut_behind (CutIn allowed does) = CutIn allowed does

pub all_but_last : (may : Type 0) (volume : Volume) (W after : ModelWorld) (commands : List Command) (old new : List ℕ)
    → ServesFront ⊤ may volume W commands after old new → PutsAllButLast may volume W commands after old new
all_but_last may volume W after commands old new served =
    let answers : List Answer = served.whole ++ served.last in
    let puts : PutsFront (old ++ texts_of served.whole) (texts_of served.last) new = served.put tt in
    let counted : length answers ≡ served.count =
    one_each served.run ∙ length-take-le served.count commands served.within in
    let k : ℕ = length answers - 1 in
    let among : k ≤ length served.whole =
    omega (arith, length-append served.whole served.last, served.at_most_one) in
    let first : take k answers ≡ take k served.whole = take-append-le k served.whole served.last among in
    let others : List ℕ = texts_of (drop k served.whole) in
    record {
      outcomes = served.outcomes;
      answers = answers;
      within = omega (arith, counted, served.within);
      middle = served.middle;
      run = subst (λ (n : ℕ). Run volume W (take n commands) served.outcomes answers served.middle) (sym counted)
          served.run;
      more_outcomes = served.more_outcomes;
      cut = subst (λ (n : ℕ). IsCut may volume served.middle [] (drop n commands) served.more_outcomes after)
          (sym counted) (cut_behind served.cut);
      more = others ++ puts.front;
      put = puts.put
          ∙ ap (λ (l : List ℕ). (old ++ l) ++ puts.front) (texts_cut k served.whole)
          ∙ ap (λ (l : List ℕ). l ++ puts.front) (sym (append_assoc old (texts_of (take k served.whole)) others))
          ∙ append_assoc (old ++ texts_of (take k served.whole)) others puts.front
          ∙ ap (λ (some : List Answer). (old ++ texts_of some) ++ (others ++ puts.front)) (sym first);
      missing = puts.rest;
      goes_on = front_goes_on (old ++ texts_of served.whole) (texts_of served.last) new puts
          ∙ texts_append old served.whole served.last;
    }
