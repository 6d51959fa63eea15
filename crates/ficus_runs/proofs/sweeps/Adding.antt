-- What a pull and a collection that aren't refused answer, and add to the history.
use Rattle.std.proofs.Common.{◌≡◌, ◌≢◌, ℕ, suc, ◌+◌, ◌-◌, List, [], ◌∷◌, ◌++◌, length, Ok, refl, ap, subst, ◌∙◌, inl, inr, arith}
use Rattle.ficus_model.specs.declared.event.Event.{Event}
use Rattle.ficus_model.specs.declared.event.Event.TheVariants as event
use Rattle.ficus_model.specs.Events.{generation_of}
use Rattle.ficus_model.specs.Lawful.{Volume}
use Rattle.ficus_laws.specs.Accepts.{answered, asked, pulled, serving, taking}
use Rattle.ficus_laws.proofs.Pull.{length_asked}
use Rattle.ficus_replica.specs.Collect.{Garbage}
use Rattle.ficus_script.specs.declared.answer.Answer.{Answer}
use Rattle.ficus_script.specs.declared.answer.Answer.TheVariants.{Done}
use Rattle.ficus_script.specs.declared.command.Command.TheVariants as command
use Rattle.ficus_runs.specs.Actions.{collected}
use Rattle.ficus_runs.specs.Actions.Saves.{Saved}
use Rattle.ficus_runs.specs.Exchange.{GivesEach, mails_of}
use Rattle.ficus_runs.specs.ModelWorld.{ModelWorld}
use Rattle.ficus_runs.specs.Run.{Does}
use Rattle.ficus_runs.specs.Sequence.{Effect}
use Rattle.ficus_runs.specs.Sequence.First.{Goes}
use Rattle.ficus_runs.specs.Sequence.ByRule.{Says}
use Rattle.ficus_runs.proofs.Serving.{some_messages}
use Rattle.ficus_runs.proofs.Pulls.{IsTaking, mail_goes, pull_goes}

-- The gives of the pieces from the next one on, behind which the others are taken: each is taken, and with the last the
-- state.
module _ (volume : Volume) (reply : List Event) (serve asker : ℕ) where
  abbrev all_taken : ℕ → List Event
  all_taken last = taking reply asker serve last ++ event.Accept asker serve last ∷ []

  record GivesWhole (last : ℕ) (given : Answer) (after : ModelWorld) : Type 0 where
    pub done : given ≡ Done
    pub events : after.events ≡ all_taken last

  gives_add : (number : ℕ) (numbers : List ℕ) (next : ℕ) (W : ModelWorld)
      → IsTaking W serve asker next (number ∷ numbers) → W.events ≡ taking reply asker serve next → (given : Answer)
      (left : Effect ModelWorld) → GivesEach volume (number ∷ numbers) W (Ok given) left
      → GivesWhole (next + length numbers) given left.after
  gives_add number [] next W is was given left (Goes {a = first} {middle = m} mail (Says done)) =
      elim (mail_goes W serve asker next number [] is volume first m mail) [
        | inl further ↦ absurd (further.some refl)
        | inr last ↦ record {
          done = done;
          events = last.events ∙ ap (λ H. H ++ event.Accept asker serve next ∷ []) was
              ∙ ap all_taken (let e : next ≡ next + 0 = omega arith in e);
        }
      ]
  gives_add number (second ∷ numbers) next W is was given left (Goes {a = first} {middle = m} {left = l} mail rest) =
      elim (mail_goes W serve asker next number (second ∷ numbers) is volume first m mail) [
        | inl further ↦
            let more : m.after.events ≡ taking reply asker serve (next + 1) =
            further.events ∙ ap (λ H. H ++ event.Take asker serve next ∷ []) was
            ∙ ap (taking reply asker serve) (let e : suc next ≡ next + 1 = omega arith in e) in
            subst (λ n. GivesWhole n given l.after) (let e : next + 1 + length numbers ≡ next + length (second ∷ numbers) = omega arith in e)
            (gives_add second numbers (next + 1) m.after further.taking more given l rest)
        | inr last ↦ absurd (omega (arith, last.none))
      ]

  -- so do those of all pieces, of which there is one at least
  all_given : (numbers : List ℕ) (W : ModelWorld) → IsTaking W serve asker 0 numbers → W.events ≡ reply
      → length numbers ≢ 0 → (given : Answer) (left : Effect ModelWorld) → GivesEach volume numbers W (Ok given) left
      → GivesWhole (length numbers - 1) given left.after
  all_given [] W is was some given left gives = absurd (some refl)
  all_given (number ∷ numbers) W is was some given left gives =
      subst (λ n. GivesWhole n given left.after)
      (let e : 0 + length numbers ≡ length (number ∷ numbers) - 1 = omega arith in e)
      (gives_add number numbers 0 W is was given left gives)

module _ (volume : Volume) (W : ModelWorld) (by to : ℕ) where
  -- The answer is Done, and these were added: an Ask, a Serve, a Take of each piece but the last, and an Accept.
  pub record PullsWhole (given : Answer) (after : ModelWorld) : Type 0 where
    pub done : given ≡ Done
    pub last : ℕ
    pub events : after.events ≡ pulled W.events by to last

  pub pull_adds : (given : Answer) (left : Effect ModelWorld) → Does volume (command.Pull by to) W (Ok given) left
      → PullsWhole given left.after
  pull_adds given left does =
      let on = pull_goes volume W by to given left does in
      let served = on.serving.served in
      let some = some_messages on.serving.now in
      let last = length (mails_of on.answer) - 1 in
      let pieces : length served.messages ≡ last + 1 = omega (arith, some, on.serving.counted) in
      let state : served.state ≡ generation_of to (asked W.events by to) =
      on.serving.now.state ∙ on.serving.now.is.generation in
      let reply : on.middle.events ≡ answered W.events by to (last + 1) =
      on.serving.events
      ∙ ap (λ n. asked W.events by to ++ event.Serve to (length W.events) n (length served.messages) ∷ []) state
      ∙ ap (λ n. asked W.events by to ++ serving W.events by to n ∷ []) pieces in
      let whole = all_given volume (answered W.events by to (last + 1)) (length (asked W.events by to)) by
      (mails_of on.answer) on.middle on.serving.taking reply
      (λ none. omega (arith, none, some, on.serving.counted)) given on.left on.gives in
      record {
        done = whole.done;
        last = last;
        events = ap (λ (V : ModelWorld). V.events) on.after_is ∙ whole.events
            ∙ ap (λ n. taking (answered W.events by to (last + 1)) by n last ++ event.Accept by n last ∷ [])
            (length_asked W.events by to);
      }

-- a collection answers with two numbers, and a Collect was added
pub record CollectsWhole (W : ModelWorld) (by : ℕ) (given : Answer) (after : ModelWorld) : Type 0 where
  pub garbage : Garbage
  pub counted : given ≡ collected garbage
  pub events : after.events ≡ W.events ++ event.Collect by ∷ []

pub collect_adds : (volume : Volume) (W : ModelWorld) (by : ℕ) (given : Answer) (left : Effect ModelWorld)
    → Does volume (command.Collect by) W (Ok given) left → CollectsWhole W by given left.after
collect_adds volume W by given left (Goes (Goes (Says member) (Says up)) (Goes (Says counts) Saved)) =
    record { garbage = counts.0; counted = counts.2; events = refl }
