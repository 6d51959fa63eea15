-- How what commands come to is answered.
use Rattle.std.specs.Prelude.{◌↔◌, Result, Ok, Err, IsTrue, if◌then◌else◌, is_some}
use Rattle.ficus_ids.specs.declared.id.Id.{Id}
use Rattle.ficus_ids.specs.declared.refusal.Refusal.{Refusal}
use Rattle.ficus_ids.specs.declared.refusal.Refusal.TheVariants.{Memory}
use Rattle.ficus_model.specs.declared.event.Op.{Op}
use Rattle.ficus_commands.specs.declared.look.Look.{Look}
use Rattle.ficus_rules.specs.Look.{LookRule}
use Rattle.ficus_rules.specs.Alike.{AreAlike}
use Rattle.ficus_rules.specs.Rule.{Then, Gives, Tells}
use Rattle.ficus_rules.specs.View.{View}
use Rattle.ficus_replica.specs.Effect.{name_given}
use Rattle.ficus_script.specs.declared.answer.Answer.{Answer}
use Rattle.ficus_script.specs.declared.answer.Answer.TheVariants.{Alike, Done, Made, Told, Refused}

-- what the update of this number is answered with: its number, where it gives an object a name
abbrev pub answer_to : Id → Op → Answer
answer_to number op = if is_some (name_given op) then Made number else Done

-- what a look at what is shown is answered, or why it is refused
abbrev pub LookAnswer : View → Look → Result Answer Refusal → Type 0
LookAnswer view look = Then (LookRule view look) (λ told. Gives (Told told))

-- whether the two views are alike
abbrev pub AlikeAnswer : View → View → Result Answer Refusal → Type 0
AlikeAnswer one other = Tells Alike (λ alike. IsTrue alike ↔ AreAlike one other)

-- so it comes to, or memory was refused
abbrev pub OrMemory : {A : Type 0} → (Result A Refusal → Type 0) → Result A Refusal → Type 0
OrMemory comes_to (Ok a) = comes_to (Ok a)
OrMemory comes_to (Err Memory) = Unit {0}
OrMemory comes_to (Err refusal) = comes_to (Err refusal)

-- a refusal is an answer too
abbrev pub answer_as : Result Answer Refusal → Answer
answer_as (Ok given) = given
answer_as (Err refusal) = Refused refusal
