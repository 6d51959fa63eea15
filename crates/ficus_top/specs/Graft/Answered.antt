-- How lines over several volumes are answered, by what was sent for them.
use Rattle.std.specs.Prelude.{◌≡◌, ℕ, ◌==◌, false, List, [], ◌∷◌, ◌++◌, map, filter, All}
use Rattle.ficus_ids.specs.declared.refusal.Refusal.{Refusal}
use Rattle.ficus_ids.specs.declared.refusal.Refusal.TheVariants as refusal
use Rattle.ficus_script.specs.declared.answer.Answer.{Answer}
use Rattle.ficus_script.specs.declared.answer.Answer.TheVariants.{Refused}
use Rattle.ficus_script.specs.declared.command.Command.{Command}
use Rattle.ficus_loop.specs.Tally.{is_refusal}
use Rattle.ficus_script.specs.declared.volume_line.VolumeLine.{VolumeLine}
use Rattle.ficus_top.specs.Graft.Route.{Sending, sending, Ending, Route}
use Rattle.ficus_top.specs.Graft.Route.Ending.{Apart, Arrives}

-- what was sent, and its answer
pub record Sent : Type 0 where
  pub what : Sending
  pub answer : Answer

abbrev pub sendings : List Sent → List Sending
sendings sent = map (λ one. one.what) sent

abbrev pub IsUnrefused : Sent → Type 0
IsUnrefused one = is_refusal one.answer ≡ false

-- a command sent to a volume, and its answer
abbrev pub sent_so : ℕ → Command → Answer → Sent
sent_so volume command answer = record { what = sending volume command; answer = answer }

-- The line is answered so, by what was sent for it, in order.
pub data IsAnswered (count : ℕ) (line : VolumeLine) : List Sent → Answer → Type 0 where
  -- the first look that is refused ends it, with its refusal
  AtLook : {sent : List Sent} {ending : Ending} {refusal : Refusal} → (passed : List Sent) → (last : Sent)
      → (behind : List Sending) → Route count line (sendings passed ++ last.what ∷ behind) ending
      → All IsUnrefused passed → last.answer ≡ Refused refusal → sent ≡ passed ++ last ∷ []
      → IsAnswered count line sent (Refused refusal)
  -- where none is, the volumes are compared
  AtCrossing : {passed : List Sent} → Route count line (sendings passed) Apart → All IsUnrefused passed
      → IsAnswered count line passed (Refused refusal.Crossing)
  -- and the answer to the command is that of the line
  AtEnd : {sent : List Sent} {volume : ℕ} {command : Command} {answer : Answer} → (passed : List Sent)
      → Route count line (sendings passed) (Arrives volume command) → All IsUnrefused passed
      → sent ≡ passed ++ sent_so volume command answer ∷ [] → IsAnswered count line sent answer

-- lines, one after the other: all that was sent for them, and their answers
pub data AreAnswered (count : ℕ) : List VolumeLine → List Sent → List Answer → Type 0 where
  None : AreAnswered count [] [] []
  Next : {line : VolumeLine} {lines : List VolumeLine} {sent more all : List Sent} {answer : Answer}
      {answers : List Answer} → IsAnswered count line sent answer → AreAnswered count lines more answers
      → all ≡ sent ++ more → AreAnswered count (line ∷ lines) all (answer ∷ answers)

-- what was sent to this volume
abbrev pub sent_to : ℕ → List Sent → List Sent
sent_to volume sent = filter (λ one. one.what.volume == volume) sent

abbrev pub commands_to : ℕ → List Sent → List Command
commands_to volume sent = map (λ one. one.what.command) (sent_to volume sent)

abbrev pub answers_to : ℕ → List Sent → List Answer
answers_to volume sent = map (λ one. one.answer) (sent_to volume sent)

-- the last command was sent to this volume
pub record IsLastTo (volume : ℕ) (sent : List Sent) : Type 0 where
  pub front : List Sent
  pub last : Sent
  pub is : sent ≡ front ++ last ∷ []
  pub to : last.what.volume ≡ volume
