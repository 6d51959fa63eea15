-- What was sent to one volume, of all that was sent.
use Rattle.std.proofs.Common.{◌≡◌, ◌≢◌, ℕ, List, [], ◌∷◌, ◌++◌, map, refl, ap, ◌∙◌, eq-eqb}
use Rattle.std.specs.Prelude.{◌==◌}
use Rattle.std.proofs.lemmas.Bool.{ne_eqb}
use Rattle.std.proofs.lemmas.List.{map-append}
use Rattle.std.proofs.lemmas.List.Elements.{filter-append}
use Rattle.ficus_script.specs.declared.answer.Answer.{Answer}
use Rattle.ficus_script.specs.declared.command.Command.{Command}
use Rattle.ficus_top.specs.Graft.Answered.{Sent, answers_to, commands_to, sent_to}

pub to_it : (one : Sent) (v : ℕ) → one.what.volume ≡ v → sent_to v (one ∷ []) ≡ one ∷ []
to_it one v same = rw (eq-eqb one.what.volume v same) refl

pub to_other : (one : Sent) (v : ℕ) → one.what.volume ≢ v → sent_to v (one ∷ []) ≡ []
to_other one v other = rw (ne_eqb one.what.volume v other) refl

pub commands_append : (v : ℕ) (sent more : List Sent)
    → commands_to v (sent ++ more) ≡ commands_to v sent ++ commands_to v more
commands_append v sent more =
    let f : Sent → Command = λ one. one.what.command in
    ap (map f) (filter-append (λ one. one.what.volume == v) sent more) ∙ map-append f (sent_to v sent) (sent_to v more)

pub answers_append : (v : ℕ) (sent more : List Sent)
    → answers_to v (sent ++ more) ≡ answers_to v sent ++ answers_to v more
answers_append v sent more =
    let f : Sent → Answer = λ one. one.answer in
    ap (map f) (filter-append (λ one. one.what.volume == v) sent more) ∙ map-append f (sent_to v sent) (sent_to v more)
