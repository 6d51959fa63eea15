-- What each rule of a command gives is one thing.
use Rattle.std.specs.Cmp.{both_ways}
use Rattle.std.proofs.Common.{◌≡◌, ℕ, List, [], ◌∷◌, ◌++◌, length, sym, ap, subst, ◌∙◌}
use Rattle.ficus_ids.specs.declared.refusal.Refusal.{Refusal}
use Rattle.ficus_model.specs.declared.event.Event.{Event}
use Rattle.ficus_model.specs.declared.event.Event.TheVariants as event
use Rattle.ficus_codec.specs.Formats.{tables_bytes}
use Rattle.ficus_model.specs.Events.{IsAt, through, generation_of}
use Rattle.ficus_model.specs.Lawful.{Volume}
use Rattle.ficus_laws.proofs.Positions.{at_same}
use Rattle.ficus_commands.specs.declared.look.Look.{Look}
use Rattle.ficus_rules.specs.Rule.{Once, Where, Gives, Tells}
use Rattle.ficus_rules.specs.View.{View, history_view}
use Rattle.ficus_rules.proofs.Looks.{look_once}
use Rattle.ficus_rules.proofs.Rules.{then_once, where_once, gives_once, tells_once}
use Rattle.ficus_rules.proofs.Sound.{history_sound}
use Rattle.ficus_replica.specs.Collect.{IsGarbage}
use Rattle.ficus_replica.proofs.Collects.{garbage_once}
use Rattle.ficus_replica.proofs.Saves.{saved_once}
use Rattle.ficus_script.specs.declared.answer.Answer.TheVariants.{Alike, Told, Why}
use Rattle.ficus_why_runs.specs.Row.{Explains}
use Rattle.ficus_why_runs.proofs.Once.{explains_once}
use Rattle.ficus_runs.specs.Actions.{collected}
use Rattle.ficus_runs.specs.Answers.{AlikeAnswer, LookAnswer}
use Rattle.ficus_runs.specs.Exchange.{Behind, LiesBehind, IsServedNow, Served}
use Rattle.ficus_runs.specs.Exchange.LiesBehind.{IsAsk, IsPiece}
use Rattle.ficus_runs.specs.Message.{IsMessageAt}
use Rattle.ficus_wire.specs.Message.{messages_of_tables}
use Rattle.ficus_runs.specs.ModelWorld.{ModelWorld, Posted}
use Rattle.ficus_runs.proofs.Messages.{message_once}
use Rattle.ficus_runs.proofs.Numbers.{number_once}

-- what a look is answered after a history is one thing
pub look_answer_once : (volume : Volume) (H : List Event) (r : ℕ) (look : Look)
    → Once (LookAnswer (history_view volume H r) look)
look_answer_once volume H r look =
    then_once (look_once (history_view volume H r) (history_sound volume H r) look)
    (λ told. gives_once (Told told))

-- two views are compared with one result
pub alike_answer_once : (one other : View) → Once (AlikeAnswer one other)
alike_answer_once one other =
    tells_once Alike (λ flag again means means_too.
    both_ways flag again (λ is. means_too.1 (means.0 is)) (λ is. means.1 (means_too.0 is)))

-- what is wanted is so, or it is refused
pub wants_once : (good : Type 0) (refusal : Refusal) → Once (Where {B = Unit {0}} good refusal (Gives tt))
wants_once good refusal = where_once good refusal (gives_once tt)

-- one message is composed for an event
pub composes_once : (volume : Volume) (event : Event) (W : ModelWorld)
    → Once (Tells (λ message. message) (IsMessageAt volume (W.events ++ event ∷ []) (length W.events) 0))
composes_once volume event W =
    tells_once (λ message. message) (message_once volume (W.events ++ event ∷ []) (length W.events) 0)

-- a collection is answered with one pair of numbers
pub counts_once : (members : ℕ) (H : List Event) (r : ℕ) → Once (Tells collected (IsGarbage members H r))
counts_once members H r = tells_once collected (λ one other is too. garbage_once is too)

-- why is answered with one list of lines
pub why_lines_once : (H : List Event) (r : ℕ) → Once (Tells Why (Explains H r))
why_lines_once H r = tells_once Why (explains_once H r)

-- one thing is served in answer to an ask
served_now_once : (volume : Volume) (H : List Event) (server ask : ℕ) (one other : Served)
    → IsServedNow volume H server ask one → IsServedNow volume H server ask other → one ≡ other
served_now_once volume H server ask one other is too =
    let same = at_same is.asked too.asked in
    let askers : is.asker ≡ too.asker = cc in
    let saved = saved_once is.is too.is in
    let states : one.state ≡ other.state = is.state ∙ (λ i. (saved i).generation) ∙ sym too.state in
    let messages : one.messages ≡ other.messages =
    is.messages
    ∙ (λ i. messages_of_tables server (askers i) (generation_of (askers i) (through ask H)) (saved i).generation
    (tables_bytes volume.members (saved i).entries (saved i).files))
    ∙ sym too.messages in
    λ i. record { state = states i; messages = messages i }

pub cuts_once : (volume : Volume) (server ask : ℕ) (W : ModelWorld)
    → Once (Tells (λ served. served) (IsServedNow volume W.events server ask))
cuts_once volume server ask W = tells_once (λ served. served) (served_now_once volume W.events server ask)

-- one thing lies behind a message
pub behind_once : (W : ModelWorld) (number : ℕ) (one other : Behind) → LiesBehind W number one
    → LiesBehind W number other → one ≡ other
behind_once W number one other (IsAsk {position = p} {asker = r} {server = s} is at)
    (IsAsk {position = q} {asker = x} {server = y} too at_too) =
    let positions : q ≡ p = ap (λ (posted : Posted). posted.position) (number_once too is) in
    let events = at_same at (subst (λ n. IsAt W.events n (event.Ask x y)) positions at_too) in
    cc
behind_once W number one other
    (IsPiece {position = p} {index = i} {ask = a} {state = g} {pieces = k} {asker = r} {server = s} is at asked)
    (IsPiece {position = q} {index = j} {ask = b} {state = h} {pieces = l} {asker = x} {server = y} too at_too asked_too) =
    let positions : q ≡ p = ap (λ (posted : Posted). posted.position) (number_once too is) in
    let indexes : j ≡ i = ap (λ (posted : Posted). posted.index) (number_once too is) in
    let events = at_same at (subst (λ n. IsAt W.events n (event.Serve y b h l)) positions at_too) in
    let asks : b ≡ a = cc in
    let counts : l ≡ k = cc in
    let askers = at_same asked (subst (λ n. IsAt W.events n (event.Ask x y)) asks asked_too) in
    cc
behind_once W number one other (IsAsk {position = p} is at)
    (IsPiece {position = q} {ask = b} {state = h} {pieces = l} {server = y} too at_too asked) =
    let positions : q ≡ p = ap (λ (posted : Posted). posted.position) (number_once too is) in
    let events = at_same at (subst (λ n. IsAt W.events n (event.Serve y b h l)) positions at_too) in
    absurd (cc)
behind_once W number one other (IsPiece {position = p} is at asked)
    (IsAsk {position = q} {asker = x} {server = y} too at_too) =
    let positions : q ≡ p = ap (λ (posted : Posted). posted.position) (number_once too is) in
    let events = at_same at (subst (λ n. IsAt W.events n (event.Ask x y)) positions at_too) in
    absurd (cc)
