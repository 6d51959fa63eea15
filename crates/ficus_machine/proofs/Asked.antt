-- What the world comes to by an ask.
use Rattle.std.proofs.Common.{◌≡◌, ℕ, List, [], ◌∷◌, ◌++◌, length, Result, Ok, Err, Some, None, refl, suc, sym, ap, subst, zero, ◌∙◌, arith}
use Rattle.std.specs.Prelude.{Contains}
use Rattle.std.proofs.lemmas.List.{append-nil, append_cancel_left}
use Rattle.std.proofs.lemmas.List.Elements.{Contains-push}
use Rattle.ficus_ids.specs.declared.refusal.Refusal.{Refusal}
use Rattle.ficus_model.specs.declared.event.Event.TheVariants as event
use Rattle.ficus_opening.specs.declared.member.Member.{Member}
use Rattle.ficus_replica.specs.declared.replica.Asked.{Asked as Ask}
use Rattle.ficus_replica.specs.declared.replica.Replica.{Replica}
use Rattle.ficus_runs.proofs.Numbers.{number_once}
use Rattle.ficus_runs.specs.Answers.{answer_as}
use Rattle.ficus_runs.specs.Peers.{ArePeers}
use Rattle.ficus_runs.specs.Sequence.{Effect}
use Rattle.ficus_runs.specs.Sequence.ByRule.{Says}
use Rattle.ficus_runs.specs.Sequence.First.{Goes}
use Rattle.ficus_script.specs.declared.answer.Answer.{Answer}
use Rattle.ficus_script.specs.declared.answer.Answer.TheVariants.{Mail, Refused}
use Rattle.ficus_script.specs.declared.command.Command.TheVariants as command
use Rattle.ficus_wire.specs.Message.{message_bytes}
use Rattle.ficus_wire.specs.declared.message.Message.{Message}
use Rattle.ficus_wire.specs.declared.message.Message.TheVariants as message
use Rattle.ficus_world.specs.Hearing.{Awaits}
use Rattle.ficus_world.specs.Machines.Acting.{ActsAlone}
use Rattle.ficus_world.specs.Machines.Part.{command_of}
use Rattle.ficus_world.specs.Machines.Part.Deed.{Asks}
use Rattle.ficus_world.specs.Machines.Together.{Alone, Told}
use Rattle.ficus_world.specs.Machines.Together.Alone.{Acted, Ended, Heard, Renewed}
use Rattle.ficus_world.specs.Moves.{CarriesOut, IsAsking, Sends, advanced, ask_of}
use Rattle.ficus_world.specs.Moves.KeepsAsk.{Asked}
use Rattle.ficus_world.specs.Moves.Sends.{Sent}
use Rattle.ficus_world.specs.Post.{Outbox, lies_behind}
use Rattle.ficus_world.specs.World.{Whole}
use Rattle.ficus_world.proofs.machines.Parts.{number_put}
use Rattle.ficus_machine.specs.Acting.{MovesSomehow}
use Rattle.ficus_machine.specs.Answers.{IsPlainly}
use Rattle.ficus_machine.specs.Asking.{HasAsked}
use Rattle.ficus_machine.specs.Came.{IsLetterOfOne, letter_of}
use Rattle.ficus_machine.specs.Line.{told_of}

module _ (disks_tell : Type 0) (r to : ℕ) (old : Whole) where
  module _ (was : Member) (asked : Replica) (asking : IsAsking old r to was asked) where
    abbrev after : Whole
    after = advanced old r was asked (event.Ask r to)

    numbered : asked.ask ≡ Some (record { to = to; number = asked.saved.generation })
    numbered =
        subst (λ (a : Replica). a.ask ≡ Some (record { to = to; number = a.saved.generation })) (sym asking.gives) refl

    has_asked : (post : Outbox) → post.posts ≡ old.post.posts ++ message_bytes (ask_of r to asked) ∷ []
        → HasAsked r to old (record after { post = post })
    has_asked post posts = record {
      number = asked.saved.generation;
      fits = asking.fits;
      awaits = record {
        member = record was { replica = asked; parts = None };
        is = number_put old.members r (record was { replica = asked; parts = None }) asking.is.member;
        up = asking.up;
        asks = numbered;
        none_held = refl;
      };
      posts = posts;
    }

    sent_asked : (number : ℕ) (left : Effect Whole)
        → Sends (Unit {0}) (lies_behind (length old.events) 0) (message_bytes (ask_of r to asked)) after (Ok number) left
        → HasAsked r to old left.after
    sent_asked number left (Sent {post = post} sent) = has_asked post (sent.told tt)

  pub asks_inverts : (given : Answer) (left : Effect Whole)
      → CarriesOut (Unit {0}) disks_tell (command.Ask r to) old (Ok given) left → HasAsked r to old left.after
  asks_inverts given left (Goes {a = number} (Asked {was = was} {asked = asked} {left = last} asking room sends) (Says gives)) =
      sent_asked was asked asking number last sends

-- what an ask that isn't refused is answered, and whom it asks
pub record IsAskedOf (members r to : ℕ) (given : Answer) : Type 0 where
  pub peers : ArePeers members r to
  pub number : ℕ
  pub mail : given ≡ Mail number

asked_of : (tells disks_tell : Type 0) (r to : ℕ) (old : Whole) (given : Answer) (left : Effect Whole)
    → CarriesOut tells disks_tell (command.Ask r to) old (Ok given) left → IsAskedOf (length old.members) r to given
asked_of tells disks_tell r to old given left (Goes {a = number} (Asked asking room sends) (Says gives)) =
    record { peers = asking.peers; number = number; mail = gives }

pub asked_alone : {tells disks_tell : Type 0} {r : ℕ} {machine after : Whole} {came posted : List (List ℕ)}
    {told : List Told} (to : ℕ) (given : Answer) → Alone tells disks_tell r machine came posted told after
    → told ≡ told_of r (Asks to) (Ok given) ∷ [] → IsAskedOf (length machine.members) r to given
asked_alone to given Ended is = absurd (cc)
asked_alone {tells} {disks_tell} {r} {machine} to given
    (Acted {deed = deed} {result = result} next outcomes more may does posts rest) is =
    let one : told_of r deed result ≡ told_of r (Asks to) (Ok given) = (cc) in
    let asks = ap (λ (t : Told). t.deed) one in
    let fine = ap (λ (t : Told). t.result) one in
    asked_of tells disks_tell r to machine given (record { outcomes = outcomes; after = next })
    (subst (λ (a : Result Answer Refusal). CarriesOut tells disks_tell (command.Ask r to) machine a
    (record { outcomes = outcomes; after = next })) fine
    (subst (λ d. CarriesOut tells disks_tell (command_of r d) machine result
    (record { outcomes = outcomes; after = next })) asks does))
asked_alone {r = r} to given (Heard next hears rest) is =
    subst (λ n. IsAskedOf n r to given) (ap (λ (w : Whole). length w.members) hears.is) (asked_alone to given rest is)
asked_alone {r = r} to given (Renewed next renews rest) is =
    subst (λ n. IsAskedOf n r to given) renews.count (asked_alone to given rest is)

-- what was told of an ask
module _ {disks_tell : Type 0} {me to : ℕ} {given : Answer} {old new : Whole}
    (acts : ActsAlone (Unit {0}) disks_tell me [] (Asks to) given old new) where
  asked_if : (answer : Answer) → acts.result ≡ Ok answer → IsAskedOf (length old.members) me to answer
  asked_if answer is =
      asked_alone to answer acts.alone
      (ap (λ (result : Result Answer Refusal). told_of me (Asks to) result ∷ []) is)

  -- an ask of no other member is refused
  pub plainly_none : (by : ℕ) → (ArePeers (length old.members) me to → ⊥) → IsPlainly (command.Ask by to) acts.result
  plainly_none by none = go acts.result refl
    where
      go : (result : Result Answer Refusal) → acts.result ≡ result → IsPlainly (command.Ask by to) result
      go (Ok answer) is = none (asked_if answer is).peers
      go (Err refusal) is = tt

  -- and so is one that is answered with a refusal
  pub plainly_refused : (by : ℕ) (refusal : Refusal) → given ≡ Refused refusal
      → IsPlainly (command.Ask by to) acts.result
  plainly_refused by refusal refuses = go acts.result refl
    where
      go : (result : Result Answer Refusal) → acts.result ≡ result → IsPlainly (command.Ask by to) result
      go (Ok answer) is =
          let mail = (asked_if answer is).mail in
          let same : given ≡ answer = acts.answer_is ∙ ap answer_as is in
          absurd (cc)
      go (Err other) is = tt

  -- one that isn't was carried out
  pub fine : ((refusal : Refusal) → given ≡ Refused refusal → ⊥) → acts.result ≡ Ok given
  fine unrefused = go acts.result refl
    where
      go : (result : Result Answer Refusal) → acts.result ≡ result → result ≡ Ok given
      go (Ok answer) is = ap Ok (sym (acts.answer_is ∙ ap answer_as is))
      go (Err refusal) is = absurd (unrefused refusal (acts.answer_is ∙ ap answer_as is))

-- a member waits for one answer only
pub awaits_one : {world : Whole} {r : ℕ} {one two : Ask} → Awaits world r one → Awaits world r two → one ≡ two
awaits_one {world} {r} {one} {two} first then =
    let same : first.member ≡ then.member = number_once first.is then.is in
    let asks : Some one ≡ Some two =
    sym first.asks ∙ ap (λ (m : Member). m.replica.ask) same ∙ then.asks in
    (cc)

-- what was posted is the message of the ask
module _ {disks_tell : Type 0} {me to : ℕ} {answer : Answer} {old new : Whole}
    (acts : ActsAlone (Unit {0}) disks_tell me [] (Asks to) answer old new) (has : HasAsked me to old new) where
  abbrev pub its_message : Message
  its_message = message.Ask me to has.number

  posted_is : acts.posted ≡ message_bytes its_message ∷ []
  posted_is =
      append_cancel_left old.post.posts acts.posted (message_bytes its_message ∷ [])
      (subst (λ (posts : List (List ℕ)). posts ++ acts.posted ≡ old.post.posts ++ message_bytes its_message ∷ [])
      (append-nil old.post.posts) (sym acts.sent ∙ has.posts))

  pub its_letter : (tag : List ℕ) → IsLetterOfOne tag (length old.members) acts.posted (letter_of tag its_message)
  its_letter tag = record {
    bytes = message_bytes its_message;
    is =
        subst (λ (posts : List (List ℕ)). Contains posts (message_bytes its_message)) (sym posted_is)
        (Contains-push [] (message_bytes its_message));
    spells = record { message = its_message; spelled = record { fits = has.fits; is = refl }; is = refl };
  }

-- a list of one has no other
pub only_one : {A : Type 0} (one other : A) → Contains (one ∷ []) other → other ≡ one
only_one one other (zero, below, is) = sym is
only_one one other (suc k, below, is) = absurd (omega (arith, below))

-- whom an ask that isn't refused reaches
pub has_from : {disks_tell : Type 0} {r to : ℕ} {old new : Whole} {given : Answer}
    → ((refusal : Refusal) → given ≡ Refused refusal → ⊥)
    → MovesSomehow disks_tell old (command.Ask r to) given new → HasAsked r to old new
has_from {disks_tell} {r} {to} {old} {new} {given} unrefused somehow =
    go somehow.moves.result somehow.moves.does somehow.moves.answer_is
  where
    go : (result : Result Answer Refusal)
        → CarriesOut (Unit {0}) disks_tell (command.Ask r to) old result
        (record { outcomes = somehow.outcomes; after = new })
        → given ≡ answer_as result → HasAsked r to old new
    go (Ok answer) does is =
        asks_inverts disks_tell r to old answer (record { outcomes = somehow.outcomes; after = new }) does
    go (Err refusal) does is = absurd (unrefused refusal is)
