-- A command that is refused changes no member, unless it was being saved.
use Rattle.std.proofs.Common.{◌≡◌, ◌≢◌, ℕ, ◌+◌, List, [], ◌∷◌, length, map, Result, Ok, Err, Bool, true, false, refl, ap, ◌∙◌}
use Rattle.std.specs.Prelude.{if◌then◌else◌, is_some}
use Rattle.ficus_commands.specs.declared.change.Change.{Change}
use Rattle.ficus_entry.specs.declared.entry.Entry.{Entry}
use Rattle.ficus_file.specs.declared.file.FileReplica.{FileReplica}
use Rattle.ficus_ids.specs.declared.id.Id.{Id}
use Rattle.ficus_ids.specs.declared.refusal.Refusal.{Refusal}
use Rattle.ficus_ids.specs.declared.refusal.Refusal.TheVariants as refusal
use Rattle.ficus_replica.specs.Effect.{name_given, next_id}
use Rattle.ficus_script.specs.declared.answer.Answer.{Answer}
use Rattle.ficus_script.specs.declared.answer.Answer.TheVariants as answer
use Rattle.ficus_script.specs.declared.command.Command.{Command}
use Rattle.ficus_script.specs.declared.command.Command.TheVariants as command
use Rattle.ficus_wire.specs.Message.{message_bytes}
use Rattle.ficus_wire.specs.declared.message.Message.{Message}
use Rattle.ficus_wire.specs.declared.message.Message.TheVariants as message
use Rattle.ficus_wire.specs.declared.message.PieceHead.{PieceHead}
use Rattle.ficus_runs.specs.Actions.{GivesOnly}
use Rattle.ficus_runs.specs.Answers.{answer_as}
use Rattle.ficus_runs.specs.Outcome.{Outcome}
use Rattle.ficus_runs.specs.Sequence.{ByRule, Effect, First, NothingDone}
use Rattle.ficus_runs.specs.Sequence.ByRule.{Says}
use Rattle.ficus_runs.specs.Sequence.First.{Ends, Goes}
use Rattle.ficus_opening.specs.declared.member.Member.{Member}
use Rattle.ficus_world.specs.declared.exchange.Delivery.{Delivery}
use Rattle.ficus_world.specs.Kills.{IsPull, OpensAgain, SparesDisks}
use Rattle.ficus_world.specs.Moves.{ArmsDisks, CarriesOut, Compared, CutShort, FindsPeers, FindsUp, GivesMessage, HandlesMessage, KeepsAsk, KeepsCollection, KeepsUpdate, Moves, SendsEach, ServesAsk, TablesDecide, TakesFitting, TakesPiece, TakesSpelled, TakesTables, WholeAction, answers_of, serve_of, spelled_with, with_event}
use Rattle.ficus_world.specs.Moves.ArmsDisks.{Arms, ArmsNone}
use Rattle.ficus_world.specs.Moves.FetchesBytes.{Fetched, NoMail, NotFetched}
use Rattle.ficus_world.specs.Moves.FindsPeers.{FindsBoth, FindsNoPeers, FindsOneDown}
use Rattle.ficus_world.specs.Moves.FindsTaker.{AnswersNone, FindsIt, OfAnotherState, OfOtherPieces, TakerDown}
use Rattle.ficus_world.specs.Moves.FindsUp.{FindsAt, FindsDown, FindsNoneAt}
use Rattle.ficus_world.specs.Moves.KeepsAsk.{Asked, AskerDown, NoPeers, NoRoomToAsk, NotAsked}
use Rattle.ficus_world.specs.Moves.KeepsCollection.{Collects, CollectsNot}
use Rattle.ficus_world.specs.Moves.KeepsUpdate.{Keeps, KeepsNot}
use Rattle.ficus_world.specs.Moves.Sends.{NotSent, Sent}
use Rattle.ficus_world.specs.Moves.ServesAsk.{NoRoomToServe, ServerDown, Serves}
use Rattle.ficus_world.specs.Moves.TakesFitting.{IsHeld, IsOneMore, IsTheLast}
use Rattle.ficus_world.specs.Moves.TakesSpelled.{SpellsNone, SpellsTables}
use Rattle.ficus_world.specs.Moves.TakesTables.{Refuses, Takes, TakesNot}
use Rattle.ficus_world.specs.World.{Whole}

-- what is posted changes no member
sends_still : (tells : Type 0) (position index : ℕ) (messages : List (List ℕ)) (old : Whole)
    (result : Result (Unit {0}) Refusal) (left : Effect Whole) → SendsEach tells position index messages old result left
    → left.after.members ≡ old.members
sends_still tells position index [] old result left (Says is) = refl
sends_still tells position index (bytes ∷ more) old result left (Ends (NotSent failed)) = refl
sends_still tells position index (bytes ∷ more) old result left (Goes {left = last} (Sent {post = post} one) sends) =
    sends_still tells position (index + 1) more (record old { post = post }) result last sends

serves_still : {tells : Type 0} {came : Delivery} {old : Whole} (result : Result Answer Refusal) {left : Effect Whole}
    → ServesAsk tells came old result left → left.after.members ≡ old.members
serves_still result (ServerDown is down) = refl
serves_still result (NoRoomToServe serving full) = refl
serves_still {tells} {came} {old} result {left}
    (Serves {peer = peer} {asked = asked} serving place room fits (Ends {refusal = r} sends)) =
    sends_still tells (length old.events) 0 (map message_bytes (answers_of old came peer))
    (with_event old (serve_of old came peer asked)) (Err r) left sends
serves_still {tells} {came} {old} result
    (Serves {peer = peer} {asked = asked} serving place room fits (Goes {a = a} {middle = middle} sends (Says is))) =
    sends_still tells (length old.events) 0 (map message_bytes (answers_of old came peer))
    (with_event old (serve_of old came peer asked)) (Ok a) middle sends

-- no number and no `Done` is a refusal
unnamed : (number : Id) (r : Refusal) (named : Bool)
    → answer.Refused r ≡ (if named then answer.Made number else answer.Done) → ⊥
unnamed number r true same = absurd (cc)
unnamed number r false same = absurd (cc)

module _ (r : Refusal) (unfailed : r ≢ refusal.Store) where
  failed : answer.Refused r ≡ answer.Refused refusal.Store → ⊥
  failed same = let is : r ≡ refusal.Store = cc in unfailed is

  -- where this refuses it, no member has changed
  abbrev IsStill : WholeAction Answer → Type 0
  IsStill does =
      (old : Whole) (result : Result Answer Refusal) (left : Effect Whole) → does old result left
      → answer.Refused r ≡ answer_as result → left.after.members ≡ old.members

  up_still : (by : ℕ) (rest : Member → WholeAction Answer) → ((member : Member) → IsStill (rest member))
      → IsStill (First (FindsUp by) rest)
  up_still by rest behind old result left (Ends (FindsNoneAt none)) same = refl
  up_still by rest behind old result left (Ends (FindsDown is down)) same = refl
  up_still by rest behind old result left (Goes {a = member} {left = last} (FindsAt is up) next) same =
      behind member old result last next same

  peers_still : (by other : ℕ) (rest : Compared → WholeAction Answer) → ((both : Compared) → IsStill (rest both))
      → IsStill (First (FindsPeers by other) rest)
  peers_still by other rest behind old result left (Ends (FindsNoPeers none)) same = refl
  peers_still by other rest behind old result left (Ends (FindsOneDown peers is is_too down)) same = refl
  peers_still by other rest behind old result left
      (Goes {a = both} {left = last} (FindsBoth peers is is_too up up_too) next) same =
      behind both old result last next same

  rule_still : (rule : Whole → Result Answer Refusal → Type 0) → IsStill (ByRule rule)
  rule_still rule old result left (Says is) same = refl

  change_still : (by : ℕ) (change : Change) (was : Member)
      → IsStill (First (TablesDecide was change) (KeepsUpdate by was))
  change_still by change was old result left (Ends (Says refused)) same = refl
  change_still by change was old result left (Goes {a = op} (Says decided) (Keeps applied ask)) same =
      absurd (unnamed (next_id was.replica.saved) r (is_some (name_given op)) same)
  change_still by change was old result left (Goes (Says decided) (KeepsNot applied ask)) same = absurd (failed same)

  collection_still : (by : ℕ) (was : Member) → IsStill (KeepsCollection by was)
  collection_still by was old result left (Collects gives) same = absurd (cc)
  collection_still by was old result left (CollectsNot gives) same = absurd (failed same)

  asking_still : (tells : Type 0) (by to : ℕ) → r ≢ refusal.Link
      → IsStill (First (KeepsAsk tells by to) (λ number. GivesOnly (answer.Mail number)))
  asking_still tells by to other old result left (Ends (NoPeers none)) same = refl
  asking_still tells by to other old result left (Ends (AskerDown peers is down)) same = refl
  asking_still tells by to other old result left (Ends (NoRoomToAsk asking full)) same = refl
  asking_still tells by to other old result left (Ends (NotAsked asking room)) same = absurd (failed same)
  asking_still tells by to other old result left (Ends (Asked asking room (NotSent fails))) same =
      let is : r ≡ refusal.Link = cc in absurd (other is)
  asking_still tells by to other old (Ok given) left (Goes {a = number} asks (Says is)) same =
      let told : answer.Refused r ≡ answer.Mail number = same ∙ is in absurd (cc)
  asking_still tells by to other old (Err refused) left (Goes asks (Says none)) same = absurd none

  tables_still : (came : Delivery) (index : ℕ) (entries : List Entry) (files : List FileReplica)
      → IsStill (TakesTables came index entries files)
  tables_still came index entries files old result left (Takes is up place gives) same = absurd (cc)
  tables_still came index entries files old result left (TakesNot is up place gives) same = absurd (failed same)
  tables_still came index entries files old result left (Refuses is up no_memory gives) same = refl

  spelled_still : (came : Delivery) (index : ℕ) (bytes : List ℕ) → IsStill (TakesSpelled came index bytes)
  spelled_still came index bytes old result left (SpellsTables {entries = entries} {files = files} fits is takes) same =
      tables_still came index entries files old result left takes same
  spelled_still came index bytes old result left (SpellsNone none) same = refl

  fitting_still : (came : Delivery) (head : PieceHead) (bytes : List ℕ) (was : Member)
      → IsStill (TakesFitting came head bytes was)
  fitting_still came head bytes was old result left (IsHeld held) same = refl
  fitting_still came head bytes was old result left (IsOneMore lacks others lies) same = absurd (cc)
  fitting_still came head bytes was old result left (IsTheLast lacks others takes) same =
      spelled_still came head.index (spelled_with was head bytes) old result left takes same

  piece_still : (came : Delivery) (head : PieceHead) (bytes : List ℕ) → IsStill (TakesPiece came head bytes)
  piece_still came head bytes old result left (Ends (TakerDown is down)) same = refl
  piece_still came head bytes old result left (Ends (AnswersNone is up none)) same = refl
  piece_still came head bytes old result left (Ends (OfAnotherState waits other)) same = refl
  piece_still came head bytes old result left (Ends (OfOtherPieces waits state other)) same = refl
  piece_still came head bytes old result left (Goes {a = was} {left = last} (FindsIt waits state pieces) takes) same =
      fitting_still came head bytes was old result last takes same

  handles_still : (tells : Type 0) (number : ℕ) (m : Message) → IsStill (HandlesMessage tells number m)
  handles_still tells number (message.Ask from to ask) old result left handles same = serves_still result handles
  handles_still tells number (message.Piece from to ask state pieces index bytes) old result left handles same =
      piece_still _ _ bytes old result left handles same

  giving_still : (tells : Type 0) (number : ℕ) → IsStill (GivesMessage tells number)
  giving_still tells number old result left (Ends (Ends (NoMail none))) same = refl
  giving_still tells number old result left (Ends (Ends (NotFetched some fails))) same = refl
  giving_still tells number old result left (Ends (Goes (Fetched fetched) (Says reads))) same = refl
  giving_still tells number old result left
      (Goes {a = m} {left = last} (Goes (Fetched fetched) (Says reads)) handles) same =
      handles_still tells number m old result last handles same

  arming_still : (by calls pick : ℕ) (was : Member) → IsStill (ArmsDisks by calls pick was)
  arming_still by calls pick was old result left (Arms fused) same = refl
  arming_still by calls pick was old result left (ArmsNone none) same = refl

-- so it is of each command
refused_still : (tells disks_tell : Type 0) (r : Refusal) (c : Command) → SparesDisks c r → (old : Whole)
    (result : Result Answer Refusal) (left : Effect Whole) → CarriesOut tells disks_tell c old result left
    → answer.Refused r ≡ answer_as result → left.after.members ≡ old.members
refused_still tells disks_tell r (command.Change by change) unfailed = up_still r unfailed by _ (change_still r unfailed by change)
refused_still tells disks_tell r (command.Look by look) unfailed = up_still r unfailed by _ (λ was. rule_still r unfailed _)
refused_still tells disks_tell r (command.Collect by) unfailed = up_still r unfailed by _ (collection_still r unfailed by)
refused_still tells disks_tell r (command.Ask by to) others = asking_still r others.0 tells by to others.1
refused_still tells disks_tell r (command.Give number) unfailed = giving_still r unfailed tells number
refused_still tells disks_tell r (command.Pull by to) none = absurd none
refused_still tells disks_tell r (command.Alike by other) unfailed =
    peers_still r unfailed by other _ (λ both. rule_still r unfailed _)
refused_still tells disks_tell r (command.Restart by) none = absurd none
refused_still tells disks_tell r (command.Stop by calls pick) unfailed =
    up_still r unfailed by _ (arming_still r unfailed by calls pick)
refused_still tells disks_tell r (command.Sweep order) unfailed = λ old result left does same. absurd does
refused_still tells disks_tell r (command.Why by) unfailed = λ old result left does same. absurd does

pub refused_members : (tells disks_tell : Type 0) (old new : Whole) (c : Command) (outcomes : List Outcome)
    (r : Refusal) → Moves tells disks_tell old c outcomes (answer.Refused r) new → SparesDisks c r
    → new.members ≡ old.members
refused_members tells disks_tell old new c outcomes r moves unsaved =
    refused_still tells disks_tell r c unsaved old moves.result (record { outcomes = outcomes; after = new }) moves.does
    moves.answer_is

-- a command of which that is said opens no disks
pub no_opening : (old : Whole) (c : Command) (r : Refusal) → SparesDisks c r → OpensAgain old c → ⊥
no_opening old (command.Change by change) r spares opens = opens
no_opening old (command.Look by look) r spares opens = opens
no_opening old (command.Collect by) r spares opens = opens
no_opening old (command.Ask by to) r spares opens = opens
no_opening old (command.Give number) r spares opens = opens
no_opening old (command.Pull by to) r spares opens = opens
no_opening old (command.Alike by other) r spares opens = opens
no_opening old (command.Restart by) r spares opens = spares
no_opening old (command.Stop by calls pick) r spares opens = opens
no_opening old (command.Sweep order) r spares opens = opens
no_opening old (command.Why by) r spares opens = opens

-- where memory is refused on the way, neither, but of a pull
nothing_still : {old : Whole} {left : Effect Whole} → NothingDone old left → left.after.members ≡ old.members
nothing_still same = ap (λ (e : Effect Whole). e.after.members) same

cut_still : (tells : Type 0) (old : Whole) (c : Command) (left : Effect Whole) → CutShort tells c old left
    → (IsPull c → ⊥) → left.after.members ≡ old.members
cut_still tells old (command.Change by change) left cut single = nothing_still cut
cut_still tells old (command.Look by look) left cut single = nothing_still cut
cut_still tells old (command.Collect by) left cut single = nothing_still cut
cut_still tells old (command.Ask by to) left cut single = nothing_still cut
cut_still tells old (command.Give number) left cut single = nothing_still cut
cut_still tells old (command.Pull by to) left cut single = absurd (single tt)
cut_still tells old (command.Alike by other) left cut single = nothing_still cut
cut_still tells old (command.Restart by) left cut single = nothing_still cut
cut_still tells old (command.Stop by calls pick) left cut single = nothing_still cut
cut_still tells old (command.Sweep order) left cut single = absurd cut
cut_still tells old (command.Why by) left cut single = absurd cut

pub cut_members : (tells : Type 0) (old new : Whole) (c : Command) (outcomes : List Outcome)
    → CutShort tells c old (record { outcomes = outcomes; after = new }) → (IsPull c → ⊥) → new.members ≡ old.members
cut_members tells old new c outcomes cut single =
    cut_still tells old c (record { outcomes = outcomes; after = new }) cut single
