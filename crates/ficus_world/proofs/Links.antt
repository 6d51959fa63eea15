-- What one link makes of the members of a world, and of what is posted, whatever command it is.
use Rattle.std.proofs.Common.{◌≡◌, ℕ, zero, suc, ◌+◌, ◌-◌, List, [], ◌∷◌, length, map, Result, Ok, Err, Option, Some, None, Contains, refl, sym, ap, subst, inl, inr, ◌⊎◌, arith}
use Rattle.std.specs.Prelude.{All, slice_set}
use Rattle.std.proofs.lemmas.List.Elements.{All-contains}
use Rattle.ficus_commands.specs.declared.change.Change.{Change}
use Rattle.ficus_durable_state.specs.declared.saved.Saved.{Saved}
use Rattle.ficus_entry.specs.declared.entry.Entry.{Entry}
use Rattle.ficus_file.specs.declared.file.FileReplica.{FileReplica}
use Rattle.ficus_ids.specs.declared.refusal.Refusal.{Refusal}
use Rattle.ficus_replica.specs.Accept.{IsOpen}
use Rattle.ficus_replica.specs.declared.collect.Collected.{Collected}
use Rattle.ficus_replica.specs.declared.replica.Replica.{Replica}
use Rattle.ficus_script.specs.declared.answer.Answer.{Answer}
use Rattle.ficus_script.specs.declared.answer.Answer.TheVariants.{Mail}
use Rattle.ficus_script.specs.declared.command.Command.{Command}
use Rattle.ficus_script.specs.declared.command.Command.TheVariants as command
use Rattle.ficus_wire.specs.Message.{FitsMessage, IsPiece, message_bytes, piece_of}
use Rattle.ficus_wire.specs.Parts.{HeldParts, with_part}
use Rattle.ficus_wire.specs.declared.message.Message.{Message}
use Rattle.ficus_wire.specs.declared.message.Message.TheVariants as message
use Rattle.ficus_wire.specs.declared.message.PieceHead.{PieceHead}
use Rattle.ficus_runs.specs.Actions.{GivesOnly}
use Rattle.ficus_runs.specs.Message.{IsSpelled}
use Rattle.ficus_runs.specs.Numbered.{IsNumbered}
use Rattle.ficus_runs.specs.Sequence.{ByRule, Effect, First}
use Rattle.ficus_runs.specs.Sequence.ByRule.{Says}
use Rattle.ficus_runs.specs.Sequence.First.{Ends, Goes}
use Rattle.ficus_runs.proofs.Numbers.{number_cases}
use Rattle.ficus_opening.specs.declared.member.Member.{Member}
use Rattle.ficus_opening.specs.declared.member.MemberState.TheVariants as state
use Rattle.ficus_opening.specs.declared.member.Pending.{Pending}
use Rattle.ficus_world.specs.declared.exchange.Delivery.{Delivery}
use Rattle.ficus_world.specs.declared.post.Behind.{Behind}
use Rattle.ficus_world.specs.Generations.{IsServed}
use Rattle.ficus_world.specs.Kills.{IsPull}
use Rattle.ficus_world.specs.Moves.{ArmsDisks, CarriesOut, Compared, FindsMember, FindsPeers, FindsUp, GivesMessage, HandlesMessage, IsServing, KeepsAsk, KeepsCollection, KeepsUpdate, Reopens, SendsEach, ServesAsk, TablesDecide, TakesFitting, TakesSpelled, TakesTables, WholeAction, answers_of, ask_of, parts_held, restarted, serve_of, spelled_with, still_pending, with_event}
use Rattle.ficus_world.specs.Moves.ArmsDisks.{Arms, ArmsNone}
use Rattle.ficus_world.specs.Moves.FetchesBytes.{Fetched, NoMail, NotFetched}
use Rattle.ficus_world.specs.Moves.FindsMember.{Finds, FindsNone}
use Rattle.ficus_world.specs.Moves.FindsPeers.{FindsBoth, FindsNoPeers, FindsOneDown}
use Rattle.ficus_world.specs.Moves.FindsTaker.{AnswersNone, FindsIt, OfAnotherState, OfOtherPieces, TakerDown}
use Rattle.ficus_world.specs.Moves.FindsUp.{FindsAt, FindsDown, FindsNoneAt}
use Rattle.ficus_world.specs.Moves.KeepsAsk.{Asked, AskerDown, NoPeers, NoRoomToAsk, NotAsked}
use Rattle.ficus_world.specs.Moves.KeepsCollection.{Collects, CollectsNot}
use Rattle.ficus_world.specs.Moves.KeepsUpdate.{Keeps, KeepsNot}
use Rattle.ficus_world.specs.Moves.Reopens.{NoImageFound, NotReopened, ReopenedAsPending, ReopenedAsWas}
use Rattle.ficus_world.specs.Moves.Sends.{NotSent, Sent}
use Rattle.ficus_world.specs.Moves.ServesAsk.{NoRoomToServe, ServerDown, Serves}
use Rattle.ficus_world.specs.Moves.TakesFitting.{IsHeld, IsOneMore, IsTheLast}
use Rattle.ficus_world.specs.Moves.TakesSpelled.{SpellsNone, SpellsTables}
use Rattle.ficus_world.specs.Moves.TakesTables.{Refuses, Takes, TakesNot}
use Rattle.ficus_world.specs.Post.{AreFetched, HasFailed, Outbox}
use Rattle.ficus_world.specs.World.{Whole}

-- a piece of an answer for which member r waits was fetched
pub record HasCome (tells : Type 0) (old : Whole) (r : ℕ) (was : Member) (head : PieceHead) (bytes : List ℕ) :
    Type 0 where
  pub number : ℕ
  pub fetched : List ℕ
  pub are : AreFetched tells old.post.posts number fetched
  pub spelled : IsSpelled (length old.members) fetched (piece_of head bytes)
  pub own : head.route.to ≡ r
  pub open_ask : IsOpen was.replica head.route.from head.route.number
  pub state : (parts_held was.parts head).state ≡ head.state
  pub pieces : (parts_held was.parts head).pieces ≡ head.pieces

-- the member holds nothing of an answer, or what it held, of the same ask
abbrev pub KeepsParts : Member → Replica → Option HeldParts → Type 0
KeepsParts was replica parts = (parts ≡ None) ⊎ ((parts ≡ was.parts) × (replica.ask ≡ was.replica.ask))

-- what a restart may find
abbrev pub MayRead : Type 0 → Member → Saved → Type 0
MayRead disks_tell was read =
    (disks_tell → read ≡ was.replica.saved)
    ⊎ ((pending : Pending) × (was.state ≡ state.Down (Some pending)) × (disks_tell → read ≡ pending.replica.saved))

-- what a link makes of a member: it saves, or that is pending; it holds a piece more; it restarts, or is down
pub data Turns (tells disks_tell : Type 0) (old : Whole) (r : ℕ) (was : Member) : Member → Type 0 where
  HasSaved : {replica : Replica} {parts : Option HeldParts} → was.state ≡ state.Up
      → replica.saved.generation ≡ was.replica.saved.generation + 1 → KeepsParts was replica parts
      → Turns tells disks_tell old r was (record was { replica = replica; parts = parts })
  HasPending : {pending : Pending} → pending.replica.saved.generation ≡ was.replica.saved.generation + 1
      → Turns tells disks_tell old r was (record was { state = state.Down (Some pending) })
  HasGathered : {head : PieceHead} {bytes : List ℕ} → HasCome tells old r was head bytes
      → Turns tells disks_tell old r was
      (record was { parts = Some (with_part (parts_held was.parts head) head.index bytes) })
  HasRestarted : {read : Saved} → MayRead disks_tell was read → Turns tells disks_tell old r was (restarted was read)
  IsDown : Turns tells disks_tell old r was (record was { state = state.Down (still_pending was.state) })

-- of all members it changes one at most
pub data Turned (tells disks_tell : Type 0) (old : Whole) : List Member → Type 0 where
  NoneTurned : Turned tells disks_tell old old.members
  OneTurned : {r : ℕ} {was now : Member} → IsNumbered old.members r was → Turns tells disks_tell old r was now
      → Turned tells disks_tell old (slice_set old.members (r - 1) now)

-- these bytes spell a message, which was served where it is a piece
pub record IsSentIn (old new : Whole) (bytes : List ℕ) : Type 0 where
  pub message : Message
  pub fits : FitsMessage (length old.members) message
  pub is : bytes ≡ message_bytes message
  pub piece : IsPiece message → (saved : Saved) × IsServed message saved old new

-- what a link does
pub record Linked (tells disks_tell : Type 0) (old new : Whole) : Type 0 where
  pub members : Turned tells disks_tell old new.members
  pub posts : tells → (number : ℕ) (bytes : List ℕ) → IsNumbered new.post.posts number bytes
      → IsNumbered old.post.posts number bytes ⊎ IsSentIn old new bytes

-- what is on a list that was made of another
contained_later : {X : Type 0} (first : X) (list : List X) (x : X) → Contains list x → Contains (first ∷ list) x
contained_later first list x inside = (suc inside.0, omega (arith, inside.1), inside.2)

pub behind_map : {X Y : Type 0} (f : X → Y) (list : List X) (y : Y) → Contains (map f list) y
    → (x : X) × Contains list x × (y ≡ f x)
behind_map f [] y (k, below, is) = absurd (omega (arith, below))
behind_map f (x ∷ list) y (zero, below, is) = (x, (0, omega arith, refl), sym is)
behind_map f (x ∷ list) y (suc k, below, is) =
    let rest = behind_map f list y (k, omega (arith, below), is) in
    (rest.0, contained_later x list rest.0 rest.1, rest.2)

-- what is posted of a list changes nothing else
record HasPosted (tells : Type 0) (list : List (List ℕ)) (old new : Whole) : Type 0 where
  pub members : new.members ≡ old.members
  pub events : new.events ≡ old.events
  pub posts : tells → (number : ℕ) (bytes : List ℕ) → IsNumbered new.post.posts number bytes
      → IsNumbered old.post.posts number bytes ⊎ Contains list bytes

failed_posts : {old post : Outbox} → HasFailed old post → post.posts ≡ old.posts
failed_posts failed = ap (λ (p : Outbox). p.posts) failed.same

posts_were : {list old : List (List ℕ)} {number : ℕ} {bytes : List ℕ} → list ≡ old → IsNumbered list number bytes
    → IsNumbered old number bytes
posts_were {list} {old} {number} {bytes} same is = subst (λ posts. IsNumbered posts number bytes) same is

posts_each : (tells : Type 0) (position index : ℕ) (list : List (List ℕ)) (old : Whole)
    (result : Result (Unit {0}) Refusal) (left : Effect Whole) → SendsEach tells position index list old result left
    → HasPosted tells list old left.after
posts_each tells position index [] old result left (Says is) = record {
  members = refl;
  events = refl;
  posts = λ told number bytes is. inl is;
}
posts_each tells position index (first ∷ list) old result left (Ends (NotSent failed)) = record {
  members = refl;
  events = refl;
  posts = λ told number bytes is. inl (posts_were (failed_posts failed) is);
}
posts_each tells position index (first ∷ list) old result left (Goes {left = last} (Sent {post = post} sent) sends) =
    let rest = posts_each tells position (index + 1) list (record old { post = post }) result last sends in
    record {
      members = rest.members;
      events = rest.events;
      posts = λ told number bytes is. go told number bytes (rest.posts told number bytes is);
    }
  where
    go_before : (number : ℕ) (bytes : List ℕ)
        → IsNumbered old.post.posts number bytes ⊎ ((number ≡ length old.post.posts + 1) × (bytes ≡ first))
        → IsNumbered old.post.posts number bytes ⊎ Contains (first ∷ list) bytes
    go_before number bytes (inl is) = inl is
    go_before number bytes (inr last) = inr (0, omega arith, sym last.1)

    go : tells → (number : ℕ) (bytes : List ℕ) → IsNumbered post.posts number bytes ⊎ Contains list bytes
        → IsNumbered old.post.posts number bytes ⊎ Contains (first ∷ list) bytes
    go told number bytes (inr inside) = inr (contained_later first list bytes inside)
    go told number bytes (inl is) =
        go_before number bytes (number_cases old.post.posts first (posts_were (sent.told told) is))

module _ (tells disks_tell : Type 0) where
  abbrev IsLinked : {A : Type 0} → WholeAction A → Type 0
  IsLinked {A} does =
      (old : Whole) (result : Result A Refusal) (left : Effect Whole) → does old result left
      → Linked tells disks_tell old left.after

  -- nothing is posted
  quiet : {old new : Whole} → Turned tells disks_tell old new.members → new.post.posts ≡ old.post.posts
      → Linked tells disks_tell old new
  quiet members same = record {
    members = members;
    posts = λ told number bytes is. inl (posts_were same is);
  }

  still : (old : Whole) → Linked tells disks_tell old old
  still old = quiet NoneTurned refl

  up_linked : (by : ℕ) (rest : Member → WholeAction Answer)
      → ((member : Member) (old : Whole) → IsNumbered old.members by member → member.state ≡ state.Up
      → (result : Result Answer Refusal) (left : Effect Whole) → rest member old result left
      → Linked tells disks_tell old left.after) → IsLinked (First (FindsUp by) rest)
  up_linked by rest behind old result left (Ends (FindsNoneAt none)) = still old
  up_linked by rest behind old result left (Ends (FindsDown is down)) = still old
  up_linked by rest behind old result left (Goes {a = member} {left = last} (FindsAt is up) next) =
      behind member old is up result last next

  rule_linked : (rule : Whole → Result Answer Refusal → Type 0) (old : Whole) (result : Result Answer Refusal)
      (left : Effect Whole) → ByRule rule old result left → Linked tells disks_tell old left.after
  rule_linked rule old result left (Says is) = still old

  change_linked : (by : ℕ) (change : Change) (was : Member) (old : Whole) → IsNumbered old.members by was
      → was.state ≡ state.Up → (result : Result Answer Refusal) (left : Effect Whole)
      → First (TablesDecide was change) (KeepsUpdate by was) old result left → Linked tells disks_tell old left.after
  change_linked by change was old is up result left (Ends (Says refused)) = still old
  change_linked by change was old is up result left (Goes (Says decided) (Keeps applied ask)) =
      quiet (OneTurned is (HasSaved up (ap (λ (s : Saved). s.generation) applied.saved) (inr (refl, ask)))) refl
  change_linked by change was old is up result left (Goes (Says decided) (KeepsNot applied ask)) =
      quiet (OneTurned is (HasPending (ap (λ (s : Saved). s.generation) applied.saved))) refl

  collection_linked : (by : ℕ) (was : Member) (old : Whole) → IsNumbered old.members by was → was.state ≡ state.Up
      → (result : Result Answer Refusal) (left : Effect Whole) → KeepsCollection by was old result left
      → Linked tells disks_tell old left.after
  collection_linked by was old is up result left (Collects gives) =
      quiet (OneTurned is (HasSaved up (ap (λ (c : Collected). c.replica.saved.generation) gives.is)
      (inr (refl, ap (λ (c : Collected). c.replica.ask) gives.is)))) refl
  collection_linked by was old is up result left (CollectsNot gives) =
      quiet (OneTurned is (HasPending (ap (λ (c : Collected). c.replica.saved.generation) gives.is))) refl

  asks_linked : (by to : ℕ) → IsLinked (KeepsAsk tells by to)
  asks_linked by to old result left (NoPeers none) = still old
  asks_linked by to old result left (AskerDown peers is down) = still old
  asks_linked by to old result left (NoRoomToAsk asking full) = still old
  asks_linked by to old result left (NotAsked asking room) =
      quiet (OneTurned asking.is (HasPending (ap (λ (r : Replica). r.saved.generation) asking.gives))) refl
  asks_linked by to old result left (Asked asking room (NotSent failed)) =
      quiet (OneTurned asking.is
      (HasSaved asking.up (ap (λ (r : Replica). r.saved.generation) asking.gives) (inl refl))) (failed_posts failed)
  asks_linked by to old result left (Asked {was = was} {asked = asked} asking room (Sent {post = post} sent)) = record {
    members =
        OneTurned asking.is
        (HasSaved asking.up (ap (λ (r : Replica). r.saved.generation) asking.gives) (inl refl));
    posts = λ told number bytes is.
        go number bytes
        (number_cases old.post.posts (message_bytes (ask_of by to asked)) (posts_were (sent.told told) is));
  }
    where
      go : (number : ℕ) (bytes : List ℕ) → IsNumbered old.post.posts number bytes
          ⊎ ((number ≡ length old.post.posts + 1) × (bytes ≡ message_bytes (ask_of by to asked)))
          → IsNumbered old.post.posts number bytes ⊎ IsSentIn old left.after bytes
      go number bytes (inl is) = inl is
      go number bytes (inr last) =
          inr (record { message = ask_of by to asked; fits = asking.fits; is = last.1; piece = λ none. absurd none })

  asking_linked : (by to : ℕ) → IsLinked (First (KeepsAsk tells by to) (λ number. GivesOnly (Mail number)))
  asking_linked by to old result left (Ends {refusal = r} asks) = asks_linked by to old (Err r) left asks
  asking_linked by to old result left (Goes {a = number} {middle = middle} asks (Says is)) =
      asks_linked by to old (Ok number) middle asks

  -- what was served
  module _ (came : Delivery) (old : Whole) where
    serves_with : (peer : Member) → IsServing old came peer → (asked : Behind)
        → IsNumbered old.post.behind came.mail asked → (new : Whole)
        → All (FitsMessage (length old.members)) (answers_of old came peer)
        → HasPosted tells (map message_bytes (answers_of old came peer)) (with_event old (serve_of old came peer asked)) new
        → Linked tells disks_tell old new
    serves_with peer serving asked lies new fits posted = record {
      members = subst (λ members. Turned tells disks_tell old members) (sym posted.members) NoneTurned;
      posts = λ told number bytes is. go bytes (posted.posts told number bytes is);
    }
      where
        go : {number : ℕ} (bytes : List ℕ)
            → IsNumbered old.post.posts number bytes ⊎ Contains (map message_bytes (answers_of old came peer)) bytes
            → IsNumbered old.post.posts number bytes ⊎ IsSentIn old new bytes
        go bytes (inl is) = inl is
        go bytes (inr inside) =
            let found = behind_map message_bytes (answers_of old came peer) bytes inside in
            inr (record {
              message = found.0;
              fits = All-contains (FitsMessage (length old.members)) (answers_of old came peer) found.0 fits found.1;
              is = found.2;
              piece = λ piece. (
                peer.replica.saved,
                record {
                  came = came;
                  asked = asked;
                  lies = lies;
                  server = peer;
                  serving = serving;
                  saves = refl;
                  is = found.1;
                  happens = posted.events;
                },
              );
            })

    serves_linked : (result : Result Answer Refusal) (left : Effect Whole) → ServesAsk tells came old result left
        → Linked tells disks_tell old left.after
    serves_linked result left (ServerDown is down) = still old
    serves_linked result left (NoRoomToServe serving full) = still old
    serves_linked result left
        (Serves {peer = peer} {asked = asked} serving place room fits (Ends {refusal = r} sends)) =
        serves_with peer serving asked place left.after fits
        (posts_each tells (length old.events) 0 (map message_bytes (answers_of old came peer))
        (with_event old (serve_of old came peer asked)) (Err r) left sends)
    serves_linked result left
        (Serves {peer = peer} {asked = asked} serving place room fits (Goes {a = sent} {middle = middle} sends (Says is))) =
        serves_with peer serving asked place middle.after fits
        (posts_each tells (length old.events) 0 (map message_bytes (answers_of old came peer))
        (with_event old (serve_of old came peer asked)) (Ok sent) middle sends)

  -- what was taken
  tables_linked : (came : Delivery) (index : ℕ) (entries : List Entry) (files : List FileReplica)
      → IsLinked (TakesTables came index entries files)
  tables_linked came index entries files old result left (Takes is up place gives) =
      quiet (OneTurned is (HasSaved up (ap (λ (r : Replica). r.saved.generation) gives.replica) (inl refl))) refl
  tables_linked came index entries files old result left (TakesNot is up place gives) =
      quiet (OneTurned is (HasPending (ap (λ (r : Replica). r.saved.generation) gives.replica))) refl
  tables_linked came index entries files old result left (Refuses is up no_memory gives) = still old

  spelled_linked : (came : Delivery) (index : ℕ) (bytes : List ℕ) → IsLinked (TakesSpelled came index bytes)
  spelled_linked came index bytes old result left (SpellsTables {entries = entries} {files = files} fits is takes) =
      tables_linked came index entries files old result left takes
  spelled_linked came index bytes old result left (SpellsNone none) = still old

  module _ (number : ℕ) (fetched : List ℕ) (old : Whole) (are : AreFetched tells old.post.posts number fetched) where
    fitting_linked : (came : Delivery) (head : PieceHead) (bytes : List ℕ) (was : Member)
        → IsNumbered old.members came.to was → HasCome tells old came.to was head bytes
        → (result : Result Answer Refusal) (left : Effect Whole) → TakesFitting came head bytes was old result left
        → Linked tells disks_tell old left.after
    fitting_linked came head bytes was is come result left (IsHeld held) = still old
    fitting_linked came head bytes was is come result left (IsOneMore lacks others lies) =
        quiet (OneTurned is (HasGathered come)) refl
    fitting_linked came head bytes was is come result left (IsTheLast lacks others takes) =
        spelled_linked came head.index (spelled_with was head bytes) old result left takes

    handles_linked : (m : Message) → IsSpelled (length old.members) fetched m → (result : Result Answer Refusal)
        (left : Effect Whole) → HandlesMessage tells number m old result left → Linked tells disks_tell old left.after
    handles_linked (message.Ask from to ask) spelled result left handles = serves_linked _ old result left handles
    handles_linked (message.Piece from to ask state pieces index bytes) spelled result left (Ends (TakerDown is down)) =
        still old
    handles_linked (message.Piece from to ask state pieces index bytes) spelled result left (Ends (AnswersNone is up none)) =
        still old
    handles_linked (message.Piece from to ask state pieces index bytes) spelled result left (Ends (OfAnotherState waits other)) =
        still old
    handles_linked (message.Piece from to ask state pieces index bytes) spelled result left
        (Ends (OfOtherPieces waits same other)) = still old
    handles_linked (message.Piece from to ask state pieces index bytes) spelled result left
        (Goes {a = was} {left = last} (FindsIt waits same counted) takes) =
        fitting_linked _ _ bytes was waits.is (record {
          number = number;
          fetched = fetched;
          are = are;
          spelled = spelled;
          own = refl;
          open_ask = waits.open_ask;
          state = same;
          pieces = counted;
        }) result last takes

  giving_linked : (number : ℕ) → IsLinked (GivesMessage tells number)
  giving_linked number old result left (Ends (Ends (NoMail none))) = still old
  giving_linked number old result left (Ends (Ends (NotFetched some fails))) = quiet NoneTurned (failed_posts fails)
  giving_linked number old result left (Ends (Goes (Fetched fetched) (Says reads))) = still old
  giving_linked number old result left
      (Goes {a = m} {left = last} (Goes {a = bytes} (Fetched fetched) (Says reads)) handles) =
      handles_linked number bytes old fetched m reads result last handles

  restart_linked : (by : ℕ) → IsLinked (First (FindsMember by) (Reopens disks_tell by))
  restart_linked by old result left (Ends (FindsNone none)) = still old
  restart_linked by old result left (Goes (Finds is) (ReopenedAsWas reads)) =
      quiet (OneTurned is (HasRestarted (inl reads.told))) refl
  restart_linked by old result left (Goes (Finds is) (ReopenedAsPending {pending = pending} down reads)) =
      quiet (OneTurned is (HasRestarted (inr (pending, down, reads.told)))) refl
  restart_linked by old result left (Goes (Finds is) NotReopened) = quiet (OneTurned is IsDown) refl
  restart_linked by old result left (Goes (Finds is) (NoImageFound none)) = quiet (OneTurned is IsDown) refl

  arming_linked : (by calls pick : ℕ) (was : Member) (old : Whole) (result : Result Answer Refusal)
      (left : Effect Whole) → ArmsDisks by calls pick was old result left → Linked tells disks_tell old left.after
  arming_linked by calls pick was old result left (Arms fused) = still old
  arming_linked by calls pick was old result left (ArmsNone none) = still old

  peers_linked : (by other : ℕ) (rule : Compared → Whole → Result Answer Refusal → Type 0)
      → IsLinked (First (FindsPeers by other) (λ both. ByRule (rule both)))
  peers_linked by other rule old result left (Ends (FindsNoPeers none)) = still old
  peers_linked by other rule old result left (Ends (FindsOneDown peers is is_too down)) = still old
  peers_linked by other rule old result left (Goes (FindsBoth peers is is_too up up_too) (Says told)) = still old

  pub link_does : (c : Command) → (IsPull c → ⊥) → IsLinked (CarriesOut tells disks_tell c)
  link_does (command.Change by change) single = up_linked by _ (change_linked by change)
  link_does (command.Look by look) single =
      up_linked by _ (λ was old is up result left does. rule_linked _ old result left does)
  link_does (command.Collect by) single = up_linked by _ (collection_linked by)
  link_does (command.Ask by to) single = asking_linked by to
  link_does (command.Give number) single = giving_linked number
  link_does (command.Pull by to) single = absurd (single tt)
  link_does (command.Alike by other) single = peers_linked by other _
  link_does (command.Restart by) single = restart_linked by
  link_does (command.Stop by calls pick) single =
      up_linked by _ (λ was old is up result left does. arming_linked by calls pick was old result left does)
  link_does (command.Sweep order) single = λ old result left does. absurd does
  link_does (command.Why by) single = λ old result left does. absurd does
