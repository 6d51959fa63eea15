-- What the world comes to where it is given an ask to its member.
use Rattle.std.proofs.Common.{◌≡◌, ℕ, ◌+◌, ◌-◌, List, [], ◌∷◌, ◌++◌, length, map, Bool, true, false, Result, Ok, Err, refl, sym, ap, subst, ◌∙◌, append_assoc}
use Rattle.std.specs.Prelude.{All, IfOk, if◌then◌else◌, ◌==◌}
use Rattle.std.proofs.lemmas.List.{append-nil}
use Rattle.ficus_ids.specs.declared.refusal.Refusal.{Refusal}
use Rattle.ficus_ids.specs.declared.refusal.Refusal.TheVariants as refusal
use Rattle.ficus_model.specs.declared.event.Event.{Event}
use Rattle.ficus_opening.specs.declared.member.Member.{Member}
use Rattle.ficus_replica.specs.declared.replica.Replica.{Replica}
use Rattle.ficus_runs.specs.Exchange.{mailed}
use Rattle.ficus_runs.specs.Message.{IsSpelled}
use Rattle.ficus_runs.specs.Numbered.{IsNumbered}
use Rattle.ficus_runs.specs.Sequence.{Effect}
use Rattle.ficus_runs.specs.Sequence.ByRule.{Says}
use Rattle.ficus_runs.specs.Sequence.First.{Ends, Goes}
use Rattle.ficus_runs.proofs.Numbers.{number_once}
use Rattle.ficus_script.specs.declared.answer.Answer.{Answer}
use Rattle.ficus_script.specs.declared.answer.Answer.TheVariants.{Mail, Mails, Refused}
use Rattle.ficus_script.specs.declared.command.Command.TheVariants as command
use Rattle.ficus_wire.specs.Message.{FitsMessage, ask_of, message_bytes}
use Rattle.ficus_wire.specs.declared.message.Message.{Message}
use Rattle.ficus_wire.specs.declared.message.Route.{Route}
use Rattle.ficus_world.specs.Moves.{CarriesOut, HandlesMessage, IsServing, SendsAnswers, SendsEach, ServesAsk, answers_of, with_event, with_post}
use Rattle.ficus_world.specs.Moves.FetchesBytes.{NoMail, NotFetched, Fetched}
use Rattle.ficus_world.specs.Moves.Sends.{Sent, NotSent}
use Rattle.ficus_world.specs.Moves.ServesAsk.{ServerDown, NoRoomToServe, Serves}
use Rattle.ficus_world.specs.World.{IsReplica, Whole}
use Rattle.ficus_world.proofs.Lifting.Spelling.{one_message}
use Rattle.ficus_world.proofs.machines.Sends.{failed_posts}
use Rattle.ficus_machine.specs.Answers.{pieces_of}

-- the pieces of what its member has saved were posted, and the members stay
pub record IsServed (me : ℕ) (way : Route) (old after : Whole) (more : List (List ℕ)) : Type 0 where
  pub replica : Replica
  pub is : IsReplica old.members me replica
  pub members : after.members ≡ old.members
  pub more_are : more ≡ map message_bytes (pieces_of old me way replica)
  pub fits : All (FitsMessage (length old.members)) (pieces_of old me way replica)

-- more was posted, which answers the ask where it wasn't refused
pub record GivesAsk (me : ℕ) (way : Route) (old : Whole) (result : Result Answer Refusal) (after : Whole) : Type 0 where
  pub more : List (List ℕ)
  pub posts : after.post.posts ≡ old.post.posts ++ more
  pub members : after.members ≡ old.members
  pub served : IfOk result (λ given. IsServed me way old after more)
  pub no_refusal : (r : Refusal) → result ≡ Ok (Refused r) → ⊥

-- more of a list was posted, or all of it
record PostsMore (list : List (List ℕ)) (old : Whole) (result : Result (Unit {0}) Refusal) (after : Whole) : Type 0 where
  more : List (List ℕ)
  posts : after.post.posts ≡ old.post.posts ++ more
  members : after.members ≡ old.members
  all : (sent : Unit {0}) → result ≡ Ok sent → more ≡ list

posts_more : (position index : ℕ) (list : List (List ℕ)) (old : Whole) (result : Result (Unit {0}) Refusal)
    (left : Effect Whole) → SendsEach (Unit {0}) position index list old result left
    → PostsMore list old result left.after
posts_more position index [] old result left (Says is) = record {
  more = [];
  posts = sym (append-nil old.post.posts);
  members = refl;
  all = λ sent same. refl;
}
posts_more position index (bytes ∷ list) old result left (Ends (NotSent {post = post} failed)) = record {
  more = [];
  posts = failed_posts old.post post failed;
  members = refl;
  all = λ sent same. absurd (cc);
}
posts_more position index (bytes ∷ list) old result left (Goes {left = last} (Sent {post = post} sent) sends) =
    let rest = posts_more position (index + 1) list (with_post old post) result last sends in
    record {
      more = bytes ∷ rest.more;
      posts =
          rest.posts ∙ ap (λ (front : List (List ℕ)). front ++ rest.more) (sent.told tt)
          ∙ append_assoc old.post.posts (bytes ∷ []) rest.more;
      members = rest.members;
      all = λ sent same. ap (λ (more : List (List ℕ)). bytes ∷ more) (rest.all sent same);
    }

-- an ask that is served isn't answered with a refusal
numbers_no_refusal : (b : Bool) (first last : ℕ) (r : Refusal)
    → (if b then Mail first else Mails first last) ≡ Refused r → ⊥
numbers_no_refusal true first last r same = cc
numbers_no_refusal false first last r same = cc

mailed_no_refusal : (first count : ℕ) (r : Refusal) → mailed first count ≡ Refused r → ⊥
mailed_no_refusal first count r same = numbers_no_refusal (count == 1) first (first + count - 1) r same

module _ (disks_tell : Type 0) (number : ℕ) (way : Route) (old : Whole) where
  -- it is refused, and nothing is posted
  idle : (r : Refusal) (after : Whole) → after.post.posts ≡ old.post.posts ++ [] → after.members ≡ old.members
      → GivesAsk way.to way old (Err r) after
  idle r after posts members = record {
    more = [];
    posts = posts;
    members = members;
    served = tt;
    no_refusal = λ again same. cc;
  }

  module _ (peer : Member)
      (serving : IsServing old (record { mail = number; from = way.from; to = way.to; ask = way.number }) peer)
      (event : Event) (fits : All (FitsMessage (length old.members)) (pieces_of old way.to way peer.replica)) where
    sent : (result : Result Answer Refusal) (left : Effect Whole)
        → SendsAnswers (Unit {0}) old (pieces_of old way.to way peer.replica) (with_event old event) result left
        → GivesAsk way.to way old result left.after
    sent result left (Ends {refusal = refused} sends) =
        let each = posts_more (length old.events) 0 (map message_bytes (pieces_of old way.to way peer.replica))
        (with_event old event) (Err refused) left sends in
        record {
          more = each.more;
          posts = each.posts;
          members = each.members;
          served = tt;
          no_refusal = λ again same. cc;
        }
    sent (Ok given) left (Goes {a = posted} {middle = middle} sends (Says gives)) =
        let each = posts_more (length old.events) 0 (map message_bytes (pieces_of old way.to way peer.replica))
        (with_event old event) (Ok posted) middle sends in
        record {
          more = each.more;
          posts = each.posts;
          members = each.members;
          served = record {
            replica = peer.replica;
            is = record { member = peer; is = serving.is; up = serving.up; holds = refl };
            members = each.members;
            more_are = each.all posted refl;
            fits = fits;
          };
          no_refusal = λ again same.
              let number_is : given ≡ Refused again = cc in
              mailed_no_refusal (length old.post.posts + 1) (length (pieces_of old way.to way peer.replica)) again
              (sym gives ∙ number_is);
        }
    sent (Err refused) left (Goes sends (Says gives)) = absurd gives

  serves : (result : Result Answer Refusal) (left : Effect Whole)
      → ServesAsk (Unit {0}) (record { mail = number; from = way.from; to = way.to; ask = way.number }) old result left
      → GivesAsk way.to way old result left.after
  serves result left (ServerDown is down) = idle refusal.Down old (sym (append-nil old.post.posts)) refl
  serves result left (NoRoomToServe serving full) = idle refusal.LinkFull old (sym (append-nil old.post.posts)) refl
  serves result left (Serves {peer = peer} {asked = asked} {result = given} {left = last} serving place room fits sends) =
      sent peer serving _ fits given last sends

  module _ (fits : FitsMessage (length old.members) (ask_of way))
      (is : IsNumbered old.post.posts number (message_bytes (ask_of way))) where
    -- the bytes of that number spell the ask, and nothing else
    is_ask : (found : List ℕ) (m : Message) → IsNumbered old.post.posts number found
        → IsSpelled (length old.members) found m → m ≡ ask_of way
    is_ask found m at spelled =
        one_message (length old.members) m (ask_of way) spelled.fits fits (sym spelled.is ∙ number_once at is)

    pub gives_ask_to : (result : Result Answer Refusal) (left : Effect Whole)
        → CarriesOut (Unit {0}) disks_tell (command.Give number) old result left
        → GivesAsk way.to way old result left.after
    gives_ask_to result left (Ends (Ends (NoMail none))) = absurd (none is.member)
    gives_ask_to result left (Ends (Ends (NotFetched {post = post} some failed))) =
        idle refusal.Link (with_post old post) (failed_posts old.post post failed) refl
    gives_ask_to result left (Ends (Goes (Fetched {bytes = found} fetched) (Says {result = Err refused} none))) =
        idle refused old (sym (append-nil old.post.posts)) refl
    gives_ask_to result left
        (Goes {a = m} {left = last} (Goes (Fetched {bytes = found} fetched) (Says spelled)) handles) =
        serves result last
        (subst (λ (one : Message). HandlesMessage (Unit {0}) number one old result last)
        (is_ask found m (fetched.told tt) spelled) handles)

-- the world is given an ask to member `me`
pub gives_ask : (disks_tell : Type 0) (me number : ℕ) (way : Route) (old : Whole) → way.to ≡ me
    → FitsMessage (length old.members) (ask_of way)
    → IsNumbered old.post.posts number (message_bytes (ask_of way))
    → (result : Result Answer Refusal) (left : Effect Whole)
    → CarriesOut (Unit {0}) disks_tell (command.Give number) old result left
    → GivesAsk me way old result left.after
gives_ask disks_tell me number way old own fits is result left does =
    subst (λ n. GivesAsk n way old result left.after) own
    (gives_ask_to disks_tell number way old fits is result left does)
