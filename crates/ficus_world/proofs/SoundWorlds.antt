-- What holds of every world stays so as commands change it.
use Rattle.std.proofs.Common.{◌≡◌, ℕ, ◌+◌, ◌-◌, ◌*◌, ◌≤◌, List, [], ◌∷◌, ◌++◌, length, Option, Result, Ok, Err, Some, None, sym, ap, subst, ◌∙◌, inl, inr, arith}
use Rattle.std.specs.Prelude.{slice_set, All, IfOk, OnErr, sum_by}
use Rattle.std.proofs.lemmas.List.{length-set, length_push}
use Rattle.std.proofs.lemmas.List.Elements.{All-head, All-push, All-tail}
use Rattle.std.proofs.lemmas.List.Sums.{sum_by-cons}
use Rattle.ficus_ids.specs.Members.{IsCount, IsMember}
use Rattle.ficus_ids.specs.declared.refusal.Refusal.{Refusal}
use Rattle.ficus_model.specs.declared.event.Event.{Event}
use Rattle.ficus_model.specs.Events.{actor}
use Rattle.ficus_durable_state.specs.Saved.{FitsImage}
use Rattle.ficus_durable_state.specs.declared.saved.Saved.{Saved}
use Rattle.ficus_stable_storage.specs.Leads.Holds.{Leads}
use Rattle.ficus_stable_storage.proofs.leads.Led.{led_next}
use Rattle.ficus_record.specs.declared.record.Record.{Record}
use Rattle.ficus_record.specs.declared.record.Record.TheVariants.{Accept, Ask, Change, Collect}
use Rattle.ficus_replica.specs.Makes.{Makes}
use Rattle.ficus_replica.specs.declared.replica.Replica.{Replica}
use Rattle.ficus_runs.specs.Exchange.{total_limit}
use Rattle.ficus_runs.specs.Numbered.{IsNumbered}
use Rattle.ficus_runs.specs.Sequence.{Effect}
use Rattle.ficus_runs.specs.Sequence.ByRule.{Says}
use Rattle.ficus_runs.specs.Sequence.First.{Ends, Goes}
use Rattle.ficus_wire.specs.Parts.{HeldParts}
use Rattle.ficus_opening.specs.declared.member.Member.{Member}
use Rattle.ficus_opening.specs.declared.member.MemberState.{MemberState}
use Rattle.ficus_opening.specs.declared.member.MemberState.TheVariants.{Up, Down}
use Rattle.ficus_opening.specs.declared.member.Pending.{Pending}
use Rattle.ficus_world.specs.declared.post.Behind.{Behind}
use Rattle.ficus_world.specs.Moves.{IsLike, SendsEach, restarted, still_pending}
use Rattle.ficus_world.specs.Moves.Sends.{NotSent, Sent}
use Rattle.ficus_world.specs.Post.{Outbox, IsSent, HasFailed}
use Rattle.ficus_world.specs.World.{Whole, IsPendingSound, IsSound, IsSoundMember, IsSoundNext, IsWorld, message_limit, smallest_message}
use Rattle.ficus_runs.proofs.Replaced.{replaced}
use Rattle.ficus_why.specs.Plain.{IsPlain}

pub sound_more : {count events more r : ℕ} {replica : Replica} → IsSound count events r replica → events ≤ more
    → IsSound count more r replica
sound_more sound h = record {
  me = sound.me;
  members = sound.members;
  fits = sound.fits;
  generation = omega (arith, sound.generation);
}

pending_more : (count events more r : ℕ) (replica : Replica) (state : MemberState)
    → IsPendingSound count events r replica state → events ≤ more → IsPendingSound count more r replica state
pending_more count events more r replica Up is h = tt
pending_more count events more r replica (Down None) is h = tt
pending_more count events more r replica (Down (Some pending)) is h =
    (sound_more is.0 (omega (arith, h)), is.1, is.2)

pub member_more : {count events more r : ℕ} {member : Member} → IsSoundMember count events r member → events ≤ more
    → IsSoundMember count more r member
member_more {count} {events} {more} {r} {member} sound h = record {
  replica = sound_more sound.replica h;
  pending = pending_more count events more r member.replica member.state sound.pending h;
}

-- what is pending at a member that stays down is sound
still_sound : (count events r : ℕ) (replica : Replica) (state : MemberState)
    → IsPendingSound count events r replica state
    → IsPendingSound count events r replica (Down (still_pending state))
still_sound count events r replica Up is = tt
still_sound count events r replica (Down None) is = tt
still_sound count events r replica (Down (Some pending)) is = is

-- a member that is up and saves an event of its own is sound, whether its save is done
pub held_sound : {count events r : ℕ} (was : Member) (parts : Option HeldParts) {noted : List ℕ} {replica : Replica}
    → was.state ≡ Up → IsSoundNext count events r noted was.replica replica
    → IsSoundMember count (events + 1) r (record was { replica = replica; parts = parts })
held_sound {count} {events} {r} was parts {replica = replica} up next = record {
  replica = next.sound;
  pending = subst (IsPendingSound count (events + 1) r replica) (sym up) tt;
}

module _ {count events r : ℕ} {was : Member} where
  -- or not
  pub put_down_sound : {noted : List ℕ} {pending : Pending} → IsSoundMember count events r was
      → IsSoundNext count events r noted was.replica pending.replica → actor pending.event ≡ r
      → IsSoundMember count events r (record was { state = Down (Some pending) })
  put_down_sound sound next own =
      record { replica = sound.replica; pending = (next.sound, led_next _ _ _ next.leads, own) }

  -- a member that stays down is sound
  pub keep_down_sound : IsSoundMember count events r was
      → IsSoundMember count events r (record was { state = Down (still_pending was.state) })
  keep_down_sound sound = record {
    replica = sound.replica;
    pending = still_sound count events r was.replica was.state sound.pending;
  }

-- and so is one that restarts with what is like what it had
pub restarted_sound : {count events r : ℕ} (was : Member) {known : Replica} {read : Saved}
    → IsSound count events r known → IsLike known.saved read → FitsImage read
    → IsSoundMember count events r (restarted was read)
restarted_sound was sound like fits = record {
  replica = record {
    me = like.me ∙ sound.me;
    members = like.members ∙ sound.members;
    fits = fits;
    generation = omega (arith, like.generation, sound.generation);
  };
  pending = tt;
}

-- Where an event of a member comes, the stored events are plain still.
module _ {old : Whole} (world : IsWorld old) where
  pub one_of_eight : {r : ℕ} → IsMember (length old.members) r → IsMember 8 r
  one_of_eight member =
      record { at_least = member.at_least; at_most = omega (arith, member.at_most, world.count.at_most) }

  pub plain_with : {r : ℕ} (event : Event) → IsMember (length old.members) r → actor event ≡ r
      → IsPlain (old.events ++ event ∷ [])
  plain_with event member own =
      All-push (λ e. IsMember 8 (actor e)) old.events event world.plain
      (subst (IsMember 8) (sym own) (one_of_eight member))

-- a member stands in place of another, behind at least as many events, which are plain
module _ (old : Whole) (events : List Event) (r : ℕ) (was now : Member) (is : IsNumbered old.members r was)
    (world : IsWorld old) (sound : IsSoundMember (length old.members) (length events) r now)
    (grown : length old.events ≤ length events) (plain : IsPlain events) where
  abbrev holding : List Member
  holding = slice_set old.members (r - 1) now

  as_many : length holding ≡ length old.members
  as_many = length-set old.members (r - 1) now

  each : (q : ℕ) (found : Member) → IsNumbered holding q found →
      IsSoundMember (length old.members) (length events) q found
  each q found at =
      elim (replaced old.members r q now found is.member.at_least at) [
        | inl (here, swapped) ↦
            subst (λ n. IsSoundMember (length old.members) (length events) n found) (sym here)
            (subst (λ (m : Member). IsSoundMember (length old.members) (length events) r m) (sym swapped) sound)
        | inr (differs, kept) ↦ member_more (world.sound q found kept) grown
      ]

  pub world_after : (members : List Member) → members ≡ holding
      → IsWorld (record old { members = members; events = events })
  world_after members holds =
      subst (λ list. IsWorld (record old { members = list; events = events })) (sym holds) (record {
        count = subst IsCount (sym as_many) world.count;
        sound = λ q found at. subst (λ n. IsSoundMember n (length events) q found) (sym as_many) (each q found at);
        plain = plain;
        counted = world.counted;
        few = world.few;
        within = world.within;
      })

-- what holds of all that is posted in every world
pub record AreCounted (post : Outbox) : Type 0 where
  pub counted : length post.posts ≡ length post.behind
  pub few : smallest_message * length post.posts ≤ post.total
  pub within : length post.posts ≤ message_limit

pub counted_in : {world : Whole} → IsWorld world → AreCounted world.post
counted_in world = record { counted = world.counted; few = world.few; within = world.within }

-- one message more, for which there is room
pub sent_counted : {tells : Type 0} {old new : Outbox} {behind : Behind} {bytes : List ℕ} {number : ℕ}
    → smallest_message ≤ length bytes → old.total + length bytes ≤ total_limit → AreCounted old
    → IsSent tells old behind bytes number new → AreCounted new
sent_counted {tells} {old} {new} {behind} some room counts sent =
    let longer = ap (λ (list : List Behind). length list) sent.behind_is ∙ length_push old.behind behind in
    record {
      counted = sent.counted ∙ ap (λ k. k + 1) counts.counted ∙ sym longer;
      few = omega (arith, sent.counted, sent.total, counts.few, some);
      within = omega (arith, sent.counted, counts.few, some, room);
    }

-- none more, where the link failed
pub failed_counted : {old new : Outbox} → AreCounted old → HasFailed old new → AreCounted new
failed_counted {old} {new} counts failed =
    subst AreCounted (sym failed.same)
    (record { counted = counts.counted; few = counts.few; within = counts.within })

-- several messages, or the first of them
pub each_counted : (tells : Type 0) (position index : ℕ) (messages : List (List ℕ)) (old : Whole)
    (result : Result (Unit {0}) Refusal) (left : Effect Whole) → All (λ bytes. smallest_message ≤ length bytes) messages
    → old.post.total + sum_by length messages ≤ total_limit → AreCounted old.post
    → SendsEach tells position index messages old result left → AreCounted left.after.post
each_counted tells position index [] old result left some room counts (Says is) = counts
each_counted tells position index (bytes ∷ more) old result left some room counts (Ends (NotSent failed)) =
    failed_counted counts failed
each_counted tells position index (bytes ∷ more) old result left some room counts
    (Goes {left = last} (Sent {post = post} sent) rest) =
    let all = sum_by-cons length bytes more in
    each_counted tells position (index + 1) more (record old { post = post }) result last
    (All-tail (λ bytes. smallest_message ≤ length bytes) bytes more some)
    (omega (arith, room, all, sent.total))
    (sent_counted (All-head (λ bytes. smallest_message ≤ length bytes) bytes more some) (omega (arith, room, all)) counts
    sent) rest

-- something is posted, with at least as many events stored
module _ (old : Whole) (world : IsWorld old) where
  pub more_stored : (events : List Event) → length old.events ≤ length events → IsPlain events
      → IsWorld (record old { events = events })
  more_stored events grown plain = record {
    count = world.count;
    sound = λ r member is. member_more (world.sound r member is) grown;
    plain = plain;
    counted = world.counted;
    few = world.few;
    within = world.within;
  }

  pub world_posted : (post : Outbox) → AreCounted post → IsWorld (record old { post = post })
  world_posted post counts = record {
    count = world.count;
    sound = world.sound;
    plain = world.plain;
    counted = counts.counted;
    few = counts.few;
    within = counts.within;
  }

  -- one message more at most, where there is room for it
  pub sent_counts : (tells : Type 0) (behind : Behind) (bytes : List ℕ) (post : Outbox) (result : Result ℕ Refusal)
      → smallest_message ≤ length bytes → old.post.total + length bytes ≤ total_limit
      → IfOk result (λ n. IsSent tells old.post behind bytes n post) → OnErr result (HasFailed old.post post)
      → AreCounted post
  sent_counts tells behind bytes post (Ok n) some room sent failed = sent_counted some room (counted_in world) sent
  sent_counts tells behind bytes post (Err r) some room sent failed = failed_counted (counted_in world) failed

-- an event of its own leaves a replica the same member of as many
made_same : (old new : Saved) (noted : Record) → Makes old noted new → (new.me ≡ old.me) × (new.members ≡ old.members)
made_same old new (Change op) makes = (ap (λ (s : Saved). s.me) makes.saved, ap (λ (s : Saved). s.members) makes.saved)
made_same old new Ask makes = (ap (λ (s : Saved). s.me) makes, ap (λ (s : Saved). s.members) makes)
made_same old new (Accept entries files) makes =
    (ap (λ (s : Saved). s.me) makes.saved, ap (λ (s : Saved). s.members) makes.saved)
made_same old new Collect makes = (ap (λ (s : Saved). s.me) makes.saved, ap (λ (s : Saved). s.members) makes.saved)

-- what it makes of a sound replica is sound
pub noted_sound : {count events r : ℕ} {noted : List ℕ} {old new : Replica} → IsSound count events r old
    → Leads noted old.saved new.saved → IsSoundNext count events r noted old new
noted_sound {noted = noted} {old = old} {new = new} sound leads =
    let same = made_same old.saved new.saved leads.noted leads.step.makes in
    record {
      sound = record {
        me = same.0 ∙ sound.me;
        members = same.1 ∙ sound.members;
        fits = leads.step.fits;
        generation = omega (arith, led_next noted old.saved new.saved leads, sound.generation);
      };
      leads = leads;
    }
