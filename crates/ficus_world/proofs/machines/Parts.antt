-- A machine and the world of which it is a part: members of both, and what is a step of all.
use Rattle.std.proofs.Common.{◌≡◌, ◌≢◌, ℕ, ◌-◌, ◌<◌, ◌≤◌, List, [], ◌++◌, length, Result, refl, sym, subst, ◌∙◌, inl, inr, ◌⊎◌, arith}
use Rattle.std.specs.Prelude.{slice_set}
use Rattle.std.proofs.lemmas.List.{append-nil, get_or-set_other, get_or-set_same, length-set}
use Rattle.std.proofs.lemmas.Option.{get_or_from_slice_get}
use Rattle.ficus_ids.specs.Members.{IsMember}
use Rattle.ficus_ids.specs.declared.refusal.Refusal.{Refusal}
use Rattle.ficus_model.specs.declared.event.Event.{Event}
use Rattle.ficus_script.specs.declared.answer.Answer.{Answer}
use Rattle.ficus_script.specs.declared.command.Command.{Command}
use Rattle.ficus_runs.specs.Numbered.{IsNumbered}
use Rattle.ficus_runs.specs.Outcome.{Outcome}
use Rattle.ficus_runs.specs.Peers.{ArePeers}
use Rattle.ficus_runs.proofs.Numbers.{number_exists, number_read}
use Rattle.ficus_runs.proofs.Replaced.{replaced}
use Rattle.ficus_opening.specs.declared.member.Member.{Member}
use Rattle.ficus_opening.specs.declared.member.MemberState.TheVariants as state
use Rattle.ficus_world.specs.Moves.{CarriesOut}
use Rattle.ficus_world.specs.Post.{Outbox}
use Rattle.ficus_world.specs.World.{Whole, whole_of}
use Rattle.ficus_world.specs.Machines.Part.{AreAlike, AreGenuine, Deed, IsAnswerLike, IsPartOf, IsSameDeed, IsStepOfAll, seen_from}
use Rattle.ficus_world.specs.Machines.Part.IsAnswerLike.{Same}
use Rattle.ficus_world.proofs.machines.Alike.{alike_up, genuine_each, up_here}

-- where one in a list is replaced, all others stay
pub number_kept : {A : Type 0} (list : List A) (r q : ℕ) (next kept : A) → 1 ≤ r → q ≢ r → IsNumbered list q kept
    → IsNumbered (slice_set list (r - 1) next) q kept
number_kept list r q next kept one differs is =
    let from_one = is.member.at_least in
    let other : q - 1 ≢ r - 1 = λ same. differs (omega (arith, same, one, from_one)) in
    number_read (slice_set list (r - 1) next) q kept kept
    (subst (λ n. IsMember n q) (sym (length-set list (r - 1) next)) is.member)
    (get_or-set_other list (r - 1) (q - 1) next kept other ∙ get_or_from_slice_get list (q - 1) kept kept is.is)

-- and the new one stands in its place
pub number_put : {A : Type 0} (list : List A) (r : ℕ) (next : A) → IsMember (length list) r
    → IsNumbered (slice_set list (r - 1) next) r next
number_put list r next member =
    let one = member.at_least in
    let most = member.at_most in
    let within : r - 1 < length list = omega (arith, one, most) in
    number_read (slice_set list (r - 1) next) r next next
    (subst (λ n. IsMember n r) (sym (length-set list (r - 1) next)) member)
    (get_or-set_same list (r - 1) next next within)

module _ (r : ℕ) (machine all : Whole) (part : IsPartOf r machine all) where
  pub member_there : (q : ℕ) → IsMember (length machine.members) q → IsMember (length all.members) q
  member_there q member = subst (λ n. IsMember n q) part.count member

  pub member_here : (q : ℕ) → IsMember (length all.members) q → IsMember (length machine.members) q
  member_here q member = subst (λ n. IsMember n q) (sym part.count) member

  pub peers_there : (by other : ℕ) → ArePeers (length machine.members) by other → ArePeers (length all.members) by other
  peers_there by other peers = subst (λ n. ArePeers n by other) part.count peers

  pub peers_here : (by other : ℕ) → ArePeers (length all.members) by other → ArePeers (length machine.members) by other
  peers_here by other peers = subst (λ n. ArePeers n by other) (sym part.count) peers

  module _ (was : Member) (is : IsNumbered machine.members r was) where
    pub found_there : (other : Member) × IsNumbered all.members r other
    found_there = number_exists all.members r (member_there r is.member)

    abbrev pub was_there : Member
    was_there = found_there.0

    pub alike_there : AreAlike was was_there
    alike_there = part.alike was was_there is found_there.1

    -- the member itself, where it is up
    pub same_there : was.state ≡ state.Up → IsNumbered all.members r was
    same_there up =
        subst (λ (m : Member). IsNumbered all.members r m) (sym (alike_up was was_there alike_there up)) found_there.1

    pub still_down : (was.state ≡ state.Up → ⊥) → was_there.state ≡ state.Up → ⊥
    still_down down up = down (up_here was.state was_there.state alike_there.state up)

  -- the world of all, as the machine's link has it
  abbrev pub there : Whole
  there = seen_from machine all

  module _ (tells disks_tell : Type 0) (deed : Deed) (asked : Command) (same : IsSameDeed r all deed asked)
      (result again : Result Answer Refusal) (like : IsAnswerLike result again) (outcomes : List Outcome)
      (post post_there : Outbox) (more : List (List ℕ)) (posted : post.posts ≡ machine.post.posts ++ more)
      (sent : post_there.posts ≡ all.post.posts ++ more) where
    genuine_then : AreGenuine post.posts post_there.posts
    genuine_then =
        subst (λ (p : List (List ℕ)). AreGenuine p post_there.posts) (sym posted)
        (subst (λ (a : List (List ℕ)). AreGenuine (machine.post.posts ++ more) a) (sym sent)
        (genuine_each more machine.post.posts all.post.posts part.genuine))

    -- no member changes
    pub still : (events events_there : List Event)
        → CarriesOut tells disks_tell asked there again
        (record { outcomes = outcomes; after = whole_of all.members events_there post_there })
        → IsStepOfAll tells disks_tell r machine all deed result outcomes (whole_of machine.members events post)
    still events events_there does = record {
      asked = asked;
      same = same;
      again = again;
      like = like;
      new = whole_of all.members events_there post_there;
      does = does;
      part = record { count = part.count; alike = part.alike; genuine = genuine_then };
      others = λ q member differs is. is;
      count = refl;
      more = more;
      posted = posted;
      sent = sent;
    }

    -- the member changes
    module _ (was next next_there : Member) (is : IsNumbered machine.members r was) (alike : AreAlike next next_there)
      where
        pair_then : (one other : Member)
            → ((r ≡ r) × (one ≡ next)) ⊎ ((r ≢ r) × IsNumbered machine.members r one)
            → ((r ≡ r) × (other ≡ next_there)) ⊎ ((r ≢ r) × IsNumbered all.members r other) → AreAlike one other
        pair_then one other (inl here) (inl also) =
            subst (λ (m : Member). AreAlike m other) (sym here.1)
            (subst (λ (m : Member). AreAlike next m) (sym also.1) alike)
        pair_then one other (inr here) also = absurd (here.0 refl)
        pair_then one other here (inr also) = absurd (also.0 refl)

        alike_then : (one other : Member) → IsNumbered (slice_set machine.members (r - 1) next) r one
            → IsNumbered (slice_set all.members (r - 1) next_there) r other → AreAlike one other
        alike_then one other at at_there =
            pair_then one other (replaced machine.members r r next one is.member.at_least at)
            (replaced all.members r r next_there other is.member.at_least at_there)

        pub changes : (events events_there : List Event)
            → CarriesOut tells disks_tell asked there again
            (record {
              outcomes = outcomes;
              after = whole_of (slice_set all.members (r - 1) next_there) events_there post_there;
            })
            → IsStepOfAll tells disks_tell r machine all deed result outcomes
            (whole_of (slice_set machine.members (r - 1) next) events post)
        changes events events_there does = record {
          asked = asked;
          same = same;
          again = again;
          like = like;
          new = whole_of (slice_set all.members (r - 1) next_there) events_there post_there;
          does = does;
          part = record {
            count =
                length-set machine.members (r - 1) next ∙ part.count
                ∙ sym (length-set all.members (r - 1) next_there);
            alike = alike_then;
            genuine = genuine_then;
          };
          others = λ q member differs at.
              number_kept all.members r q next_there member is.member.at_least differs at;
          count = length-set all.members (r - 1) next_there;
          more = more;
          posted = posted;
          sent = sent;
        }

  -- nothing is posted
  module _ (tells disks_tell : Type 0) (deed : Deed) (asked : Command) (same : IsSameDeed r all deed asked)
      (result : Result Answer Refusal) where
    pub idles : CarriesOut tells disks_tell asked there result (record { outcomes = []; after = there })
        → IsStepOfAll tells disks_tell r machine all deed result [] machine
    idles does =
        still tells disks_tell deed asked same result result Same [] machine.post there.post []
        (sym (append-nil machine.post.posts)) (sym (append-nil all.post.posts)) machine.events all.events does

    pub changes_alone : (outcomes : List Outcome) (was next next_there : Member) → IsNumbered machine.members r was
        → AreAlike next next_there → (events events_there : List Event)
        → CarriesOut tells disks_tell asked there result
        (record {
          outcomes = outcomes;
          after = whole_of (slice_set all.members (r - 1) next_there) events_there there.post;
        })
        → IsStepOfAll tells disks_tell r machine all deed result outcomes
        (whole_of (slice_set machine.members (r - 1) next) events machine.post)
    changes_alone outcomes was next next_there is alike events events_there does =
        changes tells disks_tell deed asked same result result Same outcomes machine.post there.post []
        (sym (append-nil machine.post.posts)) (sym (append-nil all.post.posts)) was next next_there is alike events
        events_there does
