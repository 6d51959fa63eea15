-- A world of the model has one world that stands for it, with so many stored events and failures of its link.
use Rattle.std.proofs.Common.{◌≡◌, ℕ, ◌+◌, ◌-◌, List, [], ◌∷◌, length, map, get_or, drop, Some, None, refl, sym, ap, ap₂, subst, ◌∙◌, arith}
use Rattle.std.proofs.Math.Seq.{drop-append_seam}
use Rattle.std.proofs.lemmas.List.{ext_get_or}
use Rattle.ficus_ids.specs.Members.{IsMember}
use Rattle.ficus_model.specs.declared.event.Event.{Event}
use Rattle.ficus_model.specs.declared.event.Event.TheVariants.{Serve, Take, Accept}
use Rattle.ficus_model.specs.Events.{raised}
use Rattle.ficus_model.specs.Lawful.{Volume, IsLawful}
use Rattle.ficus_replica.proofs.Standing.{replica_once}
use Rattle.ficus_wire.specs.Message.{message_bytes}
use Rattle.ficus_wire.specs.declared.message.Message.{Message}
use Rattle.ficus_why_runs.specs.Row.{lowered, run_of}
use Rattle.ficus_runs.specs.Message.{IsMessageAt}
use Rattle.ficus_runs.specs.ModelWorld.{ModelWorld, Posted, Standing}
use Rattle.ficus_runs.specs.ModelWorld as model
use Rattle.ficus_runs.specs.Numbered.{IsNumbered}
use Rattle.ficus_opening.specs.declared.member.Member.{Member}
use Rattle.ficus_opening.specs.declared.member.MemberState.{MemberState}
use Rattle.ficus_opening.specs.declared.member.MemberState.TheVariants as state
use Rattle.ficus_opening.specs.declared.member.Pending.{Pending}
use Rattle.ficus_world.specs.declared.post.Behind.{Behind}
use Rattle.ficus_world.specs.World.{Whole, IsLastPart, IsPendingFor, IsPosted, StateStandsFor, WorldStandsFor}
use Rattle.ficus_world.proofs.Lifting.LastPart.{length_part}
use Rattle.ficus_runs.proofs.Messages.{message_once}
use Rattle.ficus_runs.proofs.Numbers.{number_read, number_once, number_exists}
use Rattle.ficus_world.proofs.Lifting.Held.{held_once}
use Rattle.ficus_world.proofs.Lifting.Pending.{comes_now}
use Rattle.ficus_world.proofs.Lifting.Standing.{fuses_of, fuses_stand, member_stands, parts_stand, raise, replica_stands, standing_of}

lowered_again : (n : ℕ) (event : Event) → lowered n (raised n event) ≡ event
lowered_again n (Serve by ask state pieces) =
    let same : ask + n - n ≡ ask = omega arith in ap (λ position. Serve by position state pieces) same
lowered_again n (Take by serve piece) =
    let same : serve + n - n ≡ serve = omega arith in ap (λ position. Take by position piece) same
lowered_again n (Accept by serve piece) =
    let same : serve + n - n ≡ serve = omega arith in ap (λ position. Accept by position piece) same
lowered_again n event = refl

all_lowered : (n : ℕ) (events : List Event) → map (lowered n) (map (raised n) events) ≡ events
all_lowered n [] = refl
all_lowered n (event ∷ events) =
    ap₂ (λ (first : Event) (rest : List Event). first ∷ rest) (lowered_again n event) (all_lowered n events)

-- the stored events follow from the history and from how many are before them
pub stored_from : (events H : List Event) (part : IsLastPart events H) → events ≡ run_of (length part.earlier) H
stored_from events H part =
    let n = length part.earlier in
    sym (all_lowered n events)
    ∙ ap (map (lowered n)) (sym (ap (drop n) part.is ∙ drop-append_seam part.earlier (map (raised n) events)))

stored_once : (H one other : List Event) → IsLastPart one H → IsLastPart other H → length one ≡ length other →
    one ≡ other
stored_once H one other part part_too same =
    let before : length part.earlier ≡ length part_too.earlier =
    omega (arith, length_part one H part, length_part other H part_too) in
    stored_from one H part ∙ ap (λ n. run_of n H) before ∙ sym (stored_from other H part_too)

-- lists of one length with the same at each number are one
pub same_list : {A : Type 0} (one other : List A) → length one ≡ length other →
    ((r : ℕ) (a b : A) → IsNumbered one r a → IsNumbered other r b → a ≡ b) → one ≡ other
same_list [] [] same each = refl
same_list [] (x ∷ xs) same each = absurd (omega (arith, same))
same_list (x ∷ xs) other same each =
    ext_get_or x (x ∷ xs) other same (λ i within.
    let place : i + 1 - 1 ≡ i = omega arith in
    each (i + 1) (get_or (x ∷ xs) i x) (get_or other i x)
    (number_read (x ∷ xs) (i + 1) (get_or (x ∷ xs) i x) x (record { at_least = omega arith; at_most = omega arith })
    (ap (λ k. get_or (x ∷ xs) k x) place))
    (number_read other (i + 1) (get_or other i x) x (record { at_least = omega arith; at_most = omega (arith, same) })
    (ap (λ k. get_or other k x) place)))

-- one message of each number was posted, behind one position, with one index
posted_once : {volume : Volume} {W : ModelWorld} {number place index position again : ℕ} {bytes others : List ℕ} →
    IsPosted volume W number place index bytes → IsPosted volume W number position again others →
    (place ≡ position) × (index ≡ again) × (bytes ≡ others)
posted_once {volume} {W} {place = place} {index = index} {position = position} {again = again} is too =
    let same = number_once is.numbered too.numbered in
    let positions : place ≡ position = ap (λ (p : Posted). p.position) same in
    let indexes : index ≡ again = ap (λ (p : Posted). p.index) same in
    let messages = message_once volume W.events place index is.message too.message is.is
    (subst (λ p. IsMessageAt volume W.events p index too.message) (sym positions)
    (subst (λ n. IsMessageAt volume W.events position n too.message) (sym indexes) too.is)) in
    (positions, indexes, is.spelled.is ∙ ap (λ (m : Message). message_bytes m) messages ∙ sym too.spelled.is)

-- what is pending in the model is pending in one way
pending_once : (volume : Volume) (H : List Event) → IsLawful volume H → (n r : ℕ) (pending again : Pending)
    (event : Event) → IsPendingFor volume H n r pending event → IsPendingFor volume H n r again event → pending ≡ again
pending_once volume H lawful n r pending again event is too =
    let replicas = replica_once (comes_now volume H n r pending event lawful is).stands
    (comes_now volume H n r again event lawful too).stands in
    let events : pending.event ≡ again.event =
    sym (lowered_again n pending.event) ∙ ap (lowered n) (is.raises ∙ sym too.raises)
    ∙ lowered_again n again.event in
    λ i. record { replica = replicas i; event = events i }

-- so a member stands in one way
state_once : (volume : Volume) (H : List Event) → IsLawful volume H → (n r : ℕ) (one other : MemberState)
    (modelled : Standing) → StateStandsFor volume H n r one modelled → StateStandsFor volume H n r other modelled
    → one ≡ other
state_once volume H lawful n r state.Up state.Up model.Up is too = refl
state_once volume H lawful n r (state.Down None) (state.Down None) (model.Down None) is too = refl
state_once volume H lawful n r (state.Down (Some pending)) (state.Down (Some again)) (model.Down (Some event)) is too =
    ap (λ (p : Pending). state.Down (Some p)) (pending_once volume H lawful n r pending again event is too)
state_once volume H lawful n r state.Up state.Up (model.Down pending) is too = refl
state_once volume H lawful n r state.Up (state.Down None) model.Up is too = absurd too
state_once volume H lawful n r state.Up (state.Down (Some again)) model.Up is too = absurd too
state_once volume H lawful n r state.Up (state.Down again) (model.Down pending) is too = absurd is
state_once volume H lawful n r (state.Down None) other model.Up is too = absurd is
state_once volume H lawful n r (state.Down (Some pending)) other model.Up is too = absurd is
state_once volume H lawful n r (state.Down None) other (model.Down (Some event)) is too = absurd is
state_once volume H lawful n r (state.Down (Some pending)) other (model.Down None) is too = absurd is
state_once volume H lawful n r (state.Down None) state.Up (model.Down None) is too = absurd too
state_once volume H lawful n r (state.Down None) (state.Down (Some again)) (model.Down None) is too = absurd too
state_once volume H lawful n r (state.Down (Some pending)) state.Up (model.Down (Some event)) is too = absurd too
state_once volume H lawful n r (state.Down (Some pending)) (state.Down None) (model.Down (Some event)) is too =
    absurd too

module _ (volume : Volume) (W : ModelWorld) (one other : Whole) (stands : WorldStandsFor volume W one)
    (stands_too : WorldStandsFor volume W other) (stored : length one.events ≡ length other.events) where
  both_posted : (r : ℕ) (p q : Behind) (bytes others : List ℕ) → IsNumbered one.post.behind r p
      → IsNumbered other.post.behind r q → IsNumbered one.post.posts r bytes → IsNumbered other.post.posts r others
      → (p ≡ q) × (bytes ≡ others)
  both_posted r p q bytes others behind behind_too posts posts_too =
      let same = posted_once (stands.mail r p bytes behind posts) (stands_too.mail r q others behind_too posts_too) in
      let positions : p.position ≡ q.position = omega (
        arith,
        same.0,
        stored,
        length_part one.events W.events stands.stored,
        length_part other.events W.events stands_too.stored,
      ) in
      (λ i. record { position = positions i; index = same.1 i }, same.2)

  same_count : length one.post.behind ≡ length other.post.behind
  same_count = sym stands.posted ∙ stands_too.posted

  same_behind : one.post.behind ≡ other.post.behind
  same_behind =
      same_list one.post.behind other.post.behind same_count (λ r p q is is_too.
      let posts = number_exists one.post.posts r (subst (λ n. IsMember n r) (sym stands.counted) is.member) in
      let posts_too = number_exists other.post.posts r
      (subst (λ n. IsMember n r) (sym stands_too.counted) is_too.member) in
      (both_posted r p q posts.0 posts_too.0 is is_too posts.1 posts_too.1).0)

  same_posts : one.post.posts ≡ other.post.posts
  same_posts =
      same_list one.post.posts other.post.posts (stands.counted ∙ same_count ∙ sym stands_too.counted)
      (λ r bytes others is is_too.
      let behind = number_exists one.post.behind r (subst (λ n. IsMember n r) stands.counted is.member) in
      let behind_too = number_exists other.post.behind r (subst (λ n. IsMember n r) stands_too.counted is_too.member) in
      (both_posted r behind.0 behind_too.0 bytes others behind.1 behind_too.1 is is_too).1)

  -- where the stored events are raised by as many
  raises_same : raise volume W one stands ≡ raise volume W other stands_too
  raises_same = omega (
    arith,
    stored,
    length_part one.events W.events stands.stored,
    length_part other.events W.events stands_too.stored,
  )

  same_member : (r : ℕ) (a b : Member) → IsNumbered one.members r a → IsNumbered other.members r b → a ≡ b
  same_member r a b is is_too =
      let standing = standing_of volume W one stands r is.member in
      let fused = fuses_of volume W one stands r is.member in
      let replicas = replica_once (replica_stands volume W one stands r a is)
      (replica_stands volume W other stands_too r b is_too) in
      let parts = held_once volume W.events stands.lawful r a.parts b.parts (parts_stand volume W one stands r a is)
      (parts_stand volume W other stands_too r b is_too) in
      let states = state_once volume W.events stands.lawful (raise volume W one stands) r a.state b.state standing.0
      (member_stands volume W one stands r a is standing.0 standing.1)
      (subst (λ n. StateStandsFor volume W.events n r b.state standing.0) (sym raises_same)
      (member_stands volume W other stands_too r b is_too standing.0 standing.1)) in
      let fuses : a.fused ≡ b.fused =
      fuses_stand volume W one stands r a is fused.0 fused.1
      ∙ sym (fuses_stand volume W other stands_too r b is_too fused.0 fused.1) in
      λ i. record { replica = replicas i; parts = parts i; state = states i; fused = fuses i }

  pub world_once : one.post.faults ≡ other.post.faults → one ≡ other
  world_once faults = λ i. record {
    members = same_list one.members other.members (stands.members ∙ sym stands_too.members) same_member i;
    events = stored_once W.events one.events other.events stands.stored stands_too.stored stored i;
    post = record {
      behind = same_behind i;
      posts = same_posts i;
      total = (stands.total ∙ sym stands_too.total) i;
      faults = faults i;
    };
  }
