-- The rows of the merge table.
use Rattle.std.proofs.Common.{◌≡◌, ◌≢◌, ◌⊎◌, ℕ, Bool, true, false, List, [], ◌∷◌, ◌++◌, Some, None, Option, MatchBool, refl, inl, inr, ⊎_elim}
use Rattle.std.specs.Prelude.{IsTrue, nat_le}
use Rattle.std.proofs.lemmas.Bool.{or_cases, or_left, or_right, and_parts, and_from, leb-true, le-leb}
use Rattle.ficus_ids.specs.Marks.{has, IsFull}
use Rattle.ficus_ids.specs.MarksLaws.{full_or_one_missing}
use Rattle.ficus_ids.specs.Members.{IsMember}
use Rattle.ficus_ids.specs.declared.id.Id.{Id}
use Rattle.ficus_entry.specs.declared.entry.State.{State}
use Rattle.ficus_entry.specs.declared.entry.State.TheVariants.{Live, Dead}
use Rattle.ficus_merge_entries.specs.Table.{everyone, with, union, IsDead, Merges}
use Rattle.ficus_model.specs.declared.event.Event.{Event}
use Rattle.ficus_model.specs.declared.event.Event.TheVariants.{Accept, Collect}
use Rattle.ficus_model.specs.Events.{IsOf, through}
use Rattle.ficus_model.specs.Known.{Knows}
use Rattle.ficus_model.specs.Live.{IsRemoved}
use Rattle.ficus_model.specs.Lawful.{Volume}
use Rattle.ficus_model.specs.Knowledge.{KnowsThatKnows, KnowsThatAllKnow}
use Rattle.ficus_model.specs.Held.{IsDropped}
use Rattle.ficus_laws.proofs.Lawful.{lawful_more, lawful_member}
use Rattle.ficus_removal_laws.specs.Marks.{IsEnteredAs, IsAbsent, IsMarked, IsTwoFull}
use Rattle.ficus_removal_laws.specs.Laws.{IsAnswer}
use Rattle.ficus_removal_laws.proofs.Carrying.{one_more, one_removed, all_more, all_one}
use Rattle.ficus_removal_laws.proofs.Hearing.{one_from_last, one_at_last, two_from_last, two_at_last, one_of_itself}
use Rattle.ficus_removal_laws.proofs.Removing.{removed_entered}
use Rattle.ficus_removal_laws.proofs.Dropping.{dropped_more, dropped_cases, dropped_two, dropped_removed}
use Rattle.ficus_removal_laws.proofs.Answering as answers
use Rattle.ficus_merge_laws.specs.States.{StandsAs}
use Rattle.ficus_merge_laws.proofs.Dying.{IsSaid, said_stands, with_itself, with_more, with_other}

everyone_member : (members replica : ℕ) → IsTrue (everyone members replica) → IsMember members replica
everyone_member members replica inside =
    let parts = and_parts (nat_le 1 replica) (nat_le replica members) inside in
    record { at_least = leb-true 1 replica parts.0; at_most = leb-true replica members parts.1 }

member_everyone : (members replica : ℕ) → IsMember members replica → IsTrue (everyone members replica)
member_everyone members replica m =
    let low = le-leb 1 replica m.at_least in
    and_from (nat_le 1 replica) (nat_le replica members) low (le-leb replica members m.at_most)

-- who is in a union is in one of both sets
from_union : {P : Type 0} (set peers : ℕ → Bool) (peer : ℕ) → (IsTrue (set peer) → P) → (IsTrue (peers peer) → P) →
    IsTrue (union set peers peer) → P
from_union set peers peer here there inside = ⊎_elim here there (or_cases (set peer) (peers peer) inside)

to_union : {P Q : Type 0} (set peers : ℕ → Bool) (peer : ℕ) → (P → IsTrue (set peer)) → (Q → IsTrue (peers peer)) →
    P ⊎ Q → IsTrue (union set peers peer)
to_union set peers peer here there (inl p) = or_left (set peer) (peers peer) (here p)
to_union set peers peer here there (inr q) = or_right (set peer) (peers peer) (there q)

-- In each of these an answer is taken.
module _ (volume : Volume) (H : List Event) (replica served piece server : ℕ) (id : Id)
    (answer : IsAnswer volume H replica served piece server) where
  abbrev after_it : List Event
  after_it = H ++ Accept replica served piece ∷ []

  abbrev there : List Event
  there = through served H

  replica_member : IsMember volume.members replica
  replica_member = answer.may.member

  server_member : IsMember volume.members server
  server_member = answers.server_member volume H replica served piece server id answer

  not_dropped : (IsDropped volume.members H replica id → ⊥) → IsDropped volume.members after_it replica id → ⊥
  not_dropped held d = go (dropped_cases (Accept replica served piece) d)
    where
      go : IsDropped volume.members H replica id ⊎
          ((Accept replica served piece ≡ Collect replica) × IsTwoFull volume.members H replica id) → ⊥
      go (inl was) = held was
      go (inr (is, full)) = let clash : Accept replica served piece ≡ Collect replica = is in cc

  -- what the replica doesn't hold and knows to be removed it has dropped
  absent_removed : IsAbsent volume.members H replica id → IsRemoved H (Knows H replica) id →
      IsDropped volume.members H replica id
  absent_removed absent r = absent (removed_entered volume H answer.lawful r)

  -- and so the server
  absent_there : IsAbsent volume.members there server id → IsRemoved there (Knows there server) id →
      IsDropped volume.members there server id
  absent_there absent r =
      let lawful = answers.lawful_there volume H replica served piece server id answer in
      absent (removed_entered volume there lawful r)

  -- where the server had dropped it, the replica knew of each member that it knows
  dropped_there_one : IsDropped volume.members there server id → (member : ℕ) → IsMember volume.members member →
      KnowsThatKnows H replica member id
  dropped_there_one d member m = answers.server_dropped_one volume H replica served piece server id answer d m

  dropped_there_removed : IsDropped volume.members there server id → IsRemoved H (Knows H replica) id
  dropped_there_removed d = one_removed (dropped_there_one d replica replica_member)

  -- what the replica dropped, the server knew to be removed
  dropped_removed_there : IsDropped volume.members H replica id → IsRemoved there (Knows there server) id
  dropped_removed_there d = answers.dropped_server_removed volume H replica served piece server id answer d

  -- who then knows whom to know, one of both knew, but for the replica itself
  abbrev OneOfBoth : ℕ → Type 0
  OneOfBoth peer = KnowsThatKnows H replica peer id ⊎ KnowsThatKnows there server peer id

  abbrev TwoOfBoth : ℕ → Type 0
  TwoOfBoth peer =
      KnowsThatAllKnow volume.members H replica peer id ⊎ KnowsThatAllKnow volume.members there server peer id

  one_split : {peer : ℕ} → peer ≢ replica → KnowsThatKnows after_it replica peer id → OneOfBoth peer
  one_split differs o = answers.one_split H replica served piece server answer.by differs o

  two_split : {peer : ℕ} → peer ≢ replica → KnowsThatAllKnow volume.members after_it replica peer id → TwoOfBoth peer
  two_split differs t = answers.two_split H replica served piece server answer.by differs t

  still_alive : (IsRemoved H (Knows H replica) id → ⊥) → (IsRemoved there (Knows there server) id → ⊥) →
      IsRemoved after_it (Knows after_it replica) id → ⊥
  still_alive here not_there r = go (answers.removed_split H replica served piece server answer.by r)
    where
      go : IsRemoved H (Knows H replica) id ⊎ IsRemoved there (Knows there server) id → ⊥
      go (inl mine) = here mine
      go (inr theirs) = not_there theirs

  stays_absent : IsAbsent volume.members H replica id →
      (IsEnteredAs there (Knows there server) id → IsDropped volume.members H replica id) →
      IsAbsent volume.members after_it replica id
  stays_absent absent told entered = go (answers.entered_split H replica served piece server answer.by entered)
    where
      go : IsEnteredAs H (Knows H replica) id ⊎ IsEnteredAs there (Knows there server) id →
          IsDropped volume.members after_it replica id
      go (inl mine) = dropped_more (Accept replica served piece ∷ []) (absent mine)
      go (inr theirs) = dropped_more (Accept replica served piece ∷ []) (told theirs)

  -- the removal is new to the replica
  news : (IsRemoved H (Knows H replica) id → ⊥) → {one two : ℕ} → IsMarked volume.members there server id one two →
      IsSaid volume.members after_it replica id (with (has one) replica) (has two)
  news none {one} {two} theirs = record {
    entered = answers.entered_taken H replica served piece server answer.by theirs.entered;
    removed = answers.removed_taken H replica served piece server answer.by theirs.removed;
    held = not_dropped (λ d. none (dropped_removed d replica_member));
    first = λ peer differs. (
      λ inside. first_taken (with_other (has one) replica peer differs inside),
      λ o. with_more (has one) replica peer (first_back (one_split differs o)),
    );
    mine = with_itself (has one) replica;
    second = λ peer differs. (
      λ inside. second_taken inside,
      λ t. second_back (two_split differs t),
    );
    own = λ inside. second_taken inside;
  }
    where
      first_taken : {peer : ℕ} → IsTrue (has one peer) → KnowsThatKnows after_it replica peer id
      first_taken {peer} inside =
          answers.one_taken H replica served piece server answer.by (one_from_last ((theirs.first peer).0 inside))

      first_back : {peer : ℕ} → OneOfBoth peer → IsTrue (has one peer)
      first_back (inl mine) = absurd (none (one_removed mine))
      first_back {peer} (inr his) = (theirs.first peer).1 (one_at_last his)

      second_taken : {peer : ℕ} → IsTrue (has two peer) → KnowsThatAllKnow volume.members after_it replica peer id
      second_taken {peer} inside =
          answers.two_taken H replica served piece server answer.by (two_from_last ((theirs.second peer).0 inside))

      second_back : {peer : ℕ} → TwoOfBoth peer → IsTrue (has two peer)
      second_back (inl mine) = absurd (none (one_removed (all_one mine replica_member)))
      second_back {peer} (inr his) = (theirs.second peer).1 (two_at_last his)

  -- the server told nothing of the removal
  nothing_new : (IsRemoved there (Knows there server) id → ⊥) → {one two : ℕ} →
      IsMarked volume.members H replica id one two → IsSaid volume.members after_it replica id (has one) (has two)
  nothing_new none {one} {two} mine = record {
    entered = answers.entered_kept H replica served piece server answer.by mine.entered;
    removed = answers.removed_kept H replica served piece server answer.by mine.removed;
    held = not_dropped mine.held;
    first = λ peer differs. (
      λ inside. one_more (Accept replica served piece ∷ []) (one_from_last ((mine.first peer).0 inside)),
      λ o. first_back (one_split differs o),
    );
    mine = (mine.first replica).1 (one_at_last (one_of_itself mine.removed));
    second = λ peer differs. (
      λ inside. all_more (Accept replica served piece ∷ []) (two_from_last ((mine.second peer).0 inside)),
      λ t. second_back (two_split differs t),
    );
    own = λ inside. all_more (Accept replica served piece ∷ []) (two_from_last ((mine.second replica).0 inside));
  }
    where
      first_back : {peer : ℕ} → OneOfBoth peer → IsTrue (has one peer)
      first_back {peer} (inl o) = (mine.first peer).1 (one_at_last o)
      first_back (inr his) = absurd (none (one_removed his))

      second_back : {peer : ℕ} → TwoOfBoth peer → IsTrue (has two peer)
      second_back {peer} (inl t) = (mine.second peer).1 (two_at_last t)
      second_back (inr his) = absurd (none (one_removed (all_one his server_member)))

  -- both know the removal and hold the entry
  unions : {one two peers_one peers_two : ℕ} → IsMarked volume.members H replica id one two →
      IsMarked volume.members there server id peers_one peers_two →
      IsSaid volume.members after_it replica id (union (has one) (has peers_one)) (union (has two) (has peers_two))
  unions {one} {two} {peers_one} {peers_two} mine theirs = record {
    entered = answers.entered_kept H replica served piece server answer.by mine.entered;
    removed = answers.removed_kept H replica served piece server answer.by mine.removed;
    held = not_dropped mine.held;
    first = λ peer differs. (
      λ inside. first_there inside,
      λ o. first_back (one_split differs o),
    );
    mine = first_back (inl (one_of_itself mine.removed));
    second = λ peer differs. (
      λ inside. second_there inside,
      λ t. second_back (two_split differs t),
    );
    own = λ inside. second_there inside;
  }
    where
      first_there : {peer : ℕ} → IsTrue (union (has one) (has peers_one) peer) → KnowsThatKnows after_it replica peer id
      first_there {peer} = from_union (has one) (has peers_one) peer
          (λ inside. one_more (Accept replica served piece ∷ []) (one_from_last ((mine.first peer).0 inside)))
          (λ inside. answers.one_taken H replica served piece server answer.by (one_from_last ((theirs.first peer).0 inside)))

      first_back : {peer : ℕ} → OneOfBoth peer → IsTrue (union (has one) (has peers_one) peer)
      first_back {peer} = to_union (has one) (has peers_one) peer
          (λ o. (mine.first peer).1 (one_at_last o))
          (λ o. (theirs.first peer).1 (one_at_last o))

      second_there : {peer : ℕ} → IsTrue (union (has two) (has peers_two) peer) →
          KnowsThatAllKnow volume.members after_it replica peer id
      second_there {peer} = from_union (has two) (has peers_two) peer
          (λ inside. all_more (Accept replica served piece ∷ []) (two_from_last ((mine.second peer).0 inside)))
          (λ inside. answers.two_taken H replica served piece server answer.by (two_from_last ((theirs.second peer).0 inside)))

      second_back : {peer : ℕ} → TwoOfBoth peer → IsTrue (union (has two) (has peers_two) peer)
      second_back {peer} = to_union (has two) (has peers_two) peer
          (λ t. (mine.second peer).1 (two_at_last t))
          (λ t. (theirs.second peer).1 (two_at_last t))

  -- the server has dropped it
  given_up : IsDropped volume.members there server id → {one two : ℕ} → IsMarked volume.members H replica id one two →
      IsSaid volume.members after_it replica id (has one) (everyone volume.members)
  given_up d {one} mine = record {
    entered = answers.entered_kept H replica served piece server answer.by mine.entered;
    removed = answers.removed_kept H replica served piece server answer.by mine.removed;
    held = not_dropped mine.held;
    first = λ peer differs. (
      λ inside. one_more (Accept replica served piece ∷ []) (one_from_last ((mine.first peer).0 inside)),
      λ o. (mine.first peer).1 (one_at_last (dropped_there_one d peer (is_member o.own))),
    );
    mine = (mine.first replica).1 (one_at_last (one_of_itself mine.removed));
    second = λ peer differs. (
      λ inside. all_known inside,
      λ t. member_everyone volume.members peer (is_member t.own),
    );
    own = λ inside. all_known inside;
  }
    where
      is_member : {peer position : ℕ} → IsOf after_it position peer → IsMember volume.members peer
      is_member own =
          let lawful = lawful_more volume H (Accept replica served piece) answer.lawful answer.may in
          lawful_member volume after_it lawful own

      all_known : {peer : ℕ} → IsTrue (everyone volume.members peer) →
          KnowsThatAllKnow volume.members after_it replica peer id
      all_known {peer} inside =
          let m = everyone_member volume.members peer inside in
          answers.two_taken H replica served piece server answer.by (dropped_two d m)

  -- the replica has nothing, and the server's entry is removed
  absent_dead : {one two : ℕ} (after : Option State) (inside : Bool) → has one replica ≡ inside →
      IsAbsent volume.members H replica id → IsMarked volume.members there server id one two →
      MatchBool inside (after ≡ None) (IsDead replica volume.members (with (has one) replica) (has two) after) →
      StandsAs volume.members after_it replica id after
  absent_dead after true inside absent theirs is = rw is (stays_absent absent (λ entered. dropped))
    where
      dropped : IsDropped volume.members H replica id
      dropped =
          let o = one_from_last ((theirs.first replica).0 inside) in
          answers.absent_dropped volume H replica served piece server id answer absent o
  absent_dead {one} after false outside absent theirs dead = said_stands after replica_member (news none theirs) dead
    where
      none : IsRemoved H (Knows H replica) id → ⊥
      none r =
          let o = answers.dropped_server_one volume H replica served piece server id answer (absent_removed absent r) in
          let marked : has one replica ≡ true = (theirs.first replica).1 (one_at_last o) in
          cc

  -- the server has nothing, and the replica's entry is removed
  dead_absent : {one two : ℕ} (after : Option State) → IsMarked volume.members H replica id one two →
      IsAbsent volume.members there server id → Merges replica volume.members (Some (Dead one two)) None after →
      StandsAs volume.members after_it replica id after
  dead_absent {one} after mine absent merges = go (full_or_one_missing one volume.members)
    where
      go : IsFull one volume.members ⊎ ((member : ℕ) × IsMember volume.members member × (has one member ≡ false)) →
          StandsAs volume.members after_it replica id after
      go (inl full) =
          let heard = one_from_last ((mine.first server).0 (full server server_member)) in
          let d = answers.server_absent_dropped volume H replica served piece server id answer absent heard in
          said_stands after replica_member (given_up d mine) (merges.0 full)
      go (inr (member, m, missing)) =
          said_stands after replica_member
          (nothing_new (λ r. let inside : has one member ≡ true = marked (absent_there absent r) member m in cc) mine)
          (merges.1 (λ full. let inside : has one member ≡ true = full member m in cc))
        where
          marked : IsDropped volume.members there server id → IsFull one volume.members
          marked d peer p = (mine.first peer).1 (one_at_last (dropped_there_one d peer p))

  pub merge_stands : (mine theirs after : Option State) → StandsAs volume.members H replica id mine →
      StandsAs volume.members there server id theirs → Merges replica volume.members mine theirs after →
      StandsAs volume.members after_it replica id after
  merge_stands None None after here peers is =
      rw is (stays_absent here (λ entered. absent_removed here (dropped_there_removed (peers entered))))
  merge_stands None (Some Live) after here peers is = rw is (record {
    entered = answers.entered_taken H replica served piece server answer.by peers.entered;
    not_removed = still_alive
        (λ r. peers.not_removed (dropped_removed_there (absent_removed here r)))
        peers.not_removed;
  })
  merge_stands None (Some (Dead one two)) after here peers merges =
      absent_dead after (has one replica) refl here peers merges
  merge_stands (Some Live) None after here peers is = rw is (record {
    entered = answers.entered_kept H replica served piece server answer.by here.entered;
    not_removed = still_alive here.not_removed (λ r. here.not_removed (dropped_there_removed (absent_there peers r)));
  })
  merge_stands (Some Live) (Some Live) after here peers is = rw is (record {
    entered = answers.entered_kept H replica served piece server answer.by here.entered;
    not_removed = still_alive here.not_removed peers.not_removed;
  })
  merge_stands (Some Live) (Some (Dead one two)) after here peers dead =
      said_stands after replica_member (news here.not_removed peers) dead
  merge_stands (Some (Dead one two)) (Some Live) after here peers dead =
      said_stands after replica_member (nothing_new peers.not_removed here) dead
  merge_stands (Some (Dead one two)) (Some (Dead peers_one peers_two)) after here peers dead =
      said_stands after replica_member (unions here peers) dead
  merge_stands (Some (Dead one two)) None after here peers merges = dead_absent after here peers merges
