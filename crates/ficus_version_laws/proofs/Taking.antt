-- What taking an answer leaves of the versions.
use Rattle.std.proofs.Common.{◌≡◌, ◌⊎◌, inl, inr, ℕ, ◌+◌, ◌<◌, List, [], ◌∷◌, ◌++◌, length, length-take, ◌≤◌, arith}
use Rattle.std.proofs.lemmas.List.{length_push}
use Rattle.ficus_ids.specs.declared.id.Id.{Id}
use Rattle.ficus_model.specs.declared.event.Event.{Event}
use Rattle.ficus_model.specs.declared.event.Event.TheVariants.{Update, Accept}
use Rattle.ficus_model.specs.declared.event.Op.{Op}
use Rattle.ficus_model.specs.Events.{IsOf, IsUpdate, through}
use Rattle.ficus_model.specs.Known.{Knows}
use Rattle.ficus_model.specs.Lawful.{Volume, IsLawful}
use Rattle.ficus_model.specs.Versions.{IsVersion, IsCovering, IsShown}
use Rattle.ficus_model.specs.Vectors.{IsCoverOf}
use Rattle.ficus_laws.specs.Updates.{Joined, next_number}
use Rattle.ficus_laws.proofs.Positions.{agree_back, agree_more, agree_before, of_within, of_from_before}
use Rattle.ficus_laws.proofs.Updates.{update_cases, update_within}
use Rattle.ficus_laws.proofs.Seen.{seen_within}
use Rattle.ficus_laws.proofs.Knowledge.{knows_within}
use Rattle.ficus_laws.proofs.Accept.{accept_knows, accept_keeps, accept_brings}
use Rattle.ficus_laws.proofs.Past.{agree_version, agree_covering}
use Rattle.ficus_version_laws.specs.Compared.{join}
use Rattle.ficus_version_laws.specs.Listed.{Item, AreShown, IsShownInEither, IsLatestOfBoth, AreMerged}
use Rattle.ficus_laws.proofs.Views.{KnownBelow}
use Rattle.ficus_version_laws.proofs.Latest.{VersionsWithin, shown_same, are_shown_same, agree_shown, agree_are_shown, joined_shown, shown_joined, are_shown_merged}
use Rattle.ficus_version_laws.proofs.Covering.{CoveringsWithin, cover_joined, cover_same, agree_cover}

-- what is known among the first events lies among them
pub knows_before : {replica position : ℕ} (H : List Event) (n : ℕ) → Knows (through n H) replica position →
    position < n + 1
knows_before H n k =
    let w = seen_within k.seen in
    let b = (of_from_before (n + 1) k.own).0 in
    omega arith

-- no update stands at the end of a history that an Accept ends
pub update_before_accept : {position : ℕ} {number : Id} {op : Op} (H : List Event) (replica served piece : ℕ) →
    IsUpdate (H ++ Accept replica served piece ∷ []) position number op → position < length H
update_before_accept {position} {number} {op} H replica served piece u = go (update_cases (Accept replica served piece) u)
  where
    go : IsUpdate H position number op ⊎
        ((position ≡ length H) × (Accept replica served piece ≡ Update number.replica op) ×
        (number ≡ next_number number.replica H)) →
        position < length H
    go (inl was) = update_within was
    go (inr (end, is, next)) = cc

module _ (H : List Event) (replica served piece server : ℕ) (by_server : IsOf H served server) where
  abbrev after : List Event
  after = H ++ Accept replica served piece ∷ []

  abbrev Own : ℕ → Type 0
  Own = Knows H replica

  abbrev Brought : ℕ → Type 0
  Brought = Knows (through served H) server

  brought_below : KnownBelow (served + 1) Brought
  brought_below position k = knows_before H served k

  pub joined_below : KnownBelow (length H) (Joined Own Brought)
  joined_below position (inl k) = knows_within k
  joined_below position (inr k) = let l = of_within by_server in let b = knows_before H served k in omega arith

  -- an update is known after an Accept exactly where one of the two knew it
  pub taken_known : {position : ℕ} {number : Id} {op : Op} → IsUpdate after position number op →
      Knows after replica position → Joined Own Brought position
  taken_known u k = accept_knows H replica served piece server by_server k (update_before_accept H replica served piece u)

  pub known_taken : {position : ℕ} → Joined Own Brought position → Knows after replica position
  known_taken (inl k) = accept_keeps H replica served piece server by_server k
  known_taken (inr k) = accept_brings H replica served piece server by_server k

  longer : length H ≤ length after
  longer = omega (arith, length_push H (Accept replica served piece))

  module _ {file : Id} where
    there : VersionsWithin after file (Joined Own Brought) (Knows after replica)
    there position v k = known_taken k

    back : VersionsWithin after file (Knows after replica) (Joined Own Brought)
    back position v k = taken_known v.update k

    old_version : {position : ℕ} → IsVersion after file position → position < length H → IsVersion H file position
    old_version v l = agree_version (agree_back (agree_more H (Accept replica served piece ∷ []))) l v

    -- what the server was shown when it served
    of_served : {position : ℕ} → IsShown (through served H) Brought file position → IsShown H Brought file position
    of_served s = agree_shown (agree_before (served + 1) H) brought_below s

    to_served : {position : ℕ} → IsShown H Brought file position → IsShown (through served H) Brought file position
    to_served s = agree_shown (agree_back (agree_before (served + 1) H)) brought_below s

    either_of_served : {position : ℕ} → IsShownInEither H Own (through served H) Brought file position →
        IsShownInEither H Own H Brought file position
    either_of_served (inl s) = inl s
    either_of_served (inr s) = inr (of_served s)

    either_to_served : {position : ℕ} → IsShownInEither H Own H Brought file position →
        IsShownInEither H Own (through served H) Brought file position
    either_to_served (inl s) = inl s
    either_to_served (inr s) = inr (to_served s)

    -- the versions shown after an Accept are the latest of what the two were shown
    pub accept_shown : {position : ℕ} → IsShown after (Knows after replica) file position →
        IsLatestOfBoth H Own (through served H) Brought file position
    accept_shown s =
        let l = joined_shown
        (agree_shown
        (agree_back (agree_more H (Accept replica served piece ∷ []))) joined_below
        (shown_same back there s)) in
        record { shown = either_to_served l.shown; latest = λ other t p. l.latest other (either_of_served t) p }

    pub shown_accept : {position : ℕ} → IsLatestOfBoth H Own (through served H) Brought file position →
        IsShown after (Knows after replica) file position
    shown_accept l =
        let s = shown_joined (record { shown = either_of_served l.shown; latest = λ other t p. l.latest other (either_to_served t) p }) in
        shown_same there back (agree_shown (agree_more H (Accept replica served piece ∷ [])) joined_below s)

    -- and their list is the merge of the two lists
    pub accept_merges : (volume : Volume) {versions others merged : List Item} → IsLawful volume H →
        AreShown H Own file versions → AreShown (through served H) Brought file others →
        AreMerged volume.members versions others merged → AreShown after (Knows after replica) file merged
    accept_merges volume lawful a b m =
        are_shown_same there back
        (agree_are_shown
        (agree_more H (Accept replica served piece ∷ [])) joined_below
        (are_shown_merged volume lawful a (agree_are_shown (agree_before (served + 1) H) brought_below b) m))

    -- where the replica knows each version of the file that it is told of, its list stays
    pub accept_own : {versions : List Item} → VersionsWithin H file Brought Own →
        AreShown H Own file versions → AreShown after (Knows after replica) file versions
    accept_own within a = are_shown_same
        (λ position v k. known_taken (inl k))
        (λ position v k. own v (back position v k))
        (agree_are_shown (agree_more H (Accept replica served piece ∷ [])) (λ position k. knows_within k) a)
      where
        own : {position : ℕ} → IsVersion after file position → Joined Own Brought position → Own position
        own v (inl k) = k
        own {position} v (inr k) = within position (old_version v (joined_below position (inr k))) k

    -- and where it knows none that the server didn't know, it takes the server's
    pub accept_brought : {others : List Item} → VersionsWithin H file Own Brought →
        AreShown (through served H) Brought file others → AreShown after (Knows after replica) file others
    accept_brought {others} within b = are_shown_same
        (λ position v k. known_taken (inr k))
        (λ position v k. brought v (back position v k))
        (agree_are_shown (agree_more H (Accept replica served piece ∷ [])) (λ position k. joined_below position (inr k)) his)
      where
        his : AreShown H Brought file others
        his = agree_are_shown (agree_before (served + 1) H) brought_below b

        brought : {position : ℕ} → IsVersion after file position → Joined Own Brought position → Brought position
        brought {position} v (inl k) = within position (old_version v (joined_below position (inl k))) k
        brought v (inr k) = k

    -- the covers of both are joined
    coverings_there : CoveringsWithin after file (Joined Own Brought) (Knows after replica)
    coverings_there position c k = known_taken k

    coverings_back : CoveringsWithin after file (Knows after replica) (Joined Own Brought)
    coverings_back position c k = taken_known c.update k

    cover_of_served : {other : ℕ → ℕ} → IsCoverOf (through served H) Brought file other → IsCoverOf H Brought file other
    cover_of_served b =
        let l = length-take (served + 1) H in
        agree_cover (omega arith) (agree_before (served + 1) H) brought_below b

    pub cover_accept : {cover other : ℕ → ℕ} → IsCoverOf H Own file cover →
        IsCoverOf (through served H) Brought file other → IsCoverOf after (Knows after replica) file (join cover other)
    cover_accept a b = cover_same coverings_there coverings_back
        (agree_cover longer (agree_more H (Accept replica served piece ∷ [])) joined_below (cover_joined a (cover_of_served b)))

    old_covering : {position : ℕ} → IsCovering after file position → position < length H → IsCovering H file position
    old_covering c l = agree_covering (agree_back (agree_more H (Accept replica served piece ∷ []))) l c

    -- where the replica knows each Remove and Discard that it is told of, its cover stays
    pub cover_own : {cover : ℕ → ℕ} → CoveringsWithin H file Brought Own →
        IsCoverOf H Own file cover → IsCoverOf after (Knows after replica) file cover
    cover_own within a = cover_same
        (λ position c k. known_taken (inl k))
        (λ position c k. own c (coverings_back position c k))
        (agree_cover longer (agree_more H (Accept replica served piece ∷ [])) (λ position k. knows_within k) a)
      where
        own : {position : ℕ} → IsCovering after file position → Joined Own Brought position → Own position
        own c (inl k) = k
        own {position} c (inr k) = within position (old_covering c (joined_below position (inr k))) k

    -- and where it knows none that the server didn't know, it takes the server's
    pub cover_brought : {other : ℕ → ℕ} → CoveringsWithin H file Own Brought →
        IsCoverOf (through served H) Brought file other → IsCoverOf after (Knows after replica) file other
    cover_brought within b = cover_same
        (λ position c k. known_taken (inr k))
        (λ position c k. brought c (coverings_back position c k))
        (agree_cover longer (agree_more H (Accept replica served piece ∷ [])) (λ position k. joined_below position (inr k)) (cover_of_served b))
      where
        brought : {position : ℕ} → IsCovering after file position → Joined Own Brought position → Brought position
        brought {position} c (inl k) = within position (old_covering c (joined_below position (inl k))) k
        brought c (inr k) = k
