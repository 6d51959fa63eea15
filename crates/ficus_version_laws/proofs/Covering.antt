-- Covers tell which versions lie in the past of a Remove or a Discard.
use Rattle.std.proofs.Common.{◌≡◌, ◌≢◌, ◌⊎◌, inl, inr, ℕ, suc, ◌≤◌, List, [], ◌∷◌, ◌++◌, length, Some, arith, ap, ◌∙◌, subst}
use Rattle.std.proofs.lemmas.List.{length_push}
use Rattle.ficus_ids.specs.declared.id.Id.{Id}
use Rattle.ficus_model.specs.declared.event.Event.{Event}
use Rattle.ficus_model.specs.declared.event.Event.TheVariants.{Update}
use Rattle.ficus_model.specs.declared.event.Op.{Op}
use Rattle.ficus_model.specs.declared.event.Op.TheVariants.{Remove, Discard}
use Rattle.ficus_model.specs.View.{HasUnseen}
use Rattle.ficus_model.specs.Events.{IsOf, IsUpdate}
use Rattle.ficus_model.specs.Known.{HasSeen, Knows, HasInPast}
use Rattle.ficus_model.specs.Lawful.{Volume, IsLawful}
use Rattle.ficus_model.specs.Versions.{version_of, covered_by, IsVersion, IsCovering}
use Rattle.ficus_model.specs.Vectors.{Counts, IsVectorOf, IsCovered, IsCoverOf}
use Rattle.ficus_model.specs.Vectors.Counts.{OneMore, AsMany}
use Rattle.ficus_laws.specs.Updates.{Joined, next_number}
use Rattle.ficus_laws.proofs.Positions.{AgreeBelow, agree_back, agree_more, agree_of, of_more, of_less}
use Rattle.ficus_laws.proofs.Updates.{update_cases, update_end}
use Rattle.ficus_laws.proofs.Knowledge.{knows_within, knows_more, knows_own}
use Rattle.ficus_version_laws.specs.Compared.{IsAtMost, join}
use Rattle.ficus_version_laws.specs.Listed.{Item, AreShown, join_all}
use Rattle.ficus_version_laws.specs.Covers.{HasCover}
use Rattle.ficus_version_laws.proofs.Counting.{IsFirstPart, counts_at_most, counts_same, counts_to, counts_join, first_part_within}
use Rattle.ficus_laws.proofs.Past.{agree_past, agree_version, agree_covering, past_earlier}
use Rattle.ficus_version_laws.proofs.Past.{version_within, covering_within, seen_own, past_sees}
use Rattle.ficus_version_laws.proofs.Comparing.{IsVersionBy, version_seen, seen_first_part, writer, writer_member, vector_counts}
use Rattle.ficus_laws.proofs.Views.{KnownBelow}
use Rattle.ficus_version_laws.proofs.Listing.{IsKnownVersion, knows_closed, known_first_part, known_counts}
use Rattle.ficus_version_laws.proofs.Advancing.{own_end, past_of_end, known_after, version_after}

pub has_cover : {H : List Event} {U : ℕ → Type 0} {file : Id} {replica position : ℕ} →
    IsCovered H U file replica position → HasCover H U file position
has_cover c = record { cover = c.cover; covering = c.covering; known = c.known; past = c.past }

pub is_covered : {H : List Event} {U : ℕ → Type 0} {file : Id} {replica position : ℕ} →
    IsVersion H file position → IsOf H position replica → HasCover H U file position →
    IsCovered H U file replica position
is_covered v o c = record { version = v; own = o; cover = c.cover; covering = c.covering; known = c.known; past = c.past }

-- what a covered version has seen is covered
pub cover_seen : {H : List Event} {U : ℕ → Type 0} {file : Id} {position seen : ℕ} → HasCover H U file position →
    HasSeen H position seen → HasCover H U file seen
cover_seen c s = record { cover = c.cover; covering = c.covering; known = c.known; past = past_sees c.past s }

pub covered_first_part : {H : List Event} {U : ℕ → Type 0} {file : Id} {replica : ℕ} →
    IsFirstPart (IsVersionBy H file replica) (IsCovered H U file replica)
covered_first_part = record {
  part = λ number p. record { version = p.version; own = p.own };
  down = λ earlier number p t l. is_covered t.version t.own (cover_seen (has_cover p) (seen_own p.own t.own l));
}

-- a version's vector is at most the cover exactly where it lies in the past of one known Remove or Discard
module _ (volume : Volume) (H : List Event) (lawful : IsLawful volume H) {U : ℕ → Type 0} {file : Id} {position : ℕ}
    {vector cover : ℕ → ℕ}
    (v : IsVersion H file position) (t : IsVectorOf H file position vector) (d : IsCoverOf H U file cover) where
  pub covered_from_cover : IsAtMost volume.members vector cover → HasCover H U file position
  covered_from_cover a =
      let by = v.number.replica in
      has_cover
      (first_part_within seen_first_part covered_first_part (vector_counts v t by) (d.counts by)
      (a.each by (writer_member volume H lawful v)) position (version_within v)
      (version_seen v (writer v)))

  pub cover_from_covered : HasCover H U file position → IsAtMost volume.members vector cover
  cover_from_covered c = record {
    each = λ replica m. counts_at_most (vector_counts v t replica) (d.counts replica)
        (λ number l p. is_covered p.version p.own (cover_seen c p.seen));
  }

-- where two know together, their covers are joined
pub cover_joined : {H : List Event} {U V : ℕ → Type 0} {file : Id} {cover other : ℕ → ℕ} →
    IsCoverOf H U file cover → IsCoverOf H V file other → IsCoverOf H (Joined U V) file (join cover other)
cover_joined {H} {U} {V} {file} a b = record {
  counts = λ replica. counts_same
      (counts_join covered_first_part covered_first_part (a.counts replica) (b.counts replica))
      (λ number l p. there p)
      (λ number l p. back p p.known);
}
  where
    there : {replica number : ℕ} → IsCovered H U file replica number ⊎ IsCovered H V file replica number →
        IsCovered H (Joined U V) file replica number
    there (inl p) = record { version = p.version; own = p.own; cover = p.cover; covering = p.covering; known = inl p.known; past = p.past }
    there (inr p) = record { version = p.version; own = p.own; cover = p.cover; covering = p.covering; known = inr p.known; past = p.past }

    back : {replica number : ℕ} (p : IsCovered H (Joined U V) file replica number) → U p.cover ⊎ V p.cover →
        IsCovered H U file replica number ⊎ IsCovered H V file replica number
    back p (inl k) = inl (record { version = p.version; own = p.own; cover = p.cover; covering = p.covering; known = k; past = p.past })
    back p (inr k) = inr (record { version = p.version; own = p.own; cover = p.cover; covering = p.covering; known = k; past = p.past })

-- the first set lies in the second, for Removes and Discards of the object
abbrev pub CoveringsWithin : List Event → Id → (ℕ → Type 0) → (ℕ → Type 0) → Type 0
CoveringsWithin H object U V = (position : ℕ) → IsCovering H object position → U position → V position

-- the same known Removes and Discards cover the same
pub cover_same : {H : List Event} {U V : ℕ → Type 0} {file : Id} {cover : ℕ → ℕ} →
    CoveringsWithin H file U V → CoveringsWithin H file V U → IsCoverOf H U file cover → IsCoverOf H V file cover
cover_same {H} {file = file} there back d = record {
  counts = λ replica. counts_same (d.counts replica)
      (λ number l p. with_known there p)
      (λ number l p. with_known back p);
}
  where
    with_known : {W X : ℕ → Type 0} {replica number : ℕ} → CoveringsWithin H file W X →
        IsCovered H W file replica number → IsCovered H X file replica number
    with_known more p = record {
      version = p.version;
      own = p.own;
      cover = p.cover;
      covering = p.covering;
      known = more p.cover p.covering p.known;
      past = p.past;
    }

-- and a cover doesn't depend on what follows the known positions
pub agree_covered : {n : ℕ} {H K : List Event} {U : ℕ → Type 0} {file : Id} {replica number : ℕ} →
    AgreeBelow n H K → KnownBelow n U → IsCovered H U file replica number → IsCovered K U file replica number
agree_covered g below p =
    let l = below p.cover p.known in
    let m = past_earlier p.past in
    record {
      version = agree_version g (omega arith) p.version;
      own = agree_of g (omega arith) p.own;
      cover = p.cover;
      covering = agree_covering g l p.covering;
      known = p.known;
      past = agree_past g l p.past;
    }

pub agree_cover : {n : ℕ} {H K : List Event} {U : ℕ → Type 0} {file : Id} {cover : ℕ → ℕ} → length H ≤ length K →
    AgreeBelow n H K → KnownBelow n U → IsCoverOf H U file cover → IsCoverOf K U file cover
agree_cover {H = H} {K = K} l g below d = record {
  counts = λ replica. counts_same
      (counts_to (length K) l (λ number m p. omega (arith, version_within p.version)) (d.counts replica))
      (λ number m p. agree_covered g below p)
      (λ number m p. agree_covered (agree_back g) below p);
}

counts_before : {P : ℕ → Type 0} {bound count : ℕ} → (P bound → ⊥) → Counts P (suc bound) count → Counts P bound count
counts_before none (OneMore p s) = absurd (none p)
counts_before none (AsMany p s) = s

-- Where of the Removes and Discards of a file the same ones are known after one more event, the cover is the same.
module _ (H : List Event) (event : Event) (replica : ℕ) {file : Id}
    (back : CoveringsWithin (H ++ event ∷ []) file (Knows (H ++ event ∷ []) replica) (Knows H replica)) where
  longer : length H ≤ length (H ++ event ∷ [])
  longer = omega (arith, length_push H event)

  there : CoveringsWithin (H ++ event ∷ []) file (Knows H replica) (Knows (H ++ event ∷ []) replica)
  there position c k = knows_more (event ∷ []) k

  pub cover_kept : {cover : ℕ → ℕ} → IsCoverOf H (Knows H replica) file cover →
      IsCoverOf (H ++ event ∷ []) (Knows (H ++ event ∷ []) replica) file cover
  cover_kept d = cover_same there back (agree_cover longer (agree_more H (event ∷ [])) (λ position k. knows_within k) d)

  pub cover_was : {cover : ℕ → ℕ} → IsCoverOf (H ++ event ∷ []) (Knows (H ++ event ∷ []) replica) file cover →
      IsCoverOf H (Knows H replica) file cover
  cover_was {cover} d = record { counts = λ by. counts_before (λ p. omega (arith, version_within p.version)) (earlier by) }
    where
      above : (by : ℕ) → Counts (IsCovered (H ++ event ∷ []) (Knows H replica) file by) (suc (length H)) (cover by)
      above by = subst
          (λ bound. Counts (IsCovered (H ++ event ∷ []) (Knows H replica) file by) bound (cover by))
          (omega (arith, length_push H event))
          ((cover_same back there d).counts by)

      earlier : (by : ℕ) → Counts (IsCovered H (Knows H replica) file by) (suc (length H)) (cover by)
      earlier by = counts_same (above by)
          (λ number l p. agree_covered (agree_back (agree_more H (event ∷ []))) (λ position k. knows_within k) p)
          (λ number l p. agree_covered (agree_more H (event ∷ [])) (λ position k. knows_within k) p)

-- an operation that covers an object is no version event
covers_no_version : (number : Id) (op : Op) (file : Id) → covered_by op ≡ Some file → version_of number op ≡ Some file →
    ⊥
covers_no_version number (Remove entries target) file c v = cc
covers_no_version number (Discard object) file c v = cc
covers_no_version number op file c v = cc

-- In these a replica has done one more operation.
module _ (H : List Event) (replica : ℕ) (op : Op) where
  abbrev after : List Event
  after = H ++ Update replica op ∷ []

  pub covering_after : {file : Id} {position : ℕ} → IsCovering after file position →
      IsCovering H file position ⊎ ((position ≡ length H) × (covered_by op ≡ Some file))
  covering_after {file} {position} c = go (update_cases (Update replica op) c.update)
    where
      go : IsUpdate H position c.number c.op ⊎
          ((position ≡ length H) × (Update replica op ≡ Update c.number.replica c.op) ×
          (c.number ≡ next_number c.number.replica H)) →
          IsCovering H file position ⊎ ((position ≡ length H) × (covered_by op ≡ Some file))
      go (inl was) = inl (record { number = c.number; op = c.op; update = was; covers = c.covers })
      go (inr (end, is, next)) = let done : op ≡ c.op = cc in inr (end, ap covered_by done ∙ c.covers)

  -- an operation that doesn't cover the file leaves the known Removes and Discards of it
  pub coverings_back : {file : Id} → covered_by op ≢ Some file →
      CoveringsWithin after file (Knows after replica) (Knows H replica)
  coverings_back {file} differs position c k = go (known_after H replica op k) (covering_after c)
    where
      go : (position ≡ length H) ⊎ Knows H replica position →
          IsCovering H file position ⊎ ((position ≡ length H) × (covered_by op ≡ Some file)) → Knows H replica position
      go (inr was) new = was
      go (inl end) (inl was) = absurd (omega (arith, covering_within was))
      go (inl end) (inr (here, is)) = absurd (differs is)

  -- one that covers it covers all that was known of it
  module _ {file : Id} (is : covered_by op ≡ Some file) {versions : List Item} {cover : ℕ → ℕ}
      (a : AreShown H (Knows H replica) file versions) (d : IsCoverOf H (Knows H replica) file cover) where
    covers : {by number : ℕ} →
        IsCovered H (Knows H replica) file by number ⊎ IsKnownVersion H (Knows H replica) file by number →
        IsCovered after (Knows after replica) file by number
    covers (inl p) =
        let q = agree_covered (agree_more H (Update replica op ∷ [])) (λ position k. knows_within k) p in
        record {
          version = q.version;
          own = q.own;
          cover = q.cover;
          covering = q.covering;
          known = knows_more (Update replica op ∷ []) q.known;
          past = q.past;
        }
    covers (inr p) = record {
      version = agree_version (agree_more H (Update replica op ∷ [])) (version_within p.version) p.version;
      own = of_more (Update replica op ∷ []) p.own;
      cover = length H;
      covering = record { number = next_number replica H; op = op; update = update_end H replica op; covers = is };
      known = knows_own (own_end H replica op);
      past = (past_of_end H replica op).1 p.known;
    }

    covered : {by number : ℕ} → IsCovered after (Knows after replica) file by number →
        IsCovered H (Knows H replica) file by number ⊎ IsKnownVersion H (Knows H replica) file by number
    covered {by} {number} p = go (known_after H replica op p.known)
      where
        old : Knows H replica number → IsKnownVersion H (Knows H replica) file by number
        old k = record {
          version = agree_version (agree_back (agree_more H (Update replica op ∷ []))) (knows_within k) p.version;
          own = of_less (Update replica op ∷ []) p.own (knows_within k);
          known = k;
        }

        go : (p.cover ≡ length H) ⊎ Knows H replica p.cover →
            IsCovered H (Knows H replica) file by number ⊎ IsKnownVersion H (Knows H replica) file by number
        go (inl end) = inr (old ((past_of_end H replica op).0 (subst (λ at. HasInPast after at number) end p.past)))
        go (inr k) = inl
            (agree_covered
            (agree_back (agree_more H (Update replica op ∷ [])))
            (λ position m. knows_within m)
            (record {
              version = p.version;
              own = p.own;
              cover = p.cover;
              covering = p.covering;
              known = k;
              past = p.past;
            }))

    late : {by number : ℕ} → length H ≤ number →
        IsCovered H (Knows H replica) file by number ⊎ IsKnownVersion H (Knows H replica) file by number → ⊥
    late l (inl p) = omega (arith, version_within p.version)
    late l (inr p) = omega (arith, version_within p.version)

    pub cover_covered : IsCoverOf after (Knows after replica) file (join cover (join_all versions))
    cover_covered = record {
      counts = λ by. counts_same
          (counts_to (length after)
          (omega (arith, length_push H (Update replica op))) (λ number l p. late l p)
          (counts_join covered_first_part
          (known_first_part (knows_closed H replica)) (d.counts by)
          (known_counts (knows_closed H replica) a by))) (λ number l p. covers p)
          (λ number l p. covered p);
    }

  -- so none that is known then is uncovered
  pub covers_all : {file : Id} → covered_by op ≡ Some file → HasUnseen after (Knows after replica) file → ⊥
  covers_all {file} is u = go (known_after H replica op u.uncovered.known) (version_after H replica op u.uncovered.version)
    where
      go : (u.position ≡ length H) ⊎ Knows H replica u.position → IsVersion H file u.position ⊎
          ((u.position ≡ length H) × (version_of (next_number replica H) op ≡ Some file)) → ⊥
      go (inl end) (inl v) = omega (arith, version_within v)
      go (inl end) (inr (here, versions)) = covers_no_version (next_number replica H) op file is versions
      go (inr k) v = u.uncovered.uncovered (length H)
          (record { number = next_number replica H; op = op; update = update_end H replica op; covers = is })
          (knows_own (own_end H replica op))
          ((past_of_end H replica op).1 k)
