-- What is said of versions is decided, so each file has a list of its shown versions, and a cover.
use Rattle.std.proofs.Common.{◌≡◌, ◌≢◌, ◌⊎◌, inl, inr, ℕ, zero, suc, ◌+◌, ◌<◌, ◌≤◌, List, [], ◌∷◌, length, Option, Some, None, refl, sym, ap, subst, arith}
use Rattle.std.specs.Prelude.{Contains}
use Rattle.std.proofs.lemmas.Bool.{cases_eq, cases_lt}
use Rattle.std.proofs.lemmas.Option.{same_Some}
use Rattle.ficus_ids.specs.IdLaws.{same_id_or_not}
use Rattle.ficus_ids.specs.ListLaws.{here, there, here_or_there, not_inside_none}
use Rattle.ficus_ids.specs.declared.id.Id.{Id}
use Rattle.ficus_model.specs.declared.event.Event.{Event}
use Rattle.ficus_model.specs.Events.{IsAt, actor, before}
use Rattle.ficus_model.specs.Known.{HasSeen, Knows, HasInPast}
use Rattle.ficus_model.specs.Known.HasSeen.{Itself}
use Rattle.ficus_model.specs.Versions.{version_of, covered_by, bytes_of, IsVersion, IsCovering, IsShown}
use Rattle.ficus_model.specs.Vectors.{Counts, IsInVector, IsVectorOf, IsCovered, IsCoverOf}
use Rattle.ficus_model.specs.Vectors.Counts.{Nothing, OneMore, AsMany}
use Rattle.ficus_model.specs.View.{HasUnseen}
use Rattle.ficus_laws.proofs.Positions.{at_exists, of_at, of_same, of_within}
use Rattle.ficus_laws.proofs.Seen.{seen_through}
use Rattle.ficus_laws.proofs.Past.{past_earlier, past_seen}
use Rattle.ficus_laws.proofs.Deciding.{Decided, IsLast, HasLast, NoneBelow, decided_from, either_decided, last_or_none, of_decided, seen_decided, knows_decided, update_decided}
use Rattle.ficus_version_laws.specs.Listed.{Item, IsItemOf, IsShownItem, IsListed, AreShown}
use Rattle.ficus_version_laws.specs.Covers.{HasCover, ShowsUncovered}
use Rattle.ficus_version_laws.proofs.Past.{version_within, covering_within, past_sees}
use Rattle.ficus_version_laws.proofs.Comparing.{writer}
use Rattle.ficus_version_laws.proofs.Covering.{has_cover, is_covered}

pub some_decided : (found : Option Id) (id : Id) → Decided (found ≡ Some id)
some_decided None id = inr (λ e. cc)
some_decided (Some other) id = go (same_id_or_not other id)
  where
    go : (other ≡ id) ⊎ (other ≢ id) → Decided (Some other ≡ Some id)
    go (inl same) = inl (ap Some same)
    go (inr differs) = inr (λ e. differs (same_Some other id e))

three_decided : {P Q R : Type 0} → Decided P → Decided Q → Decided R → Decided (P × Q × R)
three_decided (inl p) (inl q) (inl r) = inl (p, q, r)
three_decided (inl p) (inl q) (inr none) = inr (λ all. none all.2)
three_decided (inl p) (inr none) r = inr (λ all. none all.1)
three_decided (inr none) q r = inr (λ all. none all.0)

pub version_decided : (H : List Event) (file : Id) (position : ℕ) → Decided (IsVersion H file position)
version_decided H file position =
    decided_from
    (λ u. record { number = u.number; op = u.op; update = u.update; versions = u.holds })
    (λ v. record { number = v.number; op = v.op; update = v.update; holds = v.versions })
    (update_decided H
    (λ number op. version_of number op ≡ Some file)
    (λ number op. some_decided (version_of number op) file) position)

pub covering_decided : (H : List Event) (object : Id) (position : ℕ) → Decided (IsCovering H object position)
covering_decided H object position =
    decided_from
    (λ u. record { number = u.number; op = u.op; update = u.update; covers = u.holds })
    (λ v. record { number = v.number; op = v.op; update = v.update; holds = v.covers })
    (update_decided H
    (λ number op. covered_by op ≡ Some object)
    (λ number op. some_decided (covered_by op) object) position)

pub past_decided : (H : List Event) (position earlier : ℕ) → Decided (HasInPast H position earlier)
past_decided H position earlier = go (cases_lt position (length H))
  where
    is : (event : Event) → IsAt H position event → Decided (Knows (before position H) (actor event) earlier) →
        Decided (HasInPast H position earlier)
    is event a (inl k) = inl (record { replica = actor event; own = of_at a; known = k })
    is event a (inr none) = inr (λ p. none (subst (λ by. Knows (before position H) by earlier) (of_same p.own (of_at a)) p.known))

    go : (position < length H) ⊎ (length H ≤ position) → Decided (HasInPast H position earlier)
    go (inl l) = let found = at_exists H position l in is found.0 found.1 (knows_decided (before position H) (actor found.0) earlier)
    go (inr l) = inr (λ p. omega (arith, of_within p.own))

-- what is decided is counted
pub counts_exist : (P : ℕ → Type 0) (bound : ℕ) → ((number : ℕ) → number < bound → Decided (P number)) →
    (count : ℕ) × Counts P bound count
counts_exist P zero decide = (0, Nothing)
counts_exist P (suc bound) decide = go (decide bound (omega arith)) (counts_exist P bound (λ number l. decide number (omega arith)))
  where
    go : Decided (P bound) → (count : ℕ) × Counts P bound count → (count : ℕ) × Counts P (suc bound) count
    go (inl p) (count, s) = (suc count, OneMore p s)
    go (inr none) (count, s) = (count, AsMany none s)

-- each version has a vector
pub vector_exists : (H : List Event) (file : Id) (position : ℕ) → (vector : ℕ → ℕ) × IsVectorOf H file position vector
vector_exists H file position = (λ replica. (counted replica).0, record { counts = λ replica. (counted replica).1 })
  where
    in_vector : (replica number : ℕ) → Decided (IsInVector H file position replica number)
    in_vector replica number =
        decided_from
        (λ p. record { version = p.0; own = p.1; within = p.2 })
        (λ p. (p.version, p.own, p.within))
        (three_decided
        (version_decided H file number)
        (of_decided H number replica)
        (either_decided (cases_eq number position) (past_decided H position number)))

    counted : (replica : ℕ) → (count : ℕ) × Counts (IsInVector H file position replica) (position + 1) count
    counted replica = counts_exist (IsInVector H file position replica) (position + 1) (λ number l. in_vector replica number)

module _ (H : List Event) (replica : ℕ) (file : Id) where
  -- a known version that has seen the position
  abbrev Sees : ℕ → ℕ → Type 0
  Sees position late = IsVersion H file late × Knows H replica late × HasSeen H late position

  last_seeing : (position : ℕ) → HasLast (Sees position) (length H) ⊎ NoneBelow (Sees position) (length H)
  last_seeing position = last_or_none (Sees position) (length H)
      (λ late l. three_decided
      (version_decided H file late)
      (knows_decided H replica late)
      (seen_decided H late position))

  -- some shown version has seen each known one
  pub shown_over : {position : ℕ} → IsVersion H file position → Knows H replica position →
      (late : ℕ) × IsShown H (Knows H replica) file late × HasSeen H late position
  shown_over {position} v k = go (last_seeing position)
    where
      none_later : {late : ℕ} → IsLast (Sees position) (length H) late →
          (other : ℕ) → IsVersion H file other → Knows H replica other → HasInPast H other late → ⊥
      none_later found other w j p =
          let m = found.latest other (version_within w) (w, j, seen_through (past_seen p) found.holds.2) in
          omega (arith, past_earlier p)

      go : HasLast (Sees position) (length H) ⊎ NoneBelow (Sees position) (length H) →
          (late : ℕ) × IsShown H (Knows H replica) file late × HasSeen H late position
      go (inl (late, found)) = (
        late,
        record {
          version = found.holds.0;
          known = found.holds.1;
          latest = none_later found;
        },
        found.holds.2,
      )
      go (inr none) = absurd (none position (version_within v) (v, k, Itself (writer v)))

  -- so some version that is uncovered is shown, where there is an uncovered one
  pub shows_uncovered : HasUnseen H (Knows H replica) file → ShowsUncovered H (Knows H replica) file
  shows_uncovered u =
      let s = shown_over u.uncovered.version u.uncovered.known in
      record {
        position = s.0;
        shown = s.1;
        uncovered = record {
          version = s.1.version;
          known = s.1.known;
          uncovered = λ cover c k p. u.uncovered.uncovered cover c k (past_sees p s.2);
        };
      }

  abbrev Later : ℕ → ℕ → Type 0
  Later position late = IsVersion H file late × Knows H replica late × HasInPast H late position

  pub shown_decided : (position : ℕ) → Decided (IsShown H (Knows H replica) file position)
  shown_decided position = go
      (version_decided H file position)
      (knows_decided H replica position)
      (last_or_none (Later position) (length H)
      (λ late l. three_decided
      (version_decided H file late)
      (knows_decided H replica late)
      (past_decided H late position)))
    where
      go : Decided (IsVersion H file position) → Decided (Knows H replica position) →
          HasLast (Later position) (length H) ⊎ NoneBelow (Later position) (length H) →
          Decided (IsShown H (Knows H replica) file position)
      go (inl v) (inl k) (inr none) = inl (record {
        version = v;
        known = k;
        latest = λ other w j p. none other (version_within w) (w, j, p);
      })
      go (inl v) (inl k) (inl (late, found)) = inr (λ s. s.latest late found.holds.0 found.holds.1 found.holds.2)
      go (inl v) (inr unknown) later = inr (λ s. unknown s.known)
      go (inr none) known later = inr (λ s. none s.version)

  -- the items of the shown versions below a position
  record ListedBelow (bound : ℕ) : Type 0 where
    versions : List Item
    each : (item : Item) → Contains versions item → IsShownItem H (Knows H replica) file item
    all : (position : ℕ) → position < bound → IsShown H (Knows H replica) file position →
        IsListed H file versions position

  listed_below : (bound : ℕ) → ListedBelow bound
  listed_below zero = record {
    versions = [];
    each = λ item inside. absurd (not_inside_none item inside);
    all = λ position l s. absurd (omega arith);
  }
  listed_below (suc bound) = go (shown_decided bound) (listed_below bound)
    where
      below_or_at : {position : ℕ} → position < suc bound → (position < bound) ⊎ (position ≡ bound)
      below_or_at {position} l = pick (cases_lt position bound)
        where
          pick : (position < bound) ⊎ (bound ≤ position) → (position < bound) ⊎ (position ≡ bound)
          pick (inl m) = inl m
          pick (inr m) = inr (omega arith)

      old : ListedBelow bound → (IsShown H (Knows H replica) file bound → ⊥) → ListedBelow (suc bound)
      old r none = record { versions = r.versions; each = r.each; all = λ position l s. all position s (below_or_at l) }
        where
          all : (position : ℕ) → IsShown H (Knows H replica) file position → (position < bound) ⊎ (position ≡ bound) →
              IsListed H file r.versions position
          all position s (inl m) = r.all position m s
          all position s (inr e) = absurd (none (subst (λ p. IsShown H (Knows H replica) file p) e s))

      new : ListedBelow bound → IsShown H (Knows H replica) file bound → ListedBelow (suc bound)
      new r s = record {
        versions = item ∷ r.versions;
        each = λ found inside. each found (here_or_there item found r.versions inside);
        all = λ position l t. all position t (below_or_at l);
      }
        where
          vector : (vector : ℕ → ℕ) × IsVectorOf H file bound vector
          vector = vector_exists H file bound

          item : Item
          item = record { vector = vector.0; bytes = bytes_of s.version.op }

          item_is : IsItemOf H file bound item
          item_is = record {
            vector = vector.1;
            bytes = record { number = s.version.number; op = s.version.op; update = s.version.update; are = refl };
          }

          each : (found : Item) → (found ≡ item) ⊎ Contains r.versions found →
              IsShownItem H (Knows H replica) file found
          each found (inl e) = record { position = bound; shown = s; is = subst (λ i. IsItemOf H file bound i) (sym e) item_is }
          each found (inr inside) = r.each found inside

          all : (position : ℕ) → IsShown H (Knows H replica) file position → (position < bound) ⊎ (position ≡ bound) →
              IsListed H file (item ∷ r.versions) position
          all position t (inl m) =
              let i = r.all position m t in
              record { item = i.item; inside = there item i.item r.versions i.inside; is = i.is }
          all position t (inr e) = record {
            item = item;
            inside = here item r.versions;
            is = subst (λ p. IsItemOf H file p item) (sym e) item_is;
          }

      go : Decided (IsShown H (Knows H replica) file bound) → ListedBelow bound → ListedBelow (suc bound)
      go (inl s) r = new r s
      go (inr none) r = old r none

  -- each file has a list of its shown versions
  pub list_exists : (versions : List Item) × AreShown H (Knows H replica) file versions
  list_exists =
      let r = listed_below (length H) in
      (r.versions, record { each = r.each; all = λ position s. r.all position (version_within s.version) s })

  -- and a cover
  abbrev Covers : ℕ → ℕ → Type 0
  Covers number cover = IsCovering H file cover × Knows H replica cover × HasInPast H cover number

  cover_decided : (number : ℕ) → Decided (HasCover H (Knows H replica) file number)
  cover_decided number = go
      (last_or_none (Covers number) (length H)
      (λ cover l. three_decided
      (covering_decided H file cover)
      (knows_decided H replica cover)
      (past_decided H cover number)))
    where
      go : HasLast (Covers number) (length H) ⊎ NoneBelow (Covers number) (length H) →
          Decided (HasCover H (Knows H replica) file number)
      go (inl (cover, found)) = inl (record { cover = cover; covering = found.holds.0; known = found.holds.1; past = found.holds.2 })
      go (inr none) = inr (λ c. none c.cover (covering_within c.covering) (c.covering, c.known, c.past))

  pub cover_exists : (cover : ℕ → ℕ) × IsCoverOf H (Knows H replica) file cover
  cover_exists = (λ by. (counted by).0, record { counts = λ by. (counted by).1 })
    where
      covered : (by number : ℕ) → Decided (IsCovered H (Knows H replica) file by number)
      covered by number = decided_from
          (λ p. is_covered p.0 p.1 p.2)
          (λ p. (p.version, p.own, has_cover p))
          (three_decided (version_decided H file number) (of_decided H number by) (cover_decided number))

      counted : (by : ℕ) → (count : ℕ) × Counts (IsCovered H (Knows H replica) file by) (length H) count
      counted by = counts_exist (IsCovered H (Knows H replica) file by) (length H) (λ number l. covered by number)
