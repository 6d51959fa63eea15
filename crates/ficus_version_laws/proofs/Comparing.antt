-- Vectors tell the past.
use Rattle.std.proofs.Common.{◌≡◌, ◌≢◌, ◌↔◌, ◌⊎◌, inl, inr, ℕ, ◌+◌, ◌<◌, ◌≤◌, List, length, arith, sym, subst}
use Rattle.ficus_ids.specs.Members.{IsMember}
use Rattle.ficus_ids.specs.declared.id.Id.{Id}
use Rattle.ficus_model.specs.declared.event.Event.{Event}
use Rattle.ficus_model.specs.Events.{IsOf}
use Rattle.ficus_model.specs.Known.{HasSeen, HasInPast}
use Rattle.ficus_model.specs.Known.HasSeen.{Itself}
use Rattle.ficus_model.specs.Lawful.{Volume, IsLawful}
use Rattle.ficus_model.specs.Versions.{IsVersion}
use Rattle.ficus_model.specs.Vectors.{Counts, IsInVector, IsVectorOf}
use Rattle.ficus_laws.proofs.Positions.{AgreeBelow, agree_back, agree_of, of_at}
use Rattle.ficus_laws.proofs.Seen.{seen_within, seen_through}
use Rattle.ficus_laws.proofs.Issued.{issuer_member}
use Rattle.ficus_version_laws.specs.Compared.{IsAtMost, AreEqual, IsUnder, AreApart, AreConcurrent, CompareAsPasts}
use Rattle.ficus_version_laws.proofs.Counting.{IsFirstPart, counts_at_most, counts_same, counts_to, counts_once, first_part_within}
use Rattle.ficus_laws.proofs.Past.{agree_past, agree_version, past_earlier, past_seen, update_seen}
use Rattle.ficus_version_laws.proofs.Past.{version_within, seen_own}

-- a version event of the file by the replica
pub record IsVersionBy (H : List Event) (file : Id) (replica position : ℕ) : Type 0 where
  pub version : IsVersion H file position
  pub own : IsOf H position replica

-- one that the event at a position has seen
pub record IsSeenVersion (H : List Event) (file : Id) (at replica position : ℕ) : Type 0 where
  pub version : IsVersion H file position
  pub own : IsOf H position replica
  pub seen : HasSeen H at position

pub version_seen : {H : List Event} {file : Id} {position replica : ℕ} → IsVersion H file position →
    IsOf H position replica → IsSeenVersion H file position replica position
version_seen v o = record { version = v; own = o; seen = Itself o }

pub seen_version_later : {H : List Event} {file : Id} {late at replica position : ℕ} → HasSeen H late at →
    IsSeenVersion H file at replica position → IsSeenVersion H file late replica position
seen_version_later s p = record { version = p.version; own = p.own; seen = seen_through s p.seen }

pub seen_first_part : {H : List Event} {file : Id} {at replica : ℕ} →
    IsFirstPart (IsVersionBy H file replica) (IsSeenVersion H file at replica)
seen_first_part = record {
  part = λ number p. record { version = p.version; own = p.own };
  down = λ earlier number p t l. record { version = t.version; own = t.own; seen = seen_through p.seen (seen_own p.own t.own l) };
}

-- the replica whose event a version is
pub writer : {H : List Event} {file : Id} {position : ℕ} (v : IsVersion H file position) →
    IsOf H position v.number.replica
writer v = of_at v.update.at

pub writer_member : (volume : Volume) (H : List Event) {file : Id} {position : ℕ} → IsLawful volume H →
    (v : IsVersion H file position) → IsMember volume.members v.number.replica
writer_member volume H lawful v = issuer_member volume H lawful v.update

-- a version's vector counts what the version has seen
pub vector_counts : {H : List Event} {file : Id} {position : ℕ} {vector : ℕ → ℕ} → IsVersion H file position →
    IsVectorOf H file position vector → (replica : ℕ) →
    Counts (IsSeenVersion H file position replica) (length H) (vector replica)
vector_counts {H} {file} {position} v t replica =
    counts_to (length H) (let l = version_within v in omega arith) late (counts_same (t.counts replica) there back)
  where
    seen : {counted : ℕ} → IsOf H counted replica → (counted ≡ position) ⊎ HasInPast H position counted →
        HasSeen H position counted
    seen {counted} o (inl e) = subst (λ at. HasSeen H at counted) e (Itself o)
    seen o (inr p) = past_seen p

    there : (counted : ℕ) → counted < position + 1 → IsInVector H file position replica counted →
        IsSeenVersion H file position replica counted
    there counted l p = record { version = p.version; own = p.own; seen = seen p.own p.within }

    back : (counted : ℕ) → counted < position + 1 → IsSeenVersion H file position replica counted →
        IsInVector H file position replica counted
    back counted l p = record { version = p.version; own = p.own; within = update_seen v.update.at p.seen }

    late : (counted : ℕ) → position + 1 ≤ counted → IsSeenVersion H file position replica counted → ⊥
    late counted l p = omega (arith, seen_within p.seen)

-- where the count of its own replica is as high at another version, that version has seen it
pub seen_from_count : {H : List Event} {file : Id} {position other replica : ℕ} {vector again : ℕ → ℕ} →
    IsVersion H file position → IsVersion H file other → IsVectorOf H file position vector →
    IsVectorOf H file other again → IsOf H position replica → vector replica ≤ again replica → HasSeen H other position
seen_from_count {position = position} {replica = replica} v w t u o l =
    let within = first_part_within seen_first_part seen_first_part (vector_counts v t replica) (vector_counts w u replica) l in
    (within position (version_within v) (version_seen v o)).seen

pub count_from_seen : {H : List Event} {file : Id} {position other : ℕ} {vector again : ℕ → ℕ} →
    IsVersion H file position → IsVersion H file other → IsVectorOf H file position vector →
    IsVectorOf H file other again → HasSeen H other position → (replica : ℕ) → vector replica ≤ again replica
count_from_seen v w t u s replica = counts_at_most (vector_counts v t replica) (vector_counts w u replica)
    (λ counted l p. seen_version_later s p)

-- so this one count tells whether the other is this version or has it in its past
pub own_count_past : {H : List Event} {file : Id} {position other replica : ℕ} {vector again : ℕ → ℕ} →
    IsVersion H file position → IsVersion H file other → IsOf H position replica →
    IsVectorOf H file position vector → IsVectorOf H file other again →
    vector replica ≤ again replica → (position ≡ other) ⊎ HasInPast H other position
own_count_past v w o t u l = update_seen w.update.at (seen_from_count v w t u o l)

pub past_own_count : {H : List Event} {file : Id} {position other replica : ℕ} {vector again : ℕ → ℕ} →
    IsVersion H file position → IsVersion H file other →
    IsVectorOf H file position vector → IsVectorOf H file other again →
    (position ≡ other) ⊎ HasInPast H other position → vector replica ≤ again replica
past_own_count {H} {position = position} {replica = replica} v w t u (inl e) =
    count_from_seen v w t u (subst (λ at. HasSeen H at position) e (Itself (writer v))) replica
past_own_count {replica = replica} v w t u (inr p) = count_from_seen v w t u (past_seen p) replica

module _ (volume : Volume) (H : List Event) (lawful : IsLawful volume H) (file : Id) where
  pub seen_at_most : {position other : ℕ} {vector again : ℕ → ℕ} → IsVersion H file position → IsVersion H file other →
      IsVectorOf H file position vector → IsVectorOf H file other again →
      HasSeen H other position ↔ IsAtMost volume.members vector again
  seen_at_most v w t u = (
    (λ s. record { each = λ replica m. count_from_seen v w t u s replica }),
    (λ a. seen_from_count v w t u (writer v) (a.each v.number.replica (writer_member volume H lawful v))),
  )

  past_under : {position other : ℕ} {vector again : ℕ → ℕ} → IsVersion H file position → IsVersion H file other →
      IsVectorOf H file position vector → IsVectorOf H file other again →
      IsUnder volume.members vector again ↔ HasInPast H other position
  past_under {position} {other} {vector} {again} v w t u = (
    (λ a. there a (update_seen w.update.at ((seen_at_most v w t u).1 a.at_most))),
    back,
  )
    where
      there : IsUnder volume.members vector again → (position ≡ other) ⊎ HasInPast H other position →
          HasInPast H other position
      there a (inl e) = absurd (a.strictly ((seen_at_most w v u t).0 (subst (λ at. HasSeen H at other) (sym e) (Itself (writer w)))))
      there a (inr p) = p

      back : HasInPast H other position → IsUnder volume.members vector again
      back p = record {
        at_most = (seen_at_most v w t u).0 (past_seen p);
        strictly = λ a. omega (arith, past_earlier p, seen_within ((seen_at_most w v u t).1 a));
      }

  equal_one : {position other : ℕ} {vector again : ℕ → ℕ} → IsVersion H file position → IsVersion H file other →
      IsVectorOf H file position vector → IsVectorOf H file other again → AreEqual volume.members vector again →
      position ≡ other
  equal_one {vector = vector} {again = again} v w t u e =
      let s = seen_within ((seen_at_most v w t u).1 (record { each = λ replica m. let q = e.each replica m in omega arith })) in
      let r = seen_within ((seen_at_most w v u t).1 (record { each = λ replica m. let q = e.each replica m in omega arith })) in
      omega arith

  one_equal : {position other : ℕ} {vector again : ℕ → ℕ} → IsVersion H file position →
      IsVectorOf H file position vector → IsVectorOf H file other again → position ≡ other →
      AreEqual volume.members vector again
  one_equal {position} {other} {vector} {again} v t u e = record {
    each = λ replica m. counts_once (vector_counts v t replica)
        (vector_counts v (subst (λ at. IsVectorOf H file at again) (sym e) u) replica);
  }

  -- the vectors of two versions of a file stand as their pasts
  pub compare_as_pasts : {position other : ℕ} {vector again : ℕ → ℕ} → IsVersion H file position →
      IsVersion H file other → IsVectorOf H file position vector → IsVectorOf H file other again →
      CompareAsPasts volume.members H position other vector again
  compare_as_pasts {position} {other} {vector} {again} v w t u = record {
    equal = (equal_one v w t u, one_equal v t u);
    under = past_under v w t u;
    over = past_under w v u t;
    apart = (there, back);
  }
    where
      there : AreApart volume.members vector again → AreConcurrent H position other
      there a = record {
        differ = λ e. a.not_at_most ((seen_at_most v w t u).0 (subst (λ at. HasSeen H at position) e (Itself (writer v))));
        not_earlier = λ p. a.not_at_most ((seen_at_most v w t u).0 (past_seen p));
        not_later = λ p. a.not_at_least ((seen_at_most w v u t).0 (past_seen p));
      }

      not_seen : {late early : ℕ} → late ≢ early → (HasInPast H late early → ⊥) →
          (early ≡ late) ⊎ HasInPast H late early → ⊥
      not_seen differ none (inl e) = differ (sym e)
      not_seen differ none (inr p) = none p

      back : AreConcurrent H position other → AreApart volume.members vector again
      back c = record {
        not_at_most = λ a. not_seen (λ e. c.differ (sym e)) c.not_earlier (update_seen w.update.at ((seen_at_most v w t u).1 a));
        not_at_least = λ a. not_seen c.differ c.not_later (update_seen v.update.at ((seen_at_most w v u t).1 a));
      }

-- the vector of a version doesn't depend on what follows
pub agree_vector : {n : ℕ} {H K : List Event} {file : Id} {position : ℕ} {vector : ℕ → ℕ} → AgreeBelow n H K →
    position < n → IsVectorOf H file position vector → IsVectorOf K file position vector
agree_vector {n} {H} {K} {file} {position} g h t = record {
  counts = λ replica. counts_same (t.counts replica) (within g replica) (within (agree_back g) replica);
}
  where
    past : {A B : List Event} {counted : ℕ} → AgreeBelow n A B → (counted ≡ position) ⊎ HasInPast A position counted →
        (counted ≡ position) ⊎ HasInPast B position counted
    past a (inl e) = inl e
    past a (inr p) = inr (agree_past a h p)

    within : {A B : List Event} → AgreeBelow n A B → (replica counted : ℕ) → counted < position + 1 →
        IsInVector A file position replica counted → IsInVector B file position replica counted
    within a replica counted l p = record {
      version = agree_version a (omega arith) p.version;
      own = agree_of a (omega arith) p.own;
      within = past a p.within;
    }
