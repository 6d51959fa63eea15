-- What an update leaves of the versions.
use Rattle.std.proofs.Common.{◌≡◌, ◌≢◌, ◌↔◌, ◌⊎◌, inl, inr, ℕ, suc, ◌+◌, ◌<◌, ◌==◌, Bool, true, false, if◌then◌else◌, List, [], ◌∷◌, ◌++◌, length, take, Some, arith, refl, sym, ap, ◌∙◌, subst}
use Rattle.std.specs.Prelude.{Contains}
use Rattle.std.proofs.lemmas.Bool.{both_ways, eq-eqb, eqb-true}
use Rattle.std.proofs.lemmas.List.{take_at, length_push}
use Rattle.ficus_ids.specs.ListLaws.{here as first, here_or_there, not_inside_none}
use Rattle.ficus_ids.specs.declared.id.Id.{Id}
use Rattle.ficus_model.specs.declared.event.Event.{Event}
use Rattle.ficus_model.specs.declared.event.Event.TheVariants.{Update}
use Rattle.ficus_model.specs.declared.event.Op.{Op}
use Rattle.ficus_model.specs.Events.{IsOf, IsUpdate}
use Rattle.ficus_model.specs.Known.{Knows, HasInPast}
use Rattle.ficus_model.specs.Versions.{version_of, bytes_of, IsVersion, IsShown}
use Rattle.ficus_model.specs.Vectors.{Counts, IsInVector, IsVectorOf}
use Rattle.ficus_model.specs.Vectors.Counts.{OneMore, AsMany}
use Rattle.ficus_laws.specs.Updates.{next_number}
use Rattle.ficus_laws.proofs.Positions.{agree_back, agree_more, of_end, of_more, of_less, of_same}
use Rattle.ficus_laws.proofs.Updates.{update_end, update_cases}
use Rattle.ficus_laws.proofs.Knowledge.{knows_within, knows_more, knows_own, knows_untold}
use Rattle.ficus_version_laws.specs.Compared.{bump}
use Rattle.ficus_version_laws.specs.Listed.{Item, IsItemOf, IsListed, IsShownItem, AreShown, join_all, advanced}
use Rattle.ficus_version_laws.proofs.Counting.{counts_same}
use Rattle.ficus_laws.proofs.Past.{agree_version, past_earlier}
use Rattle.ficus_version_laws.proofs.Past.{version_within}
use Rattle.ficus_version_laws.proofs.Latest.{VersionsWithin, shown_same, are_shown_same, agree_shown, agree_are_shown}
use Rattle.ficus_version_laws.proofs.Listing.{knows_closed, known_counts}

-- Where of the versions of a file the same ones are known after one more event, the same are shown.
module _ (H : List Event) (event : Event) (replica : ℕ) {file : Id}
    (back : VersionsWithin (H ++ event ∷ []) file (Knows (H ++ event ∷ []) replica) (Knows H replica)) where
  there : VersionsWithin (H ++ event ∷ []) file (Knows H replica) (Knows (H ++ event ∷ []) replica)
  there position v k = knows_more (event ∷ []) k

  pub shown_kept : {position : ℕ} → IsShown H (Knows H replica) file position ↔
      IsShown (H ++ event ∷ []) (Knows (H ++ event ∷ []) replica) file position
  shown_kept = (
    (λ s. shown_same there back (agree_shown (agree_more H (event ∷ [])) (λ position k. knows_within k) s)),
    (λ s. agree_shown (agree_back (agree_more H (event ∷ []))) (λ position k. knows_within k) (shown_same back there s)),
  )

  pub are_shown_kept : {versions : List Item} → AreShown H (Knows H replica) file versions ↔
      AreShown (H ++ event ∷ []) (Knows (H ++ event ∷ []) replica) file versions
  are_shown_kept = (
    (λ a. are_shown_same there back (agree_are_shown (agree_more H (event ∷ [])) (λ position k. knows_within k) a)),
    (λ a. agree_are_shown (agree_back (agree_more H (event ∷ []))) (λ position k. knows_within k) (are_shown_same back there a)),
  )

-- In these a replica has done one more operation.
module _ (H : List Event) (replica : ℕ) (op : Op) where
  abbrev pub after : List Event
  after = H ++ Update replica op ∷ []

  pub own_end : IsOf after (length H) replica
  own_end = of_end H (Update replica op)

  same : take (length H) after ≡ H
  same = take_at H (Update replica op ∷ []) (length H) refl

  -- its past is what the replica knew
  pub past_of_end : {position : ℕ} → HasInPast after (length H) position ↔ Knows H replica position
  past_of_end {position} = (
    (λ p. subst
        (λ G. Knows G replica position) same
        (subst (λ by. Knows (take (length H) after) by position) (of_same p.own own_end) p.known)),
    (λ k. record { replica = replica; own = own_end; known = subst (λ G. Knows G replica position) (sym same) k }),
  )

  -- the replica then knows it, and what it knew
  pub known_after : {position : ℕ} → Knows after replica position → (position ≡ length H) ⊎ Knows H replica position
  known_after {position} k = go (knows_untold (Update replica op) (λ served takes. takes) k)
    where
      go : Knows H replica position ⊎ (position ≡ length H) → (position ≡ length H) ⊎ Knows H replica position
      go (inl was) = inr was
      go (inr end) = inl end

  -- the new event is a version of the file exactly where the operation says so
  pub end_version : {file : Id} → version_of (next_number replica H) op ≡ Some file → IsVersion after file (length H)
  end_version is = record { number = next_number replica H; op = op; update = update_end H replica op; versions = is }

  pub version_after : {file : Id} {position : ℕ} → IsVersion after file position →
      IsVersion H file position ⊎ ((position ≡ length H) × (version_of (next_number replica H) op ≡ Some file))
  version_after {file} {position} v = go (update_cases (Update replica op) v.update)
    where
      go : IsUpdate H position v.number v.op ⊎
          ((position ≡ length H) × (Update replica op ≡ Update v.number.replica v.op) ×
          (v.number ≡ next_number v.number.replica H)) →
          IsVersion H file position ⊎ ((position ≡ length H) × (version_of (next_number replica H) op ≡ Some file))
      go (inl was) = inl (record { number = v.number; op = v.op; update = was; versions = v.versions })
      go (inr (end, is, next)) =
          let by : replica ≡ v.number.replica = cc in
          let done : op ≡ v.op = cc in
          inr (
            end,
            ap (λ q. version_of (next_number q H) op) by ∙ ap (version_of (next_number v.number.replica H)) done ∙
                ap (λ number. version_of number v.op) (sym next) ∙ v.versions,
          )

  -- an operation that is no version event of the file leaves the known versions
  pub other_back : {file : Id} → version_of (next_number replica H) op ≢ Some file →
      VersionsWithin after file (Knows after replica) (Knows H replica)
  other_back {file} differs position v k = go (known_after k) (version_after v)
    where
      go : (position ≡ length H) ⊎ Knows H replica position →
          IsVersion H file position ⊎ ((position ≡ length H) × (version_of (next_number replica H) op ≡ Some file)) →
          Knows H replica position
      go (inr was) new = was
      go (inl end) (inl v) = absurd (omega (arith, version_within v))
      go (inl end) (inr (here, is)) = absurd (differs is)

  -- Of a file of which it is a version event it is the one version shown, over all that were known.
  module _ {file : Id} (is : version_of (next_number replica H) op ≡ Some file) where
    pub end_shown : IsShown after (Knows after replica) file (length H)
    end_shown = record {
      version = end_version is;
      known = knows_own own_end;
      latest = λ other v k p. omega (arith, past_earlier p, version_within v, length_push H (Update replica op));
    }

    pub shown_is_end : {position : ℕ} → IsShown after (Knows after replica) file position → position ≡ length H
    shown_is_end {position} s = go (known_after s.known)
      where
        go : (position ≡ length H) ⊎ Knows H replica position → position ≡ length H
        go (inl end) = end
        go (inr was) = absurd (s.latest (length H) (end_version is) (knows_own own_end) (past_of_end.1 was))

    module _ {versions : List Item} (a : AreShown H (Knows H replica) file versions) where
      old : (by : ℕ) → Counts (IsInVector after file (length H) by) (length H) (join_all versions by)
      old by = counts_same
          (known_counts (knows_closed H replica) a by)
          (λ number l p. record {
            version = agree_version (agree_more H (Update replica op ∷ [])) l p.version;
            own = of_more (Update replica op ∷ []) p.own;
            within = inr (past_of_end.1 p.known);
          })
          (λ number l p. record {
            version = agree_version (agree_back (agree_more H (Update replica op ∷ []))) l p.version;
            own = of_less (Update replica op ∷ []) p.own l;
            known = known l p.within;
          })
        where
          known : {number : ℕ} → number < length H → (number ≡ length H) ⊎ HasInPast after (length H) number →
              Knows H replica number
          known l (inl e) = absurd (omega arith)
          known l (inr p) = past_of_end.0 p

      pub end_vector : IsVectorOf after file (length H) (bump replica (join_all versions))
      end_vector = record { counts = λ by. go by (by == replica) refl }
        where
          go : (by : ℕ) (own : Bool) → (by == replica) ≡ own → Counts (IsInVector after file (length H) by)
              (length H + 1) (if own then join_all versions by + 1 else join_all versions by)
          go by true e =
              let new : IsInVector after file (length H) by (length H) = record {
                version = end_version is;
                own = subst (λ q. IsOf after (length H) q) (sym (eqb-true by replica e)) own_end;
                within = inl refl;
              } in
              subst
              (λ m. Counts (IsInVector after file (length H) by) m (join_all versions by + 1))
              (omega arith)
              (subst
              (λ c. Counts (IsInVector after file (length H) by) (suc (length H)) c)
              (omega arith) (OneMore new (old by)))
          go by false e =
              subst
              (λ m. Counts (IsInVector after file (length H) by) m (join_all versions by))
              (omega arith)
              (AsMany (λ p. both_ways (by == replica) e (eq-eqb by replica (of_same p.own own_end))) (old by))

      pub advanced_shown : AreShown after (Knows after replica) file (advanced replica (bytes_of op) versions)
      advanced_shown = record { each = each; all = all }
        where
          item : Item
          item = record { vector = bump replica (join_all versions); bytes = bytes_of op }

          item_is : IsItemOf after file (length H) item
          item_is = record {
            vector = end_vector;
            bytes = record { number = next_number replica H; op = op; update = update_end H replica op; are = refl };
          }

          each : (found : Item) → Contains (advanced replica (bytes_of op) versions) found →
              IsShownItem after (Knows after replica) file found
          each found inside = go (here_or_there item found [] inside)
            where
              go : (found ≡ item) ⊎ Contains [] found → IsShownItem after (Knows after replica) file found
              go (inl e) = record {
                position = length H;
                shown = end_shown;
                is = subst (λ i. IsItemOf after file (length H) i) (sym e) item_is;
              }
              go (inr none) = absurd (not_inside_none found none)

          all : (position : ℕ) → IsShown after (Knows after replica) file position →
              IsListed after file (advanced replica (bytes_of op) versions) position
          all position s = record {
            item = item;
            inside = first item [];
            is = subst (λ p. IsItemOf after file p item) (sym (shown_is_end s)) item_is;
          }
