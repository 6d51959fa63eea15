-- The vectors of the shown versions count together what is known of a file.
use Rattle.std.proofs.Common.{◌≡◌, ◌⊎◌, inl, inr, ℕ, List, [], ◌∷◌, length, arith, sym, subst}
use Rattle.std.specs.Prelude.{Contains}
use Rattle.ficus_ids.specs.ListLaws.{here, there, here_or_there, not_inside_none}
use Rattle.ficus_ids.specs.declared.id.Id.{Id}
use Rattle.ficus_model.specs.declared.event.Event.{Event}
use Rattle.ficus_model.specs.Events.{IsOf}
use Rattle.ficus_model.specs.Known.{HasSeen, Knows}
use Rattle.ficus_model.specs.Known.HasSeen.{Itself}
use Rattle.ficus_model.specs.Versions.{IsVersion, IsShown}
use Rattle.ficus_model.specs.Vectors.{Counts, IsVectorOf}
use Rattle.ficus_laws.proofs.Knowledge.{knows_past}
use Rattle.ficus_version_laws.specs.Listed.{Item, IsShownItem, AreShown, join_all}
use Rattle.ficus_version_laws.proofs.Counting.{IsFirstPart, counts_same, counts_none, counts_join, counts_decide}
use Rattle.ficus_version_laws.proofs.Past.{version_within, seen_own}
use Rattle.ficus_version_laws.proofs.Comparing.{IsVersionBy, IsSeenVersion, seen_version_later, seen_first_part, seen_from_count, writer, vector_counts}
use Rattle.ficus_version_laws.proofs.Latest.{none_seen}

-- what a known event has seen is known
abbrev pub IsClosed : List Event → (ℕ → Type 0) → Type 0
IsClosed H U = (position seen : ℕ) → U position → HasSeen H position seen → U seen

pub knows_closed : (H : List Event) (replica : ℕ) → IsClosed H (Knows H replica)
knows_closed H replica position seen k s = knows_past k s

-- a known version event of the file by the replica
pub record IsKnownVersion (H : List Event) (U : ℕ → Type 0) (file : Id) (replica position : ℕ) : Type 0 where
  pub version : IsVersion H file position
  pub own : IsOf H position replica
  pub known : U position

pub known_first_part : {H : List Event} {U : ℕ → Type 0} {file : Id} {replica : ℕ} → IsClosed H U →
    IsFirstPart (IsVersionBy H file replica) (IsKnownVersion H U file replica)
known_first_part closed = record {
  part = λ number p. record { version = p.version; own = p.own };
  down = λ earlier number p t l. record {
    version = t.version;
    own = t.own;
    known = closed number earlier p.known (seen_own p.own t.own l);
  };
}

-- a version event of the file by the replica that a shown version of the list has seen
pub record IsSeenByListed (H : List Event) (U : ℕ → Type 0) (file : Id) (versions : List Item) (replica position : ℕ) : Type 0 where
  pub item : Item
  pub inside : Contains versions item
  pub shown : IsShownItem H U file item
  pub seen : IsSeenVersion H file shown.position replica position

listed_first_part : {H : List Event} {U : ℕ → Type 0} {file : Id} {versions : List Item} {replica : ℕ} →
    IsFirstPart (IsVersionBy H file replica) (IsSeenByListed H U file versions replica)
listed_first_part = record {
  part = λ number p. record { version = p.seen.version; own = p.seen.own };
  down = λ earlier number p t l. record {
    item = p.item;
    inside = p.inside;
    shown = p.shown;
    seen = seen_first_part.down earlier number p.seen t l;
  };
}

-- the join of the vectors counts what the versions of the list have seen
listed_counts : {H : List Event} {U : ℕ → Type 0} {file : Id} (versions : List Item) (replica : ℕ) →
    ((item : Item) → Contains versions item → IsShownItem H U file item) →
    Counts (IsSeenByListed H U file versions replica) (length H) (join_all versions replica)
listed_counts {H} [] replica each = counts_none (length H) (λ number l p. not_inside_none p.item p.inside)
listed_counts {H} {U} {file} (item ∷ items) replica each =
    counts_same
    (counts_join seen_first_part listed_first_part
    (vector_counts first.shown.version first.is.vector replica)
    (listed_counts items replica (λ other inside. each other (there item other items inside))))
    (λ number l p. add p) (λ number l p. split p)
  where
    first : IsShownItem H U file item
    first = each item (here item items)

    add : {number : ℕ} →
        IsSeenVersion H file first.position replica number ⊎ IsSeenByListed H U file items replica number →
        IsSeenByListed H U file (item ∷ items) replica number
    add (inl s) = record { item = item; inside = here item items; shown = first; seen = s }
    add (inr p) = record { item = p.item; inside = there item p.item items p.inside; shown = p.shown; seen = p.seen }

    split : {number : ℕ} → IsSeenByListed H U file (item ∷ items) replica number →
        IsSeenVersion H file first.position replica number ⊎ IsSeenByListed H U file items replica number
    split {number} p = go (here_or_there item p.item items p.inside)
      where
        go : (p.item ≡ item) ⊎ Contains items p.item →
            IsSeenVersion H file first.position replica number ⊎ IsSeenByListed H U file items replica number
        go (inl e) = inl
            (seen_version_later
            (seen_from_count p.shown.shown.version first.shown.version p.shown.is.vector
            (subst (λ same. IsVectorOf H file first.position same.vector) (sym e) first.is.vector)
            (writer p.shown.shown.version) (omega arith)) p.seen)
        go (inr inside) = inr (record { item = p.item; inside = inside; shown = p.shown; seen = p.seen })

-- a version of the file that is known is seen by one of the list
pub seen_by_listed : {H : List Event} {U : ℕ → Type 0} {file : Id} {versions : List Item} {replica number : ℕ} →
    AreShown H U file versions → IsKnownVersion H U file replica number →
    IsSeenByListed H U file versions replica number
seen_by_listed {H} {U} {file} {versions} {replica} {number} a p = go
    (counts_decide number (listed_counts versions replica a.each) (version_within p.version))
  where
    by_item : {position : ℕ} → IsShown H U file position → HasSeen H position number →
        IsSeenByListed H U file versions replica number
    by_item {position} s seen =
        let i = a.all position s in
        record {
          item = i.item;
          inside = i.inside;
          shown = record { position = position; shown = s; is = i.is };
          seen = record { version = p.version; own = p.own; seen = seen };
        }

    go : IsSeenByListed H U file versions replica number ⊎ (IsSeenByListed H U file versions replica number → ⊥) →
        IsSeenByListed H U file versions replica number
    go (inl found) = found
    go (inr missing) = absurd
        (none_seen U
        (λ position s seen. missing (by_item s seen)) (length H) number (omega arith) p.version
        p.known (Itself p.own))

-- so the join of their vectors counts what is known of the file
pub known_counts : {H : List Event} {U : ℕ → Type 0} {file : Id} {versions : List Item} → IsClosed H U →
    AreShown H U file versions → (replica : ℕ) →
    Counts (IsKnownVersion H U file replica) (length H) (join_all versions replica)
known_counts {H} {U} {file} {versions} closed a replica = counts_same
    (listed_counts versions replica a.each) (λ number l p. known p)
    (λ number l p. seen_by_listed a p)
  where
    known : {number : ℕ} → IsSeenByListed H U file versions replica number → IsKnownVersion H U file replica number
    known {number} p = record {
      version = p.seen.version;
      own = p.seen.own;
      known = closed p.shown.position number p.shown.shown.known p.seen.seen;
    }
