-- Which versions are shown where two know, and in a longer history.
use Rattle.std.proofs.Common.{◌≡◌, ◌↔◌, ◌⊎◌, inl, inr, ℕ, zero, suc, ◌+◌, ◌<◌, ◌≤◌, List, length, arith, subst}
use Rattle.std.proofs.lemmas.Bool.{cases_order}
use Rattle.ficus_ids.specs.declared.id.Id.{Id}
use Rattle.ficus_model.specs.declared.event.Event.{Event}
use Rattle.ficus_model.specs.Events.{IsOf}
use Rattle.ficus_model.specs.Known.{HasSeen, HasInPast}
use Rattle.ficus_model.specs.Lawful.{Volume, IsLawful}
use Rattle.ficus_model.specs.Versions.{IsVersion, IsShown}
use Rattle.ficus_laws.specs.Updates.{Joined}
use Rattle.ficus_laws.proofs.Positions.{AgreeBelow, agree_back}
use Rattle.ficus_laws.proofs.Seen.{seen_through}
use Rattle.ficus_version_laws.specs.Compared.{IsUnder}
use Rattle.ficus_version_laws.specs.Listed.{Item, IsItemOf, IsShownItem, IsListed, AreShown, IsShownInEither, IsLatestOfBoth, IsOfEither, IsKept, AreMerged}
use Rattle.ficus_laws.proofs.Past.{agree_bytes, past_earlier, past_seen, update_seen}
use Rattle.ficus_version_laws.proofs.Past.{version_within, seen_own}
use Rattle.ficus_laws.proofs.Views.{KnownBelow, agree_known, shown_within}
use Rattle.ficus_version_laws.proofs.Comparing.{compare_as_pasts, agree_vector}

-- the first set lies in the second, for versions of the file
abbrev pub VersionsWithin : List Event → Id → (ℕ → Type 0) → (ℕ → Type 0) → Type 0
VersionsWithin H file U V = (position : ℕ) → IsVersion H file position → U position → V position

-- the same known versions are shown the same
pub shown_same : {H : List Event} {U V : ℕ → Type 0} {file : Id} {position : ℕ} →
    VersionsWithin H file U V → VersionsWithin H file V U → IsShown H U file position → IsShown H V file position
shown_same {position = position} there back s = record {
  version = s.version;
  known = there position s.version s.known;
  latest = λ other v k p. s.latest other v (back other v k) p;
}

pub are_shown_same : {H : List Event} {U V : ℕ → Type 0} {file : Id} {versions : List Item} →
    VersionsWithin H file U V → VersionsWithin H file V U → AreShown H U file versions → AreShown H V file versions
are_shown_same there back a = record {
  each = λ item inside. let s = a.each item inside in record { position = s.position; shown = shown_same there back s.shown; is = s.is };
  all = λ position s. a.all position (shown_same back there s);
}

-- what is shown doesn't depend on what follows the known positions
pub agree_shown : {n : ℕ} {H K : List Event} {U : ℕ → Type 0} {file : Id} {position : ℕ} →
    AgreeBelow n H K → KnownBelow n U → IsShown H U file position → IsShown K U file position
agree_shown g below s = shown_within (agree_known g below) s

pub agree_item : {n : ℕ} {H K : List Event} {file : Id} {position : ℕ} {item : Item} →
    AgreeBelow n H K → position < n → IsItemOf H file position item → IsItemOf K file position item
agree_item g l i = record { vector = agree_vector g l i.vector; bytes = agree_bytes g l i.bytes }

pub agree_are_shown : {n : ℕ} {H K : List Event} {U : ℕ → Type 0} {file : Id} {versions : List Item} →
    AgreeBelow n H K → KnownBelow n U → AreShown H U file versions → AreShown K U file versions
agree_are_shown {H = H} {K = K} {file = file} {versions = versions} g below a = record {
  each = λ item inside.
      let s = a.each item inside in
      record { position = s.position; shown = agree_shown g below s.shown; is = agree_item g (below s.position s.shown.known) s.is };
  all = λ position s.
      let i = a.all position (agree_shown (agree_back g) below s) in
      record { item = i.item; inside = i.inside; is = agree_item g (below position s.known) i.is };
}

-- of each replica at most one version of a file is shown
pub shown_once : {H : List Event} {U : ℕ → Type 0} {file : Id} {position other replica : ℕ} →
    IsShown H U file position → IsShown H U file other →
    IsOf H position replica → IsOf H other replica → position ≡ other
shown_once {H} {U} {file} {position} {other} {replica} s t o p = go (cases_order position other)
  where
    later : {late early : ℕ} → IsShown H U file late → IsShown H U file early → IsOf H late replica →
        IsOf H early replica → early < late → (early ≡ late) ⊎ HasInPast H late early → ⊥
    later a b q r l (inl e) = omega arith
    later {late} a b q r l (inr p) = b.latest late a.version a.known p

    go : (position ≡ other) ⊎ ((position < other) ⊎ (other < position)) → position ≡ other
    go (inl e) = e
    go (inr (inl l)) = absurd (later t s p o l (update_seen t.version.update.at (seen_own p o l)))
    go (inr (inr l)) = absurd (later s t o p l (update_seen s.version.update.at (seen_own o p l)))

-- where no shown version has seen the position, no known one has
pub none_seen : {H : List Event} {file : Id} {seen : ℕ} (U : ℕ → Type 0) →
    ((position : ℕ) → IsShown H U file position → HasSeen H position seen → ⊥) →
    (rest position : ℕ) → length H ≤ position + rest →
    IsVersion H file position → U position → HasSeen H position seen → ⊥
none_seen U none zero position l v k s = omega (arith, version_within v)
none_seen U none (suc rest) position l v k s = none position (record {
  version = v;
  known = k;
  latest = λ other w j p. none_seen U none rest other (let m = past_earlier p in omega arith) w j (seen_through (past_seen p) s);
}) s

-- where none has it in its past, no known one has
pub none_later : {H : List Event} {U : ℕ → Type 0} {file : Id} {position other : ℕ} →
    ((late : ℕ) → IsShown H U file late → HasInPast H late position → ⊥) →
    IsVersion H file other → U other → HasInPast H other position → ⊥
none_later {H} {U} {file} {position} {other} none v k p = none_seen U unseen (length H) other (omega arith) v k (past_seen p)
  where
    -- the version at the position has no known version in its future, so none that has seen it but itself
    unseen : (late : ℕ) → IsShown H U file late → HasSeen H late position → ⊥
    unseen late s seen = pick (update_seen s.version.update.at seen)
      where
        pick : (position ≡ late) ⊎ HasInPast H late position → ⊥
        pick (inl e) = s.latest other v k (subst (λ at. HasInPast H other at) e p)
        pick (inr q) = none late s q

-- Where two know together, the latest of what each of them is shown are shown.
module _ {H : List Event} {U V : ℕ → Type 0} {file : Id} where
  pub joined_shown : {position : ℕ} → IsShown H (Joined U V) file position → IsLatestOfBoth H U H V file position
  joined_shown {position} s = record { shown = shown s.known; latest = latest }
    where
      shown : U position ⊎ V position → IsShownInEither H U H V file position
      shown (inl k) = inl (record { version = s.version; known = k; latest = λ other v j p. s.latest other v (inl j) p })
      shown (inr k) = inr (record { version = s.version; known = k; latest = λ other v j p. s.latest other v (inr j) p })

      latest : (other : ℕ) → IsShownInEither H U H V file other → HasInPast H other position → ⊥
      latest other (inl t) p = s.latest other t.version (inl t.known) p
      latest other (inr t) p = s.latest other t.version (inr t.known) p

  pub shown_joined : {position : ℕ} → IsLatestOfBoth H U H V file position → IsShown H (Joined U V) file position
  shown_joined {position} l = go l.shown
    where
      none : (other : ℕ) → IsVersion H file other → U other ⊎ V other → HasInPast H other position → ⊥
      none other v (inl k) p = none_later (λ late s q. l.latest late (inl s) q) v k p
      none other v (inr k) p = none_later (λ late s q. l.latest late (inr s) q) v k p

      go : IsShownInEither H U H V file position → IsShown H (Joined U V) file position
      go (inl s) = record { version = s.version; known = inl s.known; latest = none }
      go (inr s) = record { version = s.version; known = inr s.known; latest = none }

  -- the merge of two lists of shown versions
  module _ (volume : Volume) (lawful : IsLawful volume H) {versions others merged : List Item}
      (a : AreShown H U file versions) (b : AreShown H V file others) (m : AreMerged volume.members versions others merged) where
    under : {W X : ℕ → Type 0} {early late : ℕ} {item over : Item} →
        IsShown H W file early → IsShown H X file late → IsItemOf H file early item → IsItemOf H file late over →
        IsUnder volume.members item.vector over.vector ↔ HasInPast H late early
    under s t i j = (compare_as_pasts volume H lawful file s.version t.version i.vector j.vector).under

    pub are_shown_merged : AreShown H (Joined U V) file merged
    are_shown_merged = record { each = λ item inside. each item ((m.items item).0 inside); all = all }
      where
        latest : {W : ℕ → Type 0} {position : ℕ} {item : Item} → IsShown H W file position →
            IsItemOf H file position item →
            IsKept volume.members versions others item →
            (late : ℕ) → IsShownInEither H U H V file late → HasInPast H late position → ⊥
        latest s i k late (inl t) p = let w = a.all late t in k.latest w.item (inl w.inside) ((under s t i w.is).1 p)
        latest s i k late (inr t) p = let w = b.all late t in k.latest w.item (inr w.inside) ((under s t i w.is).1 p)

        each : (item : Item) → IsKept volume.members versions others item → IsShownItem H (Joined U V) file item
        each item k = go k.from
          where
            go : IsOfEither versions others item → IsShownItem H (Joined U V) file item
            go (inl inside) =
                let s = a.each item inside in
                record {
                  position = s.position;
                  shown = shown_joined (record { shown = inl s.shown; latest = latest s.shown s.is k });
                  is = s.is;
                }
            go (inr inside) =
                let s = b.each item inside in
                record {
                  position = s.position;
                  shown = shown_joined (record { shown = inr s.shown; latest = latest s.shown s.is k });
                  is = s.is;
                }

        kept : {position : ℕ} {item : Item} → IsShown H (Joined U V) file position → IsItemOf H file position item →
            (over : Item) → IsOfEither versions others over → IsUnder volume.members item.vector over.vector → ⊥
        kept s i over (inl inside) u =
            let t = a.each over inside in
            s.latest t.position t.shown.version (inl t.shown.known) ((under s t.shown i t.is).0 u)
        kept s i over (inr inside) u =
            let t = b.each over inside in
            s.latest t.position t.shown.version (inr t.shown.known) ((under s t.shown i t.is).0 u)

        all : (position : ℕ) → IsShown H (Joined U V) file position → IsListed H file merged position
        all position s = go (joined_shown s).shown
          where
            go : IsShownInEither H U H V file position → IsListed H file merged position
            go (inl t) =
                let w = a.all position t in
                record {
                  item = w.item;
                  inside = (m.items w.item).1 (record { from = inl w.inside; latest = kept s w.is });
                  is = w.is;
                }
            go (inr t) =
                let w = b.all position t in
                record {
                  item = w.item;
                  inside = (m.items w.item).1 (record { from = inr w.inside; latest = kept s w.is });
                  is = w.is;
                }
