-- What the lists of versions and the covers tell of conflicts and orphans.
use Rattle.std.proofs.Common.{◌≡◌, ◌↔◌, ◌⊎◌, inl, inr, ℕ, List, sym, ap, ◌∙◌, subst}
use Rattle.std.specs.Prelude.{Contains}
use Rattle.ficus_ids.specs.declared.id.Id.{Id}
use Rattle.ficus_model.specs.declared.event.Event.{Event}
use Rattle.ficus_model.specs.Known.{Knows}
use Rattle.ficus_model.specs.Live.{HasName, IsFile}
use Rattle.ficus_model.specs.Lawful.{Volume, IsLawful}
use Rattle.ficus_model.specs.Versions.{bytes_of, HasBytes, IsShown, ShowsBytes, IsInConflict}
use Rattle.ficus_model.specs.Vectors.{IsCoverOf}
use Rattle.ficus_model.specs.View.{IsFilled, HasUnseen, IsOrphan}
use Rattle.ficus_laws.proofs.Issued.{made_once}
use Rattle.ficus_laws.proofs.Past.{update_same}
use Rattle.ficus_version_laws.specs.Listed.{Item, AreShown}
use Rattle.ficus_version_laws.specs.Covers.{HasBeyond, HasTwoTexts}
use Rattle.ficus_version_laws.proofs.Comparing.{writer}
use Rattle.ficus_version_laws.proofs.Listing.{seen_by_listed}
use Rattle.ficus_version_laws.proofs.Covering.{cover_seen, covered_from_cover, cover_from_covered}
use Rattle.ficus_version_laws.proofs.Objects.{version_file}

-- an update has one text
pub bytes_once : {H : List Event} {position : ℕ} {bytes again : List ℕ} → HasBytes H position bytes →
    HasBytes H position again → bytes ≡ again
bytes_once b c = sym b.are ∙ ap bytes_of (update_same b.update c.update).1 ∙ c.are

-- a file of which one version is shown isn't in conflict
pub one_no_conflict : {H : List Event} {U : ℕ → Type 0} {file : Id} {only : ℕ} →
    ((position : ℕ) → IsShown H U file position → position ≡ only) → IsInConflict H U file → ⊥
one_no_conflict {H} one c =
    let e = one c.shows_one.position c.shows_one.shown in
    let f = one c.shows_other.position c.shows_other.shown in
    c.differ (bytes_once c.shows_one.has (subst (λ p. HasBytes H p c.other) (f ∙ sym e) c.shows_other.has))

-- a file is in conflict exactly where two versions of its list differ in bytes
pub conflict_listed : {H : List Event} {U : ℕ → Type 0} {file : Id} {versions : List Item} →
    AreShown H U file versions → IsInConflict H U file ↔ HasTwoTexts versions
conflict_listed {H} {U} {file} {versions} a = (there, back)
  where
    there : IsInConflict H U file → HasTwoTexts versions
    there c =
        let i = a.all c.shows_one.position c.shows_one.shown in
        let j = a.all c.shows_other.position c.shows_other.shown in
        record {
          one = i.item;
          other = j.item;
          inside = i.inside;
          inside_too = j.inside;
          differ = λ e. c.differ (bytes_once c.shows_one.has i.is.bytes ∙ e ∙ bytes_once j.is.bytes c.shows_other.has);
        }

    shows : (item : Item) → Contains versions item → ShowsBytes H U file item.bytes
    shows item inside = let s = a.each item inside in record { position = s.position; shown = s.shown; has = s.is.bytes }

    back : HasTwoTexts versions → IsInConflict H U file
    back t = record {
      one = t.one.bytes;
      other = t.other.bytes;
      shows_one = shows t.one t.inside;
      shows_other = shows t.other t.inside_too;
      differ = t.differ;
    }

module _ (volume : Volume) (H : List Event) (lawful : IsLawful volume H) (replica : ℕ) {file : Id}
    {versions : List Item} {cover : ℕ → ℕ}
    (a : AreShown H (Knows H replica) file versions) (d : IsCoverOf H (Knows H replica) file cover) where
  -- some version that is known is uncovered exactly where one of the list isn't at most the cover
  pub unseen_beyond : HasUnseen H (Knows H replica) file → HasBeyond volume.members versions cover
  unseen_beyond u =
      let v = u.uncovered.version in
      let listed = seen_by_listed a (record { version = v; own = writer v; known = u.uncovered.known }) in
      record {
        item = listed.item;
        inside = listed.inside;
        beyond = λ below. (
            let c = cover_seen
            (covered_from_cover volume H lawful listed.shown.shown.version listed.shown.is.vector d below)
            listed.seen.seen in
            u.uncovered.uncovered c.cover c.covering c.known c.past);
      }

  pub beyond_unseen : HasBeyond volume.members versions cover → HasUnseen H (Knows H replica) file
  beyond_unseen b =
      let s = a.each b.item b.inside in
      record {
        is_file = version_file volume H lawful replica s.shown.version s.shown.known;
        position = s.position;
        uncovered = record {
          version = s.shown.version;
          known = s.shown.known;
          uncovered = λ at covering known past. b.beyond
              (cover_from_covered volume H lawful s.shown.version s.is.vector d (record {
                cover = at;
                covering = covering;
                known = known;
                past = past;
              }));
        };
      }

  -- so a file is an orphan exactly where it has no live name, and a shown version of it isn't covered
  pub orphan_beyond : IsFile H (Knows H replica) file → IsOrphan H (Knows H replica) file →
      (HasName H (Knows H replica) file → ⊥) × HasBeyond volume.members versions cover
  orphan_beyond is_file o = (o.nameless, go o.kept)
    where
      go : IsFilled H (Knows H replica) file ⊎ HasUnseen H (Knows H replica) file →
          HasBeyond volume.members versions cover
      go (inl filled) = absurd (is_file.other (made_once is_file.made filled.made))
      go (inr unseen) = unseen_beyond unseen

  pub beyond_orphan : (HasName H (Knows H replica) file → ⊥) × HasBeyond volume.members versions cover →
      IsOrphan H (Knows H replica) file
  beyond_orphan (nameless, beyond) = record { nameless = nameless; kept = inr (beyond_unseen beyond) }
