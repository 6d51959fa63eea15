-- What Resolves leave of the versions of a file.
use Rattle.std.proofs.Common.{◌≡◌, ◌↔◌, ℕ, ◌+◌, ◌<◌, List, [], length, ◌∷◌, ◌++◌, Contains, inl, inr, refl, sym, ap, subst, ◌∙◌}
use Rattle.ficus_ids.specs.declared.id.Id.{Id}
use Rattle.ficus_file.specs.declared.version.Version.{Version}
use Rattle.ficus_file.specs.Version.{HasTwoTexts}
use Rattle.ficus_model.specs.declared.event.Event.{Event}
use Rattle.ficus_model.specs.declared.event.Event.TheVariants.{Update, Accept}
use Rattle.ficus_model.specs.declared.event.Op.TheVariants.{Resolve}
use Rattle.ficus_model.specs.Events.{IsOf, through}
use Rattle.ficus_model.specs.Known.{Knows}
use Rattle.ficus_model.specs.Versions.{IsVersion, HasBytes, IsShown, ShowsBytes, IsInConflict}
use Rattle.ficus_laws.specs.Updates.{next_number}
use Rattle.ficus_laws.proofs.Positions.{AgreeBelow, agree_before, agree_more}
use Rattle.ficus_laws.proofs.Knowledge.{knows_within}
use Rattle.ficus_laws.proofs.Past.{agree_bytes}
use Rattle.ficus_laws.proofs.Updates.{update_end, update_within}
use Rattle.ficus_merge_files.specs.Versions.{IsOfEither, AreMerged}
use Rattle.ficus_version_laws.proofs.Advancing.{shown_is_end}
use Rattle.ficus_version_laws.proofs.Latest.{are_shown_same, agree_are_shown}
use Rattle.ficus_version_laws.proofs.Orphaned.{bytes_once}
use Rattle.ficus_version_laws.proofs.Taking.{knows_before, accept_shown}
use Rattle.ficus_version_laws.specs.Listed.{IsShownInEither}
use Rattle.ficus_file_laws.specs.Items.{AreVersionsOf}
use Rattle.ficus_file_laws.proofs.Items.{from_items, shown_item}
use Rattle.ficus_file_laws.proofs.Listing.{one_list}

-- all versions of the list have these bytes
abbrev pub HaveBytes : List Version → List ℕ → Type 0
HaveBytes versions bytes = (version : Version) → Contains versions version → version.bytes ≡ bytes

-- after a Resolve each version that is shown has its bytes
pub resolve_shows : (H : List Event) (replica : ℕ) (file : Id) (bytes : List ℕ) (versions : List Version) →
    let K = H ++ Update replica (Resolve file bytes) ∷ [] in
    AreVersionsOf K (Knows K replica) file versions → HaveBytes versions bytes
resolve_shows H replica file bytes versions are version inside =
    let op = Resolve file bytes in
    let K = H ++ Update replica op ∷ [] in
    let s = shown_item versions version are inside in
    bytes_once
    (subst (λ position. HasBytes K position version.bytes) (shown_is_end H replica op refl s.shown) s.is.bytes)
    (record { number = next_number replica H; op = op; update = update_end H replica op; are = refl })

-- lists whose versions all have the same bytes make no conflict together
pub alike_merge : (mine theirs both : List Version) (bytes : List ℕ) → HaveBytes mine bytes → HaveBytes theirs bytes →
    AreMerged mine theirs both → HasTwoTexts both → ⊥
alike_merge mine theirs both bytes own brought merged two =
    two.differ
    (text two.one ((merged.items two.one).0 two.inside).from
    ∙ sym (text two.other ((merged.items two.other).0 two.inside_too).from))
  where
    text : (version : Version) → IsOfEither mine theirs version → version.bytes ≡ bytes
    text version (inl inside) = own version inside
    text version (inr inside) = brought version inside

-- where all versions of its list have these bytes, so has each that is shown
shown_bytes : {H : List Event} {U : ℕ → Type 0} {file : Id} (versions : List Version) (bytes : List ℕ) {position : ℕ} →
    AreVersionsOf H U file versions → HaveBytes versions bytes → IsShown H U file position → HasBytes H position bytes
shown_bytes {H} versions bytes {position = position} are have shown =
    let listed = are.shown.all position shown in
    let found = from_items versions listed.item listed.inside in
    subst (HasBytes H position)
    (sym (ap (λ item. item.bytes) found.is) ∙ have found.version found.inside) listed.is.bytes

-- Where an answer is taken, all versions of the two lists have the same bytes.
module _ (H : List Event) (replica served piece server : ℕ) (file : Id) (bytes : List ℕ) (mine theirs : List Version)
    (by_server : IsOf H served server) (own : AreVersionsOf H (Knows H replica) file mine)
    (brought : AreVersionsOf (through served H) (Knows (through served H) server) file theirs)
    (have : HaveBytes mine bytes) (have_too : HaveBytes theirs bytes) where
  abbrev taken : List Event
  taken = H ++ Accept replica served piece ∷ []

  later : {position : ℕ} → position < length H → HasBytes H position bytes → HasBytes taken position bytes
  later within has = agree_bytes (agree_more H (Accept replica served piece ∷ [])) within has

  has_bytes : {position : ℕ} →
      IsShownInEither H (Knows H replica) (through served H) (Knows (through served H) server) file position →
      HasBytes taken position bytes
  has_bytes (inl shown) = later (knows_within shown.known) (shown_bytes mine bytes own have shown)
  has_bytes (inr shown) =
      let before = knows_before H served shown.known in
      let has = agree_bytes (agree_before (served + 1) H) before (shown_bytes theirs bytes brought have_too shown) in
      later (update_within has.update) has

  text : (other : List ℕ) → ShowsBytes taken (Knows taken replica) file other → other ≡ bytes
  text other shows =
      bytes_once shows.has (has_bytes (accept_shown H replica served piece server by_server shows.shown).shown)

  -- then the file isn't in conflict
  pub alike_taken : IsInConflict taken (Knows taken replica) file → ⊥
  alike_taken conflict =
      conflict.differ (text conflict.one conflict.shows_one ∙ sym (text conflict.other conflict.shows_other))

-- versions that are shown where the same ones are known are one list, also in a longer history
pub one_list_of_same : {H K : List Event} {replica other : ℕ} {file : Id} (versions others : List Version) →
    AgreeBelow (length H) H K →
    ((position : ℕ) → IsVersion K file position → Knows H replica position ↔ Knows K other position) →
    AreVersionsOf H (Knows H replica) file versions → AreVersionsOf K (Knows K other) file others → versions ≡ others
one_list_of_same versions others agree same are are_too =
    one_list versions others
    (record {
      shown = are_shown_same
          (λ position version. (same position version).0)
          (λ position version. (same position version).1)
          (agree_are_shown agree (λ position known. knows_within known) are.shown);
      ordered = are.ordered;
    })
    are_too
