-- A list of versions that are shown has at most as many as there are members.
use Rattle.std.proofs.Common.{◌≡◌, ◌⊎◌, inl, inr, ℕ, ◌+◌, ◌-◌, ◌<◌, ◌≤◌, List, [], ◌∷◌, length, get_or, arith, refl, sym, subst, ◌∙◌}
use Rattle.std.specs.declared.cmp.Ordering.TheVariants.{Less}
use Rattle.std.specs.Prelude.{AllPairs}
use Rattle.ficus_ids.specs.Kind.{sort_of}
use Rattle.ficus_ids.specs.ListLaws.{here, there}
use Rattle.ficus_ids.specs.declared.id.Id.{Id}
use Rattle.ficus_ids.specs.declared.kind.Kind.{Kind}
use Rattle.ficus_ids.specs.declared.kind.Kind.TheVariants.{Dir, Symlink}
use Rattle.ficus_file.specs.File.{most_versions}
use Rattle.ficus_vectors.specs.Vector.{vector_cmp}
use Rattle.ficus_vectors.specs.VectorLaws.{not_before_itself}
use Rattle.ficus_file.specs.declared.version.Version.{Version}
use Rattle.ficus_model.specs.declared.event.Event.{Event}
use Rattle.ficus_model.specs.Events.{IsOf}
use Rattle.ficus_model.specs.Known.{Knows, HasInPast}
use Rattle.ficus_model.specs.Live.{IsMade}
use Rattle.ficus_model.specs.Versions.{IsVersion}
use Rattle.ficus_model.specs.Lawful.{Volume, IsLawful}
use Rattle.ficus_laws.proofs.Positions.{of_same}
use Rattle.ficus_version_laws.specs.Listed.{IsItemOf, IsShownItem}
use Rattle.ficus_version_laws.proofs.Comparing.{writer, writer_member, own_count_past}
use Rattle.ficus_version_laws.proofs.Latest.{shown_once}
use Rattle.ficus_version_laws.proofs.Links.{no_version, one_version as one_version_event}
use Rattle.ficus_version_laws.proofs.Pigeonhole.{at_most_marks}
use Rattle.ficus_file_laws.specs.Items.{item_of, AreVersionsOf}
use Rattle.ficus_file_laws.proofs.Items.{one_version, shown_item}

module _ (volume : Volume) (H : List Event) (lawful : IsLawful volume H) (U : ℕ → Type 0) (file : Id) where
  -- the member after this number has written the version, which is shown
  record IsBy (version : Version) (mark : ℕ) : Type 0 where
    at : IsShownItem H U file (item_of version)
    own : IsOf H at.position (mark + 1)

  written : (version : Version) → IsShownItem H U file (item_of version) →
      (mark : ℕ) × (mark < volume.members) × IsBy version mark
  written version at =
      let v = at.shown.version in
      let m = writer_member volume H lawful v in (
        v.number.replica - 1,
        omega (arith, m.at_least, m.at_most),
        record { at = at; own = subst (λ by. IsOf H at.position by) (omega (arith, m.at_least)) (writer v) },
      )

  -- a version is shown at one position
  one_position : (version : Version) (at again : IsShownItem H U file (item_of version)) → at.position ≡ again.position
  one_position version at again =
      let v = at.shown.version in
      go (own_count_past v again.shown.version (writer v) at.is.vector again.is.vector (omega arith))
    where
      go : (at.position ≡ again.position) ⊎ HasInPast H again.position at.position → at.position ≡ again.position
      go (inl same) = same
      go (inr past) = absurd (at.shown.latest again.position again.shown.version again.shown.known past)

  one_writer : (version : Version) (mark again : ℕ) → IsBy version mark → IsBy version again → mark ≡ again
  one_writer version mark again a b =
      let own = subst (λ position. IsOf H position (again + 1)) (sym (one_position version a.at b.at)) b.own in
      let e = of_same a.own own in omega arith

  one_of_each : (version other : Version) (mark : ℕ) → IsBy version mark → IsBy other mark → version ≡ other
  one_of_each version other mark a b =
      let e = shown_once a.at.shown b.at.shown a.own b.own in
      one_version version other a.at.is (subst (λ position. IsItemOf H file position (item_of other)) (sym e) b.at.is)

  pub few_versions : (versions : List Version) → AreVersionsOf H U file versions → length versions ≤ volume.members
  few_versions versions are =
      at_most_marks IsBy one_writer volume.members versions
      (λ version inside. written version (shown_item versions version are inside)) apart
    where
      apart : AllPairs (λ (version other : Version). (mark : ℕ) → IsBy version mark → IsBy other mark → ⊥) versions
      apart i j d before within mark a b =
          let one = get_or versions i d in
          let same = one_of_each one (get_or versions j d) mark a b in
          not_before_itself one.vector
          (subst (λ (version : Version). vector_cmp one.vector version.vector ≡ Less) (sym same)
          (are.ordered i j d before within))

  -- where all versions are one update, there is one at most
  at_most_one : {only : ℕ} (versions : List Version) → AreVersionsOf H U file versions →
      ((position : ℕ) → IsVersion H file position → position ≡ only) → length versions ≤ 1
  at_most_one [] are one = omega arith
  at_most_one (version ∷ []) are one = omega arith
  at_most_one (version ∷ other ∷ more) are one =
      let a = shown_item (version ∷ other ∷ more) version are (here version (other ∷ more)) in
      let b = shown_item (version ∷ other ∷ more) other are (there version other (other ∷ more) (here other more)) in
      let e = one a.position a.shown.version ∙ sym (one b.position b.shown.version) in
      let same = one_version version other a.is (subst (λ p. IsItemOf H file p (item_of other)) (sym e) b.is) in
      absurd (not_before_itself version.vector
      (subst (λ (v : Version). vector_cmp version.vector v.vector ≡ Less) (sym same)
      (are.ordered 0 1 version (omega arith) (omega arith))))

  at_most_none : (versions : List Version) → AreVersionsOf H U file versions →
      ((position : ℕ) → IsVersion H file position → ⊥) → length versions ≤ 0
  at_most_none [] are none = omega arith
  at_most_none (version ∷ more) are none =
      let a = shown_item (version ∷ more) version are (here version more) in
      absurd (none a.position a.shown.version)

  -- an object of a kind has no more than one of its sort
  pub few_of_kind : {replica : ℕ} (kind : Kind) → IsMade H (Knows H replica) file kind → volume.members ≤ 8 →
      (versions : List Version) → AreVersionsOf H U file versions → length versions ≤ most_versions (sort_of kind)
  few_of_kind Dir made fits versions are = at_most_none versions are
      (λ position version. no_version volume H lawful (λ changes. cc) made refl version)
  few_of_kind Symlink made fits versions are = at_most_one versions are
      (λ position version. one_version_event volume H lawful (λ changes. cc) made version)
  few_of_kind kind made fits versions are = omega (arith, few_versions versions are)
