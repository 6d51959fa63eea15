-- What the resolver makes of a file is one thing, and the same over views that show the same.
use Rattle.std.proofs.Common.{◌≡◌, ℕ, List, map, Option, Some, None, Result, Ok, Err, sym, ap, subst, ◌∙◌}
use Rattle.std.proofs.lemmas.Option.{same_Some}
use Rattle.ficus_ids.specs.declared.id.Id.{Id}
use Rattle.ficus_ids.specs.declared.kind.Kind.{Kind}
use Rattle.ficus_ids.specs.declared.refusal.Refusal.{Refusal}
use Rattle.ficus_file.specs.declared.version.Version.{Version}
use Rattle.ficus_resolve.specs.Resolver.{IsResolution}
use Rattle.ficus_resolve.proofs.Outcomes.{one_resolution}
use Rattle.ficus_rules.specs.Resolved.{ComesOf, ResolvedRule}
use Rattle.ficus_rules.specs.Rule.{Once, Along}
use Rattle.ficus_rules.specs.View.{View, SameShown}
use Rattle.ficus_rules.proofs.Sound.{IsSound}

-- Where two views show a file of one kind and one list of its versions, it is resolved alike.
module _ (view again : View) (file : Id)
    (one_kind : (kind other : Kind) → view.kinds file kind → again.kinds file other → kind ≡ other)
    (one_list : (versions others : List Version) → view.versions file versions → again.versions file others →
    versions ≡ others) where
  one_outcome : (outcome other : Option (List ℕ)) → ComesOf view file outcome → ComesOf again file other →
      outcome ≡ other
  one_outcome outcome other comes comes_too =
      let kind = one_kind comes.kind comes_too.kind comes.of_kind comes_too.of_kind in
      let versions = one_list comes.versions comes_too.versions comes.shown comes_too.shown in
      let texts : List Version → List (List ℕ) = map (λ version. version.bytes) in
      let resolution : IsResolution comes.kind (texts comes.versions) other =
      subst (λ versions. IsResolution comes.kind (texts versions) other) (sym versions)
      (subst (λ kind. IsResolution kind (texts comes_too.versions) other) (sym kind) comes_too.resolution) in
      one_resolution (texts comes.versions) (texts comes.versions) (λ text. (λ inside. inside, λ inside. inside))
      comes.kind outcome other comes.resolution resolution

  pub resolved_alike : (one other : Result (List ℕ) Refusal) → ResolvedRule view file one →
      ResolvedRule again file other → one ≡ other
  resolved_alike (Ok bytes) (Ok other) comes comes_too =
      ap Ok (same_Some bytes other (one_outcome (Some bytes) (Some other) comes comes_too))
  resolved_alike (Ok bytes) (Err refusal) comes (is, none) =
      let same = one_outcome (Some bytes) None comes none in cc
  resolved_alike (Err refusal) (Ok bytes) (is, none) comes =
      let same = one_outcome None (Some bytes) none comes in cc
  resolved_alike (Err refusal) (Err other) (is, none) (is_too, none_too) = ap Err (is ∙ sym is_too)

-- one thing comes of the versions, as they are one list, and the file is of one kind
pub resolved_once : {view : View} → IsSound view → (file : Id) → Once (ResolvedRule view file)
resolved_once {view} sound file = resolved_alike view view file (sound.one_kind file) (sound.one_list file)

module _ {one other : View} (same : SameShown one other) (file : Id) where
  comes_along : (outcome : Option (List ℕ)) → ComesOf one file outcome → ComesOf other file outcome
  comes_along outcome comes = record {
    kind = comes.kind;
    of_kind = (same.kinds file comes.kind).0 comes.of_kind;
    versions = comes.versions;
    shown = (same.versions file comes.versions).0 comes.shown;
    resolution = comes.resolution;
  }

  pub resolved_along : Along (ResolvedRule one file) (ResolvedRule other file)
  resolved_along (Ok bytes) comes = comes_along (Some bytes) comes
  resolved_along (Err refusal) (is, none) = (is, comes_along None none)
