-- Replicas that know the same updates answer looks alike that tell of the view.
use Rattle.std.proofs.Common.{◌≡◌, ℕ, List, Result, refl, inl, inr}
use Rattle.ficus_ids.specs.declared.id.Id.{Id}
use Rattle.ficus_ids.specs.declared.refusal.Refusal.{Refusal}
use Rattle.ficus_model.specs.declared.event.Event.{Event}
use Rattle.ficus_model.specs.Lawful.{Volume}
use Rattle.ficus_model.specs.Known.{Knows}
use Rattle.ficus_model.specs.View.{IsVisible}
use Rattle.ficus_laws.specs.Laws.{KnowSameUpdates, ShowSame}
use Rattle.ficus_laws.proofs.Shown.{shows_same, same_from_known}
use Rattle.ficus_laws.proofs.Views.{same_turned, equal_known, conflict_within, orphan_within}
use Rattle.ficus_version_laws.proofs.Latest.{VersionsWithin, are_shown_same}
use Rattle.ficus_commands.specs.declared.look.Look.{Look}
use Rattle.ficus_rules.specs.Alike.{AreAlike}
use Rattle.ficus_rules.specs.Look.{LookRule, TellsOfView}
use Rattle.ficus_rules.specs.View.{SameShown, SameView, View, history_view}
use Rattle.ficus_rules.specs.Rule.{Along}
use Rattle.ficus_rules.proofs.Looks.{look_along, shown_along}
use Rattle.ficus_rules.proofs.Alikes.{alike_along, same_shown_alike}
use Rattle.ficus_rules.proofs.Rules.{then_along, gives_along, tells_along}
use Rattle.ficus_script.specs.declared.answer.Answer.{Answer}
use Rattle.ficus_script.specs.declared.answer.Answer.TheVariants.{Alike, Told}
use Rattle.ficus_runs.specs.Answers.{AlikeAnswer, LookAnswer}
use Rattle.ficus_runs.proofs.Rules.{look_answer_once}

-- what rules tell alike is answered alike
told_along : (one other : View) (look : Look) → Along (LookRule one look) (LookRule other look)
    → Along (LookAnswer one look) (LookAnswer other look)
told_along one other look along = then_along along (λ told tells. gives_along (Told told))

-- what is the same is answered the same
pub look_answer_along : {one other : View} → SameView one other → (look : Look)
    → Along (LookAnswer one look) (LookAnswer other look)
look_answer_along {one} {other} same look = told_along one other look (look_along same look)

-- views that are the same as two others are alike where those are
pub alike_answer_along : {one other same same_too : View} → SameView one same → SameView other same_too
    → Along (AlikeAnswer one other) (AlikeAnswer same same_too)
alike_answer_along here there =
    let either = alike_along here.shown there.shown in
    tells_along Alike (λ flag means. (λ is. either.0 (means.0 is), λ alike. means.1 (either.1 alike)))

-- and what is shown the same, by a look that tells of it
shown_answer_along : {one other : View} → SameShown one other → (look : Look) → TellsOfView look
    → Along (LookAnswer one look) (LookAnswer other look)
shown_answer_along {one} {other} same look tells = told_along one other look (shown_along same look tells)

module _ (volume : Volume) (H : List Event) (replica other : ℕ) (same : KnowSameUpdates H replica other) where
  abbrev mine : ℕ → Type 0
  mine = Knows H replica

  abbrev theirs : ℕ → Type 0
  theirs = Knows H other

  shows : ShowSame H mine H theirs
  shows = shows_same (same_from_known same)

  visible_there : {object : Id} → IsVisible H mine object → IsVisible H theirs object
  visible_there (inl named) =
      inl (record { entry = named.entry; live = (shows.live named.entry).0 named.live; leads = named.leads })
  visible_there (inr orphan) = inr (orphan_within (equal_known same) orphan)

  visible_back : {object : Id} → IsVisible H theirs object → IsVisible H mine object
  visible_back (inl named) =
      inl (record { entry = named.entry; live = (shows.live named.entry).1 named.live; leads = named.leads })
  visible_back (inr orphan) = inr (orphan_within (same_turned (equal_known same)) orphan)

  versions_there : (file : Id) → VersionsWithin H file mine theirs
  versions_there file position version k = (same position version.number version.op version.update).0 k

  versions_back : (file : Id) → VersionsWithin H file theirs mine
  versions_back file position version k = (same position version.number version.op version.update).1 k

  -- where the same updates are known, the same is shown
  same_shown : SameShown (history_view volume H replica) (history_view volume H other)
  same_shown = record {
    members = refl;
    live = shows.live;
    orphans = λ object. (orphan_within (equal_known same), orphan_within (same_turned (equal_known same)));
    kinds = λ object kind. (
      λ is. (visible_there is.0, (shows.made object kind).0 is.1),
      λ is. (visible_back is.0, (shows.made object kind).1 is.1),
    );
    conflicts = λ object. (
      λ is. (visible_there is.0, conflict_within (equal_known same) is.1),
      λ is. (visible_back is.0, conflict_within (same_turned (equal_known same)) is.1),
    );
    versions = λ object versions. (
      λ is. (
        visible_there is.0,
        record {
          shown = are_shown_same (versions_there object) (versions_back object) is.1.shown;
          ordered = is.1.ordered;
        },
      ),
      λ is. (
        visible_back is.0,
        record {
          shown = are_shown_same (versions_back object) (versions_there object) is.1.shown;
          ordered = is.1.ordered;
        },
      ),
    );
  }

  -- so both are alike
  pub same_updates_alike : AreAlike (history_view volume H replica) (history_view volume H other)
  same_updates_alike = same_shown_alike same_shown

module _ (volume : Volume) (H : List Event) (replica other : ℕ) (look : Look) where
  pub same_updates_answer : KnowSameUpdates H replica other → TellsOfView look
      → (answer again : Result Answer Refusal) → LookAnswer (history_view volume H replica) look answer
      → LookAnswer (history_view volume H other) look again → answer ≡ again
  same_updates_answer same tells answer again is is_too =
      look_answer_once volume H other look answer again
      (shown_answer_along (same_shown volume H replica other same) look tells answer is) is_too
