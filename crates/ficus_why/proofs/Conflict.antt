-- Which shown versions clash, whatever happened before the run.
use Rattle.std.proofs.Common.{◌≡◌, ◌≢◌, ◌⊎◌, inl, inr, ℕ, ◌+◌, ◌-◌, List, [], length, Some, refl, sym, ap, subst, ◌∙◌, arith}
use Rattle.std.specs.Option.{unwrap_or}
use Rattle.std.proofs.lemmas.Option.{same_Some}
use Rattle.ficus_ids.specs.declared.id.Id.{Id}
use Rattle.ficus_model.specs.declared.event.Event.{Event}
use Rattle.ficus_model.specs.declared.event.Event.TheVariants.{Update}
use Rattle.ficus_model.specs.declared.event.Op.{Op}
use Rattle.ficus_model.specs.declared.event.Op.TheVariants.{Make, Write, Settle, Resolve}
use Rattle.ficus_model.specs.Events.{IsAt, IsUpdate, before}
use Rattle.ficus_model.specs.Known.{Knows, HasInPast}
use Rattle.ficus_model.specs.Lawful.{Volume, IsLawful, IsAllowed}
use Rattle.ficus_model.specs.Live.{IsFile}
use Rattle.ficus_model.specs.Versions.{IsVersion, IsShown, HasBytes, IsInConflict, bytes_of, given_by, given_in, version_of}
use Rattle.ficus_laws.proofs.Past.{past_earlier, update_numbered}
use Rattle.ficus_laws.proofs.Positions.{agree_before, at_from_before, at_same, of_at}
use Rattle.ficus_laws.proofs.Updates.{agree_update, update_once}
use Rattle.ficus_version_laws.proofs.Objects.{made_file_is}
use Rattle.ficus_why.specs.declared.clash.Clash.{Clash}
use Rattle.ficus_why.specs.Clash.{Gives, IsClash}
use Rattle.ficus_why.specs.Continued.{ShowsDiffering, continued}
use Rattle.ficus_why.specs.Rewrites.{IsRewrite, IsShownRewrite, rewritten_by}
use Rattle.ficus_why.proofs.Continued.{at_raised, knows_lowered, knows_raised, past_lowered, past_raised, update_lowered}
use Rattle.ficus_why.proofs.Rewriting.{update_of}

-- a rewrite is a version, and gives bytes
rewrite_versions : (op : Op) (number file : Id) → rewritten_by op ≡ Some file → version_of number op ≡ Some file
rewrite_versions (Write other bytes) number file is = is
rewrite_versions (Settle other bytes) number file is = is
rewrite_versions (Resolve other bytes) number file is = is
rewrite_versions op number file is = absurd (cc)

rewrite_gives : (op : Op) (file : Id) → rewritten_by op ≡ Some file → given_by op ≡ Some (bytes_of op)
rewrite_gives (Write other bytes) file is = refl
rewrite_gives (Settle other bytes) file is = refl
rewrite_gives (Resolve other bytes) file is = refl
rewrite_gives op file is = absurd (cc)

-- a version is a rewrite, or it is the making of its file
version_cases : (op : Op) (number file : Id) → version_of number op ≡ Some file
    → (rewritten_by op ≡ Some file) ⊎ (number ≡ file)
version_cases (Make dir name kind text) number file is = inr (made_file_is number file kind is).0
version_cases (Write other bytes) number file is = inl is
version_cases (Settle other bytes) number file is = inl is
version_cases (Resolve other bytes) number file is = inl is
version_cases op number file is = absurd (cc)

-- who may rewrite a file knows it
rewrite_knows : (H : List Event) (U : ℕ → Type 0) (op : Op) (file : Id) → rewritten_by op ≡ Some file
    → IsAllowed H U op → IsFile H U file
rewrite_knows H U (Write other bytes) file is allowed = subst (IsFile H U) (same_Some other file is) allowed.in_reach.is_file
rewrite_knows H U (Settle other bytes) file is allowed = subst (IsFile H U) (same_Some other file is) allowed.in_reach.is_file
rewrite_knows H U (Resolve other bytes) file is allowed = subst (IsFile H U) (same_Some other file is) allowed.in_reach.is_file
rewrite_knows H U op file is allowed = absurd (cc)

-- in a lawful history a rewrite has in its past the update with the file's own number
module _ (volume : Volume) (K : List Event) (lawful : IsLawful volume K) where
  pub made_before : {position made by : ℕ} {op done : Op} {file : Id} → IsAt K position (Update by op)
      → rewritten_by op ≡ Some file → IsUpdate K made file done → HasInPast K position made
  made_before {position} {made} {by} {op} {done} {file} at rewrites update =
      let may = lawful.each position (Update by op) at in
      let known = rewrite_knows (before position K) (Knows (before position K) by) op file rewrites may.allowed in
      let m = known.made in
      let below = at_from_before position m.update.at in
      let same = update_once update (agree_update (agree_before position K) below.0 m.update) in
      record {
        replica = by;
        own = of_at at;
        known = subst (λ p. Knows (before position K) by p) (sym same.0) m.known;
      }

module _ (volume : Volume) (earlier H : List Event) (lawful : IsLawful volume (continued earlier H)) where
  abbrev n : ℕ
  n = length earlier

  abbrev K : List Event
  K = continued earlier H

  -- where a rewrite of the run stands in the whole history
  rewrite_at : {file : Id} {position : ℕ} (is : IsRewrite H file position)
      → IsAt K (n + position) (Update (update_of is).by (update_of is).op)
  rewrite_at is = at_raised earlier H (update_of is).at

  rewrite_version : {file : Id} {position : ℕ} → IsRewrite H file position → IsVersion K file (n + position)
  rewrite_version {file} {position} is =
      let numbered = update_numbered (rewrite_at is) in
      record {
        number = _;
        op = (update_of is).op;
        update = numbered;
        versions = rewrite_versions (update_of is).op _ file (update_of is).rewrites;
      }

  -- what stands in the run of a version of the whole history
  version_lowered : {file : Id} {position : ℕ} (version : IsVersion K file (n + position))
      → IsRewrite H file position ⊎ IsUpdate K (n + position) file version.op
  version_lowered {file} {position} version =
      elim (version_cases version.op version.number file version.versions) [
        | inl rewrites ↦ inl (record {
          event = Update version.number.replica version.op;
          at = update_lowered earlier H version.update.at;
          rewrites = rewrites;
        })
        | inr own ↦ inr (subst (λ id. IsUpdate K (n + position) id version.op) own version.update)
      ]

  module _ {replica : ℕ} {file : Id} where
    -- no known version has a shown rewrite of the run in its past
    none_later : {position : ℕ} → IsShownRewrite H (Knows H replica) file position → (later : ℕ)
        → IsVersion K file (n + later) → Knows K replica (n + later) → HasInPast K (n + later) (n + position) → ⊥
    none_later {position} shown later version known past = elim (version_lowered version) [
      | inl rewrite ↦ shown.latest later rewrite (knows_lowered earlier H known) (past_lowered earlier H past)
      | inr made ↦
          let first = made_before volume K lawful (rewrite_at shown.rewrite) (update_of shown.rewrite).rewrites made in
          omega (arith, past_earlier past, past_earlier first)
    ]

    shown_raised : {position : ℕ} → IsShownRewrite H (Knows H replica) file position
        → IsShown K (Knows K replica) file (n + position)
    shown_raised {position} shown = record {
      version = rewrite_version shown.rewrite;
      known = knows_raised earlier H shown.known;
      latest = λ other version known past.
          let above = past_earlier past in
          let place : other ≡ n + (other - n) = omega arith in
          none_later shown (other - n) (subst (λ p. IsVersion K file p) place version)
          (subst (λ p. Knows K replica p) place known)
          (subst (λ p. HasInPast K p (n + position)) place past);
    }

    -- of two shown versions neither is the making of the file
    rewrite_lowered : {position other : ℕ} → position ≢ other → IsShown K (Knows K replica) file (n + position)
        → IsShown K (Knows K replica) file (n + other) → IsRewrite H file position
    rewrite_lowered {position} {other} differ shown too = elim (version_lowered shown.version) [
      | inl rewrite ↦ rewrite
      | inr made ↦ elim (version_lowered too.version) [
        | inl rewrite ↦
            absurd (shown.latest (n + other) too.version too.known
            (made_before volume K lawful (rewrite_at rewrite) (update_of rewrite).rewrites made))
        | inr again ↦ let same = (update_once made again).0 in absurd (differ (omega (arith, same)))
      ]
    ]

    shown_lowered : {position : ℕ} → IsRewrite H file position → IsShown K (Knows K replica) file (n + position)
        → IsShownRewrite H (Knows H replica) file position
    shown_lowered rewrite shown = record {
      rewrite = rewrite;
      known = knows_lowered earlier H shown.known;
      latest = λ other is known past.
          shown.latest (n + other) (rewrite_version is) (knows_raised earlier H known) (past_raised earlier H past);
    }

  -- its bytes
  has_given : {file : Id} {position : ℕ} {bytes : List ℕ} → IsRewrite H file position → Gives H position bytes
      → HasBytes K (n + position) bytes
  has_given {bytes = bytes} is gives = record {
    number = _;
    op = (update_of is).op;
    update = update_numbered (rewrite_at is);
    are = ap (λ given. unwrap_or given []) (ap given_in (at_same (update_of is).at gives.at) ∙ gives.gives);
  }

  gives_had : {file : Id} {position : ℕ} {bytes : List ℕ} → IsRewrite H file position
      → HasBytes K (n + position) bytes → Gives H position bytes
  gives_had {file} is has =
      let same : Update (update_of is).by (update_of is).op ≡ Update has.number.replica has.op =
      at_same (rewrite_at is) has.update.at in
      let ops : (update_of is).op ≡ has.op = cc in
      record {
        event = Update (update_of is).by (update_of is).op;
        at = (update_of is).at;
        gives = rewrite_gives (update_of is).op file (update_of is).rewrites
            ∙ ap (λ op. Some (bytes_of op)) ops ∙ ap Some has.are;
      }

  pub clash_shows : (clash : Clash) → IsClash H clash → ShowsDiffering K n clash
  clash_shows clash is = record {
    order = is.order;
    one = is.one;
    other = is.other;
    first_shown = shown_raised is.first_shown;
    second_shown = shown_raised is.second_shown;
    first_has = has_given is.first_shown.rewrite is.first_gives;
    second_has = has_given is.second_shown.rewrite is.second_gives;
    differ = is.differ;
  }

  pub shown_clash : (clash : Clash) → ShowsDiffering K n clash → IsClash H clash
  shown_clash clash are =
      let first_rewrite = rewrite_lowered (λ same. omega (arith, same, are.order)) are.first_shown are.second_shown in
      let second_rewrite = rewrite_lowered (λ same. omega (arith, same, are.order)) are.second_shown are.first_shown in
      let first = shown_lowered first_rewrite are.first_shown in
      let second = shown_lowered second_rewrite are.second_shown in
      record {
        order = are.order;
        one = are.one;
        other = are.other;
        first_gives = gives_had first_rewrite are.first_has;
        second_gives = gives_had second_rewrite are.second_has;
        differ = are.differ;
        first_shown = first;
        second_shown = second;
        first_apart = λ past. second.latest clash.first first_rewrite first.known past;
        second_apart = λ past. first.latest clash.second second_rewrite second.known past;
      }

-- two shown versions that differ in bytes are a conflict
pub in_conflict : (K : List Event) (n : ℕ) (clash : Clash) → ShowsDiffering K n clash
    → IsInConflict K (Knows K clash.replica) clash.file
in_conflict K n clash are = record {
  one = are.one;
  other = are.other;
  shows_one = record { position = n + clash.first; shown = are.first_shown; has = are.first_has };
  shows_other = record { position = n + clash.second; shown = are.second_shown; has = are.second_has };
  differ = are.differ;
}
