-- Disks whose fuses are unarmed, and which no command stops, don't fail.
use Rattle.std.proofs.Common.{◌≡◌, ℕ, ◌+◌, ◌==◌, Bool, true, false, cond, List, [], ◌∷◌, refl, sym, ap, ◌∙◌, inl, inr, eq-eqb, arith}
use Rattle.std.specs.Prelude.{All, count_by}
use Rattle.std.proofs.lemmas.Bool.{cases_eq}
use Rattle.std.proofs.lemmas.List.Elements.{All-contains}
use Rattle.std.proofs.lemmas.List.Sums.{sum_by-cons}
use Rattle.ficus_disk.specs.declared.fuse.Fuse.{Fuse}
use Rattle.ficus_disk.specs.declared.fuse.Fuse.TheVariants.{Unarmed}
use Rattle.ficus_generator.specs.Lines.{StopsNothing}
use Rattle.ficus_keeper.specs.Fuses.{Fuses, after_save, both_unarmed, lasts, on_side}
use Rattle.ficus_model.specs.Lawful.{Volume}
use Rattle.ficus_runs.specs.Fuses.{FuseState, FusesAllow, FusesAllowAll, Keeping, after_outcome, with_fuses}
use Rattle.ficus_runs.specs.ModelWorld.{ModelWorld}
use Rattle.ficus_runs.specs.Outcome.{Outcome, IsDone, LinkFails, IsSaved, SaveFails, IsOpened, IsFound, OpeningFails, IsArmed, armings_in, is_arming, is_store_failure, store_failures}
use Rattle.ficus_runs.specs.Run.{Run}
use Rattle.ficus_runs.proofs.Arming.{run_arms}
use Rattle.ficus_runs.specs.Outcomes.{all_outcomes}
use Rattle.ficus_script.specs.declared.answer.Answer.{Answer}
use Rattle.ficus_script.specs.declared.command.Command.{Command}
use Rattle.ficus_script.specs.declared.command.Command.TheVariants.{Stop}

-- no fuse is armed, and nothing is pending
abbrev pub IsUnarmed : FuseState → Type 0
IsUnarmed state = (state.fuses ≡ both_unarmed) × (state.will_find ≡ false)

abbrev pub AllUnarmed : (ℕ → FuseState) → Type 0
AllUnarmed F = (r : ℕ) → IsUnarmed (F r)

side_unarmed : (side : Bool) → on_side side both_unarmed ≡ Unarmed
side_unarmed true = refl
side_unarmed false = refl

save_unarmed : (side : Bool) (calls : ℕ) → after_save side calls both_unarmed ≡ both_unarmed
save_unarmed true calls = refl
save_unarmed false calls = refl

-- with one in the place of a member's, none is armed
set_unarmed : (F : ℕ → FuseState) (by : ℕ) (state : FuseState) → AllUnarmed F → IsUnarmed state
    → AllUnarmed (with_fuses F by state)
set_unarmed F by state unarmed is = λ r. go r (by == r) refl
  where
    go : (r : ℕ) (same : Bool) → by == r ≡ same → IsUnarmed (with_fuses F by state r)
    go r true same = rw same is
    go r false same = rw same (unarmed r)

counted : (test : Outcome → Bool) (outcome : Outcome) (outcomes : List Outcome)
    → count_by test (outcome ∷ outcomes) ≡ cond (test outcome) 1 0 + count_by test outcomes
counted test outcome outcomes = sum_by-cons (λ one. cond (test one) 1 0) outcome outcomes

module _ (keeping : Keeping) where
  -- the next outcome is no failure, and leaves the fuses unarmed
  one_allowed : (F : ℕ → FuseState) (outcome : Outcome) → AllUnarmed F → FusesAllow keeping F outcome
      → ((r : ℕ) → is_arming r outcome ≡ false)
      → ((r : ℕ) → is_store_failure r outcome ≡ false) × AllUnarmed (after_outcome keeping F outcome)
  one_allowed F IsDone unarmed allowed none = (λ r. refl, unarmed)
  one_allowed F LinkFails unarmed allowed none = (λ r. refl, unarmed)
  one_allowed F (IsSaved by) unarmed allowed none = (
    λ r. refl,
    set_unarmed F by _ unarmed (
      ap (λ (fuses : Fuses). after_save (keeping.is_on_a ((F by).generation + 1))
          (keeping.calls ((F by).generation + 1))
          fuses) (unarmed by).0
          ∙ save_unarmed (keeping.is_on_a ((F by).generation + 1)) (keeping.calls ((F by).generation + 1)),
      (unarmed by).1,
    ),
  )
  one_allowed F (SaveFails by) unarmed allowed none =
      let side = keeping.is_on_a ((F by).generation + 1) in
      let fuse : on_side side (F by).fuses ≡ Unarmed =
      ap (λ (fuses : Fuses). on_side side fuses) (unarmed by).0 ∙ side_unarmed side in
      let passes : lasts (keeping.calls ((F by).generation + 1)) (on_side side (F by).fuses) ≡ true =
      ap (λ (f : Fuse). lasts (keeping.calls ((F by).generation + 1)) f) fuse in
      absurd (cc (sym passes ∙ allowed))
  one_allowed F (IsOpened by) unarmed allowed none =
      (λ r. refl, set_unarmed F by _ unarmed (refl, refl))
  one_allowed F (IsFound by) unarmed allowed none = absurd (cc (sym (unarmed by).1 ∙ allowed))
  one_allowed F (OpeningFails by) unarmed allowed none = absurd allowed
  one_allowed F (IsArmed by calls pick) unarmed allowed none =
      absurd (cc (sym (eq-eqb by by refl) ∙ none by))

  -- where none is armed, none fails
  pub none_fails : (outcomes : List Outcome) (F : ℕ → FuseState) → AllUnarmed F → FusesAllowAll keeping F outcomes
      → ((r : ℕ) → armings_in r outcomes ≡ 0) → (r : ℕ) → store_failures r outcomes ≡ 0
  none_fails [] F unarmed allowed none r = refl
  none_fails (outcome ∷ outcomes) F unarmed allowed none r =
      let here = one_allowed F outcome unarmed allowed.0
      (λ q. no_first (is_arming q outcome) (armings_in q outcomes)
      (sym (counted (is_arming q) outcome outcomes) ∙ none q)) in
      let rest = none_fails outcomes (after_outcome keeping F outcome) here.1 allowed.1
      (λ q. no_rest (is_arming q outcome) (armings_in q outcomes)
      (sym (counted (is_arming q) outcome outcomes) ∙ none q)) r in
      counted (is_store_failure r) outcome outcomes
      ∙ ap (λ (failed : Bool). cond failed 1 0 + store_failures r outcomes) (here.0 r)
      ∙ omega (arith, rest)
    where
      no_first : (armed : Bool) (more : ℕ) → cond armed 1 0 + more ≡ 0 → armed ≡ false
      no_first true more none = absurd (omega (arith, none))
      no_first false more none = refl

      no_rest : (armed : Bool) (more : ℕ) → cond armed 1 0 + more ≡ 0 → more ≡ 0
      no_rest true more none = absurd (omega (arith, none))
      no_rest false more none = omega (arith, none)

-- commands that stop nothing arm nothing
pub none_armed : {volume : Volume} {old new : ModelWorld} {commands : List Command} {outcomes : List (List Outcome)}
    {answers : List Answer} → Run volume old commands outcomes answers new → All StopsNothing commands → (r : ℕ)
    → armings_in r (all_outcomes outcomes) ≡ 0
none_armed {commands = commands} {outcomes = outcomes} run stopless r =
    elim (cases_eq (armings_in r (all_outcomes outcomes)) 0) [
      | inl none ↦ none
      | inr some ↦
          let stop = run_arms r run some in
          absurd (All-contains StopsNothing commands (Stop r stop.0 stop.1) stopless stop.2 r stop.0 stop.1 refl)
    ]
