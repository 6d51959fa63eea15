-- What a replica may still write.
use Rattle.std.specs.Prelude.{ℕ, ◌<◌, Result}
use Rattle.ficus_ids.specs.declared.refusal.Refusal.{Refusal}
use Rattle.ficus_ids.specs.declared.refusal.Refusal.TheVariants.{TooLong, Spent, Quota}
use Rattle.ficus_model.specs.Lawful.{most_file_bytes}
use Rattle.ficus_rules.specs.Rule.{Unless}
use Rattle.ficus_rules.specs.View.{View}

-- `toolong`, which is above so many bytes; `spent`; `quota`; else by the rest
abbrev pub LimitsUpTo : {B : Type 0} → ℕ → View → ℕ → (Result B Refusal → Type 0) → Result B Refusal → Type 0
LimitsUpTo most view bytes rest =
    Unless (most < bytes) TooLong (
    Unless view.spent Spent (
    Unless (view.over_quota bytes) Quota rest))

-- those of a file
abbrev pub LimitsRule : {B : Type 0} → View → ℕ → (Result B Refusal → Type 0) → Result B Refusal → Type 0
LimitsRule view bytes rest = LimitsUpTo most_file_bytes view bytes rest
