use Rattle.std.proofs.Common.{ap₂, inl, inr, ◌∙◌, refl, rules, Option}
use Rattle.std.proofs.lemmas.Result.{err_from_is_err_and, on_ok_weaker}
use Rattle.ficus_keeper.specs.Kept.{Kept}
use Rattle.ficus_keeper.proofs.AsBefore.{as_before}
use Rattle.ficus_stable_storage.proofs.Decided.{holds_first}
use Rattle.ficus_stable_storage.proofs.stable.Stable.make.Goals as goal

pub returns-in_err-image : goal.returns-in_err-image
returns-in_err-image g c =
    let given = err_from_is_err_and c.from_residual.result c.from_residual.ensures.1 in
    let kept = g.K.Keep.kept in
    let none = g.met.K.Keep.none_at_first in
    rw (given.1, given.2)
    (record {
      holds = λ told. tt;
      durable = λ told. tt;
      other = refl;
      crash = λ told only_a only_b. record {
        each = λ a b left_a left_b. inl (ap₂ kept (only_a a left_a ∙ c.requires.empty_a told)
            (only_b b left_b ∙ c.requires.empty_b told) ∙ none);
      };
      between = λ told only_a only_b. record {
        each = λ a b left_a left_b.
            let now_a = g.met.D.Disk.only_now c.args.disks.now.a a left_a in
            let now_b = g.met.D.Disk.only_now c.args.disks.now.b b left_b in
            inl (ap₂ kept (only_a a now_a ∙ c.requires.empty_a told) (only_b b now_b ∙ c.requires.empty_b told) ∙ none);
      };
      armings = record { a = refl; b = refl };
      failed = search rules;
      steady = tt;
      refused = λ is. as_before g.D.Disk c.args.disks.now;
      risen = search rules;
      never = λ fused unarmed. search rules;
      unarmed = λ fused unarmed. unarmed;
      regular = λ told. tt;
    })

pub returns : goal.returns
returns g c =
    let made = c.make.ensures in
    let first = λ (found : Option Kept). holds_first found c.args.saved.now c.deref.result.now c.requires.fits
    c.requires.first (c.deref.ensures.value ∙ c.in_ok-image.ensures) in
    record {
      holds = λ told. on_ok_weaker c.make.result (first _) (made.told told).kept;
      durable = λ told. (made.told told).durable;
      other = made.other;
      crash = λ told only_a only_b. record {
        each = λ a b left_a left_b. elim (((made.told told).crash only_a only_b).each a b left_a left_b) [
          | inl none ↦ inl none
          | inr kept ↦ inr (first (g.K.Keep.kept a b) kept)
        ];
      };
      between = λ told only_a only_b. record {
        each = λ a b left_a left_b. elim (((made.told told).between only_a only_b).each a b left_a left_b) [
          | inl none ↦ inl none
          | inr kept ↦ inr (first (g.K.Keep.kept a b) kept)
        ];
      };
      armings = made.counts.armings;
      failed = made.counts.failed;
      steady = made.counts.steady;
      refused = made.refused;
      risen = made.counts.risen;
      never = λ fused unarmed. (made.by_fuse fused unarmed).never;
      unarmed = λ fused unarmed. (made.by_fuse fused unarmed).unarmed;
      regular = λ told. (made.told told).regular;
    }
